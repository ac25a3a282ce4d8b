use Rattle.std.proofs.Common.{ℕ, List, OnErr, OnOk, ap, subst, ◌∙◌}
use Rattle.std.specs.Io.KnownBytes.{Appends}
use Rattle.pcap_trace.specs.Devices.{AppendsFront}
use Rattle.run_record.specs.EventLines.{LogState}
use Rattle.run_record.proofs.run_log.EventLog.write.Goals as goal

pub returns-clause-ok : goal.returns-clause-ok
returns-clause-ok g c =
    subst (λ (text : List ℕ). OnOk c.write_all.result (Appends (g.W.Sink.taken c.args.sink.now) (g.W.Sink.taken c.write_all.new.sink) text))
    (c.as_slice.ensures.value ∙ ap (λ (log : LogState). log.text) c.self.view_is) c.write_all.ensures.ok

pub returns-clause-err : goal.returns-clause-err
returns-clause-err g c =
    subst (λ (text : List ℕ). OnErr c.write_all.result
    (AppendsFront (g.W.Sink.taken c.args.sink.now) (g.W.Sink.taken c.write_all.new.sink) text))
    (c.as_slice.ensures.value ∙ ap (λ (log : LogState). log.text) c.self.view_is) c.write_all.ensures.err

pub returns-clause-failures : goal.returns-clause-failures
returns-clause-failures g c = c.write_all.ensures.failures
