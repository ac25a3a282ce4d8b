use Rattle.std.proofs.Common.{subst, ◌∙◌}
use Rattle.std.specs.Prelude.{string_bytes}
use Rattle.std.proofs.KnownBytes.{Appends-trans}
use Rattle.std.proofs.lemmas.Result.{err_from_is_err_and, on_err_weaker, on_ok_weaker}
use Rattle.pcap_trace.specs.Devices.{AppendsFront}
use Rattle.pcap_trace.proofs.Sent.{AppendsFront-longer, AppendsFront-then}
use Rattle.run_record.specs.Printing.{host_fields}
use Rattle.run_record.proofs.Printed.{sent-then}
use Rattle.run_record.proofs.printing.print_host.Goals as goal

pub returns-in_err-write_all-clause-err : goal.returns-in_err-write_all-clause-err
returns-in_err-write_all-clause-err g c =
    let p = err_from_is_err_and c.from_residual.result c.from_residual.ensures.1 in
    let a = g.W.Sink.taken c.args.sink.now in
    let b = g.W.Sink.taken c.write_all.new.sink in
    rw p.1 (AppendsFront-longer a b (string_bytes c.args.host.now.name) (host_fields c.args.host.now)
    (subst (AppendsFront a b) c.as_bytes.ensures.value c.in_err-write_all.ensures.err))

pub returns-clause-ok : goal.returns-clause-ok
returns-clause-ok g c =
    on_ok_weaker c.write_all-2.result
    (sent-then Appends-trans c.in_ok-write_all.ensures.ok c.as_bytes.ensures.value (c.as_slice.ensures.value ∙ c.fields_of.ensures))
    c.write_all-2.ensures.ok

pub returns-clause-err : goal.returns-clause-err
returns-clause-err g c =
    on_err_weaker c.write_all-2.result
    (sent-then AppendsFront-then c.in_ok-write_all.ensures.ok c.as_bytes.ensures.value (c.as_slice.ensures.value ∙ c.fields_of.ensures))
    c.write_all-2.ensures.err
