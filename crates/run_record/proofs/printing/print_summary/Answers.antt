use Rattle.std.proofs.Common.{◌≡◌, ◌≤◌, ◌+◌, ◌∷◌, [], List, drop, arith, length, refl, subst, ◌∙◌}
use Rattle.std.proofs.KnownBytes.{Appends-nil}
use Rattle.std.proofs.Math.ListN.{drop_of_length-le}
use Rattle.std.proofs.lemmas.Grind.{common_steps}
use Rattle.std.proofs.lemmas.Result.{err_from_is_err_and}
use Rattle.run_record.proofs.Printed.{SentUpTo-all, SentUpTo-line, SentUpTo-stops}
use Rattle.run_record.specs.Printing.{summary_text}
use Rattle.run_record.specs.declared.summary.HostSummary.{HostSummary}
use Rattle.run_record.proofs.printing.print_summary.Goals as goal

pub returns-in_err-print_host-clause-err : goal.returns-in_err-print_host-clause-err
returns-in_err-print_host-clause-err g c =
    let p = err_from_is_err_and c.from_residual.result c.from_residual.ensures.1 in
    let hosts = c.args.summary.now.hosts.items in
    let left = drop c.loop-host.host-index hosts in
    let rest = drop (c.loop-host.host-index + 1) hosts in
    let next : left ≡ c.host-item.result ∷ rest = grind (arith, common_steps) in
    rw p.1 (SentUpTo-stops (g.W.Sink.taken c.args.sink.now) (g.W.Sink.taken c.loop-host.sink) (g.W.Sink.taken c.print_host.new.sink)
    (summary_text c.args.summary.now) c.host-item.result left rest next c.loop-host.invariant.sent c.in_err-print_host.ensures.err)

pub loop-host-preserved : goal.loop-host-preserved
loop-host-preserved g c =
    let hosts = c.args.summary.now.hosts.items in
    let left = drop c.loop-host.host-index hosts in
    let rest = drop (c.loop-host.host-index + 1) hosts in
    let next : left ≡ c.host-item.result ∷ rest = grind (arith, common_steps) in
    record {
      quiet = c.in_ok-print_host.ensures.failures ∙ c.loop-host.invariant.quiet;
      sent = SentUpTo-line (g.W.Sink.taken c.args.sink.now) (g.W.Sink.taken c.loop-host.sink) (g.W.Sink.taken c.print_host.new.sink)
          (summary_text c.args.summary.now) c.host-item.result left rest next c.loop-host.invariant.sent c.in_ok-print_host.ensures.ok;
    }

pub loop-host-init : goal.loop-host-init
loop-host-init g c = record { quiet = refl; sent = ([], refl, Appends-nil (g.W.Sink.taken c.args.sink.now)) }

pub returns-clause-ok : goal.returns-clause-ok
returns-clause-ok g c =
    let hosts = c.args.summary.now.hosts.items in
    SentUpTo-all (g.W.Sink.taken c.args.sink.now) (g.W.Sink.taken c.loop-host.sink) (summary_text c.args.summary.now)
    (drop c.loop-host.host-index hosts)
    (drop_of_length-le hosts (subst (λ (list : List HostSummary). length list ≤ c.loop-host.host-index)
    c.deref-host-items.ensures.value c.loop-host-test.false)) c.loop-host.invariant.sent
