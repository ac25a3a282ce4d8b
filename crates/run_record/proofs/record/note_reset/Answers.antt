use Rattle.std.proofs.Common.{List, ℕ, length, rules, slice_set, subst, sym}
use Rattle.network_plan.specs.Answers.{answer_with}
use Rattle.network_plan.specs.declared.reply.Answer.{Answer}
use Rattle.run_record.specs.Tallies.{TalliesGrow, given_up_of}
use Rattle.run_record.specs.declared.tally.Tally.{Tally}
use Rattle.run_record.proofs.Noting.{given_up_nowhere, reset_there}
use Rattle.run_record.proofs.record.note_reset.Goals as goal

abbrev Notes : (host : ℕ) (frame : List ℕ) (old new : List Tally) → Answer (Unit {0}) → Type 0
Notes host frame old new one = TalliesGrow (given_up_of host (answer_with frame one)) old new

pub returns-then-host-hosts : goal.returns-then-host-hosts
returns-then-host-hosts c = λ frame.
    let hosts = c.args.hosts.now in
    let sending = length c.in-Reset.sending.items in
    let holding = length c.in-Reset.holding.items in
    subst (Notes c.args.host frame hosts (slice_set hosts c.args.host c.given_up.result)) (sym c.in-Reset.is)
    (reset_there hosts c.args.host sending holding c.len.result c.len-then-host-hosts.result _ c.given_up.result
    c.if-host-hosts.true (search rules) (search rules) c.given_up.ensures)

pub returns-else-host-hosts : goal.returns-else-host-hosts
returns-else-host-hosts c = λ frame.
    let hosts = c.args.hosts.now in
    subst (Notes c.args.host frame hosts hosts) (sym c.in-Reset.is)
    (given_up_nowhere hosts c.args.host (length c.in-Reset.sending.items) (length c.in-Reset.holding.items) c.if-host-hosts.false)
