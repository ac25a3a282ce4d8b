use Rattle.std.proofs.Common.{◌≡◌, ◌∙◌, ℕ, List, ap, arith, map, refl, rules, subst, sym}
use Rattle.std.specs.Vec.{with_items}
use Rattle.std.proofs.lemmas.List.{length-map, with_items_is}
use Rattle.wire.specs.DrainedNetworks.{said_of_drain}
use Rattle.run_record.specs.DrainedView.{drained_frame}
use Rattle.run_record.specs.EventLines.{place_in_run}
use Rattle.run_record.specs.RunLogs.{act_drained}
use Rattle.run_record.specs.Tallies.{TalliesGrow}
use Rattle.run_record.specs.declared.tally.Tally.{Tally}
use Rattle.run_record.proofs.NotedEvents.{drain_noted}
use Rattle.run_record.proofs.record.Record.note_drain.Goals as goal

pub returns : goal.returns
returns c =
    let frames = map drained_frame c.args.given.now in
    let happened = said_of_drain c.args.host 0 frames in
    let old = c.args.self.now in
    let hosts = c.note_drained.new.hosts in
    let hosts_before : old.hosts.items ≡ c.as_mut_slice-hosts.result.now = search rules in
    let hosts_after : (with_items old.hosts hosts).items ≡ hosts = with_items_is old.hosts hosts (search (rules, arith)) in
    drain_noted c.args.host frames old _ (search (rules, arith))
    (subst (λ (a : List Tally). TalliesGrow happened a (with_items old.hosts hosts).items) (sym hosts_before)
    (subst (λ (b : List Tally). TalliesGrow happened c.as_mut_slice-hosts.result.now b) (sym hosts_after)
    c.in_ok-note_drained.ensures.hosts))
    c.in_ok-note_drained.ensures.returned refl
    (c.in_ok-drain.ensures
    ∙ ap (λ (n : ℕ). act_drained (place_in_run old.number old.line) c.args.host n old.log)
    (sym (length-map c.args.given.now drained_frame)))
