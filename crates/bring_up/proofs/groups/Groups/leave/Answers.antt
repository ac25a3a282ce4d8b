use Rattle.std.proofs.Common.{◌≡◌, ℕ, List, sym, ap, subst, ◌∙◌}
use Rattle.std.specs.Prelude.{slice_get, Some}
use Rattle.std.proofs.lemmas.Bool.{false≢true}
use Rattle.std.specs.List.{remove}
use Rattle.rx_filter.specs.GroupLists.{Removes}
use Rattle.adapter.specs.Calls.{at}
use Rattle.bring_up.specs.Groups.{AreJoined, ChangesJoined, with_groups}
use Rattle.bring_up.proofs.Numbers.{leaves-one}
use Rattle.bring_up.proofs.JoinedLists.{joined-fewer, removed-at, removed-had}
use Rattle.bring_up.proofs.Words.{changes-shared, changes-written}
use Rattle.bring_up.proofs.groups.Groups.leave.Goals.{then-not-has_number, else-not-has_number}
use Rattle.bring_up.proofs.groups.Groups.leave.Goals as goal

pub returns-clause-list : goal.returns-clause-list
returns-clause-list g c =
    let some : slice_get c.args.self.now c.in-Some.place ≡ Some c.args.group = c.in-Some.ensures.some in
    let removes = removed-at c.args.self.now c.in-Some.place c.args.group some in
    subst (λ (l : List (List ℕ)). Removes c.args.group c.args.self.now l)
    (sym (c.remove.ensures.items ∙ ap (λ (l : List (List ℕ)). remove l c.in-Some.place) c.self.view_is)) removes

pub invariant_of-self-2 : goal.invariant_of-self-2
invariant_of-self-2 g c =
    joined-fewer c.args.self.now c.remove.new.self.items c.args.group
    (subst (λ (l : List (List ℕ)). AreJoined l) c.self.view_is c.self.invariant) (returns-clause-list g c)

pub invariant_of-self : goal.invariant_of-self
invariant_of-self g c =
    let some : slice_get c.args.self.now c.in-Some.place ≡ Some c.args.group = c.in-Some.ensures.some in
    let removes = removed-at c.args.self.now c.in-Some.place c.args.group some in
    subst (λ (l : List (List ℕ)). AreJoined l)
    (sym (c.remove.ensures.items ∙ ap (λ (l : List (List ℕ)). remove l c.in-Some.place) c.self.view_is))
    (joined-fewer c.args.self.now (remove c.args.self.now c.in-Some.place) c.args.group
    (subst (λ (l : List (List ℕ)). AreJoined l) c.self.view_is c.self.invariant) removes)

pub returns-clause-not_joined : goal.returns-clause-not_joined
returns-clause-not_joined g c = (
  (λ never. absurd (cc)),
  (λ both. absurd (both.1 (removed-had c.args.self.now c.remove.new.self.items c.args.group (returns-clause-list g c)))),
)

pub returns-clause-changes : goal.returns-clause-changes
returns-clause-changes g c up d is_ready =
    let b = c.args.bus.now in
    let old = c.args.self.now in
    let new = c.remove.new.self.items in
    let one = leaves-one (returns-clause-list g c) in
    elim c.if-not-has_number.branch [
      | then-not-has_number w ↦
          subst (λ x. ChangesJoined g.B.Bus up new c.args.group (at b (with_groups old d)) (at x (with_groups new d))) (sym w.bus-is)
          (changes-written one (λ has. absurd (false≢true (sym w.if-not-has_number.true ∙ c.has_number.ensures.1 has)))
          (rw w.as_slice.ensures.value at (w.write_word.ensures.rewrites up d is_ready)))
      | else-not-has_number w ↦
          subst (λ x. ChangesJoined g.B.Bus up new c.args.group (at b (with_groups old d)) (at x (with_groups new d))) (sym w.bus-is)
          (changes-shared g.met.B.Bus.composes.stays b d one is_ready.ready (c.has_number.ensures.0 w.if-not-has_number.false))
    ]
