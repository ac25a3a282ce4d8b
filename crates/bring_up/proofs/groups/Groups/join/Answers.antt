use Rattle.std.proofs.Common.{rules, ◌≡◌, ◌≤◌, ◌<◌, ◌++◌, ◌∷◌, [], ℕ, List, length, sym, ap, subst, ◌∙◌, arith}
use Rattle.std.specs.Prelude.{false, ◌==◌}
use Rattle.std.proofs.lemmas.Bool.{false≢true}
use Rattle.std.proofs.lemmas.Bool.Decides.{nat_tests}
use Rattle.rx_filter.specs.Addresses.{IsGroup}
use Rattle.adapter.specs.Calls.{at}
use Rattle.bring_up.specs.Groups.{AreJoined, ChangesJoined, with_groups}
use Rattle.bring_up.proofs.Numbers.{joins-one}
use Rattle.bring_up.proofs.JoinedLists.{joined-more}
use Rattle.bring_up.proofs.Words.{changes-shared, changes-written}
use Rattle.bring_up.proofs.groups.Groups.join.Goals.{then-not-shares, else-not-shares}
use Rattle.bring_up.proofs.groups.Groups.join.Goals as goal

below-full : (n : ℕ) → n ≤ 32 → (n == 32) ≡ false → n < 32
below-full n fits full = grind (arith, nat_tests)

pub returns-clause-room : goal.returns-clause-room
returns-clause-room g c =
    let same : length c.args.self.now ≡ length c.self.inside.list.items = ap (λ (l : List (List ℕ)). length l) (sym c.self.view_is) in
    let full : (length c.self.inside.list.items == 32) ≡ false = sym c.is_full.ensures.value ∙ c.if-is_full.false in
    let less = below-full (length c.self.inside.list.items) c.is_full.ensures.fits full in
    omega (arith, same, less)

pub invariant_of-self : goal.invariant_of-self
invariant_of-self g c =
    let group = c.args.group in
    let old = c.args.self.now in
    let joined = subst (λ (l : List (List ℕ)). AreJoined l) c.self.view_is c.self.invariant in
    let list : c.push.new.self.items ≡ old ++ group ∷ [] =
    c.push.ensures.items ∙ ap (λ (l : List (List ℕ)). l ++ group ∷ []) c.self.view_is in
    let room : length old < 32 = returns-clause-room g c in
    let is : IsGroup group = search rules in
    subst (λ (l : List (List ℕ)). AreJoined l) (sym list)
    (joined-more old group joined room is (λ has. absurd (false≢true (sym c.if-contains.false ∙ c.contains.ensures.is.1 has))))

pub returns-clause-changes : goal.returns-clause-changes
returns-clause-changes g c up d is_ready =
    let b = c.args.bus.now in
    let old = c.args.self.now in
    let new = old ++ c.args.group ∷ [] in
    let one = joins-one old c.args.group in
    let list : c.push.new.self.items ≡ new = c.push.ensures.items ∙ ap (λ (l : List (List ℕ)). l ++ c.args.group ∷ []) c.self.view_is in
    subst (λ (l : List (List ℕ)). ChangesJoined g.B.Bus up old c.args.group (at b (with_groups old d))
    (at c.if-not-shares.bus (with_groups l d))) (sym list) (elim c.if-not-shares.branch [
      | then-not-shares w ↦ subst (λ x. ChangesJoined g.B.Bus up old c.args.group (at b (with_groups old d)) (at x (with_groups new d)))
          (sym w.bus-is)
          (changes-written one (λ has. absurd (false≢true (sym w.if-not-shares.true ∙ c.has_number-shares.ensures.1 has)))
          (rw (w.as_slice.ensures.value, list) at (w.write_word.ensures.rewrites up d is_ready)))
      | else-not-shares w ↦ subst (λ x. ChangesJoined g.B.Bus up old c.args.group (at b (with_groups old d)) (at x (with_groups new d)))
          (sym w.bus-is)
          (changes-shared g.met.B.Bus.composes.stays b d one is_ready.ready (c.has_number-shares.ensures.0 w.if-not-shares.false))
    ])
