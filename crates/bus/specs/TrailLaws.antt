-- Lemmas: if one trail begins in the world in which another ends, both together are one trail. What happened in both is then joined.
use Rattle.std.proofs.Common.{◌≡◌, ℕ, List, [], ◌∷◌, ◌++◌, refl, sym, ap, subst, ◌∙◌, append_assoc, arith}
use Rattle.bus.specs.Pasts.{Past, joined, nothing}
use Rattle.bus.specs.declared.event.Access.{Access}
use Rattle.bus.specs.Trails.{Trail, past_of, past_of_event, world_after}
use Rattle.bus.specs.declared.event.Event.{Event}
use Rattle.adapter_model.specs.World.{World}

pub trail_joins : (first later : List Event) (a b c : World) → Trail first a b → Trail later b c → Trail (first ++ later) a c
trail_joins [] later a b c one two = subst (λ (w : World). Trail later w c) one two
trail_joins (event ∷ first) later a b c one two = (one.0, trail_joins first later (world_after event a) b c one.1 two)

-- Two pasts with equal parts are equal.
pub same_past : (put put' stored stored' : List (List ℕ)) (missed missed' eeprom eeprom' phy phy' : ℕ) (accesses accesses' : List Access)
    → put ≡ put' → stored ≡ stored' → missed ≡ missed' → eeprom ≡ eeprom' → phy ≡ phy' → accesses ≡ accesses'
    → (let p : Past = record { put = put; stored = stored; missed = missed; eeprom_ticks = eeprom; phy_ticks = phy; accesses = accesses }
    in p) ≡ record { put = put'; stored = stored'; missed = missed'; eeprom_ticks = eeprom'; phy_ticks = phy'; accesses = accesses' }
same_past put put' stored stored' missed missed' eeprom eeprom' phy phy' accesses accesses' e1 e2 e3 e4 e5 e6 = rw
    (e1, e2, e3, e4, e5, e6) refl

pub joined_assoc : (a b c : Past) → joined (joined a b) c ≡ joined a (joined b c)
joined_assoc a b c =
    same_past _ _ _ _ _ _ _ _ _ _ _ _
    (append_assoc a.put b.put c.put) (append_assoc a.stored b.stored c.stored) (omega arith) (omega arith) (omega arith)
    (append_assoc a.accesses b.accesses c.accesses)

pub nothing_joined : (a : Past) → joined nothing a ≡ a
nothing_joined a = same_past _ _ _ _ _ _ _ _ _ _ _ _ refl refl (omega arith) (omega arith) (omega arith) refl

pub past_of-append : (first later : List Event) → past_of (first ++ later) ≡ joined (past_of first) (past_of later)
past_of-append [] later = sym (nothing_joined (past_of later))
past_of-append (event ∷ first) later =
    ap (joined (past_of_event event)) (past_of-append first later)
    ∙ sym (joined_assoc (past_of_event event) (past_of first) (past_of later))
