-- Lists that grow at their end, and from whose end a reset removes frames.
use Rattle.std.proofs.Common.{◌≡◌, ◌++◌, ◌∷◌, [], ℕ, List, map, refl, sym, ap, subst, ◌∙◌, append_assoc}
use Rattle.std.specs.List.{flat_map}
use Rattle.std.proofs.lemmas.List.{append-nil, append_cancel_right, map-append}
use Rattle.descriptors.specs.Frames.{padded}
use Rattle.adapter.proofs.Lists.{append-empty}
use Rattle.host_calls.specs.Happenings.{accepted, accepted_in_one}
use Rattle.host_calls.specs.Lists.{AcceptedArePadded, ListGoes, GoesBehind, GoesJoin, GoesToOneEnd, GoesWithoutDrops}

pub goes-join : GoesJoin
goes-join adds drops begin middle end [] later one two = subst (λ (list : List (List ℕ)). ListGoes adds drops list later end) one two
goes-join adds drops begin middle end (happening ∷ first) later one two =
    (one.0, one.1, goes-join adds drops one.0 middle end first later one.2 two)

pub goes-behind : GoesBehind
goes-behind adds drops front begin end [] goes = ap (λ (list : List (List ℕ)). front ++ list) goes
goes-behind adds drops front begin end (one ∷ later) goes = (
  front ++ goes.0,
  append_assoc front begin (adds one) ∙ ap (λ (list : List (List ℕ)). front ++ list) goes.1 ∙ sym (append_assoc front goes.0 (drops one)),
  goes-behind adds drops front goes.0 end later goes.2,
)

pub goes-to_one_end : GoesToOneEnd
goes-to_one_end adds drops begin end other [] one two = one ∙ sym two
goes-to_one_end adds drops begin end other (happening ∷ later) one two =
    let same : one.0 ≡ two.0 = append_cancel_right one.0 two.0 (drops happening) (sym one.1 ∙ two.1) in
    goes-to_one_end adds drops two.0 end other later (subst (λ (list : List (List ℕ)). ListGoes adds drops list later end) same one.2) two.2

pub goes-without_drops : GoesWithoutDrops
goes-without_drops adds drops begin end [] none = (
  λ same. same ∙ sym (append-nil begin),
  λ same. same ∙ append-nil begin,
)
goes-without_drops adds drops begin end (one ∷ later) none =
    let parts = append-empty (drops one) (flat_map drops later) none in
    let rest = λ (list : List (List ℕ)). goes-without_drops adds drops list end later parts.1 in (
      λ goes.
          let middle : goes.0 ≡ begin ++ adds one =
          sym (append-nil goes.0) ∙ ap (λ (list : List (List ℕ)). goes.0 ++ list) (sym parts.0) ∙ sym goes.1 in
          (rest goes.0).0 goes.2
          ∙ ap (λ (list : List (List ℕ)). list ++ flat_map adds later) middle
          ∙ append_assoc begin (adds one) (flat_map adds later),
      λ same. (
        begin ++ adds one,
        sym (append-nil (begin ++ adds one)) ∙ ap (λ (list : List (List ℕ)). (begin ++ adds one) ++ list) (sym parts.0),
        (rest (begin ++ adds one)).1 (same ∙ sym (append_assoc begin (adds one) (flat_map adds later))),
      ),
    )

pub accepted-padded : AcceptedArePadded
accepted-padded k [] = refl
accepted-padded k (one ∷ later) =
    ap (λ (list : List (List ℕ)). map padded (accepted_in_one k one) ++ list) (accepted-padded k later)
    ∙ sym (map-append padded (accepted_in_one k one) (accepted k later))
