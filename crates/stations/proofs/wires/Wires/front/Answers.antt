use Rattle.std.proofs.Common.{◌≡◌, ◌↔◌, List, ℕ, Some, [], true, false, ap, refl, rules, slice_get, subst, sym, ◌∙◌, arith}
use Rattle.stations.proofs.WireEnds.{below-ends, entry-read, found-at, line-read, log-below}
use Rattle.stations.proofs.wires.Wires.front.Goals as goal

pub index-end-requires : goal.index-end-requires
index-end-requires c = omega (arith, below-ends c.self.view_is c.self.invariant c.requires.there)

pub index-wire_log-requires : goal.index-wire_log-requires
index-wire_log-requires c =
    omega (arith, log-below (found-at c.self.view_is c.self.invariant c.requires.there c.index-end.ensures))

pub returns-in_err-place-clause-none : goal.returns-in_err-place-clause-none
returns-in_err-place-clause-none c = λ end is.
    let line = line-read (found-at c.self.view_is c.self.invariant c.requires.there c.index-end.ensures) c.index-wire_log.ensures is in
    ((λ none. sym line ∙ c.in_err-place.ensures.none.0 refl), (λ empty. (search rules)))

pub returns-clause-none : goal.returns-clause-none
returns-clause-none c = λ end is.
    subst (λ (frames : List (List ℕ)). (true ≡ false) ↔ (frames ≡ []))
    (line-read (found-at c.self.view_is c.self.invariant c.requires.there c.index-end.ensures) c.index-wire_log.ensures is)
    c.in_ok-place.ensures.none

pub returns-clause-oldest : goal.returns-clause-oldest
returns-clause-oldest c = λ end is.
    let line = line-read (found-at c.self.view_is c.self.invariant c.requires.there c.index-end.ensures) c.index-wire_log.ensures is in
    ap (λ (frames : List (List ℕ)). slice_get frames 0) (sym line ∙ c.in_ok-place.ensures.first)
    ∙ ap (λ (frame : List ℕ). Some frame)
    (entry-read c.index-as_slice-place.result c.as_slice.ensures.value c.in_ok-place.ensures.there.1 ∙ sym c.as_slice-2.ensures.value)
