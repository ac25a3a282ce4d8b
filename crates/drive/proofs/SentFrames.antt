-- Frames that are passed to the driver, one after the other.
use Rattle.std.proofs.Common.{◌≡◌, ◌+◌, ◌++◌, ◌∷◌, [], ℕ, Bool, true, false, List, sym, ap, subst, ◌∙◌, arith, append_assoc}
use Rattle.std.proofs.Common.{cond}
use Rattle.std.specs.Prelude.{count_by, not, if◌then◌else◌}
use Rattle.std.proofs.lemmas.List.{append-nil}
use Rattle.std.proofs.lemmas.List.Sums.{sum_by_push}
use Rattle.descriptors.specs.Frames.{is_sendable}
use Rattle.adapter.specs.BusMembers.{Composes}
use Rattle.adapter.specs.bus_types.bus.Bus.{Ghosts}
use Rattle.drive.specs.Exchanging.{ExchangeMoment, Exchanges, SendsUpTo, accepted_of, accepted_of_all, is_illegal, saturated}
use Rattle.drive.proofs.Exchanges.{exchanges-here, exchanges-on}

accepted-push : (frames : List (List ℕ)) (frame : List ℕ)
    → accepted_of_all (frames ++ frame ∷ []) ≡ accepted_of_all frames ++ accepted_of frame
accepted-push [] frame = append-nil (accepted_of frame)
accepted-push (first ∷ later) frame =
    ap (λ (rest : List (List ℕ)). accepted_of first ++ rest) (accepted-push later frame)
    ∙ sym (append_assoc (accepted_of first) (accepted_of_all later) (accepted_of frame))

count-push : (p : List ℕ → Bool) (frames : List (List ℕ)) (frame : List ℕ)
    → count_by p (frames ++ frame ∷ []) ≡ count_by p frames + cond (p frame) 1 0
count-push p frames frame = sum_by_push (λ x. cond (p x) 1 0) frames frame

pub sends-start : {B : Type 0} (bus : Ghosts B) → Composes bus.happened bus.lent_stays
    → (frames left : List (List ℕ)) (now : ExchangeMoment B)
    → left ≡ frames → SendsUpTo bus frames left 0 0 now now
sends-start bus composes frames left now is = record {
  handed = [];
  parts = sym is;
  sent_is = omega arith;
  illegal_is = omega arith;
  exchanges = exchanges-here bus composes now;
}

pub sends-then : {B : Type 0} (bus : Ghosts B) → Composes bus.happened bus.lent_stays → (frames left : List (List ℕ)) (sent illegal : ℕ)
    (a b c : ExchangeMoment B) → SendsUpTo bus frames left sent illegal a b → Exchanges bus [] b c
    → SendsUpTo bus frames left sent illegal a c
sends-then bus composes frames left sent illegal a b c so_far one = record {
  handed = so_far.handed;
  parts = so_far.parts;
  sent_is = so_far.sent_is;
  illegal_is = so_far.illegal_is;
  exchanges = subst (λ (accepted : List (List ℕ)). Exchanges bus accepted a c) (append-nil (accepted_of_all so_far.handed))
      (exchanges-on bus composes a b c (accepted_of_all so_far.handed) [] so_far.exchanges one);
}

grown : (count old new : ℕ) (more : Bool) → old ≡ saturated count → new ≡ (if more then saturated (old + 1) else old)
    → new ≡ saturated (count + cond more 1 0)
grown count old new true was is = omega (arith, was, is)
grown count old new false was is = omega (arith, was, is)

grown-not : (count old new : ℕ) (less : Bool) → old ≡ saturated count → new ≡ (if less then old else saturated (old + 1))
    → new ≡ saturated (count + cond (not less) 1 0)
grown-not count old new true was is = omega (arith, was, is)
grown-not count old new false was is = omega (arith, was, is)

-- The next frame was passed to the driver, and then no further frame.
pub sends-more : {B : Type 0} (bus : Ghosts B) → Composes bus.happened bus.lent_stays → (frames left : List (List ℕ)) (frame : List ℕ)
    (sent illegal sent' illegal' : ℕ) (a b c d : ExchangeMoment B) → SendsUpTo bus frames (frame ∷ left) sent illegal a b
    → Exchanges bus (accepted_of frame) b c → Exchanges bus [] c d
    → sent' ≡ (if is_sendable frame then saturated (sent + 1) else sent)
    → illegal' ≡ (if is_sendable frame then illegal else saturated (illegal + 1))
    → SendsUpTo bus frames left sent' illegal' a d
sends-more bus composes frames left frame sent illegal sent' illegal' a b c d so_far one two sends refuses = record {
  handed = so_far.handed ++ frame ∷ [];
  parts = so_far.parts ∙ sym (append_assoc so_far.handed (frame ∷ []) left);
  sent_is = grown (count_by is_sendable so_far.handed) sent sent' (is_sendable frame) so_far.sent_is sends
      ∙ ap saturated (sym (count-push is_sendable so_far.handed frame));
  illegal_is = grown-not (count_by is_illegal so_far.handed) illegal illegal' (is_sendable frame) so_far.illegal_is refuses
      ∙ ap saturated (sym (count-push is_illegal so_far.handed frame));
  exchanges = subst (λ (accepted : List (List ℕ)). Exchanges bus accepted a d)
      (append-nil (accepted_of_all so_far.handed ++ accepted_of frame) ∙ sym (accepted-push so_far.handed frame))
      (exchanges-on bus composes a c d (accepted_of_all so_far.handed ++ accepted_of frame) []
      (exchanges-on bus composes a b c (accepted_of_all so_far.handed) (accepted_of frame) so_far.exchanges one) two);
}
