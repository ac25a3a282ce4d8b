-- Bytes are packets and a rest in only one way.
use Rattle.std.proofs.Common.{◌≡◌, ◌+◌, inl, inr, ℕ, List, [], ◌∷◌, ◌++◌, length, take, drop, refl, sym, ap, subst, ◌∙◌, append_assoc}
use Rattle.std.proofs.Common.{arith}
use Rattle.std.specs.List.{flat_map, AllByRecursion}
use Rattle.std.proofs.lemmas.List.{take_at, drop_at, length-append}
use Rattle.std.proofs.lemmas.List.Concat.{flat_map-cons}
use Rattle.pcap_trace.specs.Format.{Order, Packet, Ending, complete, cut_off}
use Rattle.pcap_trace.specs.Format.{oversized, captured_length, packet_bytes, IsPacket, untruncated_frames}
use Rattle.pcap_trace.specs.Format.{skipped_of, IsRest, IsBody}
use Rattle.pcap_trace.proofs.Bodies.{ReadsFirst, word-append}

rest_without_packet : (number : Order) → ReadsFirst number → (rest : List ℕ) (e : Ending) (p : Packet) (more : List ℕ)
    → IsRest number rest e → IsPacket number p → rest ≡ p.header ++ (p.captured ++ more) → ⊥
rest_without_packet number first rest e p more ends whole is =
    let len : length rest ≡ 16 + (length p.captured + length more) = ap length is ∙ length-append p.header (p.captured ++ more)
    ∙ omega (arith, whole.header_length, length-append p.captured more) in
    let told : captured_length number rest ≡ captured_length number p.header = ap (captured_length number) is
    ∙ word-append number first 8 p.header (p.captured ++ more) (omega (arith, whole.header_length)) in
    let asked = whole.captured_is in
    let short = whole.short_enough in
    elim e as (λ e. IsRest number rest e → ⊥) [
      | complete ↦ λ h. omega (arith, ap length h)
      | cut_off ↦ λ h. elim h [ inl part ↦ omega (arith, part.1) | inr part ↦ omega (arith, part.2) ]
      | oversized ↦ λ h. omega (arith, h.1)
    ] ends

ending_unique : (number : Order) (rest : List ℕ) (e f : Ending) → IsRest number rest e → IsRest number rest f → e ≡ f
ending_unique number rest complete complete p q = refl
ending_unique number rest complete cut_off p q = absurd
    (elim q [ inl h ↦ omega (arith, ap length p, h.0) | inr h ↦ omega (arith, ap length p, h.0) ])
ending_unique number rest complete oversized p q = absurd (omega (arith, ap length p, q.0))
ending_unique number rest cut_off complete p q = absurd
    (elim p [ inl h ↦ omega (arith, ap length q, h.0) | inr h ↦ omega (arith, ap length q, h.0) ])
ending_unique number rest cut_off cut_off p q = refl
ending_unique number rest cut_off oversized p q = absurd (elim p [ inl h ↦ omega (arith, h.1, q.0) | inr h ↦ omega (arith, h.1, q.1) ])
ending_unique number rest oversized complete p q = absurd (omega (arith, ap length q, p.0))
ending_unique number rest oversized cut_off p q = absurd (elim q [ inl h ↦ omega (arith, h.1, p.0) | inr h ↦ omega (arith, h.1, p.1) ])
ending_unique number rest oversized oversized p q = refl

regroup : (p : Packet) (ps : List Packet) (rest : List ℕ)
    → flat_map packet_bytes (p ∷ ps) ++ rest ≡ p.header ++ (p.captured ++ (flat_map packet_bytes ps ++ rest))
regroup p ps rest =
    ap (λ (x : List ℕ). x ++ rest) (flat_map-cons packet_bytes p ps) ∙ append_assoc (packet_bytes p) (flat_map packet_bytes ps) rest
    ∙ append_assoc p.header p.captured (flat_map packet_bytes ps ++ rest)

front_unique : (number : Order) → ReadsFirst number → (p q : Packet) (x y : List ℕ) → IsPacket number p → IsPacket number q
    → p.header ++ (p.captured ++ x) ≡ q.header ++ (q.captured ++ y) → (p ≡ q) × (x ≡ y)
front_unique number first p q x y whole_p whole_q is =
    let headers : p.header ≡ q.header = sym (take_at p.header (p.captured ++ x) 16 whole_p.header_length) ∙ ap (take 16) is
    ∙ take_at q.header (q.captured ++ y) 16 whole_q.header_length in
    let rests : p.captured ++ x ≡ q.captured ++ y = sym (drop_at p.header (p.captured ++ x) 16 whole_p.header_length) ∙ ap (drop 16) is
    ∙ drop_at q.header (q.captured ++ y) 16 whole_q.header_length in
    let lens : length p.captured ≡ length q.captured = whole_p.captured_is ∙ ap (captured_length number) headers
    ∙ sym whole_q.captured_is in
    let texts : p.captured ≡ q.captured = sym (take_at p.captured x (length q.captured) lens) ∙ ap (take (length q.captured)) rests
    ∙ take_at q.captured y (length q.captured) refl in
    let behind : x ≡ y = sym (drop_at p.captured x (length q.captured) lens) ∙ ap (drop (length q.captured)) rests
    ∙ drop_at q.captured y (length q.captured) refl in (
      ap (λ (h : List ℕ). record { header = h; captured = p.captured }) headers
          ∙ ap (λ (t : List ℕ). record { header = q.header; captured = t }) texts,
      behind,
    )

parts_unique : (number : Order) → ReadsFirst number → (ps qs : List Packet) (x y : List ℕ) (e f : Ending)
    → AllByRecursion (IsPacket number) ps → AllByRecursion (IsPacket number) qs → IsRest number x e → IsRest number y f
    → flat_map packet_bytes ps ++ x ≡ flat_map packet_bytes qs ++ y → (ps ≡ qs) × (x ≡ y)
parts_unique number first [] [] x y e f whole_p whole_q ends_x ends_y is = (refl, is)
parts_unique number first [] (q ∷ qs) x y e f whole_p whole_q ends_x ends_y is = absurd
    (rest_without_packet number first x e q (flat_map packet_bytes qs ++ y) ends_x whole_q.0 (is ∙ regroup q qs y))
parts_unique number first (p ∷ ps) [] x y e f whole_p whole_q ends_x ends_y is = absurd
    (rest_without_packet number first y f p (flat_map packet_bytes ps ++ x) ends_y whole_p.0 (sym is ∙ regroup p ps x))
parts_unique number first (p ∷ ps) (q ∷ qs) x y e f whole_p whole_q ends_x ends_y is =
    let one = front_unique number first p q (flat_map packet_bytes ps ++ x) (flat_map packet_bytes qs ++ y) whole_p.0 whole_q.0
    (sym (regroup p ps x) ∙ is ∙ regroup q qs y) in
    let others = parts_unique number first ps qs x y e f whole_p.1 whole_q.1 ends_x ends_y one.1 in
    (ap (λ (r : Packet). r ∷ ps) one.0 ∙ ap (λ (rs : List Packet). q ∷ rs) others.0, others.1)

pub body_unique : (number : Order) → ReadsFirst number → (bytes : List ℕ) (fs gs : List (List ℕ)) (m n : ℕ) (e f : Ending)
    → IsBody number bytes fs m e → IsBody number bytes gs n f → (fs ≡ gs) × (m ≡ n) × (e ≡ f)
body_unique number first bytes fs gs m n e f p q =
    let same = parts_unique number first p.packets q.packets p.rest q.rest e f p.whole q.whole p.ends q.ends (sym p.parts ∙ q.parts) in (
      p.frames_are ∙ ap (untruncated_frames number) same.0 ∙ sym q.frames_are,
      p.skipped_are ∙ ap (skipped_of number) same.0 ∙ sym q.skipped_are,
      ending_unique number p.rest e f p.ends (subst (λ (x : List ℕ). IsRest number x f) (sym same.1) q.ends),
    )
