-- Packets that are written to a sink in order.
use Rattle.std.proofs.Common.{◌≡◌, ◌<◌, ◌+◌, ℕ, List, [], ◌∷◌, ◌++◌, length, get_or, take, drop, map, Option, sym, ap, subst, ◌∙◌}
use Rattle.std.proofs.Common.{append_assoc, append-nil, take-append-drop}
use Rattle.std.specs.List.{flat_map}
use Rattle.std.specs.Io.KnownBytes.{Appends}
use Rattle.std.proofs.KnownBytes.{Appends-trans}
use Rattle.std.proofs.lemmas.List.{take_more, map-append}
use Rattle.std.proofs.lemmas.List.Concat.{flat_map-append, flat_map-cons}
use Rattle.pcap_trace.specs.Devices.{AppendsFront}
use Rattle.pcap_trace.specs.declared.unit.Unit.{Unit}
use Rattle.pcap_trace.specs.Format.{Timed, packet_of, timed, file_header, written}
use Rattle.pcap_trace.proofs.Sent.{AppendsFront-longer, AppendsFront-then}

pub packets-push : (unit : Unit) (ts : List Timed) (t : Timed)
    → flat_map (packet_of unit) (ts ++ t ∷ []) ≡ flat_map (packet_of unit) ts ++ packet_of unit t
packets-push unit ts t = flat_map-append (packet_of unit) ts (t ∷ [])
    ∙ ap (λ (x : List ℕ). flat_map (packet_of unit) ts ++ x) (flat_map-cons (packet_of unit) t [] ∙ append-nil (packet_of unit t))

pub written-push : (unit : Unit) (ts : List Timed) (t : Timed) → written unit (ts ++ t ∷ []) ≡ written unit ts ++ packet_of unit t
written-push unit ts t = ap (λ (x : List ℕ). file_header unit ++ x) (packets-push unit ts t)
    ∙ sym (append_assoc (file_header unit) (flat_map (packet_of unit) ts) (packet_of unit t))

pub written-append : (unit : Unit) (ts us : List Timed) → written unit (ts ++ us) ≡ written unit ts ++ flat_map (packet_of unit) us
written-append unit ts us = ap (λ (x : List ℕ). file_header unit ++ x) (flat_map-append (packet_of unit) ts us)
    ∙ sym (append_assoc (file_header unit) (flat_map (packet_of unit) ts) (flat_map (packet_of unit) us))

timed-more : (ps : List (ℕ × List ℕ)) (i : ℕ) (p : ℕ × List ℕ) → i < length ps → p ≡ get_or ps i p
    → map timed (take (i + 1) ps) ≡ map timed (take i ps) ++ timed p ∷ []
timed-more ps i p below is = ap (map timed) (take_more ps i p below ∙ ap (λ (q : ℕ × List ℕ). take i ps ++ q ∷ []) (sym is))
    ∙ map-append timed (take i ps) (p ∷ [])

pub written-more : (unit : Unit) (a b c : Option (List ℕ)) (ps : List (ℕ × List ℕ)) (i : ℕ) (p : ℕ × List ℕ) → i < length ps
    → p ≡ get_or ps i p
    → Appends a b (written unit (map timed (take i ps))) → Appends b c (packet_of unit (timed p))
    → Appends a c (written unit (map timed (take (i + 1) ps)))
written-more unit a b c ps i p below is so_far one =
    let ts = map timed (take i ps) in
    subst (Appends a c) (sym (ap (written unit) (timed-more ps i p below is) ∙ written-push unit ts (timed p)))
    (Appends-trans a b c (written unit ts) (packet_of unit (timed p)) so_far one)

pub written-front : (unit : Unit) (a b c : Option (List ℕ)) (ps : List (ℕ × List ℕ)) (i : ℕ) (p : ℕ × List ℕ) → i < length ps
    → p ≡ get_or ps i p
    → Appends a b (written unit (map timed (take i ps))) → AppendsFront b c (packet_of unit (timed p))
    → AppendsFront a c (written unit (map timed ps))
written-front unit a b c ps i p below is so_far part =
    let ts = map timed (take i ps) in
    let others = map timed (drop (i + 1) ps) in
    let upto : AppendsFront a c (written unit (map timed (take (i + 1) ps))) =
    subst (AppendsFront a c) (sym (ap (written unit) (timed-more ps i p below is) ∙ written-push unit ts (timed p)))
    (AppendsFront-then a b c (written unit ts) (packet_of unit (timed p)) so_far part) in
    let whole : written unit (map timed (take (i + 1) ps)) ++ flat_map (packet_of unit) others ≡ written unit (map timed ps) =
    sym (written-append unit (map timed (take (i + 1) ps)) others)
    ∙ ap (written unit) (sym (map-append timed (take (i + 1) ps) (drop (i + 1) ps)) ∙ ap (map timed) (take-append-drop (i + 1) ps)) in
    subst (AppendsFront a c) whole
    (AppendsFront-longer a c (written unit (map timed (take (i + 1) ps))) (flat_map (packet_of unit) others) upto)
