-- Numbers of received frames.
use Rattle.std.proofs.Common.{◌≡◌, ◌≤◌, ◌+◌, ◌-◌, ◌^◌, ◌++◌, ◌∷◌, [], ℕ, List, length, refl, ap, ◌∙◌, arith, zero-add}
use Rattle.std.specs.List.{flat_map}
use Rattle.std.proofs.lemmas.List.Concat.{flat_map-append}
use Rattle.pcap_trace.specs.Format.{Timed, packet_of}
use Rattle.pcap_trace.specs.declared.unit.Unit.TheVariants.{Micros}
use Rattle.drive.specs.Exchanging.{saturated}
use Rattle.drive.specs.Numbering.{next_frame_number, number_after, timed_by_number, packets_of}

pub number_after-append : (n : ℕ) (xs ys : List (List ℕ)) → number_after n (xs ++ ys) ≡ number_after (number_after n xs) ys
number_after-append n [] ys = refl
number_after-append n (x ∷ xs) ys = number_after-append (next_frame_number n) xs ys

numbered-append : (n : ℕ) (xs ys : List (List ℕ))
    → timed_by_number n (xs ++ ys) ≡ timed_by_number n xs ++ timed_by_number (number_after n xs) ys
numbered-append n [] ys = refl
numbered-append n (x ∷ xs) ys = ap (λ (later : List Timed). record { time = n; frame = x } ∷ later) (numbered-append
    (next_frame_number n) xs ys)

pub packets_of-append : (n : ℕ) (xs ys : List (List ℕ)) → packets_of n (xs ++ ys) ≡ packets_of n xs ++ packets_of (number_after n xs) ys
packets_of-append n xs ys =
    ap (flat_map (packet_of Micros)) (numbered-append n xs ys)
    ∙ flat_map-append (packet_of Micros) (timed_by_number n xs) (timed_by_number (number_after n xs) ys)

number_after-from : (n : ℕ) (xs : List (List ℕ)) → n ≤ 2 ^ 64 - 1 → number_after n xs ≡ saturated (n + length xs)
number_after-from n [] low = omega (arith, low)
number_after-from n (x ∷ xs) low = number_after-from (next_frame_number n) xs (omega arith) ∙ omega arith

pub number_after-count : (xs : List (List ℕ)) → number_after 0 xs ≡ saturated (length xs)
number_after-count xs = number_after-from 0 xs (omega arith) ∙ ap saturated (zero-add (length xs))
