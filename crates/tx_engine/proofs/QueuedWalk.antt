-- The loop of `append_queued` over the offered slots, from head to tail.
use Rattle.std.proofs.Common.{suc, zero, true, false, Bool, ◌≡◌, ◌<◌, ◌+◌, ◌-◌, ◌%◌}
use Rattle.std.proofs.Common.{◌++◌, ◌∷◌, ℕ, List, length, replicate, arith, refl, sym, ap, if◌then◌else◌}
use Rattle.std.proofs.lemmas.List.{append-nil}
use Rattle.descriptors.specs.declared.ring.Ring.{Ring}
use Rattle.descriptors.specs.Ring.{count_of, distance_of, next_of, offered_places, slots_from}
use Rattle.tx_engine.specs.Fetching.{as_sent}

pub sent-is : (bytes : List ℕ) (pad : Bool) → bytes ++ replicate (if pad then 60 - length bytes else 0) 0 ≡ as_sent pad bytes
sent-is bytes true = refl
sent-is bytes false = append-nil bytes

pub places-begin : (ring : Ring) (left : ℕ) → left ≡ distance_of ring ring.head ring.tail
    → slots_from (count_of ring) ring.head left ≡ offered_places ring
unfolding offered_places
places-begin ring left same = ap (slots_from (count_of ring) ring.head) same

pub places-next : (ring : Ring) (place left : ℕ) → 0 < left
    → slots_from (count_of ring) place left ≡ place ∷ slots_from (count_of ring) (next_of ring place) (left - 1)
places-next ring place zero some = absurd (omega (arith, some))
places-next ring place (suc k) some =
    let left : suc k - 1 ≡ k = omega arith in
    ap (λ (n : ℕ). place ∷ slots_from (count_of ring) (next_of ring place) n) (sym left)

pub places-length : (n place left : ℕ) → length (slots_from n place left) ≡ left
places-length n place zero = refl
places-length n place (suc k) = ap suc (places-length n ((place + 1) % n) k)
