-- Lemmas about layouts: where the buffers begin, that no two places overlap, and that all are inside the memory that the layout needs.
use Rattle.std.proofs.Common.{◌≢◌, ◌<◌, ◌+◌, ◌*◌, ◌^◌, inl, inr, ℕ, refl, ap, arith}
use Rattle.std.proofs.lemmas.Bool.{cases_lt}
use Rattle.dma_memory.specs.Areas.{area_at, AreApart}
use Rattle.dma_memory.specs.Layout.{Counts, IsAllowed, ReceiveRing, TransmitRing, TransmitBuffer, ReceiveBuffer, buffers_start, size_of}
use Rattle.dma_memory.specs.Layout.{BeginsAtNextMultiple, PlacesAreApart, PlacesLieBelowSize}

pub layout_begins : (counts : Counts) → BeginsAtNextMultiple counts
layout_begins counts = record { multiple = omega arith; behind_rings = omega arith; first = omega arith }

-- Each address of an allowed layout fits into 64 bits.
pub addresses-fit : {counts : Counts} → IsAllowed counts → size_of counts < 2 ^ 64
addresses-fit {counts} allowed =
    let first = (layout_begins counts).first in omega (arith, first, allowed.rx.most, allowed.tx.most, allowed.buffers.most)

pub place-below_size : PlacesLieBelowSize
place-below_size counts ReceiveRing has = let b = (layout_begins counts).behind_rings in omega arith
place-below_size counts TransmitRing has = let b = (layout_begins counts).behind_rings in omega arith
place-below_size counts (TransmitBuffer slot) has = omega arith
place-below_size counts (ReceiveBuffer number) has = omega arith

transmit_apart : (from i j : ℕ) → i ≢ j → AreApart (area_at (from + 2048 * i) 2048) (area_at (from + 2048 * j) 2048)
transmit_apart from i j differ = elim (cases_lt i j) as
    (λ _. AreApart (area_at (from + 2048 * i) 2048) (area_at (from + 2048 * j) 2048)) [
      | inl below ↦ inl (omega arith)
      | inr above ↦ inr (omega arith)
    ]

receive_apart : (from i j : ℕ) → i ≢ j → AreApart (area_at (from + 256 * i) 256) (area_at (from + 256 * j) 256)
receive_apart from i j differ = elim (cases_lt i j) as
    (λ _. AreApart (area_at (from + 256 * i) 256) (area_at (from + 256 * j) 256)) [
      | inl below ↦ inl (omega arith)
      | inr above ↦ inr (omega arith)
    ]

pub places-apart : PlacesAreApart
places-apart counts ReceiveRing ReceiveRing has_a has_b differ = absurd (differ refl)
places-apart counts ReceiveRing TransmitRing has_a has_b differ = inl (omega arith)
places-apart counts ReceiveRing (TransmitBuffer slot) has_a has_b differ = let b = (layout_begins counts).behind_rings in inl (omega arith)
places-apart counts ReceiveRing (ReceiveBuffer number) has_a has_b differ = let b = (layout_begins counts).behind_rings in inl (omega arith)
places-apart counts TransmitRing ReceiveRing has_a has_b differ = inr (omega arith)
places-apart counts TransmitRing TransmitRing has_a has_b differ = absurd (differ refl)
places-apart counts TransmitRing (TransmitBuffer slot) has_a has_b differ = let b = (layout_begins counts).behind_rings in inl (omega arith)
places-apart counts TransmitRing (ReceiveBuffer number) has_a has_b differ =
    let b = (layout_begins counts).behind_rings in inl (omega arith)
places-apart counts (TransmitBuffer slot) ReceiveRing has_a has_b differ = let b = (layout_begins counts).behind_rings in inr (omega arith)
places-apart counts (TransmitBuffer slot) TransmitRing has_a has_b differ = let b = (layout_begins counts).behind_rings in inr (omega arith)
places-apart counts (TransmitBuffer slot) (TransmitBuffer other) has_a has_b differ = transmit_apart (buffers_start counts) slot other
    (λ same. differ (ap TransmitBuffer same))
places-apart counts (TransmitBuffer slot) (ReceiveBuffer number) has_a has_b differ = inl (omega arith)
places-apart counts (ReceiveBuffer number) ReceiveRing has_a has_b differ = let b = (layout_begins counts).behind_rings in inr (omega arith)
places-apart counts (ReceiveBuffer number) TransmitRing has_a has_b differ =
    let b = (layout_begins counts).behind_rings in inr (omega arith)
places-apart counts (ReceiveBuffer number) (TransmitBuffer slot) has_a has_b differ = inr (omega arith)
places-apart counts (ReceiveBuffer number) (ReceiveBuffer other) has_a has_b differ = receive_apart
    (buffers_start counts + 2048 * counts.tx) number other (λ same. differ (ap ReceiveBuffer same))
