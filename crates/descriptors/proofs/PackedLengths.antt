-- The length of a packed frame, by its index.
use Rattle.std.proofs.Common.{◌≡◌, ◌<◌, ℕ, Bor, Option, length, drop, refl, arith}
use Rattle.std.specs.Prelude.{IsSome, option_copied, Some, None}
use Rattle.descriptors.specs.Packed.{PackedFrames, packed_of}
use Rattle.descriptors.specs.declared.packed.PackedQueue.TheInside.{Inside}
use Rattle.descriptors.proofs.Cut.{length-cut}

pub below : (queue : Inside) (seen : PackedFrames) (i : ℕ) → packed_of queue ≡ seen → i < length seen.frames
    → i < length queue.lengths.items
below queue seen i view within =
    let count = length-cut queue.lengths.items (drop queue.first queue.bytes.items) in
    let asked = rw (← view) at within in
    omega (arith, asked, count)

pub copied_some : {T : Type 0} (r : Option (Bor T)) (x : T) → option_copied r ≡ Some x → IsSome r
copied_some None x is = absurd (cc)
copied_some (Some b) x is = refl
