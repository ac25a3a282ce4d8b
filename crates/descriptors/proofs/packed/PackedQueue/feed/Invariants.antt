use Rattle.std.proofs.Common.{◌≡◌, ◌+◌, fold, take, flat_map}
use Rattle.descriptors.specs.HashedFrames.{frame_writes}
use Rattle.descriptors.specs.Packed.{total}
use Rattle.descriptors.proofs.packed.PackedQueue.feed.Given as goal

abbrev pub invariant-loop-index : goal.invariant-loop-index
invariant-loop-index g l =
    (l.start ≡ l.self-inside.first + total (take l.index l.self-inside.lengths.items))
    × (l.hasher ≡ fold g.H.Hasher.write l.initial.hasher (flat_map frame_writes (take l.index l.self.frames)))
