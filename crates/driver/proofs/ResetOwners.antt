-- A reset doesn't change the number of owners of a buffer.
use Rattle.std.proofs.Common.{◌≡◌, ◌++◌, [], ℕ, List, ap, arith}
use Rattle.dma_memory.specs.Owners.{HaveSameNumbers, copies}
use Rattle.dma_memory.specs.OwnersLaws.{copies-append}
use Rattle.adapter.proofs.Owners.{owners-count}
use Rattle.adapter.specs.DriverState.{DriverState, HandedOut, piece_numbers, owners, with_owners}

pub reset-owners : (d0 d3 : DriverState) (pool numbers left : List ℕ) → d0.handed_out ≡ []
    → HaveSameNumbers (d0.pool ++ (d0.buffers ++ d0.staged)) pool → HaveSameNumbers pool (numbers ++ left)
    → HaveSameNumbers (owners d0) (owners (with_owners d3 numbers [] left []))
reset-owners d0 d3 pool numbers left none free dealt k =
    omega (
      arith,
      owners-count k d0,
      ap (λ (list : List HandedOut). copies k (piece_numbers list)) none,
      owners-count k (with_owners d3 numbers [] left []),
      copies-append k d0.pool (d0.buffers ++ d0.staged),
      copies-append k d0.buffers d0.staged,
      copies-append k numbers left,
      free k,
      dealt k,
    )
