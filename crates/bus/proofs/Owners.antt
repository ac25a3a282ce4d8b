-- The owners of a driver's buffers, counted.
use Rattle.std.proofs.Common.{◌≡◌, ◌<◌, ◌+◌, ◌++◌, ◌∷◌, [], ℕ, List, sym, ◌∙◌, arith}
use Rattle.std.specs.List.{All}
use Rattle.std.proofs.lemmas.List.Elements.{All-cons}
use Rattle.dma_memory.specs.Owners.{HasOneOwner, copies}
use Rattle.dma_memory.specs.OwnersLaws.{copies-append, copies-cons, copies-itself, known_from_no_second, no_second_from_one}
use Rattle.dma_memory.specs.OwnersLaws.{once_from_no_second}
use Rattle.bus.proofs.Lists.{all-none}
use Rattle.bus.specs.DriverState.{DriverState, piece_numbers, owners}
use Rattle.bus.specs.ReadyDrivers.{IsDriver}

pub owners-count : (k : ℕ) (d : DriverState)
    → copies k (owners d) ≡ copies k d.pool + (copies k d.buffers + (copies k d.staged + copies k (piece_numbers d.handed_out)))
owners-count k d =
    let others = d.staged ++ piece_numbers d.handed_out in
    omega (
      arith,
      copies-append k d.pool (d.buffers ++ others),
      copies-append k d.buffers others,
      copies-append k d.staged
          (piece_numbers d.handed_out),
    )

pub one_owner-dealt : (n : ℕ) (d d' : DriverState)
    → ((k : ℕ) → copies k d'.pool + (copies k d'.buffers + (copies k d'.staged + copies k (piece_numbers d'.handed_out)))
    ≡ copies k d.pool + (copies k d.buffers + (copies k d.staged + copies k (piece_numbers d.handed_out))))
    → HasOneOwner n (owners d) → HasOneOwner n (owners d')
one_owner-dealt n d d' same one k = owners-count k d' ∙ same k ∙ sym (owners-count k d) ∙ one k

pub outstanding-number : (d : DriverState) (m : ℕ) → IsDriver d → 0 < copies m d.buffers → m < d.layout.buffers
outstanding-number d m driver some =
    known_from_no_second d.layout.buffers m (owners d) (no_second_from_one d.layout.buffers (owners d) driver.one_owner)
    (omega (arith, some, owners-count m d))

-- The number is that of a receive buffer, and no outstanding slot has this buffer.
pub record IsElsewhere (d : DriverState) (m : ℕ) : Type 0 where
  pub known : m < d.layout.buffers
  pub free : copies m d.buffers ≡ 0

pub elsewhere-number : (d : DriverState) (m : ℕ) → IsDriver d → 0 < copies m d.staged + copies m (piece_numbers d.handed_out)
    → IsElsewhere d m
elsewhere-number d m driver some =
    let none_twice = no_second_from_one d.layout.buffers (owners d) driver.one_owner in
    let sum = owners-count m d in
    record {
      known = known_from_no_second d.layout.buffers m (owners d) none_twice (omega (arith, some, sum));
      free = let once = once_from_no_second d.layout.buffers m (owners d) none_twice in omega (arith, some, sum, once);
    }

pub all-copies : (P : ℕ → Type 0) (xs : List ℕ) → ((m : ℕ) → 0 < copies m xs → P m) → All P xs
all-copies P [] each = all-none P
all-copies P (x ∷ xs) each =
    All-cons P x xs (each x (omega (arith, copies-itself x xs)))
    (all-copies P xs (λ m some. each m (omega (arith, some, copies-cons m x xs))))
