-- A driver looks at one of its outstanding receive slots, by one load of the slot's descriptor.
use Rattle.std.specs.Prelude.{◌≡◌, ◌≤◌, ◌++◌, ◌∷◌, ℕ, Bool, true, false, List, [], length}
use Rattle.registers.specs.Bits.{is_set}
use Rattle.dma_memory.specs.Layout.{descriptor_bytes}
use Rattle.descriptors.specs.RingLaws.{place}
use Rattle.descriptors.specs.RxStatus.{dd, eop, status_bits}
use Rattle.descriptors.specs.declared.rx_desc.RxDesc.{RxDesc}
use Rattle.rx_engine.specs.Held.{piece_of}
use Rattle.rx_engine.specs.Pieces.{Piece}
use Rattle.adapter_model.specs.HostFrames.{finished_pieces}
use Rattle.bus.specs.declared.bus.Bus.{Ghosts}
use Rattle.bus.specs.declared.event.Access.TheVariants.{Loads}
use Rattle.bus.specs.Calls.{Moment, Ran, at, only}
use Rattle.bus.specs.DriverState.{DriverState, receive_slot}

-- the place of the k-th receive slot after the oldest; for k = 0, the place of the oldest slot
abbrev pub slot_after_oldest : DriverState → ℕ → ℕ
slot_after_oldest d k = place d.layout.rx d.oldest_receive k

-- The k-th slot after the oldest is finished, and `pieces` are the pieces in the finished slots. The first k pieces are `before`. The next
-- piece, in this slot, has the bytes `bytes`, and ends a frame exactly if the descriptor has EOP. The descriptor has no errors, and its
-- length is the number of these bytes.
pub record IsSeen (k : ℕ) (pieces : List Piece) (descriptor : RxDesc) : Type 0 where
  pub before : List Piece
  pub count : length before ≡ k
  pub bytes : List ℕ
  pub after : List Piece
  pub is : pieces ≡ before ++ piece_of (is_set (status_bits descriptor.status) eop) bytes ∷ after
  pub size : descriptor.length ≡ length bytes
  pub has_no_errors : descriptor.errors ≡ 0

-- What the descriptor of the k-th slot after the oldest shows: with DD the slot is finished; without DD it isn't.
abbrev pub ShowsSlot : (done : Bool) → (k : ℕ) → (pieces : List Piece) → RxDesc → Type 0
ShowsSlot true k pieces descriptor = IsSeen k pieces descriptor
ShowsSlot false k pieces descriptor = length pieces ≤ k

-- The descriptor of the k-th slot after the oldest was loaded, and shows whether this slot is finished.
pub record LooksAtSlot {B : Type 0} (bus : Ghosts B) (up : Bool) (k : ℕ) (descriptor : RxDesc) (old : Moment B) (new : B) : Type 0 where
  pub ran : Ran bus up (only (Loads (receive_slot (slot_after_oldest old.driver k)) descriptor_bytes ∷ [])) old (at new old.driver)
  -- The pieces in slots that were finished in this interval. These pieces follow the pieces that were in finished slots before.
  pub more : List Piece
  pub grows : finished_pieces old.driver.oldest_receive (bus.world new)
      ≡ finished_pieces old.driver.oldest_receive (bus.world old.bus) ++ more
  pub shows : ShowsSlot (is_set (status_bits descriptor.status) dd) k (finished_pieces old.driver.oldest_receive (bus.world new)) descriptor
