-- What a driver finds in its oldest receive slots by loading their descriptors.
use Rattle.std.specs.Prelude.{◌≡◌, ◌≤◌, ◌+◌, ◌*◌, ◌++◌, ◌∷◌, []}
use Rattle.std.specs.Prelude.{ℕ, Bool, true, false, IsTrue, List, None, Option, Some, length, map, min}
use Rattle.std.specs.Prelude.{suc, sum, take}
use Rattle.std.specs.List.{concat}
use Rattle.dma_memory.specs.Layout.{receive_buffer_bytes}
use Rattle.registers.specs.Bits.{is_set}
use Rattle.descriptors.specs.RxStatus.{eop, status_bits}
use Rattle.descriptors.specs.declared.rx_desc.RxDesc.{RxDesc}
use Rattle.descriptors.specs.Frames.{longest_frame}
use Rattle.rx_engine.specs.Pieces.{IsLastSize, Piece, frames_of, parts}
use Rattle.rx_engine.specs.Pieces.Piece.{Last}
use Rattle.adapter.specs.HostFrames.{finished_pieces}
use Rattle.adapter.specs.World.{World}
use Rattle.adapter.specs.bus_types.bus.Bus.{Ghosts}
use Rattle.adapter.specs.Calls.{Moment, Ran, frames_ended, in_world_of, only, receive_loads}
use Rattle.adapter.specs.OldestSlot.{LooksAtSlot}
use Rattle.driver.specs.Parts.{FillBuffers, IsFrameSize}
use Rattle.driver.specs.declared.look.Run.{Run}
use Rattle.driver.specs.declared.parts.TheConstants.{MOST_PARTS}

-- The greatest length in a receive descriptor, which has 16 bits ("3.2.3 Receive Descriptor Format").
abbrev pub greatest_length : ℕ
greatest_length = 65535

-- A piece of a whole frame may have this size: the last piece if `ends`, otherwise a piece before the last.
abbrev pub IsPartSize : (ends : Bool) → ℕ → Type 0
IsPartSize true n = IsLastSize receive_buffer_bytes n
IsPartSize false n = n ≡ receive_buffer_bytes

-- whether this descriptor has EOP: a frame ends in the slot
abbrev pub ends : RxDesc → Bool
ends descriptor = is_set (status_bits descriptor.status) eop

-- A slot with this descriptor may contain a piece of a whole frame. The descriptor has no errors, and its length is
-- the size of such a piece.
pub record IsSoundPart (descriptor : RxDesc) : Type 0 where
  pub no_errors : descriptor.errors ≡ 0
  pub size : IsPartSize (ends descriptor) descriptor.length

-- The run has one to six slots, and at most `outstanding`. Its length is the sum of the slots' lengths. If the run is
-- whole, its length is legal, each buffer before the last is full, and the last contains at least one byte.
pub record IsLookedRun (outstanding : ℕ) (run : Run) : Type 0 where
  -- `lengths` has an item for each of at most six slots
  pub room : length run.lengths ≡ MOST_PARTS
  pub least : 1 ≤ run.count
  pub most : run.count ≤ MOST_PARTS
  -- all slots of the run are outstanding
  pub inside : run.count ≤ outstanding
  pub length_is : run.length ≡ sum (take run.count run.lengths)
  pub size : IsTrue run.whole → IsFrameSize run.length
  pub full : IsTrue run.whole → FillBuffers (take run.count run.lengths)

-- Over a bus that obeys the law

-- The descriptor of the slot that is `places` places after the oldest was loaded, and shows whether this slot is finished.
abbrev pub LooksAtPlace : {B : Type 0} → Ghosts B → (places : ℕ) → RxDesc → (up : Bool) → (old new : Moment B) → Type 0
LooksAtPlace bus places descriptor up old new = LooksAtSlot bus up places descriptor old new.bus

-- The descriptors of the finished slots were loaded, and that of the next outstanding slot if there is one. After the
-- loads, no frame ends in finished slots.
pub record FindsNoFrame {B : Type 0} (bus : Ghosts B) (up : Bool) (old new : Moment B) : Type 0 where
  pub none : frames_ended (in_world_of bus new) ≡ []
  pub loads : ℕ
  pub loads_are : loads ≡ min (suc (length (finished_pieces new.driver.oldest_receive (bus.world new.bus)))) (length new.driver.buffers)
  pub ran : Ran bus up (only (receive_loads old.driver.layout old.driver.oldest_receive loads)) old new

-- The run consists of the slots of a whole frame: the parts `seen`, and its last piece.
pub record IsRunOf (run : Run) (seen : List (List ℕ)) (last : List ℕ) : Type 0 where
  pub count : run.count ≡ length seen + 1
  pub lengths : take run.count run.lengths ≡ map length (seen ++ last ∷ [])
  pub length_is : run.length ≡ length (concat seen ++ last)
  pub whole : IsTrue run.whole

-- After the loads of their descriptors, the oldest finished slots contain a whole frame, and `run` consists of its slots.
pub record FindsFrame {B : Type 0} (bus : Ghosts B) (run : Run) (up : Bool) (old new : Moment B) : Type 0 where
  pub seen : List (List ℕ)
  pub last : List ℕ
  pub later : List Piece
  pub pieces : finished_pieces new.driver.oldest_receive (bus.world new.bus) ≡ parts seen ++ Last last ∷ later
  pub is_run : IsRunOf run seen last
  pub ran : Ran bus up (only (receive_loads old.driver.layout old.driver.oldest_receive run.count)) old new

-- What `look` found, by its result: no frame for `None`, the slots of a whole frame for `Some`.
abbrev pub LooksAt : {B : Type 0} → Ghosts B → Option Run → (up : Bool) → (old new : Moment B) → Type 0
LooksAt bus None = FindsNoFrame bus
LooksAt bus (Some run) = FindsFrame bus run

-- The last look at slots, in the world between its last load and the next access. `oldest` is the place of the oldest slot, and `rest` are
-- the buffers of the outstanding slots. The look loads descriptors up to that of the first slot that isn't finished.
pub record IsLook (oldest : ℕ) (rest : List ℕ) (world : World) (loads : ℕ) : Type 0 where
  -- no frame ends in finished slots
  pub none_left : frames_of (finished_pieces oldest world) ≡ []
  -- The number of finished slots, times the size of a receive buffer, is at most the longest frame's size: at most five slots.
  pub short : receive_buffer_bytes * length (finished_pieces oldest world) ≤ longest_frame
  -- the number of loads is the number of finished slots, plus one if there is a next outstanding slot
  pub loads_are : loads ≡ min (suc (length (finished_pieces oldest world))) (length rest)
