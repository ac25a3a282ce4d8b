-- What a driver that is ready does with its receive slots. Each action is an interval of the driver's run.
use Rattle.std.specs.Prelude.{◌≡◌, ◌≤◌, ◌<◌, ◌+◌, ◌*◌, ◌++◌, ◌∷◌, ℕ, Bool, List, [], All, length, map}
use Rattle.dma_memory.specs.Owners.{HaveSameNumbers, copies}
use Rattle.dma_memory.specs.Layout.{receive_buffer_bytes}
use Rattle.descriptors.specs.Frames.{IsLegal, longest_frame}
use Rattle.descriptors.specs.RingLaws.{place}
use Rattle.std.specs.List.{concat}
use Rattle.rx_engine.specs.Pieces.{IsLastSize, Piece, parts}
use Rattle.rx_engine.specs.Pieces.Piece.{Last}
use Rattle.adapter_model.specs.HostFrames.{finished_pieces, piece_in}
use Rattle.adapter_model.specs.Slots.{finished}
use Rattle.adapter_model.specs.World.{World, world_after_store}
use Rattle.bus.specs.RegisterSetting.{with_tail}
use Rattle.bus.specs.DriversSlots.{frame_named}
use Rattle.bus.specs.Pasts.{nothing}
use Rattle.bus.specs.DriverState.{DriverState, HandedOut, buffer_at, next_receive, piece_numbers, receive_slot, with_owners}
use Rattle.bus.specs.Calls.{GoesTo, driver_did, driver_in}
use Rattle.bus.specs.ReadyDrivers.{ReadyWith, Stands, empty_descriptor}

-- A buffer is taken from the pool, and the descriptor of the next slot is stored with this buffer. After that, at least
-- one slot must remain that is neither outstanding nor staged.
abbrev pub SlotsCanBeStaged : Type 0
SlotsCanBeStaged =
    (up : Bool) (d : DriverState) (number : ℕ) (pool : List ℕ) (world : World) → ReadyWith up d world
    → length d.buffers + length d.staged + 1 < d.layout.rx → number < d.layout.buffers → HaveSameNumbers d.pool (number ∷ pool)
    → GoesTo up (driver_in d world)
    (driver_in (with_owners d d.buffers (d.staged ++ number ∷ []) pool d.handed_out)
    (world_after_store (receive_slot (next_receive d)) (empty_descriptor (buffer_at d.layout number)) world))
    (driver_did [] []) nothing

-- All staged slots are offered by one write of RDT.
abbrev pub StagedCanBeOffered : Type 0
StagedCanBeOffered =
    (up : Bool) (d : DriverState) (world : World) → ReadyWith up d world
    → GoesTo up (driver_in d world)
    (driver_in (with_owners d (d.buffers ++ d.staged) [] d.pool d.handed_out) (with_tail (next_receive d) world))
    (driver_did [] []) nothing

-- The pieces in these slots, in order, each with the number of its buffer. The slots are the addresses of their descriptors.
abbrev pub pieces_in : World → (slots numbers : List ℕ) → List HandedOut
pieces_in world [] numbers = []
pieces_in world (slot ∷ slots) [] = []
pieces_in world (slot ∷ slots) (number ∷ numbers) = record { number = number; bytes = frame_named world slot } ∷ pieces_in world slots
    numbers

-- The driver after its `count` oldest receive slots left the ring. The remaining outstanding slots have the buffers `others`, and others
-- hold the pieces in the last list.
abbrev pub after_slots : DriverState → (count : ℕ) → (others : List ℕ) → List HandedOut → DriverState
after_slots d count others handed_out = record d
    { oldest_receive = place d.layout.rx d.oldest_receive count; buffers = others; handed_out = handed_out }

-- The oldest finished slots, `run`, contain one whole frame: the parts `seen`, and then its last piece. The buffers of these slots are
-- `numbers`, the first of the driver's outstanding buffers.
pub record ContainFrame (d : DriverState) (world : World) (numbers run : List ℕ) (seen : List (List ℕ)) (last : List ℕ) : Type 0 where
  pub others : List ℕ
  pub buffers : d.buffers ≡ numbers ++ others
  pub later : List ℕ
  pub slots : finished d.oldest_receive world ≡ run ++ later
  pub count : length numbers ≡ length run
  pub pieces : map (piece_in world.memory) run ≡ parts seen ++ Last last ∷ []

-- If the oldest finished slots contain one whole frame, the driver can take these slots. After that, others hold the
-- pieces of the frame.
abbrev pub RunCanBeTaken : Type 0
RunCanBeTaken =
    (up : Bool) (d : DriverState) (numbers run : List ℕ) (seen : List (List ℕ)) (last : List ℕ) (world : World) → ReadyWith up d world
    → (contain : ContainFrame d world numbers run seen last)
    → GoesTo up (driver_in d world)
    (driver_in (after_slots d (length numbers) contain.others (d.handed_out ++ pieces_in world run numbers)) world)
    (driver_did ((concat seen ++ last) ∷ []) []) nothing

-- The pieces `seen`, and then `last`, make up a legal frame. Each piece except the last fills its buffer. The last has at least one byte,
-- and fits into its buffer.
pub record AreOfFrame (seen : List (List ℕ)) (last : List ℕ) : Type 0 where
  pub legal : IsLegal (concat seen ++ last)
  pub full : All (λ bytes. length bytes ≡ receive_buffer_bytes) seen
  pub last_size : IsLastSize receive_buffer_bytes (length last)

-- If the oldest finished slots contain one whole frame, `AreOfFrame` holds for its pieces. The slots' buffers contain the bytes of these
-- pieces.
abbrev pub RunIsOfFrame : Type 0
RunIsOfFrame =
    (up : Bool) (d : DriverState) (numbers run : List ℕ) (seen : List (List ℕ)) (last : List ℕ) (world : World) → ReadyWith up d world
    → (contain : ContainFrame d world numbers run seen last)
    → AreOfFrame seen last × (map (λ (one : HandedOut). one.bytes) (pieces_in world run numbers) ≡ seen ++ last ∷ [])

-- The buffers of the pieces before the first piece that ends a frame have together at most the size of the longest frame. So there are at
-- most five such pieces, of 256 bytes each.
abbrev pub PartsAreFew : Type 0
PartsAreFew =
    (up : Bool) (d : DriverState) (seen : List (List ℕ)) (later : List Piece) (world : World) → ReadyWith up d world
    → finished_pieces d.oldest_receive world ≡ parts seen ++ later → receive_buffer_bytes * length seen ≤ longest_frame

-- Buffers return to the pool from the pieces that others hold. The number of owners of each buffer is the same, and the remaining pieces
-- are in their buffers.
abbrev pub BuffersCanComeBack : Type 0
BuffersCanComeBack =
    (up : Bool) (d : DriverState) (pool : List ℕ) (handed_out : List HandedOut) (world : World) → ReadyWith up d world
    → ((k : ℕ) → copies k pool + copies k (piece_numbers handed_out) ≡ copies k d.pool + copies k (piece_numbers d.handed_out))
    → All (Stands d.layout world.memory) handed_out
    → GoesTo up (driver_in d world) (driver_in (with_owners d d.buffers d.staged pool handed_out) world) (driver_did [] []) nothing
