-- A driver takes a run of its oldest finished receive slots, of which only the last contains the end of a frame. Then the slot after the
-- run is the oldest one.
use Rattle.std.specs.Prelude.{◌≡◌, ◌++◌, ℕ, List, [], ◌∷◌, All, length, map}
use Rattle.std.specs.List.{concat}
use Rattle.descriptors.specs.Frames.{IsLegal}
use Rattle.descriptors.specs.Ring.{address_of, count_of, slots_from}
use Rattle.descriptors.specs.RingLaws.{place}
use Rattle.rx_engine.specs.Descriptors.{descriptor_at}
use Rattle.rx_engine.specs.Pieces.{IsLastSize, frames_of, parts}
use Rattle.rx_engine.specs.Pieces.Piece.{Last}
use Rattle.adapter_model.specs.Conditions.{AreCut, FitBuffers, Sound}
use Rattle.adapter_model.specs.HostAreas.{IsForeign}
use Rattle.adapter_model.specs.HostFrames.{finished_pieces, frames_held, named, piece_in}
use Rattle.adapter_model.specs.Slots.{finished, outstanding}
use Rattle.adapter_model.specs.World.{World, receive_ring}
use Rattle.bus.specs.DriversSlots.{IsDriversSlot, frame_named}

-- The places of a run's slots in the ring, from the oldest slot on.
abbrev pub places_of_run : ℕ → List ℕ → World → List ℕ
places_of_run oldest run world = slots_from (count_of (receive_ring world)) oldest (length run)

-- The place after the slots of a run.
abbrev pub after_run : ℕ → List ℕ → World → ℕ
after_run oldest run world = place (count_of (receive_ring world)) oldest (length run)

-- The frame of a run, if frames are cut into buffers of one size. The frame is legal, its parts fill their buffers, its last piece fits
-- into a buffer, and no descriptor of the run reports an error. The frames in the other slots are cut in the same way.
pub record IsCutRun (size oldest_receive : ℕ) (world : World) (run : List ℕ) (seen : List (List ℕ)) (last : List ℕ) : Type 0 where
  pub legal : IsLegal (concat seen ++ last)
  pub full : All (λ bytes. length bytes ≡ size) seen
  pub last_size : IsLastSize size (length last)
  pub have_no_errors : All (λ slot. (descriptor_at world.memory slot).errors ≡ 0) run
  pub others : AreCut size (after_run oldest_receive run world) world

-- A run of the oldest slots becomes the driver's.
pub record RunBecomesDrivers (oldest_receive : ℕ) (world : World) (run : List ℕ) : Type 0 where
  -- The slots follow one another in the ring, from the oldest one on.
  pub stand : run ≡ map (address_of (receive_ring world)) (places_of_run oldest_receive run world)
  -- The slots of the run are no longer outstanding.
  pub first : outstanding (receive_ring world) oldest_receive
      ≡ run ++ outstanding (receive_ring world) (after_run oldest_receive run world)
  -- The slots of the run are the driver's.
  pub own : All (IsDriversSlot (receive_ring world) (after_run oldest_receive run world)) (places_of_run oldest_receive run world)
  -- The adapter may not write the pieces in the slots.
  pub foreign : All (λ slot. IsForeign world (named world.memory slot)) run

-- The slots contain parts of a frame, and then its last piece.
pub record RunContainsFrame (oldest_receive : ℕ) (world : World) (run : List ℕ) (seen : List (List ℕ)) (last : List ℕ) : Type 0 where
  -- The bytes in the slots' buffers, and the lengths in their descriptors, are those of the pieces.
  pub bytes : map (frame_named world) run ≡ seen ++ last ∷ []
  pub sizes : map (λ slot. (descriptor_at world.memory slot).length) run ≡ map length (seen ++ last ∷ [])
  -- The frame is removed from the front of the frames held.
  pub held : frames_held oldest_receive world ≡ (concat seen ++ last) ∷ frames_held (after_run oldest_receive run world) world
  -- The frame is removed from the front of the frames that end in finished slots.
  pub ended : frames_of (finished_pieces oldest_receive world)
      ≡ (concat seen ++ last) ∷ frames_of (finished_pieces (after_run oldest_receive run world) world)

-- If the driver counts the slot after the run as its oldest, the conditions hold again.
pub record RunTaken (oldest_receive oldest_transmit : ℕ) (world : World) (run : List ℕ) (seen : List (List ℕ)) (last : List ℕ)
    : Type 0 where
  pub slots : RunBecomesDrivers oldest_receive world run
  pub frame : RunContainsFrame oldest_receive world run seen last
  pub sound : Sound (after_run oldest_receive run world) oldest_transmit world
  -- The other finished slots are still finished.
  pub behind : finished oldest_receive world ≡ run ++ finished (after_run oldest_receive run world) world
  -- Pieces that fit into buffers of some size still fit.
  pub fits : (size : ℕ) → FitBuffers size oldest_receive world → FitBuffers size (after_run oldest_receive run world) world
  -- If frames are cut into buffers of some size, the frame of the run and the other frames are cut in this way.
  pub cut : (size : ℕ) → AreCut size oldest_receive world → IsCutRun size oldest_receive world run seen last

-- If the conditions hold, the driver can take its oldest finished slots, `run`, if they contain parts of a frame and then its last piece.
abbrev pub RunsCanBeTaken : Type 0
RunsCanBeTaken =
    (oldest_receive oldest_transmit : ℕ) (world : World) (run : List ℕ) (seen : List (List ℕ)) (last : List ℕ) (later : List ℕ)
    → Sound oldest_receive oldest_transmit world → finished oldest_receive world ≡ run ++ later
    → map (piece_in world.memory) run ≡ parts seen ++ Last last ∷ []
    → RunTaken oldest_receive oldest_transmit world run seen last
