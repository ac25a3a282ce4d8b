-- Notes of the ticks of a reset (our choice): the number of frames that the host put after at most 2 accesses, and the
-- frames stored before the first access.
use Rattle.std.specs.Prelude.{◌≡◌, ◌≤◌, ◌+◌, ◌++◌, ◌&&◌, ◌==◌, [], ◌∷◌, ℕ, Bool, false, List, length, min, nat_le, take, if◌then◌else◌}
use Rattle.std.specs.List.{flat_map}
use Rattle.rx_engine.specs.declared.arrival.Fate.TheVariants.{Stored}
use Rattle.adapter.specs.Outcomes.{FrameOutcome}
use Rattle.adapter.specs.model_types.outcome.Outcome.TheVariants.{Delivered, Put}
use Rattle.adapter.specs.LivelyBuses.{most_accesses}
use Rattle.stations.specs.declared.tick.Tick.{Tick}
use Rattle.stations.specs.declared.tick.Tick.TheVariants.{Deliver, Go, Step}
use Rattle.stations.specs.ToldTicks.{TickTold}

-- whether the tick is a step or a delivery at this host
abbrev pub is_of_host : (host : ℕ) → Tick → Bool
is_of_host host Go = false
is_of_host host (Step other kind) = other == host
is_of_host host (Deliver other) = other == host

-- the frame that was put, if any, as a list
abbrev pub frames_put : FrameOutcome → List (List ℕ)
frames_put (Put frame) = frame ∷ []
frames_put outcome = []

-- the frame that was stored, if any, as a list
abbrev pub frames_stored : FrameOutcome → List (List ℕ)
frames_stored (Delivered frame Stored) = frame ∷ []
frames_stored outcome = []

-- the frame that the host put in this tick, if any, as a list; empty if more than 2 accesses came before the tick
abbrev pub early_put : (host : ℕ) → TickTold → List (List ℕ)
early_put host told = if is_of_host host told.tick && nat_le told.accesses 2 then frames_put told.outcome else []

-- the frame that the host stored in this tick, if any, as a list; empty if an access came before the tick
abbrev pub first_stored : (host : ℕ) → TickTold → List (List ℕ)
first_stored host told = if is_of_host host told.tick && told.accesses == 0 then frames_stored told.outcome else []

-- The notes of the ticks of the host `host`. `put` is the number of frames that the host put after at most 2 accesses,
-- which saturates at the greatest u64. `holding` are at most `most` frames: those held at the start, followed by those
-- stored before the first access.
pub record Notes : Type 0 where
  pub host : ℕ
  pub most : ℕ
  pub put : ℕ
  pub holding : List (List ℕ)

-- The count of frames put is at most the greatest u64, and at most `most` frames are noted.
pub record NotesFit (notes : Notes) : Type 0 where
  pub put : notes.put ≤ most_accesses
  pub holding : length notes.holding ≤ notes.most

-- the notes `before`, after these ticks were noted
abbrev pub noted_after : List TickTold → Notes → Notes
noted_after told before = record {
  host = before.host;
  most = before.most;
  put = min (before.put + length (flat_map (early_put before.host) told)) most_accesses;
  holding = take before.most (before.holding ++ flat_map (first_stored before.host) told);
}

-- The notes `before` became the notes `after` when these ticks were noted, and `after` fit.
pub record Noting (before after : Notes) (told : List TickTold) : Type 0 where
  pub notes : after ≡ noted_after told before
  pub within : NotesFit after

-- If the notes `before` fit (`NotesFit`), `after` are these notes after the ticks were noted, and fit, too.
abbrev pub NotesTicks : Notes → Notes → List TickTold → Type 0
NotesTicks before after told = NotesFit before → Noting before after told
