-- What was written to sinks of traces (our choice).
use Rattle.std.specs.Prelude.{◌≡◌, ◌<◌, ◌≤◌, ◌+◌, ℕ, List, Option, Some, length, map, slice_get}
use Rattle.std.specs.Io.KnownBytes.{Appends}
use Rattle.pcap_trace.specs.Devices.{AppendsFront}
use Rattle.pcap_trace.specs.Format.{Timed, written}
use Rattle.pcap_trace.specs.declared.unit.Unit.{Unit}

-- the state of a sink: what it has taken, and how often it has failed
pub record SinkState : Type 0 where
  -- the bytes that the sink has taken, if contracts know them
  pub taken : Option (List ℕ)
  -- the number of the sink's failures
  pub failures : ℕ

-- the states of these sinks, in order
abbrev pub states_of : {S : Type 0} → (taken : S → Option (List ℕ)) → (failures : S → ℕ) → List S → List SinkState
states_of {S} taken failures sinks = map (λ (sink : S). record { taken = taken sink; failures = failures sink }) sinks

-- The sink has also taken the whole trace of the frames `text`, with times in this unit, and hasn't failed again.
pub record TakesText (unit : Unit) (text : List Timed) (old new : SinkState) : Type 0 where
  -- the bytes of the trace were appended
  pub taken : Appends old.taken new.taken (written unit text)
  -- the sink didn't fail
  pub failures : new.failures ≡ old.failures

-- The sink has also taken a beginning of the trace of the frames `text`, with times in this unit, and has failed once more.
pub record FailsAmong (unit : Unit) (text : List Timed) (old new : SinkState) : Type 0 where
  -- a beginning of the trace's bytes was appended: perhaps no byte, or all bytes
  pub taken : AppendsFront old.taken new.taken (written unit text)
  -- the sink failed once more
  pub failures : new.failures ≡ old.failures + 1

-- Each of the first `count` sinks has also taken its whole trace, without a failure; the other sinks are unchanged. Sink k has text k.
pub record AreWritten (unit : Unit) (count : ℕ) (texts : List (List Timed)) (old new : List SinkState) : Type 0 where
  -- the number of sinks didn't change
  pub sinks : length new ≡ length old
  -- each sink k before `count` has taken the trace of text k
  pub whole : (k : ℕ) (text : List Timed) (before after : SinkState) → k < count → slice_get texts k ≡ Some text
      → slice_get old k ≡ Some before
      → slice_get new k ≡ Some after → TakesText unit text before after
  -- each sink from `count` on is unchanged
  pub others : (k : ℕ) → count ≤ k → slice_get new k ≡ slice_get old k

-- Each sink before sink `failed` has also taken its whole trace, without a failure. Sink `failed` has taken a beginning of its trace, and
-- has failed. The sinks after it are unchanged.
pub record AreWrittenUpTo (unit : Unit) (failed : ℕ) (texts : List (List Timed)) (old new : List SinkState) : Type 0 where
  -- the number of sinks didn't change
  pub sinks : length new ≡ length old
  -- sink `failed` exists
  pub sink : failed < length old
  -- sink `failed` has a text
  pub there : failed < length texts
  -- each sink k before `failed` has taken the trace of text k
  pub whole : (k : ℕ) (text : List Timed) (before after : SinkState) → k < failed → slice_get texts k ≡ Some text
      → slice_get old k ≡ Some before
      → slice_get new k ≡ Some after → TakesText unit text before after
  -- sink `failed` has taken a beginning of its trace, and has failed
  pub fails : (text : List Timed) (before after : SinkState) → slice_get texts failed ≡ Some text → slice_get old failed ≡ Some before
      → slice_get new failed ≡ Some after → FailsAmong unit text before after
  -- each sink after `failed` is unchanged
  pub others : (k : ℕ) → failed < k → slice_get new k ≡ slice_get old k
