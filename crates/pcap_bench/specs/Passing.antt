-- The fate of each frame of a trace, and what `pass` writes. (our choice)
use Rattle.std.specs.Prelude.{◌≡◌, ◌+◌, ℕ, List, [], ◌∷◌, length, take, Bool, true, false, ⊤, Option, count_by}
use Rattle.std.specs.Io.KnownBytes.{Appends}
use Rattle.descriptors.specs.Frames.{padded, is_sendable}
use Rattle.pcap_trace.specs.Devices.{AppendsFront}
use Rattle.pcap_trace.specs.Format.{Timed, written}
use Rattle.pcap_trace.specs.declared.unit.Unit.{Unit}
use Rattle.pcap_bench.specs.declared.counts.PassCounts.{PassCounts}
use Rattle.scenario_bench.specs.declared.bench_error.BenchError.{BenchError}
use Rattle.scenario_bench.specs.declared.bench_error.BenchError.TheVariants as errors

-- which padded frames a filter keeps
abbrev pub Filter : Type 1
Filter = List ℕ → Type 0

-- ---- the fate of each frame

-- the fate of a frame: its size is illegal, the filter rejects it, or the filter accepts it
pub data Fate : Type 0 where
  illegal : Fate
  filtered : Fate
  kept : Fate

-- A frame below 14 or above 1,518 bytes is illegal. Another frame is kept if `keeps` holds of the frame padded to at least 60 bytes, else
-- filtered.
abbrev pub IsFateBy : Filter → List ℕ → Fate → Type 0
IsFateBy keeps frame illegal = is_sendable frame ≡ false
IsFateBy keeps frame filtered = (is_sendable frame ≡ true) × (keeps (padded frame) → ⊥)
IsFateBy keeps frame kept = (is_sendable frame ≡ true) × keeps (padded frame)

-- The number of fates is the number of frames, and each frame has the fate at its index.
abbrev pub HaveFates : Filter → List (List ℕ) → List Fate → Type 0
HaveFates keeps [] [] = ⊤
HaveFates keeps [] (t ∷ ts) = ⊥
HaveFates keeps (f ∷ fs) [] = ⊥
HaveFates keeps (f ∷ fs) (t ∷ ts) = IsFateBy keeps f t × HaveFates keeps fs ts

-- whether this is the fate of a frame of an illegal size
abbrev pub is_illegal_fate : Fate → Bool
is_illegal_fate illegal = true
is_illegal_fate filtered = false
is_illegal_fate kept = false

-- whether this is the fate of a frame that the filter rejects
abbrev pub is_filtered : Fate → Bool
is_filtered illegal = false
is_filtered filtered = true
is_filtered kept = false

-- whether this is the fate of a frame that the filter accepts
abbrev pub is_kept : Fate → Bool
is_kept illegal = false
is_kept filtered = false
is_kept kept = true

-- the frames that are kept, padded, each with its number among all frames, from n on, as its time
abbrev pub kept_from : ℕ → List (List ℕ) → List Fate → List Timed
kept_from n [] ts = []
kept_from n (f ∷ fs) [] = []
kept_from n (f ∷ fs) (illegal ∷ ts) = kept_from (n + 1) fs ts
kept_from n (f ∷ fs) (filtered ∷ ts) = kept_from (n + 1) fs ts
kept_from n (f ∷ fs) (kept ∷ ts) = record { time = n; frame = padded f } ∷ kept_from (n + 1) fs ts

-- ---- the call

-- The written form, in this unit, of the kept frames was written, and each fate is counted.
pub record WritesKept (unit : Unit) (keeps : Filter) (frames : List (List ℕ)) (counts : PassCounts) (before after : Option (List ℕ))
    : Type 0 where
  -- the fate of each frame
  pub fates : List Fate
  -- these are the fates of the frames, in order
  pub right : HaveFates keeps frames fates
  -- the kept frames were written, padded, each with its number
  pub went : Appends before after (written unit (kept_from 0 frames fates))
  -- all frames are counted
  pub read_is : counts.read ≡ length frames
  -- the frames of illegal sizes are counted
  pub illegal_is : counts.illegal ≡ count_by is_illegal_fate fates
  -- the frames that the filter rejects are counted
  pub filtered_is : counts.filtered ≡ count_by is_filtered fates
  -- the frames that are written are counted
  pub written_is : counts.written ≡ count_by is_kept fates

-- The fates of the first `count` frames were decided. A beginning of the written form of the kept frames among them was written.
pub record StopsAmong (unit : Unit) (keeps : Filter) (frames : List (List ℕ)) (before after : Option (List ℕ)) : Type 0 where
  -- the number of frames whose fate was decided
  pub count : ℕ
  -- their fates
  pub fates : List Fate
  -- these are the fates of the first `count` frames, in order
  pub right : HaveFates keeps (take count frames) fates
  -- a beginning of the written form of the kept frames was written
  pub went : AppendsFront before after (written unit (kept_from 0 (take count frames) fates))

-- A pass has no plan and runs no events, so it ends only with these errors. If memory is refused, nothing was written, and the sink counts
-- no failure. If a write failed, the sink counts one failure more.
abbrev pub StopsBy : BenchError → Option (List ℕ) → Option (List ℕ) → ℕ → ℕ → Type 0
StopsBy (errors.Plan error) before after old new = ⊥
StopsBy (errors.Run stopped) before after old new = ⊥
StopsBy errors.Memory before after old new = (after ≡ before) × (new ≡ old)
StopsBy (errors.Write error) before after old new = new ≡ old + 1
