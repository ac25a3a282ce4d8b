-- What is counted and recorded during a run (our choice).
use Rattle.std.specs.Prelude.{◌≡◌, ◌==◌, ◌+◌, ℕ, Bool, true, false, List, [], ◌∷◌, Option, Some}
use Rattle.std.specs.Prelude.{None, if◌then◌else◌, length, min, option_map, slice_get, sum_by}
use Rattle.std.specs.List.{fold}
use Rattle.rx_engine.specs.declared.arrival.Fate.{Fate}
use Rattle.rx_engine.specs.declared.arrival.Fate.TheVariants as fate
use Rattle.host_calls.specs.Happenings.{Happening, Accepted, Put, Reached, Given, GivenUp as HasGivenUp, of_host}
use Rattle.network_plan.specs.Answers.{FrameAnswer}
use Rattle.network_plan.specs.declared.reply.Answer.TheVariants as answer
use Rattle.adapter.specs.Outcomes.{FrameOutcome}
use Rattle.adapter.specs.model_types.outcome.Outcome.TheVariants as outcome
use Rattle.run_record.specs.Acts.{Act, history}
use Rattle.run_record.specs.Numbers.{greatest_act_number, next_number}
use Rattle.run_record.specs.Kept.{FramesGrow, PutsGrow, put_from, returned_from}
use Rattle.run_record.specs.RunLogs.{AreLogged}
use Rattle.run_record.specs.declared.record.Record.{Record}
use Rattle.run_record.specs.declared.tally.GivenUp.{GivenUp}
use Rattle.run_record.specs.declared.tally.Passage.{Passage}
use Rattle.run_record.specs.declared.tally.Passage.TheVariants as passage
use Rattle.run_record.specs.declared.tally.Tally.{Tally}

-- What is counted.

-- the number of frames that sockets of the k-th host returned in a happening: 1 or 0
abbrev pub count_given : ℕ → Happening → ℕ
count_given k (Given host socket frame) = if k == host then 1 else 0
count_given k one = 0

-- the number of frames that sockets of the k-th host returned in these happenings
abbrev pub all_given : ℕ → List Happening → ℕ
all_given k happened = sum_by (count_given k) happened

-- the frame of a happening, if the frame reached the k-th host's adapter while its receive side was disabled
abbrev pub off_by : ℕ → Happening → List (List ℕ)
off_by k (Reached host frame fate.Off) = of_host k host (frame ∷ [])
off_by k one = []

-- whether a happening is `GivenUp` at the k-th host
abbrev pub is_given_up_at : ℕ → Happening → Bool
is_given_up_at k (HasGivenUp host sending holding) = k == host
is_given_up_at k one = false

-- Counts of a host.

-- the counts of a host after a passage at this host
abbrev pub counted_once : Passage → Tally → Tally
counted_once passage.Accepted tally = record tally { accepted = next_number tally.accepted }
counted_once passage.Put tally = record tally { put = next_number tally.put }
counted_once passage.Reached tally = record tally { reached = next_number tally.reached }
counted_once passage.Off tally = record tally { reached = next_number tally.reached; off = next_number tally.off }
counted_once passage.Stored tally = record tally { reached = next_number tally.reached; stored = next_number tally.stored }
counted_once passage.Given tally = record tally { given = next_number tally.given }

-- the counts of the k-th host after a passage at host `host`
abbrev pub counted_at : (k host : ℕ) → Passage → Tally → Tally
counted_at k host one tally = if k == host then counted_once one tally else tally

-- the passage of a frame that reached an adapter, by the frame's fate
abbrev pub passage_by : Fate → Passage
passage_by fate.Stored = passage.Stored
passage_by fate.Off = passage.Off
passage_by _ = passage.Reached

-- this number plus `more`, but at most the greatest number
abbrev pub grown_by : (more : ℕ) → ℕ → ℕ
grown_by more number = min (number + more) greatest_act_number

-- the counts of a host after its reset, which gave up these numbers of frames
abbrev pub tally_given_up : (sending holding : ℕ) → Tally → Tally
tally_given_up sending holding tally =
    record tally { sending = grown_by sending tally.sending; holding = grown_by holding tally.holding; is_reset = true }

-- the counts of the k-th host after a reset of host `host`, which gave up these numbers of frames
abbrev pub given_up_at : (k host sending holding : ℕ) → Tally → Tally
given_up_at k host sending holding tally = if k == host then tally_given_up sending holding tally else tally

-- The numbers of frames that resets gave up, and of frames that reached the adapter while its receive side was disabled. `None` if there
-- was no reset.
abbrev pub resets_in : Tally → Option GivenUp
resets_in tally =
    if tally.is_reset then Some (record { sending = tally.sending; holding = tally.holding; off = tally.off }) else None

-- the happening that the answer of a reset reports; other answers report none
abbrev pub given_up_of : (host : ℕ) → FrameAnswer → List Happening
given_up_of host (answer.Reset sending holding on_after) = HasGivenUp host sending.items holding.items ∷ []
given_up_of host one = []

-- the k-th host's counts after a happening
abbrev pub tallied_by : ℕ → Tally → Happening → Tally
tallied_by k tally (Accepted host frame) = counted_at k host passage.Accepted tally
tallied_by k tally (Put host frame) = counted_at k host passage.Put tally
tallied_by k tally (Reached host frame one) = counted_at k host (passage_by one) tally
tallied_by k tally (Given host socket frame) = counted_at k host passage.Given tally
tallied_by k tally (HasGivenUp host sending holding) = given_up_at k host (length sending) (length holding) tally
tallied_by k tally one = tally

-- the counts of a host before a run
abbrev pub no_tally : Tally
no_tally = record {
  accepted = 0;
  put = 0;
  reached = 0;
  stored = 0;
  given = 0;
  sending = 0;
  holding = 0;
  off = 0;
  is_reset = false;
}

-- The record of events and drains.

-- The k-th host's counts after these happenings.
abbrev pub tally_behind : List Happening → ℕ → Tally → Tally
tally_behind happened k tally = fold (tallied_by k) tally happened

-- The number of hosts didn't change, and the counts of each host changed as these happenings change them.
abbrev pub TalliesGrow : List Happening → (old new : List Tally) → Type 0
TalliesGrow happened old new = (k : ℕ) → slice_get new k ≡ option_map (tally_behind happened k) (slice_get old k)

-- the number of the event or drain after these acts, the first of which has the number `number`
abbrev pub number_behind : ℕ → List Act → ℕ
number_behind number acts = fold (λ n act. next_number n) number acts

-- These acts are recorded: their happenings are counted, and their frames, refusals and lines are added as far as `old` records them.
pub record AreNoted (acts : List Act) (old new : Record) : Type 0 where
  pub number : new.number ≡ number_behind old.number acts
  pub hosts : TalliesGrow (history acts) old.hosts.items new.hosts.items
  pub returned : FramesGrow (returned_from old.number acts) old.returned new.returned
  pub puts : PutsGrow (put_from old.number acts) old.puts new.puts
  pub logged : AreLogged acts old new

-- Changes of counts by the parts of an act.

-- one passage at this host was counted, if the host exists; the other counts are unchanged
abbrev pub TallyCounts : (host : ℕ) → Passage → (old new : List Tally) → Type 0
TallyCounts host one old new = (k : ℕ) → slice_get new k ≡ option_map (counted_at k host one) (slice_get old k)

-- The numbers of frames that a reset of this host gave up were counted, if the host exists. The counts of other hosts are unchanged.
abbrev pub TallyGivesUp : (host sending holding : ℕ) → (old new : List Tally) → Type 0
TallyGivesUp host sending holding old new =
    (k : ℕ) → slice_get new k ≡ option_map (given_up_at k host sending holding) (slice_get old k)

-- `found` is the passage in an outcome, or `None` if the outcome isn't counted.
abbrev pub IsPassage : FrameOutcome → Option Passage → Type 0
IsPassage (outcome.Put frame) found = found ≡ Some passage.Put
IsPassage (outcome.Delivered frame one) found = found ≡ Some (passage_by one)
IsPassage one found = found ≡ None
