-- Proofs of the laws of a PHY's history, with their lemmas. Other crates use these lemmas, too.
use Rattle.std.proofs.Common.{◌≡◌, ℕ, ◌+◌, ◌-◌, ◌≤◌, ◌==◌, Bool, true, false, cond, List, [], ◌∷◌, ◌++◌, count_by, nat_le, refl, ap, ◌∙◌}
use Rattle.std.proofs.Common.{◌⊎◌, inl, inr, arith}
use Rattle.std.specs.List.{list_any}
use Rattle.std.proofs.lemmas.Bool.{false≢true, true≢false, or_parts}
use Rattle.std.proofs.lemmas.Bool.Decides.{nat_tests}
use Rattle.std.proofs.lemmas.List.Sums.{sum_by-cons}
use Rattle.registers.specs.Bits.{is_set}
use Rattle.mdic_phy.specs.declared.phy.Link.{Link}
use Rattle.mdic_phy.specs.declared.phy.Link.TheVariants.{After, Never}
use Rattle.mdic_phy.specs.declared.phy.Negotiation.TheVariants.{NotStarted, Running, Complete}
use Rattle.mdic_phy.specs.Phy.{PhyState, new_phy, phy_after_write, phy_after_read, after_tick}
use Rattle.mdic_phy.specs.Phy.{link_is_up, is_complete, counted_down, negotiation_of}
use Rattle.mdic_phy.specs.Phy.{status_value}
use Rattle.mdic_phy.specs.PhyHistory.{PhyEvent, Tick, Read, Write, phy_after, phy_after_all, phy_behind, is_tick_of_phy, is_status_read}
use Rattle.mdic_phy.specs.PhyHistory.{is_control_write, is_phy_reset, is_restart, takes_down, HasNo, LinkByHistory, LatchByHistory}
use Rattle.mdic_phy.specs.PhyHistory.{ControlByHistory}
use Rattle.mdic_phy.specs.WriteLaws.{link-by_tests, not_started-by_tests, reset-by_tests, restart-by_tests, stays-by_tests}
use Rattle.mdic_phy.specs.WriteLaws.{latched-by_tests, still_latched-by_tests, never-by_tests, enabled-by_tests}
use Rattle.mdic_phy.specs.WriteLaws.{enabled_stays-by_tests}
use Rattle.mdic_phy.specs.PhyPlaces.{control_enable, control_reset, control_restart}

-- The PHY after two lists of events, one after the other.
pub phy_after_all-append : (before after : List PhyEvent) (phy : PhyState)
    → phy_after_all (before ++ after) phy ≡ phy_after_all after (phy_after_all before phy)
phy_after_all-append [] after phy = refl
phy_after_all-append (event ∷ before) after phy = phy_after_all-append before after (phy_after event phy)

first_fails : (test : PhyEvent → Bool) (event : PhyEvent) (later : List PhyEvent) → HasNo test (event ∷ later) → test event ≡ false
first_fails test event later none = (or_parts (test event) (list_any test later) none).0

later_fail : (test : PhyEvent → Bool) (event : PhyEvent) (later : List PhyEvent) → HasNo test (event ∷ later) → HasNo test later
later_fail test event later none = (or_parts (test event) (list_any test later) none).1

-- A fact that remains true with each event that fails a test remains true with events that all fail the test.
kept-after_events : (P : PhyState → Type 0) (test : PhyEvent → Bool)
    → ((event : PhyEvent) (phy : PhyState) → test event ≡ false → P phy → P (phy_after event phy))
    → (events : List PhyEvent) (phy : PhyState) → HasNo test events → P phy → P (phy_after_all events phy)
kept-after_events P test kept [] phy none holds = holds
kept-after_events P test kept (event ∷ later) phy none holds =
    kept-after_events P test kept later (phy_after event phy) (later_fail test event later none)
    (kept event phy (first_fails test event later none) holds)

link-after_read : (b : Bool) (phy : PhyState)
    → (let after : PhyState = cond b (record phy { latched_low = false }) phy in after.link) ≡ phy.link
link-after_read true phy = refl
link-after_read false phy = refl

pub link-after_event : (event : PhyEvent) (phy : PhyState) → (phy_after event phy).link ≡ phy.link
link-after_event Tick phy = refl
link-after_event (Read register) phy = link-after_read (register == 1) phy
link-after_event (Write register value) phy = link-by_tests (register == 0) (is_set value control_reset) (is_set value control_enable)
    (is_set value control_restart) phy

pub link-after_events : (events : List PhyEvent) (phy : PhyState) → (phy_after_all events phy).link ≡ phy.link
link-after_events [] phy = refl
link-after_events (event ∷ later) phy = link-after_events later (phy_after event phy) ∙ link-after_event event phy

negotiation-after_read : (b : Bool) (phy : PhyState)
    → (let after : PhyState = cond b (record phy { latched_low = false }) phy in after.negotiation) ≡ phy.negotiation
negotiation-after_read true phy = refl
negotiation-after_read false phy = refl

-- An event that isn't a restart doesn't start negotiation.
pub not_started-after_event : (event : PhyEvent) (phy : PhyState) → is_restart event ≡ false → phy.negotiation ≡ NotStarted
    → (phy_after event phy).negotiation ≡ NotStarted
not_started-after_event Tick phy none idle = ap counted_down idle
not_started-after_event (Read register) phy none idle = negotiation-after_read (register == 1) phy ∙ idle
not_started-after_event (Write register value) phy none idle = not_started-by_tests (register == 0) (is_set value control_reset)
    (is_set value control_enable) (is_set value control_restart) phy none idle

pub not_started-after_events : (events : List PhyEvent) (phy : PhyState) → HasNo is_restart events → phy.negotiation ≡ NotStarted
    → (phy_after_all events phy).negotiation ≡ NotStarted
not_started-after_events = kept-after_events (λ (phy : PhyState). phy.negotiation ≡ NotStarted) is_restart not_started-after_event

pub reset-after_event : (event : PhyEvent) (phy : PhyState) → is_phy_reset event ≡ true → (phy_after event phy).negotiation ≡ NotStarted
reset-after_event Tick phy is = absurd (false≢true is)
reset-after_event (Read register) phy is = absurd (false≢true is)
reset-after_event (Write register value) phy is = reset-by_tests (register == 0) (is_set value control_reset) (is_set value control_enable)
    (is_set value control_restart) phy is

pub restart-after_event : (event : PhyEvent) (phy : PhyState) → is_restart event ≡ true
    → (phy_after event phy).negotiation ≡ negotiation_of phy.link
restart-after_event Tick phy is = absurd (false≢true is)
restart-after_event (Read register) phy is = absurd (false≢true is)
restart-after_event (Write register value) phy is = restart-by_tests (register == 0) (is_set value control_reset)
    (is_set value control_enable) (is_set value control_restart) phy is

-- If the link is set to `Never`, no event starts negotiation.
pub never-after_event : (event : PhyEvent) (phy : PhyState) → phy.link ≡ Never → phy.negotiation ≡ NotStarted
    → (phy_after event phy).negotiation ≡ NotStarted
never-after_event Tick phy never idle = ap counted_down idle
never-after_event (Read register) phy never idle = negotiation-after_read (register == 1) phy ∙ idle
never-after_event (Write register value) phy never idle = never-by_tests (register == 0) (is_set value control_reset)
    (is_set value control_enable) (is_set value control_restart) phy never idle

pub never-after_events : (events : List PhyEvent) (phy : PhyState) → phy.link ≡ Never → phy.negotiation ≡ NotStarted
    → (phy_after_all events phy).negotiation ≡ NotStarted
never-after_events [] phy never idle = idle
never-after_events (event ∷ later) phy never idle =
    never-after_events later (phy_after event phy) (link-after_event event phy ∙ never) (never-after_event event phy never idle)

-- An event that is no reset, no restart and no tick doesn't change negotiation.
pub counted-after_event : (event : PhyEvent) (phy : PhyState) → takes_down event ≡ false → is_tick_of_phy event ≡ false
    → (phy_after event phy).negotiation ≡ phy.negotiation
counted-after_event Tick phy none still = absurd (true≢false still)
counted-after_event (Read register) phy none still = negotiation-after_read (register == 1) phy
counted-after_event (Write register value) phy none still = (stays-by_tests (register == 0) (is_set value control_reset)
    (is_set value control_enable) (is_set value control_restart) phy none).0

-- Without a reset or a restart, complete negotiation remains complete.
complete-after_event : (event : PhyEvent) (phy : PhyState) → takes_down event ≡ false → phy.negotiation ≡ Complete
    → (phy_after event phy).negotiation ≡ Complete
complete-after_event Tick phy none up = ap counted_down up
complete-after_event (Read register) phy none up = counted-after_event (Read register) phy none refl ∙ up
complete-after_event (Write register value) phy none up = counted-after_event (Write register value) phy none refl ∙ up

pub complete-after_events : (events : List PhyEvent) (phy : PhyState) → HasNo takes_down events → phy.negotiation ≡ Complete
    → (phy_after_all events phy).negotiation ≡ Complete
complete-after_events = kept-after_events (λ (phy : PhyState). phy.negotiation ≡ Complete) takes_down complete-after_event

-- A tick ends a countdown of at most 1, and decreases a greater countdown by one.
counted-last : (left : ℕ) → nat_le left 1 ≡ true → counted_down (Running left) ≡ Complete
counted-last left last = rw last refl

counted-more : (left : ℕ) → nat_le left 1 ≡ false → counted_down (Running left) ≡ Running (left - 1)
counted-more left more = rw more refl

count_ticks : (later : List PhyEvent) → count_by is_tick_of_phy (Tick ∷ later) ≡ 1 + count_by is_tick_of_phy later
count_ticks later = sum_by-cons (λ (event : PhyEvent). cond (is_tick_of_phy event) 1 0) Tick later

enough-one_more : (left n m : ℕ) → nat_le left 1 ≡ true → m ≡ 1 + n → true ≡ nat_le left m
enough-one_more left n m last more = grind (arith, nat_tests)

enough-one_less : (left n m : ℕ) → 1 ≤ left → m ≡ 1 + n → nat_le (left - 1) n ≡ nat_le left m
enough-one_less left n m some more = grind (arith, nat_tests)

still_some : (left : ℕ) → nat_le left 1 ≡ false → 1 ≤ left - 1
still_some left more = grind (arith, nat_tests)

either : (b : Bool) → (b ≡ true) ⊎ (b ≡ false)
either true = inl refl
either false = inr refl

-- Without a reset or a restart, a running countdown has ended exactly if at least `left` ticks happened.
pub running-after_events : (events : List PhyEvent) (phy : PhyState) (left : ℕ) → HasNo takes_down events → 1 ≤ left
    → phy.negotiation ≡ Running left
    → is_complete (phy_after_all events phy).negotiation ≡ nat_le left (count_by is_tick_of_phy events)
running-after_events [] phy left none some runs = ap is_complete runs ∙ grind (arith, nat_tests)
running-after_events (Tick ∷ later) phy left none some runs = elim (either (nat_le left 1)) [
  | inl last ↦ ap is_complete (complete-after_events later (after_tick phy) none (ap counted_down runs ∙ counted-last left last))
      ∙ enough-one_more left (count_by is_tick_of_phy later) (count_by is_tick_of_phy (Tick ∷ later)) last (count_ticks later)
  | inr more ↦ running-after_events later (after_tick phy) (left - 1) none (still_some left more)
      (ap counted_down runs ∙ counted-more left more)
      ∙ enough-one_less left (count_by is_tick_of_phy later) (count_by is_tick_of_phy (Tick ∷ later)) some (count_ticks later)
]
running-after_events (Read register ∷ later) phy left none some runs =
    running-after_events later (phy_after_read register phy) left none some (negotiation-after_read (register == 1) phy ∙ runs)
running-after_events (Write register value ∷ later) phy left none some runs =
    running-after_events later (phy_after_write register value phy) left (later_fail takes_down (Write register value) later none) some
    (counted-after_event (Write register value) phy (first_fails takes_down (Write register value) later none) refl ∙ runs)

pub link_by_history : LinkByHistory
link_by_history = record {
  never_started = λ link all none. ap is_complete (not_started-after_events all (new_phy link) none refl);
  reset = λ link before event after is none.
      ap link_is_up (phy_after_all-append before (event ∷ after) (new_phy link))
      ∙ ap is_complete (not_started-after_events after (phy_after event (phy_behind link before)) none
      (reset-after_event event (phy_behind link before) is));
  started = λ d before event after some is none.
      ap link_is_up (phy_after_all-append before (event ∷ after) (new_phy (After d)))
      ∙ running-after_events after (phy_after event (phy_behind (After d) before)) d none some
      (restart-after_event event (phy_behind (After d) before) is ∙ ap negotiation_of (link-after_events before (new_phy (After d))));
  never = λ all. ap is_complete (never-after_events all (new_phy Never) refl refl);
}

latched-after_read : (b : Bool) (phy : PhyState) → b ≡ false
    → (let after : PhyState = cond b (record phy { latched_low = false }) phy in after.latched_low) ≡ phy.latched_low
latched-after_read true phy none = absurd (true≢false none)
latched-after_read false phy none = refl

unlatched-after_read : (b : Bool) (phy : PhyState) → phy.latched_low ≡ false
    → (let after : PhyState = cond b (record phy { latched_low = false }) phy in after.latched_low) ≡ false
unlatched-after_read true phy was = refl
unlatched-after_read false phy was = was

-- An event other than a read of the status register doesn't clear the latch.
pub latched-after_event : (event : PhyEvent) (phy : PhyState) → is_status_read event ≡ false → phy.latched_low ≡ true
    → (phy_after event phy).latched_low ≡ true
latched-after_event Tick phy none was = was
latched-after_event (Read register) phy none was = latched-after_read (register == 1) phy none ∙ was
latched-after_event (Write register value) phy none was = still_latched-by_tests (register == 0) (is_set value control_reset)
    (is_set value control_enable) (is_set value control_restart) phy was

pub latched-after_events : (events : List PhyEvent) (phy : PhyState) → HasNo is_status_read events → phy.latched_low ≡ true
    → (phy_after_all events phy).latched_low ≡ true
latched-after_events = kept-after_events (λ (phy : PhyState). phy.latched_low ≡ true) is_status_read latched-after_event

-- An event that takes the link down latches the link status low.
pub taken_down-after_event : (event : PhyEvent) (phy : PhyState) → takes_down event ≡ true → (phy_after event phy).latched_low ≡ true
taken_down-after_event Tick phy is = absurd (false≢true is)
taken_down-after_event (Read register) phy is = absurd (false≢true is)
taken_down-after_event (Write register value) phy is = latched-by_tests (register == 0) (is_set value control_reset)
    (is_set value control_enable) (is_set value control_restart) phy is

-- An event that doesn't take the link down doesn't latch the link status low.
pub unlatched-after_event : (event : PhyEvent) (phy : PhyState) → takes_down event ≡ false → phy.latched_low ≡ false
    → (phy_after event phy).latched_low ≡ false
unlatched-after_event Tick phy none was = was
unlatched-after_event (Read register) phy none was = unlatched-after_read (register == 1) phy was
unlatched-after_event (Write register value) phy none was = (stays-by_tests (register == 0) (is_set value control_reset)
    (is_set value control_enable) (is_set value control_restart) phy none).1 ∙ was

pub unlatched-after_events : (events : List PhyEvent) (phy : PhyState) → HasNo takes_down events → phy.latched_low ≡ false
    → (phy_after_all events phy).latched_low ≡ false
unlatched-after_events = kept-after_events (λ (phy : PhyState). phy.latched_low ≡ false) takes_down unlatched-after_event

read-unlatches : (b : Bool) (phy : PhyState) → b ≡ true
    → (let after : PhyState = cond b (record phy { latched_low = false }) phy in after.latched_low) ≡ false
read-unlatches true phy is = refl
read-unlatches false phy is = absurd (false≢true is)

pub status_read-after_event : (event : PhyEvent) (phy : PhyState) → is_status_read event ≡ true
    → (phy_after event phy).latched_low ≡ false
status_read-after_event Tick phy is = absurd (false≢true is)
status_read-after_event (Read register) phy is = read-unlatches (register == 1) phy is
status_read-after_event (Write register value) phy is = absurd (false≢true is)

-- The value of the status register if the latch is set, and if the latch is clear.
pub status-latched : (phy : PhyState) → phy.latched_low ≡ true → status_value phy ≡ cond (link_is_up phy) 0x20 0
status-latched phy latched = ap (λ (b : Bool). cond (link_is_up phy) (cond b 0x20 0x24) 0) latched

pub status-unlatched : (phy : PhyState) → phy.latched_low ≡ false → status_value phy ≡ cond (link_is_up phy) 0x24 0
status-unlatched phy free = ap (λ (b : Bool). cond (link_is_up phy) (cond b 0x20 0x24) 0) free

pub latch_by_history : LatchByHistory
latch_by_history = record {
  never_read = λ link all none. status-latched (phy_behind link all) (latched-after_events all (new_phy link) none refl);
  taken_down = λ link before event after is none.
      status-latched (phy_behind link (before ++ event ∷ after))
      (ap (λ (phy : PhyState). phy.latched_low) (phy_after_all-append before (event ∷ after) (new_phy link))
      ∙ latched-after_events after (phy_after event (phy_behind link before)) none
      (taken_down-after_event event (phy_behind link before) is));
  stayed = λ link before event after is none.
      status-unlatched (phy_behind link (before ++ event ∷ after))
      (ap (λ (phy : PhyState). phy.latched_low) (phy_after_all-append before (event ∷ after) (new_phy link))
      ∙ unlatched-after_events after (phy_after event (phy_behind link before)) none
      (status_read-after_event event (phy_behind link before) is));
}

enabled-after_read : (b : Bool) (phy : PhyState)
    → (let after : PhyState = cond b (record phy { latched_low = false }) phy in after.negotiation_enabled) ≡ phy.negotiation_enabled
enabled-after_read true phy = refl
enabled-after_read false phy = refl

pub enabled-after_event : (event : PhyEvent) (phy : PhyState) → is_control_write event ≡ false
    → (phy_after event phy).negotiation_enabled ≡ phy.negotiation_enabled
enabled-after_event Tick phy none = refl
enabled-after_event (Read register) phy none = enabled-after_read (register == 1) phy
enabled-after_event (Write register value) phy none = enabled_stays-by_tests (register == 0) (is_set value control_reset)
    (is_set value control_enable) (is_set value control_restart) phy none

pub enabled-after_events : (events : List PhyEvent) (phy : PhyState) → HasNo is_control_write events
    → (phy_after_all events phy).negotiation_enabled ≡ phy.negotiation_enabled
enabled-after_events events phy none = kept-after_events (λ (after : PhyState). after.negotiation_enabled ≡ phy.negotiation_enabled)
    is_control_write (λ event before fails same. enabled-after_event event before fails ∙ same) events phy none refl

enabled-behind : (link : Link) (before : List PhyEvent) (value : ℕ) (after : List PhyEvent) → HasNo is_control_write after
    → (phy_behind link (before ++ Write 0 value ∷ after)).negotiation_enabled
    ≡ cond (is_set value control_reset) true (is_set value control_enable)
enabled-behind link before value after none =
    ap (λ (phy : PhyState). phy.negotiation_enabled) (phy_after_all-append before (Write 0 value ∷ after) (new_phy link))
    ∙ enabled-after_events after (phy_after_write 0 value (phy_behind link before)) none
    ∙ enabled-by_tests (is_set value control_reset) (is_set value control_enable) (is_set value control_restart) (phy_behind link before)

shown : Bool → ℕ
shown enabled = cond enabled 0x1000 0

pub control_by_history : ControlByHistory
unfolding shown
control_by_history = record {
  never_written = λ link all none. ap shown (enabled-after_events all (new_phy link) none);
  reset = λ link before value after is none. ap shown (enabled-behind link before value after none
      ∙ ap (λ (b : Bool). cond b true (is_set value control_enable)) is);
  kept = λ link before value after is none. ap shown (enabled-behind link before value after none
      ∙ ap (λ (b : Bool). cond b true (is_set value control_enable)) is);
}
