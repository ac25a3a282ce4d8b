-- Proofs of the laws of MDIC's history, with their lemmas. Other crates use these lemmas, too.
use Rattle.std.proofs.Common.{◌≡◌, ◌≢◌, ℕ, ◌-◌, ◌%◌, ◌^◌, ◌||◌, ◌==◌, bit_and, Bool, true, false, cond, List, [], ◌∷◌, ◌++◌, Option, Some}
use Rattle.std.proofs.Common.{None, refl, sym, ap, ◌∙◌, arith}
use Rattle.std.proofs.lemmas.Bool.{true≢false}
use Rattle.std.proofs.lemmas.Bool.Decides.{nat_tests}
use Rattle.std.proofs.lemmas.Nat.{and_assoc, and_mask, and_mod}
use Rattle.registers.specs.Bits.{is_set}
use Rattle.registers.specs.Laws.{contains_is_set}
use Rattle.mdic_phy.specs.declared.mdic.Operation.{Operation}
use Rattle.mdic_phy.specs.declared.mdic.Operation.TheVariants as operation
use Rattle.mdic_phy.specs.declared.mdic.Ticked.{Ticked}
use Rattle.mdic_phy.specs.Phy.{PhyState, read_value, after_tick, comes_up, is_counting}
use Rattle.mdic_phy.specs.Phy as state
use Rattle.mdic_phy.specs.Mdic.{new_mdic, kept_bits, with_ready, with_error, with_data}
use Rattle.mdic_phy.specs.Mdic.{data_bits, regadd, phyadd, operation_of, reaches_phy}
use Rattle.mdic_phy.specs.Mdic.{ended, ended_value, phy_ended, told}
use Rattle.mdic_phy.specs.PhyHistory.{PhyEvent, phy_after, phy_after_all}
use Rattle.mdic_phy.specs.PhyHistory as phy
use Rattle.mdic_phy.specs.MdicHistory.{MdicEvent, Write, Tick, MdicAndPhy, after_mdic_event, after_mdic_events, both_behind, access_of}
use Rattle.mdic_phy.specs.MdicHistory.{accesses, AccessesByHistory, NoWrite, mdic_reads, ticked_phy, MdicByHistory, told_of_link}
use Rattle.mdic_phy.specs.MdicHistory.{ToldByHistory}
use Rattle.mdic_phy.specs.PhyLaws.{phy_after_all-append}
use Rattle.mdic_phy.specs.PhyPlaces.{mdic_i}

low-kept : (value : ℕ) → kept_bits value % 2 ^ 28 ≡ value % 2 ^ 28
low-kept value =
    let low : ℕ = value % 2 ^ 28 in
    let masked : bit_and low (2 ^ 28 - 1) ≡ low % 2 ^ 28 = and_mask low 28 in
    let once : low % 2 ^ 28 ≡ low = omega arith in
    and_mod value 0x2FFF_FFFF 28 ∙ masked ∙ once

phyadd-low : (a b : ℕ) → a % 2 ^ 28 ≡ b % 2 ^ 28 → phyadd a ≡ phyadd b
phyadd-low a b same = omega arith

regadd-low : (a b : ℕ) → a % 2 ^ 28 ≡ b % 2 ^ 28 → regadd a ≡ regadd b
regadd-low a b same = omega arith

data-low : (a b : ℕ) → a % 2 ^ 28 ≡ b % 2 ^ 28 → data_bits a ≡ data_bits b
data-low a b same = omega arith

pub phyadd-kept : (value : ℕ) → phyadd (kept_bits value) ≡ phyadd value
phyadd-kept value = phyadd-low (kept_bits value) value (low-kept value)

pub regadd-kept : (value : ℕ) → regadd (kept_bits value) ≡ regadd value
regadd-kept value = regadd-low (kept_bits value) value (low-kept value)

pub data-kept : (value : ℕ) → data_bits (kept_bits value) ≡ data_bits value
data-kept value = data-low (kept_bits value) value (low-kept value)

after_events-if : (b : Bool) (event : PhyEvent) (phy : PhyState)
    → phy_after_all (cond b (event ∷ []) []) phy ≡ cond b (phy_after event phy) phy
after_events-if true event phy = refl
after_events-if false event phy = refl

-- The access of a command changes the PHY as the end of the command does.
pub after_access : (asked : Option Operation) (value : ℕ) (phy : PhyState)
    → phy_after_all (access_of asked value) phy ≡ phy_ended asked (kept_bits value) phy
after_access None value phy = refl
after_access (Some operation.Write) value s =
    after_events-if (reaches_phy value) (phy.Write (regadd value) (data_bits value)) s
    ∙ ap (λ (p : ℕ). cond (p == 1) (state.phy_after_write (regadd value) (data_bits value) s) s) (sym (phyadd-kept value))
    ∙ ap (λ (r : ℕ). cond (reaches_phy (kept_bits value)) (state.phy_after_write r (data_bits value) s) s) (sym (regadd-kept value))
    ∙ ap (λ (d : ℕ). cond (reaches_phy (kept_bits value)) (state.phy_after_write (regadd (kept_bits value)) d s) s) (sym (data-kept value))
after_access (Some operation.Read) value s =
    after_events-if (reaches_phy value) (phy.Read (regadd value)) s
    ∙ ap (λ (p : ℕ). cond (p == 1) (state.phy_after_read (regadd value) s) s) (sym (phyadd-kept value))
    ∙ ap (λ (r : ℕ). cond (reaches_phy (kept_bits value)) (state.phy_after_read r s) s) (sym (regadd-kept value))

-- A register MDIC without a pending command, and its PHY.
abbrev without_command : ℕ → PhyState → MdicAndPhy
without_command value phy = record { mdic = record { value = value; pending = None }; phy = phy }

pub accesses-run : (all : List MdicEvent) (value : ℕ) (s : PhyState)
    → (after_mdic_events all (without_command value s)).phy ≡ phy_after_all (accesses all) s
accesses-run [] value s = refl
accesses-run (Tick ∷ later) value s = accesses-run later value (after_tick s)
accesses-run (Write written ∷ []) value s = refl
accesses-run (Write written ∷ Tick ∷ later) value s =
    let asked : Option Operation = operation_of written in
    accesses-run later (ended asked (kept_bits written) (after_tick s)) (phy_ended asked (kept_bits written) (after_tick s))
    ∙ ap (phy_after_all (accesses later)) (sym (after_access asked written (after_tick s)))
    ∙ sym (phy_after_all-append (access_of asked written) (accesses later) (after_tick s))
accesses-run (Write written ∷ Write next ∷ later) value s = accesses-run (Write next ∷ later) value s

pub accesses_by_history : AccessesByHistory
accesses_by_history s all = accesses-run all 0 s

pub after_mdic_events-append : (before after : List MdicEvent) (both : MdicAndPhy)
    → after_mdic_events (before ++ after) both ≡ after_mdic_events after (after_mdic_events before both)
after_mdic_events-append [] after both = refl
after_mdic_events-append (event ∷ before) after both = after_mdic_events-append before after (after_mdic_event event both)

-- If no command is pending, events without a write don't change the value.
pub value-stays : (after : List MdicEvent) (value : ℕ) (s : PhyState) → NoWrite after
    → (after_mdic_events after (without_command value s)).mdic.value ≡ value
value-stays [] value s none = refl
value-stays (Tick ∷ later) value s none = value-stays later value (after_tick s) none
value-stays (Write written ∷ later) value s none = absurd (true≢false none)

-- The value of MDIC after two lists of events, one after the other.
pub reads-behind : (state : PhyState) (before after : List MdicEvent)
    → mdic_reads state (before ++ after) ≡ (after_mdic_events after (both_behind state before)).mdic.value
reads-behind state before after = ap (λ (both : MdicAndPhy). both.mdic.value)
    (after_mdic_events-append before after (record { mdic = new_mdic; phy = state }))

phy-ticked : (s : PhyState) (before : List MdicEvent) → after_tick (both_behind s before).phy ≡ ticked_phy s before
phy-ticked s before = ap after_tick (accesses_by_history s before) ∙ sym (phy_after_all-append (accesses before) (phy.Tick ∷ []) s)

-- The value of MDIC after a write, a tick, and later events without a write.
pub reads-ended : (s : PhyState) (before : List MdicEvent) (value : ℕ) (after : List MdicEvent) → NoWrite after
    → mdic_reads s (before ++ Write value ∷ Tick ∷ after) ≡ ended (operation_of value) (kept_bits value) (ticked_phy s before)
reads-ended s before value after none =
    let at : PhyState = after_tick (both_behind s before).phy in
    reads-behind s before (Write value ∷ Tick ∷ after)
    ∙ value-stays after (ended (operation_of value) (kept_bits value) at) (phy_ended (operation_of value) (kept_bits value) at) none
    ∙ ap (ended (operation_of value) (kept_bits value)) (phy-ticked s before)

is_not : (p : ℕ) → p ≢ 1 → (p == 1) ≡ false
is_not p other = grind (arith, nat_tests)

ended_value-not_there : (asked : Operation) (s : PhyState) (value : ℕ) → reaches_phy value ≡ false
    → ended_value asked s value ≡ with_error value
ended_value-not_there operation.Write s value other = ap (λ (b : Bool). cond b (with_ready value) (with_error value)) other
ended_value-not_there operation.Read s value other = ap
    (λ (b : Bool). cond b (with_ready (with_data (read_value (regadd value) s) value)) (with_error value)) other

pub mdic_by_history : MdicByHistory
mdic_by_history = record {
  never_written = λ s all none. value-stays all 0 s none;
  no_tick_yet = λ s before value. reads-behind s before (Write value ∷ []);
  no_command = λ s before value after asked none.
      reads-behind s before (Write value ∷ after)
      ∙ ap (λ (p : Option Operation).
      (after_mdic_events after
      (record { mdic = record { value = kept_bits value; pending = p }; phy = (both_behind s before).phy })).mdic.value) asked
      ∙ value-stays after (kept_bits value) (both_behind s before).phy none;
  written = λ s before value after asked here none.
      reads-ended s before value after none
      ∙ ap (λ (p : Option Operation). ended p (kept_bits value) (ticked_phy s before)) asked
      ∙ ap (λ (p : ℕ). cond (p == 1) (with_ready (kept_bits value)) (with_error (kept_bits value))) (phyadd-kept value ∙ here);
  read = λ s before value after asked here none.
      let at : PhyState = ticked_phy s before in
      reads-ended s before value after none
      ∙ ap (λ (p : Option Operation). ended p (kept_bits value) at) asked
      ∙ ap (λ (p : ℕ). cond (p == 1) (with_ready (with_data (read_value (regadd (kept_bits value)) at) (kept_bits value)))
      (with_error (kept_bits value)))
      (phyadd-kept value ∙ here)
      ∙ ap (λ (r : ℕ). with_ready (with_data (read_value r at) (kept_bits value))) (regadd-kept value);
  not_there = λ s before value asked after is other none.
      reads-ended s before value after none
      ∙ ap (λ (p : Option Operation). ended p (kept_bits value) (ticked_phy s before)) is
      ∙ ended_value-not_there asked (ticked_phy s before) (kept_bits value) (ap (λ (p : ℕ). p == 1) (phyadd-kept value)
      ∙ is_not (phyadd value) other);
}

-- MDIC and its PHY after a list of events and one more event.
pub both-behind : (s : PhyState) (before : List MdicEvent) (event : MdicEvent)
    → both_behind s (before ++ event ∷ []) ≡ after_mdic_event event (both_behind s before)
both-behind s before event = after_mdic_events-append before (event ∷ []) (record { mdic = new_mdic; phy = s })

-- A write stores I, bit 29.
pub interrupt-kept : (value : ℕ) → is_set (kept_bits value) mdic_i ≡ is_set value mdic_i
interrupt-kept value =
    sym (contains_is_set (kept_bits value) mdic_i) ∙ ap (λ (bit : ℕ). bit == 2 ^ 29) (and_assoc (2 ^ 29) value 0x2FFF_FFFF)
    ∙ contains_is_set value mdic_i

abbrev told_by : Bool → Bool → Option Ticked
told_by up complete = Some (record { link_changed = up; access_complete = complete })

told-counting : (counts up : Bool) → cond (counts || false) (told_by up false) None ≡ cond counts (told_by up false) None
told-counting true up = refl
told-counting false up = refl

told-command : (counts up complete : Bool) → cond (counts || true) (told_by up complete) None ≡ told_by up complete
told-command true up complete = refl
told-command false up complete = refl

abbrev told_both : MdicAndPhy → Option Ticked
told_both both = told both.mdic both.phy

pub told-without : (value : ℕ) (s : PhyState) → told (record { value = value; pending = None }) s ≡ told_of_link s
told-without value s = told-counting (is_counting s) (comes_up s)

pub told_by_history : ToldByHistory
told_by_history = record {
  first = λ s. told-without 0 s;
  ticked = λ s before.
      ap told_both (both-behind s before Tick)
      ∙ told-without (ended (both_behind s before).mdic.pending (both_behind s before).mdic.value (after_tick (both_behind s before).phy))
      (after_mdic_event Tick (both_behind s before)).phy
      ∙ ap told_of_link (sym (ap (λ (both : MdicAndPhy). both.phy) (both-behind s before Tick))
      ∙ accesses_by_history s (before ++ Tick ∷ []));
  no_command = λ s before value asked.
      ap told_both (both-behind s before (Write value))
      ∙ ap (λ (p : Option Operation). told (record { value = kept_bits value; pending = p }) (both_behind s before).phy) asked
      ∙ told-without (kept_bits value) (both_behind s before).phy
      ∙ ap told_of_link (sym (ap (λ (both : MdicAndPhy). both.phy) (both-behind s before (Write value)))
      ∙ accesses_by_history s (before ++ Write value ∷ []));
  command = λ s before value asked is.
      ap told_both (both-behind s before (Write value))
      ∙ ap (λ (p : Option Operation). told (record { value = kept_bits value; pending = p }) (both_behind s before).phy) is
      ∙ told-command (is_counting (both_behind s before).phy) (comes_up (both_behind s before).phy) (is_set (kept_bits value) mdic_i)
      ∙ ap (told_by (comes_up (both_behind s before).phy)) (interrupt-kept value)
      ∙ ap (λ (phy : PhyState). told_by (comes_up phy) (is_set value mdic_i))
      (sym (ap (λ (both : MdicAndPhy). both.phy) (both-behind s before (Write value)))
      ∙ accesses_by_history s (before ++ Write value ∷ []));
}
