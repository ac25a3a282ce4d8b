-- A command to the PHY over an honest bus, access by access.
use Rattle.std.proofs.Common.{◌≡◌, ◌≢◌, ◌≤◌, ◌+◌, ℕ, Err, Ok, bit_and, refl, sym, ap, subst, ◌∙◌, arith}
use Rattle.std.specs.Fn.{iterate}
use Rattle.adapter.specs.Registers.{answer_at}
use Rattle.adapter.specs.Table.{register_at}
use Rattle.adapter.specs.World.{World, world_after_read, world_after_write}
use Rattle.adapter.specs.Keeping.{view_of}
use Rattle.adapter.specs.Law.{Acts, Management, management_of, phy_ticked}
use Rattle.adapter.specs.bus_types.bus.Bus.{Ghosts}
use Rattle.adapter.specs.bus_types.event.Access.TheVariants.{Reads, Writes}
use Rattle.bring_up.specs.declared.init_error.InitError.TheVariants.{PhyTimeout}
use Rattle.bring_up.specs.Link.{Commands, EndsCommand, IsCommand}
use Rattle.bring_up.proofs.MdicAccesses.{AsksTimes, asks-both, asks-read, asks-write}
use Rattle.bring_up.proofs.MdicAndPhy.{commanded, ends-of, error_bit, not-ended, ready_bit, right-then}
use Rattle.bring_up.proofs.Steps.{IntervalsJoin}
use Rattle.adapter.proofs.LinkSettings.{link-ticks}

abbrev pub management_behind : World → Management
management_behind world = management_of world.adapter

-- A read of MDIC returned the value of MDIC after `ticks` ticks, at least one over a lively bus.
pub record Finds (lively : Type 0) (ticks : ℕ) (a b : Management) (value : ℕ) : Type 0 where
  pub ticked : lively → 1 ≤ ticks
  pub management : b ≡ iterate phy_ticked ticks a
  pub shown : value ≡ b.mdic.value

pub finds : {B : Type 0} (bus : Ghosts B) (old new : B) (value : ℕ)
    → (acts : Acts (view_of bus) old new (Reads 0x0020 value) (λ before after. (value ≡ answer_at 0x0020 before.adapter)
    × (after ≡ world_after_read 0x0020 before)))
    → Finds (bus.lively old) acts.past.phy_ticks (management_behind (bus.world old)) (management_behind (bus.world new)) value
unfolding register_at
finds bus old new value acts =
    let after : management_behind (bus.world new) ≡ management_behind acts.middle = ap management_behind acts.effect_is.1 in
    record {
      ticked = λ ticks. (acts.ticks ticks).phy;
      management = after ∙ acts.before.steady.ticks.management;
      shown = acts.effect_is.0 ∙ sym (ap (λ (l : Management). l.mdic.value) after);
    }

-- The command was written after `ticks` ticks. Then this number of reads followed, and no read showed R. Over a lively bus, no read
-- followed.
pub record Waits {B : Type 0} (bus : Ghosts B) (old now : B) (words reads : ℕ) : Type 0 where
  pub asked : AsksTimes bus old now 0x0020 (reads + 1)
  pub ticks : ℕ
  pub ticks_are : asked.asks.past.phy_ticks ≡ ticks
  pub ticked : bus.lively old → 1 ≤ ticks
  pub management : management_behind (bus.world now) ≡ commanded words (iterate phy_ticked ticks (management_behind (bus.world old)))
  pub none_in_vain : bus.lively old → reads ≡ 0

pub gives : {B : Type 0} (bus : Ghosts B) (old new : B) (words : ℕ)
    → Acts (view_of bus) old new (Writes 0x0020 words) (λ before after. after ≡ world_after_write 0x0020 words before)
    → Waits bus old new words 0
unfolding register_at
gives bus old new words acts = record {
  asked = asks-write bus old new 0x0020 words tt (λ adapter. refl) acts;
  ticks = acts.past.phy_ticks;
  ticks_are = refl;
  ticked = λ ticks. (acts.ticks ticks).phy;
  management = ap management_behind acts.effect_is ∙ ap (commanded words) acts.before.steady.ticks.management;
  none_in_vain = λ ticks. refl;
}

pub waits-on : {B : Type 0} (bus : Ghosts B) → IntervalsJoin bus
    → (old now new : B) (words reads value : ℕ) → IsCommand words → (bus.lively old → bus.lively now)
    → Waits bus old now words reads
    → Acts (view_of bus) now new (Reads 0x0020 value) (λ before after. (value ≡ answer_at 0x0020 before.adapter)
    × (after ≡ world_after_read 0x0020 before))
    → bit_and value ready_bit ≡ 0 → Waits bus old new words (reads + 1)
waits-on bus joins old now new words reads value command alive waits acts unset =
    let found = finds bus now new value acts in
    let given = commanded words (iterate phy_ticked waits.ticks (management_behind (bus.world old))) in
    let management : management_behind (bus.world new) ≡ iterate phy_ticked acts.past.phy_ticks given = found.management
    ∙ ap (iterate phy_ticked acts.past.phy_ticks) waits.management in
    let none : acts.past.phy_ticks ≡ 0 =
    not-ended words acts.past.phy_ticks command (iterate phy_ticked waits.ticks (management_behind (bus.world old)))
    (management_behind (bus.world new)) management
    (ap (λ (v : ℕ). bit_and v ready_bit) (sym found.shown) ∙ unset) in
    record {
      asked = asks-both bus joins old now new 0x0020 (reads + 1) 1 waits.asked
          (asks-read bus now new 0x0020 value _ acts);
      ticks = waits.ticks;
      ticks_are = let before = waits.ticks_are in omega arith;
      ticked = waits.ticked;
      management = management ∙ ap (λ (n : ℕ). iterate phy_ticked n given) none;
      none_in_vain = λ ticks. absurd (let some = found.ticked (alive ticks) in omega arith);
    }

link-stays : (a b : Management) (n words ticks : ℕ) → b ≡ iterate phy_ticked n (commanded words (iterate phy_ticked ticks a))
    → b.phy.link ≡ a.phy.link
link-stays a b n words ticks is =
    ap (λ (l : Management). l.phy.link) is ∙ link-ticks n (commanded words (iterate phy_ticked ticks a)) ∙ link-ticks ticks a

-- A read showed R: the command ended with the value `value`, in which E is clear.
pub record Answered {B : Type 0} (bus : Ghosts B) (old new : B) (words value : ℕ) : Type 0 where
  pub commands : Commands bus words (Ok value) old new
  pub right : bit_and value error_bit ≡ 0

pub answered : {B : Type 0} (bus : Ghosts B) → IntervalsJoin bus
    → (old now new : B) (words reads value : ℕ) → IsCommand words → Waits bus old now words reads
    → Acts (view_of bus) now new (Reads 0x0020 value) (λ before after. (value ≡ answer_at 0x0020 before.adapter)
    × (after ≡ world_after_read 0x0020 before))
    → bit_and value ready_bit ≢ 0 → Answered bus old new words value
answered bus joins old now new words reads value command waits acts set =
    let found = finds bus now new value acts in
    let a : Management = management_behind (bus.world old) in
    let b : Management = management_behind (bus.world new) in
    let management : b ≡ iterate phy_ticked acts.past.phy_ticks (commanded words (iterate phy_ticked waits.ticks a)) = found.management
    ∙ ap (iterate phy_ticked acts.past.phy_ticks) waits.management in
    let both = asks-both bus joins old now new 0x0020 (reads + 1) 1 waits.asked
    (asks-read bus now new 0x0020 value _ acts) in
    let shown : bit_and b.mdic.value ready_bit ≢ 0 = λ unset. set (ap (λ (v : ℕ). bit_and v ready_bit) found.shown ∙ unset) in
    let all = both.asks.past.phy_ticks in
    let total : waits.ticks + acts.past.phy_ticks ≡ all = let before = waits.ticks_are in omega arith in
    let ends = ends-of (bus.lively old) words acts.past.phy_ticks waits.ticks all total command a b waits.ticked management shown in
    record {
      commands = record {
        asks = both.asks;
        accesses = let often = both.often in omega arith;
        link = link-stays a b acts.past.phy_ticks words waits.ticks management;
        ends = subst (EndsCommand (bus.lively old) words all a b) (sym found.shown) ends;
        late = tt;
        in_time = λ ticks. refl;
      };
      right = ap (λ (v : ℕ). bit_and v error_bit) (found.shown ∙ ends.answers) ∙ right-then words command ends.phy;
    }

pub unanswered : {B : Type 0} (bus : Ghosts B) (old now : B) (words reads : ℕ)
    → 1000 ≤ reads
    → Waits bus old now words reads → Commands bus words (Err PhyTimeout) old now
unanswered bus old now words reads many waits =
    let often = waits.asked.often in
    record {
      asks = waits.asked.asks;
      accesses = omega arith;
      link = link-stays (management_behind (bus.world old)) (management_behind (bus.world now)) 0 words waits.ticks waits.management;
      ends = tt;
      late = omega arith;
      in_time = λ ticks. absurd (let none = waits.none_in_vain ticks in omega arith);
    }
