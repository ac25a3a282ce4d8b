-- A word of the group table is written, over a bus.
use Rattle.std.proofs.Common.{◌≡◌, ◌<◌, ◌+◌, ◌*◌, ◌/◌, ◌^◌, ◌∷◌, [], Bool, ℕ, List, inl, inr, refl, sym}
use Rattle.std.proofs.Common.{ap, subst, ◌∙◌}
use Rattle.std.specs.Prelude.{slice_set}
use Rattle.std.proofs.lemmas.List.Elements.{All-set}
use Rattle.rx_filter.specs.NumberTables.{HasNumbers, numbers_of_groups}
use Rattle.rx_filter.specs.Registers.{FilterRegisters}
use Rattle.adapter.specs.Registers.{write_of}
use Rattle.adapter.specs.World.{World, world_after_write}
use Rattle.adapter.specs.model_types.register.Register.TheVariants.{Mta}
use Rattle.adapter.proofs.RegisterSetting.{other_writes_leave_frames}
use Rattle.adapter.specs.DriversStores.{LeavesFrames}
use Rattle.adapter.specs.Pasts.{nothing}
use Rattle.adapter.specs.bus_types.bus.Bus.{Ghosts}
use Rattle.adapter.specs.bus_types.event.Access.{Access}
use Rattle.adapter.specs.bus_types.event.Access.TheVariants.{Writes}
use Rattle.adapter.specs.Calls.{GoesTo, Ran, at, driver_did, driver_in, only}
use Rattle.adapter.specs.DriverState.{DriverState}
use Rattle.adapter.specs.ReadyDrivers.{ReadyWith}
use Rattle.adapter.proofs.DriverAccesses.{ran_by-stays, write-sets}
use Rattle.adapter.proofs.AlikeWorlds.{SameParts, ready-left}
use Rattle.adapter.proofs.Steps.{goes-same}
use Rattle.bring_up.specs.ConfiguredAdapters.{AreWords}
use Rattle.bring_up.specs.SettingSteps.{WriteActs}
use Rattle.bring_up.proofs.DriverAccesses.{ran_by-begins}
use Rattle.bring_up.proofs.TableSettings.{word-kept}
use Rattle.bring_up.proofs.Setups.{same-table}
use Rattle.bring_up.proofs.Steps.{register-written}
use Rattle.bring_up.specs.Groups.{ChangesJoined, HasNumber, RewritesWord, TablesAgree, with_groups, word_of}
use Rattle.bring_up.proofs.Numbers.{ChangesOne, numbers-alike, word-written, word_below}
use Rattle.bring_up.proofs.AlikeDrivers.{goes-alike}

pub written-word : (word value : ℕ) (a : World) → word < 128
    → world_after_write (0x5200 + 4 * word) value a ≡ record a { adapter = write_of (Mta word) value a.adapter }
written-word word value a within = register-written (Mta word) within value a

pub word-rests : {up : Bool} (word value : ℕ) (d : DriverState) (a : World) → word < 128 → ReadyWith up d a
    → GoesTo up (driver_in d a) (driver_in d (world_after_write (0x5200 + 4 * word) value a)) (driver_did [] []) nothing
word-rests {up} word value d a within ready =
    let b : World = record a { adapter = write_of (Mta word) value a.adapter } in
    let leaves : LeavesFrames d.oldest_receive d.oldest_transmit a b =
    other_writes_leave_frames d.oldest_receive d.oldest_transmit (Mta word) value a ready.law.sound (λ no. no) refl in
    let same : SameParts a b = record
    { memory = refl; receives = refl; transmits = refl; receive_control = refl; transmit_control = refl; buffer = refl } in
    subst (λ (w : World). GoesTo up (driver_in d a) (driver_in d w) (driver_did [] []) nothing) (sym (written-word word value a within))
    (goes-same d a b leaves.same refl refl (ready-left d a b ready leaves same))

pub word-ran : {up : Bool} {B : Type 0} (bus : Ghosts B) (old new : B) (word value : ℕ) (d : DriverState) → word < 128
    → WriteActs bus old new (0x5200 + 4 * word) value → ReadyWith up d (bus.world old)
    → Ran bus up (only (Writes (0x5200 + 4 * word) value ∷ [])) (at old d) (at new d)
word-ran {up} bus old new word value d within acts ready =
    ran_by-begins bus old new (Writes (0x5200 + 4 * word) value) _ d acts (write-sets (0x5200 + 4 * word) value (bus.world new)) ready
    (λ there. subst (λ (w : World). GoesTo up (driver_in d acts.middle) (driver_in d w) (driver_did [] []) nothing) (sym acts.effect_is)
    (word-rests word value d acts.middle within there))

pub table-after : {B : Type 0} (bus : Ghosts B) (old new : B) (word value : ℕ) → word < 128 → value < 2 ^ 32
    → WriteActs bus old new (0x5200 + 4 * word) value
    → (bus.world new).adapter.filter.mta ≡ slice_set (bus.world old).adapter.filter.mta word value
table-after bus old new word value within fits acts =
    let middle = acts.middle in
    let kept : middle.adapter.filter ≡ (bus.world old).adapter.filter = acts.before.steady.registers.filter in
    ap (λ (w : World). w.adapter.filter.mta) (acts.effect_is ∙ written-word word value middle within)
    ∙ ap (λ (v : ℕ). slice_set middle.adapter.filter.mta word v) (word-kept value fits)
    ∙ ap (λ (f : FilterRegisters). slice_set f.mta word value) kept

-- The joined groups don't matter for an interval of a driver's run

regrouped-ready : {up : Bool} (d : DriverState) (groups : List (List ℕ)) (a : World) → ReadyWith up d a
    → ReadyWith up (with_groups groups d) a
regrouped-ready d groups a ready = record {
  driver_is = record {
    oldest_slot = ready.driver_is.oldest_slot;
    room = ready.driver_is.room;
    one_owner = ready.driver_is.one_owner;
    allowed = ready.driver_is.allowed;
  };
  law = ready.law;
  lies = ready.lies;
  receive = ready.receive;
  transmit = ready.transmit;
  slots = record { names = ready.slots.names; stored = ready.slots.stored };
  stand = ready.stand;
}

regrouped : {up : Bool} {B : Type 0} (bus : Ghosts B) (accesses : List Access) (b c : B) (d : DriverState) (groups groups' : List (List ℕ))
    → Ran bus up (only accesses) (at b d) (at c d) → Ran bus up (only accesses) (at b (with_groups groups d)) (at c (with_groups groups' d))
regrouped bus accesses b c d groups groups' ran = record {
  past = ran.past;
  reports = ran.reports;
  only = ran.only;
  goes = goes-alike groups groups' d.handed_out d.handed_out ran.goes (regrouped-ready d groups' (bus.world c) ran.goes.flows.ready);
  follows = ran.follows;
}

-- A group is joined or left

pub changes-shared : {up : Bool} {B : Type 0} {bus : Ghosts B} → ((b : B) → bus.happened b b nothing) → (b : B) (d : DriverState)
    {kept groups groups' : List (List ℕ)} {group : List ℕ} → ChangesOne kept group groups groups' → ReadyWith up d (bus.world b)
    → HasNumber kept group → ChangesJoined bus up kept group (at b (with_groups groups d)) (at b (with_groups groups' d))
changes-shared {up} {B} {bus} stays b d {kept} {groups} {groups'} {group} one ready shared = record {
  accesses = [];
  sets = inl (shared, refl);
  ran = regrouped bus [] b b d groups groups' (ran_by-stays bus stays b d ready);
  table = λ had. record { numbers = numbers-alike (λ n. one.alike n (λ here. shared)) had.numbers; words = had.words };
}

-- The word of the number is written, because no other joined group has the number.
pub changes-written : {up : Bool} {B : Type 0} {bus : Ghosts B} {b c : B} {d : DriverState} {kept groups groups' : List (List ℕ)}
    {group : List ℕ} → ChangesOne kept group groups groups' → ¬ (HasNumber kept group) → RewritesWord bus up group groups' d b c
    → ChangesJoined bus up kept group (at b (with_groups groups d)) (at c (with_groups groups' d))
changes-written {up} {B} {bus} {b} {c} {d} {kept} {groups} {groups'} {group} one apart wrote = record {
  accesses = Writes (0x5200 + 4 * word_of group) wrote.value ∷ [];
  sets = inr (apart, record { value = wrote.value; bits = wrote.bits; is = refl });
  ran = regrouped bus (Writes (0x5200 + 4 * word_of group) wrote.value ∷ []) b c d groups groups' wrote.ran;
  table = λ had.
      record {
        numbers = subst (λ (mta : List ℕ). HasNumbers mta (numbers_of_groups groups')) (sym wrote.table)
            (word-written (bus.world b).adapter.filter.mta (numbers_of_groups groups) (numbers_of_groups groups') (word_of group)
            wrote.value (word_below group) had.numbers wrote.bits
            (λ n other. one.alike n (λ here. absurd (other (ap (λ (k : ℕ). k / 32) here)))));
        words = subst AreWords (sym wrote.table)
            (All-set (λ word. word < 2 ^ 32) (bus.world b).adapter.filter.mta (word_of group) wrote.value wrote.fits had.words);
      };
}

pub tables-agree : TablesAgree
tables-agree groups a b one two =
    same-table b.adapter.filter.mta a.adapter.filter.mta (numbers_of_groups groups) two.words one.words two.numbers one.numbers
