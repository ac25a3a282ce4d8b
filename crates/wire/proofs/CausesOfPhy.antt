-- Over a lively bus, while the driver writes neither ICR nor ICS, only causes that PHY ticks record (LSC and MDAC) are
-- recorded.
use Rattle.std.specs.Prelude.{bit_and, nat_lt}
use Rattle.std.proofs.Common.{◌≡◌, ◌||◌, ◌∷◌, [], ◌∙◌, Bool, true, false, ℕ, List, Option, Some, None, if◌then◌else◌, ap, refl, sym, subst}
use Rattle.std.specs.List.{All}
use Rattle.mdic_phy.specs.declared.mdic.Ticked.{Ticked}
use Rattle.mdic_phy.specs.Mdic.{told}
use Rattle.registers.specs.Bits.{union}
use Rattle.adapter.specs.Registers.{after_reset, by_row, by_rule, is_reset, left_by_read, left_by_write, with_register}
use Rattle.adapter.specs.State.{AdapterState}
use Rattle.adapter.specs.Steps.{after_phy_told, causes_told}
use Rattle.adapter.specs.Table.{register_at, row_of}
use Rattle.adapter.specs.World.{World}
use Rattle.adapter.specs.model_types.register.Register.{Register}
use Rattle.adapter.specs.model_types.register.Register.TheVariants.{Ctrl, Eerd, Icr, Ics}
use Rattle.adapter.specs.model_types.step.StepKind.TheVariants.{EepromTick, PhyTick}
use Rattle.adapter.specs.LivelyBuses.{IsQuietEvent, Lives, machine_world}
use Rattle.adapter.specs.Pasts.{Past}
use Rattle.adapter.specs.Settings.{Write, writes_in}
use Rattle.adapter.specs.Trails.{Trail, past_of, past_of_event, world_after, world_after_access}
use Rattle.adapter.specs.bus_types.event.Access.{Access}
use Rattle.adapter.specs.bus_types.event.Access.TheVariants.{Loads, Reads, Stores, Writes}
use Rattle.adapter.specs.bus_types.event.Event.{Event}
use Rattle.adapter.specs.bus_types.event.Event.TheVariants.{Accesses, Steps}
use Rattle.adapter.specs.bus_types.lively_bus.LivelyBus.{LivelyBus}
use Rattle.adapter.proofs.Lists.{all-head, all-left, all-right, all-tail}
use Rattle.adapter.proofs.Settings.{writes-append}
use Rattle.bring_up.specs.SettingSteps.{IsNotOfCauses, RecordsNoCause, RecordsNone}
use Rattle.wire.specs.HostsUp.{AreOfPhy, HasNoInterrupt}

-- Causes that ticks record

pub none-told : AreOfPhy 0
none-told = (record { link_changed = false; access_complete = false }, refl)

union-told : (a b c d : Bool)
    → union (causes_told (record { link_changed = a; access_complete = b }))
    (causes_told (record { link_changed = c; access_complete = d }))
    ≡ causes_told (record { link_changed = a || c; access_complete = b || d })
union-told true true true true = refl
union-told true true true false = refl
union-told true true false true = refl
union-told true true false false = refl
union-told true false true true = refl
union-told true false true false = refl
union-told true false false true = refl
union-told true false false false = refl
union-told false true true true = refl
union-told false true true false = refl
union-told false true false true = refl
union-told false true false false = refl
union-told false false true true = refl
union-told false false true false = refl
union-told false false false true = refl
union-told false false false false = refl

told-of_phy : (found : Option Ticked) (adapter : AdapterState) → AreOfPhy adapter.causes.recorded
    → AreOfPhy (after_phy_told found adapter).causes.recorded
told-of_phy None adapter is = is
told-of_phy (Some ticked) adapter is = (
  record { link_changed = is.0.link_changed || ticked.link_changed; access_complete = is.0.access_complete || ticked.access_complete },
  ap (λ (causes : ℕ). union causes (causes_told ticked)) is.1
      ∙ union-told is.0.link_changed is.0.access_complete ticked.link_changed ticked.access_complete,
)

-- Accesses

read-of_phy : (register : Option Register) (adapter : AdapterState) → AreOfPhy adapter.causes.recorded
    → AreOfPhy (left_by_read register adapter).causes.recorded
read-of_phy None adapter is = is
read-of_phy (Some Icr) adapter is = none-told
read-of_phy (Some register) adapter is = is

rule-of_phy : (register : Register) (value : ℕ) (adapter : AdapterState) → IsNotOfCauses (Some register)
    → AreOfPhy adapter.causes.recorded → AreOfPhy (by_rule register value adapter).causes.recorded
rule-of_phy Icr value adapter other is = absurd other
rule-of_phy Ics value adapter other is = absurd other
rule-of_phy Eerd value adapter other is = is
rule-of_phy register value adapter other is = is

kept-of_phy : (register : Register) (value : ℕ) (adapter : AdapterState) → AreOfPhy adapter.causes.recorded
    → AreOfPhy (with_register register value adapter).causes.recorded
kept-of_phy Ctrl value adapter is = is
kept-of_phy register value adapter is = is

row-of_phy : (kept : Option ℕ) (register : Register) (value : ℕ) (adapter : AdapterState) → IsNotOfCauses (Some register)
    → AreOfPhy adapter.causes.recorded → AreOfPhy (by_row kept register value adapter).causes.recorded
row-of_phy None register value adapter other is = rule-of_phy register value adapter other is
row-of_phy (Some kept) register value adapter other is = kept-of_phy register (bit_and value kept) adapter is

reset-or : (resets : Bool) (adapter other : AdapterState) → AreOfPhy other.causes.recorded
    → AreOfPhy (if resets then after_reset adapter else other).causes.recorded
reset-or true adapter other is = none-told
reset-or false adapter other is = is

write-of_phy : (register : Option Register) (value : ℕ) (adapter : AdapterState) → IsNotOfCauses register
    → AreOfPhy adapter.causes.recorded → AreOfPhy (left_by_write register value adapter).causes.recorded
write-of_phy None value adapter other is = is
write-of_phy (Some register) value adapter other is =
    let kept = (row_of register).kept in
    reset-or (is_reset register value) adapter (by_row kept register value adapter) (row-of_phy kept register value adapter other is)

access-of_phy : (access : Access) (world : World) → All RecordsNone (writes_in (access ∷ [])) → AreOfPhy world.adapter.causes.recorded
    → AreOfPhy (world_after_access access world).adapter.causes.recorded
access-of_phy (Reads offset value) world others is = read-of_phy (register_at offset) world.adapter is
access-of_phy (Writes offset value) world others is =
    let write : Write = record { offset = offset; value = value } in
    write-of_phy (register_at offset) value world.adapter (all-head RecordsNone write [] others) is
access-of_phy (Loads address size) world others is = is
access-of_phy (Stores address bytes) world others is = is

-- Events

event-of_phy : (event : Event) (world : World) → IsQuietEvent event → All RecordsNone (writes_in (past_of_event event).accesses)
    → AreOfPhy world.adapter.causes.recorded → AreOfPhy (world_after event world).adapter.causes.recorded
event-of_phy (Steps EepromTick wire_free answer) world quiet others is = is
event-of_phy (Steps PhyTick wire_free answer) world quiet others is =
    told-of_phy (told world.adapter.mdic world.adapter.phy) world.adapter is
event-of_phy (Accesses access) world quiet others is = access-of_phy access world others is
event-of_phy event world quiet others is = absurd quiet

events-of_phy : (events : List Event) (a b : World) → All IsQuietEvent events → RecordsNoCause (past_of events) → Trail events a b
    → AreOfPhy a.adapter.causes.recorded → AreOfPhy b.adapter.causes.recorded
events-of_phy [] a b quiet others trail is = subst (λ (world : World). AreOfPhy world.adapter.causes.recorded) (sym trail) is
events-of_phy (event ∷ later) a b quiet others trail is =
    let first = (past_of_event event).accesses in
    let rest = (past_of later).accesses in
    let writes = subst (All RecordsNone) (writes-append first rest) others in
    events-of_phy later (world_after event a) b (all-tail IsQuietEvent event later quiet)
    (all-right RecordsNone (writes_in first) (writes_in rest) writes) trail.1
    (event-of_phy event a (all-head IsQuietEvent event later quiet) (all-left RecordsNone (writes_in first) (writes_in rest) writes) is)

pub lives-of_phy : (a b : LivelyBus) (past : Past) → Lives a b past → RecordsNoCause past
    → AreOfPhy (machine_world a).adapter.causes.recorded → AreOfPhy (machine_world b).adapter.causes.recorded
lives-of_phy a b past lives others is =
    events-of_phy lives.events (machine_world a) (machine_world b) lives.quiet (subst RecordsNoCause lives.past_is others) lives.trail is

-- The interrupt line

line-of_phy : (a b : Bool) → nat_lt 0 (bit_and (causes_told (record { link_changed = a; access_complete = b })) 0xD1) ≡ false
line-of_phy true true = refl
line-of_phy true false = refl
line-of_phy false true = refl
line-of_phy false false = refl

pub no-interrupt : (world : World) → AreOfPhy world.adapter.causes.recorded → world.adapter.causes.mask ≡ 0xD1 → HasNoInterrupt world
no-interrupt world is mask = record {
  recorded = is;
  line =
      ap (λ (causes : ℕ). nat_lt 0 (bit_and causes world.adapter.causes.mask)) is.1
      ∙ ap (λ (causes : ℕ). nat_lt 0 (bit_and (causes_told is.0) causes)) mask
      ∙ line-of_phy is.0.link_changed is.0.access_complete;
}
