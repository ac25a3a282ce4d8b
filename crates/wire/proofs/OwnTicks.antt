-- What accesses and the ticks of EEPROM and PHY don't change of an adapter: the setting of its link, and RNBC, GPRC and
-- GPTC.
use Rattle.std.specs.Prelude.{bit_and}
use Rattle.std.proofs.Common.{◌≡◌, ◌==◌, ◌&&◌, Bool, true, false, ℕ, Option, Some, None, if◌then◌else◌, ap, refl, ◌∙◌}
use Rattle.mdic_phy.specs.declared.mdic.Operation.{Operation}
use Rattle.mdic_phy.specs.declared.mdic.Operation.TheVariants.{Read, Write}
use Rattle.mdic_phy.specs.declared.mdic.Ticked.{Ticked}
use Rattle.mdic_phy.specs.declared.phy.Link.{Link}
use Rattle.mdic_phy.specs.declared.phy.Link.TheVariants.{Never}
use Rattle.mdic_phy.specs.declared.phy.Negotiation.{Negotiation}
use Rattle.mdic_phy.specs.declared.phy.Negotiation.TheVariants.{NotStarted}
use Rattle.mdic_phy.specs.Mdic.{data_bits, phy_ended, reaches_phy, regadd, told}
use Rattle.mdic_phy.specs.Phy.{PhyState, after_control, phy_after_read, after_tick, phy_after_write}
use Rattle.mdic_phy.specs.Phy.{counted_down, negotiation_of, new_phy, restarted}
use Rattle.mdic_phy.specs.PhyPlaces.{control_enable, control_reset, control_restart}
use Rattle.registers.specs.Bits.{is_set}
use Rattle.adapter.specs.Registers.{after_reset, by_row, by_rule, is_reset, left_by_read, left_by_write, with_register}
use Rattle.adapter.specs.State.{AdapterState}
use Rattle.adapter.specs.Steps.{after_phy_told, after_phy_tick}
use Rattle.adapter.specs.Table.{register_at, row_of}
use Rattle.adapter.specs.World.{World}
use Rattle.adapter.specs.model_types.register.Register.{Register}
use Rattle.adapter.specs.model_types.register.Register.TheVariants.{Ctrl, Eerd, Gprc, Gptc, Rnbc}
use Rattle.adapter.specs.Trails.{world_after_access}
use Rattle.adapter.specs.bus_types.event.Access.{Access}
use Rattle.adapter.specs.bus_types.event.Access.TheVariants.{Loads, Reads, Stores, Writes}

-- The link has the wanted setting. If this setting is Never, no negotiation has started.
pub record ComesAs (wanted link : Link) (negotiation : Negotiation) : Type 0 where
  pub link_is : link ≡ wanted
  pub never : wanted ≡ Never → negotiation ≡ NotStarted

abbrev pub IsPhyOf : Link → PhyState → Type 0
IsPhyOf wanted phy = ComesAs wanted phy.link phy.negotiation

pub record CountNothing (without_descriptor received transmitted : ℕ) : Type 0 where
  pub no_descriptor : without_descriptor ≡ 0
  pub none_received : received ≡ 0
  pub none_transmitted : transmitted ≡ 0

abbrev pub IsAdapterOf : Link → AdapterState → Type 0
IsAdapterOf wanted adapter =
    IsPhyOf wanted adapter.phy × CountNothing adapter.no_receive_buffers adapter.received_packets adapter.transmitted_packets

-- The PHY

one-of : (wanted : Link) (b : Bool) (one other : PhyState) → IsPhyOf wanted one → IsPhyOf wanted other
    → IsPhyOf wanted (if b then one else other)
one-of wanted true one other is is_other = is
one-of wanted false one other is is_other = is_other

ticked : (wanted : Link) (phy : PhyState) → IsPhyOf wanted phy → IsPhyOf wanted (after_tick phy)
ticked wanted phy is = record { link_is = is.link_is; never = λ never. ap counted_down (is.never never) }

controlled : (wanted : Link) (value : ℕ) (phy : PhyState) → IsPhyOf wanted phy → IsPhyOf wanted (after_control value phy)
controlled wanted value phy is =
    let kept : PhyState = record phy { negotiation_enabled = is_set value control_enable } in
    let restarts = is_set value control_enable && is_set value control_restart in
    one-of wanted (is_set value control_reset) (new_phy phy.link) (if restarts then restarted kept else kept)
    (record { link_is = is.link_is; never = λ never. refl })
    (one-of wanted restarts (restarted kept) kept
    (record { link_is = is.link_is; never = λ never. ap negotiation_of (is.link_is ∙ never) }) is)

commanded : (wanted : Link) (operation : Option Operation) (value : ℕ) (phy : PhyState) → IsPhyOf wanted phy
    → IsPhyOf wanted (phy_ended operation value phy)
commanded wanted None value phy is = is
commanded wanted (Some Write) value phy is =
    one-of wanted (reaches_phy value) (phy_after_write (regadd value) (data_bits value) phy) phy
    (one-of wanted (regadd value == 0) (after_control (data_bits value) phy) phy (controlled wanted (data_bits value) phy is) is) is
commanded wanted (Some Read) value phy is =
    one-of wanted (reaches_phy value) (phy_after_read (regadd value) phy) phy
    (one-of wanted (regadd value == 1) (record phy { latched_low = false }) phy is is) is

told-leaves : (wanted : Link) (ticked_is : Option Ticked) (adapter : AdapterState) → IsAdapterOf wanted adapter
    → IsAdapterOf wanted (after_phy_told ticked_is adapter)
told-leaves wanted None adapter is = is
told-leaves wanted (Some tells) adapter is =
    (commanded wanted adapter.mdic.pending adapter.mdic.value (after_tick adapter.phy) (ticked wanted adapter.phy is.0), is.1)

pub phy-tick-leaves : (wanted : Link) (adapter : AdapterState) → IsAdapterOf wanted adapter → IsAdapterOf wanted (after_phy_tick adapter)
phy-tick-leaves wanted adapter is = told-leaves wanted (told adapter.mdic adapter.phy) adapter is

-- Accesses

read-leaves : (wanted : Link) (register : Option Register) (adapter : AdapterState) → IsAdapterOf wanted adapter
    → IsAdapterOf wanted (left_by_read register adapter)
read-leaves wanted (Some Gprc) adapter is =
    (is.0, record { no_descriptor = is.1.no_descriptor; none_received = refl; none_transmitted = is.1.none_transmitted })
read-leaves wanted (Some Gptc) adapter is =
    (is.0, record { no_descriptor = is.1.no_descriptor; none_received = is.1.none_received; none_transmitted = refl })
read-leaves wanted (Some Rnbc) adapter is =
    (is.0, record { no_descriptor = refl; none_received = is.1.none_received; none_transmitted = is.1.none_transmitted })
read-leaves wanted register adapter is = is

rule-leaves : (wanted : Link) (register : Register) (value : ℕ) (adapter : AdapterState) → IsAdapterOf wanted adapter
    → IsAdapterOf wanted (by_rule register value adapter)
rule-leaves wanted Eerd value adapter is = is
rule-leaves wanted register value adapter is = is

kept-leaves : (wanted : Link) (register : Register) (value : ℕ) (adapter : AdapterState) → IsAdapterOf wanted adapter
    → IsAdapterOf wanted (with_register register value adapter)
kept-leaves wanted Ctrl value adapter is = is
kept-leaves wanted register value adapter is = is

row-leaves : (wanted : Link) (kept : Option ℕ) (register : Register) (value : ℕ) (adapter : AdapterState) → IsAdapterOf wanted adapter
    → IsAdapterOf wanted (by_row kept register value adapter)
row-leaves wanted None register value adapter is = rule-leaves wanted register value adapter is
row-leaves wanted (Some kept) register value adapter is = kept-leaves wanted register (bit_and value kept) adapter is

reset-or : (wanted : Link) (resets : Bool) (adapter other : AdapterState) → IsAdapterOf wanted adapter → IsAdapterOf wanted other
    → IsAdapterOf wanted (if resets then after_reset adapter else other)
reset-or wanted true adapter other is is_other =
    (is.0, record { no_descriptor = refl; none_received = refl; none_transmitted = refl })
reset-or wanted false adapter other is is_other = is_other

write-leaves : (wanted : Link) (register : Option Register) (value : ℕ) (adapter : AdapterState) → IsAdapterOf wanted adapter
    → IsAdapterOf wanted (left_by_write register value adapter)
write-leaves wanted None value adapter is = is
write-leaves wanted (Some register) value adapter is =
    let kept = (row_of register).kept in
    reset-or wanted (is_reset register value) adapter (by_row kept register value adapter) is
    (row-leaves wanted kept register value adapter is)

pub access-leaves : (wanted : Link) (access : Access) (world : World) → IsAdapterOf wanted world.adapter
    → IsAdapterOf wanted (world_after_access access world).adapter
access-leaves wanted (Reads offset value) world is = read-leaves wanted (register_at offset) world.adapter is
access-leaves wanted (Writes offset value) world is = write-leaves wanted (register_at offset) value world.adapter is
access-leaves wanted (Loads address size) world is = is
access-leaves wanted (Stores address bytes) world is = is
