-- MDIC, the MDI control register (manual, 13.4.7), one step at a time.
use Rattle.std.specs.Prelude.{ℕ, ◌+◌, ◌*◌, ◌/◌, ◌%◌, ◌^◌, ◌==◌, ◌&&◌, ◌||◌, Bool, Option, Some, None, is_some, if◌then◌else◌}
use Rattle.registers.specs.Bits.{difference, field, is_set, union}
use Rattle.registers.specs.Places.{alone}
use Rattle.mdic_phy.specs.declared.mdic.Operation.{Operation}
use Rattle.mdic_phy.specs.declared.mdic.Operation.TheVariants.{Write, Read}
use Rattle.mdic_phy.specs.declared.mdic.Ticked.{Ticked}
use Rattle.mdic_phy.specs.Phy.{PhyState}
use Rattle.mdic_phy.specs.Phy as phy
use Rattle.mdic_phy.specs.PhyPlaces.{mdic_e, mdic_i, mdic_op, mdic_phyadd, mdic_r, mdic_regadd, mdic_reserved}

-- The value of MDIC, and the command that is pending, if any.
pub record MdicState : Type 0 where
  -- The value of MDIC.
  pub value : ℕ
  -- The command that is pending, if there is one.
  pub pending : Option Operation

-- MDIC with value 0 and no pending command, as after a reset (our choice).
abbrev pub new_mdic : MdicState
new_mdic = record { value = 0; pending = None }

-- DATA, bits 15:0 (13.4.7).
abbrev pub data_bits : ℕ → ℕ
data_bits value = value % 2 ^ 16

-- REGADD, bits 20:16: the number of the PHY's register (13.4.7).
abbrev pub regadd : ℕ → ℕ
regadd value = field value mdic_regadd 5

-- PHYADD, bits 25:21: the PHY's address (13.4.7).
abbrev pub phyadd : ℕ → ℕ
phyadd value = field value mdic_phyadd 5

-- OP, bits 27:26: the command (13.4.7).
abbrev pub op : ℕ → ℕ
op value = field value mdic_op 2

-- The command that OP names: 01 a write, 10 a read (13.4.7), 00 and 11 none (our choice).
abbrev pub operation_of : ℕ → Option Operation
operation_of value = if op value == 1 then Some Write else (if op value == 2 then Some Read else None)

-- The bits of a written value that MDIC stores: all except R, E and bit 31, which is reserved (our choice).
abbrev pub kept_bits : ℕ → ℕ
kept_bits value = difference value (union (union (alone mdic_r) (alone mdic_e)) (alone mdic_reserved))

-- MDIC after a write: the kept bits are stored, and the command of OP, if there is one, is pending. An earlier pending command is dropped
-- (our choice).
abbrev pub mdic_after_write : ℕ → MdicState
mdic_after_write value = record { value = kept_bits value; pending = operation_of value }

-- A value with R set.
abbrev pub with_ready : ℕ → ℕ
with_ready value = union value (alone mdic_r)

-- A value with R and E set.
abbrev pub with_error : ℕ → ℕ
with_error value = union (with_ready value) (alone mdic_e)

-- A value with this word as DATA.
abbrev pub with_data : ℕ → ℕ → ℕ
with_data word value = value / 2 ^ 16 * 2 ^ 16 + word

-- Whether PHYADD is 1, the address of the PHY (13.4.7).
abbrev pub reaches_phy : ℕ → Bool
reaches_phy value = phyadd value == 1

-- The value of MDIC after a command has ended at a PHY in this state. With PHYADD 1, R is set, and a read stores the PHY's register in
-- DATA. At another address no PHY answers: R and E are set, and DATA doesn't change (our choice).
abbrev pub ended_value : Operation → PhyState → ℕ → ℕ
ended_value Write state value = if reaches_phy value then with_ready value else with_error value
ended_value Read state value = if reaches_phy value then with_ready
    (with_data (phy.read_value (regadd value) state) value) else with_error value

-- The PHY after a command has ended, with this value of MDIC. With PHYADD 1, the command writes DATA to register REGADD, or reads this
-- register. Otherwise the PHY doesn't change.
abbrev pub ended_phy : Operation → ℕ → PhyState → PhyState
ended_phy Write value state = if reaches_phy value then phy.phy_after_write (regadd value) (data_bits value) state else state
ended_phy Read value state = if reaches_phy value then phy.phy_after_read (regadd value) state else state

-- The value of MDIC after the pending command, if any, has ended at a PHY in this state.
abbrev pub ended : Option Operation → ℕ → PhyState → ℕ
ended None value state = value
ended (Some operation) value state = ended_value operation state value

-- The PHY after the pending command, if any, has ended.
abbrev pub phy_ended : Option Operation → ℕ → PhyState → PhyState
phy_ended None value state = state
phy_ended (Some operation) value state = ended_phy operation value state

-- MDIC after a tick: a pending command, if any, has ended. The command accesses the PHY after the PHY's countdown has decreased.
abbrev pub mdic_after_tick : MdicState → PhyState → MdicState
mdic_after_tick mdic state = record { value = ended mdic.pending mdic.value (phy.after_tick state); pending = None }

-- The PHY after a tick: first the PHY's countdown decreases, and then the pending command, if any, accesses the PHY.
abbrev pub phy_after_tick : MdicState → PhyState → PhyState
phy_after_tick mdic state = phy_ended mdic.pending mdic.value (phy.after_tick state)

-- Whether a tick has something to do: the PHY's link countdown is running, or a command is pending.
abbrev pub has_work : MdicState → PhyState → Bool
has_work mdic state = phy.is_counting state || is_some mdic.pending

-- Whether a command with I set is pending: its end is reported, for the cause MDAC (13.4.7).
abbrev pub tells_end : MdicState → Bool
tells_end mdic = is_some mdic.pending && is_set mdic.value mdic_i

-- What a tick reports: whether the link changes from down to up (for LSC), and whether a command with I set ends (for MDAC). The result is
-- `None` if the tick has nothing to do.
abbrev pub told : MdicState → PhyState → Option Ticked
told mdic state =
    if has_work mdic state
    then Some (record { link_changed = phy.comes_up state; access_complete = tells_end mdic })
    else None
