-- The atomic steps of a reset of a host's adapter, in its network (our choice). The accesses among them are exactly those of the driver's
-- reset, in order (driver/specs/Resetting). Three accesses divide the steps: RCTL is written with 0, then CTRL with
-- RST, then RCTL again.
use Rattle.std.specs.Prelude.{◌≡◌, ◌++◌, ◌∷◌, [], ℕ, List}
use Rattle.registers.specs.Places.{alone, ctrl_rst}
use Rattle.dma_memory.specs.Layout.{Counts}
use Rattle.adapter.specs.model_types.offsets.TheConstants.{CTRL, ICR, IMC, MPC, RCTL}
use Rattle.adapter.specs.bus_types.event.Access.TheVariants.{Reads, Writes}
use Rattle.adapter.specs.bus_types.event.Event.TheVariants.{Accesses}
use Rattle.stations.specs.AtomicRuns.{past_at}
use Rattle.stations.specs.AtomicSteps.{At, AtomicStep}
use Rattle.adapter.specs.DriverState.{DriverSetup}
use Rattle.bring_up.specs.RingRegisters.{receive_control}
use Rattle.driver.specs.Resetting.{free_accesses, later_accesses, quiet_writes}

-- the atomic step in which host k writes the value `value` to the register at `offset`
abbrev pub writes_at : (k offset value : ℕ) → AtomicStep
writes_at k offset value = At k (Accesses (Writes offset value))

-- The atomic steps before, between and after the three writes.
pub record ResetParts : Type 0 where
  -- the ticks before RCTL is written with 0: no access comes before them
  pub early : List AtomicStep
  -- the steps between the write of 0 to RCTL and the write of CTRL.RST: 1 or 2 accesses come before their ticks
  pub stopping : List AtomicStep
  -- the steps between the write of CTRL.RST and the second write of RCTL: at least 3 accesses come before their ticks
  pub resting : List AtomicStep
  -- the steps after the second write of RCTL
  pub later : List AtomicStep

-- the step in which RCTL is written with 0
abbrev pub disable_of : (k : ℕ) → AtomicStep
disable_of k = writes_at k RCTL 0

-- the steps before CTRL.RST is written
abbrev pub before_reset : (k : ℕ) → ResetParts → List AtomicStep
before_reset k parts = parts.early ++ disable_of k ∷ parts.stopping

-- the step in which CTRL.RST is written
abbrev pub reset_of : (k : ℕ) → AtomicStep
reset_of k = writes_at k CTRL (alone ctrl_rst)

-- the step in which RCTL is written the second time
abbrev pub enable_of : (k : ℕ) → DriverSetup → AtomicStep
enable_of k setup = writes_at k RCTL (receive_control setup.promiscuous setup.by_vlan)

-- the steps from the write of CTRL.RST to the second write of RCTL, both included
abbrev pub at_rest : (k : ℕ) → DriverSetup → ResetParts → List AtomicStep
at_rest k setup parts = reset_of k ∷ (parts.resting ++ enable_of k setup ∷ [])

-- all steps of a reset
abbrev pub whole_reset : (k : ℕ) → DriverSetup → ResetParts → List AtomicStep
whole_reset k setup parts = before_reset k parts ++ (at_rest k setup parts ++ parts.later)

-- Values that a driver reads, writes and stores in a reset, besides those that its setup determines.
pub record ResetValues : Type 0 where
  -- the value read from MPC
  pub misses : ℕ
  -- the value read from ICR
  pub causes : ℕ
  -- the words of MTA
  pub groups : List ℕ
  -- the words of VFTA
  pub vlans : List ℕ
  -- the numbers of the buffers in the slots that are offered
  pub numbers : List ℕ

-- The accesses of each part, in order. These accesses and the three writes are all accesses of the reset.
pub record PartsAccess (k : ℕ) (counts : Counts) (setup : DriverSetup) (values : ResetValues) (parts : ResetParts) : Type 0 where
  -- before RCTL is written with 0, there is no access
  pub early : (past_at k parts.early).accesses ≡ []
  -- before CTRL.RST is written, MPC is read
  pub stopping : (past_at k parts.stopping).accesses ≡ Reads MPC values.misses ∷ []
  -- before RCTL is written again, IMC is written, ICR is read, the registers are set up, and receive slots are offered
  pub resting : (past_at k parts.resting).accesses ≡ Writes IMC 0xFFFFFFFF ∷ Reads ICR values.causes
      ∷ quiet_writes setup counts values.groups values.vlans ++ free_accesses counts values.numbers
  -- after RCTL is written again, the transmit side is set up and IMS is written
  pub later : (past_at k parts.later).accesses ≡ later_accesses counts
