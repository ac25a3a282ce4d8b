-- Accesses of a driver that don't change the adapter, or don't change its recorded causes or its mask (our choice).
use Rattle.std.specs.Prelude.{⊤, ◌≡◌, ◌≢◌, ℕ, false, Some, IfSome}
use Rattle.adapter_model.specs.Registers.{is_reset}
use Rattle.adapter_model.specs.Table.{register_at, row_of}
use Rattle.adapter_model.specs.World.{World}
use Rattle.adapter_model.specs.declared.register.Register.{Register}
use Rattle.adapter_model.specs.declared.register.Register.TheVariants.{Icr, Ics, Ims, Imc, Mpc, Gprc, Gptc, Rnbc}
use Rattle.bus.specs.IdleRings.{IsOfRing}
use Rattle.bus.specs.declared.event.Access.{Access}
use Rattle.bus.specs.declared.event.Access.TheVariants.{Loads, Reads, Stores, Writes}
use Rattle.bus.specs.Trails.{world_after_access}

-- The register is ICR, MPC, GPRC, GPTC or RNBC: a read of this register clears it.
abbrev pub IsClearedByRead : Register → Type 0
IsClearedByRead Icr = ⊤
IsClearedByRead Mpc = ⊤
IsClearedByRead Gprc = ⊤
IsClearedByRead Gptc = ⊤
IsClearedByRead Rnbc = ⊤
IsClearedByRead register = ⊥

-- A read of the register doesn't clear it.
abbrev pub StaysAtRead : Register → Type 0
StaysAtRead register = ¬ (IsClearedByRead register)

-- A quiet access: a load, a store, or a read that clears no register.
abbrev pub IsQuiet : Access → Type 0
IsQuiet (Reads offset value) = IfSome (register_at offset) StaysAtRead
IsQuiet (Writes offset value) = ⊥
IsQuiet (Loads address size) = ⊤
IsQuiet (Stores address bytes) = ⊤

-- The access is a store.
abbrev pub IsStore : Access → Type 0
IsStore (Reads offset value) = ⊥
IsStore (Writes offset value) = ⊥
IsStore (Loads address size) = ⊥
IsStore (Stores address bytes) = ⊤

-- A quiet access doesn't change the adapter.
abbrev pub QuietAccessesLeaveAdapters : Type 0
QuietAccessesLeaveAdapters = (access : Access) (world : World) → IsQuiet access → (world_after_access access world).adapter ≡ world.adapter

-- A quiet access that isn't a store changes neither the adapter nor memory.
abbrev pub QuietAccessesLeaveWorlds : Type 0
QuietAccessesLeaveWorlds = (access : Access) (world : World) → IsQuiet access → ¬ (IsStore access) → world_after_access access world ≡ world

-- The register is ICR or ICS: a write of this register can change the recorded causes.
abbrev pub MovesCauses : Register → Type 0
MovesCauses Icr = ⊤
MovesCauses Ics = ⊤
MovesCauses register = ⊥

-- The register is IMS or IMC: a write of this register can change the mask.
abbrev pub MovesMask : Register → Type 0
MovesMask Ims = ⊤
MovesMask Imc = ⊤
MovesMask register = ⊥

-- A write of this word to the register isn't a reset.
abbrev pub ResetsNothing : ℕ → Register → Type 0
ResetsNothing value register = is_reset register value ≡ false

-- The register is neither ICR nor ICS, and a write of this word to the register isn't a reset.
abbrev pub WriteLeavesCauses : ℕ → Register → Type 0
WriteLeavesCauses value register = (¬ (MovesCauses register)) × ResetsNothing value register

-- The register is neither IMS nor IMC, and a write of this word to the register isn't a reset.
abbrev pub WriteLeavesMask : ℕ → Register → Type 0
WriteLeavesMask value register = (¬ (MovesMask register)) × ResetsNothing value register

-- The access isn't a write of CTRL with RST.
abbrev pub IsNoReset : Access → Type 0
IsNoReset (Reads offset value) = ⊤
IsNoReset (Writes offset value) = IfSome (register_at offset) (ResetsNothing value)
IsNoReset (Loads address size) = ⊤
IsNoReset (Stores address bytes) = ⊤

-- The access is neither a read of ICR, nor a write of ICR or ICS, nor a reset.
abbrev pub LeavesCauses : Access → Type 0
LeavesCauses (Reads offset value) = register_at offset ≢ Some Icr
LeavesCauses (Writes offset value) = IfSome (register_at offset) (WriteLeavesCauses value)
LeavesCauses (Loads address size) = ⊤
LeavesCauses (Stores address bytes) = ⊤

-- The access is neither a write of IMS or IMC, nor a reset.
abbrev pub LeavesMask : Access → Type 0
LeavesMask (Reads offset value) = ⊤
LeavesMask (Writes offset value) = IfSome (register_at offset) (WriteLeavesMask value)
LeavesMask (Loads address size) = ⊤
LeavesMask (Stores address bytes) = ⊤

-- The access is neither a reset, nor a read of ICR, nor a write of ICR, ICS, IMS or IMC.
pub record LeavesInterrupts (access : Access) : Type 0 where
  pub no_reset : IsNoReset access
  pub causes : LeavesCauses access
  pub mask : LeavesMask access

-- Each quiet access meets `LeavesInterrupts`.
abbrev pub QuietAccessesLeaveInterrupts : Type 0
QuietAccessesLeaveInterrupts = (access : Access) → IsQuiet access → LeavesInterrupts access

-- Each write of a ring's register, also of RDT or TDT, meets `LeavesInterrupts`.
abbrev pub RingWritesLeaveInterrupts : Type 0
RingWritesLeaveInterrupts = (register : Register) (value : ℕ) → IsOfRing register → LeavesInterrupts (Writes (row_of register).offset value)
