-- Quiet accesses don't change the adapter. Accesses that meet `LeavesCauses` don't change the recorded causes, and those that meet
-- `LeavesMask` don't change the mask.
use Rattle.std.proofs.Common.{◌≡◌, ◌≢◌, ℕ, Bool, Option, Some, None, refl, sym, ap, subst, ◌∙◌, cond}
use Rattle.std.specs.Prelude.{IfSome}
use Rattle.adapter_model.specs.Registers.{after_reset, by_row, left_by_read, left_by_write, read_of, write_of}
use Rattle.adapter_model.specs.State.{AdapterState}
use Rattle.adapter_model.specs.Table.{IsInTable, register_at, row_of}
use Rattle.adapter_model.specs.TableLaws.{register_at-there}
use Rattle.adapter_model.specs.World.{World}
use Rattle.adapter_model.specs.declared.register.Register.{Register}
use Rattle.adapter_model.specs.declared.register.Register.TheVariants.{Icr, Ics, Ims, Imc, Mpc, Gprc, Gptc, Rnbc, Receive, Transmit}
use Rattle.bus.specs.Accesses.{LeavesCauses, LeavesInterrupts, LeavesMask}
use Rattle.bus.specs.Accesses.{MovesCauses, MovesMask, ResetsNothing, StaysAtRead, WriteLeavesCauses, WriteLeavesMask}
use Rattle.bus.specs.Accesses.{QuietAccessesLeaveAdapters, QuietAccessesLeaveInterrupts, QuietAccessesLeaveWorlds}
use Rattle.bus.specs.Accesses.{RingWritesLeaveInterrupts}
use Rattle.bus.specs.declared.event.Access.{Access}
use Rattle.bus.specs.declared.event.Access.TheVariants.{Loads, Reads, Stores, Writes}
use Rattle.bus.specs.Trails.{world_after_access}
use Rattle.bus.proofs.RegisterWrites.{read-counts}

pub at_offset : (P : Register → Type 0) (register : Register) → IsInTable register → P register
    → IfSome (register_at (row_of register).offset) P
at_offset P register within is = subst (λ (found : Option Register). IfSome found P) (sym (register_at-there register within)) is

-- Quiet accesses.

register-stays : (register : Register) (state : AdapterState) → StaysAtRead register → read_of register state ≡ state
register-stays Icr state stays = absurd (stays tt)
register-stays Mpc state stays = absurd (stays tt)
register-stays Gprc state stays = absurd (stays tt)
register-stays Gptc state stays = absurd (stays tt)
register-stays Rnbc state stays = absurd (stays tt)
register-stays _ state stays = refl

found-stays : (found : Option Register) (state : AdapterState) → IfSome found StaysAtRead → left_by_read found state ≡ state
found-stays None state stays = refl
found-stays (Some register) state stays = register-stays register state stays

pub quiet_leaves_adapter : QuietAccessesLeaveAdapters
quiet_leaves_adapter (Reads offset value) world quiet = found-stays (register_at offset) world.adapter quiet
quiet_leaves_adapter (Writes offset value) world quiet = absurd quiet
quiet_leaves_adapter (Loads address size) world quiet = refl
quiet_leaves_adapter (Stores address bytes) world quiet = refl

abbrev with-adapter : World → AdapterState → World
with-adapter world adapter = record world { adapter = adapter }

pub quiet_leaves_world : QuietAccessesLeaveWorlds
quiet_leaves_world (Reads offset value) world quiet other = ap (with-adapter world) (found-stays (register_at offset) world.adapter quiet)
quiet_leaves_world (Writes offset value) world quiet other = absurd quiet
quiet_leaves_world (Loads address size) world quiet other = refl
quiet_leaves_world (Stores address bytes) world quiet other = absurd (other tt)

not-icr : (found : Option Register) → IfSome found StaysAtRead → found ≢ Some Icr
not-icr found stays is =
    let of_icr : IfSome (Some Icr) StaysAtRead = subst (λ (f : Option Register). IfSome f StaysAtRead) is stays in
    of_icr tt

pub quiet_leaves_interrupts : QuietAccessesLeaveInterrupts
quiet_leaves_interrupts (Reads offset value) quiet = record { no_reset = tt; causes = not-icr (register_at offset) quiet; mask = tt }
quiet_leaves_interrupts (Writes offset value) quiet = absurd quiet
quiet_leaves_interrupts (Loads address size) quiet = record { no_reset = tt; causes = tt; mask = tt }
quiet_leaves_interrupts (Stores address bytes) quiet = record { no_reset = tt; causes = tt; mask = tt }

-- Writes of registers.

pub write_leaves_interrupts : (register : Register) (value : ℕ)
    → IsInTable register → WriteLeavesCauses value register → WriteLeavesMask value register
    → LeavesInterrupts (Writes (row_of register).offset value)
write_leaves_interrupts register value within causes mask = record {
  no_reset = at_offset (ResetsNothing value) register within causes.1;
  causes = at_offset (WriteLeavesCauses value) register within causes;
  mask = at_offset (WriteLeavesMask value) register within mask;
}

pub ring_writes_leave_interrupts : RingWritesLeaveInterrupts
ring_writes_leave_interrupts (Receive part) value of_ring =
    write_leaves_interrupts (Receive part) value tt ((λ no. no), refl) ((λ no. no), refl)
ring_writes_leave_interrupts (Transmit part) value of_ring =
    write_leaves_interrupts (Transmit part) value tt ((λ no. no), refl) ((λ no. no), refl)
ring_writes_leave_interrupts _ value of_ring = absurd of_ring

pub by-row : (register : Register) (value : ℕ) (state : AdapterState) → ResetsNothing value register
    → write_of register value state ≡ by_row (row_of register).kept register value state
by-row register value state keeps =
    ap (λ (test : Bool). cond test (after_reset state) (by_row (row_of register).kept register value state)) keeps

row-causes : (register : Register) (value : ℕ) (state : AdapterState) → ¬ (MovesCauses register)
    → (by_row (row_of register).kept register value state).causes.recorded ≡ state.causes.recorded
row-causes Icr value state other = absurd (other tt)
row-causes Ics value state other = absurd (other tt)
row-causes _ value state other = refl

row-mask : (register : Register) (value : ℕ) (state : AdapterState) → ¬ (MovesMask register)
    → (by_row (row_of register).kept register value state).causes.mask ≡ state.causes.mask
row-mask Ims value state other = absurd (other tt)
row-mask Imc value state other = absurd (other tt)
row-mask _ value state other = refl

written-causes : (found : Option Register) (value : ℕ) (state : AdapterState) → IfSome found (WriteLeavesCauses value)
    → (left_by_write found value state).causes.recorded ≡ state.causes.recorded
written-causes None value state leaves = refl
written-causes (Some register) value state leaves =
    ap (λ (s : AdapterState). s.causes.recorded) (by-row register value state leaves.1) ∙ row-causes register value state leaves.0

written-mask : (found : Option Register) (value : ℕ) (state : AdapterState) → IfSome found (WriteLeavesMask value)
    → (left_by_write found value state).causes.mask ≡ state.causes.mask
written-mask None value state leaves = refl
written-mask (Some register) value state leaves =
    ap (λ (s : AdapterState). s.causes.mask) (by-row register value state leaves.1) ∙ row-mask register value state leaves.0

-- Reads of registers.

register-causes : (register : Register) (state : AdapterState) → register ≢ Icr
    → (read_of register state).causes.recorded ≡ state.causes.recorded
register-causes Icr state other = absurd (other refl)
register-causes Mpc state other = refl
register-causes Gprc state other = refl
register-causes Gptc state other = refl
register-causes Rnbc state other = refl
register-causes _ state other = refl

found-causes : (found : Option Register) (state : AdapterState) → found ≢ Some Icr
    → (left_by_read found state).causes.recorded ≡ state.causes.recorded
found-causes None state other = refl
found-causes (Some register) state other = register-causes register state (λ is. other (ap (λ (r : Register). Some r) is))

-- Any access.

pub access_leaves_causes : (access : Access) (world : World) → LeavesCauses access
    → (world_after_access access world).adapter.causes.recorded ≡ world.adapter.causes.recorded
access_leaves_causes (Reads offset value) world leaves = found-causes (register_at offset) world.adapter leaves
access_leaves_causes (Writes offset value) world leaves = written-causes (register_at offset) value world.adapter leaves
access_leaves_causes (Loads address size) world leaves = refl
access_leaves_causes (Stores address bytes) world leaves = refl

pub access_leaves_mask : (access : Access) (world : World) → LeavesMask access
    → (world_after_access access world).adapter.causes.mask ≡ world.adapter.causes.mask
access_leaves_mask (Reads offset value) world leaves = ap (λ (s : AdapterState). s.causes.mask) (read-counts offset world.adapter)
access_leaves_mask (Writes offset value) world leaves = written-mask (register_at offset) value world.adapter leaves
access_leaves_mask (Loads address size) world leaves = refl
access_leaves_mask (Stores address bytes) world leaves = refl
