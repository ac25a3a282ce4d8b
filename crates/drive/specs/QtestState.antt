-- A bus to another program, as plain data, and what accesses do to it (our choice).
use Rattle.std.specs.Prelude.{◌≡◌, ℕ, List, Bool, Option, None, OnSome}
use Rattle.std.specs.Io.KnownBytes.{Appends}
use Rattle.adapter.specs.bus_types.event.Access.{Access}
use Rattle.drive.specs.QtestRequests.{request_of, requests_of}
use Rattle.drive.specs.declared.bus_fault.BusFault.{BusFault}

-- the state of a bus to another program
pub record QtestState : Type 0 where
  -- the address of the first register
  pub registers : ℕ
  -- the size of memory in bytes; memory begins at address 0
  pub memory : ℕ
  -- whether the interrupt line is asserted, as the last `IRQ` line reported; false before the first one
  pub asserted : Bool
  -- why the bus stopped, or `None` if it hasn't stopped
  pub fault : Option BusFault
  -- the bytes that were written to the program, if they are visible to contracts
  pub written : Option (List ℕ)

-- the size of memory in bytes, as the `extent` of the bus
abbrev pub memory_size : QtestState → ℕ
memory_size bus = bus.memory

-- Contracts know nothing about the other program. So the bus never counts as a bus that obeys the bus law, or that plays ticks of the
-- EEPROM and the PHY before each access.
abbrev pub is_never : QtestState → Type 0
is_never bus = ⊥

-- The address of the registers and the size of memory are the same, and a bus that has stopped remains stopped.
pub record IsSameBus (old new : QtestState) : Type 0 where
  pub registers : new.registers ≡ old.registers
  pub memory : new.memory ≡ old.memory
  pub fault_stays : new.fault ≡ None → old.fault ≡ None

-- Only the interrupt line and the bytes written may have changed.
abbrev pub HasAsked : (old new : QtestState) → Type 0
HasAsked old new = new ≡ record old { asserted = new.asserted; written = new.written }

-- One access. If the bus hasn't stopped after the access, exactly the request for this access was written.
pub record Asks (access : Access) (old new : QtestState) : Type 0 where
  pub same : IsSameBus old new
  pub asked : new.fault ≡ None → Appends old.written new.written (request_of old.registers access)
  -- If the bus had stopped before the access, nothing changes.
  pub stopped : OnSome old.fault (new ≡ old)

-- Some accesses, perhaps none. If the bus hasn't stopped after these accesses, exactly their requests were written, in order.
pub record AsksAll (old new : QtestState) : Type 0 where
  pub same : IsSameBus old new
  pub accesses : List Access
  pub asked : new.fault ≡ None → Appends old.written new.written (requests_of old.registers accesses)
