-- The target at an address in memory. Sections 3.2.6 "Receive Descriptor Queue Structure" and 3.4 "Transmit Descriptor Ring Structure"
-- define where descriptors are; to prefer the receive ring if both rings contain the address is our choice.
use Rattle.std.specs.Prelude.{◌&&◌, ◌+◌, ◌-◌, ◌/◌, ◌%◌, ℕ, Bool, Option, Some, None, if◌then◌else◌, nat_le, nat_lt}
use Rattle.adapter.specs.Rings.{ring_of}
use Rattle.adapter.specs.State.{AdapterState}
use Rattle.descriptors.specs.declared.ring.Ring.{Ring}
use Rattle.access_names.specs.declared.engine_fault.Engine.{Engine}
use Rattle.access_names.specs.declared.engine_fault.Engine.TheVariants.{Receive, Transmit}
use Rattle.access_names.specs.declared.target.Target.{Target}
use Rattle.access_names.specs.declared.target.Target.TheVariants.{Descriptor, Memory}

-- whether this address is in the ring
abbrev pub is_in_ring : Ring → ℕ → Bool
is_in_ring ring address = nat_le ring.base address && nat_lt address (ring.base + ring.bytes)

-- the byte at this distance in bytes from the base of an engine's ring; a descriptor has 16 bytes
abbrev pub descriptor_target : Engine → ℕ → Target
descriptor_target engine distance = Descriptor engine (distance / 16) (distance % 16)

-- the byte of an engine's ring at this address, if the address is in the ring
abbrev pub target_in_ring : Engine → Ring → ℕ → Option Target
target_in_ring engine ring address =
    if is_in_ring ring address then Some (descriptor_target engine (address - ring.base)) else None

-- the first target if there is one, or else the second target
abbrev pub target_or : Option Target → Target → Target
target_or (Some target) other = target
target_or None other = other

-- the target of an access at this address in memory
abbrev pub memory_target_in : AdapterState → ℕ → Target
memory_target_in adapter address =
    target_or (target_in_ring Receive (ring_of adapter.receive_ring) address)
    (target_or (target_in_ring Transmit (ring_of adapter.transmit_ring) address)
    (Memory address))
