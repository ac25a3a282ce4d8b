-- What an adapter receives in an interval, and the accesses that don't change how it receives (our choice).
use Rattle.std.specs.Prelude.{⊤, ◌≡◌, ℕ, List, IfSome}
use Rattle.rx_filter.specs.Registers.{FilterRegisters}
use Rattle.adapter.specs.Receiving.{room}
use Rattle.adapter.specs.State.{AdapterState}
use Rattle.adapter.specs.Table.{register_at}
use Rattle.adapter.specs.model_types.register.Register.{Register}
use Rattle.adapter.specs.model_types.register.Register.TheVariants.{Ims, Receive, Tctl, Transmit}
use Rattle.adapter.specs.model_types.register.RingRegister.TheVariants.{Tail}
use Rattle.adapter.specs.bus_types.event.Access.{Access}
use Rattle.adapter.specs.bus_types.event.Access.TheVariants.{Loads, Reads, Stores, Writes}
use Rattle.host_calls.specs.Fates.{AreRightFates, KeepsGroups, Mark, reception}

-- The register is RDT, TCTL, IMS, or one of the transmit ring.
abbrev pub IsNotOfReception : Register → Type 0
IsNotOfReception (Receive Tail) = ⊤
IsNotOfReception (Transmit part) = ⊤
IsNotOfReception Tctl = ⊤
IsNotOfReception Ims = ⊤
IsNotOfReception register = ⊥

-- The access doesn't write a register, except one of those that `IsNotOfReception` permits. Such an access changes
-- neither the filter nor the receive packet buffer and its size.
abbrev pub LeavesReception : Access → Type 0
LeavesReception (Reads offset value) = ⊤
LeavesReception (Writes offset value) = IfSome (register_at offset) IsNotOfReception
LeavesReception (Loads address size) = ⊤
LeavesReception (Stores address bytes) = ⊤

-- The registers of the receive filter are the same, except MTA.
abbrev pub SameButGroups : FilterRegisters → FilterRegisters → Type 0
SameButGroups a b = b ≡ record a { mta = b.mta }

-- From the adapter `a` to `b`, the filter except MTA, and the room of the receive packet buffer, don't change. The
-- fates of the frames that arrived are right, for a receive side that is enabled at the beginning and at the end. The
-- joined groups are `groups` at the beginning, and `groups'` at the end.
pub record ReceivesRightly (groups : List (List ℕ)) (a : AdapterState) (all : List Mark) (groups' : List (List ℕ)) (b : AdapterState)
    : Type 0 where
  -- The registers of the receive filter, which include RCTL, are the same at the end, except MTA.
  pub filter : SameButGroups a.filter b.filter
  -- If no group is joined or left, MTA is the same, too.
  pub unchanged : KeepsGroups all → b.filter ≡ a.filter
  -- RXA of PBA is the same at the end.
  pub kilobytes : b.receive_kilobytes ≡ a.receive_kilobytes
  -- Each frame that arrived has the right fate: by the groups in force, the frames in the packet buffer, and whether
  -- the receive side was enabled. The marks lead from the groups and frames at the beginning to those at the end.
  pub fates : AreRightFates a.filter (room a) (reception groups a.receiver.buffer) all (reception groups' b.receiver.buffer)
