-- Calls of a driver: the driver in its world, what it did in an interval, and what changed (`Ran`). `WhereReady` and
-- `Runs` state this for a bus that obeys the law. The order of the accesses is our choice.
use Rattle.std.specs.Prelude.{◌≡◌, ◌≤◌, ◌<◌, ◌⊎◌, ◌^◌, ◌+◌, ◌-◌, ◌%◌, ◌++◌, ◌∷◌, ◌&&◌, []}
use Rattle.std.specs.Prelude.{ℕ, Bool, true, List, IsTrue, length, map}
use Rattle.std.specs.Prelude.{min, nat_lt}
use Rattle.registers.specs.Bits.{HasBit, union}
use Rattle.registers.specs.Counting.{greatest_count}
use Rattle.registers.specs.Places.{alone, rxt0}
use Rattle.dma_memory.specs.Layout.{Counts, TransmitBuffer, descriptor_bytes, start_of}
use Rattle.dma_memory.specs.Owners.{HasNoSecondOwner}
use Rattle.descriptors.specs.Ring.{slots_from}
use Rattle.descriptors.specs.RingLaws.{place}
use Rattle.descriptors.specs.TxDesc.{tx_desc_bytes}
use Rattle.descriptors.specs.TxFields.{command_of, sent_of, tx_eop, tx_ifcs, tx_rs}
use Rattle.adapter_model.specs.declared.offsets.TheConstants.{ICR, RDT, TDT}
use Rattle.rx_engine.specs.Pieces.{frames_of}
use Rattle.adapter_model.specs.HostFrames.{finished_pieces, frames_held, frames_to_send}
use Rattle.adapter_model.specs.Slots.{written_back_slots}
use Rattle.adapter_model.specs.World.{World}
use Rattle.bus.specs.Link.{KeepsLink}
use Rattle.bus.specs.Pasts.{Past}
use Rattle.bus.specs.Settings.{AreSet, WhileOff}
use Rattle.bus.specs.declared.bus.Bus.{Ghosts}
use Rattle.bus.specs.declared.event.Access.{Access}
use Rattle.bus.specs.declared.event.Access.TheVariants.{Loads, Reads, Stores, Writes}
use Rattle.bus.specs.DriverState.{DriverState, HandedOut, buffer_at, holding, owners, receive_slot, transmit_slot, transmit_tail}
use Rattle.bus.specs.DriverState.{with_owners}
use Rattle.bus.specs.ReadyDrivers.{ReadyWith, empty_descriptor}

-- A driver in its world

-- A driver with its world, at one point of a run.
pub record DriverInWorld : Type 0 where
  -- the driver
  pub driver : DriverState
  -- the adapter and the memory of its host
  pub world : World

-- this driver in this world
abbrev pub driver_in : DriverState → World → DriverInWorld
driver_in driver world = record { driver = driver; world = world }

-- the frames that end in finished receive slots, from the driver's oldest slot on
abbrev pub frames_ended : DriverInWorld → List (List ℕ)
frames_ended now = frames_of (finished_pieces now.driver.oldest_receive now.world)

-- No work is forgotten: RXT0 is enabled, and RXT0 is recorded if a frame ends in the finished receive slots.
pub record HasNoForgottenWork (d : DriverState) (world : World) : Type 0 where
  -- RXT0 is in the mask
  pub enabled : HasBit world.adapter.causes.mask rxt0
  -- no frame ends in the finished slots, or RXT0 is recorded
  pub asked : (frames_ended (driver_in d world) ≡ []) ⊎ HasBit world.adapter.causes.recorded rxt0

-- The receive ring is refilled: no buffer is free, or all slots of the ring but one are outstanding.
abbrev pub IsRefilled : DriverState → Type 0
IsRefilled d = (d.pool ≡ []) ⊎ (length d.buffers + 1 ≡ d.layout.rx)

-- The receive ring was refilled: no slot is staged any more, and only the owners of buffers changed. This statement is for any bus, even
-- one that doesn't obey the bus law.
pub record OffersAll (d d' : DriverState) : Type 0 where
  -- only the owners of buffers change, and no slot is staged
  pub others : d' ≡ with_owners d d'.buffers [] d'.pool []
  -- the ring is refilled
  pub refilled : IsRefilled d'
  -- no buffer has two owners
  pub one_owner : HasNoSecondOwner d'.layout.buffers (owners d')

-- What a driver did in an interval

-- The frames that a driver took off the receive ring, and the frames that it accepted for sending.
pub record DriverDid : Type 0 where
  -- the frames taken off the receive ring, in order
  pub taken : List (List ℕ)
  -- the frames accepted for sending, in order
  pub accepted : List (List ℕ)

-- The driver took the frames `taken`, and accepted the frames `accepted`.
abbrev pub driver_did : (taken accepted : List (List ℕ)) → DriverDid
driver_did taken accepted = record { taken = taken; accepted = accepted }

-- The accesses of a call, and the frames that it took and accepted.
pub record Did : Type 0 where
  -- the accesses, in order
  pub accesses : List Access
  -- the frames taken and accepted
  pub frames : DriverDid

-- The call made these accesses, and took and accepted these frames.
abbrev pub call_did : List Access → (taken accepted : List (List ℕ)) → Did
call_did accesses taken accepted = record { accesses = accesses; frames = driver_did taken accepted }

-- The call made these accesses, and took and accepted no frame.
abbrev pub only : List Access → Did
only accesses = call_did accesses [] []

-- How the driver counts missed frames

-- The driver's sum of missed frames has 64 bits, so it is below this number (our choice).
abbrev pub sum_limit : ℕ
sum_limit = 2 ^ 64

-- The driver's sum of missed frames plus MPC.
abbrev pub misses_known : DriverInWorld → ℕ
misses_known now = now.driver.missed + now.world.adapter.missed_packets

-- At the beginning the driver's sum was exact, and MPC was below its greatest value. The sum plus MPC grew by exactly
-- the number of frames missed.
pub record IsExactSum (old new : DriverInWorld) (past : Past) : Type 0 where
  -- the sum was exact at the beginning
  pub exact : IsTrue old.driver.exact
  -- at the beginning MPC was below its greatest value, at which it saturates
  pub below_greatest : old.world.adapter.missed_packets < greatest_count
  -- the sum plus MPC grew by exactly the number of frames missed
  pub sum : misses_known new ≡ misses_known old + past.missed

-- How the driver's sum and MPC change in an interval, by the number of frames missed in it.
pub record SumsMisses (old new : DriverInWorld) (past : Past) : Type 0 where
  -- The driver's sum doesn't decrease.
  pub sum : old.driver.missed ≤ new.driver.missed
  -- If MPC wouldn't pass its greatest value and the total fits into a u64, the sum plus MPC grows by the number of frames missed.
  pub counted :
      old.world.adapter.missed_packets + past.missed ≤ greatest_count → misses_known old + past.missed < sum_limit
      → misses_known new ≡ misses_known old + past.missed
  -- If MPC wouldn't pass its greatest value, but the total is at least the greatest u64, so is the sum plus MPC at the end.
  pub sticks :
      old.world.adapter.missed_packets + past.missed ≤ greatest_count → sum_limit - 1 ≤ misses_known old + past.missed
      → sum_limit - 1 ≤ misses_known new
  -- The sum plus MPC grows by at most the number of frames missed.
  pub at_most : misses_known new ≤ misses_known old + past.missed
  -- If at the end the sum is exact and MPC is below its greatest value, both conditions were true at the beginning. The
  -- sum plus MPC then grew by exactly the number of frames missed.
  pub exactly : IsTrue new.driver.exact → new.world.adapter.missed_packets < greatest_count → IsExactSum old new past
  -- An exact sum remains exact if MPC would remain below its greatest value, and the total would fit into a u64.
  pub stays_exact :
      IsTrue old.driver.exact → old.world.adapter.missed_packets + past.missed < greatest_count
      → misses_known old + past.missed < sum_limit → IsTrue new.driver.exact
  -- If the sum is exact, or not below MPC's greatest value, at the beginning, the same is true at the end.
  pub small :
      (old.driver.missed < greatest_count → IsTrue old.driver.exact) → new.driver.missed < greatest_count → IsTrue new.driver.exact

-- Whether adding `value`, read from MPC, keeps the sum `missed` exact: `value` is below MPC's greatest value, and the sum doesn't saturate.
abbrev pub adds_exactly : (missed value : ℕ) → Bool
adds_exactly missed value = nat_lt value greatest_count && nat_lt (missed + value) sum_limit

-- The driver after this value, read from MPC, was added to the driver's sum, which saturates at the greatest u64. An exact sum remains
-- exact only if the value is added exactly.
abbrev pub missed_added : ℕ → DriverState → DriverState
missed_added value driver = record driver
    { missed = min (driver.missed + value) (sum_limit - 1); exact = driver.exact && adds_exactly driver.missed value }

-- What changes in an interval

-- What changes in an interval in which the driver took and accepted frames, and may have read any register.
pub record FlowsTo (up : Bool) (old new : DriverInWorld) (did : DriverDid) (past : Past) : Type 0 where
  -- The driver is ready again.
  pub ready : ReadyWith up new.driver new.world
  -- The sizes of the rings and the number of receive buffers don't change.
  pub layout : new.driver.layout ≡ old.driver.layout
  -- Frames are sent in order; no frame is lost or duplicated.
  pub sends : past.put ++ frames_to_send new.world ≡ frames_to_send old.world ++ did.accepted
  -- Frames are received in order; no frame is lost or duplicated.
  pub holds :
      did.taken ++ frames_held new.driver.oldest_receive new.world ≡ frames_held old.driver.oldest_receive old.world ++ past.stored
  -- The number of frames taken, plus those ended in finished slots at the end, is at least the number ended there at the beginning.
  pub least : length (frames_ended old) ≤ length did.taken + length (frames_ended new)
  -- The number of outstanding transmit slots that aren't written back increases by one for each frame accepted. It decreases by one for
  -- each frame put on the wire.
  pub frees :
      length (written_back_slots old.driver.oldest_transmit old.world) + length past.put + new.driver.sending
      ≡ old.driver.sending + length did.accepted + length (written_back_slots new.driver.oldest_transmit new.world)
  -- The mask, IMS, doesn't change.
  pub mask : new.world.adapter.causes.mask ≡ old.world.adapter.causes.mask
  -- Missed frames are counted.
  pub misses : SumsMisses old new past

-- What changes in an interval (`FlowsTo`) in which no recorded cause is cleared.
pub record GoesTo (up : Bool) (old new : DriverInWorld) (did : DriverDid) (past : Past) : Type 0 where
  -- frames were sent and received in order, and the driver is ready again
  pub flows : FlowsTo up old new did past
  -- No recorded cause is cleared.
  pub causes : (place : ℕ) → HasBit old.world.adapter.causes.recorded place → HasBit new.world.adapter.causes.recorded place
  -- RXT0 is recorded at the end, unless the number of frames that end in finished slots fell by exactly the number of
  -- frames taken.
  pub recorded :
      (length (frames_ended old) ≡ length did.taken + length (frames_ended new)) ⊎ HasBit new.world.adapter.causes.recorded rxt0

-- `GoesTo` with the transmit side set up.
abbrev pub Goes : (old new : DriverInWorld) → DriverDid → Past → Type 0
Goes = GoesTo true

-- What the driver's writes determine in an interval.
pub record FollowsWrites (old new : World) (past : Past) : Type 0 where
  -- The settings change only by the writes in `past`.
  pub set : AreSet old new past
  -- If RCTL.EN is 0 and RCTL isn't written, no frame is stored or missed.
  pub off : WhileOff old past
  -- Let the link be up, and no MDIC command be pending. Both remain true if neither CTRL nor MDIC is written.
  pub link : KeepsLink old new past

-- The accesses of the receive side

-- Stores of empty descriptors with these buffers, to the receive slots from `slot` on.
abbrev pub stores_from : Counts → ℕ → List ℕ → List Access
stores_from counts slot [] = []
stores_from counts slot (number ∷ later) =
    Stores (receive_slot slot) (empty_descriptor (buffer_at counts number)) ∷ stores_from counts ((slot + 1) % counts.rx) later

-- A write of RDT with this place; no access if no slot is staged.
abbrev pub tail_write : ℕ → (staged : List ℕ) → List Access
tail_write slot [] = []
tail_write slot (number ∷ later) = Writes RDT slot ∷ []

-- Loads of the descriptors of n receive slots, from `slot` on.
abbrev pub receive_loads : Counts → (slot n : ℕ) → List Access
receive_loads counts slot n = map (λ place. Loads (receive_slot place) descriptor_bytes) (slots_from counts.rx slot n)

-- A load of bytes 12 and 13, the EtherType, of a frame in these buffers; no access if there is no buffer.
abbrev pub ether_type_load : Counts → (numbers : List ℕ) → List Access
ether_type_load counts [] = []
ether_type_load counts (number ∷ later) = Loads (buffer_at counts number + 12) 2 ∷ []

-- The accesses by which frames are taken off the slots from `slot` on. Each item of the list contains the buffers of one frame. The
-- descriptors of the frame's slots are loaded, and then bytes 12 and 13 of the frame.
abbrev pub takes_from : Counts → (slot : ℕ) → List (List ℕ) → List Access
takes_from counts slot [] = []
takes_from counts slot (numbers ∷ later) =
    receive_loads counts slot (length numbers)
    ++ (ether_type_load counts numbers ++ takes_from counts (place counts.rx slot (length numbers)) later)

-- The accesses of the transmit side

-- the address of the buffer of a transmit slot
abbrev pub transmit_buffer : Counts → ℕ → ℕ
transmit_buffer counts slot = start_of counts (TransmitBuffer slot)

-- the address of the descriptor of the transmit slot at the tail
abbrev pub tail_slot : DriverState → ℕ
tail_slot driver = transmit_slot driver.layout (transmit_tail driver)

-- the address of the buffer of the transmit slot at the tail
abbrev pub tail_buffer : DriverState → ℕ
tail_buffer driver = transmit_buffer driver.layout (transmit_tail driver)

-- The command of a transmit descriptor with a whole packet: EOP, IFCS (insert the frame check sequence) and RS (report
-- status).
abbrev pub whole_packet_command : ℕ
whole_packet_command = union (union (alone tx_eop) (alone tx_ifcs)) (alone tx_rs)

-- The bytes of the transmit descriptor of a whole packet of `size` bytes at this address.
abbrev pub whole_descriptor : (address size : ℕ) → List ℕ
whole_descriptor address size = tx_desc_bytes (record {
  address = address;
  length = size;
  cso = 0;
  command = command_of whole_packet_command;
  status = sent_of 0;
  css = 0;
  special = 0;
})

-- Loads of the descriptors of k transmit slots, from `oldest` on.
abbrev pub transmit_loads : Counts → (oldest : ℕ) → ℕ → List Access
transmit_loads counts oldest k = map (λ slot. Loads (transmit_slot counts slot) descriptor_bytes) (slots_from counts.tx oldest k)

-- The accesses that send a frame in the slot at the tail: the frame's bytes are stored, then the descriptor, and then TDT is written.
abbrev pub send_accesses : DriverState → List ℕ → List Access
send_accesses driver frame =
    Stores (tail_buffer driver) frame
    ∷ Stores (tail_slot driver) (whole_descriptor (tail_buffer driver) (length frame))
    ∷ Writes TDT ((transmit_tail driver + 1) % driver.layout.tx) ∷ []

-- Calls over a bus

-- The bus and the driver at one point of a run.
pub record Moment (B : Type 0) : Type 0 where
  -- the bus
  pub bus : B
  -- the driver
  pub driver : DriverState

-- the moment with this bus and this driver
abbrev pub at : {B : Type 0} → B → DriverState → Moment B
at bus driver = record { bus = bus; driver = driver }

-- This moment, but others hold exactly these pieces of frames.
abbrev pub held_at : {B : Type 0} → List HandedOut → Moment B → Moment B
held_at held now = record now { driver = holding held now.driver }

-- The driver and its world at this moment.
abbrev pub in_world_of : {B : Type 0} → Ghosts B → Moment B → DriverInWorld
in_world_of bus now = driver_in now.driver (bus.world now.bus)

-- Between two moments the driver did exactly `did`.
pub record Ran {B : Type 0} (bus : Ghosts B) (up : Bool) (did : Did) (old new : Moment B) : Type 0 where
  -- what happened in the interval
  pub past : Past
  -- `past` happened on the bus in this interval
  pub reports : bus.happened old.bus new.bus past
  -- The accesses in the interval are exactly those of `did`, in this order.
  pub only : past.accesses ≡ did.accesses
  -- what changed
  pub goes : GoesTo up (in_world_of bus old) (in_world_of bus new) did.frames past
  -- what the driver's writes determine
  pub follows : FollowsWrites (bus.world old.bus) (bus.world new.bus) past

-- ICR was read over a bus, as the only access, with the value `causes`.
pub record ReadsCauses {B : Type 0} (bus : Ghosts B) (up : Bool) (causes : ℕ) (old : Moment B) (after_read : B) : Type 0 where
  -- what happened in the interval of the read
  pub past : Past
  -- `past` happened on the bus in this interval
  pub reports : bus.happened old.bus after_read past
  -- the only access is the read of ICR
  pub only : past.accesses ≡ Reads ICR causes ∷ []
  -- No frame was taken or accepted.
  pub flows : FlowsTo up (in_world_of bus old) (driver_in old.driver (bus.world after_read)) (driver_did [] []) past
  -- Each cause that was recorded at the beginning is in the value that was read.
  pub seen : (place : ℕ) → HasBit (bus.world old.bus).adapter.causes.recorded place → HasBit causes place
  -- No cause is recorded after the read.
  pub cleared : (bus.world after_read).adapter.causes.recorded ≡ 0
  -- If RXT0, bit 7, isn't in the value, and no work was forgotten before the read, no work is forgotten after it.
  pub work :
      ¬ HasBit causes rxt0 → HasNoForgottenWork old.driver (bus.world old.bus) → HasNoForgottenWork old.driver (bus.world after_read)
  -- What the driver's writes determine: there is no write, so no setting changes.
  pub follows : FollowsWrites (bus.world old.bus) (bus.world after_read) past

-- The bus obeys the law, and the driver is ready. The transmit side is set up if `up` is true, and off otherwise.
pub record IsReadyOver {B : Type 0} (bus : Ghosts B) (up : Bool) (now : Moment B) : Type 0 where
  -- the bus obeys the law
  pub honest : bus.honest now.bus
  -- the driver is ready
  pub ready : ReadyWith up now.driver (bus.world now.bus)

-- If the bus obeys the law and the driver is ready before a call, `Holds` relates the moments before and after the call. The relation is
-- stated for each list of pieces of frames that others hold, and for a transmit side that is set up or off.
abbrev pub WhereReady : {B : Type 0} → Ghosts B → (old new : Moment B) → (Bool → Moment B → Moment B → Type 0) → Type 0
WhereReady bus old new Holds =
    (up : Bool) (held : List HandedOut) → IsReadyOver bus up (held_at held old) → Holds up (held_at held old) (held_at held new)

-- `WhereReady` only for a transmit side that is set up.
abbrev pub WhereUp : {B : Type 0} → Ghosts B → (old new : Moment B) → (Moment B → Moment B → Type 0) → Type 0
WhereUp bus old new Holds = (held : List HandedOut) → IsReadyOver bus true (held_at held old) → Holds (held_at held old) (held_at held new)

-- If the bus obeys the law and the driver is ready, the call did exactly `did`.
abbrev pub Runs : {B : Type 0} → Ghosts B → Did → (old new : Moment B) → Type 0
Runs bus did old new = WhereReady bus old new (λ up. Ran bus up did)
