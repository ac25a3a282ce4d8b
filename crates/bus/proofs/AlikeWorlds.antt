-- Worlds that agree in everything that a driver knows.
use Rattle.std.proofs.Common.{Bool, ◌≡◌, ◌≤◌, ℕ, List, length, map, refl, sym, ap, subst, ◌∙◌}
use Rattle.registers.specs.Places.{rctl_en}
use Rattle.std.specs.List.{All}
use Rattle.registers.specs.Bits.{field, HasBit}
use Rattle.registers.specs.ReceiveControl.{buffer_size_of}
use Rattle.dma_memory.specs.Layout.{size_of, receive_buffer_bytes}
use Rattle.rx_engine.specs.Descriptors.{named_address}
use Rattle.tx_engine.specs.Transmitter.{Queued}
use Rattle.descriptors.specs.declared.ring.Ring.{Ring}
use Rattle.adapter_model.specs.Rings.{ring_of}
use Rattle.adapter_model.specs.Slots.{outstanding}
use Rattle.adapter_model.specs.State.{AdapterState}
use Rattle.adapter_model.specs.World.{World, receive_ring, transmit_ring}
use Rattle.adapter_model.specs.declared.ring.RingRegisters.{RingRegisters}
use Rattle.bus.specs.DriversStores.{LeavesFrames}
use Rattle.adapter_model.specs.KnownRing.{KnowsRing}
use Rattle.bus.specs.DriverState.{DriverState, receive_tail}
use Rattle.bus.specs.ReadyDrivers.{AreStored, ReadyWith, Stands, TransmitIs, transmit_side, MeetsLaw, IsDriver}

-- Memory, both rings, RCTL, TCTL and the transmit packet buffer are the same.
pub record SameParts (a b : World) : Type 0 where
  pub memory : b.memory ≡ a.memory
  pub receives : b.adapter.receive_ring ≡ a.adapter.receive_ring
  pub transmits : b.adapter.transmit_ring ≡ a.adapter.transmit_ring
  pub receive_control : b.adapter.filter.rctl ≡ a.adapter.filter.rctl
  pub transmit_control : b.adapter.transmit_control ≡ a.adapter.transmit_control
  pub buffer : b.adapter.transmitter.buffer ≡ a.adapter.transmitter.buffer

-- The world with all registers of the adapter `other`, except those of the rings.
abbrev pub with_registers_of : AdapterState → World → World
with_registers_of other world = record world {
  adapter = record other {
    receive_ring = world.adapter.receive_ring;
    transmit_ring = world.adapter.transmit_ring;
    receiver = world.adapter.receiver;
    transmitter = world.adapter.transmitter;
  };
}

-- The same, except RCTL and TCTL.
abbrev pub with_others_of : AdapterState → World → World
with_others_of other world = with_registers_of
    (record other {
      filter = record other.filter { rctl = world.adapter.filter.rctl };
      transmit_control = world.adapter.transmit_control;
    }) world

pub same-others : (other : AdapterState) (world : World) → SameParts world (with_others_of other world)
same-others other world = record
    { memory = refl; receives = refl; transmits = refl; receive_control = refl; transmit_control = refl; buffer = refl }

-- A driver that is ready remains ready after other registers are set, if the conditions of the law and of its transmit side hold then.
pub ready-set : {up up' : Bool} (driver : DriverState) (world : World) (other : AdapterState) → ReadyWith up driver world
    → MeetsLaw driver.oldest_receive driver.oldest_transmit (with_registers_of other world)
    → TransmitIs up' driver.layout driver.oldest_transmit driver.sending (transmit_side (with_registers_of other world))
    → ReadyWith up' driver (with_registers_of other world)
ready-set driver world other ready law transmit = record {
  driver_is = ready.driver_is;
  law = law;
  lies = ready.lies;
  receive = ready.receive;
  transmit = transmit;
  slots = record { names = ready.slots.names; stored = ready.slots.stored };
  stand = ready.stand;
}

-- The driver's own facts depend neither on its transmit slots nor on its sum of missed frames.
pub same-driver : (driver : DriverState) (oldest sending missed : ℕ) (exact : Bool) → IsDriver driver
    → IsDriver (record driver { oldest_transmit = oldest; sending = sending; missed = missed; exact = exact })
same-driver driver oldest sending missed exact is = record
    { oldest_slot = is.oldest_slot; room = is.room; one_owner = is.one_owner; allowed = is.allowed }

transmit-left : (up : Bool) (driver : DriverState) (a b : World) → SameParts a b
    → TransmitIs up driver.layout driver.oldest_transmit driver.sending (transmit_side a)
    → TransmitIs up driver.layout driver.oldest_transmit driver.sending (transmit_side b)
transmit-left up driver a b same transmit =
    let Is : List ℕ → Ring → ℕ → List Queued → Type 0 = λ memory ring control buffer.
    TransmitIs up driver.layout driver.oldest_transmit driver.sending
    (record { memory = memory; ring = ring; control = control; buffer = buffer }) in
    subst (λ (memory : List ℕ). Is memory (transmit_ring b) b.adapter.transmit_control b.adapter.transmitter.buffer) (sym same.memory)
    (subst (λ (ring : RingRegisters). Is a.memory (ring_of ring) b.adapter.transmit_control b.adapter.transmitter.buffer)
    (sym same.transmits)
    (subst (λ (control : ℕ). Is a.memory (transmit_ring a) control b.adapter.transmitter.buffer) (sym same.transmit_control)
    (subst (λ (buffer : List Queued). Is a.memory (transmit_ring a) a.adapter.transmit_control buffer) (sym same.buffer) transmit)))

pub ready-left : {up : Bool} (driver : DriverState) (a b : World) → ReadyWith up driver a
    → LeavesFrames driver.oldest_receive driver.oldest_transmit a b → SameParts a b → ReadyWith up driver b
ready-left {up} driver a b ready leaves same =
    let counts = driver.layout in
    let control = sym same.receive_control in
    record {
      driver_is = ready.driver_is;
      law = record {
        sound = leaves.same.sound;
        runs = leaves.runs ready.law.runs;
        fit = leaves.same.fits receive_buffer_bytes
            (subst (λ (rctl : ℕ). HasBit rctl rctl_en → buffer_size_of (field rctl 16 2) ≤ receive_buffer_bytes)
            control ready.law.fit.large)
            ready.law.fit;
        whole = leaves.same.whole receive_buffer_bytes
            (subst (λ (rctl : ℕ). HasBit rctl rctl_en → buffer_size_of (field rctl 16 2) ≡ receive_buffer_bytes)
            control ready.law.whole.sized)
            ready.law.whole;
      };
      lies = subst (λ (memory : List ℕ). size_of counts ≤ length memory) (sym same.memory) ready.lies;
      receive = subst (λ (ring : RingRegisters). KnowsRing (ring_of ring) 0 counts.rx (receive_tail driver))
          (sym same.receives) ready.receive;
      transmit = transmit-left up driver a b same ready.transmit;
      slots = record {
        names =
            ap (λ (memory : List ℕ). map (named_address memory) (outstanding (receive_ring b) driver.oldest_receive)) same.memory
            ∙ ap (λ (ring : RingRegisters). map (named_address a.memory) (outstanding (ring_of ring) driver.oldest_receive)) same.receives
            ∙ ready.slots.names;
        stored = subst (λ (memory : List ℕ). AreStored memory counts (receive_tail driver) driver.staged) (sym same.memory)
            ready.slots.stored;
      };
      stand = subst (λ (memory : List ℕ). All (Stands counts memory) driver.handed_out) (sym same.memory) ready.stand;
    }
