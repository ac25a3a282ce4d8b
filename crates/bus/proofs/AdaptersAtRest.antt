-- An adapter at rest remains at rest while a driver sets it up.
use Rattle.std.proofs.Common.{arith, ◌≡◌, ◌≤◌, ◌-◌, ◌++◌, [], true, false, ℕ, Bool, List, Option, None, Some, length, map}
use Rattle.std.proofs.Common.{if◌then◌else◌, refl, sym, ap, subst, ◌∙◌}
use Rattle.std.specs.List.{All, take_while}
use Rattle.registers.specs.Bits.{HasBit}
use Rattle.registers.specs.Laws.{HasBit-zero}
use Rattle.rx_engine.specs.Held.{held, in_slots}
use Rattle.rx_engine.specs.Pieces.{Piece, frames_of}
use Rattle.rx_engine.specs.Receiver.{Receiver, new_receiver, oldest}
use Rattle.rx_filter.specs.Registers.{FilterRegisters}
use Rattle.tx_engine.specs.Transmitter.{Transmitter, new_transmitter}
use Rattle.adapter_model.specs.declared.register.Register.{Register}
use Rattle.adapter_model.specs.declared.register.Register.TheVariants.{Icr, Mpc, Gprc, Gptc, Rctl, Receive, Rnbc, Transmit}
use Rattle.adapter_model.specs.HostFrames.{finished_pieces, frames_held, frames_to_send, piece_in}
use Rattle.adapter_model.specs.Registers.{after_reset, by_row, is_reset, left_by_read, left_by_write, read_of, write_of}
use Rattle.adapter_model.specs.Running.{CanRun, CanTransmit}
use Rattle.adapter_model.specs.Slots.{is_done}
use Rattle.adapter_model.specs.State.{AdapterState}
use Rattle.adapter_model.specs.Table.{register_at, row_of}
use Rattle.adapter_model.specs.World.{World, receive_ring, transmit_ring}
use Rattle.bus.specs.IdleRings.{IsIdle, IsOfRing, moved_bytes}
use Rattle.bus.specs.declared.event.Access.TheVariants.{Loads, Reads, Stores, Writes}
use Rattle.bus.specs.AdaptersAtRest.{AccessesKeepRest, HappeningsKeepRest, IsAtRest, IsElsewhere, RestAfterReset, RestIsIdle}
use Rattle.bus.proofs.IdleRings.{happenings_keep_idle, idle_after_reset, idle_rings_are_sound, offered-none, other_writes_keep_idle}
use Rattle.bus.proofs.IdleRings.{outstanding-none, reads_keep_idle, stores_keep_idle, none-to_send}
use Rattle.bus.proofs.Lists.{all-none, append-empty}
use Rattle.bus.proofs.RegisterWrites.{row-leaves}

idle-of : (world : World) → IsAtRest world → IsIdle world
idle-of world rest = record {
  work = ap (λ (receiver : Receiver). receiver.work) rest.receiver;
  unmoved = ap moved_bytes rest.receiver;
  buffer = ap (λ (transmitter : Transmitter). transmitter.buffer) rest.transmitter;
  rings = rest.rings;
}

runs-of : (world : World) → IsAtRest world → CanRun world
runs-of world rest = record {
  receiver_runs = ap (λ (receiver : Receiver). receiver.stopped) rest.receiver;
  transmitter_runs = ap (λ (transmitter : Transmitter). transmitter.stopped) rest.transmitter;
  receive_indices = λ differ. absurd (differ rest.rings.receive);
  transmit_indices = λ differ. absurd (differ rest.rings.transmit);
  not_extended = subst (λ (control : ℕ). ¬ (HasBit control 25)) (sym rest.control) (HasBit-zero 25);
  transmittable = subst (λ (slots : List ℕ). All (CanTransmit world.memory) slots)
      (sym (offered-none (transmit_ring world) rest.rings.transmit)) (all-none (CanTransmit world.memory));
}

pub rest_is_idle : RestIsIdle
rest_is_idle world rest = (idle-of world rest, runs-of world rest)

pub rest_after_reset : RestAfterReset
rest_after_reset world = record
    { rings = (idle_after_reset world).rings; receiver = refl; transmitter = refl; control = refl; none_missed = refl }

-- What happens between two accesses.

none-held : (world : World) → IsAtRest world → frames_held world.adapter.receive_ring.tail world ≡ []
none-held world rest =
    let ring = receive_ring world in
    let none : finished_pieces ring.tail world ≡ [] =
    ap (λ (slots : List ℕ). map (piece_in world.memory) (take_while (is_done world.memory) slots)) (outstanding-none ring) in
    ap (λ (pieces : List Piece). held world.memory pieces world.adapter.receiver) none ∙ ap (held world.memory []) rest.receiver

none-sent : (world : World) → IsIdle world → frames_to_send world ≡ []
none-sent world idle = none-to_send world.memory (transmit_ring world) world.adapter.transmitter.buffer idle.buffer idle.rings.transmit

new-again : (receiver : Receiver) → receiver.buffer ≡ [] → receiver.moved ≡ 0 → receiver.work ≡ None → receiver.stopped ≡ false
    → receiver ≡ new_receiver
new-again receiver buffer moved work stopped = rw (buffer, moved, work, stopped) refl

none-moved : (receiver : Receiver) → receiver.moved ≤ length (oldest receiver.buffer) - 1 → receiver.buffer ≡ [] → receiver.moved ≡ 0
none-moved receiver begun none =
    let most = subst (λ (frames : List (List ℕ)). receiver.moved ≤ length (oldest frames) - 1) none begun in omega (arith, most)

unused-again : (transmitter : Transmitter) → transmitter.buffer ≡ [] → transmitter.stopped ≡ false → transmitter ≡ new_transmitter
unused-again transmitter buffer stopped = rw (buffer, stopped) refl

pub happenings_keep_rest : HappeningsKeepRest
happenings_keep_rest a b past happens is rest =
    let idle = idle-of a rest in
    let o = a.adapter.receive_ring.tail in
    let steady = happens.steady in
    let between = happens.between o a.adapter.transmit_ring.tail (idle_rings_are_sound a idle) in
    let after = happenings_keep_idle a b past happens idle in
    let off = steady.arrivals.off (subst (λ (control : ℕ). ¬ (HasBit control 1)) (sym rest.control) (HasBit-zero 1)) in
    let empty : frames_held o b ≡ [] =
    between.receive.holds ∙ ap (λ (frames : List (List ℕ)). frames ++ past.stored) (none-held a rest) ∙ off.0 in
    let receiver = b.adapter.receiver in
    let buffer_none = (append-empty (frames_of (in_slots b.memory (finished_pieces o b) receiver)) receiver.buffer empty).1 in
    let runs = between.runs (runs-of a rest) in
    let sent = append-empty past.put (frames_to_send b) (between.transmit.sends ∙ none-sent a idle) in (
      record {
        rings = after.rings;
        receiver = new-again receiver buffer_none (none-moved receiver is.receiver.begun buffer_none) after.work runs.receiver_runs;
        transmitter = unused-again b.adapter.transmitter after.buffer runs.transmitter_runs;
        control = ap (λ (filter : FilterRegisters). filter.rctl) steady.registers.filter ∙ rest.control;
        none_missed = omega (arith, steady.arrivals.missed, rest.none_missed, off.1);
      },
      record { none_put = sent.0; none_stored = off.0; none_missed = off.1 },
    )

-- Accesses of a driver.

rest-by : (world : World) (b : AdapterState) → IsIdle (record world { adapter = b }) → b.receiver ≡ world.adapter.receiver
    → b.transmitter ≡ world.adapter.transmitter → b.filter.rctl ≡ world.adapter.filter.rctl → b.missed_packets ≡ 0
    → IsAtRest world → IsAtRest (record world { adapter = b })
rest-by world b idle receiver transmitter control none rest = record {
  rings = idle.rings;
  receiver = receiver ∙ rest.receiver;
  transmitter = transmitter ∙ rest.transmitter;
  control = control ∙ rest.control;
  none_missed = none;
}

read-rests : (register : Register) (world : World) → IsIdle (record world { adapter = read_of register world.adapter }) → IsAtRest world
    → IsAtRest (record world { adapter = read_of register world.adapter })
read-rests Icr world idle rest = rest-by world _ idle refl refl refl rest.none_missed rest
read-rests Mpc world idle rest = rest-by world _ idle refl refl refl refl rest
read-rests Gprc world idle rest = rest-by world _ idle refl refl refl rest.none_missed rest
read-rests Gptc world idle rest = rest-by world _ idle refl refl refl rest.none_missed rest
read-rests Rnbc world idle rest = rest-by world _ idle refl refl refl rest.none_missed rest
read-rests _ world idle rest = rest

no-ring : (register : Register) → IsElsewhere (Some register) → ¬ (IsOfRing register)
no-ring (Receive part) elsewhere = λ ring. elsewhere
no-ring (Transmit part) elsewhere = λ ring. elsewhere
no-ring _ elsewhere = λ ring. ring

row-control : (register : Register) (value : ℕ) (state : AdapterState) → IsElsewhere (Some register)
    → (by_row (row_of register).kept register value state).filter.rctl ≡ state.filter.rctl
row-control Rctl value state elsewhere = absurd elsewhere
row-control (Receive part) value state elsewhere = absurd elsewhere
row-control (Transmit part) value state elsewhere = absurd elsewhere
row-control _ value state elsewhere = refl

row-missed : (register : Register) (value : ℕ) (state : AdapterState)
    → (by_row (row_of register).kept register value state).missed_packets ≡ state.missed_packets
row-missed Rctl value state = refl
row-missed (Receive part) value state = refl
row-missed (Transmit part) value state = refl
row-missed _ value state = refl

write-rests : (register : Register) (value : ℕ) (world : World) → IsElsewhere (Some register) → IsAtRest world
    → IsAtRest (record world { adapter = write_of register value world.adapter })
write-rests register value world elsewhere rest = by_test (is_reset register value)
    (other_writes_keep_idle register value world (no-ring register elsewhere) (idle-of world rest))
  where
    by_test : (test : Bool)
        → IsIdle (record world
        { adapter = if test then after_reset world.adapter else by_row (row_of register).kept register value world.adapter })
        → IsAtRest (record world
        { adapter = if test then after_reset world.adapter else by_row (row_of register).kept register value world.adapter })
    by_test true idle = rest_after_reset world
    by_test false idle =
        let leaves = row-leaves register value world.adapter in
        rest-by world _ idle leaves.receiver leaves.transmitter (row-control register value world.adapter elsewhere)
        (row-missed register value world.adapter ∙ rest.none_missed) rest

pub accesses_keep_rest : AccessesKeepRest
accesses_keep_rest (Reads offset value) world leaves size rest = by_case (register_at offset)
    (reads_keep_idle offset world (idle-of world rest))
  where
    by_case : (found : Option Register) → IsIdle (record world { adapter = left_by_read found world.adapter })
        → IsAtRest (record world { adapter = left_by_read found world.adapter })
    by_case None idle = rest
    by_case (Some register) idle = read-rests register world idle rest
accesses_keep_rest (Writes offset value) world leaves size rest = by_case (register_at offset) leaves
  where
    by_case : (found : Option Register) → IsElsewhere found → IsAtRest (record world { adapter = left_by_write found value world.adapter })
    by_case None elsewhere = rest
    by_case (Some register) elsewhere = write-rests register value world elsewhere rest
accesses_keep_rest (Loads address n) world leaves size rest = rest
accesses_keep_rest (Stores address bytes) world leaves size rest =
    let idle = stores_keep_idle address bytes world size (idle-of world rest) in
    record {
      rings = idle.rings;
      receiver = rest.receiver;
      transmitter = rest.transmitter;
      control = rest.control;
      none_missed =
          rest.none_missed;
    }
