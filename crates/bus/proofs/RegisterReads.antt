-- Reads of ICR, of MPC, and of any other register.
use Rattle.std.proofs.Common.{◌&&◌, ◌≡◌, ◌≢◌, ◌<◌, ◌+◌, ◌-◌, ◌^◌, []}
use Rattle.std.proofs.Common.{Bool, IsTrue, nat_lt, ℕ, Option, None, Some, length, min, inl}
use Rattle.std.proofs.Common.{refl, sym, ap, subst, ◌∙◌, arith}
use Rattle.std.proofs.lemmas.Bool.{and_parts, lt-ltb, ltb-true}
use Rattle.std.proofs.lemmas.List.{append-nil}
use Rattle.registers.specs.Bits.{HasBit}
use Rattle.registers.specs.Counting.{greatest_count}
use Rattle.adapter_model.specs.HostFrames.{frames_held, frames_to_send}
use Rattle.adapter_model.specs.Registers.{answer_at, left_by_read, read_of, after_read}
use Rattle.rx_engine.specs.Pieces.{frames_of}
use Rattle.adapter_model.specs.Table.{register_at, row_of}
use Rattle.adapter_model.specs.TableLaws.{register_at-only}
use Rattle.adapter_model.specs.World.{World, world_after_read}
use Rattle.adapter_model.specs.declared.register.Register.{Register}
use Rattle.adapter_model.specs.declared.register.Register.TheVariants.{Icr, Mpc, Gprc, Gptc, Rnbc}
use Rattle.bus.proofs.RegisterSetting.{reads_leave_frames}
use Rattle.bus.specs.Pasts.{nothing}
use Rattle.bus.specs.DriverState.{DriverState}
use Rattle.bus.specs.Calls.{FlowsTo, SumsMisses, adds_exactly, driver_did, driver_in, frames_ended}
use Rattle.bus.specs.RegisterReadings.{CausesAreRead, MissesAreRead, OthersAreRead}
use Rattle.bus.specs.ReadyDrivers.{ReadyWith}
use Rattle.bus.proofs.Intervals.{misses-stay}
use Rattle.bus.proofs.AlikeWorlds.{SameParts, ready-left, same-others, same-driver}
use Rattle.bus.proofs.RegisterWrites.{read-counts, with_counts_of}
use Rattle.adapter_model.specs.State.{AdapterState}

-- What no read changes: the parts in `SameParts`, and the mask.
record Read (a b : World) : Type 0 where
  parts : SameParts a b
  mask : b.adapter.causes.mask ≡ a.adapter.causes.mask

read-offset : (offset : ℕ) (world : World) → Read world (world_after_read offset world)
read-offset offset world =
    let counted = with_counts_of (after_read offset world.adapter) world.adapter in
    subst (λ (adapter : AdapterState). Read world (record world { adapter = adapter })) (sym (read-counts offset world.adapter))
    (record { parts = same-others counted world; mask = refl })

resummed : {up : Bool} (driver : DriverState) (missed : ℕ) (exact : Bool) (world : World) → ReadyWith up driver world
    → ReadyWith up (record driver { missed = missed; exact = exact }) world
resummed driver missed exact world ready = record {
  driver_is = same-driver driver driver.oldest_transmit driver.sending missed exact ready.driver_is;
  law = ready.law;
  lies = ready.lies;
  receive = ready.receive;
  transmit = ready.transmit;
  slots = record { names = ready.slots.names; stored = ready.slots.stored };
  stand = ready.stand;
}

flows-read : {up : Bool} (driver : DriverState) (offset missed : ℕ) (exact : Bool) (a : World) → ReadyWith up driver a
    → SumsMisses (driver_in driver a) (driver_in (record driver { missed = missed; exact = exact }) (world_after_read offset a)) nothing
    → FlowsTo up (driver_in driver a) (driver_in (record driver { missed = missed; exact = exact }) (world_after_read offset a))
    (driver_did [] []) nothing
flows-read {up} driver offset missed exact a ready misses =
    let b = world_after_read offset a in
    let read = read-offset offset a in
    let leaves = reads_leave_frames driver.oldest_receive driver.oldest_transmit offset a ready.law.sound in
    record {
      ready = resummed driver missed exact b (ready-left driver a b ready leaves read.parts);
      layout = refl;
      sends = leaves.same.to_send ∙ sym (append-nil (frames_to_send a));
      holds = leaves.same.held ∙ sym (append-nil (frames_held driver.oldest_receive a));
      least = omega (arith, ap length (ap frames_of leaves.same.pieces_same));
      frees = omega (arith, ap length leaves.same.written_same);
      mask = read.mask;
      misses = misses;
    }

flows-same : {up : Bool} (driver : DriverState) (offset : ℕ) (a : World) → ReadyWith up driver a
    → (world_after_read offset a).adapter.missed_packets ≡ a.adapter.missed_packets
    → FlowsTo up (driver_in driver a) (driver_in driver (world_after_read offset a)) (driver_did [] []) nothing
flows-same driver offset a ready same =
    flows-read driver offset driver.missed driver.exact a ready (misses-stay driver driver a (world_after_read offset a) refl refl same)

-- ICR

pub causes_are_read : CausesAreRead
unfolding register_at
causes_are_read up driver world ready =
    let same : (world_after_read 0xC0 world).adapter.missed_packets ≡ world.adapter.missed_packets = refl in
    record { flows = flows-same driver 0xC0 world ready same; cleared = refl }

-- MPC

adds : (exact : Bool) (missed value : ℕ) → IsTrue exact → value < greatest_count → missed + value < 2 ^ 64
    → IsTrue (exact && adds_exactly missed value)
adds exact missed value is below fits =
    ap (λ (e : Bool). e && adds_exactly missed value) is
    ∙ ap (λ (e : Bool). e && nat_lt (missed + value) (2 ^ 64)) (lt-ltb value greatest_count below)
    ∙ lt-ltb (missed + value) (2 ^ 64) fits

pub misses_are_read : MissesAreRead
unfolding register_at
misses_are_read up driver world fits ready =
    let b = world_after_read 0x4010 world in
    let shown : answer_at 0x4010 world.adapter ≡ world.adapter.missed_packets = refl in
    let none : b.adapter.missed_packets ≡ 0 = refl in
    let same : length (frames_ended (driver_in driver world)) ≡ length (frames_ended (driver_in driver b)) = refl in
    let value = answer_at 0x4010 world.adapter in
    let missed = min (driver.missed + value) (2 ^ 64 - 1) in
    record {
      flows = flows-read driver 0x4010 missed (driver.exact && adds_exactly driver.missed value) world ready
          (record {
            sum = omega (arith, fits);
            counted = λ most low. omega (arith, shown, none, low);
            sticks = λ most much. omega (arith, shown, none, much);
            at_most = omega (arith, shown, none);
            exactly = λ exact below_greatest.
                let both = and_parts driver.exact (adds_exactly driver.missed value) exact in
                let tests = and_parts (nat_lt value greatest_count) (nat_lt (driver.missed + value) (2 ^ 64)) both.1 in
                let below_greatest = ltb-true value greatest_count tests.0 in
                let sum = ltb-true (driver.missed + value) (2 ^ 64) tests.1 in
                record { exact = both.0; below_greatest = omega (arith, below_greatest, shown); sum = omega (arith, sum, shown, none) };
            stays_exact = λ exact below low.
                adds driver.exact driver.missed value exact (omega (arith, below, shown)) (omega (arith, low, shown));
            small = λ was below.
                adds driver.exact driver.missed value (was (omega (arith, below))) (omega (arith, below)) (omega (arith, below));
          });
      causes = λ place has. has;
      recorded = inl (omega (arith, same));
    }

-- Any other register

-- The recorded causes and MPC are the same.
record SameButAdapter (a b : World) : Type 0 where
  recorded : b.adapter.causes.recorded ≡ a.adapter.causes.recorded
  missed_packets : b.adapter.missed_packets ≡ a.adapter.missed_packets

quiet-register : (register : Register) (world : World) → register ≢ Icr → register ≢ Mpc
    → SameButAdapter world (record world { adapter = read_of register world.adapter })
quiet-register Icr world no_causes no_count = absurd (no_causes refl)
quiet-register Mpc world no_causes no_count = absurd (no_count refl)
quiet-register Gprc world no_causes no_count = record { recorded = refl; missed_packets = refl }
quiet-register Gptc world no_causes no_count = record { recorded = refl; missed_packets = refl }
quiet-register Rnbc world no_causes no_count = record { recorded = refl; missed_packets = refl }
quiet-register _ world no_causes no_count = record { recorded = refl; missed_packets = refl }

same-offset : (offset : ℕ) (world : World) → offset ≢ 0xC0 → offset ≢ 0x4010 → SameButAdapter world (world_after_read offset world)
same-offset offset world no_causes no_count = by_case (register_at offset) refl
  where
    by_case : (found : Option Register) → register_at offset ≡ found
        → SameButAdapter world (record world { adapter = left_by_read found world.adapter })
    by_case (Some register) is =
        let there = (register_at-only offset register is).there in
        quiet-register register world (λ same. no_causes (sym there ∙ ap (λ (r : Register). (row_of r).offset) same))
        (λ same. no_count (sym there ∙ ap (λ (r : Register). (row_of r).offset) same))
    by_case None is = record { recorded = refl; missed_packets = refl }

pub others_are_read : OthersAreRead
others_are_read up driver offset world no_causes no_count ready =
    let b = world_after_read offset world in
    let quiet = same-offset offset world no_causes no_count in
    let leaves = reads_leave_frames driver.oldest_receive driver.oldest_transmit offset world ready.law.sound in
    let flows = flows-same driver offset world ready quiet.missed_packets in
    record {
      flows = flows;
      causes = λ place has. subst (λ (causes : ℕ). HasBit causes place) (sym quiet.recorded) has;
      recorded = inl (omega (arith, ap length (ap frames_of leaves.same.pieces_same)));
    }
