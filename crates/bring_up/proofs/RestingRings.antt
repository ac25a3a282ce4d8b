-- The receive ring is set up at rest, and a driver begins.
use Rattle.std.proofs.Common.{◌≡◌, ◌≤◌, ◌+◌, ◌*◌, ◌/◌, ◌%◌, ◌^◌, ◌++◌, ◌∷◌, [], ℕ, List, length, map, false, inr, refl, sym, ap, subst}
use Rattle.std.proofs.Common.{◌∙◌, arith}
use Rattle.std.specs.List.{take_while}
use Rattle.std.proofs.lemmas.List.{append-nil}
use Rattle.std.proofs.lemmas.List.Elements.{All-cons}
use Rattle.std.proofs.lemmas.List.Kept.{AllPairs-cons}
use Rattle.registers.specs.Places.{rctl_en}
use Rattle.registers.specs.Bits.{HasBit}
use Rattle.registers.specs.Laws.{HasBit-zero}
use Rattle.dma_memory.specs.Areas.{AreApart, AreSeparate, Area}
use Rattle.dma_memory.specs.HostMemory.{LiesIn}
use Rattle.dma_memory.specs.Layout.{IsRingSize}
use Rattle.dma_memory.specs.Owners.{HasOneOwner}
use Rattle.descriptors.specs.Ring.{count_of}
use Rattle.rx_engine.specs.Held.{held}
use Rattle.tx_engine.specs.Transmitter.{Transmitter}
use Rattle.adapter.specs.HostAreas.{ring_area}
use Rattle.adapter.specs.HostFrames.{frames_held, piece_in}
use Rattle.adapter.specs.KnownRing.{KnowsRing}
use Rattle.adapter.specs.Rings.{new_ring, ring_distance, ring_of, ring_written}
use Rattle.adapter.specs.Slots.{finished, is_done, outstanding}
use Rattle.adapter.specs.World.{World, receive_ring, transmit_ring}
use Rattle.adapter.specs.model_types.register.Register.TheVariants.{Receive}
use Rattle.adapter.specs.model_types.register.RingRegister.{RingRegister}
use Rattle.adapter.specs.model_types.register.RingRegister.TheVariants.{BaseHigh, BaseLow, Head, Length, Tail}
use Rattle.adapter.specs.model_types.ring.RingRegisters.{RingRegisters}
use Rattle.adapter.specs.AdaptersAtRest.{IsAtRest}
use Rattle.adapter.specs.Settings.{Write}
use Rattle.adapter.specs.bus_types.bus.Bus.{Ghosts}
use Rattle.adapter.proofs.IdleRings.{none-to_send, outstanding-none}
use Rattle.adapter.proofs.Lists.{all-none, pairs-none}
use Rattle.adapter.proofs.AdaptersAtRest.{happenings_keep_rest, rest_is_idle}
use Rattle.adapter.proofs.Resets.{rest_keeps_memory}
use Rattle.adapter.specs.Beginnings.{IsAtBeginning}
use Rattle.adapter.specs.DriverState.{owners}
use Rattle.adapter.specs.Resets.{reset_driver}
use Rattle.adapter.proofs.Beginnings.{drivers_begin}
use Rattle.bring_up.specs.RestingRings.{DriversBeginAgain, DriversBeginAtRest, HasNewRings, HasReceiveRing, SetsAtRest}
use Rattle.bring_up.specs.RingRegisters.{WritesRing, ring_setup_writes}
use Rattle.bring_up.specs.SettingSteps.{WriteActs}
use Rattle.bring_up.proofs.RingWrites.{IsRingPlace, high-written, length-written, low-written, ring-known, ring_at}
use Rattle.bring_up.proofs.RingWrites.{still-ring, with_receive_ring}
use Rattle.bring_up.proofs.Steps.{IntervalsJoin, accesses-join, no-frames, register-written, sets-access, sets-join, sets-write}

-- The adapter is at rest, with these registers of the receive ring, and new registers of the transmit ring. Memory has room for `rx`
-- receive descriptors.
record HasRing (receives : RingRegisters) (rx : ℕ) (world : World) : Type 0 where
  rest : IsAtRest world
  receives_is : world.adapter.receive_ring ≡ receives
  transmits : world.adapter.transmit_ring ≡ new_ring
  room : 16 * rx ≤ length world.memory

alone : (memory : List ℕ) (rx : ℕ) (ring : RingRegisters) → 16 * rx ≤ length memory → (ring_of ring).base ≡ 0 → count_of (ring_of ring) ≤ rx
    → AreSeparate memory (ring_area (ring_of ring) ∷ ring_area (ring_of new_ring) ∷ [])
alone memory rx ring room first short =
    let Lies : Area → Type 0 = λ area. LiesIn memory area.address area.size in
    let r = ring_area (ring_of ring) in
    let t = ring_area (ring_of new_ring) in
    record {
      lie = All-cons Lies r (t ∷ []) (omega (arith, room, first, short)) (All-cons Lies t [] (omega arith) (all-none Lies));
      apart =
          AllPairs-cons AreApart r (t ∷ []) (All-cons (AreApart r) t [] (inr (omega arith)) (all-none (AreApart r)))
          (AllPairs-cons AreApart t [] (all-none (AreApart t)) (pairs-none AreApart));
    }

-- A write of one register of the receive ring changes its registers from `before` to `after`, and the adapter remains at rest.
rests-write : {B : Type 0} (bus : Ghosts B) (old new : B) (part : RingRegister) (word rx : ℕ) (before after : RingRegisters)
    → ring_written part word before ≡ after → after.head ≡ after.tail → (ring_of after).base ≡ 0
    → count_of (ring_of after) ≤ rx
    → WriteActs bus old new (0x2800 + ring_distance part) word
    → SetsAtRest bus (record { offset = 0x2800 + ring_distance part; value = word } ∷ []) (HasRing before rx) (HasRing after rx) old new
unfolding sets-access sets-write
rests-write bus old new part word rx before after written idle first short acts =
    let middle = acts.middle in
    let steady = acts.before.steady in
    record {
      sets = sets-write bus old new (0x2800 + ring_distance part) word acts;
      only = acts.only;
      after_is = λ state.
          let rest = (happenings_keep_rest (bus.world old) middle acts.past acts.before acts.adapter state.rest).0 in
          let receives : middle.adapter.receive_ring ≡ before =
          still-ring (bus.world old).adapter.receive_ring middle.adapter.receive_ring steady.receive_ring.others state.rest.rings.receive
          rest.rings.receive ∙ state.receives_is in
          let transmits : middle.adapter.transmit_ring ≡ new_ring =
          still-ring (bus.world old).adapter.transmit_ring middle.adapter.transmit_ring steady.transmit_ring.others
          state.rest.rings.transmit rest.rings.transmit ∙ state.transmits in
          let room : 16 * rx ≤ length middle.memory = omega (arith, state.room, steady.size) in
          let done : bus.world new ≡ with_receive_ring after middle =
          acts.effect_is ∙ register-written (Receive part) tt word middle
          ∙ ap (λ (ring : RingRegisters). with_receive_ring (ring_written part word ring) middle) receives
          ∙ ap (λ (ring : RingRegisters). with_receive_ring ring middle) written in
          let separate : AreSeparate middle.memory (ring_area (ring_of after) ∷ ring_area (transmit_ring middle) ∷ []) =
          subst (λ (ring : RingRegisters). AreSeparate middle.memory (ring_area (ring_of after) ∷ ring_area (ring_of ring) ∷ []))
          (sym transmits) (alone middle.memory rx after room first short) in
          subst (HasRing after rx) (sym done)
          (record {
            rest = record {
              rings = record { receive = idle; transmit = rest.rings.transmit; separate = separate };
              receiver = rest.receiver;
              transmitter = rest.transmitter;
              control = rest.control;
              none_missed = rest.none_missed;
            };
            receives_is = refl;
            transmits = transmits;
            room = room;
          });
      no_frame = λ state. (happenings_keep_rest (bus.world old) middle acts.past acts.before acts.adapter state.rest).1;
      memory = λ state.
          ap (λ (w : World). w.memory) acts.effect_is ∙ rest_keeps_memory (bus.world old) middle acts.past acts.before state.rest;
    }

rests-join : {B : Type 0} (bus : Ghosts B) → IntervalsJoin bus
    → (a b c : B) (first later : List Write) (P Q R : World → Type 0) → SetsAtRest bus first P Q a b
    → SetsAtRest bus later Q R b c
    → SetsAtRest bus (first ++ later) P R a c
unfolding sets-join
rests-join bus joins a b c first later P Q R one two = record {
  sets = sets-join bus joins a b c first later one.sets two.sets;
  only = accesses-join one.sets.past two.sets.past first later one.only two.only;
  after_is = λ before. two.after_is (one.after_is before);
  no_frame = λ before. no-frames one.sets.past two.sets.past (one.no_frame before) (two.no_frame (one.after_is before));
  memory = λ before. two.memory (one.after_is before) ∙ one.memory before;
}

-- The five writes set up the receive ring of an adapter at rest.
pub rests-ring : {B : Type 0} {bus : Ghosts B} {base bytes rx : ℕ} {old new : B} → IntervalsJoin bus → base ≡ 0 → bytes ≡ 16 * rx
    → IsRingSize rx → WritesRing bus 0x2800 base bytes old new
    → SetsAtRest bus (ring_setup_writes 0x2800 base bytes) (HasNewRings rx) (HasReceiveRing rx) old new
rests-ring {B} {bus} {base} {bytes} {rx} {old} {new} joins first long size w =
    let place : IsRingPlace base rx = record { sixteens = omega (arith, first); below = omega (arith, first); size = size } in
    let most = size.most in
    let start : (n : ℕ) → (ring_of (ring_at base n)).base ≡ 0 = λ n. omega (arith, first) in
    let short : count_of (ring_of (ring_at base bytes)) ≤ rx = omega (arith, long) in
    let P = λ (ring : RingRegisters). HasRing ring rx in
    let r0 = ring_at base 0 in
    let r1 = ring_at base bytes in
    let all = rests-join bus joins old w.b1 new _ _ (P new_ring) (P r0) (P r1)
    (rests-write bus old w.b1 BaseLow (base % 2 ^ 32) rx new_ring r0 (low-written base rx place) refl (start 0) (omega arith) w.base_low)
    (rests-join bus joins w.b1 w.b2 new _ _ (P r0) (P r0) (P r1)
    (rests-write bus w.b1 w.b2 BaseHigh (base / 2 ^ 32) rx r0 r0 (high-written base rx place) refl (start 0) (omega arith) w.base_high)
    (rests-join bus joins w.b2 w.b3 new _ _ (P r0) (P r1) (P r1)
    (rests-write bus w.b2 w.b3 Length bytes rx r0 r1 (length-written base rx bytes place long) refl (start bytes) short w.length)
    (rests-join bus joins w.b3 w.b4 new _ _ (P r1) (P r1) (P r1)
    (rests-write bus w.b3 w.b4 Head 0 rx r1 r1 refl refl (start bytes) short w.head)
    (rests-write bus w.b4 new Tail 0 rx r1 r1 refl refl (start bytes) short w.tail)))) in
    record {
      sets = all.sets;
      only = all.only;
      after_is = λ state.
          let behind = all.after_is
          (record { rest = state.rest; receives_is = state.receives; transmits = state.transmits; room = state.room }) in
          record {
            rest = behind.rest;
            knows = subst (λ (ring : RingRegisters). KnowsRing (ring_of ring) 0 rx 0) (sym behind.receives_is)
                (subst (λ (from : ℕ). KnowsRing (ring_of r1) from rx 0) first (ring-known base rx bytes place long));
            transmits = behind.transmits;
          };
      no_frame = λ state. all.no_frame
          (record { rest = state.rest; receives_is = state.receives; transmits = state.transmits; room = state.room });
      memory = λ state. all.memory
          (record { rest = state.rest; receives_is = state.receives; transmits = state.transmits; room = state.room });
    }

-- A driver begins

held-none : (world : World) → IsAtRest world → world.adapter.receive_ring.tail ≡ 0 → frames_held 0 world ≡ []
held-none world rest first =
    let ring = receive_ring world in
    let clear : outstanding ring 0 ≡ [] = subst (λ (oldest : ℕ). outstanding ring oldest ≡ []) first (outstanding-none ring) in
    let none : finished 0 world ≡ [] = ap (take_while (is_done world.memory)) clear in
    ap (λ (slots : List ℕ). held world.memory (map (piece_in world.memory) slots) world.adapter.receiver) none
    ∙ ap (held world.memory []) rest.receiver

pub drivers_begin_at_rest : DriversBeginAtRest
drivers_begin_at_rest counts setup groups pool world allowed owner lies has =
    let rest = has.rest in
    let idle = rest_is_idle world rest in
    let buffer = ap (λ (transmitter : Transmitter). transmitter.buffer) rest.transmitter in
    let transmits = has.transmits in
    let off : ¬ (HasBit world.adapter.filter.rctl rctl_en) = subst (λ (control : ℕ). ¬ (HasBit control 1)) (sym rest.control)
    (HasBit-zero 1) in
    let begun : IsAtBeginning false counts setup groups pool world = record {
      driver_is = record {
        oldest_slot = omega (arith, allowed.rx.least);
        room = omega (arith, allowed.rx.least);
        one_owner = subst (HasOneOwner counts.buffers) (sym (append-nil pool)) owner;
        allowed = allowed;
      };
      idle = idle.0;
      runs = idle.1;
      lies = lies;
      sized = λ enabled. absurd (off enabled);
      receive = has.knows;
      transmit = record {
        ends = subst (λ (ring : RingRegisters). (ring_of ring).base + 16 * count_of (ring_of ring) ≤ 16 * counts.rx + 16 * counts.tx)
            (sym transmits) (omega arith);
        idle = rest.rings.transmit;
        last = ap (λ (ring : RingRegisters). ring.tail) transmits;
        nothing = refl;
        empty = buffer;
      };
    } in
    record {
      begun = begun;
      ready = drivers_begin false counts setup groups pool world begun;
      quiet = record {
        off = off;
        none_held = held-none world rest has.knows.last;
        none_to_send = none-to_send world.memory (transmit_ring world) world.adapter.transmitter.buffer buffer rest.rings.transmit;
      };
    }

-- The driver begins as a new driver, except for the owners of buffers.
pub drivers_begin_again : DriversBeginAgain
drivers_begin_again driver pool world allowed rests has =
    let counts = driver.layout in
    let again = reset_driver pool driver in
    let new = drivers_begin_at_rest counts driver.setup driver.groups (owners again) world allowed rests.one_owner rests.lies has in
    let base = new.ready in (
      record {
        driver_is = record {
          oldest_slot = base.driver_is.oldest_slot;
          room = base.driver_is.room;
          one_owner = rests.one_owner;
          allowed = base.driver_is.allowed;
        };
        law = base.law;
        lies = rests.lies;
        receive = base.receive;
        transmit = base.transmit;
        slots = record { names = base.slots.names; stored = tt };
        stand = rests.stand;
      },
      record { off = new.quiet.off; none_held = new.quiet.none_held; none_to_send = new.quiet.none_to_send },
    )
