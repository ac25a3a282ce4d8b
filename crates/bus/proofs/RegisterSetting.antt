-- Writes and reads of registers after which the conditions of the law hold.
use Rattle.std.proofs.Common.{◌≡◌, ◌≤◌, ◌<◌, ◌+◌, ◌%◌, ◌++◌, ◌∷◌, [], true, false, ℕ, Bool, List, zero, suc}
use Rattle.std.proofs.Common.{if◌then◌else◌, map, refl, sym, ap, subst, ◌∙◌, append_assoc, arith}
use Rattle.dma_memory.specs.Areas.{AreSeparate}
use Rattle.std.specs.Fn.{iterate}
use Rattle.std.specs.List.{All}
use Rattle.std.proofs.lemmas.List.{append-nil}
use Rattle.std.proofs.Math.Nat.{mod-add-mod, mod-eq_of_lt}
use Rattle.descriptors.specs.Ring.{address_of, count_of, next_of, slots_from}
use Rattle.descriptors.specs.RingLaws.{next-below}
use Rattle.mdic_phy.specs.declared.phy.Link.TheVariants.{Never}
use Rattle.registers.specs.Bits.{HasBit, field}
use Rattle.registers.specs.Places.{rctl_en, tctl_psp}
use Rattle.registers.specs.ReceiveControl.{buffer_size_of}
use Rattle.rx_filter.specs.Registers.{FilterRegisters}
use Rattle.tx_engine.specs.Fetching.{fetched}
use Rattle.tx_engine.specs.Transmitter.{Queued}
use Rattle.adapter_model.specs.Registers.{after_reset, by_row, is_reset, new_adapter, after_read}
use Rattle.adapter_model.specs.HostAreas.{areas}
use Rattle.adapter_model.specs.Rings.{ring_of}
use Rattle.adapter_model.specs.State.{AdapterState}
use Rattle.adapter_model.specs.Table.{row_of}
use Rattle.adapter_model.specs.Slots.{offered, outstanding}
use Rattle.bus.specs.RegisterSetting.{CanOfferMany, ManySlotsCanBeOffered, OfferedMany, OtherWritesLeaveFrames, ReadsLeaveFrames}
use Rattle.bus.specs.RegisterSetting.{ReceiverCanBeSet, ReceiverSet, TransmitRingCanBeSet, TransmitterCanBeSet, with_receive_control}
use Rattle.bus.specs.RegisterSetting.{with_tail, with_transmit_control}
use Rattle.adapter_model.specs.Conditions.{Reports, Sound}
use Rattle.bus.specs.SlotOffers.{offering}
use Rattle.bus.specs.DriversStores.{LeavesFrames, SameFrames}
use Rattle.adapter_model.specs.Running.{CanTransmit}
use Rattle.adapter_model.specs.World.{receive_ring, World}
use Rattle.bus.proofs.IdleRings.{dealt-idle, offered-none, outstanding-none, none-to_send}
use Rattle.bus.proofs.Lists.{all-none}
use Rattle.bus.proofs.SlotOffers.{slots_can_be_offered}
use Rattle.bus.proofs.RegisterWrites.{row-leaves, read-counts, with_counts_of}
use Rattle.bus.proofs.AlikeWorlds.{with_others_of, with_registers_of}
use Rattle.bus.proofs.RunningEngines.{still_run}

-- Writes of RCTL, of TCTL, and of the registers of the transmit ring.

-- Other registers have other contents, and the conditions hold of RCTL and TCTL.
registers-set : (o p : ℕ) (world : World) (other : AdapterState) → AreSeparate world.memory (areas o (with_registers_of other world))
    → (¬ (world.adapter.transmit_ring.head ≡ world.adapter.transmit_ring.tail) → HasBit other.transmit_control tctl_psp)
    → Sound o p world → ReceiverSet o p world (with_registers_of other world)
registers-set o p world other separate pads sound = record {
  same = record {
    sound = record {
      receive_slots = sound.receive_slots;
      transmit_slots = sound.transmit_slots;
      separate = separate;
      reports = sound.reports;
      begun = sound.begun;
      pads = pads;
    };
    held = refl;
    to_send = refl;
    finished_same = refl;
    written_same = refl;
    pieces_same = refl;
    whole = λ size sized cut. record
        { sized = sized; have_no_errors = cut.have_no_errors; cut = cut.cut; legal = cut.legal; short = cut.short };
    fits = λ size large fit. record { large = large; finished_fit = fit.finished_fit; work_fits = fit.work_fits };
  };
  runs = λ not_extended can. still_run world (with_registers_of other world) can.receive_indices not_extended can.transmittable can;
}

pub receiver_can_be_set : ReceiverCanBeSet
receiver_can_be_set o p control world sound separate =
    registers-set o p world (with_receive_control control world).adapter separate sound.pads sound

pub transmitter_can_be_set : TransmitterCanBeSet
transmitter_can_be_set o p control world sound pads =
    let set = registers-set o p world (with_transmit_control control world).adapter sound.separate pads sound in
    record { same = set.same; runs = λ can. set.runs can.not_extended can }

pub transmit_ring_can_be_set : TransmitRingCanBeSet
transmit_ring_can_be_set o p ring world sound none same separate =
    let memory = world.memory in
    let unsent = offered-none (ring_of ring) same in
    let queue : world.adapter.transmitter.buffer ++ map (fetched true memory) (offered (ring_of ring)) ≡ [] =
    ap (λ (frames : List Queued). frames ++ map (fetched true memory) (offered (ring_of ring))) none
    ∙ ap (map (fetched true memory)) unsent in
    record {
      sound = record {
        receive_slots = sound.receive_slots;
        transmit_slots = dealt-idle memory (ring_of ring) _ same (ap (map (λ (queued : Queued). queued.descriptor)) none);
        separate = separate;
        reports = subst (λ (frames : List Queued). All Reports frames) (sym queue) (all-none Reports);
        begun = sound.begun;
        pads = λ differ. absurd (differ same);
      };
      none_outstanding = outstanding-none (ring_of ring);
      none_to_send = none-to_send memory (ring_of ring) world.adapter.transmitter.buffer none same;
      held = refl;
      finished_same = refl;
      fits = λ size fit. record { large = fit.large; finished_fit = fit.finished_fit; work_fits = fit.work_fits };
      runs = λ can. record {
        receiver_runs = can.receiver_runs;
        transmitter_runs = can.transmitter_runs;
        receive_indices = can.receive_indices;
        transmit_indices = λ differ. absurd (differ same);
        not_extended = can.not_extended;
        transmittable = subst (λ (slots : List ℕ). All (CanTransmit memory) slots) (sym unsent) (all-none (CanTransmit memory));
      };
    }

-- Writes of other registers, and reads.

pub others-set : (o p : ℕ) (world : World) (other : AdapterState) → Sound o p world → LeavesFrames o p world (with_others_of other world)
others-set o p world other sound =
    let set = registers-set o p world (with_others_of other world).adapter sound.separate sound.pads sound in
    record { same = set.same; runs = λ can. set.runs can.not_extended can }

-- The parts of a world on which the conditions, slots and frames depend.
abbrev parts : World → World
parts = with_others_of (new_adapter [] Never)

by-parts : (o p : ℕ) (a b : World) → parts b ≡ parts a → Sound o p a → LeavesFrames o p a b
by-parts o p a b same sound =
    subst (λ (part : World). LeavesFrames o p a (with_others_of b.adapter part)) (sym same) (others-set o p a b.adapter sound)

pub reads_leave_frames : ReadsLeaveFrames
reads_leave_frames o p offset world sound =
    let counted = with_counts_of (after_read offset world.adapter) world.adapter in
    subst (λ (adapter : AdapterState). LeavesFrames o p world (record world { adapter = adapter })) (sym (read-counts offset world.adapter))
    (others-set o p world counted sound)

pub other_writes_leave_frames : OtherWritesLeaveFrames
other_writes_leave_frames o p register value world sound other none = by_test (is_reset register value) none
  where
    by_test : (test : Bool) → test ≡ false
        → LeavesFrames o p world
        (record world {
          adapter = if test then after_reset world.adapter else by_row
              (row_of register).kept register value world.adapter;
        })
    by_test true same = absurd (cc)
    by_test false same =
        let leaves = row-leaves register value world.adapter in
        let controls = leaves.controls other in
        let rings = leaves.rings controls.no_ring in
        by-parts o p world _ (rw (leaves.receiver, leaves.transmitter, rings.0, rings.1, controls.receive, controls.transmit) refl) sound

-- Several slots are offered by one write.

same_trans : (o p : ℕ) (a b d : World) → b.adapter.filter ≡ a.adapter.filter → SameFrames o p a b → SameFrames o p b d → SameFrames o p a d
same_trans o p a b d filter one two = record {
  sound = two.sound;
  held = two.held ∙ one.held;
  to_send = two.to_send ∙ one.to_send;
  finished_same = two.finished_same ∙ one.finished_same;
  written_same = two.written_same ∙ one.written_same;
  pieces_same = two.pieces_same ∙ one.pieces_same;
  whole = λ size sized cut. two.whole size sized (one.whole size
      (subst (λ (registers : FilterRegisters). HasBit registers.rctl rctl_en → buffer_size_of (field registers.rctl 16 2) ≡ size)
      (sym filter) cut.sized) cut);
  fits = λ size large fit. two.fits size large (one.fits size
      (subst (λ (registers : FilterRegisters). HasBit registers.rctl rctl_en → buffer_size_of (field registers.rctl 16 2) ≤ size)
      (sym filter) fit.large) fit);
}

offered_each : (o p k : ℕ) (world : World) → Sound o p world → CanOfferMany o k world → OfferedMany o p k world (iterate offering k world)
offered_each o p zero world sound can = let ring = receive_ring world in record
    { same = (others-set o p world world.adapter sound).same; runs = λ can. can; last = sym (append-nil (outstanding ring o)) }
offered_each o p (suc k) world sound can =
    let one = slots_can_be_offered o p world sound can.0 in
    let rest = offered_each o p k (offering world) one.same.sound can.1 in
    let ring = receive_ring world in
    let later = map (address_of ring) (slots_from (count_of ring) (next_of ring ring.tail) k) in
    record {
      same = same_trans o p world (offering world) (iterate offering k (offering world)) refl one.same rest.same;
      runs = λ can. rest.runs (one.runs can);
      last = rest.last ∙ ap (λ (slots : List ℕ). slots ++ later) one.last
          ∙ append_assoc (outstanding ring o) (address_of ring ring.tail ∷ []) later;
    }

moved_tail : (k : ℕ) (world : World) → world.adapter.receive_ring.tail < count_of (receive_ring world)
    → iterate offering k world ≡ with_tail ((world.adapter.receive_ring.tail + k) % count_of (receive_ring world)) world
moved_tail zero world within =
    let n = count_of (receive_ring world) in
    let tail = world.adapter.receive_ring.tail in
    let whole : tail + 0 ≡ tail = omega arith in
    let index : (tail + 0) % n ≡ tail = ap (λ (i : ℕ). i % n) whole ∙ mod-eq_of_lt within in
    ap (λ (i : ℕ). with_tail i world) (sym index)
moved_tail (suc k) world within =
    let n = count_of (receive_ring world) in
    let tail = world.adapter.receive_ring.tail in
    let sum : tail + 1 + k ≡ tail + suc k = omega arith in
    let index : ((tail + 1) % n + k) % n ≡ (tail + suc k) % n = mod-add-mod (tail + 1) n k ∙ ap (λ (i : ℕ). i % n) sum in
    moved_tail k (offering world) (next-below n tail within) ∙ ap (λ (i : ℕ). with_tail i world) index

pub many_slots_can_be_offered : ManySlotsCanBeOffered
many_slots_can_be_offered o p k world sound within can =
    subst (OfferedMany o p k world) (moved_tail k world within) (offered_each o p k world sound can)
