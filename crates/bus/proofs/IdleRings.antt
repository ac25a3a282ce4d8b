-- Idle rings: the conditions of the law hold for them, and they remain idle.
use Rattle.std.proofs.Common.{◌≡◌, ⊎_elim, inl, inr, ◌++◌, ◌∷◌, [], true, false, ℕ, List, Bool, Option, None, Some, cond}
use Rattle.std.proofs.Common.{if◌then◌else◌, length, map, refl, sym, ap, subst, ◌∙◌, arith}
use Rattle.std.specs.List.{All, take_while}
use Rattle.std.proofs.lemmas.Bool.{cases_eq}
use Rattle.std.proofs.lemmas.List.Elements.{All-cons}
use Rattle.std.proofs.lemmas.List.Kept.{AllPairs-cons}
use Rattle.dma_memory.specs.Areas.{AreApart, AreSeparate, Area}
use Rattle.dma_memory.specs.HostMemory.{LiesIn}
use Rattle.descriptors.specs.declared.ring.Ring.{Ring}
use Rattle.descriptors.specs.Ring.{HasValidIndices, address_of, offered_places}
use Rattle.descriptors.specs.RingLaws.{places-none}
use Rattle.rx_engine.specs.declared.engine.Work.{Work}
use Rattle.rx_engine.specs.Held as engine
use Rattle.rx_engine.specs.Pieces.{Piece, begun_of}
use Rattle.tx_engine.specs.Fetching.{fetched, frame_at}
use Rattle.rx_engine.specs.Receiver.{Receiver}
use Rattle.tx_engine.specs.Transmitter.{Queued, Transmitter}
use Rattle.adapter_model.specs.declared.register.Register.{Register}
use Rattle.adapter_model.specs.declared.ring.RingRegisters.{RingRegisters}
use Rattle.adapter_model.specs.Registers.{after_reset, by_row, is_reset, left_by_write, write_of, after_read}
use Rattle.adapter_model.specs.Rings.{ring_of}
use Rattle.adapter_model.specs.State.{AdapterState}
use Rattle.adapter_model.specs.Table.{register_at, row_of}
use Rattle.adapter_model.specs.HostAreas.{areas, buffer_of, data_of, ring_area, work_areas}
use Rattle.adapter_model.specs.Slots.{buffered, done_slots, finished, slots_in_work, is_done, IsDealt, offered, outstanding, slot_of_work}
use Rattle.adapter_model.specs.HostFrames.{finished_pieces, named, piece_in}
use Rattle.bus.specs.Law.{OnlyHeadMoves}
use Rattle.bus.specs.IdleRings.{HappeningsKeepIdle, IdleAfterPowerOn, IdleAfterReset, IdleRingsAreSound, IsIdle, OtherWritesKeepIdle}
use Rattle.bus.specs.IdleRings.{ReadsKeepIdle, StoresKeepIdle, WritesKeepIdle, moved_bytes}
use Rattle.adapter_model.specs.Conditions.{Reports, Sound}
use Rattle.adapter_model.specs.World.{receive_ring, transmit_ring, World, world_after_write}
use Rattle.bus.proofs.Lists.{all-head, all-left, all-none, all-weaker, append-empty, map-empty, pairs-head, pairs-none}
use Rattle.bus.proofs.TxPutSteps.{areas-same}
use Rattle.bus.proofs.Rings.{offered-head}
use Rattle.bus.proofs.RegisterWrites.{row-leaves, read-counts, with_counts_of}
use Rattle.tx_engine.specs.ToSend.{to_send}

-- Rings whose head is their tail.

pub offered-none : (ring : Ring) → ring.head ≡ ring.tail → offered ring ≡ []
offered-none ring same = ap (map (address_of ring)) (places-none ring same)

pub outstanding-none : (ring : Ring) → outstanding ring ring.tail ≡ []
outstanding-none ring = offered-none (record ring { head = ring.tail }) refl

pub dealt-idle : (memory : List ℕ) (ring : Ring) (taken : List ℕ) → ring.head ≡ ring.tail → taken ≡ [] → IsDealt memory ring ring.tail taken
dealt-idle memory ring taken same none =
    let empty : taken ++ offered ring ≡ [] = rw (none) (offered-none ring same) in
    let clear = outstanding-none ring in
    record {
      slot = inr clear;
      classes = clear ∙ sym (ap (λ (slots : List ℕ). take_while (is_done memory) slots ++ (taken ++ offered ring)) clear ∙ empty);
      not_done = subst (λ (slots : List ℕ). All (λ d. is_done memory d ≡ false) slots) (sym empty)
          (all-none (λ d. is_done memory d ≡ false));
    }

pub none-to_send : (memory : List ℕ) (ring : Ring) (buffer : List Queued) → buffer ≡ [] → ring.head ≡ ring.tail
    → to_send memory ring true buffer ≡ []
unfolding to_send
none-to_send memory ring buffer none same =
    let behind = map (λ (slot : ℕ). frame_at true memory (address_of ring slot)) (offered_places ring) in
    ap (λ (queue : List Queued). map (λ (queued : Queued). queued.frame) queue ++ behind) none
    ∙ ap (map (λ (slot : ℕ). frame_at true memory (address_of ring slot))) (places-none ring same)

buffers-none : (on : Bool) (f : ℕ → Area) (slots : List ℕ) → slots ≡ [] → cond on (map f slots) [] ≡ []
buffers-none true f slots none = ap (map f) none
buffers-none false f slots none = refl

pub idle-areas : (world : World) → IsIdle world
    → areas world.adapter.receive_ring.tail world ≡ ring_area (receive_ring world) ∷ ring_area (transmit_ring world) ∷ []
idle-areas world idle =
    let memory = world.memory in
    let ring = receive_ring world in
    let unoffered = offered-none ring idle.rings.receive in
    let unsent = offered-none (transmit_ring world) idle.rings.transmit in
    let unfinished : finished ring.tail world ≡ [] = ap (take_while (is_done memory)) (outstanding-none ring) in
    areas-same _ _ [] _ [] _ [] _ [] _ (ap (map (data_of memory)) unsent) (ap (map (named memory)) unfinished)
    (ap (work_areas memory) idle.work) (buffers-none _ (buffer_of world) (offered ring) unoffered)

pub no-pieces : (memory : List ℕ) (finished : List Piece) (receiver : Receiver) → finished ≡ [] → receiver.work ≡ None
    → engine.in_slots memory finished receiver ≡ []
no-pieces memory finished receiver none free =
    ap (λ (pieces : List Piece). pieces ++ engine.in_work memory receiver.work) none ∙ ap (engine.in_work memory) free

pub idle_rings_are_sound : IdleRingsAreSound
idle_rings_are_sound world idle =
    let memory = world.memory in
    let unsent = offered-none (transmit_ring world) idle.rings.transmit in
    let ring = receive_ring world in
    let pieces : finished_pieces ring.tail world ≡ [] =
    ap (λ (slots : List ℕ). map (piece_in memory) (take_while (is_done memory) slots)) (outstanding-none ring) in
    let queue : world.adapter.transmitter.buffer ++ map (fetched true memory) (offered (transmit_ring world)) ≡ [] =
    ap (λ (frames : List Queued). frames ++ map (fetched true memory) (offered (transmit_ring world))) idle.buffer
    ∙ ap (map (fetched true memory)) unsent in
    record {
      receive_slots = dealt-idle memory (receive_ring world) (slots_in_work world) idle.rings.receive (ap slot_of_work idle.work);
      transmit_slots = dealt-idle memory (transmit_ring world) (buffered world) idle.rings.transmit
          (ap (map (λ (queued : Queued). queued.descriptor)) idle.buffer);
      separate = subst (λ (list : List Area). AreSeparate memory list) (sym (idle-areas world idle)) idle.rings.separate;
      reports = subst (λ (frames : List Queued). All Reports frames) (sym queue) (all-none Reports);
      begun = ap begun_of (no-pieces memory (finished_pieces ring.tail world) world.adapter.receiver pieces idle.work) ∙ sym idle.unmoved;
      pads = λ differ. absurd (differ idle.rings.transmit);
    }

-- Power-on and reset.

empty_rings : (memory : List ℕ) → AreSeparate memory (record { address = 0; size = 0 } ∷ record { address = 0; size = 0 } ∷ [])
empty_rings memory =
    let e : Area = record { address = 0; size = 0 } in
    let Lies : Area → Type 0 = λ area. LiesIn memory area.address area.size in
    record {
      lie = All-cons Lies e (e ∷ []) (omega arith) (All-cons Lies e [] (omega arith) (all-none Lies));
      apart = AllPairs-cons AreApart e (e ∷ []) (All-cons (AreApart e) e [] (inl (omega arith)) (all-none (AreApart e)))
          (AllPairs-cons AreApart e [] (all-none (AreApart e)) (pairs-none AreApart));
    }

pub idle_after_power_on : IdleAfterPowerOn
idle_after_power_on memory words link = record {
  work = refl;
  unmoved = refl;
  buffer = refl;
  rings = record { receive = refl; transmit = refl; separate = empty_rings memory };
}

pub idle_after_reset : IdleAfterReset
idle_after_reset world = record {
  work = refl;
  unmoved = refl;
  buffer = refl;
  rings = record { receive = refl; transmit = refl; separate = empty_rings world.memory };
}

-- Idle rings are idle after whatever happens between two accesses.

work-empty : (work : Option Work) → slot_of_work work ≡ [] → work ≡ None
work-empty None none = refl
work-empty (Some work) none = absurd (cc)

pub none-dealt : (memory : List ℕ) (ring : Ring) (oldest : ℕ) (taken : List ℕ) → oldest ≡ ring.tail → IsDealt memory ring oldest taken
    → (taken ≡ []) × (offered ring ≡ [])
none-dealt memory ring oldest taken same dealt =
    let clear : outstanding ring oldest ≡ [] = ap (outstanding ring) same ∙ outstanding-none ring in
    let all = append-empty (done_slots memory ring oldest) (taken ++ offered ring) (sym dealt.classes ∙ clear) in
    append-empty taken (offered ring) all.1

head-is-tail : (ring : Ring) → HasValidIndices ring → offered ring ≡ [] → ring.head ≡ ring.tail
head-is-tail ring slots none =
    ⊎_elim (λ (same : ring.head ≡ ring.tail). same)
    (λ (differ : ¬ (ring.head ≡ ring.tail)). let first = offered-head ring slots differ in absurd (cc)) (cases_eq ring.head ring.tail)

pub still-idle : (a b : RingRegisters) → OnlyHeadMoves a b → a.head ≡ a.tail → offered (ring_of b) ≡ [] → b.head ≡ b.tail
still-idle a b moves idle none =
    ⊎_elim
    (λ (stayed : b.head ≡ a.head). stayed ∙ idle ∙ sym (ap (λ (ring : RingRegisters). ring.tail) moves.others))
    (λ (slots : HasValidIndices (ring_of b)). head-is-tail (ring_of b) slots none)
    moves.head

pub first-two : (memory : List ℕ) (r t : Area) (rest : List Area) → AreSeparate memory (r ∷ t ∷ rest) → AreSeparate memory (r ∷ t ∷ [])
first-two memory r t rest separate = record {
  lie = all-left (λ (area : Area). LiesIn memory area.address area.size) (r ∷ t ∷ []) rest separate.lie;
  apart =
      AllPairs-cons AreApart r (t ∷ [])
      (All-cons (AreApart r) t [] (all-head (AreApart r) t rest (pairs-head AreApart r (t ∷ rest) separate.apart))
      (all-none (AreApart r)))
      (AllPairs-cons AreApart t [] (all-none (AreApart t)) (pairs-none AreApart));
}

pub happenings_keep_idle : HappeningsKeepIdle
happenings_keep_idle a b past happens idle =
    let o = a.adapter.receive_ring.tail in
    let p = a.adapter.transmit_ring.tail in
    let steady = happens.steady in
    let sound : Sound o p b = (happens.between o p (idle_rings_are_sound a idle)).sound in
    let tail : o ≡ b.adapter.receive_ring.tail = sym (ap (λ (ring : RingRegisters). ring.tail) steady.receive_ring.others) in
    let received = none-dealt b.memory (receive_ring b) o (slots_in_work b) tail sound.receive_slots in
    let work = work-empty b.adapter.receiver.work received.0 in
    let pieces : finished_pieces o b ≡ [] =
    ap (λ (slots : List ℕ). map (piece_in b.memory) (take_while (is_done b.memory) slots))
    (ap (outstanding (receive_ring b)) tail ∙ outstanding-none (receive_ring b)) in
    let sent = none-dealt b.memory (transmit_ring b) p (buffered b)
    (sym (ap (λ (ring : RingRegisters). ring.tail) steady.transmit_ring.others)) sound.transmit_slots in
    record {
      work = work;
      unmoved = sym sound.begun ∙ ap begun_of (no-pieces b.memory (finished_pieces o b) b.adapter.receiver pieces work);
      buffer = map-empty (λ (queued : Queued). queued.descriptor) b.adapter.transmitter.buffer sent.0;
      rings = record {
        receive = still-idle a.adapter.receive_ring b.adapter.receive_ring steady.receive_ring idle.rings.receive received.1;
        transmit = still-idle a.adapter.transmit_ring b.adapter.transmit_ring steady.transmit_ring idle.rings.transmit sent.1;
        separate = first-two b.memory (ring_area (receive_ring b)) (ring_area (transmit_ring b)) _ sound.separate;
      };
    }

-- Idle rings are idle after accesses.

idle-same : (memory memory' : List ℕ) (a b : AdapterState) → length memory' ≡ length memory → b.receiver ≡ a.receiver
    → b.transmitter.buffer ≡ a.transmitter.buffer → b.receive_ring ≡ a.receive_ring → b.transmit_ring ≡ a.transmit_ring
    → IsIdle (record { memory = memory; adapter = a }) → IsIdle (record { memory = memory'; adapter = b })
idle-same memory memory' a b size receiver buffer r t idle = record {
  work = ap (λ (there : Receiver). there.work) receiver ∙ idle.work;
  unmoved = ap moved_bytes receiver ∙ idle.unmoved;
  buffer = buffer ∙ idle.buffer;
  rings = record {
    receive = ap (λ (ring : RingRegisters). ring.head) r ∙ idle.rings.receive ∙ sym (ap (λ (ring : RingRegisters). ring.tail) r);
    transmit = ap (λ (ring : RingRegisters). ring.head) t ∙ idle.rings.transmit ∙ sym (ap (λ (ring : RingRegisters). ring.tail) t);
    separate = same-separate;
  };
}
  where
    same-rings : (let list : List Area = ring_area (ring_of b.receive_ring) ∷ ring_area (ring_of b.transmit_ring) ∷ [] in list)
        ≡ ring_area (ring_of a.receive_ring) ∷ ring_area (ring_of a.transmit_ring) ∷ []
    same-rings = rw (r, t) refl

    same-separate : AreSeparate memory' (ring_area (ring_of b.receive_ring) ∷ ring_area (ring_of b.transmit_ring) ∷ [])
    same-separate =
        let rings = subst (λ (list : List Area). AreSeparate memory list) (sym same-rings) idle.rings.separate in
        record {
          lie = all-weaker (λ (area : Area). LiesIn memory area.address area.size) (λ (area : Area). LiesIn memory' area.address area.size)
              (ring_area (ring_of b.receive_ring) ∷ ring_area (ring_of b.transmit_ring) ∷ [])
              (λ area lies. omega (arith, lies, size)) rings.lie;
          apart = rings.apart;
        }

pub reads_keep_idle : ReadsKeepIdle
reads_keep_idle offset world idle =
    let counted = with_counts_of (after_read offset world.adapter) world.adapter in
    subst (λ (adapter : AdapterState). IsIdle (record world { adapter = adapter })) (sym (read-counts offset world.adapter))
    (idle-same world.memory world.memory world.adapter counted refl refl refl refl refl idle)

pub stores_keep_idle : StoresKeepIdle
stores_keep_idle address bytes world size idle = idle-same world.memory _ world.adapter world.adapter size refl refl refl refl idle

-- No piece is in progress. No byte of the oldest frame in the receive packet buffer has been moved. No frame is in the transmit packet
-- buffer.
record NoFrames (state : AdapterState) : Type 0 where
  work : state.receiver.work ≡ None
  unmoved : moved_bytes state.receiver ≡ []
  buffer : state.transmitter.buffer ≡ []

write-frames : (register : Register) (value : ℕ) (state : AdapterState) → NoFrames state → NoFrames (write_of register value state)
write-frames register value state none = by_test (is_reset register value)
  where
    by_test : (test : Bool) → NoFrames (if test then after_reset state else by_row (row_of register).kept register value state)
    by_test true = record { work = refl; unmoved = refl; buffer = refl }
    by_test false =
        let leaves = row-leaves register value state in
        record {
          work = ap (λ (receiver : Receiver). receiver.work) leaves.receiver ∙ none.work;
          unmoved = ap moved_bytes leaves.receiver ∙ none.unmoved;
          buffer = ap (λ (transmitter : Transmitter). transmitter.buffer) leaves.transmitter ∙ none.buffer;
        }

pub writes_keep_idle : WritesKeepIdle
writes_keep_idle offset value world idle rings = by_case (register_at offset) refl
  where
    by_case : (found : Option Register) → register_at offset ≡ found → IsIdle (world_after_write offset value world)
    by_case (Some register) is =
        let none = write-frames register value world.adapter (record { work = idle.work; unmoved = idle.unmoved; buffer = idle.buffer }) in
        record {
          work = ap (λ (found : Option Register). (left_by_write found value world.adapter).receiver.work) is ∙ none.work;
          unmoved = ap (λ (found : Option Register). moved_bytes (left_by_write found value world.adapter).receiver) is ∙ none.unmoved;
          buffer = ap (λ (found : Option Register). (left_by_write found value world.adapter).transmitter.buffer) is ∙ none.buffer;
          rings = rings;
        }
    by_case None is = record {
      work = ap (λ (found : Option Register). (left_by_write found value world.adapter).receiver.work) is ∙ idle.work;
      unmoved = ap (λ (found : Option Register). moved_bytes (left_by_write found value world.adapter).receiver) is ∙ idle.unmoved;
      buffer = ap (λ (found : Option Register). (left_by_write found value world.adapter).transmitter.buffer) is ∙ idle.buffer;
      rings = rings;
    }

-- A write of a register that isn't a ring's doesn't change the rings, or is a reset.
pub other_writes_keep_idle : OtherWritesKeepIdle
other_writes_keep_idle register value world other idle = by_test (is_reset register value)
  where
    by_test : (test : Bool)
        → IsIdle (record world
        { adapter = if test then after_reset world.adapter else by_row (row_of register).kept register value world.adapter })
    by_test true = idle_after_reset world
    by_test false =
        let leaves = row-leaves register value world.adapter in
        let rings = leaves.rings other in
        idle-same world.memory world.memory world.adapter _ refl
        leaves.receiver
        (ap (λ (transmitter : Transmitter). transmitter.buffer) leaves.transmitter) rings.0 rings.1 idle
