-- A frame passes through the adapter of a lane.
use Rattle.std.proofs.Common.{◌≡◌, ◌<◌, ◌+◌, ◌-◌, ◌*◌, ◌%◌, ◌∙◌}
use Rattle.std.proofs.Common.{ℕ, List, length, Bool, true, leb, take, refl, sym, ap, subst, arith}
use Rattle.std.specs.Prelude.{if◌then◌else◌}
use Rattle.std.proofs.lemmas.Bool.{le-leb}
use Rattle.std.proofs.lemmas.List.{take_all}
use Rattle.registers.specs.ReceiveControl.{buffer_size_of}
use Rattle.dma_memory.specs.HostMemory.{with_bytes, LiesIn}
use Rattle.descriptors.specs.Frames.{IsLegal}
use Rattle.rx_engine.specs.Descriptors.{named_address}
use Rattle.rx_engine.specs.Receiver.{Receiver, new_receiver}
use Rattle.rx_engine.specs.Finishing.{finished_bytes}
use Rattle.rx_engine.specs.Moving.{next_piece}
use Rattle.rx_engine.specs.declared.arrival.Fate.{Fate}
use Rattle.rx_engine.specs.declared.arrival.Fate.TheVariants.{Stored}
use Rattle.adapter.specs.model_types.ring.RingRegisters.{RingRegisters}
use Rattle.adapter.specs.model_types.outcome.Outcome.TheVariants.{Moved, Done}
use Rattle.adapter.specs.Receiving.{after_arrive, after_data, after_done, memory_after_data_step, memory_after_done_step, is_last_piece}
use Rattle.adapter.specs.Receiving.{CanMovePiece}
use Rattle.adapter.specs.State.{AdapterState}
use Rattle.receive_lane.specs.Lane.{slots, lane_buffer, ring_at, HasFrame, IsLane, IsReceiving, IsWaiting, LaneState, NameBuffers}
use Rattle.receive_lane.proofs.Lanes.{HasRoom, frame_finished, has_room, length-finished, length-offer, with_finished, with_frame, with_offer}
use Rattle.receive_lane.proofs.Lanes.{NameBelow-offered, NameBuffers-finished}

-- an adapter that holds no frame, with its ring's head at `head` and the driver at `slot`
abbrev pub calm : AdapterState → ℕ → ℕ → AdapterState
calm state head slot = record state { receive_kilobytes = 48; receiver = new_receiver; receive_ring = ring_at head slot }

is_calm : (state : AdapterState) (head slot : ℕ) → state.receive_kilobytes ≡ 48 → state.receiver ≡ new_receiver
    → state.receive_ring ≡ ring_at head slot → state ≡ calm state head slot
is_calm state head slot room idle ring =
    ap (λ (k : ℕ). record state { receive_kilobytes = k }) room
    ∙ ap (λ (e : Receiver). record state { receive_kilobytes = 48; receiver = e }) idle
    ∙ ap (λ (r : RingRegisters). record state { receive_kilobytes = 48; receiver = new_receiver; receive_ring = r }) ring

calm_of : (lane : LaneState) → IsLane lane → IsWaiting lane → lane.adapter ≡ calm lane.adapter lane.slot lane.slot
calm_of lane is waiting =
    is_calm lane.adapter lane.slot lane.slot is.room is.idle (is.ring ∙ ap (λ (head : ℕ). ring_at head lane.slot) waiting)

-- a calm adapter, after a frame was stored
abbrev pub with_stored : AdapterState → ℕ → List ℕ → AdapterState
with_stored state slot frame = after_arrive Stored frame (calm state slot slot)

pub is_stored : (lane : LaneState) (frame : List ℕ) (fate : Fate) (after : AdapterState) → IsLane lane → IsWaiting lane
    → after ≡ after_arrive fate frame lane.adapter → fate ≡ Stored → after ≡ with_stored lane.adapter lane.slot frame
is_stored lane frame fate after is waiting arrives stored =
    arrives ∙ ap (λ (f : Fate). after_arrive f frame lane.adapter) stored ∙ ap (after_arrive Stored frame) (calm_of lane is waiting)

at_slot : (slot : ℕ) → 0 + 16 * slot ≡ 16 * slot
at_slot slot = omega arith

pub one_piece : (state : AdapterState) (frame : List ℕ) (slot : ℕ) → IsReceiving state.filter.rctl → IsLegal frame
    → next_piece state.filter.rctl (with_stored state slot frame).receiver ≡ frame
one_piece state frame slot receiving legal =
    let most = legal.most in
    ap (λ (code : ℕ). take (buffer_size_of code) frame) receiving.size ∙ take_all 2048 frame (omega arith)

pub last_piece : (state : AdapterState) (frame : List ℕ) (slot : ℕ) → IsReceiving state.filter.rctl → IsLegal frame
    → is_last_piece (with_stored state slot frame) ≡ true
last_piece state frame slot receiving legal =
    let most = legal.most in
    ap (λ (code : ℕ). leb (length frame - 0) (buffer_size_of code)) receiving.size ∙ le-leb (length frame - 0) 2048 (omega arith)

pub can_move : (state : AdapterState) (memory frame : List ℕ) (slot : ℕ) → IsReceiving state.filter.rctl → slot < slots
    → length memory ≡ 34816 → IsLegal frame → HasRoom memory slot frame
    → CanMovePiece memory (with_stored state slot frame)
can_move state memory frame slot receiving below size legal room =
    record {
      indices = record { head = omega arith; tail = omega arith };
      descriptor = omega arith;
      place = subst (λ (piece : List ℕ). LiesIn memory (named_address memory (0 + 16 * slot)) (length piece))
          (sym (one_piece state frame slot receiving legal))
          (subst (λ (at : ℕ). LiesIn memory (named_address memory at) (length frame)) (sym (at_slot slot)) room.lies);
      not_extended = receiving.not_extended;
    }

-- After a frame was stored, it can be moved in one piece, which is its last.
pub finishes : (lane : LaneState) (frame : List ℕ) (fate : Fate) (after : AdapterState) → IsLane lane → IsWaiting lane
    → after ≡ after_arrive fate frame lane.adapter → fate ≡ Stored → IsLegal frame
    → CanMovePiece lane.memory after × (is_last_piece after ≡ true)
finishes lane frame fate after is waiting arrives stored legal =
    let same = is_stored lane frame fate after is waiting arrives stored in
    let room = has_room lane.memory frame lane.slot is.slot is.size is.buffers legal in (
      subst (CanMovePiece lane.memory) (sym same)
          (can_move lane.adapter lane.memory frame lane.slot is.receiving is.slot is.size legal room),
      ap is_last_piece same ∙ last_piece lane.adapter frame lane.slot is.receiving legal,
    )

-- the lane after both steps
abbrev pub after_steps : AdapterState → List ℕ → List ℕ → ℕ → LaneState
after_steps state memory frame slot = record {
  adapter = after_done Done (after_data Moved (with_stored state slot frame));
  memory = with_finished memory slot frame;
  slot = slot;
}

-- memory after both steps, by the descriptor's address and the piece
abbrev with_piece : List ℕ → ℕ → List ℕ → List ℕ
with_piece memory at piece =
    let moved = with_bytes memory (named_address memory at) piece in
    if leb (at + 16) (length moved) then with_bytes moved (at + 8) (finished_bytes (length piece) true) else moved

pub memory_is : (state : AdapterState) (memory frame : List ℕ) (slot : ℕ) → IsReceiving state.filter.rctl → slot < slots → IsLegal frame
    → HasRoom memory slot frame
    → memory_after_done_step (memory_after_data_step Moved memory (with_stored state slot frame))
    (after_data Moved (with_stored state slot frame)) ≡ with_finished memory slot frame
memory_is state memory frame slot receiving below legal room =
    let size = room.size in
    let within : leb (16 * slot + 16) (length (with_frame memory slot frame)) ≡ true = le-leb _ _ (omega arith) in
    ap (with_piece memory (0 + 16 * slot)) (one_piece state frame slot receiving legal)
    ∙ ap (λ (at : ℕ). with_piece memory at frame) (at_slot slot)
    ∙ ap (λ (lies : Bool). if lies then with_finished memory slot frame else with_frame memory slot frame) within

pub record Received (lane : LaneState) (frame : List ℕ) : Type 0 where
  pub is_lane : IsLane lane
  pub has_frame : HasFrame lane frame

pub received : (state : AdapterState) (memory frame : List ℕ) (slot : ℕ) → IsReceiving state.filter.rctl → slot < slots
    → length memory ≡ 34816 → NameBuffers memory → IsLegal frame → HasRoom memory slot frame
    → Received (after_steps state memory frame slot) frame
received state memory frame slot receiving below size named legal room = record {
  is_lane = record {
    receiving = receiving;
    room = refl;
    idle = refl;
    slot = below;
    ring = refl;
    size = length-finished memory frame slot below room;
    buffers = NameBuffers-finished memory frame slot below named legal room;
  };
  has_frame = record { head = refl; finished = frame_finished memory frame slot below size named legal room };
}

-- the adapter of a lane whose tail was written
abbrev pub with_tail : AdapterState → ℕ → AdapterState
with_tail state tail = record state { receive_ring = record state.receive_ring { tail = tail } }

-- After the buffer of the driver's slot is offered and RDT is written, the state is a lane with the driver at the next slot.
pub IsLane-offered : (lane : LaneState) (buffer : ℕ) → IsLane lane → buffer ≡ lane_buffer lane.slot
    → IsLane (record {
      adapter = with_tail lane.adapter lane.slot;
      memory = with_offer lane.memory lane.slot buffer;
      slot =
          (lane.slot + 1) % slots;
    })
IsLane-offered lane buffer is named =
    let below = is.slot in
    let tail : lane.slot ≡ ((lane.slot + 1) % slots + 7) % slots = omega arith in
    record {
      receiving = is.receiving;
      room = is.room;
      idle = is.idle;
      slot = omega arith;
      ring = ap (λ (r : RingRegisters). record r { tail = lane.slot }) is.ring
          ∙ ap (λ (t : ℕ). record (ring_at lane.adapter.receive_ring.head lane.slot) { tail = t }) tail;
      size = length-offer lane.memory lane.slot buffer is.slot is.size;
      buffers = NameBelow-offered lane.memory lane.slot slots buffer is.slot is.size named (λ k k_below other. is.buffers k k_below);
    }
