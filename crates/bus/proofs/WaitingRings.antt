-- What doesn't change while a driver initializes: the offered receive slots, and an idle transmit ring.
use Rattle.std.proofs.Common.{◌≡◌, ◌≤◌, ◌++◌, ◌∷◌, []}
use Rattle.std.proofs.Common.{inl, ℕ, List, Option, None, Some, length, length-append}
use Rattle.std.proofs.Common.{refl, sym, ap, subst, ◌∙◌, take, arith}
use Rattle.std.specs.List.{All}
use Rattle.std.proofs.Math.Seq.{take-nil}
use Rattle.rx_engine.specs.Descriptors.{named_address}
use Rattle.rx_engine.specs.Held as engine
use Rattle.rx_engine.specs.Pieces.{IsCut, Piece, begun_from, begun_of, frames_from, frames_of}
use Rattle.rx_engine.specs.Pieces.Piece.{Last, Part}
use Rattle.rx_engine.specs.Receiver.{oldest}
use Rattle.rx_engine.specs.declared.engine.Work.{Work}
use Rattle.tx_engine.specs.Transmitter.{Queued}
use Rattle.adapter_model.specs.declared.ring.RingRegisters.{RingRegisters}
use Rattle.adapter_model.specs.Rings.{ring_of}
use Rattle.adapter_model.specs.Slots.{buffered, finished, slots_in_work, offered, outstanding, slot_of_work}
use Rattle.adapter_model.specs.HostFrames.{finished_pieces, frames_held, piece_in, pieces_in_slots}
use Rattle.bus.specs.RegisterSetting.{OffersWait, TransmitStaysIdle}
use Rattle.adapter_model.specs.Conditions.{AreCut, Sound}
use Rattle.adapter_model.specs.World.{receive_ring, transmit_ring, World}
use Rattle.bus.proofs.IdleRings.{none-dealt, still-idle}
use Rattle.bus.proofs.Lists.{all-head, append-empty, map-empty}
use Rattle.bus.proofs.DriversSlots.{drivers_side_stays}
use Rattle.bus.proofs.Rings.{each-outstanding}

pub transmit_stays_idle : TransmitStaysIdle
transmit_stays_idle o a b past sound same happens =
    let p = a.adapter.transmit_ring.tail in
    let steady = happens.steady in
    let later : Sound o p b = (happens.between o p sound).sound in
    let sent = none-dealt b.memory (transmit_ring b) p (buffered b)
    (sym (ap (λ (ring : RingRegisters). ring.tail) steady.transmit_ring.others)) later.transmit_slots in
    record {
      buffer = map-empty (λ (queued : Queued). queued.descriptor) b.adapter.transmitter.buffer sent.0;
      ring = still-idle a.adapter.transmit_ring b.adapter.transmit_ring steady.transmit_ring same sent.1;
    }

-- No slot is finished, and no piece is in progress.
pub record HoldsNone (o : ℕ) (world : World) : Type 0 where
  pub none_finished : finished o world ≡ []
  pub no_work : world.adapter.receiver.work ≡ None

no_work-held : (memory : List ℕ) (work : Option Work) → engine.in_work memory work ≡ [] → work ≡ None
no_work-held memory None none = refl
no_work-held memory (Some work) none = absurd (cc)

begun-grows : (begun : List ℕ) (pieces : List Piece) → frames_from begun pieces ≡ [] → length begun ≤ length (begun_from begun pieces)
begun-grows begun [] none = omega arith
begun-grows begun (Part bytes ∷ later) none =
    let rest = begun-grows (begun ++ bytes) later none in
    omega (arith, rest, length-append begun bytes)
begun-grows begun (Last bytes ∷ later) none = absurd (cc)

-- If no frame ends in pieces and the pieces join to no bytes, there is no piece, because a part isn't empty.
no-pieces-cut : (size : ℕ) (pieces : List Piece) → 1 ≤ size → All (IsCut size) pieces → frames_of pieces ≡ [] → begun_of pieces ≡ []
    → pieces ≡ []
no-pieces-cut size [] some cut none nothing = refl
no-pieces-cut size (Part bytes ∷ later) some cut none nothing =
    let full : length bytes ≡ size = all-head (IsCut size) (Part bytes) later cut in
    let grows : length bytes ≤ length (begun_from bytes later) = begun-grows bytes later none in
    let empty : length (begun_from bytes later) ≡ 0 = ap length nothing in
    absurd (omega (arith, some, full, grows, empty))
no-pieces-cut size (Last bytes ∷ later) some cut none nothing = absurd (cc)

pub holds-none : (size o p : ℕ) (world : World) → Sound o p world → 1 ≤ size → AreCut size o world
    → frames_held o world ≡ [] → HoldsNone o world
holds-none size o p world sound some cut none =
    let receiver = world.adapter.receiver in
    let both = append-empty (frames_of (pieces_in_slots o world)) receiver.buffer none in
    let begun : begun_of (pieces_in_slots o world) ≡ [] =
    sound.begun ∙ ap (λ (frames : List (List ℕ)). take receiver.moved (oldest frames)) both.1 ∙ take-nil receiver.moved in
    let empty = no-pieces-cut size (pieces_in_slots o world) some cut.cut both.0 begun in
    let parts = append-empty (finished_pieces o world) (engine.in_work world.memory receiver.work) empty in
    record {
      none_finished = map-empty (piece_in world.memory) (finished o world) parts.0;
      no_work = no_work-held world.memory receiver.work parts.1;
    }

pub all-offered : (o p : ℕ) (world : World) → Sound o p world → HoldsNone o world
    → outstanding (receive_ring world) o ≡ offered (receive_ring world)
all-offered o p world sound none =
    let slots = offered (receive_ring world) in
    sound.receive_slots.classes ∙ ap (λ (front : List ℕ). front ++ (slots_in_work world ++ slots)) none.none_finished
    ∙ ap (λ (work : Option Work). slot_of_work work ++ slots) none.no_work

pub offers_wait : OffersWait
offers_wait size o p a b past sound within off some cut none happens =
    let between = happens.between o p sound in
    let steady = happens.steady in
    let before = holds-none size o p a sound some cut none in
    let after = holds-none size o p b between.sound some (between.whole size cut)
    (between.receive.holds ∙ ap (λ (frames : List (List ℕ)). frames ++ past.stored) none ∙ (steady.arrivals.off off).0) in
    let same : outstanding (receive_ring b) o
    ≡ outstanding (receive_ring a) o = ap (λ (ring : RingRegisters). outstanding (ring_of ring) o) steady.receive_ring.others in
    let Stays : ℕ → Type 0 = λ slot. named_address b.memory slot ≡ named_address a.memory slot in
    record {
      none_finished = after.none_finished;
      no_work = after.no_work;
      slots = sym (all-offered o p b between.sound after) ∙ same ∙ all-offered o p a sound before;
      addresses = subst (All Stays) (all-offered o p a sound before)
          (each-outstanding (receive_ring a) o Stays (inl within) (drivers_side_stays o p a b past sound happens).addresses);
    }
