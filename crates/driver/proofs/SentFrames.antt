-- A frame is sent over a bus.
use Rattle.std.proofs.Common.{true, ◌≡◌, ◌<◌, ◌+◌, ◌-◌, Err, Ok, ◌%◌, ◌++◌, ◌∷◌, [], ℕ, List, length, refl, sym, ap, subst, ◌∙◌, arith}
use Rattle.dma_memory.specs.Layout.{Counts}
use Rattle.descriptors.specs.RingLaws.{place}
use Rattle.adapter.specs.Slots.{written_back_slots}
use Rattle.adapter.specs.Pasts.{Past, joined}
use Rattle.adapter.specs.bus_types.bus.Bus.{Ghosts}
use Rattle.adapter.specs.bus_types.event.Access.{Access}
use Rattle.adapter.specs.bus_types.event.Access.TheVariants.{Stores, Writes}
use Rattle.adapter.proofs.Calls.{ran-on}
use Rattle.adapter.proofs.Places.{place-below, place-next, place-same}
use Rattle.adapter.specs.DriverState.{DriverState, transmit_slot, transmit_tail}
use Rattle.adapter.specs.Calls.{IsReadyOver, Moment, Ran, send_accesses, transmit_buffer, whole_descriptor}
use Rattle.driver.specs.InsideDriver.{IsSending}
use Rattle.driver.specs.SendSteps.{IsTransmitAnswer, Reclaims, Sends, accesses_by, loads_to_free, sent_now, with_transmit_slots}
use Rattle.driver.specs.declared.transmit.SendError.TheVariants.{RingFull}

-- The slot of the frame

pub next-slot : (counts : Counts) (oldest next sending : ℕ) → IsSending counts oldest next sending → next < counts.tx
next-slot counts oldest next sending sends = let below = place-below counts.tx oldest sending sends.oldest_slot in omega
    (arith, sends.next_slot, below)

pub sending-more : (counts : Counts) (oldest next sending : ℕ) → sending + 1 < counts.tx → IsSending counts oldest next sending
    → IsSending counts oldest ((next + 1) % counts.tx) (sending + 1)
sending-more counts oldest next sending room sends = record {
  oldest_slot = sends.oldest_slot;
  room = room;
  next_slot = ap (λ (slot : ℕ). (slot + 1) % counts.tx) sends.next_slot ∙ sym (place-next counts.tx oldest sending);
}

-- If the ring is full after slots were freed, it was full before with no slot written back, and no slot was freed.
pub was-full : {B : Type 0} (bus : Ghosts B) (old new : Moment B) → IsReadyOver bus true old → Reclaims bus old new
    → new.driver ≡ with_transmit_slots old.driver new.driver.oldest_transmit new.driver.sending
    → transmit_tail new.driver ≡ transmit_tail old.driver
    → new.driver.sending + 1 ≡ old.driver.layout.tx → IsTransmitAnswer bus (Err RingFull) old new
was-full bus old new is reclaims others tail full =
    let room = is.ready.transmit.room in
    let flows = reclaims.ran.goes.flows in
    let count = flows.frees in
    let layout = flows.layout in
    let none : length (written_back_slots old.driver.oldest_transmit (bus.world old.bus)) ≡ 0 = omega
    (arith, full, count, room, ap length reclaims.none) in
    let sending : old.driver.sending ≡ new.driver.sending = omega (arith, full, count, room, ap length reclaims.none) in
    let ends : place old.driver.layout.tx new.driver.oldest_transmit new.driver.sending
    ≡ place old.driver.layout.tx old.driver.oldest_transmit new.driver.sending =
    sym (ap (λ (counts : Counts). place counts.tx new.driver.oldest_transmit new.driver.sending) layout) ∙ tail
    ∙ ap (place old.driver.layout.tx old.driver.oldest_transmit) sending in
    let oldest = place-same old.driver.layout.tx new.driver.sending new.driver.oldest_transmit old.driver.oldest_transmit
    (subst (λ (counts : Counts). new.driver.oldest_transmit < counts.tx) layout flows.ready.transmit.oldest_slot)
    is.ready.transmit.oldest_slot (omega (arith, full)) ends in
    record {
      at_entry = (omega (arith, full, sending), none-of (written_back_slots old.driver.oldest_transmit (bus.world old.bus)) none);
      at_return = (full ∙ sym (ap (λ (counts : Counts). counts.tx) layout), reclaims.none);
      same = others ∙ ap (λ (slot : ℕ). with_transmit_slots old.driver slot new.driver.sending) oldest
          ∙ ap (λ (n : ℕ). with_transmit_slots old.driver old.driver.oldest_transmit n) (sym sending);
    }
  where
    none-of : (slots : List ℕ) → length slots ≡ 0 → slots ≡ []
    none-of [] none = refl
    none-of (slot ∷ slots) none = absurd (omega (arith, none))

sends-same : (d d' : DriverState) (frame : List ℕ) → d'.layout ≡ d.layout → transmit_tail d' ≡ transmit_tail d
    → send_accesses d' frame ≡ send_accesses d frame
sends-same d d' frame counts tail =
    let at : Counts → ℕ → List Access = λ layout slot.
    Stores (transmit_buffer layout slot) frame ∷ Stores (transmit_slot layout slot)
    (whole_descriptor (transmit_buffer layout slot) (length frame)) ∷ Writes 0x3818 ((slot + 1) % layout.tx) ∷ [] in
    ap (λ (layout : Counts). at layout (transmit_tail d')) counts ∙ ap (at d.layout) tail

-- After slots were freed, the frame was sent: `Sends` holds for Ok.
pub frees-and-sends : {B : Type 0} (bus : Ghosts B)
    → ((a b c : B) (first later : Past) → bus.happened a b first → bus.happened b c later → bus.happened a c (joined first later))
    → (a b c : Moment B) (frame : List ℕ) → b.driver ≡ with_transmit_slots a.driver b.driver.oldest_transmit b.driver.sending
    → transmit_tail b.driver ≡ transmit_tail a.driver
    → c.driver ≡ with_transmit_slots b.driver b.driver.oldest_transmit (b.driver.sending + 1) → Reclaims bus a b
    → Ran bus true (sent_now b.driver frame) b c
    → Sends bus frame (Ok tt) a c
frees-and-sends bus joins a b c frame others tail more reclaims sends =
    let counts : b.driver.layout ≡ a.driver.layout = ap (λ (d : DriverState). d.layout) others in
    let xs = loads_to_free a.driver b.driver.sending in
    let count : c.driver.sending ≡ b.driver.sending + 1 = ap (λ (d : DriverState). d.sending) more in
    let left : b.driver.sending ≡ c.driver.sending - 1 = omega (arith, count) in
    let same : xs ++ send_accesses b.driver frame ≡ accesses_by (Ok tt) a.driver c.driver frame =
    ap (λ (list : List Access). xs ++ list) (sends-same a.driver b.driver frame counts tail)
    ∙ ap (λ (k : ℕ). loads_to_free a.driver k ++ send_accesses a.driver frame) left in
    record {
      ran = subst (λ (accesses : List Access). Ran bus true (record (sent_now a.driver frame) { accesses = accesses }) a c) same
          (ran-on bus joins reclaims.ran sends);
      answer = record {
        freed = omega (arith, reclaims.ran.goes.flows.frees, ap length reclaims.none, count);
        some = omega (arith, count);
      };
      frees_first = record { freed = b; slots = others; tail = tail; reclaims = reclaims; more = more; sends = sends };
    }
