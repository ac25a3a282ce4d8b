-- How a driver sends a frame.
use Rattle.std.specs.Prelude.{⊤, Bool, ◌≡◌, ◌≤◌, ◌<◌, ◌+◌, ◌-◌, ◌++◌, ◌∷◌, ℕ, true, List, [], Result, Ok, Err, length, min}
use Rattle.std.specs.Bool.{OnFalse}
use Rattle.descriptors.specs.Frames.{padded}
use Rattle.adapter.specs.Slots.{written_back_slots}
use Rattle.adapter.specs.bus_types.bus.Bus.{Ghosts}
use Rattle.adapter.specs.bus_types.event.Access.{Access}
use Rattle.adapter.specs.DriverState.{DriverState, transmit_tail}
use Rattle.adapter.specs.Calls.{Did, Moment, Ran, WhereUp, call_did, only, send_accesses, transmit_loads}
use Rattle.adapter.specs.TransmitSteps.{with_freed}
use Rattle.driver.specs.declared.transmit.SendError.{SendError}
use Rattle.driver.specs.declared.transmit.SendError.TheVariants.{TooShort, TooLong, RingFull}

-- the offset of the status in a transmit descriptor, in bytes ("3.3.3 Legacy Transmit Descriptor Format")
abbrev pub sent_status_offset : ℕ
sent_status_offset = 12

-- the driver with other outstanding transmit slots: the place of the oldest, and their number
abbrev pub with_transmit_slots : DriverState → (oldest sending : ℕ) → DriverState
with_transmit_slots d oldest sending = record d { oldest_transmit = oldest; sending = sending }

-- the loads of the descriptors of k transmit slots, from the oldest on
abbrev pub oldest_loads : DriverState → ℕ → List Access
oldest_loads d k = transmit_loads d.layout d.oldest_transmit k

-- At least one transmit slot was outstanding, and the oldest was freed.
pub record FreesOldest (d d' : DriverState) : Type 0 where
  pub some : 0 < d.sending
  pub freed : d' ≡ with_freed d

-- If any slot was outstanding, the only access is one load of the oldest slot's descriptor; otherwise there is no access. If no slot was
-- freed, no outstanding slot is written back at the end.
pub record LooksBack {B : Type 0} (bus : Ghosts B) (freed : Bool) (old new : Moment B) : Type 0 where
  pub ran : Ran bus true (only (oldest_loads old.driver (min old.driver.sending 1))) old new
  pub none : OnFalse freed (written_back_slots new.driver.oldest_transmit (bus.world new.bus) ≡ [])

-- the number of descriptors that are loaded: one for each slot that is freed, and one more if any slot is left
abbrev pub slots_looked_at : (outstanding left : ℕ) → ℕ
slots_looked_at outstanding left = outstanding - left + min left 1

-- the loads by which slots are freed, if `left` slots remain outstanding
abbrev pub loads_to_free : DriverState → (left : ℕ) → List Access
loads_to_free d left = oldest_loads d (slots_looked_at d.sending left)

-- Any number of the oldest slots were freed. The accesses are one load of the descriptor of each freed slot, and one of the
-- oldest remaining slot if any slot is left. After these loads, no outstanding slot is written back.
pub record Reclaims {B : Type 0} (bus : Ghosts B) (old new : Moment B) : Type 0 where
  pub ran : Ran bus true (only (loads_to_free old.driver new.driver.sending)) old new
  pub none : written_back_slots new.driver.oldest_transmit (bus.world new.bus) ≡ []

-- the result of `transmit`: Ok, or the reason why the frame wasn't accepted
abbrev pub SendAnswer : Type 0
SendAnswer = Result (Unit {0}) SendError

-- The frames accepted for sending, by the result: the padded frame for Ok, no frame for an error.
abbrev pub accepted_by : SendAnswer → List ℕ → List (List ℕ)
accepted_by (Ok u) frame = padded frame ∷ []
accepted_by (Err error) frame = []

-- The accesses, by the result: d is the driver before the call, and d' the driver after it. For Ok, d' counts the
-- frame's slot, too, so d'.sending - 1 slots are outstanding after the loads. The frame is sent by `send_accesses` of
-- d, because freeing slots doesn't move the tail.
abbrev pub accesses_by : SendAnswer → (d d' : DriverState) → List ℕ → List Access
accesses_by (Ok u) d d' frame = loads_to_free d (d'.sending - 1) ++ send_accesses d frame
accesses_by (Err TooShort) d d' frame = []
accesses_by (Err TooLong) d d' frame = []
accesses_by (Err RingFull) d d' frame = loads_to_free d d'.sending

-- All transmit slots except one are outstanding, and no slot is written back. So no slot can be freed.
abbrev pub IsFull : {B : Type 0} → Ghosts B → Moment B → Type 0
IsFull bus now = (now.driver.sending + 1 ≡ now.driver.layout.tx) × (written_back_slots now.driver.oldest_transmit (bus.world now.bus) ≡ [])

-- The frame was accepted: the slots that were written back were freed, and the frame's slot is outstanding.
pub record AcceptsForSending {B : Type 0} (bus : Ghosts B) (old new : Moment B) : Type 0 where
  -- At least the slots that were written back before the call were freed. The + 1 is the frame's own slot.
  pub freed : length (written_back_slots old.driver.oldest_transmit (bus.world old.bus)) + new.driver.sending ≤ old.driver.sending + 1
  -- At least one slot is outstanding.
  pub some : 0 < new.driver.sending

-- The ring was full before the call, and is full after it. The driver doesn't change.
pub record StaysFull {B : Type 0} (bus : Ghosts B) (old new : Moment B) : Type 0 where
  pub at_entry : IsFull bus old
  pub at_return : IsFull bus new
  pub same : new.driver ≡ old.driver

-- What the result of `transmit` means for the ring; nothing is stated for TooShort and TooLong.
abbrev pub IsTransmitAnswer : {B : Type 0} → Ghosts B → SendAnswer → (old new : Moment B) → Type 0
IsTransmitAnswer bus (Ok u) old new = AcceptsForSending bus old new
IsTransmitAnswer bus (Err TooShort) old new = ⊤
IsTransmitAnswer bus (Err TooLong) old new = ⊤
IsTransmitAnswer bus (Err RingFull) old new = StaysFull bus old new

-- The result is the error TooShort or TooLong. The contract of `transmit` states for which frames (`too_short`,
-- `too_long`).
abbrev pub HasWrongLength : SendAnswer → Type 0
HasWrongLength (Err TooShort) = ⊤
HasWrongLength (Err TooLong) = ⊤
HasWrongLength answer = ⊥

-- What sends a frame in the slot at the tail: `send_accesses`, by which the padded frame is accepted.
abbrev pub sent_now : DriverState → List ℕ → Did
sent_now d frame = call_did (send_accesses d frame) [] (padded frame ∷ [])

-- What `transmit` does, by its result: the accesses, and the frames accepted.
abbrev pub sent_by : SendAnswer → (d d' : DriverState) → List ℕ → Did
sent_by result d d' frame = call_did (accesses_by result d d' frame) [] (accepted_by result frame)

-- Slots were freed, and then the frame was sent. `freed` is the moment after the slots were freed.
pub record FreesThenSends {B : Type 0} (bus : Ghosts B) (frame : List ℕ) (old new : Moment B) : Type 0 where
  pub freed : Moment B
  -- Freeing changes only which transmit slots are outstanding, and the tail doesn't move.
  pub slots : freed.driver ≡ with_transmit_slots old.driver freed.driver.oldest_transmit freed.driver.sending
  pub tail : transmit_tail freed.driver ≡ transmit_tail old.driver
  pub reclaims : Reclaims bus old freed
  -- Sending adds one outstanding slot, the slot at the tail.
  pub more : new.driver ≡ with_transmit_slots freed.driver freed.driver.oldest_transmit (freed.driver.sending + 1)
  pub sends : Ran bus true (sent_now freed.driver frame) freed new

-- First, slots were freed until no outstanding slot was written back. Then, for Ok, the frame was sent. Nothing is stated for
-- TooShort and TooLong.
abbrev pub FreesFirst : {B : Type 0} → Ghosts B → List ℕ → SendAnswer → (old new : Moment B) → Type 0
FreesFirst bus frame (Ok u) old new = FreesThenSends bus frame old new
FreesFirst bus frame (Err TooShort) old new = ⊤
FreesFirst bus frame (Err TooLong) old new = ⊤
FreesFirst bus frame (Err RingFull) old new = Reclaims bus old new

-- The contract of `transmit` for a driver that is ready with its transmit side set up. For Ok, `ran` and `answer`
-- follow from `frees_first`. For RingFull, `frees_first` follows from `ran` and `answer`.
pub record Sends {B : Type 0} (bus : Ghosts B) (frame : List ℕ) (result : SendAnswer) (old new : Moment B) : Type 0 where
  pub ran : Ran bus true (sent_by result old.driver new.driver frame) old new
  pub answer : IsTransmitAnswer bus result old new
  pub frees_first : FreesFirst bus frame result old new

-- `Sends` holds if the bus obeys the law and the driver is ready with its transmit side set up.
abbrev pub Transmits : {B : Type 0} → Ghosts B → List ℕ → SendAnswer → (old new : Moment B) → Type 0
Transmits bus frame result old new = WhereUp bus old new (Sends bus frame result)
