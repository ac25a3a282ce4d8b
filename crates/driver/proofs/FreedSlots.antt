-- Transmit slots are freed over a bus, each after one load of its descriptor.
use Rattle.std.proofs.Common.{Bool, true, false, ◌≡◌, ◌≤◌, ◌<◌, ◌+◌, ◌-◌, ◌%◌, ◌++◌, ◌∷◌, [], ℕ, zero, suc, List, min, slice_index}
use Rattle.std.proofs.Common.{map, refl}
use Rattle.std.proofs.Common.{sym, ap, subst, ◌∙◌, arith}
use Rattle.std.proofs.lemmas.List.{map-append}
use Rattle.registers.specs.Bits.{is_set}
use Rattle.dma_memory.specs.HostMemory.{bytes_at}
use Rattle.dma_memory.specs.Layout.{Counts}
use Rattle.descriptors.specs.Ring.{slots_from}
use Rattle.descriptors.specs.RingLaws.{next-below, place}
use Rattle.adapter.specs.Slots.{written_back_slots}
use Rattle.adapter.specs.Law.{Acts}
use Rattle.adapter.specs.Pasts.{Past, joined, nothing}
use Rattle.adapter.specs.Keeping.{Keeps, view_of}
use Rattle.adapter.specs.bus_types.bus.Bus.{Ghosts}
use Rattle.adapter.specs.bus_types.event.Access.{Access}
use Rattle.adapter.specs.bus_types.event.Access.TheVariants.{Loads}
use Rattle.adapter.proofs.DriverAccesses.{ran_by-stays}
use Rattle.adapter.proofs.Calls.{ran-on, ready-on}
use Rattle.adapter.proofs.Places.{place-next}
use Rattle.adapter.proofs.DriverAccesses.{RanWith}
use Rattle.adapter.proofs.TransmitRuns.{run-frees, run-waits}
use Rattle.adapter.specs.DriverState.{DriverState, holding, transmit_slot, transmit_tail}
use Rattle.adapter.specs.Calls.{Moment, Ran, WhereUp, at, held_at, only, transmit_loads}
use Rattle.adapter.specs.ReadyDrivers.{Ready}
use Rattle.adapter.specs.TransmitSteps.{with_freed}
use Rattle.driver.specs.InsideDriver.{IsSending}
use Rattle.driver.specs.SendSteps.{FreesOldest, LooksBack, Reclaims, oldest_loads, slots_looked_at, with_transmit_slots}

-- The loads of descriptors, and how they join

loads-none : (d : DriverState) → d.sending ≡ 0 → transmit_loads d.layout d.oldest_transmit (min d.sending 1) ≡ []
loads-none d none = let zero_loads : min d.sending 1 ≡ 0 = omega (arith, none) in ap (transmit_loads d.layout d.oldest_transmit) zero_loads

loads-one : (d : DriverState) → 0 < d.sending
    → transmit_loads d.layout d.oldest_transmit (min d.sending 1) ≡ Loads (transmit_slot d.layout d.oldest_transmit) 16 ∷ []
loads-one d some = let one_load : min d.sending 1 ≡ suc zero =
    omega (arith, some) in ap (transmit_loads d.layout d.oldest_transmit) one_load

slots-join : (n from i j : ℕ) → slots_from n from (i + j) ≡ slots_from n from i ++ slots_from n (place n from i) j
slots-join n from zero j = let none : 0 + j ≡ j = omega arith in ap (slots_from n from) none
slots-join n from (suc i) j =
    let more : suc i + j ≡ suc (i + j) = omega arith in
    ap (slots_from n from) more ∙ ap (λ (slots : List ℕ). from ∷ slots) (slots-join n ((from + 1) % n) i j)

pub loads-join : (counts : Counts) (from i j : ℕ)
    → transmit_loads counts from i ++ transmit_loads counts (place counts.tx from i) j ≡ transmit_loads counts from (i + j)
loads-join counts from i j =
    let load : ℕ → Access = λ slot. Loads (transmit_slot counts slot) 16 in
    sym (ap (map load) (slots-join counts.tx from i j)
    ∙ map-append load (slots_from counts.tx from i) (slots_from counts.tx (place counts.tx from i) j))

-- The oldest slot is freed, or isn't written back

pub tail-freed : (n oldest sending : ℕ) → 0 < sending → place n ((oldest + 1) % n) (sending - 1) ≡ place n oldest sending
tail-freed n oldest sending some = let more : sending ≡ suc (sending - 1) = omega (arith, some) in sym (ap (place n oldest) more)

pub sending-freed : (counts : Counts) (oldest next sending : ℕ) → 0 < sending → IsSending counts oldest next sending
    → IsSending counts ((oldest + 1) % counts.tx) next (sending - 1)
sending-freed counts oldest next sending some sends = record {
  oldest_slot = next-below counts.tx oldest sends.oldest_slot;
  room = omega (arith, sends.room);
  next_slot = sends.next_slot ∙ sym (tail-freed counts.tx oldest sending some);
}

pub frees-none : {B : Type 0} (bus : Ghosts B) → ((b : B) → bus.happened b b nothing)
    → (b : B) (d : DriverState) → d.sending ≡ 0 → Ready d (bus.world b)
    → Ran bus true (only (transmit_loads d.layout d.oldest_transmit (min d.sending 1))) (at b d) (at b d)
frees-none bus stays b d none ready =
    subst (λ (accesses : List Access). Ran bus true (only accesses) (at b d) (at b d)) (sym (loads-none d none))
    (ran_by-stays bus stays b d ready)

-- One load of 16 bytes at this address returned `bytes`.
abbrev pub LoadsAt : {B : Type 0} (bus : Ghosts B) (old new : B) (bytes : List ℕ) (address : ℕ) → Type 0
LoadsAt bus old new bytes address =
    Acts (view_of bus) old new (Loads address 16)
    (λ before after. (bytes ≡ bytes_at before.memory address 16) × (after ≡ before))

-- If the load shows DD, the oldest slot can be freed.
pub frees-oldest : {B : Type 0} (bus : Ghosts B) (old new : B) (d : DriverState) (address : ℕ) (bytes : List ℕ)
    → address ≡ transmit_slot d.layout d.oldest_transmit → 0 < d.sending → is_set (slice_index bytes 12) 0 ≡ true
    → LoadsAt bus old new bytes address
    → Ready d (bus.world old)
    → Ran bus true (only (transmit_loads d.layout d.oldest_transmit (min d.sending 1))) (at old d) (at new (with_freed d))
frees-oldest bus old new d address bytes address_is some done acts ready =
    subst (λ (accesses : List Access). Ran bus true (only accesses) (at old d) (at new (with_freed d))) (sym (loads-one d some))
    (run-frees bus old new d bytes some done (subst (LoadsAt bus old new bytes) address_is acts) ready)

-- If the load doesn't show DD, no slot is written back.
pub waits-oldest : {B : Type 0} (bus : Ghosts B) (old new : B) (d : DriverState) (address : ℕ) (bytes : List ℕ)
    → address ≡ transmit_slot d.layout d.oldest_transmit → 0 < d.sending → is_set (slice_index bytes 12) 0 ≡ false
    → LoadsAt bus old new bytes address
    → Ready d (bus.world old)
    → RanWith bus true (only (transmit_loads d.layout d.oldest_transmit (min d.sending 1))) (at old d) (at new d)
    (λ after. written_back_slots d.oldest_transmit after ≡ [])
waits-oldest bus old new d address bytes address_is some clear acts ready =
    subst (λ (accesses : List Access). RanWith bus true (only accesses) (at old d) (at new d)
    (λ after. written_back_slots d.oldest_transmit after ≡ [])) (sym (loads-one d some))
    (run-waits bus old new d bytes clear (subst (LoadsAt bus old new bytes) address_is acts) ready)

-- The loads for k freed slots, and then the load for the oldest remaining slot, are `total` loads from the oldest slot on.
frees-more : {B : Type 0} (bus : Ghosts B)
    → ((a b c : B) (first later : Past) → bus.happened a b first → bus.happened b c later → bus.happened a c (joined first later))
    → (a b c : Moment B) (k total : ℕ) → b.driver.layout ≡ a.driver.layout
    → b.driver.oldest_transmit ≡ place a.driver.layout.tx a.driver.oldest_transmit k → k + min b.driver.sending 1 ≡ total
    → Ran bus true (only (oldest_loads a.driver k)) a b → Ran bus true (only (oldest_loads b.driver (min b.driver.sending 1))) b c
    → Ran bus true (only (oldest_loads a.driver total)) a c
frees-more bus joins a b c k total counts walked sum one two =
    let d1 = a.driver in
    let d2 = b.driver in
    let xs = oldest_loads d1 k in
    let same : xs ++ oldest_loads d2 (min d2.sending 1) ≡ oldest_loads d1 total =
    ap (λ (other : Counts). xs ++ transmit_loads other d2.oldest_transmit (min d2.sending 1)) counts
    ∙ ap (λ (slot : ℕ). xs ++ transmit_loads d1.layout slot (min d2.sending 1)) walked
    ∙ loads-join d1.layout d1.oldest_transmit k (min d2.sending 1)
    ∙ ap (oldest_loads d1) sum in
    subst (λ (accesses : List Access). Ran bus true (only accesses) a c) same (ran-on bus joins one two)

-- d' is d after any number of its oldest slots were freed. The place after the outstanding slots doesn't change.
pub record IsFreeing (d d' : DriverState) : Type 0 where
  pub others : d' ≡ with_transmit_slots d d'.oldest_transmit d'.sending
  pub fewer : d'.sending ≤ d.sending
  pub walked : d'.oldest_transmit ≡ place d.layout.tx d.oldest_transmit (d.sending - d'.sending)
  pub tail : transmit_tail d' ≡ transmit_tail d

freeing-none : (d : DriverState) → IsFreeing d d
freeing-none d =
    let none : d.sending - d.sending ≡ 0 = omega arith in
    record { others = refl; fewer = omega arith; walked = sym (ap (place d.layout.tx d.oldest_transmit) none); tail = refl }

freeing-more : (d1 d2 d3 : DriverState) → IsFreeing d1 d2 → 0 < d2.sending → d3 ≡ with_freed d2 → IsFreeing d1 d3
freeing-more d1 d2 d3 freeing some freed =
    let n = d1.layout.tx in
    let next = (d2.oldest_transmit + 1) % d2.layout.tx in
    let left = d2.sending - 1 in
    let sending : d3.sending ≡ left = ap (λ (d : DriverState). d.sending) freed in
    let counts : d2.layout ≡ d1.layout = ap (λ (d : DriverState). d.layout) freeing.others in
    let more : d1.sending - d2.sending + 1 ≡ d1.sending - d3.sending = omega (arith, freeing.fewer, some, sending) in
    record {
      others = freed ∙ ap (λ (d : DriverState). with_transmit_slots d next left) freeing.others
          ∙ ap (λ (d : DriverState). with_transmit_slots d1 d.oldest_transmit d.sending) (sym freed);
      fewer = omega (arith, freeing.fewer, sending);
      walked =
          ap (λ (d : DriverState). d.oldest_transmit) freed
          ∙ ap (λ (other : Counts). (d2.oldest_transmit + 1) % other.tx) counts
          ∙ ap (λ (slot : ℕ). (slot + 1) % n) freeing.walked
          ∙ sym (place-next n d1.oldest_transmit (d1.sending - d2.sending))
          ∙ ap (place n d1.oldest_transmit) more;
      tail = ap transmit_tail freed ∙ tail-freed d2.layout.tx d2.oldest_transmit d2.sending some ∙ freeing.tail;
    }

-- Any number of slots were freed. If the bus obeys the law and the driver is ready with its transmit side set up, the accesses were one
-- load per freed slot.
pub record HasFreed {B : Type 0} (bus : Ghosts B) (old new : Moment B) : Type 0 where
  pub freeing : IsFreeing old.driver new.driver
  pub ran : WhereUp bus old new (Ran bus true (only (oldest_loads old.driver (old.driver.sending - new.driver.sending))))

pub has_freed-none : {B : Type 0} (bus : Ghosts B) → ((b : B) → bus.happened b b nothing) → (now : Moment B) → HasFreed bus now now
has_freed-none bus stays now =
    let d = now.driver in
    let none : d.sending - d.sending ≡ 0 = omega arith in
    record {
      freeing = freeing-none d;
      ran = λ held is.
          subst (λ (k : ℕ). Ran bus true (only (oldest_loads d k)) (held_at held now) (held_at held now)) (sym none)
          (ran_by-stays bus stays now.bus (holding held d) is.ready);
    }

-- After one more iteration, the accesses so far are `total` loads from the oldest slot on.
frees-turn : {B : Type 0} (bus : Ghosts B)
    → ((a b c : B) (first later : Past) → bus.happened a b first → bus.happened b c later → bus.happened a c (joined first later))
    → (a b c : Moment B) (total : ℕ) (freed : Bool) → Keeps bus a.bus b.bus → HasFreed bus a b → WhereUp bus b c (LooksBack bus freed)
    → a.driver.sending - b.driver.sending + min b.driver.sending 1 ≡ total
    → WhereUp bus a c (Ran bus true (only (oldest_loads a.driver total)))
frees-turn bus joins a b c total found keeps freed turn sum held is =
    let before = freed.ran held is in
    frees-more bus joins (held_at held a) (held_at held b) (held_at held c) (a.driver.sending - b.driver.sending) total
    (ap (λ (d : DriverState). d.layout) freed.freeing.others) freed.freeing.walked sum before
    (turn held (ready-on bus _ _ keeps is before)).ran

pub has_freed-more : {B : Type 0} (bus : Ghosts B)
    → ((a b c : B) (first later : Past) → bus.happened a b first → bus.happened b c later → bus.happened a c (joined first later))
    → (a b c : Moment B) → Keeps bus a.bus b.bus → HasFreed bus a b → WhereUp bus b c (LooksBack bus true)
    → FreesOldest b.driver c.driver → HasFreed bus a c
has_freed-more bus joins a b c keeps freed turn frees =
    let left = ap (λ (d : DriverState). d.sending) frees.freed in
    record {
      freeing = freeing-more a.driver b.driver c.driver freed.freeing frees.some frees.freed;
      ran = frees-turn bus joins a b c (a.driver.sending - c.driver.sending) true keeps freed turn
          (omega (arith, freed.freeing.fewer, left, frees.some));
    }

-- After an iteration that frees no slot, no outstanding slot is written back.
pub has_freed-all : {B : Type 0} (bus : Ghosts B)
    → ((a b c : B) (first later : Past) → bus.happened a b first → bus.happened b c later → bus.happened a c (joined first later))
    → (a b c : Moment B) → Keeps bus a.bus b.bus → HasFreed bus a b → WhereUp bus b c (LooksBack bus false) → c.driver ≡ b.driver
    → WhereUp bus a c (Reclaims bus)
has_freed-all bus joins a b c keeps freed turn still held is =
    let left = ap (λ (d : DriverState). d.sending) still in
    record {
      ran = frees-turn bus joins a b c (slots_looked_at a.driver.sending c.driver.sending) false keeps freed turn
          (omega (arith, left)) held is;
      none = (turn held (ready-on bus _ _ keeps is (freed.ran held is))).none;
    }

-- The oldest slots were freed, until no outstanding slot was written back.
pub record HasReclaimed {B : Type 0} (bus : Ghosts B) (old new : Moment B) : Type 0 where
  pub keeps : Keeps bus old.bus new.bus
  pub others : new.driver ≡ with_transmit_slots old.driver new.driver.oldest_transmit new.driver.sending
  pub tail : transmit_tail new.driver ≡ transmit_tail old.driver
  pub reclaims : WhereUp bus old new (Reclaims bus)

pub has-reclaimed : {B : Type 0} (bus : Ghosts B)
    → ((a b c : B) (first later : Past) → bus.happened a b first → bus.happened b c later → bus.happened a c (joined first later))
    → (a b c : Moment B) → Keeps bus a.bus b.bus → HasFreed bus a b → Keeps bus a.bus c.bus → WhereUp bus b c (LooksBack bus false)
    → c.driver ≡ b.driver → HasReclaimed bus a c
has-reclaimed bus joins a b c keeps freed all turn still =
    let slots : DriverState → Type 0 = λ d. d ≡ with_transmit_slots a.driver d.oldest_transmit d.sending in
    record {
      keeps = all;
      others = subst slots (sym still) freed.freeing.others;
      tail = ap transmit_tail still ∙ freed.freeing.tail;
      reclaims = has_freed-all bus joins a b c keeps freed turn still;
    }
