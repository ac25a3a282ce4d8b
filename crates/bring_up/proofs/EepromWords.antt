-- EERD while a driver reads a word.
use Rattle.std.proofs.Common.{◌≡◌, ◌≢◌, ◌⊎◌, ◌+◌, ◌*◌, ◌/◌, ◌%◌, ◌^◌, ◌<◌, ◌≤◌, ◌∙◌}
use Rattle.std.proofs.Common.{zero, suc, ℕ, List, Option, Some, Ok, Err, length, bit_and, bit_or, inl, inr, refl, sym, ap, subst, arith}
use Rattle.std.specs.Fn.{iterate}
use Rattle.std.proofs.lemmas.Nat.{or_shifted}
use Rattle.std.proofs.lemmas.Nat.Bits.{and_pow}
use Rattle.eeprom.specs.declared.eerd.ReadState.{ReadState}
use Rattle.eeprom.specs.declared.eerd.ReadState.TheVariants.{Done, Pending}
use Rattle.eeprom.specs.Eerd as eeprom
use Rattle.eeprom.specs.Eerd.{after_tick, shown, shown_after, shown_before}
use Rattle.eeprom.specs.Image.{word_at}
use Rattle.adapter.specs.Registers.{after_read, after_write, answer_at, answer_of, left_by_read, left_by_write}
use Rattle.adapter.specs.State.{AdapterState}
use Rattle.adapter.specs.Table.{register_at}
use Rattle.adapter.specs.TableLaws.{register_at-there}
use Rattle.adapter.specs.World.{World, world_after_read, world_after_write}
use Rattle.adapter.specs.model_types.register.Register.{Register}
use Rattle.adapter.specs.model_types.register.Register.TheVariants.{Eerd}
use Rattle.adapter.specs.Keeping.{view_of}
use Rattle.adapter.specs.Law.{Acts}
use Rattle.adapter.specs.bus_types.bus.Bus.{Ghosts}
use Rattle.adapter.specs.bus_types.event.Access.TheVariants.{Reads, Writes}
use Rattle.adapter.specs.AdaptersAtRest.{IsElsewhere}
use Rattle.adapter.specs.Settings.{settings_of}
use Rattle.bring_up.specs.EepromReading.{ReadsWord}
use Rattle.bring_up.specs.declared.init_error.InitError.TheVariants.{EepromTimeout}
use Rattle.bring_up.proofs.CountedSteps.{AsksAtLeast, asks-image, asks-more, asks-read, asks-write}
use Rattle.bring_up.proofs.Steps.{IntervalsJoin}

-- EERD after ticks

abbrev pub after_ticks : List ℕ → ℕ → ReadState → ReadState
after_ticks image ticks state = iterate (after_tick image) ticks state

-- EERD after the word at this address was read
abbrev pub state_read : List ℕ → ℕ → ReadState
state_read image address = Done address (word_at image address)

-- A read of the word at this address was requested: the read is pending, or done.
abbrev pub IsAsked : List ℕ → ℕ → ReadState → Type 0
IsAsked image address state = (state ≡ Pending address) ⊎ (state ≡ state_read image address)

stays-done : (image : List ℕ) (address word ticks : ℕ) → after_ticks image ticks (Done address word) ≡ Done address word
stays-done image address word zero = refl
stays-done image address word (suc ticks) = stays-done image address word ticks

ends-pending : (image : List ℕ) (address ticks : ℕ) → 1 ≤ ticks → after_ticks image ticks (Pending address) ≡ state_read image address
ends-pending image address zero one = absurd (omega arith)
ends-pending image address (suc ticks) one = stays-done image address (word_at image address) ticks

ticked-read : (image : List ℕ) (address ticks : ℕ) (state : ReadState) → 1 ≤ ticks → IsAsked image address state
    → after_ticks image ticks state ≡ state_read image address
ticked-read image address ticks state one (inl pending) = ap (after_ticks image ticks) pending ∙ ends-pending image address ticks one
ticked-read image address ticks state one (inr done) =
    ap (after_ticks image ticks) done ∙ stays-done image address (word_at image address) ticks

still-asked : (image : List ℕ) (address ticks : ℕ) (state : ReadState) → IsAsked image address state
    → IsAsked image address (after_ticks image ticks state)
still-asked image address zero state asked = asked
still-asked image address (suc ticks) state asked =
    let one : 1 ≤ suc ticks = omega arith in
    inr (ticked-read image address (suc ticks) state one asked)

-- What a read of EERD shows

-- The value read from EERD shows the word at this address, or only the address.
abbrev pub IsShown : List ℕ → ℕ → ℕ → Type 0
IsShown image address value = (value ≡ shown_before address) ⊎ (value ≡ shown_after address (word_at image address))

shows-asked : (image : List ℕ) (address : ℕ) (state : ReadState) → IsAsked image address state → IsShown image address (shown state)
shows-asked image address state (inl pending) = inl (ap shown pending)
shows-asked image address state (inr done) = inr (ap shown done)

not-done : (address : ℕ) → bit_and (shown_before address) 16 ≡ 0
not-done address =
    let even : address * 256 / 2 ^ 4 % 2 * 2 ^ 4 ≡ 0 = omega arith in
    and_pow (address * 256) 4 ∙ even

is-done : (address word : ℕ) → bit_and (shown_after address word) 16 ≡ 16
is-done address word =
    let odd : (word * 65536 + address * 256 + 16) / 2 ^ 4 % 2 * 2 ^ 4 ≡ 16 = omega arith in
    and_pow (word * 65536 + address * 256 + 16) 4 ∙ odd

done-shows : (image : List ℕ) (address value : ℕ) → bit_and value 16 ≢ 0 → IsShown image address value
    → value ≡ shown_after address (word_at image address)
done-shows image address value done (inl before) =
    absurd (done (ap (λ (v : ℕ). bit_and v 16) before ∙ not-done address))
done-shows image address value done (inr after) = after

data-is : (address word value : ℕ) → address < 256 → value < 2 ^ 32 → value ≡ shown_after address word → value / 65536 ≡ word
data-is address word value small fits shows = omega arith

-- EERD is at offset 0x0014.

at-eerd : register_at 0x0014 ≡ Some Eerd
at-eerd = register_at-there Eerd tt

read-leaves : (adapter : AdapterState) → after_read 0x0014 adapter ≡ adapter
read-leaves adapter = ap (λ (found : Option Register). left_by_read found adapter) at-eerd

answer-is : (adapter : AdapterState) → answer_at 0x0014 adapter ≡ shown adapter.eerd
answer-is adapter = ap (λ (found : Option Register). answer_of found adapter) at-eerd

write-changes : (value : ℕ) (adapter : AdapterState)
    → after_write 0x0014 value adapter ≡ record adapter { eerd = eeprom.eerd_after_write value adapter.eerd }
write-changes value adapter = ap (λ (found : Option Register). left_by_write found value adapter) at-eerd

start-asks : (address : ℕ) (state : ReadState) → address < 256 → eeprom.eerd_after_write (address * 256 + 1) state ≡ Pending address
start-asks address state small =
    let starts : (address * 256 + 1) % 2 ≡ 1 = omega arith in
    let whole : (address * 256 + 1) / 256 % 256 ≡ address = omega arith in
    rw (starts, whole) refl

pub start-with : (address given : ℕ) → given ≡ address → address < 256 → bit_or (given * 256 % 4294967296) 1 ≡ address * 256 + 1
start-with address given is small =
    let whole : given * 256 % 4294967296 ≡ address * 2 ^ 8 = omega arith in
    ap (λ (n : ℕ). bit_or n 1) whole ∙ or_shifted address 8 1 (omega arith)

-- The request and the reads of a word, over a bus

module _ {B : Type 0} (bus : Ghosts B) where
  -- A word was requested, in at least this number of accesses, and the adapter's EEPROM has 64 words.
  pub record Awaits (start now : B) (address count : ℕ) : Type 0 where
    pub asks : AsksAtLeast bus start now 0x0014 count
    pub size : length (bus.world start).adapter.image ≡ 64
    pub state : IsAsked (bus.world start).adapter.image address (bus.world now).adapter.eerd

  -- A read of EERD, after a request, returned `value`. Over a lively bus, `value` shows the word.
  pub record ReadTells (start now next : B) (address count value : ℕ) : Type 0 where
    pub awaits : Awaits start next address count
    pub shows : IsShown (bus.world start).adapter.image address value
    pub soon : bus.lively now → value ≡ shown_after address (word_at (bus.world start).adapter.image address)

  pub awaits-write : (old new : B) (address value : ℕ) → address < 256 → value ≡ address * 256 + 1
      → Acts (view_of bus) old new (Writes 0x0014 value) (λ before after. after ≡ world_after_write 0x0014 value before)
      → Awaits old new address 1
  awaits-write old new address value small is acts = record {
    asks =
        asks-write bus old new 0x0014 value
        (subst IsElsewhere (sym at-eerd) tt)
        (λ adapter. ap settings_of (write-changes value adapter))
        acts;
    size = ap (length {A = ℕ}) (sym acts.before.steady.image) ∙ acts.adapter.image;
    state = inl (
        ap (λ (w : World). w.adapter.eerd) acts.effect_is
        ∙ ap (λ (adapter : AdapterState). adapter.eerd) (write-changes value acts.middle.adapter)
        ∙ ap (λ (v : ℕ). eeprom.eerd_after_write v acts.middle.adapter.eerd) is
        ∙ start-asks address acts.middle.adapter.eerd small);
  }

  -- After a read of EERD, the word is still requested, and `ReadTells` holds for the value.
  pub awaits-read : IntervalsJoin bus → (start now next : B) (address count value : ℕ)
      → Awaits start now address count
      → Acts (view_of bus) now next (Reads 0x0014 value)
      (λ before after. (value ≡ answer_at 0x0014 before.adapter) × (after ≡ world_after_read 0x0014 before))
      → ReadTells start now next address (count + 1) value
  awaits-read joins start now next address count value awaits acts =
      let image : List ℕ = (bus.world start).adapter.image in
      let ticks : ℕ = acts.past.eeprom_ticks in
      let found : ReadState = (bus.world now).adapter.eerd in
      let state : ReadState = acts.middle.adapter.eerd in
      let same : (bus.world now).adapter.image ≡ image = asks-image bus start now 0x0014 awaits.asks.asks in
      let moved : state ≡ after_ticks image ticks found =
      subst (λ (words : List ℕ). state ≡ after_ticks words ticks found) same acts.before.steady.ticks.eerd in
      let answer : value ≡ shown state = acts.effect_is.0 ∙ answer-is acts.middle.adapter in
      let asked : IsAsked image address state =
      subst (IsAsked image address) (sym moved) (still-asked image address ticks found awaits.state) in
      let after : (bus.world next).adapter.eerd ≡ state =
      ap (λ (w : World). w.adapter.eerd) acts.effect_is.1
      ∙ ap (λ (adapter : AdapterState). adapter.eerd) (read-leaves acts.middle.adapter) in
      let read = asks-read bus now next 0x0014 0x0014 value _ acts in
      record {
        awaits = record {
          asks = asks-more bus joins start now next 0x0014 count 1 awaits.asks read;
          size = awaits.size;
          state = subst (IsAsked image address) (sym after) asked;
        };
        shows = subst (IsShown image address) (sym answer) (shows-asked image address state asked);
        soon = λ alive.
            let one : 1 ≤ ticks = (acts.ticks alive).eeprom in
            answer ∙ ap shown (moved ∙ ticked-read image address ticks found one awaits.state);
      }

  pub word-read : (start now next : B) (address count value : ℕ) → address < 256 → value < 2 ^ 32
      → bit_and value 16 ≢ 0 → ReadTells start now next address count value
      → ReadsWord bus address (Ok (value / 65536)) start next
  word-read start now next address count value small fits done tells =
      let image : List ℕ = (bus.world start).adapter.image in
      record {
        asks = tells.awaits.asks.asks;
        word = data-is address (word_at image address) value small fits (done-shows image address value done tells.shows);
        in_vain = tt;
        size = tells.awaits.size;
      }

  pub never-slow : (start now next : B) (address count value : ℕ) → bus.lively now → bit_and value 16 ≡ 0
      → ReadTells start now next address count value → ⊥
  never-slow start now next address count value alive none tells =
      let word : ℕ = word_at (bus.world start).adapter.image address in
      let set : bit_and value 16 ≡ 16 = ap (λ (v : ℕ). bit_and v 16) (tells.soon alive) ∙ is-done address word in
      omega arith

  pub gave-up : (start now : B) (address count : ℕ) → 1000 ≤ count → Awaits start now address count
      → ReadsWord bus address (Err EepromTimeout) start now
  gave-up start now address count many awaits = record {
    asks = awaits.asks.asks;
    word = tt;
    in_vain = let counted : count ≤ length awaits.asks.asks.past.accesses = awaits.asks.count_is in omega (arith, counted);
    size = awaits.size;
  }
