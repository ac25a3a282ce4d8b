-- The words of an EEPROM, read in order.
use Rattle.std.proofs.Common.{◌≡◌, ◌≢◌, ◌+◌, ◌<◌, ◌≤◌, ◌∙◌}
use Rattle.std.proofs.Common.{true, ℕ, List, Result, Err, IsErr, Ok, length, nat_lt, set, slice_index, refl, sym, ap, arith, rules}
use Rattle.std.proofs.Common.{below_more, get_or-set_other, get_or-set_same}
use Rattle.std.proofs.lemmas.Bool.{false≢true}
use Rattle.std.proofs.lemmas.Grind.{same_number_lists}
use Rattle.eeprom.specs.Image.{word_at}
use Rattle.adapter.specs.Pasts.{nothing}
use Rattle.adapter.specs.bus_types.bus.Bus.{Ghosts}
use Rattle.bring_up.specs.EepromReading.{ReadsImage, ReadsWord}
use Rattle.bring_up.specs.SettingSteps.{WritesOneRegister}
use Rattle.bring_up.specs.declared.init_error.InitError.{InitError}
use Rattle.bring_up.proofs.CountedSteps.{AsksAtLeast, asks-image, asks-more}
use Rattle.bring_up.proofs.Steps.{IntervalsJoin, asks-join, asks-nothing}

word-in : (image : List ℕ) (address : ℕ) → address < 64 → word_at image address ≡ slice_index image address
word-in image address small = let below : nat_lt address 64 ≡ true = search rules in rw below refl

module _ {B : Type 0} (bus : Ghosts B) where
  -- The first `count` words were read, and are those of the adapter's EEPROM.
  pub record FirstWords (start now : B) (words : List ℕ) (count : ℕ) : Type 0 where
    pub asks : WritesOneRegister bus 0x0014 start now
    pub same : (k : ℕ) → k < count → slice_index words k ≡ word_at (bus.world start).adapter.image k
    pub size : 0 < count → length (bus.world start).adapter.image ≡ 64

  pub first-none : ((b : B) → bus.happened b b nothing) → (b : B) (words : List ℕ) → FirstWords b b words 0
  first-none stays b words = record {
    asks = asks-nothing bus stays b 0x0014;
    same = λ k below. absurd (omega arith);
    size = λ below. absurd (omega arith);
  }

  pub first-more : IntervalsJoin bus → (start now next : B) (words : List ℕ) (count word : ℕ) → count < length words
      → FirstWords start now words count → ReadsWord bus count (Ok word) now next
      → FirstWords start next (set words count word) (count + 1)
  first-more joins start now next words count word within first reads =
      let image : List ℕ = (bus.world start).adapter.image in
      let same : (bus.world now).adapter.image ≡ image = asks-image bus start now 0x0014 first.asks in
      record {
        asks = asks-join bus joins start now next 0x0014 first.asks reads.asks;
        same =
            below_more (λ k. slice_index (set words count word) k ≡ word_at image k) count
            (λ k below. let other : k ≢ count = omega arith in rw get_or-set_other (first.same k below))
            (get_or-set_same words count word 0 within ∙ reads.word ∙ ap (λ (list : List ℕ). word_at list count) same);
        size = λ some. ap (length {A = ℕ}) (sym same) ∙ reads.size;
      }

  pub all-read : (start now : B) (words image : List ℕ) (count : ℕ) → 64 ≤ count → image ≡ words → length image ≡ 64
      → FirstWords start now words count → ReadsImage bus (Ok image) start now
  all-read start now words image count many is size first =
      let known : List ℕ = (bus.world start).adapter.image in
      let sized : length known ≡ 64 = first.size (omega arith) in
      let long : length image ≡ length known = size ∙ sym sized in
      record {
        asks = first.asks;
        image = same_number_lists image known long (λ k below.
            let small : k < 64 = omega arith in
            let early : k < count = omega arith in
            ap (λ (list : List ℕ). slice_index list k) is ∙ first.same k early ∙ word-in known k small);
        in_vain = tt;
      }

  pub read-failed : IntervalsJoin bus → (start now next : B) (words : List ℕ) (count : ℕ) (error : InitError)
      → (result : Result (List ℕ) InitError) → IsErr result → FirstWords start now words count
      → ReadsWord bus count (Err error) now next → ReadsImage bus result start next
  read-failed joins start now next words count error (Ok image) fails first reads = absurd (false≢true fails)
  read-failed joins start now next words count error (Err other) fails first reads =
      let none : AsksAtLeast bus start now 0x0014 0 = record { asks = first.asks; count_is = omega arith } in
      let many : AsksAtLeast bus now next 0x0014 1000 = record { asks = reads.asks; count_is = reads.in_vain } in
      let all : AsksAtLeast bus start next 0x0014 (0 + 1000) =
      asks-more bus joins start now next 0x0014 0 1000 none many in
      record {
        asks = all.asks;
        image = tt;
        in_vain = let counted : 0 + 1000 ≤ length all.asks.past.accesses = all.count_is in omega (arith, counted);
      }
