-- The settings after the writes of the filter's tables and addresses.
use Rattle.std.proofs.Common.{◌≡◌, ◌++◌, ◌∷◌, ◌+◌, ◌*◌, ◌%◌, ◌<◌, ◌≤◌, ◌^◌, [], ℕ, List, Option, Some, arith}
use Rattle.std.proofs.Common.{append_assoc, ap, bit_and, length, refl, replicate, slice_set, sym, ◌∙◌}
use Rattle.std.proofs.lemmas.List.{length-append}
use Rattle.std.proofs.lemmas.Nat.{and_block, and_mask}
use Rattle.std.proofs.Math.Seq.{set-append_seam}
use Rattle.rx_filter.specs.Addresses.{IsAddress, high_word, low_word}
use Rattle.rx_filter.specs.Registers.{FilterRegisters}
use Rattle.adapter.specs.model_types.register.Register.{Register}
use Rattle.adapter.specs.model_types.register.Register.TheVariants.{Mta, Vfta}
use Rattle.adapter.specs.Registers.{left_by_write}
use Rattle.adapter.specs.State.{AdapterState}
use Rattle.adapter.specs.Table.{array_register_at, register_at}
use Rattle.adapter.specs.TableLaws.{register_at-mta, register_at-vfta}
use Rattle.adapter.specs.Settings.{Settings, adapter_with, settings_after_all, settings_of}
use Rattle.adapter.proofs.Lists.{all-head, all-tail}
use Rattle.bring_up.specs.ConfiguredAdapters.{AreWords}
use Rattle.bring_up.specs.FilterTables.{address_writes, table_writes}
use Rattle.bring_up.proofs.SingleSettings.{SetTo}

pub word-kept : (word : ℕ) → word < 2 ^ 32 → bit_and word 0xFFFFFFFF ≡ word
word-kept word fits = let whole : word % 2 ^ 32 ≡ word = omega arith in and_mask word 32 ∙ whole

-- The settings after a write of a register.
abbrev left_set : Option Register → ℕ → AdapterState → Settings
left_set register value adapter = settings_of (left_by_write register value (adapter_with (settings_of adapter)))

-- A table in an adapter: the registers of its words, and the settings after a write of one word.
record HasTable (start : ℕ) (register : ℕ → Register) (with_table : List ℕ → AdapterState) : Type 0 where
  pub there : (n : ℕ) → n < 128 → register_at (start + 4 * n) ≡ Some (register n)
  pub set : (n value : ℕ) (table : List ℕ)
      → left_set (Some (register n)) value (with_table table) ≡ settings_of (with_table (slice_set table n (bit_and value 0xFFFFFFFF)))

word-set : (start : ℕ) (register : ℕ → Register) (with_table : List ℕ → AdapterState) → HasTable start register with_table
    → (offset : ℕ) (written : List ℕ) (word last : ℕ) (old : List ℕ)
    → offset ≡ start + 4 * length written → length written < 128 → word < 2 ^ 32
    → left_set (register_at offset) word (with_table (written ++ last ∷ old)) ≡ settings_of (with_table ((written ++ word ∷ []) ++ old))
word-set start register with_table has offset written word last old at within fits =
    let n = length written in
    let before = with_table (written ++ last ∷ old) in
    let seam : slice_set (written ++ last ∷ old) n word ≡ (written ++ word ∷ []) ++ old =
    set-append_seam written last old word ∙ sym (append_assoc written (word ∷ []) old) in
    ap (λ (found : Option Register). left_set found word before) (ap register_at at ∙ has.there n within)
    ∙ has.set n word (written ++ last ∷ old)
    ∙ ap (λ (w : ℕ). settings_of (with_table (slice_set (written ++ last ∷ old) n w))) (word-kept word fits)
    ∙ ap (λ (table : List ℕ). settings_of (with_table table)) seam

words-set : (start : ℕ) (register : ℕ → Register) (with_table : List ℕ → AdapterState) → HasTable start register with_table
    → (offset : ℕ) (written words old : List ℕ)
    → offset ≡ start + 4 * length written → length written + length words ≤ 128 → length old ≡ length words → AreWords words
    → SetTo (table_writes offset words) (with_table (written ++ old)) (with_table (written ++ words))
words-set start register with_table has offset written [] [] at fits same are = refl
words-set start register with_table has offset written [] (last ∷ old) at fits same are = absurd (omega arith)
words-set start register with_table has offset written (word ∷ words) [] at fits same are = absurd (omega arith)
words-set start register with_table has offset written (word ∷ words) (last ∷ old) at fits same are =
    let written' = written ++ word ∷ [] in
    let within : length written < 128 = omega arith in
    let next : offset + 4 ≡ start + 4 * length written' = omega (arith, length-append written (word ∷ [])) in
    let room : length written' + length words ≤ 128 = omega (arith, length-append written (word ∷ [])) in
    let left : length old ≡ length words = omega arith in
    let first = word-set start register with_table has offset written word last old at within (all-head (λ w. w < 2 ^ 32) word words are) in
    let rest = words-set start register with_table has (offset + 4) written' words old next room left
    (all-tail (λ w. w < 2 ^ 32) word words are) in
    ap (settings_after_all (table_writes (offset + 4) words)) first
    ∙ rest
    ∙ ap (λ (table : List ℕ). settings_of (with_table table)) (append_assoc written (word ∷ []) words)

table-set : (start : ℕ) (register : ℕ → Register) (with_table : List ℕ → AdapterState) → HasTable start register with_table
    → (words old : List ℕ) → length words ≡ 128 → length old ≡ 128 → AreWords words
    → SetTo (table_writes start words) (with_table old) (with_table words)
table-set start register with_table has words old whole room are =
    let first : start ≡ start + 4 * 0 = omega arith in
    let same : length old ≡ length words = omega arith in
    let fits : 0 + length words ≤ 128 = omega arith in
    words-set start register with_table has start [] words old first fits same are

pub groups-set : (words : List ℕ) (adapter : AdapterState) → length words ≡ 128 → length adapter.filter.mta ≡ 128 → AreWords words
    → SetTo (table_writes 0x5200 words) adapter (record adapter { filter = record adapter.filter { mta = words } })
groups-set words adapter whole room are =
    table-set 0x5200 Mta (λ (table : List ℕ). record adapter { filter = record adapter.filter { mta = table } })
    (record { there = register_at-mta; set = λ n value table. refl }) words adapter.filter.mta whole room are

pub vlans-set : (words : List ℕ) (adapter : AdapterState) → length words ≡ 128 → length adapter.filter.vfta ≡ 128 → AreWords words
    → SetTo (table_writes 0x5600 words) adapter (record adapter { filter = record adapter.filter { vfta = words } })
vlans-set words adapter whole room are =
    table-set 0x5600 Vfta (λ (table : List ℕ). record adapter { filter = record adapter.filter { vfta = table } })
    (record { there = register_at-vfta; set = λ n value table. refl }) words adapter.filter.vfta whole room are

-- The words of an address fit into their registers

low-kept : (address : List ℕ) → IsAddress address → bit_and (low_word address) 0xFFFFFFFF ≡ low_word address
low-kept address is =
    let fits : low_word address < 2 ^ 32 = omega (arith, is.bytes 0, is.bytes 1, is.bytes 2, is.bytes 3) in
    word-kept (low_word address) fits

valid-kept : (word : ℕ) → word < 65536 → bit_and (word + 2 ^ 31) 0x8000FFFF ≡ word + 2 ^ 31
valid-kept word fits =
    let split : word + 2 ^ 31 ≡ 0x8000 * 2 ^ 16 + word = omega arith in
    let block : bit_and (0x8000 * 2 ^ 16 + word) (0x8000 * 2 ^ 16 + 0xFFFF) ≡ 0x8000 * 2 ^ 16 + bit_and word 0xFFFF =
    and_block 16 0x8000 0x8000 word 0xFFFF fits (omega arith) in
    let low : word % 2 ^ 16 ≡ word = omega arith in
    let whole : bit_and word 0xFFFF ≡ word = and_mask word 16 ∙ low in
    ap (λ (n : ℕ). bit_and n 0x8000FFFF) split ∙ block ∙ ap (λ (n : ℕ). 0x8000 * 2 ^ 16 + n) whole ∙ sym split

high-kept : (address : List ℕ) → IsAddress address → bit_and (high_word address + 2 ^ 31) 0x8000FFFF ≡ high_word address + 2 ^ 31
high-kept address is =
    let fits : high_word address < 65536 = omega (arith, is.bytes 4, is.bytes 5) in
    valid-kept (high_word address) fits

-- the filter with this first receive address, and 0 in the other 15
abbrev pub with_address : (low high : ℕ) → FilterRegisters → FilterRegisters
with_address low high filter = record filter { ral = low ∷ replicate 15 0; rah = high ∷ replicate 15 0 }

pub address-set : (address : List ℕ) (low high : ℕ) (adapter : AdapterState) → IsAddress address
    → SetTo (address_writes address) (record adapter { filter = with_address low high adapter.filter })
    (record adapter { filter = with_address (low_word address) (high_word address + 2 ^ 31) adapter.filter })
unfolding register_at array_register_at
address-set address low high adapter is =
    let masked = bit_and (high_word address + 2 ^ 31) 0x8000FFFF in
    ap (λ (n : ℕ). settings_of (record adapter { filter = with_address n masked adapter.filter })) (low-kept address is)
    ∙ ap (λ (n : ℕ). settings_of (record adapter { filter = with_address (low_word address) n adapter.filter })) (high-kept address is)
