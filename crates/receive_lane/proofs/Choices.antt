-- The sets that the filter's registers mean after the options of a pass were written to a new adapter.
use Rattle.std.proofs.Common.{◌≡◌, ◌<◌, ◌≤◌, ◌+◌, ◌/◌, ◌%◌, ◌^◌, ◌↔◌, ◌&&◌, inl, inr, ℕ, Bool, true, false, List, replicate}
use Rattle.std.proofs.Common.{slice_index, Option, Some, None, refl, sym, ap, subst, ◌∙◌, arith}
use Rattle.std.specs.Prelude.{slice_set, IfSome, is_none, is_some}
use Rattle.std.specs.Int.Bits.{or_zero_l}
use Rattle.std.proofs.lemmas.List.{length-replicate, get_or-replicate}
use Rattle.std.proofs.lemmas.Option.{none-some, same_Some}
use Rattle.registers.specs.Bits.{HasBit, field, union}
use Rattle.registers.specs.ReceiveControl.{group_offset_of, shift_of}
use Rattle.rx_filter.specs.Addresses.{IsAddress, low_word, high_word, group_number}
use Rattle.rx_filter.specs.Passing.{Passes}
use Rattle.rx_filter.specs.Registers.{FilterRegisters, HasEntry, HasTableBit, filter_of}
use Rattle.rx_filter.specs.Writing.{with_number}
use Rattle.rx_filter.specs.Laws.{SameSets, SameSets-sym, Passes-same, HasEntry-zeros, HasEntry-added, HasTableBit-zeros}
use Rattle.rx_filter.specs.Laws.{HasTableBit-with_number}
use Rattle.adapter.specs.Registers.{filter_at_reset}
use Rattle.receive_lane.specs.declared.filter.PassFilter.{PassFilter}
use Rattle.receive_lane.specs.Choosing.{mode_bits, mode_for, with_address, with_bit, with_group_bit, with_tables, with_vlan_bit}
use Rattle.receive_lane.specs.Lane.{IsReceiving}
use Rattle.receive_lane.specs.Options.{IsOpen, KeptBy, filter_for, HasVlanNumber}

-- ---- the sets of each table

-- the values of RAL: the low word of the address, if there is one, in entry 0, and 0 in the other entries
pub low_words : Option (List ℕ) → List ℕ
low_words None = replicate 16 0
low_words (Some address) = slice_set (replicate 16 0) 0 (low_word address)

-- the values of RAH: the high word of the address with AV, if there is an address, in entry 0, and 0 in the other entries
pub high_words : Option (List ℕ) → List ℕ
high_words None = replicate 16 0
high_words (Some address) = slice_set (replicate 16 0) 0 (high_word address + 2 ^ 31)

addresses_of : (o : Option (List ℕ)) (address : List ℕ) → IfSome o IsAddress → HasEntry (low_words o) (high_words o) address
    ↔ (o ≡ Some address)
unfolding low_words high_words
addresses_of None address is = ((λ has. absurd (HasEntry-zeros 16 address has)), (λ e. absurd (none-some address e)))
addresses_of (Some own) address is =
    let added = HasEntry-added (replicate 16 0) (replicate 16 0) 0 own address is (omega arith) (omega arith) (omega arith) refl in (
      (λ has. elim (added.0 has) [ inl same ↦ ap Some (sym same) | inr had ↦ absurd (HasEntry-zeros 16 address had) ]),
      (λ e. added.1 (inl (sym (same_Some own address e)))),
    )

one_number : (number : ℕ) → number < 4096 → with_number (replicate 128 0) number ≡ with_bit (replicate 128 0) number
one_number number below =
    let none : slice_index (replicate 128 0) (number / 32) ≡ 0 = get_or-replicate 128 (number / 32) 0 0 (omega arith) in
    ap (λ (word : ℕ). slice_set (replicate 128 0) (number / 32) (union word (2 ^ (number % 32)))) none
    ∙ ap (slice_set (replicate 128 0) (number / 32)) (or_zero_l (2 ^ (number % 32)))

numbers_of : (wanted number : ℕ) → wanted < 4096 → HasTableBit (with_bit (replicate 128 0) wanted) number ↔ (number ≡ wanted)
numbers_of wanted number below =
    let added = HasTableBit-with_number (replicate 128 0) wanted number (omega (arith, length-replicate {A = ℕ} 128 0)) in
    subst (λ (table : List ℕ). HasTableBit table number ↔ (number ≡ wanted)) (one_number wanted below) (
      (λ has. elim (added.0 has) [ inl same ↦ same | inr had ↦ absurd (HasTableBit-zeros 128 number had) ]),
      (λ e. added.1 (inl e)),
    )

abbrev IsGroupNumber : Option (List ℕ) → ℕ → Type 0
IsGroupNumber o number = (group : List ℕ) × (o ≡ Some group) × (number ≡ group_number 4 group)

-- a table of 128 words in which only the bit of this number, if there is one, is 1
pub with_bit_of : Option ℕ → List ℕ
with_bit_of None = replicate 128 0
with_bit_of (Some number) = with_bit (replicate 128 0) number

abbrev pub number_of_group : Option (List ℕ) → Option ℕ
number_of_group None = None
number_of_group (Some group) = Some (group_number 4 group)

groups_of : (o : Option (List ℕ)) (number : ℕ) → HasTableBit (with_bit_of (number_of_group o)) number ↔ IsGroupNumber o number
unfolding with_bit_of
groups_of None number = ((λ has. absurd (HasTableBit-zeros 128 number has)), (λ is. absurd (none-some is.0 is.1)))
groups_of (Some group) number =
    let one = numbers_of (group_number 4 group) number (omega arith) in (
      (λ has. (group, refl, one.0 has)),
      (λ is. one.1 (is.2 ∙ ap (group_number 4) (sym (same_Some group is.0 is.1)))),
    )

vlans_of : (o : Option ℕ) (number : ℕ) → IfSome o (λ n. n ≤ 4095) → HasTableBit (with_bit_of o) number ↔ (o ≡ Some number)
unfolding with_bit_of
vlans_of None number fits = ((λ has. absurd (HasTableBit-zeros 128 number has)), (λ e. absurd (none-some number e)))
vlans_of (Some wanted) number fits =
    let one = numbers_of wanted number (omega arith) in (
      (λ has. ap Some (sym (one.0 has))),
      (λ e. one.1 (sym (same_Some wanted number e))),
    )

-- ---- the bits of the mode

pub record Modes (every tagged : Bool) (mode : ℕ) : Type 0 where
  pub shift : shift_of (group_offset_of (field mode 12 2)) ≡ 4
  pub every_vlan : (field mode 18 1 ≡ 0) ↔ (tagged ≡ false)
  pub individuals : HasBit mode 3 ↔ (every ≡ true)
  pub groups : HasBit mode 4 ↔ (every ≡ true)
  pub broadcasts : HasBit mode 15 ↔ Unit {0}

-- Two statements that hold are equivalent, and so are two that do not hold.
holds-true : {P Q : Type 0} → P → Q → P ↔ Q
holds-true p q = (λ _. q, λ _. p)

holds-not : {P Q : Type 0} → (P → ⊥) → (Q → ⊥) → P ↔ Q
holds-not p q = (λ h. absurd (p h), λ h. absurd (q h))

modes-of : (every tagged : Bool) → (field (mode_bits every tagged) 18 1 ≡ 0) ↔ (tagged ≡ false)
    → HasBit (mode_bits every tagged) 3 ↔ (every ≡ true) → HasBit (mode_bits every tagged) 4 ↔ (every ≡ true)
    → shift_of (group_offset_of (field (mode_bits every tagged) 12 2)) ≡ 4 → HasBit (mode_bits every tagged) 15
    → Modes every tagged (mode_bits every tagged)
modes-of every tagged vlan individuals groups shift broadcast = record {
  shift = shift;
  every_vlan = vlan;
  individuals = individuals;
  groups = groups;
  broadcasts = holds-true broadcast tt;
}

modes : (every tagged : Bool) → Modes every tagged (mode_bits every tagged)
modes true true = modes-of true true (holds-not (λ h. omega arith) (λ h. cc)) (holds-true refl refl) (holds-true refl refl) refl refl
modes true false = modes-of true false (holds-true refl refl) (holds-true refl refl) (holds-true refl refl) refl refl
modes false true = modes-of false true (holds-not (λ h. omega arith) (λ h. cc)) (holds-not (λ h. omega arith) (λ h. cc))
    (holds-not (λ h. omega arith) (λ h. cc)) refl refl
modes false false = modes-of false false (holds-true refl refl) (holds-not (λ h. omega arith) (λ h. cc))
    (holds-not (λ h. omega arith) (λ h. cc)) refl refl

every-open : (a g : Option (List ℕ)) → ((is_none a && is_none g) ≡ true) ↔ ((a ≡ None) × (g ≡ None))
every-open None None = holds-true refl (refl, refl)
every-open None (Some y) = holds-not (λ h. cc) (λ h. none-some y (sym h.1))
every-open (Some x) g = holds-not (λ h. cc) (λ h. none-some x (sym h.0))

none-tagged : (v : Option ℕ) → (is_some v ≡ false) ↔ (v ≡ None)
none-tagged None = holds-true refl refl
none-tagged (Some n) = holds-not (λ h. cc) (λ h. cc)

-- The mode receives, into buffers of 2,048 bytes.
receiving : (every tagged : Bool) → IsReceiving (mode_bits every tagged)
receiving true true = record { enabled = refl; not_extended = λ h. absurd (omega arith); size = refl }
receiving true false = record { enabled = refl; not_extended = λ h. absurd (omega arith); size = refl }
receiving false true = record { enabled = refl; not_extended = λ h. absurd (omega arith); size = refl }
receiving false false = record { enabled = refl; not_extended = λ h. absurd (omega arith); size = refl }

pub mode-receiving : (options : PassFilter) → IsReceiving (mode_for options)
mode-receiving options = receiving (is_none options.address && is_none options.group) (is_some options.vlan)

-- ---- all of them

-- The registers have the values for these options.
pub record AreChosen (options : PassFilter) (regs : FilterRegisters) : Type 0 where
  pub ral : regs.ral ≡ low_words options.address
  pub rah : regs.rah ≡ high_words options.address
  pub mta : regs.mta ≡ with_bit_of (number_of_group options.group)
  pub vfta : regs.vfta ≡ with_bit_of options.vlan
  pub rctl : regs.rctl ≡ mode_for options
  pub vet : regs.vet ≡ 0x8100

abbrev written_to : Option (List ℕ) → Option (List ℕ) → Option ℕ → List ℕ → FilterRegisters
written_to a g v words = with_vlan_bit v (with_group_bit g (with_address a (filter_at_reset words)))

tables_are : (a g : Option (List ℕ)) (v : Option ℕ) (words : List ℕ) → ((written_to a g v words).ral ≡ low_words a)
    × ((written_to a g v words).rah ≡ high_words a) × ((written_to a g v words).mta ≡ with_bit_of (number_of_group g))
    × ((written_to a g v words).vfta ≡ with_bit_of v)
unfolding low_words high_words with_bit_of
tables_are None None None words = (refl, refl, refl, refl)
tables_are None None (Some n) words = (refl, refl, refl, refl)
tables_are None (Some y) None words = (refl, refl, refl, refl)
tables_are None (Some y) (Some n) words = (refl, refl, refl, refl)
tables_are (Some x) None None words = (refl, refl, refl, refl)
tables_are (Some x) None (Some n) words = (refl, refl, refl, refl)
tables_are (Some x) (Some y) None words = (refl, refl, refl, refl)
tables_are (Some x) (Some y) (Some n) words = (refl, refl, refl, refl)

pub are_chosen : (options : PassFilter) (words : List ℕ)
    → AreChosen options (record (with_tables options (filter_at_reset words)) { rctl = mode_for options })
are_chosen options words =
    let tables = tables_are options.address options.group options.vlan words in
    record { ral = tables.0; rah = tables.1; mta = tables.2; vfta = tables.3; rctl = refl; vet = refl }

pub same_sets : (options : PassFilter) (regs : FilterRegisters) → IfSome options.address IsAddress → HasVlanNumber options
    → AreChosen options regs → SameSets (filter_of regs) (filter_for options)
unfolding filter_of
same_sets options regs is fits chosen =
    let a = options.address in
    let g = options.group in
    let v = options.vlan in
    let m = modes (is_none a && is_none g) (is_some v) in
    let of_open = every-open a g in
    let tagged = none-tagged v in
    record {
      addresses = λ address. subst (λ (low : List ℕ). HasEntry low regs.rah address
          ↔ (a ≡ Some address)) (sym chosen.ral) (subst (λ (high : List ℕ). HasEntry (low_words a) high address
          ↔ (a ≡ Some address)) (sym chosen.rah) (addresses_of a address is));
      groups = λ number below. subst (λ (t : List ℕ). HasTableBit t number ↔ IsGroupNumber g number) (sym chosen.mta) (groups_of g number);
      shift = ap (λ (r : ℕ). shift_of (group_offset_of (field r 12 2))) chosen.rctl ∙ m.shift;
      vlans = record {
        every_vlan = subst (λ (r : ℕ). (field r 18 1 ≡ 0) ↔ (v ≡ None)) (sym chosen.rctl)
            ((λ h. tagged.0 (m.every_vlan.0 h)), (λ h. m.every_vlan.1 (tagged.1 h)));
        numbers = λ number below.
            subst (λ (t : List ℕ). HasTableBit t number ↔ (v ≡ Some number)) (sym chosen.vfta) (vlans_of v number fits);
        vlan_type = chosen.vet;
      };
      all_individuals = subst (λ (r : ℕ). HasBit r 3 ↔ IsOpen options) (sym chosen.rctl)
          ((λ h. of_open.0 (m.individuals.0 h)), (λ h. m.individuals.1 (of_open.1 h)));
      all_groups = subst (λ (r : ℕ). HasBit r 4 ↔ IsOpen options) (sym chosen.rctl)
          ((λ h. of_open.0 (m.groups.0 h)), (λ h. m.groups.1 (of_open.1 h)));
      broadcasts = subst (λ (r : ℕ). HasBit r 15 ↔ Unit {0}) (sym chosen.rctl) m.broadcasts;
    }

-- ---- the frames that such registers pass

pub passes_kept : (options : PassFilter) (regs : FilterRegisters) → SameSets (filter_of regs) (filter_for options) → (frame : List ℕ)
    → Passes (filter_of regs) frame ↔ KeptBy options frame
passes_kept options regs same frame = (
  Passes-same (filter_of regs) (filter_for options) frame same,
  Passes-same (filter_for options) (filter_of regs) frame (SameSets-sym (filter_of regs) (filter_for options) same),
)
