-- Lemmas about filters with the same sets, and about addresses and table bits in the registers of a filter. Other crates use these lemmas,
-- too.
use Rattle.std.proofs.Common.{◌≡◌, ◌+◌, ◌/◌, ◌%◌, ◌^◌, ◌<◌, ◌≤◌, ◌↔◌, ℕ, List, [], ◌∷◌, length, set, replicate, slice_index, refl, sym, ◌∙◌}
use Rattle.std.proofs.Common.{ap, subst, inl, inr, arith}
use Rattle.std.proofs.lemmas.Bool.{cases_eq, cases_lt}
use Rattle.std.proofs.lemmas.List.{length-replicate, get_or-replicate, get_or_past, get_or-set_other}
use Rattle.std.proofs.lemmas.Grind.{get_or-set_at}
use Rattle.std.proofs.lemmas.Nat.Bits.{bit_at-pow_same, bit_at-pow_other}
use Rattle.registers.specs.Bits.{HasBit, union}
use Rattle.registers.specs.Laws.{HasBit-zero, HasBit-union}
use Rattle.rx_filter.specs.Addresses.{destination, group_number, vlan_number, low_word, high_word, IsAddress}
use Rattle.rx_filter.specs.Passing.{ReceiveFilter, AcceptsAddress, AcceptsVlan, Passes}
use Rattle.rx_filter.specs.Registers.{HoldsAddress, entry_address}
use Rattle.rx_filter.specs.Writing.{with_number, NoAddressAtFirst, AddressIsAdded, NoNumberAtFirst, NumberIsAdded}

-- Filters with the same sets pass the same frames.

-- Two filters have the same VLAN type and the same VLAN numbers below 4,096, and agree on whether frames of every VLAN pass.
pub record SameVlans (a b : ReceiveFilter) : Type 0 where
  -- Both filters pass frames of every VLAN, or neither does.
  pub every_vlan : a.every_vlan ↔ b.every_vlan
  -- Both filters contain the same VLAN numbers below 4,096.
  pub numbers : (number : ℕ) → number < 4096 → a.vlans number ↔ b.vlans number
  -- Both filters have the same VLAN type.
  pub vlan_type : a.vlan_type ≡ b.vlan_type

-- Two filters contain the same addresses and groups, compute group numbers and treat VLANs in the same way, and have the same modes.
pub record SameSets (a b : ReceiveFilter) : Type 0 where
  -- Both filters contain the same receive addresses.
  pub addresses : (address : List ℕ) → a.addresses address ↔ b.addresses address
  -- Both filters contain the same group numbers below 4,096.
  pub groups : (number : ℕ) → number < 4096 → a.groups number ↔ b.groups number
  -- Both filters take the same bits of an address as its group number.
  pub shift : a.shift ≡ b.shift
  -- Both filters treat VLANs in the same way (`SameVlans`).
  pub vlans : SameVlans a b
  -- Both filters pass every individual address (UPE), or neither does.
  pub all_individuals : a.all_individuals ↔ b.all_individuals
  -- Both filters pass every group address (MPE), or neither does.
  pub all_groups : a.all_groups ↔ b.all_groups
  -- Both filters pass the broadcast address (BAM), or neither does.
  pub broadcasts : a.broadcasts ↔ b.broadcasts

turned : {P Q : Type 0} → P ↔ Q → Q ↔ P
turned both = (both.1, both.0)

pub SameSets-sym : (a b : ReceiveFilter) → SameSets a b → SameSets b a
SameSets-sym a b same = record {
  addresses = λ address. turned (same.addresses address);
  groups = λ number below. turned (same.groups number below);
  shift = sym same.shift;
  vlans = record {
    every_vlan = turned same.vlans.every_vlan;
    numbers = λ number below. turned (same.vlans.numbers number below);
    vlan_type = sym same.vlans.vlan_type;
  };
  all_individuals = turned same.all_individuals;
  all_groups = turned same.all_groups;
  broadcasts = turned same.broadcasts;
}

group_number-lt : (shift : ℕ) (address : List ℕ) → group_number shift address < 4096
group_number-lt shift address = omega arith

AcceptsAddress-same : (a b : ReceiveFilter) (address : List ℕ) → SameSets a b → AcceptsAddress a address → AcceptsAddress b address
unfolding AcceptsAddress
AcceptsAddress-same a b address same accepted = elim accepted [
  | inl exact ↦ inl ((same.addresses address).0 exact)
  | inr other ↦ elim other [
    | inl group ↦
        let in_b = (same.groups (group_number a.shift address) (group_number-lt a.shift address)).0 group.1 in
        inr (inl (group.0, subst (λ (shift : ℕ). b.groups (group_number shift address)) same.shift in_b))
    | inr other' ↦ elim other' [
      | inl individual ↦ inr (inr (inl (individual.0, same.all_individuals.0 individual.1)))
      | inr other'' ↦ elim other'' [
        | inl any_group ↦ inr (inr (inr (inl (any_group.0, same.all_groups.0 any_group.1))))
        | inr broadcast ↦ inr (inr (inr (inr (broadcast.0, same.broadcasts.0 broadcast.1))))
      ]
    ]
  ]
]

vlan_number-lt : (frame : List ℕ) → vlan_number frame < 4096
vlan_number-lt frame = omega arith

AcceptsVlan-same : (a b : ReceiveFilter) (frame : List ℕ) → SameSets a b → AcceptsVlan a frame → AcceptsVlan b frame
unfolding AcceptsVlan
AcceptsVlan-same a b frame same accepted = elim accepted [
  | inl every ↦ inl (same.vlans.every_vlan.0 every)
  | inr asked ↦ elim asked [
    | inl untagged ↦ inr (inl (λ tagged. untagged (tagged ∙ sym same.vlans.vlan_type)))
    | inr listed ↦ inr (inr ((same.vlans.numbers (vlan_number frame) (vlan_number-lt frame)).0 listed))
  ]
]

pub Passes-same : (a b : ReceiveFilter) (frame : List ℕ) → SameSets a b → Passes a frame → Passes b frame
Passes-same a b frame same passes = record {
  address = AcceptsAddress-same a b (destination frame) same passes.address;
  vlan = AcceptsVlan-same a b frame same passes.vlan;
}

slice_index-zeros : (n k : ℕ) → slice_index (replicate n 0) k ≡ 0
slice_index-zeros n k = elim (cases_lt k n) [
  | inl within ↦ get_or-replicate n k 0 0 within
  | inr past ↦
      let short : length (replicate n 0) ≤ k = omega (arith, length-replicate {A = ℕ} n 0) in
      get_or_past (replicate n 0) k 0 short
]

pub HasTableBit-zeros : NoNumberAtFirst
HasTableBit-zeros n number set =
    HasBit-zero (number % 32) (subst (λ (word : ℕ). HasBit word (number % 32)) (slice_index-zeros n (number / 32)) set)

HasBit-power : (power place : ℕ) → HasBit (2 ^ power) place ↔ (place ≡ power)
HasBit-power power place = (
  (λ set. elim (cases_eq place power) [
    | inl same ↦ same
    | inr other ↦ let clear = bit_at-pow_other power place other in absurd
        (omega arith)
  ]),
  (λ same. subst (λ (at : ℕ). HasBit (2 ^ power) at) (sym same) (bit_at-pow_same power)),
)

pub HasTableBit-with_number : NumberIsAdded
HasTableBit-with_number table number other within =
    let place = number / 32 in
    let word = union (slice_index table place) (2 ^ (number % 32)) in
    elim (cases_eq (other / 32) place) [
      | inl here ↦
          let reads : slice_index (with_number table number) (other / 32)
          ≡ word = get_or-set_at table place (other / 32) word 0 here within in
          let bits = HasBit-union (slice_index table place) (2 ^ (number % 32)) (other % 32) in (
            (λ has. elim (bits.0 (subst (λ (w : ℕ). HasBit w (other % 32)) reads has)) [
              | inl before ↦ inr (subst (λ (at : ℕ). HasBit (slice_index table at) (other % 32)) (sym here) before)
              | inr added ↦ let same = (HasBit-power (number % 32) (other % 32)).0 added in inl (omega arith)
            ]),
            (λ either. subst (λ (w : ℕ). HasBit w (other % 32)) (sym reads) (bits.1 (elim either [
              | inl same ↦ inr ((HasBit-power (number % 32) (other % 32)).1 (ap (λ (k : ℕ). k % 32) same))
              | inr before ↦ inl (subst (λ (at : ℕ). HasBit (slice_index table at) (other % 32)) here before)
            ]))),
          )
      | inr elsewhere ↦
          let reads : slice_index (with_number table number) (other / 32)
          ≡ slice_index table (other / 32) = get_or-set_other table place (other / 32) word 0 elsewhere in (
            (λ has. inr (subst (λ (w : ℕ). HasBit w (other % 32)) reads has)),
            (λ either. elim either [
              | inl same ↦ absurd (elsewhere (ap (λ (k : ℕ). k / 32) same))
              | inr before ↦ subst (λ (w : ℕ). HasBit w (other % 32)) (sym reads) before
            ]),
          )
    ]

pub HasEntry-zeros : NoAddressAtFirst
HasEntry-zeros n address has =
    HasBit-zero 31 (subst (λ (word : ℕ). HasBit word 31) (slice_index-zeros n has.0) has.2.valid)

HoldsAddress-at : (low low' high high' : ℕ) (address : List ℕ) → low ≡ low' → high ≡ high' → HoldsAddress low high address
    → HoldsAddress low' high' address
HoldsAddress-at low low' high high' address same_low same_high holds =
    subst (λ (h : ℕ). HoldsAddress low' h address) same_high (subst (λ (l : ℕ). HoldsAddress l high address) same_low holds)

six_items : (xs : List ℕ) → length xs ≡ 6
    → xs ≡ slice_index xs 0 ∷ slice_index xs 1 ∷ slice_index xs 2 ∷ slice_index xs 3 ∷ slice_index xs 4 ∷ slice_index xs 5 ∷ []
six_items (a ∷ b ∷ c ∷ d ∷ e ∷ f ∷ []) size = refl
six_items _ size = absurd (omega arith)

-- The entry whose RAL and RAH are the two words of an address, with AV, contains this address.
pub entry_address-words : (address : List ℕ) → IsAddress address → entry_address (low_word address) (high_word address + 2 ^ 31) ≡ address
entry_address-words address is =
    let b0 = is.bytes 0 in
    let b1 = is.bytes 1 in
    let b2 = is.bytes 2 in
    let b3 = is.bytes 3 in
    let b4 = is.bytes 4 in
    let b5 = is.bytes 5 in
    let low = low_word address in
    let high = high_word address + 2 ^ 31 in
    let e0 : low / 256 ^ 0 % 256 ≡ slice_index address 0 = omega arith in
    let e1 : low / 256 ^ 1 % 256 ≡ slice_index address 1 = omega arith in
    let e2 : low / 256 ^ 2 % 256 ≡ slice_index address 2 = omega arith in
    let e3 : low / 256 ^ 3 % 256 ≡ slice_index address 3 = omega arith in
    let e4 : high / 256 ^ 0 % 256 ≡ slice_index address 4 = omega arith in
    let e5 : high / 256 ^ 1 % 256 ≡ slice_index address 5 = omega arith in
    let six = six_items address is.size in
    cc

valid_from_words : (address : List ℕ) → IsAddress address → HasBit (high_word address + 2 ^ 31) 31
valid_from_words address is =
    let b4 = is.bytes 4 in
    let b5 = is.bytes 5 in
    omega arith

pub HasEntry-added : AddressIsAdded
HasEntry-added ral rah n address other is below in_ral in_rah invalid =
    let low = low_word address in
    let high = high_word address + 2 ^ 31 in (
      (λ has. elim (cases_eq has.0 n) [
        | inl here ↦
            let reads_low = get_or-set_at ral n has.0 low 0 here in_ral in
            let reads_high = get_or-set_at rah n has.0 high 0 here in_rah in
            let holds = HoldsAddress-at _ low _ high other reads_low reads_high has.2 in
            inl (holds.equal ∙ entry_address-words address is)
        | inr elsewhere ↦
            let reads_low = get_or-set_other ral n has.0 low 0 elsewhere in
            let reads_high = get_or-set_other rah n has.0 high 0 elsewhere in
            inr (has.0, has.1, HoldsAddress-at _ (slice_index ral has.0) _ (slice_index rah has.0) other reads_low reads_high has.2)
      ]),
      (λ either. elim either [
        | inl same ↦
            let reads_low = get_or-set_at ral n n low 0 refl in_ral in
            let reads_high = get_or-set_at rah n n high 0 refl in_rah in
            let holds : HoldsAddress low high other = record {
              valid = valid_from_words address is;
              equal = same
                  ∙ sym (entry_address-words address is);
            } in
            (n, below, HoldsAddress-at low _ high _ other (sym reads_low) (sym reads_high) holds)
        | inr had ↦ elim (cases_eq had.0 n) [
          | inl here ↦
              let valid : HasBit (slice_index rah n) 31 = subst (λ (k : ℕ). HasBit (slice_index rah k) 31) here had.2.valid in
              absurd (omega arith)
          | inr elsewhere ↦
              let reads_low = get_or-set_other ral n had.0 low 0 elsewhere in
              let reads_high = get_or-set_other rah n had.0 high 0 elsewhere in (
                had.0,
                had.1,
                HoldsAddress-at (slice_index ral had.0) _ (slice_index rah had.0) _ other (sym reads_low)
                    (sym reads_high) had.2,
              )
        ]
      ]),
    )
