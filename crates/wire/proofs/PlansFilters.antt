-- The filter of the registers after initialization has the sets and modes of the plan's filter.
use Rattle.std.proofs.Common.{◌≡◌, ◌+◌, ◌↔◌, ◌∷◌, Bool, true, false, ℕ, List, replicate, refl, sym, subst, inl, inr, arith, rules}
use Rattle.std.proofs.lemmas.List.{length-replicate}
use Rattle.eeprom.specs.Image.{address_bytes}
use Rattle.registers.specs.Bits.{HasBit, field}
use Rattle.registers.specs.Places.{alone, rah_av, rctl_bam, rctl_en, rctl_mo, rctl_mpe, rctl_upe, rctl_vfe}
use Rattle.registers.specs.ReceiveControl.{group_offset_of, shift_of}
use Rattle.rx_filter.specs.Addresses.{IsAddress, high_word, low_word}
use Rattle.rx_filter.specs.Laws.{HasEntry-added, HasEntry-zeros, SameSets}
use Rattle.rx_filter.specs.Registers.{HasEntry, filter_of}
use Rattle.bring_up.specs.ConfiguredAdapters.{IsConfigured, names_vlans}
use Rattle.bring_up.specs.RingRegisters.{receive_control}
use Rattle.adapter.specs.Settings.{Settings}
use Rattle.network_plan.specs.declared.plan.HostPlan.{HostPlan}
use Rattle.wire.specs.Filters.{plans_filter}

-- RCTL.EN is set, and the bits of RCTL for the filter are those of a plan with these settings.
pub record Controls (promiscuous by_vlan : Bool) (rctl : ℕ) : Type 0 where
  pub receives : HasBit rctl rctl_en
  pub shift : shift_of (group_offset_of (field rctl rctl_mo 2)) ≡ 4
  pub every_vlan : (field rctl rctl_vfe 1 ≡ 0) ↔ (by_vlan ≡ false)
  pub individuals : HasBit rctl rctl_upe ↔ (promiscuous ≡ true)
  pub groups : HasBit rctl rctl_mpe ↔ (promiscuous ≡ true)
  pub broadcasts : HasBit rctl rctl_bam

pub controls : (promiscuous by_vlan : Bool) → Controls promiscuous by_vlan (receive_control promiscuous by_vlan)
controls true true = search rules
controls true false = search rules
controls false true = search rules
controls false false = search rules

-- the registers of receive addresses contain exactly this address
abbrev IsOnlyEntry : (ral rah address : List ℕ) → Type 0
IsOnlyEntry ral rah address = (other : List ℕ) → HasEntry ral rah other ↔ (other ≡ address)

one-entry : (address : List ℕ) → IsAddress address
    → IsOnlyEntry (low_word address ∷ replicate 15 0) ((high_word address + alone rah_av) ∷ replicate 15 0) address
one-entry address is other =
    let size = length-replicate {A = ℕ} 16 0 in
    let added = HasEntry-added (replicate 16 0) (replicate 16 0) 0 address other is (omega arith) (omega (arith, size))
    (omega (arith, size)) refl in (
      (λ has. elim (added.0 has) [
        | inl same ↦ same
        | inr none ↦ absurd (HasEntry-zeros 16 other none)
      ]),
      (λ same. added.1 (inl same)),
    )

pub plans-filter : (plan : HostPlan) (settings : Settings) → IsAddress (address_bytes plan.image)
    → IsConfigured plan.config (address_bytes plan.image) settings → SameSets (filter_of settings.filter) (plans_filter plan)
unfolding filter_of
plans-filter plan settings is configured =
    let address = address_bytes plan.image in
    let control = subst (Controls plan.config.promiscuous (names_vlans plan.config.vlans)) (sym configured.filter.setup.receive_control_is)
    (controls plan.config.promiscuous (names_vlans plan.config.vlans)) in
    let only : IsOnlyEntry settings.filter.ral settings.filter.rah address =
    subst (λ (rah : List ℕ). IsOnlyEntry settings.filter.ral rah address) (sym configured.filter.setup.address_high)
    (subst (λ (ral : List ℕ). IsOnlyEntry ral ((high_word address + alone rah_av) ∷ replicate 15 0) address)
    (sym configured.filter.setup.address_low) (one-entry address is)) in
    record {
      addresses = only;
      groups = configured.filter.groups.bits;
      shift = control.shift;
      vlans = record {
        every_vlan = control.every_vlan;
        numbers = configured.filter.setup.vlans.bits;
        vlan_type = configured.filter.setup.vlan_type;
      };
      all_individuals = control.individuals;
      all_groups = control.groups;
      broadcasts = ((λ has. tt), (λ any. control.broadcasts));
    }
