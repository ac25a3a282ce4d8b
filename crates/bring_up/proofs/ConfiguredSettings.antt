-- The settings after all writes of initialization.
use Rattle.std.proofs.Common.{◌≡◌, ◌++◌, ◌∷◌, ◌+◌, ◌-◌, ◌*◌, ◌<◌, ◌^◌, [], ℕ, List, length, replicate, refl, sym, subst, arith}
use Rattle.std.proofs.lemmas.List.{length-replicate}
use Rattle.mdic_phy.specs.Phy.{new_phy}
use Rattle.mdic_phy.specs.declared.phy.Link.{Link}
use Rattle.rx_filter.specs.Addresses.{IsAddress, high_word, low_word}
use Rattle.rx_filter.specs.Registers.{FilterRegisters}
use Rattle.adapter.specs.Registers.{adapter_at_reset}
use Rattle.adapter.specs.State.{AdapterState}
use Rattle.adapter.specs.Table.{address_high_at_reset, address_low_at_reset}
use Rattle.adapter.specs.Settings.{Settings, Write, settings_after_all, settings_of}
use Rattle.bring_up.specs.Configuration.{IsValidIn}
use Rattle.bring_up.specs.ConfiguredAdapters.{AreWords, IsConfigured, WritesConfigure, all_writes, names_vlans, writes_before_rings}
use Rattle.bring_up.specs.FilterTables.{address_writes, table_writes}
use Rattle.bring_up.specs.RingRegisters.{receive_control, receive_writes, ring_setup_writes, transmit_writes}
use Rattle.bring_up.specs.WrittenRegisters.{allocation_writes, enable_link_writes, mask_writes, reset_writes, write_at}
use Rattle.bring_up.specs.declared.config.Config.{Config}
use Rattle.bring_up.proofs.RingSettings.{base-told, count-told, receive-ring-sets, receive-tail-sets, ring-fits, ring_at}
use Rattle.bring_up.proofs.RingSettings.{transmit-ring-sets}
use Rattle.bring_up.proofs.SingleSettings.{SetTo, allocation-sets, groups-join, link-sets, mask-sets, receive-sets, reset-sets, set-join}
use Rattle.bring_up.proofs.SingleSettings.{transmit-sets}
use Rattle.bring_up.proofs.TableSettings.{address-set, groups-set, vlans-set}

-- the filter after its tables and addresses were written
abbrev pub filter_written : (address groups vlans : List ℕ) → FilterRegisters
filter_written address groups vlans = record {
  ral = low_word address ∷ replicate 15 0;
  rah = (high_word address + 2 ^ 31) ∷ replicate 15 0;
  mta = groups;
  vfta = vlans;
  rctl = 0;
  vet = 0x8100;
}

-- an adapter after the writes before those of the rings
abbrev pub adapter_before_rings : Config → (address groups vlans image : List ℕ) → Link → AdapterState
adapter_before_rings config address groups vlans image link = record (adapter_at_reset image (new_phy link) config.rxa) {
  device_control = 0x60;
  filter = filter_written address groups vlans;
}

-- If the adapter was reset, and then PBA and CTRL were written, the writes of tables and receive addresses set the filter.
tables-set : (config : Config) (address groups vlans image : List ℕ) (link : Link)
    → IsAddress address → length groups ≡ 128 → length vlans ≡ 128 → AreWords groups → AreWords vlans
    → SetTo (table_writes 0x5200 groups ++ (table_writes 0x5600 vlans ++ address_writes address))
    (record (adapter_at_reset image (new_phy link) config.rxa) { device_control = 0x60 })
    (adapter_before_rings config address groups vlans image link)
tables-set config address groups vlans image link is groups_whole vlans_whole groups_are vlans_are =
    let empty : length {A = ℕ} (replicate 128 0) ≡ 128 = length-replicate {A = ℕ} 128 0 in
    let linked : AdapterState = record (adapter_at_reset image (new_phy link) config.rxa) { device_control = 0x60 } in
    let grouped : AdapterState = record linked { filter = record linked.filter { mta = groups } } in
    let tagged : AdapterState = record grouped { filter = record grouped.filter { vfta = vlans } } in
    let end : AdapterState = adapter_before_rings config address groups vlans image link in
    let tags = set-join (table_writes 0x5600 vlans) (address_writes address) grouped tagged end
    (vlans-set vlans grouped vlans_whole empty vlans_are)
    (address-set address (address_low_at_reset 0 image) (address_high_at_reset 0 image) tagged is) in
    set-join (table_writes 0x5200 groups) (table_writes 0x5600 vlans ++ address_writes address) linked grouped end
    (groups-set groups linked groups_whole empty groups_are) tags

pub before-rings : (config : Config) (address groups vlans : List ℕ) (size : ℕ) (settings : Settings)
    → IsValidIn config size → IsAddress address → length groups ≡ 128 → length vlans ≡ 128 → AreWords groups → AreWords vlans
    → settings_after_all (writes_before_rings config address groups vlans) settings
    ≡ settings_of (adapter_before_rings config address groups vlans settings.image settings.link)
before-rings config address groups vlans size settings had is groups_whole vlans_whole groups_are vlans_are =
    let tables = table_writes 0x5200 groups ++ (table_writes 0x5600 vlans ++ address_writes address) in
    let start : AdapterState = adapter_at_reset settings.image (new_phy settings.link) settings.receive_kilobytes in
    let allocated : AdapterState = record start { receive_kilobytes = config.rxa } in
    let linked : AdapterState = record allocated { device_control = 0x60 } in
    let end : AdapterState = adapter_before_rings config address groups vlans settings.image settings.link in
    let behind = set-join enable_link_writes tables allocated linked end (link-sets allocated)
    (tables-set config address groups vlans settings.image settings.link is groups_whole vlans_whole groups_are vlans_are) in
    let rest = set-join (allocation_writes config.rxa) (enable_link_writes ++ tables) start allocated end
    (allocation-sets config.rxa start had.numbers.allocation) behind in
    groups-join reset_writes (allocation_writes config.rxa ++ (enable_link_writes ++ tables)) settings (settings_of start) (settings_of end)
    (reset-sets settings) rest

-- the writes of the rings and those after them, if this number of receive slots is offered
abbrev pub writes_offering : Config → (slots : ℕ) → List Write
writes_offering config slots =
    ring_setup_writes 0x2800 0 (16 * config.rx)
    ++ (write_at 0x2818 slots ∷ []
    ++ (receive_writes config.promiscuous (names_vlans config.vlans)
    ++ (ring_setup_writes 0x3800 (16 * config.rx) (16 * config.tx)
    ++ (transmit_writes
    ++ mask_writes))))

-- an adapter after all writes of initialization, if this number of receive slots is offered
abbrev pub adapter_configured : Config → (address groups vlans image : List ℕ) → Link → (slots : ℕ) → AdapterState
adapter_configured config address groups vlans image link slots =
    let before = adapter_before_rings config address groups vlans image link in
    record before {
      causes = record { recorded = 0; mask = 0xD1 };
      filter = record before.filter { rctl = receive_control config.promiscuous (names_vlans config.vlans) };
      transmit_control = 0x000400FA;
      receive_ring = record (ring_at 0 (16 * config.rx)) { tail = slots };
      transmit_ring = ring_at (16 * config.rx) (16 * config.tx);
    }

from-rings : (config : Config) (address groups vlans image : List ℕ) (link : Link) (size slots : ℕ) → IsValidIn config size
    → slots < 65536
    → SetTo (writes_offering config slots) (adapter_before_rings config address groups vlans image link)
    (adapter_configured config address groups vlans image link slots)
from-rings config address groups vlans image link size slots had tail_fits =
    let counts = had.counts in
    let rx_most = counts.rx.most in
    let near : config.rx < 2 ^ 32 = omega arith in
    let tagged = names_vlans config.vlans in
    let receive_part = ring_setup_writes 0x2800 0 (16 * config.rx) in
    let transmit_part = ring_setup_writes 0x3800 (16 * config.rx) (16 * config.tx) in
    let tail_part = write_at 0x2818 slots ∷ [] in
    let passing = receive_writes config.promiscuous tagged in
    let sending = transmit_part ++ (transmit_writes ++ mask_writes) in
    let start : AdapterState = adapter_before_rings config address groups vlans image link in
    let ringed : AdapterState = record start { receive_ring = ring_at 0 (16 * config.rx) } in
    let tailed : AdapterState = record ringed { receive_ring = record ringed.receive_ring { tail = slots } } in
    let passes : AdapterState = record tailed { filter = record tailed.filter { rctl = receive_control config.promiscuous tagged } } in
    let both : AdapterState = record passes { transmit_ring = ring_at (16 * config.rx) (16 * config.tx) } in
    let sends : AdapterState = record both { transmit_control = 0x000400FA } in
    let end : AdapterState = adapter_configured config address groups vlans image link slots in
    let receive_fits = ring-fits 0 config.rx (omega arith) counts.rx in
    let transmit_fits = ring-fits config.rx config.tx near counts.tx in
    set-join receive_part (tail_part ++ (passing ++ sending)) start ringed end
    (receive-ring-sets 0 (16 * config.rx) start receive_fits)
    (set-join tail_part (passing ++ sending) ringed tailed end (receive-tail-sets slots ringed tail_fits)
    (set-join passing sending tailed passes end (receive-sets config.promiscuous tagged tailed)
    (set-join transmit_part (transmit_writes ++ mask_writes) passes both end
    (transmit-ring-sets (16 * config.rx) (16 * config.tx) passes transmit_fits)
    (set-join transmit_writes mask_writes both sends end (transmit-sets both) (mask-sets sends refl)))))

pub all-set : (config : Config) (address groups vlans : List ℕ) (size slots : ℕ) (settings : Settings)
    → IsValidIn config size → slots < 65536 → IsAddress address → length groups ≡ 128 → length vlans ≡ 128 → AreWords groups
    → AreWords vlans
    → settings_after_all (writes_before_rings config address groups vlans ++ writes_offering config slots) settings
    ≡ settings_of (adapter_configured config address groups vlans settings.image settings.link slots)
all-set config address groups vlans size slots settings had fits is groups_whole vlans_whole groups_are vlans_are =
    groups-join (writes_before_rings config address groups vlans) (writes_offering config slots) settings
    (settings_of (adapter_before_rings config address groups vlans settings.image settings.link))
    (settings_of (adapter_configured config address groups vlans settings.image settings.link slots))
    (before-rings config address groups vlans size settings had is groups_whole vlans_whole groups_are vlans_are)
    (from-rings config address groups vlans settings.image settings.link size slots had fits)

pub writes-configure : WritesConfigure
writes-configure config address groups vlans size settings had is groups_are vlans_are has_groups has_vlans =
    let counts = had.counts in
    let most = counts.rx.most in
    let all : settings_after_all (all_writes config address groups vlans) settings
    ≡ settings_of (adapter_configured config address groups vlans settings.image settings.link (config.rx - 1)) =
    all-set config address groups vlans size (config.rx - 1) settings had (omega arith) is has_groups.words has_vlans.words groups_are
    vlans_are in
    subst (λ (s : Settings). IsConfigured config address s × (s.image ≡ settings.image)) (sym all) (
      record {
        device_control = refl;
        filter = record {
          setup = record {
            receive_control_is = refl;
            vlans = has_vlans;
            words = vlans_are;
            address_low = refl;
            address_high = refl;
            vlan_type = refl;
          };
          groups = has_groups;
          group_words = groups_are;
        };
        transmit_control = refl;
        allocation = refl;
        mask = refl;
        receive_ring = record { base_is = refl; count_is = count-told 0 config.rx counts.rx; tail_is = refl };
        transmit_ring = record {
          base_is = base-told (16 * config.rx) (16 * config.tx);
          count_is = count-told (16 * config.rx) config.tx counts.tx;
          tail_is = refl;
        };
      },
      refl,
    )
