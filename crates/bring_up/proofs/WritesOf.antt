-- The registers that initialization writes.
use Rattle.std.proofs.Common.{◌≡◌, ◌++◌, ◌∷◌, ◌+◌, ◌-◌, ◌*◌, ◌/◌, ◌%◌, ◌<◌, ◌≤◌, ◌^◌, [], ℕ, zero, suc, Bool, List, Option, Some, length}
use Rattle.std.proofs.Common.{ap, ◌∙◌, sym, subst, arith}
use Rattle.std.specs.List.{All}
use Rattle.std.proofs.lemmas.List.Elements.{All-append, All-cons}
use Rattle.rx_filter.specs.Addresses.{high_word, low_word}
use Rattle.adapter.specs.model_types.register.Register.{Register}
use Rattle.adapter.specs.model_types.register.Register.TheVariants.{Mta, Rah, Ral, Vfta}
use Rattle.adapter.specs.Table.{array_register_at, register_at}
use Rattle.adapter.specs.TableLaws.{register_at-mta, register_at-rah, register_at-ral, register_at-vfta}
use Rattle.adapter.specs.Link.{IsNotOfPhy, LeavesPhy}
use Rattle.adapter.specs.AdaptersAtRest.{IsElsewhere}
use Rattle.adapter.specs.Settings.{Write}
use Rattle.adapter.proofs.Lists.{all-none}
use Rattle.bring_up.specs.ConfiguredAdapters.{LinkComesFirst, RingsComeLast, names_vlans}
use Rattle.bring_up.specs.FilterTables.{address_writes, empty_entries, entry_writes, table_writes}
use Rattle.bring_up.specs.RingRegisters.{receive_control, receive_writes, ring_setup_writes, transmit_writes}
use Rattle.bring_up.specs.SettingSteps.{IsAside}
use Rattle.bring_up.specs.WrittenRegisters.{allocation_writes, enable_link_writes, mask_writes, reset_writes, write_at}
use Rattle.bring_up.proofs.WritesAtRest.{allocation-aside, link-aside}

-- Each write is a write of a register for which `P` holds.
abbrev pub AreOf : (Option Register → Type 0) → List Write → Type 0
AreOf P writes = All (λ (write : Write). P (register_at write.offset)) writes

pub of-one : (P : Option Register → Type 0) (offset value : ℕ) → P (register_at offset) → AreOf P (write_at offset value ∷ [])
of-one P offset value here = All-cons (λ (write : Write). P (register_at write.offset)) (write_at offset value) [] here
    (all-none (λ (write : Write). P (register_at write.offset)))

pub of-both : (P : Option Register → Type 0) (first later : List Write) → AreOf P first → AreOf P later → AreOf P (first ++ later)
of-both P first later one two = All-append (λ (write : Write). P (register_at write.offset)) first later one two

-- The writes of the tables and of the receive addresses

words-of : (P : Option Register → Type 0) (start : ℕ) (register : ℕ → Register)
    → ((n : ℕ) → n < 128 → register_at (start + 4 * n) ≡ Some (register n)) → ((n : ℕ) → P (Some (register n)))
    → (offset n : ℕ) (words : List ℕ) → offset ≡ start + 4 * n → n + length words ≤ 128 → AreOf P (table_writes offset words)
words-of P start register there each offset n [] at fits = all-none (λ (write : Write). P (register_at write.offset))
words-of P start register there each offset n (word ∷ words) at fits =
    let within : n < 128 = omega arith in
    let next : offset + 4 ≡ start + 4 * suc n = omega arith in
    let room : suc n + length words ≤ 128 = omega arith in
    of-both P (write_at offset word ∷ []) (table_writes (offset + 4) words)
    (of-one P offset word (subst P (sym (ap register_at at ∙ there n within)) (each n)))
    (words-of P start register there each (offset + 4) (suc n) words next room)

entry-of : (P : Option Register → Type 0) → ((n : ℕ) → P (Some (Ral n))) → ((n : ℕ) → P (Some (Rah n)))
    → (entry low high : ℕ) → entry < 16 → AreOf P (entry_writes entry low high)
entry-of P ral rah entry low high within =
    of-both P (write_at (0x5400 + 8 * entry) low ∷ []) (write_at (0x5404 + 8 * entry) high ∷ [])
    (of-one P (0x5400 + 8 * entry) low (subst P (sym (register_at-ral entry within)) (ral entry)))
    (of-one P (0x5404 + 8 * entry) high (subst P (sym (register_at-rah entry within)) (rah entry)))

entries-of : (P : Option Register → Type 0) → ((n : ℕ) → P (Some (Ral n))) → ((n : ℕ) → P (Some (Rah n)))
    → (entry count : ℕ) → entry + count ≤ 16 → AreOf P (empty_entries entry count)
entries-of P ral rah entry zero fits = all-none (λ (write : Write). P (register_at write.offset))
entries-of P ral rah entry (suc count) fits =
    let within : entry < 16 = omega arith in
    let room : entry + 1 + count ≤ 16 = omega arith in
    of-both P (entry_writes entry 0 0) (empty_entries (entry + 1) count)
    (entry-of P ral rah entry 0 0 within) (entries-of P ral rah (entry + 1) count room)

pub filter-of : (P : Option Register → Type 0) → ((n : ℕ) → P (Some (Mta n))) → ((n : ℕ) → P (Some (Vfta n)))
    → ((n : ℕ) → P (Some (Ral n))) → ((n : ℕ) → P (Some (Rah n)))
    → (groups vlans address : List ℕ) → length groups ≡ 128 → length vlans ≡ 128
    → AreOf P (table_writes 0x5200 groups ++ (table_writes 0x5600 vlans ++ address_writes address))
filter-of P mta vfta ral rah groups vlans address groups_whole vlans_whole =
    of-both P (table_writes 0x5200 groups) (table_writes 0x5600 vlans ++ address_writes address)
    (words-of P 0x5200 Mta register_at-mta mta 0x5200 0 groups (omega arith) (omega arith))
    (of-both P (table_writes 0x5600 vlans) (address_writes address)
    (words-of P 0x5600 Vfta register_at-vfta vfta 0x5600 0 vlans (omega arith) (omega arith))
    (of-both P (entry_writes 0 (low_word address) (high_word address + 2 ^ 31)) (empty_entries 1 15)
    (entry-of P ral rah 0 (low_word address) (high_word address + 2 ^ 31) (omega arith)) (entries-of P ral rah 1 15 (omega arith))))

-- Writes of registers other than RCTL and those of the rings

reset-aside : All IsAside reset_writes
unfolding register_at array_register_at
reset-aside = of-both IsElsewhere (write_at 0x0000 0x04000000 ∷ []) (write_at 0x00D8 0xFFFFFFFF ∷ [])
    (of-one IsElsewhere 0x0000 0x04000000 tt) (of-one IsElsewhere 0x00D8 0xFFFFFFFF tt)

pub rings-last : RingsComeLast
rings-last config address groups vlans groups_whole vlans_whole =
    let tables = table_writes 0x5200 groups ++ (table_writes 0x5600 vlans ++ address_writes address) in
    of-both IsElsewhere reset_writes (allocation_writes config.rxa ++ (enable_link_writes ++ tables)) reset-aside
    (of-both IsElsewhere (allocation_writes config.rxa) (enable_link_writes ++ tables) (allocation-aside config.rxa)
    (of-both IsElsewhere enable_link_writes tables link-aside
    (filter-of IsElsewhere (λ n. tt) (λ n. tt) (λ n. tt) (λ n. tt) groups vlans address groups_whole vlans_whole)))

-- Writes of registers other than CTRL and MDIC

pub ring-of : (P : Option Register → Type 0) (offset base bytes : ℕ) → P (register_at offset) → P (register_at (offset + 0x04))
    → P (register_at (offset + 0x08))
    → P (register_at (offset + 0x10)) → P (register_at (offset + 0x18)) → AreOf P (ring_setup_writes offset base bytes)
ring-of P offset base bytes low high size head tail =
    let w2 = write_at (offset + 0x04) (base / 2 ^ 32) in
    let w3 = write_at (offset + 0x08) bytes in
    let w4 = write_at (offset + 0x10) 0 in
    let w5 = write_at (offset + 0x18) 0 in
    of-both P (write_at offset (base % 2 ^ 32) ∷ []) (w2 ∷ w3 ∷ w4 ∷ w5 ∷ []) (of-one P offset (base % 2 ^ 32) low)
    (of-both P (w2 ∷ []) (w3 ∷ w4 ∷ w5 ∷ []) (of-one P (offset + 0x04) (base / 2 ^ 32) high)
    (of-both P (w3 ∷ []) (w4 ∷ w5 ∷ []) (of-one P (offset + 0x08) bytes size)
    (of-both P (w4 ∷ []) (w5 ∷ []) (of-one P (offset + 0x10) 0 head) (of-one P (offset + 0x18) 0 tail))))

receive-leaves_phy : (base bytes : ℕ) → All LeavesPhy (ring_setup_writes 0x2800 base bytes)
unfolding register_at array_register_at
receive-leaves_phy base bytes = ring-of IsNotOfPhy 0x2800 base bytes tt tt tt tt tt

transmit-leaves_phy : (base bytes : ℕ) → All LeavesPhy (ring_setup_writes 0x3800 base bytes)
unfolding register_at array_register_at
transmit-leaves_phy base bytes = ring-of IsNotOfPhy 0x3800 base bytes tt tt tt tt tt

tail-leaves_phy : (slot : ℕ) → All LeavesPhy (write_at 0x2818 slot ∷ [])
unfolding register_at array_register_at
tail-leaves_phy slot = of-one IsNotOfPhy 0x2818 slot tt

controls-leave_phy : (promiscuous by_vlan : Bool)
    → All LeavesPhy (receive_writes promiscuous by_vlan) × (All LeavesPhy transmit_writes × All LeavesPhy mask_writes)
unfolding register_at array_register_at
controls-leave_phy promiscuous by_vlan = (
  of-one IsNotOfPhy 0x0100 (receive_control promiscuous by_vlan) tt,
  (of-one IsNotOfPhy 0x0400 0x000400FA tt, of-one IsNotOfPhy 0x00D0 0xD1 tt),
)

pub link-first : LinkComesFirst
link-first config address groups vlans groups_whole vlans_whole =
    let tail = write_at 0x2818 (config.rx - 1) ∷ [] in
    let receives = receive_writes config.promiscuous (names_vlans config.vlans) in
    let ring = ring_setup_writes 0x3800 (16 * config.rx) (16 * config.tx) in
    let controls = controls-leave_phy config.promiscuous (names_vlans config.vlans) in (
      filter-of IsNotOfPhy (λ n. tt) (λ n. tt) (λ n. tt) (λ n. tt) groups vlans address groups_whole vlans_whole,
      of-both IsNotOfPhy (ring_setup_writes 0x2800 0 (16 * config.rx)) (tail ++ (receives ++ (ring ++ (transmit_writes ++ mask_writes))))
          (receive-leaves_phy 0 (16 * config.rx))
          (of-both IsNotOfPhy tail (receives ++ (ring ++ (transmit_writes ++ mask_writes))) (tail-leaves_phy (config.rx - 1))
          (of-both IsNotOfPhy receives (ring ++ (transmit_writes ++ mask_writes)) controls.0
          (of-both IsNotOfPhy ring (transmit_writes ++ mask_writes) (transmit-leaves_phy (16 * config.rx) (16 * config.tx))
          (of-both IsNotOfPhy transmit_writes mask_writes controls.1.0 controls.1.1)))),
    )
