-- The accesses of a reset, part by part: almost all are reads, loads, stores, or writes of registers with offsets
-- beyond RCTL.
use Rattle.std.specs.Bool.{⊤}
use Rattle.std.proofs.Common.{◌<◌, ◌+◌, ◌-◌, ◌*◌, ◌/◌, ◌%◌, ◌++◌, ◌∷◌, [], ℕ, List, arith, length, suc, zero}
use Rattle.std.specs.List.{All}
use Rattle.std.proofs.lemmas.List.Elements.{All-append, All-cons}
use Rattle.registers.specs.Places.{alone, rah_av}
use Rattle.dma_memory.specs.Layout.{Counts}
use Rattle.rx_filter.specs.Addresses.{high_word, low_word}
use Rattle.adapter.specs.model_types.offsets.TheConstants.{CTRL, MTA, PBA, RAL, RCTL, RDBAL, RDT, TCTL, TDBAL, VFTA}
use Rattle.adapter.proofs.Lists.{all-head, all-none, all-tail}
use Rattle.adapter.specs.Settings.{Write}
use Rattle.adapter.specs.bus_types.event.Access.{Access}
use Rattle.adapter.specs.bus_types.event.Access.TheVariants.{Loads, Reads, Stores, Writes}
use Rattle.bring_up.specs.ClearedDescriptors.{clears, clears_from}
use Rattle.bring_up.specs.DriverSteps.{accesses_of}
use Rattle.bring_up.specs.FilterTables.{address_writes, empty_entries, entry_writes, table_writes}
use Rattle.bring_up.specs.RingRegisters.{ring_setup_writes, transmit_control, transmit_writes}
use Rattle.bring_up.specs.WrittenRegisters.{allocation_writes, link_control, enable_link_writes, register_limit, write_at}
use Rattle.adapter.specs.Calls.{stores_from}
use Rattle.adapter.specs.ReadyDrivers.{empty_descriptor}
use Rattle.adapter.specs.DriverState.{DriverSetup, buffer_at, receive_slot}
use Rattle.driver.specs.Resetting.{free_accesses, quiet_writes}

-- the access is a read, a load, a store, or a write of an offset beyond RCTL
abbrev pub IsBeyond : Access → Type 0
IsBeyond (Reads offset value) = ⊤
IsBeyond (Writes offset value) = RCTL < offset
IsBeyond (Loads address size) = ⊤
IsBeyond (Stores address bytes) = ⊤

abbrev WritesBeyond : Write → Type 0
WritesBeyond write = RCTL < write.offset

table-beyond : (offset : ℕ) (words : List ℕ) → RCTL < offset → All WritesBeyond (table_writes offset words)
table-beyond offset [] far = all-none WritesBeyond
table-beyond offset (word ∷ later) far =
    All-cons WritesBeyond (write_at offset word) (table_writes (offset + 4) later) far
    (table-beyond (offset + 4) later (omega (arith, far)))

entry-beyond : (entry low high : ℕ) → All WritesBeyond (entry_writes entry low high)
entry-beyond entry low high =
    All-cons WritesBeyond (write_at (RAL + 8 * entry) low) (write_at (RAL + 4 + 8 * entry) high ∷ []) (omega arith)
    (All-cons WritesBeyond (write_at (RAL + 4 + 8 * entry) high) [] (omega arith) (all-none WritesBeyond))

entries-beyond : (entry count : ℕ) → All WritesBeyond (empty_entries entry count)
entries-beyond entry zero = all-none WritesBeyond
entries-beyond entry (suc count) =
    All-append WritesBeyond (entry_writes entry 0 0) (empty_entries (entry + 1) count) (entry-beyond entry 0 0)
    (entries-beyond (entry + 1) count)

address-beyond : (address : List ℕ) → All WritesBeyond (address_writes address)
address-beyond address =
    All-append WritesBeyond (entry_writes 0 (low_word address) (high_word address + alone rah_av)) (empty_entries 1 15)
    (entry-beyond 0 (low_word address) (high_word address + alone rah_av)) (entries-beyond 1 15)

ring-beyond : (offset base bytes : ℕ) → RCTL < offset → All WritesBeyond (ring_setup_writes offset base bytes)
ring-beyond offset base bytes far =
    let five = write_at (offset + 0x18) 0 ∷ [] in
    let four = write_at (offset + 0x10) 0 ∷ five in
    let three = write_at (offset + 8) bytes ∷ four in
    let two = write_at (offset + 4) (base / register_limit) ∷ three in
    All-cons WritesBeyond (write_at offset (base % register_limit)) two far
    (All-cons WritesBeyond (write_at (offset + 4) (base / register_limit)) three (omega (arith, far))
    (All-cons WritesBeyond (write_at (offset + 8) bytes) four (omega (arith, far))
    (All-cons WritesBeyond (write_at (offset + 0x10) 0) five (omega (arith, far))
    (All-cons WritesBeyond (write_at (offset + 0x18) 0) [] (omega (arith, far)) (all-none WritesBeyond)))))

-- A statement that holds for each such access
module _ (P : Access → Type 0) (so : (access : Access) → IsBeyond access → P access) where
  pub all-both : (xs ys : List Access) → All P xs → All P ys → All P (xs ++ ys)
  all-both xs ys one two = All-append P xs ys one two

  pub one-beyond : (access : Access) → IsBeyond access → All P (access ∷ [])
  one-beyond access beyond = All-cons P access [] (so access beyond) (all-none P)

  writes-hold : (writes : List Write) → All WritesBeyond writes → All P (accesses_of writes)
  writes-hold [] beyond = all-none P
  writes-hold (write ∷ later) beyond =
      All-cons P (Writes write.offset write.value) (accesses_of later)
      (so (Writes write.offset write.value) (all-head WritesBeyond write later beyond))
      (writes-hold later (all-tail WritesBeyond write later beyond))

  pub clears-hold : (first count : ℕ) → All P (clears_from first count)
  clears-hold first zero = all-none P
  clears-hold first (suc k) =
      all-both (clears_from first k) (clears (first + 16 * k) ∷ []) (clears-hold first k) (one-beyond (clears (first + 16 * k)) tt)

  stores-hold : (counts : Counts) (slot : ℕ) (numbers : List ℕ) → All P (stores_from counts slot numbers)
  stores-hold counts slot [] = all-none P
  stores-hold counts slot (number ∷ later) =
      let store = Stores (receive_slot slot) (empty_descriptor (buffer_at counts number)) in
      All-cons P store (stores_from counts ((slot + 1) % counts.rx) later) (so store tt)
      (stores-hold counts ((slot + 1) % counts.rx) later)

  pub free-hold : (counts : Counts) (numbers : List ℕ) → All P (free_accesses counts numbers)
  free-hold counts numbers =
      let k = length numbers in
      all-both (stores_from counts 0 numbers) (clears_from (receive_slot k) (counts.rx - k) ++ Writes RDT k ∷ [])
      (stores-hold counts 0 numbers)
      (all-both (clears_from (receive_slot k) (counts.rx - k)) (Writes RDT k ∷ []) (clears-hold (receive_slot k) (counts.rx - k))
      (one-beyond (Writes RDT k) (omega arith)))

  pub quiet-hold : (setup : DriverSetup) (counts : Counts) (groups vlans : List ℕ) → P (Writes CTRL link_control)
      → All P (quiet_writes setup counts groups vlans)
  quiet-hold setup counts groups vlans linked =
      let link = accesses_of enable_link_writes in
      let vlan = table_writes VFTA vlans in
      let addresses = address_writes setup.address in
      let tables = table_writes MTA groups ++ (vlan ++ addresses) in
      let ring = ring_setup_writes RDBAL 0 (16 * counts.rx) in
      all-both (accesses_of (allocation_writes setup.rxa)) (link ++ (accesses_of tables ++ accesses_of ring))
      (one-beyond (Writes PBA setup.rxa) (omega arith))
      (all-both link (accesses_of tables ++ accesses_of ring) (All-cons P (Writes CTRL link_control) [] linked (all-none P))
      (all-both (accesses_of tables) (accesses_of ring)
      (writes-hold tables
      (All-append WritesBeyond (table_writes MTA groups) (vlan ++ addresses) (table-beyond MTA groups (omega arith))
      (All-append WritesBeyond vlan addresses (table-beyond VFTA vlans (omega arith)) (address-beyond setup.address))))
      (writes-hold ring (ring-beyond RDBAL 0 (16 * counts.rx) (omega arith)))))

  pub transmit-hold : (base bytes : ℕ) → All P (accesses_of (ring_setup_writes TDBAL base bytes ++ transmit_writes))
  transmit-hold base bytes =
      let ring = ring_setup_writes TDBAL base bytes in
      writes-hold (ring ++ transmit_writes)
      (All-append WritesBeyond ring transmit_writes (ring-beyond TDBAL base bytes (omega arith))
      (All-cons WritesBeyond (write_at TCTL transmit_control) [] (omega arith) (all-none WritesBeyond)))
