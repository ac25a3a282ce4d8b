-- Calls of initialization that write neither ICR nor ICS.
use Rattle.std.proofs.Common.{◌≡◌, ◌++◌, ◌∷◌, [], ℕ, Bool, List, sym, ap, subst}
use Rattle.std.specs.List.{All}
use Rattle.std.proofs.lemmas.List.Elements.{All-append}
use Rattle.adapter.specs.Table.{array_register_at, register_at}
use Rattle.adapter.specs.Pasts.{Past, joined}
use Rattle.adapter.specs.Settings.{Write, writes_in}
use Rattle.adapter.specs.bus_types.bus.Bus.{Ghosts}
use Rattle.adapter.proofs.Lists.{all-weaker}
use Rattle.adapter.proofs.Settings.{writes-append}
use Rattle.bring_up.specs.FilterSetting.{SetsFilter}
use Rattle.bring_up.specs.RingRegisters.{receive_control, receive_writes, ring_setup_writes, transmit_writes}
use Rattle.bring_up.specs.SettingSteps.{WritesOneRegister, IsNotOfCauses, RecordsNone, RecordsNoCause, Sets}
use Rattle.bring_up.specs.WrittenRegisters.{allocation_writes, enable_link_writes, mask_writes, reset_writes, write_at}
use Rattle.bring_up.proofs.WritesOf.{filter-of, of-both, of-one, ring-of}

pub joined-causes : (first later : Past) → RecordsNoCause first → RecordsNoCause later → RecordsNoCause (joined first later)
joined-causes first later one two =
    subst (All RecordsNone) (sym (writes-append first.accesses later.accesses))
    (All-append RecordsNone (writes_in first.accesses) (writes_in later.accesses) one two)

pub sets-causes : {B : Type 0} (bus : Ghosts B) (old new : B) (writes : List Write) (sets : Sets bus writes old new)
    → All RecordsNone writes → RecordsNoCause sets.past
sets-causes bus old new writes sets leave = subst (All RecordsNone) (sym sets.writes_are) leave

pub asks-causes : {B : Type 0} (bus : Ghosts B) (old new : B) (offset : ℕ) → IsNotOfCauses (register_at offset)
    → (asks : WritesOneRegister bus offset old new) → RecordsNoCause asks.past
asks-causes bus old new offset other asks =
    all-weaker (λ (write : Write). write.offset ≡ offset) RecordsNone (writes_in asks.past.accesses)
    (λ write is. subst IsNotOfCauses (ap register_at (sym is)) other) asks.only

-- The registers that the calls write

pub eerd-causes : IsNotOfCauses (register_at 0x0014)
unfolding register_at array_register_at
eerd-causes = tt

pub mdic-causes : IsNotOfCauses (register_at 0x0020)
unfolding register_at array_register_at
mdic-causes = tt

pub reset-causes : All RecordsNone reset_writes
unfolding register_at array_register_at
reset-causes = of-both IsNotOfCauses (write_at 0x0000 0x04000000 ∷ []) (write_at 0x00D8 0xFFFFFFFF ∷ [])
    (of-one IsNotOfCauses 0x0000 0x04000000 tt) (of-one IsNotOfCauses 0x00D8 0xFFFFFFFF tt)

pub allocation-causes : (kilobytes : ℕ) → All RecordsNone (allocation_writes kilobytes)
unfolding register_at array_register_at
allocation-causes kilobytes = of-one IsNotOfCauses 0x1000 kilobytes tt

pub link-causes : All RecordsNone enable_link_writes
unfolding register_at array_register_at
link-causes = of-one IsNotOfCauses 0x0000 0x60 tt

pub filter-causes : {B : Type 0} (bus : Ghosts B) (named : List (List ℕ)) (named_vlans address : List ℕ) (old new : B)
    → (filter : SetsFilter bus named named_vlans address old new) → RecordsNoCause filter.sets.past
filter-causes bus named named_vlans address old new filter =
    sets-causes bus old new _ filter.sets
    (filter-of IsNotOfCauses (λ n. tt) (λ n. tt) (λ n. tt) (λ n. tt) filter.groups filter.vlans address
    filter.has_groups.words filter.has_vlans.words)

pub receive_ring-causes : (base bytes : ℕ) → All RecordsNone (ring_setup_writes 0x2800 base bytes)
unfolding register_at array_register_at
receive_ring-causes base bytes = ring-of IsNotOfCauses 0x2800 base bytes tt tt tt tt tt

pub tail-causes : (slot : ℕ) → All RecordsNone (write_at 0x2818 slot ∷ [])
unfolding register_at array_register_at
tail-causes slot = of-one IsNotOfCauses 0x2818 slot tt

pub receive-causes : (promiscuous by_vlan : Bool) → All RecordsNone (receive_writes promiscuous by_vlan)
unfolding register_at array_register_at
receive-causes promiscuous by_vlan = of-one IsNotOfCauses 0x0100 (receive_control promiscuous by_vlan) tt

pub transmit-causes : (base bytes : ℕ) → All RecordsNone (ring_setup_writes 0x3800 base bytes ++ transmit_writes)
unfolding register_at array_register_at
transmit-causes base bytes =
    of-both IsNotOfCauses (ring_setup_writes 0x3800 base bytes) transmit_writes (ring-of IsNotOfCauses 0x3800 base bytes tt tt tt tt tt)
    (of-one IsNotOfCauses 0x0400 0x000400FA tt)

pub mask-causes : All RecordsNone mask_writes
unfolding register_at array_register_at
mask-causes = of-one IsNotOfCauses 0x00D0 0xD1 tt
