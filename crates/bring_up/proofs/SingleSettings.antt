-- The settings after writes of single registers.
use Rattle.std.proofs.Common.{◌≡◌, ◌++◌, ◌%◌, ℕ, Bool, true, false, List, refl, ap, ◌∙◌, arith}
use Rattle.std.proofs.lemmas.Bool.Decides.{nat_tests}
use Rattle.mdic_phy.specs.Phy.{new_phy}
use Rattle.adapter.specs.PacketBuffer.{IsAllocation, allocation_written}
use Rattle.adapter.specs.Registers.{adapter_at_reset}
use Rattle.adapter.specs.State.{AdapterState}
use Rattle.adapter.specs.Table.{array_register_at, register_at}
use Rattle.adapter.specs.Settings.{Settings, Write, settings_after_all, settings_of}
use Rattle.adapter.proofs.Settings.{settings-append}
use Rattle.bring_up.specs.RingRegisters.{receive_control, receive_writes, transmit_writes}
use Rattle.bring_up.specs.WrittenRegisters.{allocation_writes, enable_link_writes, mask_writes, reset_writes}

-- These writes change the settings of the first adapter to those of the second.
abbrev pub SetTo : List Write → (old new : AdapterState) → Type 0
SetTo writes old new = settings_after_all writes (settings_of old) ≡ settings_of new

pub groups-join : (first later : List Write) (old middle new : Settings)
    → settings_after_all first old ≡ middle → settings_after_all later middle ≡ new → settings_after_all (first ++ later) old ≡ new
groups-join first later old middle new one two = settings-append first later old ∙ ap (settings_after_all later) one ∙ two

pub set-join : (first later : List Write) (old middle new : AdapterState)
    → SetTo first old middle → SetTo later middle new → SetTo (first ++ later) old new
set-join first later old middle new one two = groups-join first later (settings_of old) (settings_of middle) (settings_of new) one two

-- The writes of a reset give each setting its reset value, except the EEPROM, the PHY's link and PBA, which don't change.
pub reset-sets : (settings : Settings)
    → settings_after_all reset_writes settings
    ≡ settings_of (adapter_at_reset settings.image (new_phy settings.link) settings.receive_kilobytes)
unfolding register_at array_register_at
reset-sets settings = refl

allocation-fits : (kilobytes old : ℕ) → IsAllocation kilobytes → allocation_written kilobytes old ≡ kilobytes
allocation-fits kilobytes old fits =
    let least = fits.least in
    let most = fits.most in
    let even = fits.even in
    let low : kilobytes % 65536 ≡ kilobytes = omega arith in
    rw low (grind (arith, nat_tests))

pub allocation-sets : (kilobytes : ℕ) (adapter : AdapterState) → IsAllocation kilobytes
    → SetTo (allocation_writes kilobytes) adapter (record adapter { receive_kilobytes = kilobytes })
unfolding register_at array_register_at
allocation-sets kilobytes adapter fits =
    ap (λ (n : ℕ). settings_of (record adapter { receive_kilobytes = n })) (allocation-fits kilobytes adapter.receive_kilobytes fits)

pub link-sets : (adapter : AdapterState) → SetTo enable_link_writes adapter (record adapter { device_control = 0x60 })
unfolding register_at array_register_at
link-sets adapter = refl

pub receive-sets : (promiscuous by_vlan : Bool) (adapter : AdapterState)
    → SetTo (receive_writes promiscuous by_vlan) adapter
    (record adapter { filter = record adapter.filter { rctl = receive_control promiscuous by_vlan } })
unfolding register_at array_register_at
receive-sets true true adapter = refl
receive-sets true false adapter = refl
receive-sets false true adapter = refl
receive-sets false false adapter = refl

pub transmit-sets : (adapter : AdapterState) → SetTo transmit_writes adapter (record adapter { transmit_control = 0x000400FA })
unfolding register_at array_register_at
transmit-sets adapter = refl

pub mask-sets : (adapter : AdapterState) → adapter.causes.mask ≡ 0
    → SetTo mask_writes adapter (record adapter { causes = record adapter.causes { mask = 0xD1 } })
unfolding register_at array_register_at
mask-sets adapter none = rw none refl
