-- Only a driver's writes change the settings.
use Rattle.std.proofs.Common.{Bool, List, None, Option, Some, [], ap, false, if◌then◌else◌, refl, subst, sym, true, ℕ, ◌++◌, ◌∙◌, ◌∷◌, ◌≡◌}
use Rattle.std.specs.List.{All}
use Rattle.registers.specs.Bits.{HasBit}
use Rattle.registers.specs.Laws.{HasBit-zero}
use Rattle.adapter_model.specs.declared.register.Register.{Register}
use Rattle.adapter_model.specs.declared.register.Register.TheVariants.{Rctl, Receive, Transmit}
use Rattle.adapter_model.specs.declared.register.RingRegister.TheVariants.{BaseLow, BaseHigh, Length, Head, Tail}
use Rattle.adapter_model.specs.declared.ring.RingRegisters.{RingRegisters}
use Rattle.adapter_model.specs.Registers.{after_read, after_reset, by_row, is_reset, left_by_write}
use Rattle.adapter_model.specs.State.{AdapterState}
use Rattle.adapter_model.specs.Table.{register_at, row_of}
use Rattle.bus.specs.declared.event.Access.{Access}
use Rattle.bus.specs.declared.event.Access.TheVariants.{Loads, Reads, Stores, Writes}
use Rattle.adapter_model.specs.World.{World}
use Rattle.bus.proofs.Lists.{all-head, all-left, all-right, all-tail}
use Rattle.bus.proofs.LinkSettings.{link-ticks}
use Rattle.bus.specs.Law.{Management, management_of, Happens}
use Rattle.bus.specs.Pasts.{Past, joined}
use Rattle.bus.specs.Settings.{adapter_with, AreSet, HappeningsLeaveSettings, IsNotReceiveControl, IsOff, LeavesReceiver, NoArrival}
use Rattle.bus.specs.Settings.{Settings, settings_after, settings_after_all, settings_of, SettingsJoin, StaysOff, WhileOff, Write}
use Rattle.bus.specs.Settings.{writes_in, WritesSet}
use Rattle.bus.proofs.RegisterWrites.{read-counts}

same-settings : (a b : AdapterState) → b.image ≡ a.image → b.phy.link ≡ a.phy.link → b.receive_kilobytes ≡ a.receive_kilobytes
    → b.device_control ≡ a.device_control → b.causes.mask ≡ a.causes.mask
    → b.filter ≡ a.filter → b.transmit_control ≡ a.transmit_control → b.receive_ring ≡ record a.receive_ring { head = b.receive_ring.head }
    → b.transmit_ring ≡ record a.transmit_ring { head = b.transmit_ring.head } → settings_of b ≡ settings_of a
same-settings a b image link kilobytes control mask filter transmit_control receive transmit =
    let headless : RingRegisters → RingRegisters = λ ring. record ring { head = 0 } in
    rw (image, link, kilobytes, control, mask, filter, transmit_control, ap headless receive, ap headless transmit) refl

pub happenings_leave_settings : HappeningsLeaveSettings
happenings_leave_settings a b past happens =
    let steady = happens.steady in
    let stay = steady.registers in
    same-settings a.adapter b.adapter steady.image (ap (λ (management : Management). management.phy.link) steady.ticks.management
    ∙ link-ticks past.phy_ticks (management_of a.adapter)) stay.allocation stay.device_control stay.mask stay.filter
    stay.transmit_control steady.receive_ring.others steady.transmit_ring.others

pub reads-leave : (offset : ℕ) (adapter : AdapterState) → settings_of (after_read offset adapter) ≡ settings_of adapter
reads-leave offset adapter = ap settings_of (read-counts offset adapter)

row-sets : (register : Register) (value : ℕ) (adapter : AdapterState)
    → settings_of (by_row (row_of register).kept register value adapter)
    ≡ settings_of (by_row (row_of register).kept register value (adapter_with (settings_of adapter)))
row-sets (Receive BaseLow) value adapter = refl
row-sets (Receive BaseHigh) value adapter = refl
row-sets (Receive Length) value adapter = refl
row-sets (Receive Head) value adapter = refl
row-sets (Receive Tail) value adapter = refl
row-sets (Transmit BaseLow) value adapter = refl
row-sets (Transmit BaseHigh) value adapter = refl
row-sets (Transmit Length) value adapter = refl
row-sets (Transmit Head) value adapter = refl
row-sets (Transmit Tail) value adapter = refl
row-sets _ value adapter = refl

pub writes-set : WritesSet
writes-set offset value adapter = by_case (register_at offset)
  where
    rest : AdapterState
    rest = adapter_with (settings_of adapter)

    by_test : (register : Register) (test : Bool)
        → settings_of (if test then after_reset adapter else by_row (row_of register).kept register value adapter)
        ≡ settings_of (if test then after_reset rest else by_row (row_of register).kept register value rest)
    by_test register true = refl
    by_test register false = row-sets register value adapter

    by_case : (found : Option Register) → settings_of (left_by_write found value adapter) ≡ settings_of (left_by_write found value rest)
    by_case None = refl
    by_case (Some register) = by_test register (is_reset register value)

pub settings-append : (first later : List Write) (settings : Settings)
    → settings_after_all (first ++ later) settings ≡ settings_after_all later (settings_after_all first settings)
settings-append [] later settings = refl
settings-append (write ∷ first) later settings = settings-append first later _

pub writes-append : (first later : List Access) → writes_in (first ++ later) ≡ writes_in first ++ writes_in later
writes-append [] later = refl
writes-append (Reads offset value ∷ first) later = writes-append first later
writes-append (Writes offset value ∷ first) later = ap
    (λ (list : List Write). (let write : Write = record { offset = offset; value = value } in write) ∷ list) (writes-append first later)
writes-append (Loads address size ∷ first) later = writes-append first later
writes-append (Stores address bytes ∷ first) later = writes-append first later

pub settings_join : SettingsJoin
settings_join a b c first later one two =
    two
    ∙ ap (settings_after_all (writes_in later.accesses)) one
    ∙ sym (settings-append (writes_in first.accesses) (writes_in later.accesses) (settings_of a.adapter))
    ∙ ap (λ (list : List Write). settings_after_all list (settings_of a.adapter)) (sym (writes-append first.accesses later.accesses))

-- While RCTL.EN is 0, no frame is stored or missed.

row-leaves_receiver : (register : Register) (value : ℕ) (state : AdapterState) → IsNotReceiveControl (Some register)
    → (by_row (row_of register).kept register value state).filter.rctl ≡ state.filter.rctl
row-leaves_receiver Rctl value state other = absurd other
row-leaves_receiver _ value state other = refl

stays-off-once : (write : Write) (settings : Settings) → LeavesReceiver write → ¬ (HasBit settings.filter.rctl 1)
    → ¬ (HasBit (settings_after write settings).filter.rctl 1)
stays-off-once write settings leaves off = by_case (register_at write.offset) leaves
  where
    by_test : (register : Register) (test : Bool) → IsNotReceiveControl (Some register)
        → ¬ (HasBit (if test then after_reset (adapter_with settings) else by_row (row_of register).kept register write.value
        (adapter_with settings)).filter.rctl 1)
    by_test register true other = HasBit-zero 1
    by_test register false other = subst (λ (control : ℕ). ¬ (HasBit control 1))
        (sym (row-leaves_receiver register write.value (adapter_with settings) other)) off

    by_case : (found : Option Register) → IsNotReceiveControl found
        → ¬ (HasBit (left_by_write found write.value (adapter_with settings)).filter.rctl 1)
    by_case None other = off
    by_case (Some register) other = by_test register (is_reset register write.value) other

pub stays-off : StaysOff
stays-off [] settings leaves off = off
stays-off (write ∷ later) settings leaves off =
    stays-off later (settings_after write settings) (all-tail LeavesReceiver write later leaves)
    (stays-off-once write settings (all-head LeavesReceiver write later leaves) off)

pub happens-off : (a b : World) (past : Past) → Happens a b past → IsOff a → NoArrival past
happens-off a b past happens off = let none = happens.steady.arrivals.off off in record { none_stored = none.0; none_missed = none.1 }

pub while_off-joins : (a b : World) (first later : Past) → AreSet a b first → WhileOff a first → WhileOff b later
    → WhileOff a (joined first later)
while_off-joins a b first later set one two = λ off leaves.
    let writes = subst (All LeavesReceiver) (writes-append first.accesses later.accesses) leaves in
    let before = all-left LeavesReceiver (writes_in first.accesses) (writes_in later.accesses) writes in
    let still : IsOff b = subst (λ (settings : Settings). ¬ (HasBit settings.filter.rctl 1)) (sym set)
    (stays-off (writes_in first.accesses) (settings_of a.adapter) before off) in
    let start = one off before in
    let end = two still (all-right LeavesReceiver (writes_in first.accesses) (writes_in later.accesses) writes) in
    record { none_stored = rw (start.none_stored, end.none_stored) refl; none_missed = rw (start.none_missed, end.none_missed) refl }

-- No write changes the words of the EEPROM or the setting of the link.

record SameDevice (a b : Settings) : Type 0 where
  image : b.image ≡ a.image
  link : b.link ≡ a.link

row-device : (register : Register) (value : ℕ) (settings : Settings)
    → SameDevice settings (settings_of (by_row (row_of register).kept register value (adapter_with settings)))
row-device Rctl value settings = record { image = refl; link = refl }
row-device (Receive part) value settings = record { image = refl; link = refl }
row-device (Transmit part) value settings = record { image = refl; link = refl }
row-device _ value settings = record { image = refl; link = refl }

write-device : (write : Write) (settings : Settings) → SameDevice settings (settings_after write settings)
write-device write settings = by_case (register_at write.offset)
  where
    by_test : (register : Register) (test : Bool)
        → SameDevice settings
        (settings_of (if test then after_reset (adapter_with settings) else by_row (row_of register).kept register write.value
        (adapter_with settings)))
    by_test register true = record { image = refl; link = refl }
    by_test register false = row-device register write.value settings

    by_case : (found : Option Register) → SameDevice settings (settings_of (left_by_write found write.value (adapter_with settings)))
    by_case None = record { image = refl; link = refl }
    by_case (Some register) = by_test register (is_reset register write.value)

pub image-stays : (writes : List Write) (settings : Settings) → (settings_after_all writes settings).image ≡ settings.image
image-stays [] settings = refl
image-stays (write ∷ later) settings = image-stays later (settings_after write settings) ∙ (write-device write settings).image

pub link-stays : (writes : List Write) (settings : Settings) → (settings_after_all writes settings).link ≡ settings.link
link-stays [] settings = refl
link-stays (write ∷ later) settings = link-stays later (settings_after write settings) ∙ (write-device write settings).link
