-- The settings of an adapter: the registers that only a driver's writes change, and values that never change (our choice).
use Rattle.std.specs.Prelude.{⊤, ◌≡◌, ℕ, List, [], ◌∷◌, All, Option, Some}
use Rattle.registers.specs.Bits.{HasBit}
use Rattle.mdic_phy.specs.Phy.{new_phy}
use Rattle.mdic_phy.specs.declared.phy.Link.{Link}
use Rattle.registers.specs.Places.{rctl_en}
use Rattle.rx_filter.specs.Registers.{FilterRegisters}
use Rattle.adapter_model.specs.declared.ring.RingRegisters.{RingRegisters}
use Rattle.adapter_model.specs.Registers.{adapter_at_reset, after_write}
use Rattle.adapter_model.specs.State.{AdapterState}
use Rattle.adapter_model.specs.Table.{register_at}
use Rattle.adapter_model.specs.World.{World}
use Rattle.adapter_model.specs.declared.register.Register.{Register}
use Rattle.adapter_model.specs.declared.register.Register.TheVariants.{Rctl}
use Rattle.bus.specs.Law.{Happens}
use Rattle.bus.specs.Pasts.{Past, joined}
use Rattle.bus.specs.declared.event.Access.{Access}
use Rattle.bus.specs.declared.event.Access.TheVariants.{Loads, Reads, Stores, Writes}

-- The values that only writes of registers change, and the values that never change.
pub record Settings : Type 0 where
  -- The words of the EEPROM, which never change.
  pub image : List ℕ
  -- The setting of the PHY's link, which never changes: the number of ticks of negotiation, or `Never`.
  pub link : Link
  -- The kilobytes of PBA.
  pub receive_kilobytes : ℕ
  -- The value of CTRL.
  pub device_control : ℕ
  -- The mask, IMS.
  pub mask : ℕ
  -- The registers of the receive filter: RAL, RAH, MTA, VFTA, RCTL and VET.
  pub filter : FilterRegisters
  -- The value of TCTL.
  pub transmit_control : ℕ
  -- RDBAL to RDT, with RDH replaced by 0.
  pub receive_ring : RingRegisters
  -- TDBAL to TDT, with TDH replaced by 0.
  pub transmit_ring : RingRegisters

-- The settings of an adapter.
abbrev pub settings_of : AdapterState → Settings
settings_of adapter = record {
  image = adapter.image;
  link = adapter.phy.link;
  receive_kilobytes = adapter.receive_kilobytes;
  device_control = adapter.device_control;
  mask = adapter.causes.mask;
  filter = adapter.filter;
  transmit_control = adapter.transmit_control;
  receive_ring = record adapter.receive_ring { head = 0 };
  transmit_ring = record adapter.transmit_ring { head = 0 };
}

-- An adapter after a reset, but with these settings.
abbrev pub adapter_with : Settings → AdapterState
adapter_with settings = record (adapter_at_reset settings.image (new_phy settings.link) settings.receive_kilobytes) {
  device_control = settings.device_control;
  causes = record { recorded = 0; mask = settings.mask };
  filter = settings.filter;
  transmit_control = settings.transmit_control;
  receive_ring = settings.receive_ring;
  transmit_ring = settings.transmit_ring;
}

-- A register write: an offset, and the word that is written.
pub record Write : Type 0 where
  -- The offset of the register.
  pub offset : ℕ
  -- The word that is written.
  pub value : ℕ

-- The writes among accesses, in order.
abbrev pub writes_in : List Access → List Write
writes_in [] = []
writes_in (Reads offset value ∷ later) = writes_in later
writes_in (Writes offset value ∷ later) = record { offset = offset; value = value } ∷ writes_in later
writes_in (Loads address size ∷ later) = writes_in later
writes_in (Stores address bytes ∷ later) = writes_in later

-- The settings after a write: those of an adapter that had these settings before the write.
abbrev pub settings_after : Write → Settings → Settings
settings_after write settings = settings_of (after_write write.offset write.value (adapter_with settings))

-- The settings after these writes, one after the other.
abbrev pub settings_after_all : List Write → Settings → Settings
settings_after_all [] settings = settings
settings_after_all (write ∷ later) settings = settings_after_all later (settings_after write settings)

-- After an interval, the settings are those after the driver's writes, whatever else happened.
abbrev pub AreSet : World → World → Past → Type 0
AreSet a b past = settings_of b.adapter ≡ settings_after_all (writes_in past.accesses) (settings_of a.adapter)

-- If `AreSet` holds for two consecutive intervals, it holds for the joined interval.
abbrev pub SettingsJoin : Type 0
SettingsJoin = (a b c : World) (first later : Past) → AreSet a b first → AreSet b c later → AreSet a c (joined first later)

-- What happens between two accesses doesn't change the settings.
abbrev pub HappeningsLeaveSettings : Type 0
HappeningsLeaveSettings = (a b : World) (past : Past) → Happens a b past → settings_of b.adapter ≡ settings_of a.adapter

-- A write of any register changes the settings as `settings_after` defines: the effect depends only on the settings.
abbrev pub WritesSet : Type 0
WritesSet =
    (offset value : ℕ) (adapter : AdapterState)
    → settings_of (after_write offset value adapter) ≡ settings_after (record { offset = offset; value = value }) (settings_of adapter)

-- RCTL.EN is 0.
abbrev pub IsOff : World → Type 0
IsOff world = ¬ (HasBit world.adapter.filter.rctl rctl_en)

-- The register isn't RCTL.
abbrev pub IsNotReceiveControl : Option Register → Type 0
IsNotReceiveControl (Some Rctl) = ⊥
IsNotReceiveControl _ = ⊤

-- The write isn't a write of RCTL.
abbrev pub LeavesReceiver : Write → Type 0
LeavesReceiver write = IsNotReceiveControl (register_at write.offset)

-- No frame was stored or missed.
pub record NoArrival (past : Past) : Type 0 where
  -- No frame was stored.
  pub none_stored : past.stored ≡ []
  -- No frame was missed.
  pub none_missed : past.missed ≡ 0

-- If RCTL.EN is 0 and RCTL isn't written, no frame is stored or missed.
abbrev pub WhileOff : World → Past → Type 0
WhileOff a past = IsOff a → All LeavesReceiver (writes_in past.accesses) → NoArrival past

-- If RCTL.EN is 0, it is still 0 after writes of registers other than RCTL, even after a reset.
abbrev pub StaysOff : Type 0
StaysOff = (writes : List Write) (settings : Settings) → All LeavesReceiver writes → ¬ (HasBit settings.filter.rctl rctl_en)
    → ¬ (HasBit (settings_after_all writes settings).filter.rctl rctl_en)
