-- The register writes of a call of initialization over a bus (our choice).
use Rattle.std.specs.Prelude.{⊤, ◌≡◌, ℕ, List, All, Option, Some}
use Rattle.adapter.specs.Table.{register_at}
use Rattle.adapter.specs.World.{world_after_write}
use Rattle.adapter.specs.model_types.register.Register.{Register}
use Rattle.adapter.specs.model_types.register.Register.TheVariants.{Icr, Ics}
use Rattle.adapter.specs.AdaptersAtRest.{IsAtRest, IsElsewhere, NoFrame}
use Rattle.adapter.specs.Keeping.{view_of}
use Rattle.adapter.specs.Law.{Acts}
use Rattle.adapter.specs.Link.{HasLink, LeavesPhy}
use Rattle.adapter.specs.Pasts.{Past}
use Rattle.adapter.specs.Settings.{Write, settings_after_all, settings_of, writes_in}
use Rattle.adapter.specs.bus_types.bus.Bus.{Ghosts}
use Rattle.adapter.specs.bus_types.event.Access.TheVariants.{Writes}
use Rattle.bring_up.specs.DriverSteps.{accesses_of}

-- The write is neither a write of RCTL nor of a register of a ring.
abbrev pub IsAside : Write → Type 0
IsAside write = IsElsewhere (register_at write.offset)

-- The register is neither ICR nor ICS.
abbrev pub IsNotOfCauses : Option Register → Type 0
IsNotOfCauses (Some Icr) = ⊥
IsNotOfCauses (Some Ics) = ⊥
IsNotOfCauses _ = ⊤

-- The write writes neither ICR nor ICS, so it records no interrupt cause.
abbrev pub RecordsNone : Write → Type 0
RecordsNone write = IsNotOfCauses (register_at write.offset)

-- No access writes ICR or ICS.
abbrev pub RecordsNoCause : Past → Type 0
RecordsNoCause past = All RecordsNone (writes_in past.accesses)

-- The call makes these writes in this order, and may also read registers, load and store. The settings change only by
-- these writes, whatever else happens. If RCTL and the rings' registers aren't written, an adapter at rest remains at
-- rest. Then no frame is put on the wire, stored or missed, and memory doesn't change. Let the link be up, and no MDIC
-- command be pending. Both remain true if neither CTRL nor MDIC is written.
pub record Sets {B : Type 0} (bus : Ghosts B) (writes : List Write) (old new : B) : Type 0 where
  pub past : Past
  pub reports : bus.happened old new past
  pub writes_are : writes_in past.accesses ≡ writes
  pub settings : settings_of (bus.world new).adapter ≡ settings_after_all writes (settings_of (bus.world old).adapter)
  pub rests : All IsAside writes → IsAtRest (bus.world old) → IsAtRest (bus.world new) × NoFrame past
  pub memory : All IsAside writes → IsAtRest (bus.world old) → (bus.world new).memory ≡ (bus.world old).memory
  pub link : All LeavesPhy writes → HasLink (bus.world old) → HasLink (bus.world new)

-- The call makes exactly these writes, and no other access.
pub record SetsOnly {B : Type 0} (bus : Ghosts B) (writes : List Write) (old new : B) : Type 0 where
  pub sets : Sets bus writes old new
  pub only : sets.past.accesses ≡ accesses_of writes

-- One write of a register. Adapter steps and deliveries may happen before the write, and there is no other access.
abbrev pub WriteActs : {B : Type 0} → Ghosts B → (old new : B) → (offset value : ℕ) → Type 0
WriteActs bus old new offset value =
    Acts (view_of bus) old new (Writes offset value) (λ before after. after ≡ world_after_write offset value before)

-- The call writes no register except the one at `offset`, and the settings don't change. An adapter at rest remains at rest, and then no
-- frame is put on the wire, stored or missed.
pub record WritesOneRegister {B : Type 0} (bus : Ghosts B) (offset : ℕ) (old new : B) : Type 0 where
  pub past : Past
  pub reports : bus.happened old new past
  pub only : All (λ write. write.offset ≡ offset) (writes_in past.accesses)
  pub settings : settings_of (bus.world new).adapter ≡ settings_of (bus.world old).adapter
  pub rests : IsAtRest (bus.world old) → IsAtRest (bus.world new) × NoFrame past
