-- A link that is up remains up while a driver sets the adapter up (our choice).
use Rattle.std.specs.Prelude.{⊤, ◌≡◌, true, [], ◌∷◌, All, Option, Some, None}
use Rattle.mdic_phy.specs.Phy.{link_is_up}
use Rattle.adapter_model.specs.Table.{register_at}
use Rattle.adapter_model.specs.World.{World}
use Rattle.adapter_model.specs.declared.register.Register.{Register}
use Rattle.adapter_model.specs.declared.register.Register.TheVariants.{Ctrl, Mdic}
use Rattle.bus.specs.Law.{Happens}
use Rattle.bus.specs.Pasts.{Past, joined}
use Rattle.bus.specs.Settings.{Write, writes_in}
use Rattle.bus.specs.Trails.{world_after_access}
use Rattle.bus.specs.declared.event.Access.{Access}

-- The link is up, and no command of MDIC is pending, so that only ticks reach the PHY.
pub record HasLink (world : World) : Type 0 where
  -- The PHY's link is up.
  pub up : link_is_up world.adapter.phy ≡ true
  -- No MDIC command is pending.
  pub no_command : world.adapter.mdic.pending ≡ None

-- The register is neither CTRL nor MDIC.
abbrev pub IsNotOfPhy : Option Register → Type 0
IsNotOfPhy (Some Ctrl) = ⊥
IsNotOfPhy (Some Mdic) = ⊥
IsNotOfPhy _ = ⊤

-- The write is neither a write of CTRL nor a write of MDIC.
abbrev pub LeavesPhy : Write → Type 0
LeavesPhy write = IsNotOfPhy (register_at write.offset)

-- If neither CTRL nor MDIC is written in an interval, and `HasLink` holds before the interval, `HasLink` holds after it.
abbrev pub KeepsLink : World → World → Past → Type 0
KeepsLink a b past = All LeavesPhy (writes_in past.accesses) → HasLink a → HasLink b

-- `HasLink` remains true, whatever happens between two accesses.
abbrev pub HappeningsKeepLink : Type 0
HappeningsKeepLink = (a b : World) (past : Past) → Happens a b past → HasLink a → HasLink b

-- `HasLink` remains true after an access that writes neither CTRL nor MDIC.
abbrev pub AccessesKeepLink : Type 0
AccessesKeepLink =
    (access : Access) (world : World) → All LeavesPhy (writes_in (access ∷ [])) → HasLink world → HasLink (world_after_access access world)

-- If `KeepsLink` holds for each of two consecutive intervals, it holds for both together.
abbrev pub LinkIntervalsJoin : Type 0
LinkIntervalsJoin = (a b c : World) (first later : Past) → KeepsLink a b first → KeepsLink b c later → KeepsLink a c (joined first later)
