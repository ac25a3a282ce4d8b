-- A link that is up remains up: whatever happens, and at accesses that don't change the PHY.
use Rattle.std.proofs.Common.{◌≡◌, [], ℕ, zero, suc, Bool, true, false, cond, Option, Some, None, refl, sym, subst, ap}
use Rattle.std.specs.Fn.{iterate}
use Rattle.std.specs.List.{All}
use Rattle.std.proofs.lemmas.Bool.{false≢true}
use Rattle.mdic_phy.specs.declared.mdic.Operation.{Operation}
use Rattle.mdic_phy.specs.declared.phy.Negotiation.{Negotiation}
use Rattle.mdic_phy.specs.declared.phy.Negotiation.TheVariants.{NotStarted, Running, Complete}
use Rattle.mdic_phy.specs.Mdic.{has_work, mdic_after_tick, phy_after_tick, phy_ended}
use Rattle.mdic_phy.specs.Phy.{after_tick, counted_down, is_complete, link_is_up}
use Rattle.adapter_model.specs.Registers.{after_read, after_write, left_by_write, write_of}
use Rattle.adapter_model.specs.State.{AdapterState}
use Rattle.adapter_model.specs.Table.{register_at}
use Rattle.adapter_model.specs.World.{World}
use Rattle.adapter_model.specs.declared.register.Register.{Register}
use Rattle.adapter_model.specs.declared.register.Register.TheVariants.{Ctrl, Mdic}
use Rattle.bus.specs.Law.{Management, management_of, phy_ticked}
use Rattle.bus.specs.Link.{AccessesKeepLink, HappeningsKeepLink, HasLink, IsNotOfPhy, LeavesPhy, LinkIntervalsJoin}
use Rattle.bus.specs.Settings.{Write, writes_in}
use Rattle.bus.specs.declared.event.Access.TheVariants.{Loads, Reads, Stores, Writes}
use Rattle.bus.proofs.Lists.{all-head, all-left, all-right}
use Rattle.bus.proofs.Settings.{writes-append}
use Rattle.bus.proofs.RegisterWrites.{read-counts}

-- The link after ticks.

-- The link is up, and no command is pending.
record IsUp (management : Management) : Type 0 where
  up : link_is_up management.phy ≡ true
  no_command : management.mdic.pending ≡ None

complete-stays : (negotiation : Negotiation) → is_complete negotiation ≡ true → is_complete (counted_down negotiation) ≡ true
complete-stays NotStarted up = up
complete-stays (Running left) up = absurd (false≢true up)
complete-stays Complete up = refl

abbrev ticked : Management → Management
ticked management = record { mdic = mdic_after_tick management.mdic management.phy; phy = phy_after_tick management.mdic management.phy }

tick-keeps : (management : Management) → IsUp management → IsUp (phy_ticked management)
tick-keeps management is = by_case (has_work management.mdic management.phy)
  where
    ended : IsUp (ticked management)
    ended = record {
      up =
          subst (λ (pending : Option Operation). link_is_up (phy_ended pending management.mdic.value (after_tick management.phy)) ≡ true)
          (sym is.no_command)
          (complete-stays management.phy.negotiation is.up);
      no_command = refl;
    }

    by_case : (works : Bool) → IsUp (cond works (ticked management) management)
    by_case true = ended
    by_case false = is

ticks-keep : (n : ℕ) (management : Management) → IsUp management → IsUp (iterate phy_ticked n management)
ticks-keep zero management is = is
ticks-keep (suc n) management is = ticks-keep n (phy_ticked management) (tick-keeps management is)

pub happenings_keep_link : HappeningsKeepLink
happenings_keep_link a b past happens link =
    let before : IsUp (management_of a.adapter) = record { up = link.up; no_command = link.no_command } in
    let behind = subst IsUp (sym happens.steady.ticks.management) (ticks-keep past.phy_ticks (management_of a.adapter) before) in
    record { up = behind.up; no_command = behind.no_command }

-- The link after accesses.

same-management : (a b : World) → management_of b.adapter ≡ management_of a.adapter → HasLink a → HasLink b
same-management a b same link =
    let before : IsUp (management_of a.adapter) = record { up = link.up; no_command = link.no_command } in
    let behind = subst IsUp (sym same) before in
    record { up = behind.up; no_command = behind.no_command }

reads-leave_line : (offset : ℕ) (adapter : AdapterState) → management_of (after_read offset adapter) ≡ management_of adapter
reads-leave_line offset adapter = ap management_of (read-counts offset adapter)

write-leaves_line : (register : Register) (value : ℕ) (adapter : AdapterState) → IsNotOfPhy (Some register)
    → management_of (write_of register value adapter) ≡ management_of adapter
write-leaves_line Ctrl value adapter other = absurd other
write-leaves_line Mdic value adapter other = absurd other
write-leaves_line _ value adapter other = refl

writes-leave_management : (write : Write) (adapter : AdapterState) → LeavesPhy write
    → management_of (after_write write.offset write.value adapter) ≡ management_of adapter
writes-leave_management write adapter leaves = by_case (register_at write.offset) leaves
  where
    by_case : (found : Option Register) → IsNotOfPhy found → management_of (left_by_write found write.value adapter) ≡ management_of adapter
    by_case None other = refl
    by_case (Some register) other = write-leaves_line register write.value adapter other

pub accesses_keep_link : AccessesKeepLink
accesses_keep_link (Reads offset value) world leaves link = same-management world _ (reads-leave_line offset world.adapter) link
accesses_keep_link (Writes offset value) world leaves link =
    let write : Write = record { offset = offset; value = value } in
    same-management world _ (writes-leave_management write world.adapter (all-head LeavesPhy write [] leaves)) link
accesses_keep_link (Loads address size) world leaves link = link
accesses_keep_link (Stores address bytes) world leaves link = record { up = link.up; no_command = link.no_command }

pub link_intervals_join : LinkIntervalsJoin
link_intervals_join a b c first later one two = λ leaves link.
    let writes = subst (All LeavesPhy) (writes-append first.accesses later.accesses) leaves in
    two (all-right LeavesPhy (writes_in first.accesses) (writes_in later.accesses) writes)
    (one (all-left LeavesPhy (writes_in first.accesses) (writes_in later.accesses) writes) link)
