-- A host joins or leaves a group.
use Rattle.std.proofs.Common.{Bool, ◌≡◌, ◌≢◌, ◌<◌, ◌*◌, ◌+◌, ◌%◌, ◌++◌, ◌∷◌, [], ℕ, List, length, inl, inr, refl, sym, ap, subst, ◌∙◌}
use Rattle.std.specs.Prelude.{slice_index}
use Rattle.std.specs.List.{All, Contains}
use Rattle.std.specs.Prelude.{Err, Ok, ◌↔◌}
use Rattle.std.specs.Result.{OnErr, OnOk}
use Rattle.std.proofs.lemmas.List.Elements.{All-cons}
use Rattle.std.proofs.lemmas.Bool.{cases_eq}
use Rattle.adapter.proofs.Lists.{all-none}
use Rattle.adapter.specs.bus_types.bus.Bus.{Ghosts}
use Rattle.adapter.specs.bus_types.event.Access.{Access}
use Rattle.adapter.specs.bus_types.event.Access.TheVariants.{Writes}
use Rattle.rx_filter.specs.Addresses.{IsGroup}
use Rattle.rx_filter.specs.GroupLists.{Removes}
use Rattle.adapter.specs.Calls.{IsRefilled, Moment, held_at}
use Rattle.adapter.specs.DriverState.{DriverState}
use Rattle.bring_up.specs.Groups.{ChangesJoined, SetsTable, with_groups, word_of}
use Rattle.bring_up.specs.declared.groups.GroupError.TheVariants.{GroupsFull, Joined, NotGroup, NotJoined}
use Rattle.bring_up.proofs.Numbers.{word_below}
use Rattle.packet_socket.specs.HostActs.{IsGroupWrite, OnlyLastWrites, OverBus, SetsGroups}
use Rattle.packet_socket.specs.HostCalls.{HostMoment, IsReadyHost, driver_at, host_at}
use Rattle.packet_socket.specs.HostEffects.{GroupAnswer, JoinEffect, LeaveEffect, groups_act}
use Rattle.packet_socket.proofs.DriverActs.{driver-acts, last-stage, makes-none}
use Rattle.packet_socket.proofs.Intervals.{with_driver}

-- No access, or one write of a word of the group table

own-sets : (kept : List (List ℕ)) (group : List ℕ) (groups : List (List ℕ)) (accesses : List Access) → SetsTable kept group groups accesses
    → All IsGroupWrite (accesses ++ [])
own-sets kept group groups accesses (inl none) =
    subst (λ (list : List Access). All IsGroupWrite (list ++ [])) (sym none.1) (all-none IsGroupWrite)
own-sets kept group groups accesses (inr one) =
    let write = Writes (0x5200 + 4 * word_of group) one.1.value in
    subst (λ (list : List Access). All IsGroupWrite (list ++ [])) (sym one.1.is)
    (All-cons IsGroupWrite write [] (record { word = word_of group; below = word_below group; is = refl }) (all-none IsGroupWrite))

last-sets : (kept : List (List ℕ)) (group : List ℕ) (groups : List (List ℕ)) (accesses : List Access) → SetsTable kept group groups accesses
    → OnlyLastWrites (accesses ++ [])
last-sets kept group groups accesses (inl none) = subst (λ (list : List Access). OnlyLastWrites (list ++ [])) (sym none.1) tt
last-sets kept group groups accesses (inr one) = subst (λ (list : List Access). OnlyLastWrites (list ++ [])) (sym one.1.is) refl

groups-act : {up : Bool} {B : Type 0} (bus : Ghosts B) (old : HostMoment B) (new : Moment B) (kept : List (List ℕ)) (group : List ℕ)
    (changes : ChangesJoined bus up kept group (driver_at bus old) (held_at (driver_at bus old).driver.handed_out new))
    → IsReadyHost bus up old → new.driver ≡ with_groups new.driver.groups old.host.driver
    → OverBus bus up [] [] old (host_at new.bus (with_driver new.driver old.host))
    (groups_act old.host (with_driver new.driver old.host) changes.accesses)
groups-act bus old new kept group changes is others =
    let ran = changes.ran in
    driver-acts bus old new [] SetsGroups _ ran.past is (λ from to done happened it. it)
    (λ refilled. subst (λ (d : DriverState). IsRefilled d) (sym others) refilled)
    (λ offered. subst (λ (d : DriverState). d.staged ≡ []) (sym others) offered)
    (last-stage new.bus ran.reports ran.only changes.table)
    (own-sets kept group new.driver.groups changes.accesses changes.sets)
    (last-sets kept group new.driver.groups changes.accesses changes.sets) ran.goes ran.follows

-- The effect of a join or a leave, by its result

is-group : (group : List ℕ) (result : GroupAnswer) → ((result ≡ Err NotGroup) ↔ (¬ (IsGroup group))) → result ≢ Err NotGroup → IsGroup group
is-group group result not_group other =
    elim (cases_eq (slice_index group 0 % 2) 1) [ inl is ↦ is | inr not ↦ absurd (other (not_group.1 not)) ]

pub host-joins : {up : Bool} {B : Type 0} (bus : Ghosts B) (old : HostMoment B) (new : Moment B) (group : List ℕ) (result : GroupAnswer)
    → IsReadyHost bus up old
    → ((result ≡ Err NotGroup) ↔ (¬ (IsGroup group)))
    → ((result ≡ Err Joined) ↔ (IsGroup group × Contains old.host.driver.groups group))
    → ((result ≡ Err GroupsFull) ↔ (IsGroup group × (¬ (Contains old.host.driver.groups group)) × (length old.host.driver.groups ≡ 32)))
    → result ≢ Err NotJoined
    → OnErr result ((new.driver ≡ old.host.driver) × (new.bus ≡ old.bus))
    → OnOk result (new.driver ≡ with_groups (old.host.driver.groups ++ group ∷ []) old.host.driver)
    → OnOk result (length old.host.driver.groups < 32)
    → OnOk result (ChangesJoined bus up old.host.driver.groups group (driver_at bus old)
    (held_at (driver_at bus old).driver.handed_out new))
    → JoinEffect group result old.host (with_driver new.driver old.host)
    (OverBus bus up [] [] old (host_at new.bus (with_driver new.driver old.host))) (bus.world old.bus)
host-joins bus old new group (Err NotGroup) is not_group joined full else_ok refused others room changes =
    (not_group.0 refl, makes-none bus old new.bus _ is refused.1 (ap (λ (d : DriverState). with_driver d old.host) refused.0))
host-joins bus old new group (Err Joined) is not_group joined full else_ok refused others room changes =
    let why = joined.0 refl in
    (why.0, why.1, makes-none bus old new.bus _ is refused.1 (ap (λ (d : DriverState). with_driver d old.host) refused.0))
host-joins bus old new group (Err GroupsFull) is not_group joined full else_ok refused others room changes =
    let why = full.0 refl in
    (why.0, why.1, why.2, makes-none bus old new.bus _ is refused.1 (ap (λ (d : DriverState). with_driver d old.host) refused.0))
host-joins bus old new group (Err NotJoined) is not_group joined full else_ok refused others room changes = absurd (else_ok refl)
host-joins bus old new group (Ok u) is not_group joined full else_ok refused others room changes =
    let group_is : IsGroup group = is-group group (Ok u) not_group (λ never. absurd (cc)) in
    let groups : new.driver.groups ≡ old.host.driver.groups ++ group ∷ [] = ap (λ (d : DriverState). d.groups) others in
    record {
      group_is = group_is;
      not_yet = λ has. let never : Ok u ≡ Err Joined = joined.1 (group_is, has) in absurd (cc);
      room = room;
      joined = ap (λ (d : DriverState). with_driver d old.host) others;
      accesses = changes.accesses;
      sets = changes.sets;
      runs = groups-act bus old new old.host.driver.groups group changes is
          (others ∙ ap (λ (list : List (List ℕ)). with_groups list old.host.driver) (sym groups));
    }

pub host-leaves : {up : Bool} {B : Type 0} (bus : Ghosts B) (old : HostMoment B) (new : Moment B) (group : List ℕ) (result : GroupAnswer)
    → IsReadyHost bus up old
    → ((result ≡ Err NotGroup) ↔ (¬ (IsGroup group)))
    → ((result ≡ Err NotJoined) ↔ (IsGroup group × (¬ (Contains old.host.driver.groups group))))
    → (result ≢ Err Joined) × (result ≢ Err GroupsFull)
    → OnErr result ((new.driver ≡ old.host.driver) × (new.bus ≡ old.bus))
    → new.driver ≡ with_groups new.driver.groups old.host.driver
    → OnOk result (Removes group old.host.driver.groups new.driver.groups)
    → OnOk result (ChangesJoined bus up new.driver.groups group (driver_at bus old)
    (held_at (driver_at bus old).driver.handed_out new))
    → LeaveEffect group result old.host (with_driver new.driver old.host)
    (OverBus bus up [] [] old (host_at new.bus (with_driver new.driver old.host))) (bus.world old.bus)
host-leaves bus old new group (Err NotGroup) is not_group not_joined else_ok refused others left changes =
    (not_group.0 refl, makes-none bus old new.bus _ is refused.1 (ap (λ (d : DriverState). with_driver d old.host) refused.0))
host-leaves bus old new group (Err NotJoined) is not_group not_joined else_ok refused others left changes =
    let why = not_joined.0 refl in
    (why.0, why.1, makes-none bus old new.bus _ is refused.1 (ap (λ (d : DriverState). with_driver d old.host) refused.0))
host-leaves bus old new group (Err Joined) is not_group not_joined else_ok refused others left changes = absurd (else_ok.0 refl)
host-leaves bus old new group (Err GroupsFull) is not_group not_joined else_ok refused others left changes = absurd (else_ok.1 refl)
host-leaves bus old new group (Ok u) is not_group not_joined else_ok refused others left changes = record {
  group_is = is-group group (Ok u) not_group (λ never. absurd (cc));
  left = left;
  others = ap (λ (d : DriverState). with_driver d old.host) others;
  accesses = changes.accesses;
  sets = changes.sets;
  runs = groups-act bus old new new.driver.groups group changes is others;
}
