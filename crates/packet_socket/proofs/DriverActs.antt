-- A call that takes and returns no frame, over a bus.
use Rattle.std.proofs.Common.{Bool, ◌≡◌, [], ℕ, List, refl, sym, subst}
use Rattle.std.specs.List.{All}
use Rattle.adapter.proofs.Composition.{happens_none}
use Rattle.adapter.proofs.Lists.{all-none}
use Rattle.adapter.specs.World.{World}
use Rattle.adapter.specs.Pasts.{Past, joined, nothing}
use Rattle.adapter.specs.bus_types.event.Access.{Access}
use Rattle.adapter.specs.bus_types.bus.Bus.{Ghosts}
use Rattle.adapter.proofs.Intervals.{joined-nothing, work_kept}
use Rattle.adapter.specs.Calls.{DriverDid, DriverInWorld, FollowsWrites, GoesTo, IsRefilled, Moment, driver_did, driver_in}
use Rattle.adapter.specs.DriverState.{DriverState, holding}
use Rattle.packet_socket.specs.HostActs.{ActKind, CallStages, IsAccessOf, IsOfDriver, OnlyLastWrites, OverBus, PassesStage, PassesStages}
use Rattle.packet_socket.specs.HostActs.{Ends, accesses_in, changed_by, no_act}
use Rattle.packet_socket.specs.HostCalls.{HostMoment, IsReadyHost, driver_at, driver_of, host_at}
use Rattle.packet_socket.specs.HostEffects.{MakesNoAccess}
use Rattle.packet_socket.specs.HostState.{HostState}
use Rattle.packet_socket.proofs.Intervals.{accounts-stay, driver-stays, host-happens, with_driver}

-- The stages of a call
pub stage : {B : Type 0} {bus : Ghosts B} {made : List Access} {Holds : World → Past → World → Type 0} {Later : B → Past → Type 0} {old : B}
    {past : Past} (middle : B) (before behind : Past) → bus.happened old middle before → before.accesses ≡ made
    → Holds (bus.world old) before (bus.world middle) → Later middle behind → past ≡ joined before behind
    → PassesStage bus made Holds old past Later
stage middle before behind told are held later whole =
    record { middle = middle; before = before; reports = told; made_are = are; holds = held; behind = behind; later = later; whole = whole }

pub last-stage : {B : Type 0} {bus : Ghosts B} {made : List Access} {Holds : World → Past → World → Type 0} {old : B} {past : Past}
    (new : B) → bus.happened old new past → past.accesses ≡ made → Holds (bus.world old) past (bus.world new)
    → PassesStage bus made Holds old past (λ middle behind. PassesStages bus Ends middle new behind)
last-stage {past = past} new told are holds = stage new past nothing told are holds (refl, refl) (sym (joined-nothing past))

-- A call that makes no access

no-acts : {up : Bool} {B : Type 0} (bus : Ghosts B) (now : HostMoment B) → IsReadyHost bus up now → OverBus bus up [] [] now now no_act
no-acts {up} bus now is = record {
  past = nothing;
  stages = (refl, refl);
  own = all-none (IsOfDriver now.host.driver.layout);
  last_writes = tt;
  changed = host-happens now.host (bus.world now.bus) (bus.world now.bus) nothing is.ready (happens_none (bus.world now.bus));
  follows = record {
    set = refl;
    off = λ off leaves. record { none_stored = refl; none_missed = refl };
    link = λ leaves link. link;
  };
  work = λ work. work;
  refilled = λ refilled. refilled;
  offered = λ offered. offered;
}

pub makes-none : {up : Bool} {B : Type 0} (bus : Ghosts B) (old : HostMoment B) (b : B) (h' : HostState) → IsReadyHost bus up old
    → b ≡ old.bus → h' ≡ old.host → MakesNoAccess old.host h' (OverBus bus up [] [] old (host_at b h'))
makes-none {up} {B} bus old b h' is same stays =
    subst (λ (h : HostState). MakesNoAccess old.host h (OverBus bus up [] [] old (host_at b h))) (sym stays)
    (subst (λ (x : B). MakesNoAccess old.host old.host (OverBus bus up [] [] old (host_at x old.host))) (sym same)
    (record { stays = refl; runs = no-acts bus old is }))

-- A call that changes only the driver

-- An interval in which no recorded cause is cleared meets `changed_by` for calls of this kind.
abbrev pub GoesBy : ActKind → Bool → Type 0
GoesBy kind up =
    (old new : DriverInWorld) (done : DriverDid) (past : Past) → GoesTo up old new done past → changed_by kind up old new done past

pub driver-acts : {up : Bool} {B : Type 0} (bus : Ghosts B) (old : HostMoment B) (new : Moment B) (accepted : List (List ℕ))
    (kind : ActKind) (stages : CallStages) (past : Past) → IsReadyHost bus up old → GoesBy kind up
    → (IsRefilled old.host.driver → IsRefilled new.driver) → (old.host.driver.staged ≡ [] → new.driver.staged ≡ [])
    → PassesStages bus stages old.bus new.bus past
    → All (IsAccessOf kind old.host.driver.layout) (accesses_in stages) → OnlyLastWrites (accesses_in stages)
    → GoesTo up (driver_in (driver_at bus old).driver (bus.world old.bus))
    (driver_in (holding (driver_at bus old).driver.handed_out new.driver) (bus.world new.bus)) (driver_did [] accepted) past
    → FollowsWrites (bus.world old.bus) (bus.world new.bus) past
    → OverBus bus up [] accepted old (host_at new.bus (with_driver new.driver old.host))
    (record { stages = stages; kind = kind; taken = [] })
driver-acts {up} bus old new accepted kind stages past is changes refilled offered passes own last goes follows =
    let h = old.host in
    let a = bus.world old.bus in
    let b = bus.world new.bus in
    let d = driver_of h a in
    let h' = with_driver new.driver h in
    let stand = goes.flows.ready.stand in
    let driver : GoesTo up (driver_in d a) (driver_in (driver_of h' b) b) (driver_did [] accepted) past =
    subst (λ (end : DriverState). GoesTo up (driver_in d a) (driver_in end b) (driver_did [] accepted) past)
    (sym (driver-stays h new.driver a b is.ready goes.flows.layout stand)) goes in
    record {
      past = past;
      stages = passes;
      own = own;
      last_writes = last;
      changed = record {
        sizes = is.ready.sizes;
        driver = changes (driver_in d a) (driver_in (driver_of h' b) b) (driver_did [] accepted) past driver;
        accounts = accounts-stay h new.driver a b past.stored is.ready goes.flows.layout stand goes.flows.holds;
      };
      follows = follows;
      work = λ work. let behind = work_kept d (driver_of h' b) a b [] accepted past driver
          (record { enabled = work.enabled; asked = work.asked }) in record { enabled = behind.enabled; asked = behind.asked };
      refilled = refilled;
      offered = offered;
    }
