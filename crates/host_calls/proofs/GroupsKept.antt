-- Calls that neither join nor leave a group.
use Rattle.std.proofs.Common.{◌≡◌, ◌++◌, [], List, Result, Ok, Err, ℕ, refl, sym, ap, subst, ◌∙◌}
use Rattle.std.specs.List.{All}
use Rattle.std.proofs.lemmas.List.Elements.{All-append}
use Rattle.adapter.specs.World.{World}
use Rattle.adapter.proofs.Lists.{all-none}
use Rattle.adapter.specs.Pasts.{Past}
use Rattle.adapter.specs.bus_types.event.Access.{Access}
use Rattle.dma_memory.specs.Layout.{Counts}
use Rattle.stations.specs.AtomicRunLaws.{past_join}
use Rattle.stations.specs.AtomicRuns.{past_at}
use Rattle.stations.specs.AtomicSteps.{AtomicStep}
use Rattle.driver.specs.SendSteps.{SendAnswer}
use Rattle.driver.specs.declared.interrupt.Handled.{Handled}
use Rattle.driver.specs.declared.interrupt.Handled.TheVariants.{NotMine}
use Rattle.driver.specs.declared.interrupt.Handled.TheVariants as answers
use Rattle.driver.specs.declared.transmit.SendError.TheVariants.{RingFull, TooLong, TooShort}
use Rattle.packet_socket.specs.HostActs.{HostAct, IsOfDriver}
use Rattle.packet_socket.specs.HostCalls.{Given}
use Rattle.bring_up.specs.declared.groups.GroupError.{GroupError}
use Rattle.bring_up.specs.declared.groups.GroupError.TheVariants.{GroupsFull, Joined, NotGroup, NotJoined}
use Rattle.packet_socket.specs.HostEffects.{InterruptEffect, JoinEffect, LeaveEffect, MakesNoAccess, RecvEffect, SendEffect}
use Rattle.packet_socket.specs.HostState.{HostState}
use Rattle.packet_socket.specs.declared.receive.RecvError.{RecvError}
use Rattle.packet_socket.specs.declared.receive.RecvError.TheVariants.{Empty, NoSocket}
use Rattle.host_calls.specs.CallsInSteps.{InSteps}
use Rattle.host_calls.specs.CallsOfHosts.{GroupsStay}
use Rattle.host_calls.specs.ConnectedHosts.{ConnectedHost}

pub stay-alone : (k : ℕ) (steps : List AtomicStep) (old new : ConnectedHost) → new.host ≡ old.host → (past_at k steps).accesses ≡ []
    → GroupsStay k steps old new
stay-alone k steps old new same none = record {
  groups = ap (λ (h : HostState). h.driver.groups) same;
  setup = ap (λ (h : HostState). h.driver.setup) same;
  accesses = subst (λ (list : List Access). All (IsOfDriver old.host.driver.layout) list) (sym none)
      (all-none (IsOfDriver old.host.driver.layout));
}

pub stay-join : (k : ℕ) (first later : List AtomicStep) (a b c : ConnectedHost) → b.host.driver.layout ≡ a.host.driver.layout
    → GroupsStay k first a b → GroupsStay k later b c → GroupsStay k (first ++ later) a c
stay-join k first later a b c counts one two = record {
  groups = two.groups ∙ one.groups;
  setup = two.setup ∙ one.setup;
  accesses =
      subst (λ (past : Past). All (IsOfDriver a.host.driver.layout) past.accesses) (sym (past_join k first later))
      (All-append (IsOfDriver a.host.driver.layout) (past_at k first).accesses (past_at k later).accesses one.accesses
      (subst (λ (own : Counts). All (IsOfDriver own) (past_at k later).accesses) counts two.accesses));
}

-- Each call except a join or a leave

stay-so : (k : ℕ) (steps : List AtomicStep) (old new : ConnectedHost) {h : HostState} → new.host ≡ h
    → h.driver.groups ≡ old.host.driver.groups → h.driver.setup ≡ old.host.driver.setup
    → All (IsOfDriver old.host.driver.layout) (past_at k steps).accesses → GroupsStay k steps old new
stay-so k steps old new same groups setup own = record {
  groups = ap (λ (h : HostState). h.driver.groups) same ∙ groups;
  setup = ap (λ (h : HostState). h.driver.setup) same ∙ setup;
  accesses = own;
}

pub none-stay : (k : ℕ) (given : List Given) (steps : List AtomicStep) (old new : ConnectedHost)
    → MakesNoAccess old.host new.host (InSteps k given steps old new) → GroupsStay k steps old new
none-stay k given steps old new it = stay-so k steps old new it.stays refl refl it.runs.own

pub send-stay : (frame : List ℕ) (result : SendAnswer) (k : ℕ) (given : List Given) (steps : List AtomicStep) (old new : ConnectedHost)
    (world : World) → SendEffect frame result old.host new.host (InSteps k given steps old new) world → GroupsStay k steps old new
send-stay frame (Ok u) k given steps old new world it = stay-so k steps old new it.others refl refl it.runs.own
send-stay frame (Err TooShort) k given steps old new world it = none-stay k given steps old new it.1
send-stay frame (Err TooLong) k given steps old new world it = none-stay k given steps old new it.1
send-stay frame (Err RingFull) k given steps old new world it = stay-so k steps old new it.stays refl refl it.runs.own

pub recv-stay : (socket : ℕ) (result : Result (List ℕ) RecvError) (k : ℕ) (given : List Given) (steps : List AtomicStep)
    (old new : ConnectedHost) (world : World) → RecvEffect socket result old.host new.host (InSteps k given steps old new) world
    → GroupsStay k steps old new
recv-stay socket (Ok frame) k given steps old new world it = stay-so k steps old new it.others refl refl it.runs.own
recv-stay socket (Err NoSocket) k given steps old new world it = none-stay k given steps old new it.1
recv-stay socket (Err Empty) k given steps old new world it = none-stay k given steps old new it.2

pub interrupt-stay : (result : Handled) (k : ℕ) (given : List Given) (steps : List AtomicStep) (old new : ConnectedHost) (world : World)
    → InterruptEffect result old.host new.host (InSteps k given steps old new) world → GroupsStay k steps old new
interrupt-stay NotMine k given steps old new world it = stay-so k steps old new it.stays refl refl it.runs.own
interrupt-stay (answers.Handled n) k given steps old new world it =
    record { groups = it.only_receives.groups; setup = it.only_receives.setup; accesses = it.runs.own }

-- A join or a leave that returns an error

pub join-refused : (group : List ℕ) (error : GroupError) (h h' : HostState) (Runs : HostAct → Type 0) (world : World)
    → JoinEffect group (Err error) h h' Runs world → MakesNoAccess h h' Runs
join-refused group NotGroup h h' Runs world it = it.1
join-refused group Joined h h' Runs world it = it.2
join-refused group GroupsFull h h' Runs world it = it.3
join-refused group NotJoined h h' Runs world it = absurd it

pub leave-refused : (group : List ℕ) (error : GroupError) (h h' : HostState) (Runs : HostAct → Type 0) (world : World)
    → LeaveEffect group (Err error) h h' Runs world → MakesNoAccess h h' Runs
leave-refused group NotGroup h h' Runs world it = it.1
leave-refused group NotJoined h h' Runs world it = it.2
leave-refused group Joined h h' Runs world it = absurd it
leave-refused group GroupsFull h h' Runs world it = absurd it
