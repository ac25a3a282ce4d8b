-- What a call of a host does, stage by stage (our choice). An effect states the stages once, and passes them to its argument `Runs`. Over a
-- bus, `Runs` is `OverBus`; in the steps of a network, `Runs` is `InSteps` of the crate `host_calls`.
use Rattle.std.specs.Prelude.{⊤, ◌≡◌, ◌<◌, ◌⊎◌, ◌+◌, ◌*◌, ◌++◌, ◌∷◌, [], ℕ, Bool, true, All, List}
use Rattle.dma_memory.specs.Layout.{Counts}
use Rattle.adapter.specs.World.{World}
use Rattle.adapter.specs.model_types.offsets.TheConstants.{ICR, MPC, MTA, RDT, REGISTER_BYTES, TDT}
use Rattle.rx_filter.specs.declared.filter.TheConstants.{TABLE_WORDS}
use Rattle.adapter.specs.Pasts.{Past, joined, nothing}
use Rattle.adapter.specs.bus_types.bus.Bus.{Ghosts}
use Rattle.adapter.specs.bus_types.event.Access.{Access}
use Rattle.adapter.specs.bus_types.event.Access.TheVariants.{Loads, Reads, Stores, Writes}
use Rattle.adapter.specs.Calls.{DriverDid, DriverInWorld, FlowsTo, FollowsWrites, GoesTo, HasNoForgottenWork, IsRefilled, driver_in}
use Rattle.packet_socket.specs.HostCalls.{Given, HostInterval, HostMoment, IsReadyHost, host_did, in_world}
use Rattle.packet_socket.specs.HostState.{HostState}

-- The stages of a call, in order. A stage consists of some accesses (`made`) and a fact (`Holds`). The fact is about three things: the
-- world when the stage begins, what happens in the stage, and the world when it ends. A stage ends at a moment after its last access,
-- before the next access. In the steps of a network, this moment is right after its last access.
pub data CallStages : Type 1 where
  Ends : CallStages
  Then : (made : List Access) → (Holds : World → Past → World → Type 0) → (later : CallStages) → CallStages

-- the accesses of all stages, in order
abbrev pub accesses_in : CallStages → List Access
accesses_in Ends = []
accesses_in (Then made Holds later) = made ++ accesses_in later

-- The kind of a call: it handles an interrupt, sends or returns a frame, or changes the groups that the host has joined. The first access
-- of a call that handles an interrupt reads ICR. `no_act` has the kind `MovesFrames`.
pub data ActKind : Type 0 where
  HandlesInterrupt : ActKind
  MovesFrames : ActKind
  SetsGroups : ActKind

-- What a call does: its stages, its kind, and the frames taken. An effect passes this record to `Runs`.
pub record HostAct : Type 1 where
  -- the stages of its accesses
  pub stages : CallStages
  -- the kind of the call, which determines what its accesses may be
  pub kind : ActKind
  -- the frames that the call takes off the receive ring
  pub taken : List (List ℕ)

-- a call that makes no access and takes no frame
abbrev pub no_act : HostAct
no_act = record { stages = Ends; kind = MovesFrames; taken = [] }

-- A write of `value` at `offset` writes RDT or TDT, with the index of a slot of this register's ring.
abbrev pub IsTailWrite : Counts → (offset value : ℕ) → Type 0
IsTailWrite counts offset value = ((offset ≡ RDT) × (value < counts.rx)) ⊎ ((offset ≡ TDT) × (value < counts.tx))

-- The access may be one of a call that handles an interrupt or moves frames. Such an access is a load, a store, a read of ICR or MPC, or a
-- write that meets `IsTailWrite`.
abbrev pub IsOfDriver : Counts → Access → Type 0
IsOfDriver counts (Reads offset value) = (offset ≡ ICR) ⊎ (offset ≡ MPC)
IsOfDriver counts (Writes offset value) = IsTailWrite counts offset value
IsOfDriver counts (Loads address size) = ⊤
IsOfDriver counts (Stores address bytes) = ⊤

-- The offset is that of a word of the group table.
pub record IsGroupWord (offset : ℕ) : Type 0 where
  -- the index of the word
  pub word : ℕ
  -- the table has such a word
  pub below : word < TABLE_WORDS
  -- the offset is that of this word
  pub is : offset ≡ MTA + REGISTER_BYTES * word

-- The access is a write of a word of the group table.
abbrev pub IsGroupWrite : Access → Type 0
IsGroupWrite (Writes offset value) = IsGroupWord offset
IsGroupWrite _ = ⊥

-- The access may be one of a call of this kind.
abbrev pub IsAccessOf : ActKind → Counts → Access → Type 0
IsAccessOf HandlesInterrupt = IsOfDriver
IsAccessOf MovesFrames = IsOfDriver
IsAccessOf SetsGroups = λ counts. IsGroupWrite

-- The access may be one of any call of a host.
abbrev pub IsOfHost : Counts → Access → Type 0
IsOfHost counts access = IsOfDriver counts access ⊎ IsGroupWrite access

-- Only the last access may write a register. So a call offers slots of a ring only by its last access.
abbrev pub OnlyLastWrites : List Access → Type 0
OnlyLastWrites [] = ⊤
OnlyLastWrites (Reads offset value ∷ later) = OnlyLastWrites later
OnlyLastWrites (Writes offset value ∷ later) = later ≡ []
OnlyLastWrites (Loads address size ∷ later) = OnlyLastWrites later
OnlyLastWrites (Stores address bytes ∷ later) = OnlyLastWrites later

-- The first access reads ICR. `FlowsTo` holds for the whole interval. `GoesTo` holds from a moment after this read, before the next access
-- (`asked`), to the end, so no cause is cleared after this moment.
pub record ReadsThenGoes (up : Bool) (old new : DriverInWorld) (did : DriverDid) (past : Past) : Type 0 where
  pub flows : FlowsTo up old new did past
  -- the world at this moment
  pub asked : World
  pub causes : ℕ
  pub first : Past
  pub reads : first.accesses ≡ Reads ICR causes ∷ []
  pub later : Past
  pub whole : past ≡ joined first later
  pub goes : GoesTo up (driver_in old.driver asked) new did later

-- What changes in the interval of a call of this kind. Only a call that handles an interrupt may clear causes, by its first access.
abbrev pub changed_by : ActKind → (up : Bool) → DriverInWorld → DriverInWorld → DriverDid → Past → Type 0
changed_by HandlesInterrupt up = ReadsThenGoes up
changed_by MovesFrames up = GoesTo up
changed_by SetsGroups up = GoesTo up

-- Over a bus

-- The first stage of a call over a bus: its accesses are `made`, and `Holds` relates the worlds at its beginning and its end. `Later` holds
-- of the bus at its end, and of what happened after this stage.
pub record PassesStage {B : Type 0} (bus : Ghosts B) (made : List Access) (Holds : World → Past → World → Type 0) (old : B) (past : Past)
    (Later : B → Past → Type 0) : Type 0 where
  -- the bus when the stage ends: after its last access, before the next access
  pub middle : B
  pub before : Past
  pub reports : bus.happened old middle before
  pub made_are : before.accesses ≡ made
  pub holds : Holds (bus.world old) before (bus.world middle)
  pub behind : Past
  pub later : Later middle behind
  pub whole : past ≡ joined before behind

-- The stages follow one another over a bus, and `past` happened in all of them together.
abbrev pub PassesStages : {B : Type 0} → Ghosts B → CallStages → (old new : B) → Past → Type 0
PassesStages bus Ends old new past = (new ≡ old) × (past ≡ nothing)
PassesStages bus (Then made Holds later) old new past =
    PassesStage bus made Holds old past (λ middle behind. PassesStages bus later middle new behind)

-- Between two moments, the host ran the act `act` over a bus that obeys the law. The host's sockets returned the frames `given`, and the
-- host accepted the frames `accepted` for sending.
pub record OverBus {B : Type 0} (bus : Ghosts B) (up : Bool) (given : List Given) (accepted : List (List ℕ)) (old new : HostMoment B)
    (act : HostAct) : Type 0 where
  -- what happened in the call
  pub past : Past
  -- the stages of the act follow one another
  pub stages : PassesStages bus act.stages old.bus new.bus past
  -- each access may be one of a call of this kind
  pub own : All (IsAccessOf act.kind old.host.driver.layout) (accesses_in act.stages)
  -- only the last access may write a register
  pub last_writes : OnlyLastWrites (accesses_in act.stages)
  -- What changed, with the account of frames. The host is ready at the end.
  pub changed :
      HostInterval (changed_by act.kind up) (in_world old.host (bus.world old.bus)) (in_world new.host (bus.world new.bus))
      (host_did act.taken given accepted) past
  -- what the driver's writes determine
  pub follows : FollowsWrites (bus.world old.bus) (bus.world new.bus) past
  -- if no work was forgotten before the call, no work is forgotten after it
  pub work : HasNoForgottenWork old.host.driver (bus.world old.bus) → HasNoForgottenWork new.host.driver (bus.world new.bus)
  -- if the receive ring was refilled before the call, it is refilled after it
  pub refilled : IsRefilled old.host.driver → IsRefilled new.host.driver
  -- If no slot was staged before the call, no slot is staged after it.
  pub offered : old.host.driver.staged ≡ [] → new.host.driver.staged ≡ []

-- An effect states what a call does. The effect relates the host before the call (h), the host after the call (h'), and the world before
-- the call. `Runs act` states that the act was run.
abbrev pub Effect : Type 1
Effect = (h h' : HostState) → (Runs : HostAct → Type 0) → World → Type 0

-- If the bus obeys the law, and the host is ready with its transmit side set up, the call has the effect `Does`. The host's sockets return
-- the frames `given`, and the host accepts the frames `accepted` for sending.
abbrev pub CallsUp : {B : Type 0} → Ghosts B → List Given → (accepted : List (List ℕ)) → (old new : HostMoment B) → Effect → Type 0
CallsUp bus given accepted old new Does =
    IsReadyHost bus true old → Does old.host new.host (OverBus bus true given accepted old new) (bus.world old.bus)

-- `CallsUp` for a call of a host whose transmit side is set up or off.
abbrev pub CallsOver : {B : Type 0} → Ghosts B → List Given → (accepted : List (List ℕ)) → (old new : HostMoment B) → Effect → Type 0
CallsOver bus given accepted old new Does =
    (up : Bool) → IsReadyHost bus up old → Does old.host new.host (OverBus bus up given accepted old new) (bus.world old.bus)
