-- Laws of outcomes, of the effect of atomic steps on frames, of fates, and of consecutive happenings (our choice).
use Rattle.std.specs.Prelude.{◌≡◌, ◌⊎◌, ◌<◌, ◌+◌, ◌*◌, ◌++◌, ◌∷◌, [], ℕ, Bool, false, Option, List, All, length, map}
use Rattle.std.specs.Prelude.{if◌then◌else◌}
use Rattle.registers.specs.Bits.{HasBit}
use Rattle.registers.specs.Places.{rctl_en}
use Rattle.rx_filter.specs.GroupLists.{Removes}
use Rattle.rx_filter.specs.NumberTables.{HasNumbers, numbers_of_groups}
use Rattle.rx_filter.specs.Registers.{FilterRegisters}
use Rattle.rx_filter.specs.declared.filter.TheConstants.{TABLE_WORDS}
use Rattle.adapter.specs.State.{AdapterState}
use Rattle.adapter.specs.World.{World, world_after_write}
use Rattle.adapter.specs.model_types.offsets.TheConstants.{MTA, RDT, REGISTER_BYTES, TDT}
use Rattle.adapter.specs.TickGroups.{played_in, waiting_after, without_go}
use Rattle.adapter.specs.Pasts.{Past}
use Rattle.adapter.specs.Settings.{IsOff, LeavesReceiver, writes_in}
use Rattle.adapter.specs.bus_types.event.Access.{Access}
use Rattle.adapter.specs.bus_types.event.Access.TheVariants.{Writes}
use Rattle.adapter.specs.bus_types.event.Event.TheVariants.{Accesses}
use Rattle.stations.specs.AtomicSteps.{At, AtomicStep, PlaysTick, tick_of}
use Rattle.stations.specs.Stations.{StationState, backlog_at, wire_at, world_at}
use Rattle.adapter.specs.Outcomes.{FrameOutcome}
use Rattle.stations.specs.declared.tick.Tick.{Tick}
use Rattle.stations.specs.declared.tick.Tick.TheVariants.{Go}
use Rattle.stations.specs.AtomicRuns.{IsTick, LeadsTo, counted_by, counted_of, is_go, noted_of, past_at, steps_told}
use Rattle.stations.specs.LentBuses.{Finished, HappenedLent}
use Rattle.stations.specs.declared.lent_bus.LentBus.{LentBus}
use Rattle.stations.specs.declared.observer.Observer.{Ghosts as OfObserver}
use Rattle.stations.specs.declared.outcomes.Numbered.{Numbered}
use Rattle.host_calls.specs.Fates.{AreRightByList, AreRightFates, Joins, Mark, Quits, Reception, marks}
use Rattle.host_calls.specs.Happenings.{
  Happening,
  accepted,
  given,
  happened_by,
  happened_in,
  missed,
  put,
  reached,
  stored,
  tick_happenings,
  lone_tick_happenings,
}
use Rattle.host_calls.specs.Happenings.{tick_happenings_around, tick_happenings_where, toward}
use Rattle.host_calls.specs.Reception.{LeavesReception, ReceivesRightly}
use Rattle.host_calls.specs.TickNumbers.{numbers, noted_numbers}

-- A call of host `caller`: its ticks, its accesses, and its atomic steps.
pub record CallWithSteps : Type 0 where
  pub caller : ℕ
  -- The ticks that are passed to the call.
  pub ticks : List Tick
  pub accesses : List Access
  -- The steps up to and including the last access; no step if there is no access.
  pub first : List AtomicStep
  -- The steps after the last access.
  pub last : List AtomicStep

-- The steps `first` lead from the stations `a` to `m`, and the steps `last` from `m` to `b`. `first` are the accesses
-- of the call, each after the ticks up to its Go, and `last` are the remaining ticks except each Go.
pub record PlaysCall (call : CallWithSteps) (a m b : List StationState) : Type 0 where
  pub leads : LeadsTo call.caller call.first a m
  pub are_ticks : All IsTick call.last
  pub ends : LeadsTo call.caller call.last m b
  pub played : map tick_of call.first ≡ played_in is_go Go [] call.accesses call.ticks
  pub waited : map tick_of call.last ≡ without_go is_go (waiting_after is_go call.accesses call.ticks)

-- The outcomes that were noted in a call determine the happenings of its steps. The noted numbers of accesses are those
-- of `numbers`.
pub record IsToldByOutcomes (ticks : List Tick) (first last : List AtomicStep) : Type 0 where
  -- The steps that aren't accesses are the ticks of the call except each Go, in order.
  pub played : without_go is_go (map tick_of (first ++ last)) ≡ without_go is_go ticks
  -- The happenings that the outcomes report are those of the steps.
  pub said : tick_happenings ticks (noted_of 0 (first ++ last)) ≡ happened_in (first ++ last)
  -- The number of accesses before each tick follows from the ticks and from the number of all accesses.
  pub numbered : numbers ticks 0 (counted_of 0 first) ≡ noted_numbers (noted_of 0 (first ++ last))
  -- The steps `last` don't change the number of accesses.
  pub counted : counted_of 0 (first ++ last) ≡ counted_of 0 first

-- `IsToldByOutcomes` holds for each call with its steps (`PlaysCall`).
abbrev pub OutcomesTellSteps : Type 0
OutcomesTellSteps =
    (call : CallWithSteps) (a m b : List StationState) → PlaysCall call a m b → IsToldByOutcomes call.ticks call.first call.last

-- `PlaysCall` holds for a call that leads from the lent bus `a` to `m`, and for `finish`, which leads from `m` to `b`.
-- The observer was told the outcome of each tick except each Go, and the bus counted the accesses.
pub record IsToldCall {O : Type 0} {g : OfObserver O} (a m b : LentBus O g) (past : Past) (first last : List AtomicStep) : Type 0 where
  pub plays : PlaysCall
      (record { caller = a.host; ticks = a.ticks.now; accesses = past.accesses; first = first; last = last })
      a.stations.now m.stations.now b.stations.now
  pub heard : g.heard a.observer.now b.observer.now (steps_told 0 (first ++ last))
  pub count : b.accesses ≡ counted_of 0 first

-- `IsToldCall` holds for each call over a lent bus that counted no access before the call.
abbrev pub LentCallsAreTold : {O : Type 0} → OfObserver O → Type 0
LentCallsAreTold {O} g =
    (a m b : LentBus O g) (past : Past) (told : HappenedLent a m past) (finished : Finished m b) → a.accesses ≡ 0
    → IsToldCall a m b past told.steps finished.plays.steps

-- The happenings `said` are those of the ticks (`ticked`), with what the call itself did (`middle`) inserted between
-- `before` and `behind`.
pub record IsBetween (middle ticked said : List Happening) : Type 0 where
  pub before : List Happening
  pub behind : List Happening
  pub ticks : ticked ≡ before ++ behind
  pub all : said ≡ before ++ (middle ++ behind)

-- `tick_happenings_around` inserts what the call itself did (`middle`) at one place (`IsBetween`).
abbrev pub CallsAreToldBetweenTicks : Type 0
CallsAreToldBetweenTicks =
    (middle : List Happening) (ticks : List Tick) (outcomes : List Numbered)
    → IsBetween middle (tick_happenings ticks outcomes) (tick_happenings_around middle ticks outcomes)

-- If the call itself has no happening, the happenings of the call are those of its ticks.
abbrev pub OnlyTicksAreTold : Type 0
OnlyTicksAreTold = (ticks : List Tick) (outcomes : List Numbered) → tick_happenings_around [] ticks outcomes
    ≡ tick_happenings ticks outcomes

-- If a call made exactly one access, what the call itself did (`middle`) is between the happenings of the steps before
-- and after this access.
abbrev pub OneAccessIsToldAtItsPlace : Type 0
OneAccessIsToldAtItsPlace =
    (caller : ℕ) (ticks : List Tick) (access : Access) (first last : List AtomicStep) (middle : List Happening)
    → All IsTick first → All IsTick last
    → without_go is_go (map tick_of (first ++ At caller (Accesses access) ∷ last)) ≡ without_go is_go ticks
    → tick_happenings_around middle ticks (noted_of 0 (first ++ At caller (Accesses access) ∷ last))
    ≡ happened_in first ++ (middle ++ happened_in last)

-- If a call made no access, what the call itself did (`middle`) is after the happenings of all its ticks.
abbrev pub NoAccessIsToldAtTheEnd : Type 0
NoAccessIsToldAtTheEnd =
    (ticks : List Tick) (steps : List AtomicStep) (middle : List Happening) → All IsTick steps
    → without_go is_go (map tick_of steps) ≡ without_go is_go ticks
    → tick_happenings_around middle ticks (noted_of 0 steps) ≡ happened_in steps ++ middle

-- The happenings of the steps for whose number of earlier accesses `is_such` is true, if n accesses were made before
-- the first step.
abbrev pub happened_where : (is_such : ℕ → Bool) → (n : ℕ) → List AtomicStep → List Happening
happened_where is_such n [] = []
happened_where is_such n (step ∷ later) =
    (if is_such n then happened_by step else []) ++ happened_where is_such (counted_by n step) later

-- The outcomes whose numbers of accesses meet a condition determine the happenings of the steps with such a number of
-- earlier accesses.
abbrev pub OutcomesTellByNumber : Type 0
OutcomesTellByNumber =
    (is_such : ℕ → Bool) (caller : ℕ) (ticks : List Tick) (steps : List AtomicStep) (a b : List StationState) → LeadsTo caller steps a b
    → without_go is_go (map tick_of steps) ≡ without_go is_go ticks
    → tick_happenings_where is_such ticks (noted_of 0 steps) ≡ happened_where is_such 0 steps

-- The outcome of a tick outside a call determines the happenings of its step.
abbrev pub OneOutcomeTellsItsStep : Type 0
OneOutcomeTellsItsStep =
    (old new : List StationState) (tick : Tick) (outcome : FrameOutcome) (plays : PlaysTick old tick outcome new)
    → lone_tick_happenings tick (record { accesses = 0; outcome = outcome } ∷ []) ≡ happened_in (plays.step ∷ [])

-- The atomic step is a tick other than Go. The step can happen in a call of any host, and leads from the stations `old`
-- to `new`.
pub record LeadsAlone (step : AtomicStep) (old new : List StationState) : Type 0 where
  pub is_tick : IsTick step
  pub leads : (caller : ℕ) → LeadsTo caller (step ∷ []) old new

-- `LeadsAlone` holds for the atomic step of a tick other than Go.
abbrev pub OneTickLeads : Type 0
OneTickLeads =
    (old new : List StationState) (tick : Tick) (outcome : FrameOutcome) (plays : PlaysTick old tick outcome new) → is_go tick ≡ false
    → LeadsAlone plays.step old new

-- What the atomic steps from the stations `a` to `b` do to the frames of host k. The happenings agree with the past of
-- the host's adapter (`past_at`), and with the frames that wait.
pub record MovesFrames (k : ℕ) (steps : List AtomicStep) (a b : List StationState) : Type 0 where
  pub put : put k (happened_in steps) ≡ (past_at k steps).put
  pub stored : stored k (happened_in steps) ≡ (past_at k steps).stored
  pub missed : missed k (happened_in steps) ≡ (past_at k steps).missed
  -- The frames that waited at the host's end, followed by those put toward the host, have reached the host in this
  -- order or still wait.
  pub waits : reached k (happened_in steps) ++ backlog_at b k ≡ backlog_at a k ++ toward (wire_at a) k (happened_in steps)
  pub wires : wire_at b k ≡ wire_at a k
  pub hosts : length b ≡ length a
  -- No frame is accepted, because only a call accepts a frame.
  pub none_accepted : accepted k (happened_in steps) ≡ []
  pub none_given : (socket : ℕ) → given k socket (happened_in steps) ≡ []

-- `MovesFrames` holds for each host k, if the atomic steps lead from the stations `a` to `b`.
abbrev pub StepsMoveFrames : Type 0
StepsMoveFrames =
    (caller k : ℕ) (steps : List AtomicStep) (a b : List StationState) → LeadsTo caller steps a b → MovesFrames k steps a b

-- From the adapter `a` to `b`, the fates in `all` are right (`ReceivesRightly`). The joined groups are `groups` at the
-- beginning and at the end. At the end, MTA has exactly the bits of these groups.
pub record KeepsReceiving (groups : List (List ℕ)) (a : AdapterState) (all : List Mark) (b : AdapterState) : Type 0 where
  pub right : ReceivesRightly groups a all groups b
  pub has : HasNumbers b.filter.mta (numbers_of_groups groups)

-- Fates are right if no access of the host changes how it receives (`LeavesReception`). At the start, RCTL.EN must be 1, and MTA must have
-- exactly the bits of the joined groups.
abbrev pub FatesAreRight : Type 0
FatesAreRight =
    (caller k : ℕ) (steps : List AtomicStep) (a b : List StationState) (groups : List (List ℕ)) → LeadsTo caller steps a b
    → All LeavesReception (past_at k steps).accesses → HasBit (world_at a k).adapter.filter.rctl rctl_en
    → HasNumbers (world_at a k).adapter.filter.mta (numbers_of_groups groups)
    → KeepsReceiving groups (world_at a k).adapter (marks k (happened_in steps)) (world_at b k).adapter

-- While the receive side of a host is disabled, each frame that reaches the host has the fate Off. No frame is moved
-- from the host's receive packet buffer to memory. The receive side remains disabled.
pub record StaysTurnedOff (a : World) (all : List Mark) (b : World) : Type 0 where
  pub fates : (registers : FilterRegisters) (room : ℕ) (groups buffered : List (List ℕ))
      → (let off : Reception = record { groups = groups; buffered = buffered; enabled = false } in AreRightFates registers room off all off)
  pub off : IsOff b
  -- An empty packet buffer remains empty.
  pub empty : a.adapter.receiver.buffer ≡ [] → b.adapter.receiver.buffer ≡ []

-- If RCTL.EN is 0 at the start and the host's driver doesn't write RCTL, `StaysTurnedOff` holds. The driver may write
-- all other registers, including CTRL with RST.
abbrev pub FatesAreOff : Type 0
FatesAreOff =
    (caller k : ℕ) (steps : List AtomicStep) (a b : List StationState) → LeadsTo caller steps a b
    → All LeavesReceiver (writes_in (past_at k steps).accesses) → IsOff (world_at a k)
    → StaysTurnedOff (world_at a k) (marks k (happened_in steps)) (world_at b k)

-- If no access of a host changes how the host receives (`LeavesReception`), the registers of its filter don't change.
abbrev pub FilterStays : Type 0
FilterStays =
    (caller k : ℕ) (steps : List AtomicStep) (a b : List StationState) → LeadsTo caller steps a b
    → All LeavesReception (past_at k steps).accesses → (world_at b k).adapter.filter ≡ (world_at a k).adapter.filter

-- The mark is a join or a leave of a group. `groups` are joined before the mark, and `groups'` after it.
abbrev pub MarksGroups : Mark → (groups groups' : List (List ℕ)) → Type 0
MarksGroups (Joins group) groups groups' = groups' ≡ groups ++ group ∷ []
MarksGroups (Quits group) groups groups' = Removes group groups groups'
MarksGroups other groups groups' = ⊥

-- `ReceivesRightly` holds for a join or a leave with a write of a word of MTA.
abbrev pub WritesChangeGroups : Type 0
WritesChangeGroups =
    (mark : Mark) (word value : ℕ) (groups groups' : List (List ℕ)) (a : World) → MarksGroups mark groups groups' → word < TABLE_WORDS
    → ReceivesRightly groups a.adapter (mark ∷ []) groups' (world_after_write (MTA + REGISTER_BYTES * word) value a).adapter

-- `ReceivesRightly` holds for a join or a leave without an access.
abbrev pub GroupsChangeAlone : Type 0
GroupsChangeAlone =
    (mark : Mark) (groups groups' : List (List ℕ)) (a : AdapterState) → MarksGroups mark groups groups'
    → ReceivesRightly groups a (mark ∷ []) groups' a

-- A write of RDT or TDT doesn't change how a host receives (`LeavesReception`).
abbrev pub TailWritesLeaveReception : Type 0
TailWritesLeaveReception = (offset value : ℕ) → (offset ≡ RDT) ⊎ (offset ≡ TDT) → LeavesReception (Writes offset value)

-- For two consecutive lists of happenings, each list of host k is that for `first`, followed by that for `later`. The
-- numbers of missed frames are added.
pub record ListsJoin (k : ℕ) (first later : List Happening) : Type 0 where
  pub accepted : accepted k (first ++ later) ≡ accepted k first ++ accepted k later
  pub put : put k (first ++ later) ≡ put k first ++ put k later
  pub reached : reached k (first ++ later) ≡ reached k first ++ reached k later
  pub stored : stored k (first ++ later) ≡ stored k first ++ stored k later
  pub given : (socket : ℕ) → given k socket (first ++ later) ≡ given k socket first ++ given k socket later
  pub missed : missed k (first ++ later) ≡ missed k first + missed k later
  pub toward : (wires : ℕ → Option ℕ) → toward wires k (first ++ later) ≡ toward wires k first ++ toward wires k later
  pub marks : marks k (first ++ later) ≡ marks k first ++ marks k later

-- `ListsJoin` holds for each host k and for any two lists of happenings.
abbrev pub DeliveriesJoin : Type 0
DeliveriesJoin = (k : ℕ) (first later : List Happening) → ListsJoin k first later

-- If two maps from hosts to wires agree for each host, the same happenings put the same frames toward a host with both
-- maps.
abbrev pub WiresDecideToward : Type 0
WiresDecideToward =
    (wires others : ℕ → Option ℕ) (k : ℕ) (happened : List Happening) → ((host : ℕ) → wires host ≡ others host)
    → toward wires k happened ≡ toward others k happened

-- The frames that reached a host, followed by those that wait, are those that waited at first, followed by those put
-- toward the host. If this is true of two consecutive intervals with the same wires, it is true of both together.
abbrev pub WaitsJoin : Type 0
WaitsJoin =
    (k : ℕ) (wires others : ℕ → Option ℕ) (first later : List Happening) (old mid new : List (List ℕ))
    → ((host : ℕ) → others host ≡ wires host) → reached k first ++ mid ≡ old ++ toward wires k first
    → reached k later ++ new ≡ mid ++ toward others k later
    → reached k (first ++ later) ++ new ≡ old ++ toward wires k (first ++ later)

-- If the fates of two lists of marks are right, those of the joined list are right. The second list must begin with the
-- final reception of the first.
abbrev pub RightFatesJoin : Type 0
RightFatesJoin =
    (registers : FilterRegisters) (room : ℕ) (n m l : Reception) (first later : List Mark) → AreRightFates registers room n first m
    → AreRightFates registers room m later l → AreRightFates registers room n (first ++ later) l

-- If `ReceivesRightly` holds in each of two consecutive intervals, it holds in both together.
abbrev pub ReceptionsJoin : Type 0
ReceptionsJoin =
    (g1 g2 g3 : List (List ℕ)) (a b c : AdapterState) (first later : List Mark) → ReceivesRightly g1 a first g2 b
    → ReceivesRightly g2 b later g3 c → ReceivesRightly g1 a (first ++ later) g3 c

-- If all fates are right, each single fate is the right one for the marks before its frame (`AreRightByList`).
abbrev pub FatesAreJudgedByTheBuffer : Type 0
FatesAreJudgedByTheBuffer =
    (registers : FilterRegisters) (room : ℕ) (start final : Reception) (all : List Mark)
    → AreRightFates registers room start all final → AreRightByList registers room start all
