-- Happenings: what happens in a run to frames, joined groups and receive sides, in order. Ticks, their outcomes and the
-- answers of events determine the happenings (our choice).
use Rattle.std.specs.Prelude.{◌==◌, ◌&&◌, not, ◌++◌, ℕ, Bool, false, Option, Some, None, List, [], ◌∷◌, sum_by, if◌then◌else◌}
use Rattle.std.specs.List.{flat_map}
use Rattle.rx_engine.specs.Arriving.{kept}
use Rattle.rx_engine.specs.declared.arrival.Fate.{Fate}
use Rattle.adapter.specs.StepsAndArrivals.{missed_by}
use Rattle.stations.specs.AtomicSteps.{At, AtomicStep, Idles, outcome_of_event}
use Rattle.stations.specs.declared.outcomes.Numbered.{Numbered}
use Rattle.adapter.specs.Outcomes.{FrameOutcome}
use Rattle.adapter.specs.model_types.outcome.Outcome.TheVariants as outcome
use Rattle.stations.specs.declared.tick.Tick.{Tick}
use Rattle.stations.specs.declared.tick.Tick.TheVariants.{Deliver, Go, Step}

-- What happened at a host: to a frame, to the joined groups, or to the receive side.
pub data Happening : Type 0 where
  -- The host accepted a frame for sending.
  Accepted : (host : ℕ) (frame : List ℕ) → Happening
  -- The host's adapter put a frame onto the wire.
  Put : (host : ℕ) (frame : List ℕ) → Happening
  -- A frame reached the host's adapter, with this fate.
  Reached : (host : ℕ) (frame : List ℕ) (fate : Fate) → Happening
  -- The last piece of the oldest frame was moved from the receive packet buffer of the host's adapter to memory.
  Moved : (host : ℕ) → Happening
  -- A socket of the host returned a frame.
  Given : (host socket : ℕ) (frame : List ℕ) → Happening
  -- The host joined a multicast group.
  Joined : (host : ℕ) (group : List ℕ) → Happening
  -- The host left a multicast group.
  Left : (host : ℕ) (group : List ℕ) → Happening
  -- A reset of the host wrote 0 to RCTL, which disables the receive side.
  Disabled : (host : ℕ) → Happening
  -- The reset wrote RCTL again, which enables the receive side.
  Enabled : (host : ℕ) → Happening
  -- The reset wrote CTRL.RST, between these two writes; the frames `sending`, which were to be sent, and `holding`,
  -- which were held, are lost.
  GivenUp : (host : ℕ) (sending holding : List (List ℕ)) → Happening

-- The host of a tick; 0 for Go.
abbrev pub tick_host : Tick → ℕ
tick_host Go = 0
tick_host (Step host kind) = host
tick_host (Deliver host) = host

-- The happening of a tick of a host, by the tick's outcome, as a list. The list is empty unless the outcome is Put,
-- Delivered or Moved.
abbrev pub outcome_happenings : (host : ℕ) → FrameOutcome → List Happening
outcome_happenings host (outcome.Put frame) = Put host frame ∷ []
outcome_happenings host (outcome.Delivered frame fate) = Reached host frame fate ∷ []
outcome_happenings host outcome.Moved = Moved host ∷ []
outcome_happenings host _ = []

-- The happenings of the ticks of a call, in order. The i-th outcome belongs to the i-th tick that isn't Go.
abbrev pub tick_happenings : List Tick → List Numbered → List Happening
tick_happenings [] outcomes = []
tick_happenings (Go ∷ ticks) outcomes = tick_happenings ticks outcomes
tick_happenings (Step host kind ∷ ticks) [] = []
tick_happenings (Step host kind ∷ ticks) (one ∷ outcomes) = outcome_happenings host one.outcome ++ tick_happenings ticks outcomes
tick_happenings (Deliver host ∷ ticks) [] = []
tick_happenings (Deliver host ∷ ticks) (one ∷ outcomes) = outcome_happenings host one.outcome ++ tick_happenings ticks outcomes

-- `tick_happenings` of only those ticks for whose number of earlier accesses `is_such` is true.
abbrev pub tick_happenings_where : (is_such : ℕ → Bool) → List Tick → List Numbered → List Happening
tick_happenings_where is_such [] outcomes = []
tick_happenings_where is_such (Go ∷ ticks) outcomes = tick_happenings_where is_such ticks outcomes
tick_happenings_where is_such (Step host kind ∷ ticks) [] = []
tick_happenings_where is_such (Step host kind ∷ ticks) (one ∷ outcomes) =
    (if is_such one.accesses then outcome_happenings host one.outcome else []) ++ tick_happenings_where is_such ticks outcomes
tick_happenings_where is_such (Deliver host ∷ ticks) [] = []
tick_happenings_where is_such (Deliver host ∷ ticks) (one ∷ outcomes) =
    (if is_such one.accesses then outcome_happenings host one.outcome else []) ++ tick_happenings_where is_such ticks outcomes

-- The happenings of a call: those of its ticks, with what the call itself did (`middle`). `middle` comes before the
-- first tick whose outcome has an access before it, or at the end if there is no such tick.
abbrev pub tick_happenings_around : (middle : List Happening) → List Tick → List Numbered → List Happening
tick_happenings_around middle [] outcomes = middle
tick_happenings_around middle (Go ∷ ticks) outcomes = tick_happenings_around middle ticks outcomes
tick_happenings_around middle (Step host kind ∷ ticks) [] = middle
tick_happenings_around middle (Step host kind ∷ ticks) (one ∷ outcomes) =
    if one.accesses == 0 then outcome_happenings host one.outcome ++ tick_happenings_around middle ticks outcomes
    else middle ++ tick_happenings (Step host kind ∷ ticks) (one ∷ outcomes)
tick_happenings_around middle (Deliver host ∷ ticks) [] = middle
tick_happenings_around middle (Deliver host ∷ ticks) (one ∷ outcomes) =
    if one.accesses == 0 then outcome_happenings host one.outcome ++ tick_happenings_around middle ticks outcomes
    else middle ++ tick_happenings (Deliver host ∷ ticks) (one ∷ outcomes)

-- The happenings of a tick outside a call, by the first of these outcomes; no happening if there is no outcome.
abbrev pub lone_tick_happenings : Tick → List Numbered → List Happening
lone_tick_happenings tick [] = []
lone_tick_happenings tick (one ∷ outcomes) = outcome_happenings (tick_host tick) one.outcome

-- The happenings of an atomic step.
abbrev pub happened_by : AtomicStep → List Happening
happened_by (At host event) = outcome_happenings host (outcome_of_event event)
happened_by (Idles tick) = []

-- The happenings of atomic steps, in order.
abbrev pub happened_in : List AtomicStep → List Happening
happened_in steps = flat_map happened_by steps

-- This list if `k` is `host`, else the empty list.
abbrev pub of_host : {T : Type 0} → (k host : ℕ) → List T → List T
of_host k host some = if k == host then some else []

-- The frame that host k accepted in this happening, if any, as a list.
abbrev pub accepted_in_one : ℕ → Happening → List (List ℕ)
accepted_in_one k (Accepted host frame) = of_host k host (frame ∷ [])
accepted_in_one k other = []

-- The frame that host k put on its wire in this happening, if any, as a list.
abbrev pub put_in_one : ℕ → Happening → List (List ℕ)
put_in_one k (Put host frame) = of_host k host (frame ∷ [])
put_in_one k other = []

-- The frame that reached host k in this happening, if any, as a list.
abbrev pub reached_by : ℕ → Happening → List (List ℕ)
reached_by k (Reached host frame fate) = of_host k host (frame ∷ [])
reached_by k other = []

-- The frame that host k's adapter stored in this happening, if any, as a list.
abbrev pub stored_by : ℕ → Happening → List (List ℕ)
stored_by k (Reached host frame fate) = of_host k host (kept fate frame)
stored_by k other = []

-- The frame that a socket of host k returned in this happening, if any, as a list.
abbrev pub given_in_one : (k socket : ℕ) → Happening → List (List ℕ)
given_in_one k s (Given host socket frame) = if (k == host) && (s == socket) then frame ∷ [] else []
given_in_one k s other = []

-- 1 if host k's adapter missed a frame in this happening, else 0.
abbrev pub missed_of : ℕ → Happening → ℕ
missed_of k (Reached host frame fate) = if k == host then missed_by fate else 0
missed_of k other = 0

-- Whether two hosts, which have these wires, exist and are on the same wire. A host that doesn't exist has no wire
-- (`None`).
abbrev pub share_wire : Option ℕ → Option ℕ → Bool
share_wire None other = false
share_wire (Some wire) None = false
share_wire (Some wire) (Some other) = wire == other

-- The frame that another host put on host k's wire in this happening, if any, as a list.
abbrev pub toward_by : (wires : ℕ → Option ℕ) → (k : ℕ) → Happening → List (List ℕ)
toward_by wires k (Put host frame) = if not (k == host) && share_wire (wires k) (wires host) then frame ∷ [] else []
toward_by wires k other = []

-- The frames that host k accepted, in order.
abbrev pub accepted : ℕ → List Happening → List (List ℕ)
accepted k happened = flat_map (accepted_in_one k) happened

-- The frames that host k put on its wire, in order.
abbrev pub put : ℕ → List Happening → List (List ℕ)
put k happened = flat_map (put_in_one k) happened

-- The frames that reached host k, in order.
abbrev pub reached : ℕ → List Happening → List (List ℕ)
reached k happened = flat_map (reached_by k) happened

-- The frames that host k's adapter stored, in order.
abbrev pub stored : ℕ → List Happening → List (List ℕ)
stored k happened = flat_map (stored_by k) happened

-- The frames that this socket of host k returned, in order.
abbrev pub given : (k socket : ℕ) → List Happening → List (List ℕ)
given k socket happened = flat_map (given_in_one k socket) happened

-- The number of frames that host k's adapter missed.
abbrev pub missed : ℕ → List Happening → ℕ
missed k happened = sum_by (missed_of k) happened

-- The frames that other hosts put on host k's wire, in order.
abbrev pub toward : (wires : ℕ → Option ℕ) → (k : ℕ) → List Happening → List (List ℕ)
toward wires k happened = flat_map (toward_by wires k) happened
