-- `PlaysTick` for a step or a delivery, by the station of its host before and after the tick.
use Rattle.std.proofs.Common.{◌≡◌, ◌≢◌, ◌<◌, ◌≤◌, ◌+◌, ◌↔◌, ◌∷◌, []}
use Rattle.std.proofs.Common.{IsNone, IsTrue, ℕ, Bool, true, false, List, Option, Some, length, slice_get}
use Rattle.std.proofs.Common.{slice_set}
use Rattle.std.proofs.Common.{option_map, refl, sym, ap, subst, ◌∙◌}
use Rattle.circular_buffer.proofs.Places.{slice_get-some}
use Rattle.rx_engine.specs.declared.arrival.Fate.{Fate}
use Rattle.eeprom.specs.Eerd.{is_pending}
use Rattle.mdic_phy.specs.Mdic.{has_work}
use Rattle.adapter.specs.Outcomes.{FrameOutcome, framed, oldest_queued, put_by, with_frame}
use Rattle.adapter.specs.State.{AdapterState, IsAdapter}
use Rattle.adapter.specs.Steps.{Answers, ticked}
use Rattle.adapter.specs.Transmitting.{PutAnswers}
use Rattle.adapter.specs.model_types.step.StepKind.{StepKind}
use Rattle.adapter.specs.model_types.step.StepKind.TheVariants.{EepromTick, PhyTick, RxData, RxDone, TxPut, TxTake}
use Rattle.adapter.specs.model_types.outcome.Outcome.{Outcome}
use Rattle.adapter.specs.model_types.outcome.Outcome.TheVariants as stepped
use Rattle.adapter.specs.Trails.{Occurs, past_of_event}
use Rattle.adapter.specs.bus_types.event.Event.{Event}
use Rattle.adapter.specs.bus_types.event.Event.TheVariants.{Arrives, Steps}
use Rattle.stations.specs.AtomicSteps.{At, FindsNothing, Idles, IsDelivered, OccursAt, PlaysNoted, PlaysTick, SuitsWire, Watched}
use Rattle.stations.specs.ToldTicks.{tick_told}
use Rattle.stations.specs.declared.observer.Observer.{Ghosts as OfObserver}
use Rattle.stations.specs.Stations.{StationState, WireHasRoom, backlog_of, station_after, stations_after}
use Rattle.stations.specs.Stations.{wire_of, with_frames, world_at, world_of}
use Rattle.adapter.specs.model_types.outcome.Outcome.TheVariants.{Delivered, Nothing, WireFull}
use Rattle.stations.specs.declared.tick.Tick.{Tick}
use Rattle.stations.specs.declared.tick.Tick.TheVariants.{Deliver, Step}
use Rattle.stations.proofs.Places.{none-anywhere, set-after, set-same, spread-after}

-- Steps and the frames that they put

none-ticked : (works : Bool) → put_by (ticked works) ≡ []
none-ticked true = refl
none-ticked false = refl

pub put-is : (kind : StepKind) (free : Bool) (memory : List ℕ) (adapter : AdapterState) (answer : FrameOutcome)
    → Answers kind free memory adapter answer → put_by answer ≡ (past_of_event (Steps kind free answer)).put
put-is TxPut free memory adapter answer answers = refl
put-is TxTake free memory adapter (stepped.Put frame) answers = absurd answers
put-is TxTake free memory adapter _ answers = refl
put-is RxData free memory adapter (stepped.Put frame) answers = absurd answers
put-is RxData free memory adapter _ answers = refl
put-is RxDone free memory adapter (stepped.Put frame) answers = absurd answers
put-is RxDone free memory adapter _ answers = refl
put-is EepromTick free memory adapter answer answers = ap put_by answers ∙ none-ticked (is_pending adapter.eerd)
put-is PhyTick free memory adapter answer answers = ap put_by answers ∙ none-ticked (has_work adapter.mdic adapter.phy)

pub put-none : (kind : StepKind) (free : Bool) (memory : List ℕ) (adapter : AdapterState) (answer : FrameOutcome) → kind ≢ TxPut
    → Answers kind free memory adapter answer → put_by answer ≡ []
put-none TxPut free memory adapter answer other answers = absurd (other refl)
put-none TxTake free memory adapter answer other answers = put-is TxTake free memory adapter answer answers
put-none RxData free memory adapter answer other answers = put-is RxData free memory adapter answer answers
put-none RxDone free memory adapter answer other answers = put-is RxDone free memory adapter answer answers
put-none EepromTick free memory adapter answer other answers = put-is EepromTick free memory adapter answer answers
put-none PhyTick free memory adapter answer other answers = put-is PhyTick free memory adapter answer answers

ticked-no_frame : (works : Bool) (outcome : Outcome (Unit {0})) (frame other : List ℕ) → with_frame frame outcome ≡ ticked works
    → with_frame frame outcome ≡ with_frame other outcome
ticked-no_frame true (stepped.Put u) frame other is = absurd (cc)
ticked-no_frame true (stepped.Delivered u fate) frame other is = absurd (cc)
ticked-no_frame true _ frame other is = refl
ticked-no_frame false (stepped.Put u) frame other is = absurd (cc)
ticked-no_frame false (stepped.Delivered u fate) frame other is = absurd (cc)
ticked-no_frame false _ frame other is = refl

-- Only the outcome of TxPut has a frame, so the outcome of another step is the same for any frame.
pub no-frame : (kind : StepKind) (free : Bool) (memory : List ℕ) (adapter : AdapterState) (outcome : Outcome (Unit {0}))
    (frame other : List ℕ) → kind ≢ TxPut → Answers kind free memory adapter (with_frame frame outcome)
    → with_frame frame outcome ≡ with_frame other outcome
no-frame TxPut free memory adapter outcome frame other stays answers = absurd (stays refl)
no-frame TxTake free memory adapter (stepped.Put u) frame other stays answers = absurd answers
no-frame TxTake free memory adapter (stepped.Delivered u fate) frame other stays answers = absurd answers
no-frame TxTake free memory adapter _ frame other stays answers = refl
no-frame RxData free memory adapter (stepped.Put u) frame other stays answers = absurd answers
no-frame RxData free memory adapter (stepped.Delivered u fate) frame other stays answers = absurd answers
no-frame RxData free memory adapter _ frame other stays answers = refl
no-frame RxDone free memory adapter (stepped.Put u) frame other stays answers = absurd answers
no-frame RxDone free memory adapter (stepped.Delivered u fate) frame other stays answers = absurd answers
no-frame RxDone free memory adapter _ frame other stays answers = refl
no-frame EepromTick free memory adapter outcome frame other stays answers =
    ticked-no_frame (is_pending adapter.eerd) outcome frame other answers
no-frame PhyTick free memory adapter outcome frame other stays answers =
    ticked-no_frame (has_work adapter.mdic adapter.phy) outcome frame other answers

pub puts-oldest : (adapter : AdapterState) (outcome : Outcome (Unit {0})) → adapter.transmitter.buffer ≢ []
    → PutAnswers true adapter (framed outcome adapter) → framed outcome adapter ≡ stepped.Put (oldest_queued adapter.transmitter.buffer)
puts-oldest adapter (stepped.Put u) some answers = refl
puts-oldest adapter stepped.Nothing some answers = absurd (some answers)
puts-oldest adapter stepped.WireFull some answers = let full = answers.1 in absurd (cc)
puts-oldest adapter _ some answers = absurd answers

pub not-none : {A : Type 0} (found : Option A) (one : A) → found ≡ Some one → IsNone found → ⊥
not-none found one is none = let no : true ≡ false = subst IsNone is none in cc

-- Ticks

occurs-at : (ss : List StationState) (host : ℕ) (s : StationState) (event : Event) → slice_get ss host ≡ Some s → Occurs event s.world
    → SuitsWire host s.wire event ss → OccursAt host event ss
occurs-at ss host s event there occurs suits = record {
  wire = s.wire;
  on_wire = ap wire_of there;
  occurs = subst (λ (o : Option StationState). Occurs event (world_of o)) (sym there) occurs;
  suits_wire = suits;
}

pub plays-nothing : (ss : List StationState) (tick : Tick) → FindsNothing tick ss → PlaysTick ss tick Nothing ss
plays-nothing ss tick idle = record { step = Idles tick; tick_is = refl; outcome_is = refl; no_access = tt; happens = idle; leaves = refl }

-- A tick is played, and the observer is told its outcome.
pub noted : {O : Type 0} {g : OfObserver O} {tick : Tick} {outcome : FrameOutcome} {n : ℕ} {old new : Watched O}
    → PlaysTick old.stations tick outcome new.stations → g.heard old.observer new.observer (tick_told tick n outcome ∷ [])
    → g.room_left old.observer ≤ g.room_left new.observer + 1 → PlaysNoted g tick n old new
noted {outcome = outcome} plays heard room = record { outcome = outcome; plays = plays; heard = heard; room = room }

-- A step that isn't TxPut, of a host that exists, and the observer is told its outcome.
pub noted-step : {O : Type 0} {g : OfObserver O} {tick : Tick} {host n : ℕ} {kind : StepKind} {old new : Watched O}
    (outcome : Outcome (Unit {0})) → tick ≡ Step host kind → host < length old.stations → kind ≢ TxPut
    → Occurs (Steps kind true (framed outcome (world_at old.stations host).adapter)) (world_at old.stations host)
    → new.stations ≡ stations_after host (Steps kind true (framed outcome (world_at old.stations host).adapter)) old.stations
    → g.heard old.observer new.observer (tick_told tick n (with_frame [] outcome) ∷ [])
    → g.room_left old.observer ≤ g.room_left new.observer + 1 → PlaysNoted g tick n old new
noted-step {g = g} {tick} {host} {n} {kind} {old} {new} outcome is below other occurs leaves heard room =
    let world = world_at old.stations host in
    let answer = framed outcome world.adapter in
    let station = slice_get-some old.stations host below in
    let same = no-frame kind true world.memory world.adapter outcome (oldest_queued world.adapter.transmitter.buffer) [] other occurs.1 in
    record {
      outcome = answer;
      plays = record {
        step = At host (Steps kind true answer);
        tick_is = sym is;
        outcome_is = refl;
        no_access = tt;
        happens = record {
          wire = station.0.wire;
          on_wire = ap wire_of station.1;
          occurs = occurs;
          suits_wire = λ put. absurd (other put);
        };
        leaves = leaves;
      };
      heard = subst (λ (o : FrameOutcome). g.heard old.observer new.observer (tick_told tick n o ∷ [])) (sym same) heard;
      room = room;
    }

pub plays-delivery : (ss : List StationState) (host : ℕ) (s new : StationState) (frame : List ℕ) (fate : Fate) → host < length ss
    → slice_get ss host ≡ Some s → IsDelivered s frame fate new → PlaysTick ss (Deliver host) (Delivered frame fate) (slice_set ss host new)
plays-delivery ss host s new frame fate below there is = record {
  step = At host (Arrives frame fate);
  tick_is = refl;
  outcome_is = refl;
  no_access = tt;
  happens =
      occurs-at ss host s (Arrives frame fate) there (is.adapter, is.fated)
      (subst (λ (o : Option StationState). slice_get (backlog_of o) 0 ≡ Some frame) (sym there) is.oldest);
  leaves = set-after host (Arrives frame fate) ss s new below there is.leaves refl;
}

-- A step of any kind. The frame that it put, if any, waits at each other end.
pub plays-step : (ss final : List StationState) (host : ℕ) (s new : StationState) (kind : StepKind) (free : Bool)
    (answer : FrameOutcome) → host < length ss → slice_get ss host ≡ Some s
    → (kind ≡ TxPut → IsTrue free ↔ WireHasRoom ss host s.wire)
    → IsAdapter s.world.adapter
    → Answers kind free s.world.memory s.world.adapter answer → new ≡ station_after (Steps kind free answer) s
    → ((k : ℕ) → slice_get final k ≡ option_map (with_frames host s.wire (put_by answer) k) (slice_get (slice_set ss host new) k))
    → PlaysTick ss (Step host kind) answer final
plays-step ss final host s new kind free answer below there finds adapter answers is each =
    let event = Steps kind free answer in
    let put = put-is kind free s.world.memory s.world.adapter answer answers in
    record {
      step = At host event;
      tick_is = refl;
      outcome_is = refl;
      no_access = tt;
      happens = occurs-at ss host s event there (adapter, answers) finds;
      leaves = spread-after host event ss final s new below there is (λ k.
          each k
          ∙ ap (λ (frames : List (List ℕ)). option_map (with_frames host s.wire frames k) (slice_get (slice_set ss host new) k)) put);
    }

plays-no_put : (ss : List StationState) (host : ℕ) (s : StationState) (free : Bool) (answer : FrameOutcome) → host < length ss
    → slice_get ss host ≡ Some s → IsTrue free ↔ WireHasRoom ss host s.wire → IsAdapter s.world.adapter
    → Answers TxPut free s.world.memory s.world.adapter answer → station_after (Steps TxPut free answer) s ≡ s → put_by answer ≡ []
    → PlaysTick ss (Step host TxPut) answer ss
plays-no_put ss host s free answer below there finds adapter answers stays none =
    plays-step ss ss host s s TxPut free answer below there (λ kind. finds) adapter answers (sym stays)
    (λ k. sym (ap (λ (all : List StationState). option_map (with_frames host s.wire (put_by answer) k) (slice_get all k))
    (set-same ss host s below there)
    ∙ ap (λ (put : List (List ℕ)). option_map (with_frames host s.wire put k) (slice_get ss k)) none
    ∙ none-anywhere host s.wire k (slice_get ss k)))

pub plays-no_frame : (ss : List StationState) (host : ℕ) (s : StationState) (free : Bool) → host < length ss
    → slice_get ss host ≡ Some s → IsTrue free ↔ WireHasRoom ss host s.wire → IsAdapter s.world.adapter
    → s.world.adapter.transmitter.buffer ≡ [] → PlaysTick ss (Step host TxPut) Nothing ss
plays-no_frame ss host s free below there finds adapter empty =
    plays-no_put ss host s free stepped.Nothing below there finds adapter empty refl refl

pub plays-wire_full : (ss : List StationState) (host : ℕ) (s : StationState) (free : Bool) → host < length ss
    → slice_get ss host ≡ Some s → IsTrue free ↔ WireHasRoom ss host s.wire → IsAdapter s.world.adapter
    → s.world.adapter.transmitter.buffer ≢ [] → free ≡ false → PlaysTick ss (Step host TxPut) WireFull ss
plays-wire_full ss host s free below there finds adapter some full =
    plays-no_put ss host s free stepped.WireFull below there finds adapter (some, full) refl refl
