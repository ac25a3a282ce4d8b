-- A step of one kind, of one adapter on one memory, with a wire that has room or not, has one outcome.
use Rattle.std.proofs.Common.{◌≡◌, ◌∷◌, [], ℕ, List, Bool, true, false, refl, sym, ap, ◌∙◌}
use Rattle.adapter.specs.Outcomes.{FrameOutcome, framed, with_frame}
use Rattle.adapter.specs.Receiving.{DataAnswers, DoneAnswers}
use Rattle.adapter.specs.State.{AdapterState}
use Rattle.adapter.specs.Steps.{Answers, ticked}
use Rattle.adapter.specs.Transmitting.{IsOldest, PutAnswers, TakeAnswers}
use Rattle.adapter.specs.model_types.outcome.Outcome.{Outcome}
use Rattle.tx_engine.specs.Transmitter.{Queued}
use Rattle.adapter.specs.model_types.outcome.Outcome.TheVariants.{Done, Fault, Moved, Nothing, Part, Put, Ticked, Took, WireFull}
use Rattle.adapter.specs.model_types.step.StepKind.{StepKind}
use Rattle.adapter.specs.model_types.step.StepKind.TheVariants.{EepromTick, PhyTick, RxData, RxDone, TxPut, TxTake}

take_one : (memory : List ℕ) (state : AdapterState) (a b : FrameOutcome)
    → TakeAnswers memory state a → TakeAnswers memory state b → a ≡ b
take_one memory state Nothing Nothing p q = refl
take_one memory state Nothing Fault p q = absurd (q.0 p)
take_one memory state Nothing Took p q = absurd (q.0 p)
take_one memory state Nothing _ p q = absurd q
take_one memory state Fault Nothing p q = absurd (p.0 q)
take_one memory state Fault Fault p q = refl
take_one memory state Fault Took p q = absurd (p.1 q.1)
take_one memory state Fault _ p q = absurd q
take_one memory state Took Nothing p q = absurd (p.0 q)
take_one memory state Took Fault p q = absurd (q.1 p.1)
take_one memory state Took Took p q = refl
take_one memory state Took _ p q = absurd q
take_one memory state _ b p q = absurd p

none_is_oldest : (buffer : List Queued) (frame : List ℕ) → buffer ≡ [] → IsOldest buffer frame → ⊥
none_is_oldest [] frame none is = is
none_is_oldest (queued ∷ later) frame none is = absurd (cc (none))

one_oldest : (buffer : List Queued) (a b : List ℕ) → IsOldest buffer a → IsOldest buffer b → a ≡ b
one_oldest [] a b p q = absurd p
one_oldest (queued ∷ later) a b p q = sym p ∙ q

put_one : (wire_free : Bool) (state : AdapterState) (a b : FrameOutcome)
    → PutAnswers wire_free state a → PutAnswers wire_free state b → a ≡ b
put_one wire_free state Nothing Nothing p q = refl
put_one wire_free state Nothing WireFull p q = absurd (q.0 p)
put_one wire_free state Nothing (Put x) p q = absurd (none_is_oldest state.transmitter.buffer x p q.1)
put_one wire_free state Nothing _ p q = absurd q
put_one wire_free state WireFull Nothing p q = absurd (p.0 q)
put_one wire_free state WireFull WireFull p q = refl
put_one wire_free state WireFull (Put x) p q = absurd (cc (p.1, q.0))
put_one wire_free state WireFull _ p q = absurd q
put_one wire_free state (Put x) Nothing p q = absurd (none_is_oldest state.transmitter.buffer x q p.1)
put_one wire_free state (Put x) WireFull p q = absurd (cc (p.0, q.1))
put_one wire_free state (Put x) (Put y) p q = ap (λ (frame : List ℕ). Put frame) (one_oldest state.transmitter.buffer x y p.1 q.1)
put_one wire_free state (Put x) _ p q = absurd q
put_one wire_free state _ b p q = absurd p

data_one : (memory : List ℕ) (state : AdapterState) (a b : FrameOutcome)
    → DataAnswers memory state a → DataAnswers memory state b → a ≡ b
data_one memory state Nothing Nothing p q = refl
data_one memory state Nothing Fault p q = absurd (p q.0)
data_one memory state Nothing Part p q = absurd (p q.0)
data_one memory state Nothing Moved p q = absurd (p q.0)
data_one memory state Nothing _ p q = absurd q
data_one memory state Fault Nothing p q = absurd (q p.0)
data_one memory state Fault Fault p q = refl
data_one memory state Fault Part p q = absurd (p.1 q.1)
data_one memory state Fault Moved p q = absurd (p.1 q.1)
data_one memory state Fault _ p q = absurd q
data_one memory state Part Nothing p q = absurd (q p.0)
data_one memory state Part Fault p q = absurd (q.1 p.1)
data_one memory state Part Part p q = refl
data_one memory state Part Moved p q = absurd (cc (p.2, q.2))
data_one memory state Part _ p q = absurd q
data_one memory state Moved Nothing p q = absurd (q p.0)
data_one memory state Moved Fault p q = absurd (q.1 p.1)
data_one memory state Moved Part p q = absurd (cc (p.2, q.2))
data_one memory state Moved Moved p q = refl
data_one memory state Moved _ p q = absurd q
data_one memory state _ b p q = absurd p

done_one : (state : AdapterState) (a b : FrameOutcome) → DoneAnswers state a → DoneAnswers state b
    → a ≡ b
done_one state Nothing Nothing p q = refl
done_one state Nothing Done p q = absurd (q p)
done_one state Nothing _ p q = absurd q
done_one state Done Nothing p q = absurd (p q)
done_one state Done Done p q = refl
done_one state Done _ p q = absurd q
done_one state _ b p q = absurd p

tick_one : (state : AdapterState) (has_work : Bool) (a b : FrameOutcome) → a ≡ ticked has_work
    → b ≡ ticked has_work → a ≡ b
tick_one state true Ticked Ticked p q = refl
tick_one state true Ticked _ p q = absurd (cc)
tick_one state true _ b p q = absurd (cc)
tick_one state false Nothing Nothing p q = refl
tick_one state false Nothing _ p q = absurd (cc)
tick_one state false _ b p q = absurd (cc)

-- Two outcomes of the same step of the same adapter on the same memory are equal, including their frames.
pub answers_are_one : (kind : StepKind) (wire_free : Bool) (memory : List ℕ) (state : AdapterState) (a b : FrameOutcome)
    → Answers kind wire_free memory state a → Answers kind wire_free memory state b → a ≡ b
answers_are_one TxTake wire_free memory state a b p q = take_one memory state a b p q
answers_are_one TxPut wire_free memory state a b p q = put_one wire_free state a b p q
answers_are_one RxData wire_free memory state a b p q = data_one memory state a b p q
answers_are_one RxDone wire_free memory state a b p q = done_one state a b p q
answers_are_one EepromTick wire_free memory state a b p q = tick_one state _ a b p q
answers_are_one PhyTick wire_free memory state a b p q = tick_one state _ a b p q

unframed : (state : AdapterState) (a : Outcome (Unit {0})) → with_frame tt (framed a state) ≡ a
unframed state Took = refl
unframed state _ = refl

-- Two outcomes, without their frames, of the same step of the same adapter on the same memory are equal.
pub one_answer : (kind : StepKind) (wire_free : Bool) (memory : List ℕ) (state : AdapterState) (a b : Outcome (Unit {0}))
    → Answers kind wire_free memory state (framed a state) → Answers kind wire_free memory state (framed b state) → a ≡ b
one_answer kind wire_free memory state a b p q =
    sym (unframed state a)
    ∙ ap (with_frame tt) (answers_are_one kind wire_free memory state (framed a state) (framed b state) p q) ∙ unframed state b
