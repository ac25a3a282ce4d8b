-- The condition and the effect of each answer of a data step.
use Rattle.std.proofs.Common.{◌≡◌, ◌↔◌, ℕ, Bool, true, false, List, length, take, drop, min, refl, ap, arith, ◌∙◌}
use Rattle.std.proofs.lemmas.List.{take_min}
use Rattle.dma_memory.specs.HostMemory.{with_bytes}
use Rattle.descriptors.specs.declared.ring.Ring.{Ring}
use Rattle.descriptors.specs.Ring.{address_of, next_of}
use Rattle.rx_engine.specs.Descriptors.{named_address}
use Rattle.rx_engine.specs.Moving.{CanMove, HasFrameToMove, IfMoved, IsMoved, IsPartMoved, begun_with, buffer_bytes, engine_after_data}
use Rattle.rx_engine.specs.Moving.{is_last, memory_after_data, moved_answer, next_piece, ring_after_data, work_at}
use Rattle.rx_engine.specs.Receiver.{Receiver, oldest}
use Rattle.rx_engine.specs.declared.data.Data.{Data}
use Rattle.rx_engine.specs.declared.data.Data.TheVariants as answers
use Rattle.rx_engine.specs.declared.engine.Work.{Work}

-- The condition under which a data step has each answer.
pub record Answers (answer : Data) (control : ℕ) (ring : Ring) (engine : Receiver) (memory : List ℕ) : Type 0 where
  pub nothing : (answer ≡ answers.Nothing) ↔ (¬ (HasFrameToMove control ring engine))
  pub fault : (answer ≡ answers.Fault)
      ↔ (HasFrameToMove control ring engine × (¬ (CanMove control ring memory (length (next_piece control engine)))))
  pub part : IsPartMoved answer
      ↔ (HasFrameToMove control ring engine × CanMove control ring memory (length (next_piece control engine))
      × (is_last control engine ≡ false))
  pub moved : IsMoved answer
      ↔ (HasFrameToMove control ring engine × CanMove control ring memory (length (next_piece control engine))
      × (is_last control engine ≡ true))

pub answers-nothing : (control : ℕ) (ring : Ring) (engine : Receiver) (memory : List ℕ) → ¬ (HasFrameToMove control ring engine)
    → Answers answers.Nothing control ring engine memory
answers-nothing control ring engine memory none = record {
  nothing = ((λ is. none), (λ not. refl));
  fault = ((λ is. absurd (cc)), (λ has. absurd (none has.0)));
  part = ((λ is. absurd is), (λ has. absurd (none has.0)));
  moved = ((λ is. absurd is), (λ has. absurd (none has.0)));
}

pub answers-fault : (control : ℕ) (ring : Ring) (engine : Receiver) (memory : List ℕ) → HasFrameToMove control ring engine
    → ¬ (CanMove control ring memory (length (next_piece control engine))) → Answers answers.Fault control ring engine memory
answers-fault control ring engine memory has cannot = record {
  nothing = ((λ is. absurd (cc)), (λ not. absurd (not has)));
  fault = ((λ is. (has, cannot)), (λ both. refl));
  part = ((λ is. absurd is), (λ can. absurd (cannot can.1)));
  moved = ((λ is. absurd is), (λ can. absurd (cannot can.1)));
}

pub answers-moved : (control : ℕ) (ring : Ring) (engine : Receiver) (memory : List ℕ) (ends low : Bool)
    → HasFrameToMove control ring engine → CanMove control ring memory (length (next_piece control engine))
    → is_last control engine ≡ ends → Answers (moved_answer ends low) control ring engine memory
answers-moved control ring engine memory true low has can last = record {
  nothing = ((λ is. absurd (cc)), (λ not. absurd (not has)));
  fault = ((λ is. absurd (cc)), (λ both. absurd (both.1 can)));
  part = ((λ is. absurd is), (λ all. absurd (cc (all.2, last))));
  moved = ((λ is. (has, can, last)), (λ all. tt));
}
answers-moved control ring engine memory false low has can last = record {
  nothing = ((λ is. absurd (cc)), (λ not. absurd (not has)));
  fault = ((λ is. absurd (cc)), (λ both. absurd (both.1 can)));
  part = ((λ is. (has, can, last)), (λ all. tt));
  moved = ((λ is. absurd is), (λ all. absurd (cc (all.2, last))));
}

pub piece-is : (control size least : ℕ) (engine : Receiver) (left : List ℕ) → left ≡ drop engine.moved (oldest engine.buffer)
    → size ≡ buffer_bytes control → least ≡ min (length left) size → take least left ≡ next_piece control engine
piece-is control size least engine left left_is size_is least_is =
    ap (λ (n : ℕ). take n left) (let turned : least ≡ min size (length left) = omega (arith, least_is) in turned) ∙ take_min size left
    ∙ ap (take size) left_is ∙ ap (λ (n : ℕ). take n (drop engine.moved (oldest engine.buffer))) size_is

-- The engine, the ring and the memory after a data step with this answer, and whether exactly half of the ring's descriptors are offered.
pub record Leaves (answer : Data) (control : ℕ) (ring : Ring) (engine engine' : Receiver) (next : ℕ) (half : Bool)
    (memory memory' : List ℕ) : Type 0 where
  pub engine_is : engine' ≡ engine_after_data answer control ring engine
  pub ring_is : (let after : Ring = record ring { head = next } in after) ≡ ring_after_data answer ring
  pub memory_is : memory' ≡ memory_after_data answer control ring engine memory
  pub low_is : IfMoved answer (λ low. low ≡ half)

pub leaves-moved : (control : ℕ) (ring : Ring) (engine engine' : Receiver) (work : Work) (next : ℕ) (ends low half : Bool)
    (memory memory' : List ℕ) → work ≡ work_at control ring engine ends → engine' ≡ begun_with work engine
    → next ≡ next_of ring ring.head
    → memory' ≡ with_bytes memory (named_address memory (address_of ring ring.head)) (next_piece control engine)
    → low ≡ half → Leaves (moved_answer ends low) control ring engine engine' next half memory memory'
leaves-moved control ring engine engine' work next true low half memory memory' is begun goes stored same = record {
  engine_is = begun ∙ ap (λ (w : Work). begun_with w engine) is;
  ring_is = ap (λ (head : ℕ). let after : Ring = record ring { head = head } in after) goes;
  memory_is = stored;
  low_is = same;
}
leaves-moved control ring engine engine' work next false low half memory memory' is begun goes stored same = record {
  engine_is = begun ∙ ap (λ (w : Work). begun_with w engine) is;
  ring_is = ap (λ (head : ℕ). let after : Ring = record ring { head = head } in after) goes;
  memory_is = stored;
  low_is = same;
}
