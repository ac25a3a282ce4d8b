use Rattle.std.proofs.Common.{◌≡◌, ◌↔◌, ◌++◌, ℕ, List, IsTrue, length, drop, replicate, ap, subst, ◌∙◌}
use Rattle.std.proofs.lemmas.List.{drop-replicate}
use Rattle.descriptors.specs.Frames.{padded}
use Rattle.rx_filter.specs.Passing.{Passes}
use Rattle.rx_filter.specs.Registers.{filter_of}
use Rattle.receive_lane.specs.Lane.{HasFrame}
use Rattle.receive_lane.proofs.lane.ReceiveLane.receive.Goals as goal

padded_is : (c : goal.After-arrive)
    → c.copy_from_slice.new.self ++ drop (length c.args.frame.now) (replicate {A = ℕ} 60 0) ≡ padded c.args.frame.now
padded_is c =
    let frame = c.args.frame.now in
    ap (λ (t : List ℕ). t ++ drop (length frame) (replicate {A = ℕ} 60 0)) c.copy_from_slice.ensures.after
    ∙ ap (λ (z : List ℕ). frame ++ z) (drop-replicate {X = ℕ} (length frame) 60 0)

pub returns-then-frame-lt-SHORTEST_LEGAL-clause-passes : goal.returns-then-frame-lt-SHORTEST_LEGAL-clause-passes
returns-then-frame-lt-SHORTEST_LEGAL-clause-passes c =
    subst (λ (x : List ℕ). IsTrue c.arrive.result ↔ Passes (filter_of c.args.self.now.adapter.filter) x)
    (padded_is c) c.arrive.ensures.passes

pub returns-then-frame-lt-SHORTEST_LEGAL-clause-finished : goal.returns-then-frame-lt-SHORTEST_LEGAL-clause-finished
returns-then-frame-lt-SHORTEST_LEGAL-clause-finished c =
    subst (λ (x : List ℕ). IsTrue c.arrive.result → HasFrame c.arrive.new.self x) (padded_is c) c.arrive.ensures.finished
