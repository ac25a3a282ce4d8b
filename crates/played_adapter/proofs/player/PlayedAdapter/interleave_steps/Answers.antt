use Rattle.std.proofs.Common.{◌≡◌, ◌∙◌, ◌+◌, ℕ, ap, arith, subst}
use Rattle.rand_pcg.specs.Lcg.{Lcg}
use Rattle.played_adapter.specs.Draws.{chosen_below, drawn_count}
use Rattle.played_adapter.specs.Order.{Tells, Times}
use Rattle.played_adapter.specs.Playing.{Chosen, DrawsChoice, drawn_from}
use Rattle.played_adapter.specs.declared.choices.Choice.{Choice}
use Rattle.played_adapter.proofs.Choosing.{count_is}
use Rattle.played_adapter.proofs.Telling.{tells_none, times_more}
use Rattle.played_adapter.proofs.player.PlayedAdapter.interleave_steps.Goals as goal

pub loop-step-init : goal.loop-step-init
loop-step-init g c =
    tells_none (λ (turn : ℕ). DrawsChoice) g.O.Observer.heard g.met.O.Observer.composes
    (record c.args.self.now { generator = c.choose_below-count.new.generator }) c.args.observer.now

pub loop-step-preserved : goal.loop-step-preserved
loop-step-preserved g c =
    let heard = g.O.Observer.heard in
    let first = record c.args.self.now { generator = c.choose_below-count.new.generator } in
    let before = c.loop-step.self in
    let chose = c.draw-choice.ensures in
    let after = c.choose.new.self in
    let drew : Tells heard c.loop-step.observer c.choose.new.observer (DrawsChoice before after) =
    subst (λ (choice : Choice). Tells heard c.loop-step.observer c.choose.new.observer (Chosen choice (drawn_from before) after))
    chose.choice
    (subst (λ (word : Lcg). Tells heard c.loop-step.observer c.choose.new.observer
    (Chosen c.draw-choice.result (record before { generator = word }) after)) chose.generator c.choose.ensures) in
    times_more DrawsChoice heard g.met.O.Observer.composes c.loop-step._step first before after c.args.observer.now c.loop-step.observer
    c.choose.new.observer c.loop-step.invariant drew

pub returns : goal.returns
returns g c =
    let heard = g.O.Observer.heard in
    let self = c.args.self.now in
    let drawn = c.choose_below-count in
    let counts : chosen_below self.most_steps (c.from.result + 1) 0 self.generator ≡ drawn_count self.most_steps self.generator =
    ap (λ (most : ℕ). chosen_below self.most_steps (most + 1) 0 self.generator) c.from.ensures ∙ count_is self.most_steps self.generator in
    let word_is : drawn.new.generator ≡ (drawn_count self.most_steps self.generator).1 =
    drawn.ensures.generator ∙ ap (λ (one : ℕ × Lcg). one.1) counts in
    let same : drawn.result ≡ (drawn_count self.most_steps self.generator).0 =
    drawn.ensures.number ∙ ap (λ (one : ℕ × Lcg). one.0) counts in
    let number_is : c.loop-step._step ≡ (drawn_count self.most_steps self.generator).0 = omega arith in
    subst
    (λ (word : Lcg). Tells heard c.args.observer.now c.loop-step.observer
    (Times DrawsChoice (drawn_count self.most_steps self.generator).0 (record self { generator = word }) c.loop-step.self))
    word_is
    (subst
    (λ (n : ℕ). Tells heard c.args.observer.now c.loop-step.observer
    (Times DrawsChoice n (record self { generator = drawn.new.generator }) c.loop-step.self))
    number_is c.loop-step.invariant)
