use Rattle.std.proofs.Common.{◌≡◌, ◌+◌, ◌++◌, ◌∙◌, ◌∷◌, [], List, ap, arith, get_or, subst, sym, take}
use Rattle.std.proofs.lemmas.List.{take_all, take_more}
use Rattle.adapter.specs.model_types.step.StepKind.{StepKind}
use Rattle.adapter.specs.model_types.step.StepKind.TheVariants.{TxTake}
use Rattle.std.specs.Int.{from_bool}
use Rattle.played_adapter.specs.Outcomes.{moved_by}
use Rattle.played_adapter.specs.Playing.{PlaysStepOfKind, Steps}
use Rattle.played_adapter.specs.Order.{InOrder, Tells}
use Rattle.played_adapter.proofs.Cycles.{counts, moved_little}
use Rattle.played_adapter.proofs.Telling.{tells_more, tells_none, tells_so}
use Rattle.played_adapter.proofs.player.PlayedAdapter.play.Goals as goal

pub loop-kind-init : goal.loop-kind-init
loop-kind-init g c = record {
  plays = tells_none PlaysStepOfKind g.O.Observer.heard g.met.O.Observer.composes (c.args.self.now, 0) c.args.observer.now;
  few = omega arith;
}

pub loop-kind-preserved : goal.loop-kind-preserved
loop-kind-preserved g c =
    let heard = g.O.Observer.heard in
    let i = c.loop-kind.kind-index in
    let all = c.args.kinds.now in
    let kind : StepKind = get_or all i TxTake in
    let outcome = c.step-outcome.result in
    let more = c.loop-kind.moved + c.from-moved.result in
    let counted : c.from-moved.result ≡ moved_by outcome = c.from-moved.ensures ∙ ap from_bool c.did.ensures ∙ counts outcome in
    let plays = tells_so heard (Steps kind outcome c.loop-kind.self c.step-outcome.new.self)
    (PlaysStepOfKind kind (c.loop-kind.self, c.loop-kind.moved) (c.step-outcome.new.self, more)) c.loop-kind.observer
    c.step-outcome.new.observer
    (λ told steps. record { outcome = outcome; steps = steps; count = ap (◌+◌ c.loop-kind.moved) counted })
    c.step-outcome.ensures in
    let kinds : take i all ++ kind ∷ [] ≡ take (i + 1) all = sym (take_more all i TxTake c.loop-kind-test.true) in
    record {
      plays = subst
          (λ (ks : List StepKind). Tells heard c.args.observer.now c.step-outcome.new.observer
          (InOrder PlaysStepOfKind ks (c.args.self.now, 0) (c.step-outcome.new.self, more))) kinds
          (tells_more PlaysStepOfKind heard g.met.O.Observer.composes (take i all) kind (c.args.self.now, 0)
          (c.loop-kind.self, c.loop-kind.moved) (c.step-outcome.new.self, more)
          c.args.observer.now c.loop-kind.observer c.step-outcome.new.observer c.loop-kind.invariant.plays plays);
      few = omega (arith, counted, moved_little outcome);
    }

pub returns-clause-plays : goal.returns-clause-plays
returns-clause-plays g c =
    subst
    (λ (ks : List StepKind). Tells g.O.Observer.heard c.args.observer.now c.loop-kind.observer
    (InOrder PlaysStepOfKind ks (c.args.self.now, 0) (c.loop-kind.self, c.loop-kind.moved)))
    (take_all c.loop-kind.kind-index c.args.kinds.now c.loop-kind-test.false) c.loop-kind.invariant.plays
