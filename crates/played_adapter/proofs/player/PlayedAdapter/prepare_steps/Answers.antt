use Rattle.std.proofs.Common.{refl, subst, sym, ℕ}
use Rattle.played_adapter.specs.Order.{InOrder, Joins, Tells}
use Rattle.played_adapter.specs.Playing.{Draws, Interleaves, PlaysScheduled, Prepares, Ticks, access_counted, due_in}
use Rattle.played_adapter.proofs.Telling.{tells_both, tells_so}
use Rattle.played_adapter.proofs.Happening.{ticks_off, ticks_on}
use Rattle.played_adapter.proofs.player.PlayedAdapter.prepare_steps.Goals as goal
use Rattle.played_adapter.proofs.player.PlayedAdapter.prepare_steps.Goals.{else-self, then-self}

pub returns : goal.returns
returns g c =
    let heard = g.O.Observer.heard in
    let laws = g.met.O.Observer.composes in
    let a = c.args.self.now in
    let ticked = c.if-self.self in
    let ticks : Tells heard c.args.observer.now c.if-self.observer (Ticks a ticked) = elim c.if-self.branch [
      | then-self w ↦ rw (w.self-is, w.observer-is) (ticks_on heard laws a w.play.new.self w.play.result c.args.observer.now
          w.play.new.observer w.if-self.true w.play.ensures.plays)
      | else-self w ↦ rw (w.self-is, w.observer-is) (ticks_off heard laws a c.args.observer.now w.if-self.false)
    ] in
    let waited = c.play_scheduled.new.self in
    let drawn = c.interleave_steps.new.self in
    let end = access_counted drawn in
    subst (λ (n : ℕ). Tells heard c.args.observer.now c.interleave_steps.new.observer
    (Prepares a (record drawn { accesses = n }))) (sym c.saturating_add-self.ensures)
    (tells_both heard laws (Ticks a)
    (λ a. Joins (InOrder PlaysScheduled (due_in a) a) (λ b rest. Draws b end rest)) ticked
    c.args.observer.now c.if-self.observer c.interleave_steps.new.observer ticks
    (tells_both heard laws (InOrder PlaysScheduled (due_in ticked) ticked) (λ b rest. Draws b end rest) waited
    c.if-self.observer c.play_scheduled.new.observer c.interleave_steps.new.observer c.play_scheduled.ensures
    (tells_so heard (Interleaves waited drawn) (Draws waited end) c.play_scheduled.new.observer c.interleave_steps.new.observer
    (λ told draws. (drawn, draws, refl)) c.interleave_steps.ensures)))
