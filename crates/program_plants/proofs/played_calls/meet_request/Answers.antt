use Rattle.std.proofs.Common.{ap, subst, sym, ◌∙◌}
use Rattle.step_schedules.specs.Agendas.{AgendaState}
use Rattle.step_schedules.specs.declared.deviation.Before.TheVariants.{Request}
use Rattle.played_adapter.specs.Moves.{met, request_moves}
use Rattle.played_adapter.specs.Playing.{Makes}
use Rattle.played_adapter.specs.declared.player.PlayedAdapter.{PlayedAdapter}
use Rattle.played_adapter.specs.Order.{InOrder, Tells}
use Rattle.program_plants.proofs.OnePlay.{moves_one, one_told}
use Rattle.program_plants.proofs.played_calls.meet_request.Goals as goal

pub returns : goal.returns
returns g c =
    let heard = g.O.Observer.heard in
    let name = c.args.name.now in
    let a = c.args.one.now in
    let end = c.meet_request-2.new.self in
    let moves = request_moves Request name c.args.agenda.now in
    let again = subst (λ (s : PlayedAdapter). Tells heard c.args.another.now c.meet_request-2.new.observer (InOrder Makes moves s end))
    (sym c.requires.player)
    (subst (λ (n : AgendaState). Tells heard c.args.another.now c.meet_request-2.new.observer
    (InOrder Makes (request_moves Request name n) c.args.other.now end)) (sym c.requires.agenda) c.meet_request-2.ensures.plays) in
    let same = one_told heard (InOrder Makes moves) (moves_one moves) a c.meet_request.new.self end c.args.observer.now
    c.meet_request.new.observer c.args.another.now c.meet_request-2.new.observer c.meet_request.ensures.plays again in
    record {
      state = same.0;
      agenda = c.meet_request.ensures.met ∙ ap (met Request name) c.requires.agenda ∙ sym c.meet_request-2.ensures.met;
      told = same.1;
    }
