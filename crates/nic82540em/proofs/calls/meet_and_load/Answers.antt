use Rattle.std.proofs.Common.{refl}
use Rattle.played_adapter.specs.Playing.{AnswersLoad}
use Rattle.nic82540em.proofs.Pacing.{met_and_followed}
use Rattle.nic82540em.proofs.calls.meet_and_load.Goals as goal

pub returns : goal.returns
returns c =
    met_and_followed c.load-is_made.result _ _ _ (AnswersLoad c.args.address c.args.into.now c.load-is_made.new.into c.load-is_made.result)
    c.args.watched.now c.meet_memory.new.watched
    (record c.meet_memory.new.watched { player = c.load-is_made.new.self; events = c.load-is_made.new.observer })
    c.follow.new.watched c.meet_memory.ensures c.load-is_made.ensures refl c.follow.ensures
