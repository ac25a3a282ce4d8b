use Rattle.std.proofs.Common.{refl}
use Rattle.played_adapter.specs.Playing.{AnswersStore}
use Rattle.nic82540em.proofs.Pacing.{met_and_followed}
use Rattle.nic82540em.proofs.calls.meet_and_store.Goals as goal

pub returns : goal.returns
returns c =
    met_and_followed c.store-is_made.result _ _ _ (AnswersStore c.args.address c.args.bytes.now c.store-is_made.result)
    c.args.watched.now c.meet_memory.new.watched
    (record c.meet_memory.new.watched { player = c.store-is_made.new.self; events = c.store-is_made.new.observer })
    c.follow.new.watched c.meet_memory.ensures c.store-is_made.ensures refl c.follow.ensures
