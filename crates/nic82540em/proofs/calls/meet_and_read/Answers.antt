use Rattle.std.proofs.Common.{refl, true}
use Rattle.adapter.specs.bus_types.event.Access.TheVariants.{Reads}
use Rattle.played_adapter.specs.Playing.{Accessed}
use Rattle.nic82540em.proofs.Pacing.{met_and_followed}
use Rattle.nic82540em.proofs.calls.meet_and_read.Goals as goal

pub returns : goal.returns
returns c =
    met_and_followed true _ _ _ (Accessed (Reads c.args.offset c.read-value.result)) c.args.watched.now c.meet.new.watched
    (record c.meet.new.watched { player = c.read-value.new.self; events = c.read-value.new.observer })
    c.follow.new.watched c.meet.ensures c.read-value.ensures refl c.follow.ensures
