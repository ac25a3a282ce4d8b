use Rattle.std.proofs.Common.{refl, true}
use Rattle.adapter.specs.bus_types.event.Access.TheVariants.{Writes}
use Rattle.played_adapter.specs.Playing.{Accessed}
use Rattle.nic82540em.proofs.Pacing.{met_and_followed}
use Rattle.nic82540em.proofs.calls.meet_and_write.Goals as goal

pub returns : goal.returns
returns c =
    met_and_followed true _ _ _ (Accessed (Writes c.args.offset c.args.value)) c.args.watched.now c.meet.new.watched
    (record c.meet.new.watched { player = c.write.new.self; events = c.write.new.observer })
    c.follow.new.watched c.meet.ensures c.write.ensures refl c.follow.ensures
