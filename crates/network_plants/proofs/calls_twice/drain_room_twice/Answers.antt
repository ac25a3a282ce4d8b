use Rattle.network_plants.proofs.Counted.{rooms-alike}
use Rattle.network_plants.proofs.calls_twice.drain_room_twice.Goals as goal

pub returns : goal.returns
returns c =
    rooms-alike c.args.lan.now c.args.host _ _ c.drain_room.ensures.there c.drain_room-2.ensures.there
    c.drain_room.ensures.none c.drain_room-2.ensures.none
