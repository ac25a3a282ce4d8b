use Rattle.network_plants.proofs.Drained.{drains-alike-from}
use Rattle.network_plants.proofs.calls_twice.drain_twice.Goals as goal

pub returns : goal.returns
returns S c =
    drains-alike-from _ _ _ _ _ (record { before = S.S.Outlet.frames c.args.sink.now; after = S.S.Outlet.frames c.drain.new.sink })
    (record { before = S.S.Outlet.frames c.args.second.now; after = S.S.Outlet.frames c.drain-2.new.sink }) _ _ c.requires.same
    c.drain.ensures.drains c.drain-2.ensures.drains
