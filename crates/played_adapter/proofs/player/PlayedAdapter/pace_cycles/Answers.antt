use Rattle.played_adapter.proofs.player.PlayedAdapter.pace_cycles.Goals as goal

pub returns : goal.returns
returns g c =
    let tells = c.settle-moved.ensures in
    record { told = tells.told; holds = (c.settle-moved.result, rw c.from.ensures at tells.holds); hears = tells.hears }
