use Rattle.network_plants.proofs.Counted.{counts-alike}
use Rattle.network_plants.proofs.calls_twice.counts_twice.Goals as goal

pub returns : goal.returns
returns c =
    counts-alike _ _ _ _ c.counts.ensures.none c.counts-2.ensures.none c.counts.ensures.counts c.counts-2.ensures.counts
