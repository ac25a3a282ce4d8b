use Rattle.search.proofs.Bits.{possible-both}
use Rattle.search.proofs.masks.both.Goals as goal

pub returns : goal.returns
returns c = λ number. possible-both c.args.one c.args.other number
