use Rattle.search.proofs.Bits.{possible-without}
use Rattle.search.proofs.masks.without.Goals as goal

pub returns : goal.returns
returns c = λ other. possible-without c.args.mask c.args.number other c.requires
