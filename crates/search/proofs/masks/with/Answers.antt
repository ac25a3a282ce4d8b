use Rattle.search.proofs.Bits.{possible-with}
use Rattle.search.proofs.masks.with.Goals as goal

pub returns : goal.returns
returns c = λ other. possible-with c.args.mask c.args.number other c.requires
