use Rattle.bus.proofs.Composition.{happens_none, happens_trans}
use Rattle.bus.proofs.law.intervals_compose.Goals as goal

pub returns : goal.returns
returns c = record {
  joins = happens_trans;
  nothing = happens_none;
  sound = λ o p a b past happened sound. (happened.between o p sound).sound;
}
