use Rattle.bring_up.proofs.WritesOf.{link-first, rings-last}
use Rattle.bring_up.proofs.ConfiguredSettings.{writes-configure}
use Rattle.bring_up.proofs.Setups.{setups-agree}
use Rattle.bring_up.proofs.configured_law.writes_configure.Goals as goal

pub returns : goal.returns
returns c = record { configure = writes-configure; rings_last = rings-last; link_first = link-first; agree = setups-agree }
