use Rattle.played_adapter.proofs.Playing.{quiet_accesses}
use Rattle.played_adapter.proofs.law.quiet_accesses_are_exact.Goals as goal

pub returns : goal.returns
returns c = quiet_accesses
