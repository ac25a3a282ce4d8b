use Rattle.drive.proofs.Exchanges.{exchanges-here}
use Rattle.drive.proofs.exchange.Exchange.turn_if_asserted.Goals as goal

pub returns-then-not-is_asserted-clause-exchanges : goal.returns-then-not-is_asserted-clause-exchanges
returns-then-not-is_asserted-clause-exchanges g c = exchanges-here g.B.Bus g.met.B.Bus.composes _
