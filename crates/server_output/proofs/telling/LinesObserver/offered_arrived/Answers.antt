use Rattle.std.proofs.Common.{refl, rules}
use Rattle.server_output.proofs.HeardOne.{heard_said}
use Rattle.server_output.proofs.telling.LinesObserver.offered_arrived.Goals as goal

pub returns : goal.returns
returns g c = (
  refl,
  refl,
  heard_said c.say_made.result _ _ _ _ _ _ _ _ (search rules) c.err-self.ensures.value
      (c.say_made.ensures.text _ c.arrival_text-text.ensures) refl,
)
