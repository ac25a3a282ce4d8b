use Rattle.std.proofs.Common.{refl, rules}
use Rattle.server_output.proofs.HeardOne.{heard_refused, heard_step}
use Rattle.server_output.proofs.telling.LinesObserver.stepped.Goals as goal

pub returns-then-is_err : goal.returns-then-is_err
returns-then-is_err g c = (refl, refl, heard_refused _ _ _ _ _ _ _ _ _ refl refl (search rules))

pub returns : goal.returns
returns g c = (
  refl,
  refl,
  heard_step c.keep_step-kept.result c.say_made.result _ _ _ _ _ _ _ _ _ _ (search rules) c.keep_step-kept.ensures (search rules)
      c.err-self.ensures.value (c.say_made.ensures.text _ c.step_text-text.ensures),
)
