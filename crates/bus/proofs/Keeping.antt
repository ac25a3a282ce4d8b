-- If `Keeps` holds for each of several calls over a bus, it holds for the calls one after the other.
use Rattle.std.proofs.Common.{refl, ◌∙◌}
use Rattle.bus.specs.Keeping.{Keeps}
use Rattle.bus.specs.declared.bus.Bus.{Ghosts}

pub keeps-here : {B : Type 0} (bus : Ghosts B) → ((b : B) → bus.lent_stays b b) → (b : B) → Keeps bus b b
keeps-here bus here b = record { extent = refl; lent_stays = here b; honest = λ honest. honest; lively = λ lively. lively }

pub keeps-on : {B : Type 0} (bus : Ghosts B) → ((a b c : B) → bus.lent_stays a b → bus.lent_stays b c → bus.lent_stays a c)
    → (a b c : B) → Keeps bus a b → Keeps bus b c → Keeps bus a c
keeps-on bus on a b c one two = record {
  extent = two.extent ∙ one.extent;
  lent_stays = on a b c one.lent_stays two.lent_stays;
  honest = λ honest. two.honest (one.honest honest);
  lively = λ lively. two.lively (one.lively lively);
}
