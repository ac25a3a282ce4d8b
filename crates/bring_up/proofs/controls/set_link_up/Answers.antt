use Rattle.std.proofs.Common.{◌∙◌, ℕ, ap, refl}
use Rattle.adapter.specs.World.{world_after_write}
use Rattle.adapter.proofs.Links.{happenings_keep_link}
use Rattle.bring_up.proofs.DriverResets.{link_control-keeps}
use Rattle.bring_up.proofs.Steps.{only-write}
use Rattle.bring_up.proofs.controls.set_link_up.Goals as goal

pub returns-clause-sets : goal.returns-clause-sets
returns-clause-sets g c honest =
    only-write refl (c.bits.ensures tt ∙ c.union.ensures tt) (c.write.ensures.acts honest)

pub returns-clause-link : goal.returns-clause-link
returns-clause-link g c honest link =
    let acts = c.write.ensures.acts honest in
    link_control-keeps acts.middle (g.B.Bus.world c.write.new.self)
    (acts.effect_is ∙ ap (λ (word : ℕ). world_after_write 0x0000 word acts.middle) (c.bits.ensures tt ∙ c.union.ensures tt))
    (happenings_keep_link (g.B.Bus.world c.args.bus.now) acts.middle acts.past acts.before link)
