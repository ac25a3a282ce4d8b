use Rattle.std.proofs.Common.{ℕ, refl, sym, ap, subst, length, ◌∙◌}
use Rattle.adapter_plants.specs.OneAccess.{state_one}
use Rattle.adapter.specs.bus_types.event.Access.TheVariants.{Loads}
use Rattle.adapter.specs.World.{World}
use Rattle.dma_memory.specs.HostMemory.{bytes_at}
use Rattle.adapter.specs.SoloBuses.{Recounts, SoloState}
use Rattle.adapter_plants.proofs.solo_bus_calls.load_twice.Goals as goal

pub returns-clause-state : goal.returns-clause-state
returns-clause-state c =
    let p = c.load.ensures.acts tt in
    let q = c.load-2.ensures.acts tt in
    let again = subst (λ (s : SoloState). Recounts s c.load-2.new.self q.past) (sym c.requires.state) q.told in
    state_one c.args.one.now c.load.new.self c.load-2.new.self p.past q.past
    (Loads c.args.address (length c.args.into.now)) (Loads c.args.address (length c.args.other_into.now)) p.only q.only
    (refl, c.requires.length) p.told again

pub returns-clause-bytes : goal.returns-clause-bytes
returns-clause-bytes c =
    let p = c.load.ensures.acts tt in
    let q = c.load-2.ensures.acts tt in
    let again = subst (λ (s : SoloState). Recounts s c.load-2.new.self q.past) (sym c.requires.state) q.told in
    let one = state_one c.args.one.now c.load.new.self c.load-2.new.self p.past q.past
    (Loads c.args.address (length c.args.into.now)) (Loads c.args.address (length c.args.other_into.now)) p.only q.only
    (refl, c.requires.length) p.told again in
    p.effect_is.0
    ∙ ap (λ (w : World). bytes_at w.memory c.args.address (length c.args.into.now)) (sym p.effect_is.1 ∙ one.world ∙ q.effect_is.1)
    ∙ ap (λ (n : ℕ). bytes_at q.middle.memory c.args.address n) c.requires.length
    ∙ sym q.effect_is.0
