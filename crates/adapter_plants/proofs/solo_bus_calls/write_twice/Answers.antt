use Rattle.std.proofs.Common.{refl, sym, subst}
use Rattle.adapter_plants.specs.OneAccess.{state_one}
use Rattle.adapter.specs.bus_types.event.Access.TheVariants.{Writes}
use Rattle.adapter.specs.SoloBuses.{Recounts, SoloState}
use Rattle.adapter_plants.proofs.solo_bus_calls.write_twice.Goals as goal

pub returns : goal.returns
returns c =
    let p = c.write.ensures.acts tt in
    let q = c.write-2.ensures.acts tt in
    let again = subst (λ (s : SoloState). Recounts s c.write-2.new.self q.past) (sym c.requires) q.told in
    state_one c.args.one.now c.write.new.self c.write-2.new.self p.past q.past
    (Writes c.args.offset c.args.value) (Writes c.args.offset c.args.value) p.only q.only (refl, refl) p.told again
