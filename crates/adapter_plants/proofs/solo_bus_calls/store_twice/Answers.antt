use Rattle.std.proofs.Common.{refl, sym, subst}
use Rattle.adapter_plants.specs.OneAccess.{state_one}
use Rattle.adapter.specs.bus_types.event.Access.TheVariants.{Stores}
use Rattle.adapter.specs.SoloBuses.{Recounts, SoloState}
use Rattle.adapter_plants.proofs.solo_bus_calls.store_twice.Goals as goal

pub returns : goal.returns
returns c =
    let p = c.store.ensures.acts tt in
    let q = c.store-2.ensures.acts tt in
    let again = subst (λ (s : SoloState). Recounts s c.store-2.new.self q.past) (sym c.requires.state) q.told in
    state_one c.args.one.now c.store.new.self c.store-2.new.self p.past q.past
    (Stores c.args.address c.args.bytes.now) (Stores c.args.address c.args.bytes.now) p.only q.only (refl, refl) p.told again
