use Rattle.std.proofs.Common.{refl, sym, subst}
use Rattle.adapter_plants.specs.OneAccess.{answer_one, state_one}
use Rattle.adapter.specs.bus_types.event.Access.TheVariants.{Reads}
use Rattle.adapter.specs.SoloBuses.{Recounts, SoloState}
use Rattle.adapter_plants.proofs.solo_bus_calls.read_twice.Goals as goal

pub returns-clause-answer : goal.returns-clause-answer
returns-clause-answer c =
    let p = c.read.ensures.acts tt in
    let q = c.read-2.ensures.acts tt in
    let again = subst (λ (s : SoloState). Recounts s c.read-2.new.self q.past) (sym c.requires) q.told in
    cc (answer_one c.args.one.now c.read.new.self c.read-2.new.self p.past q.past
    (Reads c.args.offset c.read.result) (Reads c.args.offset c.read-2.result) p.only q.only refl p.told again)

pub returns-clause-state : goal.returns-clause-state
returns-clause-state c =
    let p = c.read.ensures.acts tt in
    let q = c.read-2.ensures.acts tt in
    let again = subst (λ (s : SoloState). Recounts s c.read-2.new.self q.past) (sym c.requires) q.told in
    state_one c.args.one.now c.read.new.self c.read-2.new.self p.past q.past
    (Reads c.args.offset c.read.result) (Reads c.args.offset c.read-2.result) p.only q.only refl p.told again
