use Rattle.bring_up.proofs.Steps.{only-join, only-write}
use Rattle.bring_up.proofs.filter_tables.write_address.Goals as goal
use Rattle.std.proofs.Common.{◌≡◌, ◌+◌, ◌*◌, ◌∷◌, [], arith, refl}

pub returns-clause-sets : goal.returns-clause-sets
returns-clause-sets g c honest =
    let entry = c.args.entry in
    let start = c.args.bus.now in
    let first : 21504 + 8 * entry ≡ 0x5400 + 8 * entry = omega arith in
    let second : 21504 + 8 * entry + 4 ≡ 0x5404 + 8 * entry = omega arith in
    only-join g.B.Bus g.met.B.Bus.composes.joins start c.write.new.self c.write-2.new.self (_ ∷ []) (_ ∷ [])
    (only-write first refl (c.write.ensures.acts honest))
    (only-write second refl (c.write-2.ensures.acts (c.write.ensures.keeps.honest honest)))
