use Rattle.std.proofs.Common.{ℕ, sym, subst}
use Rattle.adapter.specs.bus_types.event.Access.TheVariants.{Reads}
use Rattle.played_adapter.specs.Playing.{Accessed}
use Rattle.played_adapter.specs.declared.player.PlayedAdapter.{PlayedAdapter}
use Rattle.program_plants.proofs.OnePlay.{accessed_one, heard_alike, reads_one}
use Rattle.program_plants.proofs.played_calls.read.Goals as goal

pub returns : goal.returns
returns g c =
    let offset = c.args.offset in
    let first = c.read.ensures in
    let other = c.read-2.ensures in
    let again = subst (λ (s : PlayedAdapter). Accessed (Reads offset c.read-2.result) s c.read-2.new.self other.told) (sym c.requires)
    other.holds in
    let answers = reads_one offset c.read.result c.read-2.result c.args.one.now c.read.new.self c.read-2.new.self first.told other.told
    first.holds again in
    let one = accessed_one (Reads offset c.read.result) c.args.one.now c.read.new.self c.read-2.new.self first.told other.told first.holds
    (subst (λ (value : ℕ). Accessed (Reads offset value) c.args.one.now c.read-2.new.self other.told) (sym answers) again) in
    record { answer = answers; state = one.0; told = heard_alike g.O.Observer.heard _ _ _ _ one.1 first.hears other.hears }
