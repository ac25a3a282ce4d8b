use Rattle.std.proofs.Common.{subst, sym}
use Rattle.played_adapter.specs.Playing.{AnswersStore}
use Rattle.played_adapter.specs.declared.player.PlayedAdapter.{PlayedAdapter}
use Rattle.program_plants.proofs.OnePlay.{heard_alike, stores_one}
use Rattle.program_plants.proofs.played_calls.store.Goals as goal

pub returns : goal.returns
returns g c =
    let address = c.args.address in
    let bytes = c.args.bytes.now in
    let first = c.store.ensures in
    let other = c.store-2.ensures in
    let again = subst (λ (s : PlayedAdapter). AnswersStore address bytes c.store-2.result s c.store-2.new.self other.told)
    (sym c.requires) other.holds in
    let one = stores_one address bytes c.store.result c.store-2.result c.args.one.now c.store.new.self c.store-2.new.self first.told
    other.told first.holds again in
    record {
      answer = one.0;
      state = one.1;
      told = heard_alike g.O.Observer.heard _ _ _ _ one.2 first.hears other.hears;
    }
