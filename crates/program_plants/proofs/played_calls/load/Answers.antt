use Rattle.std.proofs.Common.{List, ℕ, subst, sym}
use Rattle.played_adapter.specs.Playing.{AnswersLoad}
use Rattle.played_adapter.specs.declared.player.PlayedAdapter.{PlayedAdapter}
use Rattle.program_plants.proofs.OnePlay.{heard_alike, loads_one}
use Rattle.program_plants.proofs.played_calls.load.Goals as goal

pub returns : goal.returns
returns g c =
    let address = c.args.address in
    let old = c.args.into.now in
    let a = c.args.one.now in
    let first = c.load.ensures in
    let other = c.load-2.ensures in
    let from = subst (λ (s : PlayedAdapter). AnswersLoad address c.args.other_into.now c.load-2.new.into c.load-2.result s c.load-2.new.self
    other.told) (sym c.requires.state) other.holds in
    let again = subst (λ (bytes : List ℕ). AnswersLoad address bytes c.load-2.new.into c.load-2.result a c.load-2.new.self other.told)
    (sym c.requires.bytes) from in
    let one = loads_one address old c.load.new.into c.load-2.new.into c.load.result c.load-2.result a c.load.new.self c.load-2.new.self
    first.told other.told first.holds again in
    record {
      answer = one.0;
      bytes = one.1;
      state = one.2;
      told = heard_alike g.O.Observer.heard _ _ _ _ one.3 first.hears other.hears;
    }
