use Rattle.std.proofs.Common.{◌≡◌, ◌∙◌, ◌∷◌, [], ℕ, ap, arith, length, refl, subst, sym}
use Rattle.std.proofs.lemmas.List.{length-drop, length-take-le}
use Rattle.adapter.specs.bus_types.event.Access.TheVariants.{Loads}
use Rattle.dma_memory.specs.HostMemory.{bytes_at}
use Rattle.played_adapter.specs.Told.{Accessed}
use Rattle.played_adapter.specs.declared.player.PlayedAdapter.{PlayedAdapter}
use Rattle.played_adapter.proofs.Happening.{alone}
use Rattle.played_adapter.proofs.player.PlayedAdapter.load_now.Goals as goal

pub returns-clause-tells : goal.returns-clause-tells
returns-clause-tells g c =
    let heard = g.O.Observer.heard in
    let a = c.args.self.now in
    let address = c.args.address in
    let size = length c.args.into.now in
    let count : length c.load.new.into ≡ size = ap (λ bytes. length bytes) c.load.ensures.loaded
    ∙ length-take-le size _ (omega (arith, c.requires, length-drop address a.machine.world.memory)) in
    alone heard g.met.O.Observer.composes (Loads address size) a c.report.new.self a.machine c.args.observer.now c.loaded.new.self
    c.report.new.observer tt refl
    (subst (λ (n : ℕ). heard c.args.observer.now c.loaded.new.self (Accessed (Loads address n) ∷ [])) count c.loaded.ensures)
    c.report.ensures

pub returns-clause-loaded : goal.returns-clause-loaded
returns-clause-loaded g c =
    c.load.ensures.loaded
    ∙ ap (λ (s : PlayedAdapter). bytes_at s.machine.world.memory c.args.address (length c.args.into.now)) (sym c.report.ensures.holds.0)
