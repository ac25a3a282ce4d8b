use Rattle.std.proofs.Common.{ap, arith}
use Rattle.dma_memory.specs.Laws.{length-with_bytes}
use Rattle.bus.specs.declared.event.Access.TheVariants.{Stores}
use Rattle.solo_bus.specs.SoloBuses.{SoloState}
use Rattle.solo_bus.proofs.SoloAccesses.{access_keeps, acts_on, size_prepared}
use Rattle.solo_bus.proofs.accesses.SoloBusBus.store.Goals as goal

pub store_now-requires : goal.store_now-requires
store_now-requires c = omega (arith, c.requires, size_prepared c.args.self.now c.prepare.new.self c.prepare.ensures)

pub returns-clause-keeps : goal.returns-clause-keeps
returns-clause-keeps c =
    access_keeps c.args.self.now c.prepare.new.self c.store_now.new.self _ c.prepare.ensures c.store_now.ensures.state
    (length-with_bytes c.prepare.new.self.world.memory c.args.bytes.now c.args.address
    (omega (arith, c.requires, size_prepared c.args.self.now c.prepare.new.self c.prepare.ensures)))

pub returns-clause-acts : goal.returns-clause-acts
returns-clause-acts c honest =
    acts_on c.args.self.now c.prepare.new.self c.store_now.new.self
    (Stores c.args.address c.args.bytes.now) _ c.prepare.ensures c.store_now.ensures.state tt c.store_now.ensures.adapter
    (ap (λ (s : SoloState). s.world) c.store_now.ensures.state)
