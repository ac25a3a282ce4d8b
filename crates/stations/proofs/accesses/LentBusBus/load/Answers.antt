use Rattle.std.proofs.Common.{ap, arith, length, refl, subst, ◌∙◌}
use Rattle.adapter.specs.State.{IsAdapter}
use Rattle.adapter.specs.World.{World}
use Rattle.adapter.specs.bus_types.event.Access.TheVariants.{Loads}
use Rattle.dma_memory.specs.HostMemory.{bytes_at}
use Rattle.stations.proofs.LentAccesses.{access-keeps, acted, load-leaves, size-prepared}
use Rattle.stations.proofs.accesses.LentBusBus.load.Goals as goal

pub load-requires : goal.load-requires
load-requires g c = record {
  lies = omega (
    arith,
    c.requires,
    size-prepared c.args.self.now c.prepare.new.self c.prepare.ensures,
    ap (λ (w : World). length w.memory) c.machine.ensures,
  );
}

pub returns-clause-keeps : goal.returns-clause-keeps
returns-clause-keeps g c = access-keeps (Loads c.args.address (length c.args.into.now)) c.prepare.ensures
    (load-leaves c.prepare.new.self c.args.address (length c.args.into.now)) tt refl

pub returns-clause-acts : goal.returns-clause-acts
returns-clause-acts g c = λ honest.
    acted c.prepare.ensures
    (load-leaves c.prepare.new.self c.args.address (length c.args.into.now)) tt
    (subst (λ (w : World). IsAdapter w.adapter) c.machine.ensures c.load.ensures.adapter)
    (λ there. (
      c.load.ensures.loaded
          ∙ ap (λ (w : World). bytes_at w.memory c.args.address (length c.args.into.now)) c.machine.ensures,
      there,
    ))
