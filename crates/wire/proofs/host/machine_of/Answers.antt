use Rattle.std.proofs.Common.{◌≡◌, ℕ, List, ap, length, refl, ◌∙◌}
use Rattle.std.proofs.lemmas.List.{length-replicate}
use Rattle.std.proofs.lemmas.Result.{IfOk-at_ok, IfOk-from_err}
use Rattle.dma_memory.specs.Layout.{Counts, size_of}
use Rattle.bring_up.specs.Configuration.{configured_counts}
use Rattle.bring_up.specs.declared.init_error.InitError.{InitError}
use Rattle.bring_up.specs.declared.init_error.InitError.TheVariants.{Memory}
use Rattle.adapter.specs.Machines.{MachineState}
use Rattle.wire.proofs.Telling.{passed-on}
use Rattle.wire.proofs.host.machine_of.Goals as goal

pub unwrap-layout-requires : goal.unwrap-layout-requires
unwrap-layout-requires c = c.layout.ensures.ok.1 c.requires.config

pub returns-in_err-memory : goal.returns-in_err-memory
returns-in_err-memory c =
    let failed = c.from_residual in
    record {
      adapter = IfOk-from_err failed.result _ failed.ensures.0;
      memory = IfOk-from_err failed.result _ failed.ensures.0;
      error = passed-on failed.result Memory (λ (error : InitError). error ≡ Memory) failed.ensures.1 refl;
    }

pub returns-in_err-adapter : goal.returns-in_err-adapter
returns-in_err-adapter c =
    let failed = c.from_residual-in_err-adapter in
    record {
      adapter = IfOk-from_err failed.result _ failed.ensures.0;
      memory = IfOk-from_err failed.result _ failed.ensures.0;
      error = passed-on failed.result Memory (λ (error : InitError). error ≡ Memory) failed.ensures.1 refl;
    }

pub returns-clause-adapter : goal.returns-clause-adapter
returns-clause-adapter c = ap (λ (machine : MachineState). machine.world.adapter) c.new-3.ensures ∙ c.in_ok-adapter.ensures

pub returns-clause-memory : goal.returns-clause-memory
returns-clause-memory c =
    ap (λ (machine : MachineState). length machine.world.memory) c.new-3.ensures
    ∙ ap (λ (bytes : List ℕ). length bytes) c.in_ok-memory.ensures.zeros
    ∙ length-replicate {A = ℕ} c.size.result 0
    ∙ c.size.ensures.end
    ∙ ap size_of
    (IfOk-at_ok (λ (layout : Counts). layout ≡ configured_counts c.args.plan.now.config) c.unwrap-layout.ensures
    c.layout.ensures.counts)
