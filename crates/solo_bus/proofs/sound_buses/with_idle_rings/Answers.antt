use Rattle.std.proofs.Common.{◌≡◌, ℕ, List, ap, ◌∙◌, replicate}
use Rattle.adapter_model.specs.State.{AdapterState}
use Rattle.solo_bus.specs.SoloBuses.{SoloState}
use Rattle.adapter_model.specs.World.{World, world_after_write}
use Rattle.solo_bus.proofs.SoundBuses.{set_up, set_up-rests}
use Rattle.solo_bus.proofs.sound_buses.with_idle_rings.Goals as goal

pub returns : goal.returns
returns c =
    let state_of_world : SoloState → World = λ solo. solo.world in
    let e1 = ap state_of_world c.write_now.ensures.state in
    let e2 = ap state_of_world c.write_now-2.ensures.state ∙ ap (world_after_write 0x2808 128) e1 in
    let e3 = ap state_of_world c.write_now-3.ensures.state ∙ ap (world_after_write 0x3800 2176) e2 in
    let e4 = ap state_of_world c.write_now-4.ensures.state ∙ ap (world_after_write 0x3808 128) e3 in
    let e5 = ap state_of_world c.write_now-5.ensures.state ∙ ap (world_after_write 0x100 0x8002) e4 in
    let e6 = ap state_of_world c.write_now-6.ensures.state ∙ ap (world_after_write 0x400 0xA) e5 in
    let start : c.in_ok-bus.bus.world
    ≡ record { memory = c.in_ok-memory.memory; adapter = c.in_ok-adapter.adapter } = ap state_of_world c.in_ok-bus.ensures in
    let zeros : World = record { memory = replicate 4096 0; adapter = c.in_ok-adapter.adapter } in
    let same : (let w : World = record { memory = c.in_ok-memory.memory; adapter = c.in_ok-adapter.adapter } in w) ≡ zeros =
    ap (λ (memory : List ℕ). let w : World = record { memory = memory; adapter = c.in_ok-adapter.adapter } in w)
    c.in_ok-memory.ensures.zeros in
    let new : zeros ≡ _ = ap (λ (adapter : AdapterState). let w : World = record { memory = replicate 4096 0; adapter = adapter } in w)
    c.in_ok-adapter.ensures in
    e6 ∙ ap set_up (start ∙ same ∙ new) ∙ set_up-rests 4096 c.args.image.now
