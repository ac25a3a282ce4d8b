use Rattle.std.proofs.Common.{◌≡◌, ◌∙◌, ℕ, ap}
use Rattle.adapter.specs.Registers.{after_write}
use Rattle.played_adapter.specs.FirstAdapters.{pba, with_missed}
use Rattle.adapter_server.specs.NewSessions.{adapter_of}
use Rattle.adapter_server.proofs.beginning.new_device.Goals as goal

pub returns : goal.returns
returns c =
    let options = c.args.options.now in
    let adapter : c.set_missed.new.self ≡ adapter_of options =
    c.set_missed.ensures.state
    ∙ ap (with_missed options.missed)
    (c.write.ensures.state ∙ ap (λ (value : ℕ). after_write pba value c.in_ok-adapter.adapter) c.from.ensures
    ∙ ap (after_write pba options.receive_kilobytes) c.in_ok-adapter.ensures) in
    rw (adapter, c.in_ok-memory.ensures.zeros) at c.without_wire.ensures
