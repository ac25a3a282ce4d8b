use Rattle.std.proofs.Common.{[], ◌++◌, ◌∷◌, ℕ, List, ap, arith, ◌∙◌, take}
use Rattle.std.specs.Prelude.{Ok}
use Rattle.packet_socket.specs.HostCalls.{Given}
use Rattle.packet_socket.specs.HostEffects.{given_by}
use Rattle.stations.specs.Stations.{world_at}
use Rattle.host_calls.specs.Networks.{connected_at, nth_host}
use Rattle.host_calls.proofs.CallSteps.{given-steps, no-other, returned-call}
use Rattle.host_calls.proofs.network.Network.give.Goals as goal

pub returns-in-Ok-clause-steps : goal.returns-in-Ok-clause-steps
returns-in-Ok-clause-steps g c =
    let k = c.args.number in
    let called = c.call-called in
    let socket = c.args.socket in
    let frame = take c.in-Ok.size called.new.into in
    let before = g.S.Outlet.frames c.args.sink.now in
    record {
      given = given_by socket (Ok frame);
      appended = c.take.ensures.last ∙ ap (λ (bytes : List ℕ). let one : Given = record { socket = socket; frame = bytes } in
          before ++ one ∷ []) c.from_slice.ensures;
      room = let left = c.take.ensures.room in omega (arith, left);
      on = given-steps k socket frame c.args.self.now.stations called.new.self.stations _ called.result.accesses
          (nth_host c.args.self.now k) (nth_host called.new.self k) c.requires.stands.ready
          (returned-call socket c.in-Ok.size called.new.into called.result.answer c.in-Received.received _
          (connected_at c.args.self.now k) (connected_at called.new.self k) c.in-Received.is c.in-Ok.is called.ensures.does)
          c.requires.free;
    }

pub returns-in_default : goal.returns-in_default
returns-in_default g c =
    absurd (no-other c.args.socket c.call-called.new.into c.call-called.result.answer (nth_host c.args.self.now c.args.number)
    (nth_host c.call-called.new.self c.args.number) _ (world_at c.args.self.now.stations c.args.number) c.in_default.not-Received
    c.call-called.ensures.does.does)
