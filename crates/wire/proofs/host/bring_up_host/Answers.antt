use Rattle.std.proofs.Common.{Err, List, ap, length, subst, sym, ◌∙◌}
use Rattle.std.proofs.lemmas.Result.{IfOk-from_err}
use Rattle.adapter.specs.World.{World}
use Rattle.adapter.specs.Machines.{MachineState}
use Rattle.packet_socket.specs.HostState.{new_host}
use Rattle.packet_socket.specs.declared.socket_kind.SocketKind.{SocketKind}
use Rattle.wire.specs.HostsUp.{ComesUp, IsReason}
use Rattle.wire.proofs.HostsUp.{comes-up, reason-of, station_on, valid-in}
use Rattle.wire.proofs.Telling.{passed-on}
use Rattle.wire.proofs.host.bring_up_host.Goals as goal

pub machine_of-requires : goal.machine_of-requires
machine_of-requires c = c.requires

pub returns-in_err-machine : goal.returns-in_err-machine
returns-in_err-machine c = record {
  comes_up = IfOk-from_err c.from_residual.result _ c.from_residual.ensures.0;
  why =
      passed-on c.from_residual.result c.in_err-machine.field-0.0 (IsReason c.args.plan.now) c.from_residual.ensures.1
      (subst (IsReason c.args.plan.now) (sym c.in_err-machine.ensures.error) tt);
}

pub sockets_of-table-requires : goal.sockets_of-table-requires
sockets_of-table-requires c = c.as_slice.ensures.fits

pub returns-in_err-host-clause-comes_up : goal.returns-in_err-host-clause-comes_up
returns-in_err-host-clause-comes_up c = IfOk-from_err c.from_residual-in_err-host.result _ c.from_residual-in_err-host.ensures.0

pub returns-in_err-host-clause-why : goal.returns-in_err-host-clause-why
returns-in_err-host-clause-why c =
    let plan = c.args.plan.now in
    let error = c.in_err-host.field-0.0 in
    let machine = c.in_ok-machine.machine in
    let refuses = c.in_err-host.ensures.refuses tt in
    passed-on c.from_residual-in_err-host.result error (IsReason plan) c.from_residual-in_err-host.ensures.1
    (reason-of plan machine.world _ error c.in_ok-machine.ensures.adapter
    (λ is. c.in_err-host.ensures.config.0 (ap Err is)
    (valid-in plan.config 18446744073709551615 (length machine.world.memory) c.requires.config c.in_ok-machine.ensures.memory))
    refuses.why (refuses.why_lively tt))

pub returns-clause-comes_up : goal.returns-clause-comes_up
returns-clause-comes_up c wire =
    let plan = c.args.plan.now in
    let new = c.new.new.bus in
    let host = c.in_ok-host.host in
    let left = c.machine-3-1.given.1 (sym c.new.ensures.keeps.lent_stays.machine) in
    subst (λ (world : World). ComesUp plan host (station_on wire world)) (ap (λ (machine : MachineState). machine.world) (sym left))
    (comes-up plan _ new host wire (record {
      size = 18446744073709551615;
      had = c.requires.config;
      adapter = c.in_ok-machine.ensures.adapter;
      memory = c.in_ok-host.ensures.keeps.extent ∙ c.in_ok-machine.ensures.memory;
      host_is =
          c.in_ok-host.ensures.ok.new
          ∙ ap (λ (kinds : List SocketKind). new_host host.driver kinds) (c.sockets_of-table.ensures ∙ c.as_slice.ensures.value);
      fresh = c.in_ok-host.ensures.ok.fresh.new;
      joined = c.in_ok-host.ensures.ok.fresh.joined;
      refilled = c.in_ok-host.ensures.ok.fresh.refilled;
      initialises = c.in_ok-host.ensures.initialises tt;
      ready = c.in_ok-host.ensures.ready tt;
    }))
