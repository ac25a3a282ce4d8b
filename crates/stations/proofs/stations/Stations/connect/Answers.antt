use Rattle.std.proofs.Common.{rules, ◌≡◌, ◌++◌, ◌∷◌, [], List, ap, arith, length, sym, take, ◌∙◌}
use Rattle.adapter.specs.Machines.{MachineState}
use Rattle.stations.specs.Ends.{EndState}
use Rattle.stations.specs.StationsView.{station_of, stations_of}
use Rattle.stations.specs.Stations.{StationState}
use Rattle.stations.proofs.Hosts.{append-both, taken-back}
use Rattle.stations.proofs.NewEnds.{on_err}
use Rattle.stations.proofs.stations.Stations.connect.Goals as goal

pub returns-in_err-push-clause-err : goal.returns-in_err-push-clause-err
returns-in_err-push-clause-err c =
    on_err c.from_residual.result (stations_of c.push.new.self.items c.self.inside.wires ≡ c.args.self.now)
    (ap (λ (list : List MachineState). stations_of list c.self.inside.wires) c.in_err-push.ensures.items ∙ c.self.view_is)

pub invariant_of-self-in-Err : goal.invariant_of-self-in-Err
invariant_of-self-in-Err c =
    let ms = c.self.inside.machines.items in
    let back : c.truncate.new.self.items ≡ ms =
    c.truncate.ensures.items ∙ ap (take c.len-count.result) c.in_ok-push.ensures.items
    ∙ taken-back ms c.args.machine c.len-count.result (omega (arith, c.len-count.ensures, c.self.inside.machines.ok.0)) in
    record {
      ends = ap (λ (list : List EndState). length list) c.in-Err.ensures.err
          ∙ c.self.invariant.ends
          ∙ sym (ap (λ (list : List MachineState). length list) back);
    }

pub returns-in-Err-clause-err : goal.returns-in-Err-clause-err
returns-in-Err-clause-err c =
    let ms = c.self.inside.machines.items in
    let back : c.truncate.new.self.items ≡ ms =
    c.truncate.ensures.items ∙ ap (take c.len-count.result) c.in_ok-push.ensures.items
    ∙ taken-back ms c.args.machine c.len-count.result (omega (arith, c.len-count.ensures, c.self.inside.machines.ok.0)) in
    ap (λ (list : List MachineState). stations_of list c.connect.new.self) back
    ∙ ap (stations_of ms) c.in-Err.ensures.err
    ∙ c.self.view_is

pub returns-clause-connected : goal.returns-clause-connected
returns-clause-connected c =
    let ms = c.self.inside.machines.items in
    let es = c.self.inside.wires in
    let end : EndState = record { wire = c.args.wire; backlog = [] } in
    let wires : c.connect.new.self ≡ es ++ end ∷ [] = (search rules) in
    ap (λ (list : List MachineState). stations_of list c.connect.new.self) c.in_ok-push.ensures.items
    ∙ ap (stations_of (ms ++ c.args.machine ∷ [])) wires
    ∙ append-both ms es c.args.machine end c.self.invariant.ends
    ∙ ap (λ (list : List StationState). list ++ station_of c.args.machine end ∷ []) c.self.view_is
