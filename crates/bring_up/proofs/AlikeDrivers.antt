-- Intervals of a driver's run, if only the joined groups and the pieces that others hold differ.
use Rattle.std.proofs.Common.{Bool, ℕ, List}
use Rattle.adapter.specs.World.{World}
use Rattle.adapter.specs.Pasts.{Past}
use Rattle.adapter.specs.Calls.{DriverDid, FlowsTo, GoesTo, driver_in}
use Rattle.adapter.specs.DriverState.{DriverState, HandedOut}
use Rattle.adapter.specs.ReadyDrivers.{ReadyWith}

-- The driver with these joined groups, while others hold these pieces.
abbrev pub with_others : (groups : List (List ℕ)) → List HandedOut → DriverState → DriverState
with_others groups held driver = record driver { groups = groups; handed_out = held }

abbrev pub flows-alike : {up : Bool} {d e : DriverState} {a b : World} {did : DriverDid} {past : Past} (groups groups' : List (List ℕ))
    (held held' : List HandedOut)
    → FlowsTo up (driver_in d a) (driver_in e b) did past → ReadyWith up (with_others groups' held' e) b
    → FlowsTo up (driver_in (with_others groups held d) a) (driver_in (with_others groups' held' e) b) did past
flows-alike groups groups' held held' flows ready = record {
  ready = ready;
  layout = flows.layout;
  sends = flows.sends;
  holds = flows.holds;
  least = flows.least;
  frees = flows.frees;
  mask = flows.mask;
  misses = record {
    sum = flows.misses.sum;
    counted = flows.misses.counted;
    sticks = flows.misses.sticks;
    at_most = flows.misses.at_most;
    exactly = λ exact below_greatest.
        let all = flows.misses.exactly exact below_greatest in
        record { exact = all.exact; below_greatest = all.below_greatest; sum = all.sum };
    stays_exact = flows.misses.stays_exact;
    small = flows.misses.small;
  };
}

abbrev pub goes-alike : {up : Bool} {d e : DriverState} {a b : World} {did : DriverDid} {past : Past} (groups groups' : List (List ℕ))
    (held held' : List HandedOut)
    → GoesTo up (driver_in d a) (driver_in e b) did past → ReadyWith up (with_others groups' held' e) b
    → GoesTo up (driver_in (with_others groups held d) a) (driver_in (with_others groups' held' e) b) did past
goes-alike groups groups' held held' goes ready =
    record { flows = flows-alike groups groups' held held' goes.flows ready; causes = goes.causes; recorded = goes.recorded }
