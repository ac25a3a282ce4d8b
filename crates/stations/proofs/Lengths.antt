-- No event changes the number of hosts.
use Rattle.std.proofs.Common.{◌≡◌, ℕ, List, [], ◌∷◌, Option, Some, None, length, refl, ap, suc, slice_get, ◌∙◌}
use Rattle.adapter.specs.bus_types.event.Event.{Event}
use Rattle.stations.specs.AtomicRuns.{LeadsTo}
use Rattle.stations.specs.AtomicSteps.{At, AtomicStep, Idles, after_atomic}
use Rattle.stations.specs.Stations.{StationState, all_after, at_each, each_after, stations_after}

length-at_each : (change : ℕ → StationState → StationState) (from : ℕ) (ss : List StationState)
    → length (at_each change from ss) ≡ length ss
length-at_each change from [] = refl
length-at_each change from (s ∷ ss) = ap suc (length-at_each change (suc from) ss)

length-all_after : (o : Option StationState) (host : ℕ) (event : Event) (ss : List StationState)
    → length (all_after o host event ss) ≡ length ss
length-all_after None host event ss = refl
length-all_after (Some s) host event ss = length-at_each (each_after host s.wire event) 0 ss

pub length-event : (host : ℕ) (event : Event) (ss : List StationState) → length (stations_after host event ss) ≡ length ss
length-event host event ss = length-all_after (slice_get ss host) host event ss

length-after : (step : AtomicStep) (ss : List StationState) → length (after_atomic step ss) ≡ length ss
length-after (At host event) ss = length-event host event ss
length-after (Idles tick) ss = refl

pub length-stays : (caller : ℕ) (steps : List AtomicStep) (a b : List StationState) → LeadsTo caller steps a b → length b ≡ length a
length-stays caller [] a b leads = ap length leads
length-stays caller (step ∷ later) a b leads = length-stays caller later (after_atomic step a) b leads.2 ∙ length-after step a
