-- Consecutive steps of a drain are joined, and are steps into a sink.
use Rattle.std.proofs.Common.{◌≡◌, ◌+◌, ◌++◌, [], ℕ, zero, suc, Bool, false, true, List, replicate, refl, sym, ap, subst, ◌∙◌}
use Rattle.std.proofs.Common.{arith, length-append}
use Rattle.std.proofs.lemmas.List.{replicate-append-replicate}
use Rattle.std.proofs.lemmas.List.Elements.{All-append}
use Rattle.std.proofs.lemmas.Grind.{flat_map-append}
use Rattle.registers.specs.Bits.{HasBit}
use Rattle.registers.specs.Places.{rctl_en}
use Rattle.rx_filter.specs.Registers.{FilterRegisters}
use Rattle.adapter.proofs.Lists.{all-none}
use Rattle.adapter.specs.bus_types.event.Event.{Event}
use Rattle.stations.specs.AtomicSteps.{AtomicStep}
use Rattle.stations.specs.Stations.{StationState, world_at}
use Rattle.stations.specs.AtomicRunLaws.{leads_join}
use Rattle.stations.specs.AtomicRuns.{IsTick, LeadsTo, events_at, events_by, past_at}
use Rattle.host_calls.proofs.Laws.{frames-move}
use Rattle.host_calls.specs.Happenings.{Happening, Moved, happened_by, happened_in, missed, put, reached, stored, toward}
use Rattle.packet_socket.specs.HostState.{HostState}
use Rattle.packet_socket.specs.HostCalls.{Given}
use Rattle.host_calls.proofs.Calling.{ready-behind, runs-alone, runs-join}
use Rattle.host_calls.proofs.GroupsKept.{stay-alone, stay-join}
use Rattle.host_calls.proofs.HostTrails.{happens-alone, none-alone}
use Rattle.host_calls.specs.DrainedHosts.{CanBeDrained, IsDrainStep}
use Rattle.host_calls.specs.ConnectedHosts.{ConnectedHost, connected}
use Rattle.host_calls.specs.DrainSteps.{OutletState, StepsInto, StepsOn, outlet, steps_of}

pub stands-on : {steps number : ℕ} {a b : List StationState} {h h' : HostState} {given : List Given}
    → StepsOn steps number given (connected h a) (connected h' b)
    → CanBeDrained h (world_at a number) → CanBeDrained h' (world_at b number)
stands-on {number = number} {a} {b} {h} {h'} {given} on stands = record {
  ready = ready-behind h (world_at a number) h' (world_at b number) on.taken given [] (past_at number on.played) on.runs.flows;
  work = on.runs.work stands.work;
  refilled = on.runs.refilled stands.refilled;
  offered = on.runs.offered stands.offered;
  enabled = subst (λ (filter : FilterRegisters). HasBit filter.rctl rctl_en) (sym on.moves.filter) stands.enabled;
}

pub steps-none : (number : ℕ) (a : List StationState) (h : HostState) → CanBeDrained h (world_at a number)
    → StepsOn 0 number [] (connected h a) (connected h a)
steps-none number a h stands = record {
  played = [];
  leads = refl;
  only = all-none (IsDrainStep number);
  taken = [];
  runs = runs-alone number [] a a h stands.ready (happens-alone number number [] a a (all-none IsTick) refl)
      (none-alone number [] (all-none IsTick));
  stay = stay-alone number [] (connected h a) (connected h a) refl (none-alone number [] (all-none IsTick));
  moves = record { count = 0; moved = refl; buffered = omega arith; alone = λ k other. refl; filter = refl };
  counts = record { most = omega arith; least = omega arith; held = omega arith };
}

steps-join : {m n number : ℕ} {a b c : List StationState} {h1 h2 h3 : HostState} {given more : List Given}
    → StepsOn m number given (connected h1 a) (connected h2 b) → StepsOn n number more (connected h2 b) (connected h3 c)
    → StepsOn (m + n) number (given ++ more) (connected h1 a) (connected h3 c)
steps-join {number = number} {a} {b} {c} {h1} {h2} {h3} {given} {more} one two =
    let both = length-append given more in
    record {
      played = one.played ++ two.played;
      leads = leads_join number one.played two.played a b c one.leads two.leads;
      only = All-append (IsDrainStep number) one.played two.played one.only two.only;
      taken = one.taken ++ two.taken;
      runs = runs-join number one.played two.played a b c h1 h2 h3 one.taken two.taken given more [] [] one.runs.flows.driver.layout
          one.runs two.runs;
      stay = stay-join number one.played two.played (connected h1 a) (connected h2 b) (connected h3 c) one.runs.flows.driver.layout
          one.stay two.stay;
      moves = record {
        count = one.moves.count + two.moves.count;
        moved =
            flat_map-append happened_by one.played two.played
            ∙ ap (λ (list : List Happening). list ++ happened_in two.played) one.moves.moved
            ∙ ap (λ (list : List Happening). replicate one.moves.count (Moved number) ++ list) two.moves.moved
            ∙ replicate-append-replicate one.moves.count two.moves.count (Moved number);
        buffered = omega (arith, one.moves.buffered, two.moves.buffered);
        alone = λ k other.
            flat_map-append (events_by k) one.played two.played
            ∙ ap (λ (list : List Event). list ++ events_at k two.played) (one.moves.alone k other)
            ∙ two.moves.alone k other;
        filter = two.moves.filter ∙ one.moves.filter;
      };
      counts = record {
        most = omega (arith, one.counts.most, two.counts.most);
        least = omega (arith, one.counts.least, two.counts.least, both);
        held = omega (arith, one.counts.held, two.counts.held, both);
      };
    }

pub steps-after : {first : Bool} {n number : ℕ} {a b c : List StationState} {h m h' : HostState} {given : List Given} → first ≡ false
    → StepsOn (steps_of first) number [] (connected h a) (connected m b) → StepsOn n number given (connected m b) (connected h' c)
    → StepsOn n number given (connected h a) (connected h' c)
steps-after {n = n} {number} {a} {b} {c} {h} {m} {h'} {given} none one two =
    let nothing : 0 + n ≡ n = omega arith in
    subst (λ (k : ℕ). StepsOn k number given (connected h a) (connected h' c)) nothing
    (steps-join (subst (λ (stepped : Bool). StepsOn (steps_of stepped) number [] (connected h a) (connected m b)) none one) two)

-- If frames are only moved to memory, no frame is put, reaches a host, is stored or is missed.

pub moves-put : (k n number : ℕ) → put k (replicate n (Moved number)) ≡ []
moves-put k zero number = refl
moves-put k (suc n) number = moves-put k n number

pub moves-reached : (k n number : ℕ) → reached k (replicate n (Moved number)) ≡ []
moves-reached k zero number = refl
moves-reached k (suc n) number = moves-reached k n number

pub moves-stored : (k n number : ℕ) → stored k (replicate n (Moved number)) ≡ []
moves-stored k zero number = refl
moves-stored k (suc n) number = moves-stored k n number

pub moves-missed : (k n number : ℕ) → missed k (replicate n (Moved number)) ≡ 0
moves-missed k zero number = refl
moves-missed k (suc n) number = moves-missed k n number

pub moves-toward : (wires : ℕ → Rattle.std.proofs.Common.Option ℕ) (k n number : ℕ) → toward wires k (replicate n (Moved number)) ≡ []
moves-toward wires k zero number = refl
moves-toward wires k (suc n) number = moves-toward wires k n number

pub nothing-stored : (number k : ℕ) (played : List AtomicStep) (a b : List StationState) (n : ℕ) → LeadsTo number played a b
    → happened_in played ≡ replicate n (Moved number) → (past_at k played).stored ≡ []
nothing-stored number k played a b n leads moved =
    sym (frames-move number k played a b leads).stored ∙ ap (stored k) moved ∙ moves-stored k n number

-- The frames that sockets returned are appended to a sink.

pub into-none : {steps number room : ℕ} {a b : List StationState} {h h' : HostState} {had : List Given}
    → StepsOn steps number [] (connected h a) (connected h' b)
    → StepsInto steps number (outlet had room) (outlet had room) (connected h a) (connected h' b)
into-none {had = had} on = record {
  given = [];
  appended = sym (Rattle.std.proofs.lemmas.List.append-nil had);
  room = omega arith;
  on = on;
}

pub into-join : {m n number : ℕ} {a b c : List StationState} {h1 h2 h3 : HostState} {x y z : List Given} {p q r : ℕ}
    → StepsInto m number (outlet x p) (outlet y q) (connected h1 a) (connected h2 b)
    → StepsInto n number (outlet y q) (outlet z r) (connected h2 b) (connected h3 c)
    → StepsInto (m + n) number (outlet x p) (outlet z r) (connected h1 a) (connected h3 c)
into-join {x = x} one two = record {
  given = one.given ++ two.given;
  appended =
      two.appended ∙ ap (λ (list : List Given). list ++ two.given) one.appended
      ∙ Rattle.std.proofs.Common.append_assoc x one.given two.given;
  room = omega (arith, one.room, two.room, length-append one.given two.given);
  on = steps-join one.on two.on;
}

-- The step of a drain was taken, or no step applied.

pub one-step : {stepped : Bool} {number : ℕ} {before after : OutletState} {old new : ConnectedHost} → stepped ≡ true
    → StepsInto (steps_of stepped) number before after old new → StepsInto 1 number before after old new
one-step {number = number} {before} {after} {old} {new} took =
    subst (λ (stepped : Bool). StepsInto (steps_of stepped) number before after old new) took

pub no-step : {stepped : Bool} {n number : ℕ} {before after : OutletState} {old new : ConnectedHost} → stepped ≡ false
    → StepsInto (n + steps_of stepped) number before after old new → StepsInto n number before after old new
no-step {n = n} {number} {before} {after} {old} {new} none into =
    let same : n + 0 ≡ n = omega arith in
    subst (λ (m : ℕ). StepsInto m number before after old new) same
    (subst (λ (stepped : Bool). StepsInto (n + steps_of stepped) number before after old new) none into)
