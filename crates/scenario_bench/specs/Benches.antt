-- The run of a scenario by `bench` (our choice).
use Rattle.std.specs.Prelude.{◌≡◌, ◌<◌, ◌⊎◌, ℕ, Bool, List, Option, Ok, Err, length, map, take}
use Rattle.pcap_trace.specs.Format.{Timed}
use Rattle.pcap_trace.specs.declared.unit.Unit.{Unit}
use Rattle.host_calls.specs.Networks.{NetworkState}
use Rattle.wire.specs.NewNetworks.{IsLanAnswer}
use Rattle.scenario.specs.SoFar.{Said, hosts_of, said_of}
use Rattle.scenario.specs.declared.command.Scenario.{Scenario}
use Rattle.scenario_bench.specs.declared.bench_error.BenchError.{BenchError}
use Rattle.scenario_bench.specs.declared.bench_error.BenchError.TheVariants as errors
use Rattle.run_record.specs.declared.summary.Summary.{Summary}
use Rattle.run_record.specs.Acts.{Act, history}
use Rattle.scenario_bench.specs.PlayedActs.{ActsLead, act_of}
use Rattle.scenario_bench.specs.EventLists.{all_events}
use Rattle.scenario_bench.specs.Given.{given_from, sockets_from}
use Rattle.run_record.specs.Kept.{put_from}
use Rattle.run_record.specs.Numbers.{as_told}
use Rattle.scenario_bench.specs.WireLists.{wire_names}
use Rattle.run_record.specs.Puts.{wire_texts}
use Rattle.run_record.specs.RunLogs.{acts_in}
use Rattle.run_record.specs.WrittenTraces.{AreWritten, AreWrittenUpTo, SinkState, states_of}
use Rattle.scenario_bench.specs.Summaries.{TellsAnswers, TellsHosts}

-- The network of the plan was made, and the events and drains `said` were done on this network, in order. The delivery
-- theorem holds for these events and drains.
pub record PlaysEvents (scenario : Scenario) (said : List Said) : Type 0 where
  -- the network that was made
  pub made : NetworkState
  -- this network is an answer of `Lan::new` to the scenario's plan (`IsLanAnswer`)
  pub by_plan : IsLanAnswer scenario.plan.hosts.items (Ok made)
  -- the acts that were done, with their answers
  pub acts : List Act
  -- the acts are those of these events and drains
  pub are : map act_of acts ≡ said
  -- the network after these acts
  pub behind : NetworkState
  -- the acts lead from the network that was made to the network after them, and the delivery theorem holds
  pub leads : ActsLead made acts behind

-- the events and drains of the scenario's commands, in order
abbrev pub scenario_events : Scenario → (traces : List (List (List ℕ))) → List Said
scenario_events scenario traces = all_events (hosts_of scenario.plan.hosts.items) traces (map said_of scenario.commands.items)

-- The network of the scenario's plan was made, and all events and drains of its commands were done, in order.
abbrev pub PlaysScenario : Scenario → (traces : List (List (List ℕ))) → Type 0
PlaysScenario scenario traces = PlaysEvents scenario (scenario_events scenario traces)

-- Of the events and drains `said`, only the first ones were done, and at least one wasn't done. `done` is the number of
-- those that were done; this number saturates at 2^64 - 1.
pub record StopsBefore (scenario : Scenario) (said : List Said) (done : ℕ) : Type 0 where
  -- the number of events and drains that were done
  pub first : ℕ
  -- at least one event or drain wasn't done
  pub left : first < length said
  -- `done` is this number, up to 2^64 - 1
  pub number : done ≡ as_told first
  -- the first `first` events and drains were done
  pub plays : PlaysEvents scenario (take first said)

-- the trace of each socket: the frames that the socket returned, in order, with the numbers of their events or drains;
-- hosts are in order, and the sockets of each host are in order
abbrev pub texts_of : {scenario : Scenario} → {said : List Said} → PlaysEvents scenario said → List (List Timed)
texts_of {scenario} played =
    map (λ (place : ℕ × ℕ). given_from place.0 place.1 0 played.acts)
    (sockets_from 0 (hosts_of scenario.plan.hosts.items))

-- the trace of each wire: the frames that were put on the wire, in order, with the numbers of their events
abbrev pub wire_texts_of : {scenario : Scenario} → {said : List Said} → PlaysEvents scenario said → List (List Timed)
wire_texts_of {scenario} played =
    let hosts = hosts_of scenario.plan.hosts.items in
    wire_texts hosts (put_from 0 played.acts) (wire_names hosts)

-- The summary has the numbers of refused calls. If `events` is true, it has the lines of the run's events and drains,
-- each with some line number. Only tests show that these are the line numbers in the scenario's text.
pub record TellsRun {scenario : Scenario} {said : List Said} (events : Bool) (played : PlaysEvents scenario said) (summary : Summary)
    : Type 0 where
  -- each act with a line number
  pub entries : List (ℕ × Act)
  -- the acts are those that were done
  pub are : acts_in entries ≡ played.acts
  -- the summary has the numbers of refused calls among these acts and, if `events` is true, the lines of these acts
  pub tells : TellsAnswers (hosts_of scenario.plan.hosts.items) events entries summary

-- the states of the sinks of sockets, and of those of wires, before the bench and after it
pub record BenchSinks : Type 0 where
  -- the sinks of sockets, before
  pub old : List SinkState
  -- the sinks of sockets, after
  pub new : List SinkState
  -- the sinks of wires, before
  pub wires_old : List SinkState
  -- the sinks of wires, after
  pub wires_new : List SinkState

-- the states of these sinks, by what each sink has taken and how many of its writes failed
abbrev pub sinks_of : {S : Type 0} → (taken : S → Option (List ℕ)) → (failures : S → ℕ) → (old new wires_old wires_new : List S)
    → BenchSinks
sinks_of taken failures old new wires_old wires_new = record {
  old = states_of taken failures old;
  new = states_of taken failures new;
  wires_old = states_of taken failures wires_old;
  wires_new = states_of taken failures wires_new;
}

-- Each sink is unchanged: nothing was written to the sink, and none of the sink's writes failed.
abbrev pub AreUntouched : BenchSinks → Type 0
AreUntouched sinks = (sinks.new ≡ sinks.old) × (sinks.wires_new ≡ sinks.wires_old)

-- Each sink of a socket has also taken the whole trace of its socket, with times in this unit. Each sink of a wire has
-- also taken the trace of its wire.
pub record AreAllWritten (unit : Unit) (socket_texts wire_texts : List (List Timed)) (sinks : BenchSinks) : Type 0 where
  -- the sinks of sockets
  pub texts : AreWritten unit (length sinks.old) socket_texts sinks.old sinks.new
  -- the sinks of wires
  pub wires : AreWritten unit (length sinks.wires_old) wire_texts sinks.wires_old sinks.wires_new

-- A sink failed (`AreWrittenUpTo`). If the sink of a socket failed, the sinks of wires are unchanged. If the sink of a
-- wire failed, each sink of a socket has taken its whole trace.
abbrev pub IsFailedSink : Unit → (texts wire_texts : List (List Timed)) → BenchSinks → Type 0
IsFailedSink unit texts wire_texts sinks =
    (((failed : ℕ) × AreWrittenUpTo unit failed texts sinks.old sinks.new) × (sinks.wires_new ≡ sinks.wires_old))
    ⊎ (AreWritten unit (length sinks.old) texts sinks.old sinks.new
    × ((failed : ℕ) × AreWrittenUpTo unit failed wire_texts sinks.wires_old sinks.wires_new))

-- These traces weren't all written: memory was refused before the first byte, or a sink failed.
abbrev pub StopsWriting : Unit → (texts wire_texts : List (List Timed)) → BenchError → BenchSinks → Type 0
StopsWriting unit texts wires (errors.Plan error) sinks = ⊥
StopsWriting unit texts wires (errors.Run stopped) sinks = ⊥
StopsWriting unit texts wires errors.Memory sinks = AreUntouched sinks
StopsWriting unit texts wires (errors.Write error) sinks = IsFailedSink unit texts wires sinks

-- What holds after Ok: the scenario was played, and each sink has also taken the trace of its socket or of its wire.
-- The summary contains the counts of the hosts and of refused calls and, if `events` is true, the lines of events and
-- drains.
pub record Benches (unit : Unit) (scenario : Scenario) (traces : List (List (List ℕ))) (events : Bool) (summary : Summary)
    (sinks : BenchSinks)
    : Type 0 where
  -- the scenario was played
  pub plays : PlaysScenario scenario traces
  -- each sink has also taken the trace of its socket or of its wire
  pub texts : AreAllWritten unit (texts_of plays) (wire_texts_of plays) sinks
  -- the summaries of the hosts
  pub tells : TellsHosts (hosts_of scenario.plan.hosts.items) (history plays.acts) plays.behind summary.hosts.items
  -- the counts of refused calls and, if `events` is true, the lines of events and drains
  pub answers : TellsRun events plays summary

-- What holds after an error. `Plan`: the plan was refused for this reason. `Run`: only the first events and drains were
-- done. `Write`: the scenario was played, and a sink failed. After each error except `Write`, nothing was written.
unfoldable pub Stops : Unit → (scenario : Scenario) → (traces : List (List (List ℕ))) → BenchError → BenchSinks → Type 0
Stops unit scenario traces (errors.Plan error) sinks = IsLanAnswer scenario.plan.hosts.items (Err error) × AreUntouched sinks
Stops unit scenario traces (errors.Run stopped) sinks =
    StopsBefore scenario (scenario_events scenario traces) stopped.done × AreUntouched sinks
Stops unit scenario traces errors.Memory sinks = AreUntouched sinks
Stops unit scenario traces (errors.Write error) sinks =
    (plays : PlaysScenario scenario traces) × IsFailedSink unit (texts_of plays) (wire_texts_of plays) sinks
