-- Events and drains that were played and recorded (our choice).
use Rattle.std.specs.Prelude.{◌≡◌, ◌↔◌, ◌<◌, ◌++◌, [], ⊤, ℕ, List, Err, IsTrue, None, Ok, Option, Some, length, map, replicate, slice_get}
use Rattle.std.specs.Prelude.{IfSome, string_bytes, unwrap_or}
use Rattle.adapter.specs.World.{World}
use Rattle.packet_socket.specs.HostState.{HostState}
use Rattle.stations.specs.Stations.{world_at}
use Rattle.wire.specs.Equations.{IsExact, missed_count}
use Rattle.host_calls.specs.Networks.{IsHost}
use Rattle.run_record.specs.declared.summary.HostSummary.{HostSummary}
use Rattle.run_record.specs.declared.tally.Tally.{Tally}
use Rattle.network_plan.specs.declared.plan.HostPlan.{HostPlan}
use Rattle.pcap_trace.specs.Format.{Timed}
use Rattle.pcap_trace.specs.declared.trace.Trace.{Trace}
use Rattle.wire.specs.NewNetworks.{IsLanAnswer}
use Rattle.scenario.specs.SoFar.{Host, Said, command_of_event, hosts_of}
use Rattle.run_record.specs.Acts.{Act}
use Rattle.scenario_bench.specs.PlayedActs.{ActsLead, act_of}
use Rattle.scenario_bench.specs.EventLists.{events_after_send}
use Rattle.scenario_bench.specs.Given.{sockets_from}
use Rattle.run_record.specs.Kept.{KeptFrame, socket_texts}
use Rattle.scenario_bench.specs.WireLists.{wire_names}
use Rattle.run_record.specs.Puts.{wire_texts}
use Rattle.run_record.specs.Tallies.{AreNoted, no_tally, resets_in}
use Rattle.scenario_bench.specs.declared.bench_error.BenchError.{BenchError}
use Rattle.scenario_bench.specs.declared.bench_error.BenchError.TheVariants as errors
use Rattle.scenario_bench.specs.declared.events.EventsAfterSend.{EventsAfterSend}
use Rattle.scenario_bench.specs.declared.play.Play.{Play}

-- These events and drains were done on the network and recorded.
pub record HasPlayed (said : List Said) (old new : Play) : Type 0 where
  pub acts : List Act
  pub are : map act_of acts ≡ said
  pub leads : ActsLead old.lan acts new.lan
  pub noted : AreNoted acts old.record new.record

-- The network of a plan was made. No event, no count and no returned frame is recorded yet.
pub record HasBegunPlay (plans : List HostPlan) (play : Play) : Type 0 where
  pub made : IsLanAnswer plans (Ok play.lan)
  pub number : play.record.number ≡ 0
  pub hosts : play.record.hosts.items ≡ replicate (length plans) no_tally
  pub returned : play.record.returned ≡ []

-- The error is `Plan`, with the reason why no network was made, or `Memory`.
abbrev pub StopsAtPlan : List HostPlan → BenchError → Type 0
StopsAtPlan plans (errors.Plan error) = IsLanAnswer plans (Err error)
StopsAtPlan plans (errors.Run stopped) = ⊥
StopsAtPlan plans errors.Memory = Unit {0}
StopsAtPlan plans (errors.Write error) = ⊥

-- Only the first of these events and drains, perhaps none, were done on the network and recorded. At least one of them
-- wasn't done (`left`).
pub record HasPlayedFront (said : List Said) (old new : Play) : Type 0 where
  pub first : List Said
  pub left : List Said
  pub parts : said ≡ first ++ left
  pub some : 0 < length left
  pub played : HasPlayed first old new

-- Memory was refused among these events and drains. After the error `Run`, only the first of them were done, perhaps
-- none. Then `stopped.done` is the number of events and drains in the record. After `Memory`, nothing is stated about
-- `new`.
abbrev pub StopsWithin : List Said → (old new : Play) → BenchError → Type 0
StopsWithin said old new (errors.Plan error) = ⊥
StopsWithin said old new (errors.Run stopped) = HasPlayedFront said old new × (stopped.done ≡ new.record.number)
StopsWithin said old new errors.Memory = Unit {0}
StopsWithin said old new (errors.Write error) = ⊥

-- If the list of `behind` is made for a number of pieces, it contains the events after a send of this host for this
-- number.
abbrev pub AreOfSender : List Host → (sender : ℕ) → EventsAfterSend → Type 0
AreOfSender hosts sender behind =
    IfSome behind.pieces (λ made. map command_of_event behind.list.items ≡ events_after_send hosts sender made)

-- the frames of a trace
abbrev pub trace_frames : Trace → List (List ℕ)
trace_frames trace = trace.frames

-- The summary of a host contains the host's name in the plan, the numbers recorded in the tally, and the host's counts.
pub record TellsTally (plan : HostPlan) (tally : Tally) (host : HostState) (world : World) (told : HostSummary) : Type 0 where
  pub name : string_bytes told.name ≡ string_bytes plan.name
  pub accepted : told.accepted ≡ tally.accepted
  pub put : told.put ≡ tally.put
  pub reached : told.reached ≡ tally.reached
  pub stored : told.stored ≡ tally.stored
  pub given : told.given ≡ tally.given
  pub resets : told.given_up ≡ resets_in tally
  pub counts : (told.missed ≡ missed_count host world) × (IsTrue told.exact ↔ IsExact host world) × (told.unclaimed ≡ host.unclaimed)

-- These are the summaries of the first `first` hosts of a plan, in order.
pub record TellTallies (first : ℕ) (plans : List HostPlan) (play : Play) (told : List HostSummary) : Type 0 where
  pub count : length told ≡ first
  pub each : (k : ℕ) (plan : HostPlan) (tally : Tally) (host : HostState) (one : HostSummary) → slice_get plans k ≡ Some plan
      → slice_get play.record.hosts.items k ≡ Some tally → IsHost play.lan k host → slice_get told k ≡ Some one
      → TellsTally plan tally host (world_at play.lan.stations k) one

-- If `wires`, the number of traces of wires to write, isn't 0, the frames that adapters put are recorded.
abbrev pub AreRecorded : (wires : ℕ) → Option (List KeptFrame) → Type 0
AreRecorded wires None = wires ≡ 0
AreRecorded wires (Some puts) = ⊤

-- the traces of the sockets of these hosts, by the record
abbrev pub socket_texts_in : List HostPlan → Play → List (List Timed)
socket_texts_in plans play = socket_texts play.record.returned (sockets_from 0 (hosts_of plans))

-- the traces of the wires of these hosts, by the record; empty traces if the frames that adapters put aren't recorded
abbrev pub wire_texts_in : List HostPlan → Play → List (List Timed)
wire_texts_in plans play = wire_texts (hosts_of plans) (unwrap_or play.record.puts []) (wire_names (hosts_of plans))
