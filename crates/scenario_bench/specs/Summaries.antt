-- The summary of a run: the numbers of frames and the counts of each host, and the numbers of refused calls (our
-- choice).
use Rattle.std.specs.Prelude.{◌≡◌, ◌↔◌, ◌-◌, ℕ, IsTrue, List, Some, length, slice_get, string_bytes}
use Rattle.std.specs.Prelude.{Bool, None, Option, if◌then◌else◌, map, option_map}
use Rattle.std.specs.List.{flat_map, fold, list_any}
use Rattle.host_calls.specs.Happenings.{Happening, accepted, put, reached, stored}
use Rattle.host_calls.specs.Lists.{holding_in_one, sending_in_one}
use Rattle.packet_socket.specs.HostState.{HostState}
use Rattle.adapter.specs.World.{World}
use Rattle.stations.specs.Stations.{world_at}
use Rattle.wire.specs.Equations.{IsExact, missed_count}
use Rattle.host_calls.specs.Networks.{IsHost, NetworkState}
use Rattle.scenario.specs.SoFar.{Draws, Host, Said}
use Rattle.run_record.specs.Acts.{Act}
use Rattle.run_record.specs.EventLines.{LogState, lines_from}
use Rattle.run_record.specs.Numbers.{as_told}
use Rattle.run_record.specs.RunLogs.{acts_in, no_refusals, refusals_by}
use Rattle.run_record.specs.Tallies.{all_given, grown_by, off_by, is_given_up_at}
use Rattle.run_record.specs.declared.run_log.Refusals.{Refusals}
use Rattle.run_record.specs.declared.tally.GivenUp.{GivenUp as ResetsTold}
use Rattle.run_record.specs.declared.summary.HostSummary.{HostSummary}
use Rattle.run_record.specs.declared.summary.Summary.{Summary}

-- The numbers of frames that resets of the k-th host dropped, and that reached its adapter while its receive side was
-- disabled. None if there was no reset. Each number saturates at the greatest u64.
abbrev pub resets_told : (k : ℕ) → List Happening → Option ResetsTold
resets_told k happened =
    if list_any (is_given_up_at k) happened then Some (record {
      sending = as_told (length (flat_map (sending_in_one k) happened));
      holding = as_told (length (flat_map (holding_in_one k) happened));
      off = as_told (length (flat_map (off_by k) happened));
    }) else None

-- The numbers of frames in the summary of the k-th host: frames accepted, put, reached, stored, returned, and dropped
-- by resets. Each number saturates at the greatest u64.
pub record TellsFrames (k : ℕ) (happened : List Happening) (told : HostSummary) : Type 0 where
  -- the number of frames that the host accepted
  pub accepted : told.accepted ≡ as_told (length (accepted k happened))
  -- the number of frames that its adapter put on its wire
  pub put : told.put ≡ as_told (length (put k happened))
  -- the number of frames that reached its adapter
  pub reached : told.reached ≡ as_told (length (reached k happened))
  -- the number of frames that its adapter stored
  pub stored : told.stored ≡ as_told (length (stored k happened))
  -- the number of frames that its sockets returned
  pub given : told.given ≡ as_told (all_given k happened)
  -- the numbers of frames that its resets dropped, and that reached its adapter while its receive side was disabled
  pub resets : told.given_up ≡ resets_told k happened

-- The summary of the k-th host: its name, the numbers of frames, and its counts.
pub record TellsHost (k : ℕ) (plan : Host) (happened : List Happening) (host : HostState) (world : World) (told : HostSummary)
    : Type 0 where
  -- its name
  pub name : string_bytes told.name ≡ plan.name
  -- the numbers of frames
  pub frames : TellsFrames k happened told
  -- the count of missed frames
  pub missed : told.missed ≡ missed_count host world
  -- whether this count is exact
  pub exact : IsTrue told.exact ↔ IsExact host world
  -- the number of received frames that no socket took
  pub unclaimed : told.unclaimed ≡ host.unclaimed

-- The summaries of the hosts of the plan, in order.
pub record TellsHosts (plans : List Host) (happened : List Happening) (network : NetworkState) (told : List HostSummary) : Type 0 where
  -- one summary for each host
  pub count : length told ≡ length plans
  -- each summary is that of its host
  pub each : (k : ℕ) (plan : Host) (host : HostState) (one : HostSummary) → slice_get plans k ≡ Some plan → IsHost network k host
      → slice_get told k ≡ Some one → TellsHost k plan happened host (world_at network.stations k) one

-- The summary of the answers of these acts: the numbers of refused calls and, if `events` is true, a line for each act.
-- Each act has a line number.
pub record TellsAnswers (plans : List Host) (events : Bool) (entries : List (ℕ × Act)) (told : Summary) : Type 0 where
  -- the numbers of refused calls
  pub refusals : told.refusals ≡ fold refusals_by no_refusals (acts_in entries)
  -- the lines of events and drains, if `events` is true
  pub lines : option_map (λ (log : LogState). log.text) told.events
      ≡ (if events then Some (lines_from (map (λ (plan : Host). plan.name) plans) 0 entries) else None)

-- The numbers of refused calls without those of `auto` commands, after this command. `before` and `after` count all refused calls before
-- and after this command.
abbrev pub asked_after : (asked : Refusals) → Said → (before after : Refusals) → Refusals
asked_after asked (Draws count start) before after = asked
asked_after asked said before after = record {
  sends = grown_by (after.sends - before.sends) asked.sends;
  groups = grown_by (after.groups - before.groups) asked.groups;
  sockets = grown_by (after.sockets - before.sockets) asked.sockets;
}
