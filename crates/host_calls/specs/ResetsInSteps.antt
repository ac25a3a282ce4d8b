-- What a reset of a host does, in the atomic steps of its network (our choice). Up to the write of CTRL.RST the driver
-- is ready. After this write, the adapter doesn't put, store or miss a frame until RCTL is written the second time.
use Rattle.std.specs.Prelude.{◌≡◌, ◌++◌, [], ℕ, true, List}
use Rattle.adapter.specs.HostFrames.{frames_held, frames_to_send}
use Rattle.adapter.specs.World.{World}
use Rattle.adapter.specs.AdaptersAtRest.{NoFrame}
use Rattle.adapter.specs.Link.{HasLink}
use Rattle.bring_up.specs.ConfiguredAdapters.{HasSetup}
use Rattle.bring_up.specs.Groups.{HasTable}
use Rattle.stations.specs.AtomicRuns.{LeadsTo, counted_of, past_at}
use Rattle.stations.specs.AtomicSteps.{AtomicStep, after_atomic}
use Rattle.stations.specs.Stations.{StationState, world_at}
use Rattle.adapter.specs.Calls.{HasNoForgottenWork, IsRefilled, SumsMisses, driver_in, missed_added}
use Rattle.adapter.specs.DriverState.{DriverSetup, with_owners}
use Rattle.adapter.specs.Resets.{reset_driver, reset_world}
use Rattle.driver.specs.Initialisation.{AreFilterTables}
use Rattle.packet_socket.specs.HostCalls.{HostGoesTo, HostReady, did_nothing, in_world, waiting_frames}
use Rattle.packet_socket.specs.HostState.{HostState}
use Rattle.host_calls.specs.CallsOfHosts.{StepsOfCall}
use Rattle.host_calls.specs.ConnectedHosts.{ConnectedHost, PlayedCall}
use Rattle.host_calls.specs.ResetSteps.{PartsAccess, ResetParts, ResetValues, at_rest, before_reset, reset_of, whole_reset}

-- the host after `misses` was read from MPC and added to its driver's sum
abbrev pub stopped_host : (misses : ℕ) → HostState → HostState
stopped_host misses host = record host { driver = missed_added misses host.driver }

-- The steps before CTRL.RST is written: the host takes and accepts no frame. After RCTL is 0, no frame is stored or
-- missed.
pub record StopsInSteps (k misses : ℕ) (parts : ResetParts) (old : ConnectedHost) (last : List StationState) : Type 0 where
  -- the steps lead from the stations before the reset to those right before the write of CTRL.RST
  pub leads : LeadsTo k (before_reset k parts) old.stations last
  -- no frame is taken or accepted; the value of MPC is added to the driver's sum of missed frames
  pub goes : HostGoesTo true (in_world old.host (world_at old.stations k)) (in_world (stopped_host misses old.host) (world_at last k))
      did_nothing (past_at k (before_reset k parts))
  -- no frame is stored after RCTL is 0
  pub none_stored : (past_at k parts.stopping).stored ≡ []
  -- no frame is missed after RCTL is 0
  pub none_missed : (past_at k parts.stopping).missed ≡ 0

-- The steps from the write of CTRL.RST to the second write of RCTL. The write of CTRL.RST resets the adapter, and no
-- frame is put, stored or missed.
pub record RestsInSteps (k : ℕ) (setup : DriverSetup) (parts : ResetParts) (last enabled : List StationState) : Type 0 where
  -- the steps lead from the stations right before the write of CTRL.RST to those right after the second write of RCTL
  pub leads : LeadsTo k (at_rest k setup parts) last enabled
  -- after the write of CTRL.RST the adapter is reset, and memory is the same
  pub is_reset : world_at (after_atomic (reset_of k) last) k ≡ reset_world (world_at last k)
  -- no frame is put, stored or missed
  pub no_frame : NoFrame (past_at k (at_rest k setup parts))

-- The driver begins again after the reset: slots with the buffers `numbers` are outstanding, and no slot is staged. The value of MPC was
-- added to the driver's sum of missed frames. In the host, only the driver changes.
pub record HostBeginsAgain (misses : ℕ) (numbers : List ℕ) (old new : HostState) : Type 0 where
  -- nothing but the driver changes
  pub host : new ≡ record old { driver = new.driver }
  -- only the slots that were offered after the reset are outstanding
  pub driver : new.driver ≡ with_owners (reset_driver [] (missed_added misses old.driver)) numbers [] new.driver.pool new.driver.handed_out
  -- no buffer is free, or all slots except one are outstanding
  pub refilled : IsRefilled new.driver

-- The steps after the second write of RCTL: the host is ready at their end, and holds exactly the frames stored since
-- this write.
pub record RestartsInSteps (k : ℕ) (parts : ResetParts) (enabled : List StationState) (new : ConnectedHost) : Type 0 where
  -- the steps lead from the stations right after the second write of RCTL to those after the reset
  pub leads : LeadsTo k parts.later enabled new.stations
  -- the host is ready
  pub ready : HostReady new.host (world_at new.stations k)
  -- no work is forgotten
  pub work : HasNoForgottenWork new.host.driver (world_at new.stations k)
  -- the frames held are those stored since the second write of RCTL
  pub held : frames_held new.host.driver.oldest_receive (world_at new.stations k) ≡ (past_at k parts.later).stored
  -- no frame is put on the wire
  pub none_put : (past_at k parts.later).put ≡ []
  -- no frame is to be sent
  pub none_to_send : frames_to_send (world_at new.stations k) ≡ []

-- What a reset keeps: the driver's setup in the adapter, the bits of the group table, the frames in queues, and a link
-- that is up while no MDIC command is pending. The driver's sum of missed frames changes as in other intervals (`SumsMisses`).
pub record KeepsInReset (k : ℕ) (steps : List AtomicStep) (old new : ConnectedHost) : Type 0 where
  -- the adapter has the driver's setup
  pub set_up : HasSetup old.host.driver.setup (world_at new.stations k).adapter
  -- MTA has exactly the bits of the joined groups
  pub groups : HasTable old.host.driver.groups (world_at new.stations k)
  -- each socket's queue has the same frames
  pub waiting : (socket : ℕ) → waiting_frames new.host socket (world_at new.stations k)
      ≡ waiting_frames old.host socket (world_at old.stations k)
  -- how the driver's sum of missed frames and MPC change, by the number of frames missed
  pub sums : SumsMisses (driver_in old.host.driver (world_at old.stations k)) (driver_in new.host.driver (world_at new.stations k))
      (past_at k steps)
  -- If the link is up and no MDIC command is pending, both remain true.
  pub link : HasLink (world_at old.stations k) → HasLink (world_at new.stations k)

-- Host k reset its adapter in these steps.
pub record ResetsInSteps (k : ℕ) (steps : List AtomicStep) (old new : ConnectedHost) : Type 0 where
  -- the steps of each part
  pub parts : ResetParts
  -- the parts, with the three writes between them, are all steps
  pub split : steps ≡ whole_reset k old.host.driver.setup parts
  -- the values of the accesses
  pub values : ResetValues
  -- the words written to MTA and VFTA have exactly the bits of the joined groups and of the VLANs
  pub tables : AreFilterTables old.host.driver.groups old.host.driver.setup.vlans values.groups values.vlans
  -- the accesses of each part
  pub accesses : PartsAccess k old.host.driver.layout old.host.driver.setup values parts
  -- all stations right before CTRL.RST is written
  pub last : List StationState
  -- all stations right after the second write of RCTL
  pub enabled : List StationState
  -- the steps up to the write of CTRL.RST
  pub stops : StopsInSteps k values.misses parts old last
  -- the steps from the write of CTRL.RST to the second write of RCTL
  pub rests : RestsInSteps k old.host.driver.setup parts last enabled
  -- the steps after the second write of RCTL
  pub restarts : RestartsInSteps k parts enabled new
  -- the host after the reset
  pub again : HostBeginsAgain values.misses values.numbers old.host new.host
  -- what the reset doesn't change
  pub keeps : KeepsInReset k steps old new

-- The frames that are lost in a reset: those to be sent (`sending`) and those held (`holding`) right before CTRL.RST is
-- written. `sending` are the frames to be sent at the beginning, without those put since. `holding` are the frames held
-- at the beginning, followed by those stored before the write of 0 to RCTL.
pub record GivesUp (sending holding : List (List ℕ)) (k oldest : ℕ) (parts : ResetParts) (old last : World) : Type 0 where
  pub sending_then : sending ≡ frames_to_send last
  pub holding_then : holding ≡ frames_held oldest last
  pub sending_since : (past_at k (before_reset k parts)).put ++ sending ≡ frames_to_send old
  pub holding_since : holding ≡ frames_held oldest old ++ (past_at k parts.early).stored

-- The host `call.caller` was reset with the ticks of `call`, in the atomic steps `steps`.
pub record RunsReset (call : PlayedCall) (old new : ConnectedHost) : Type 0 where
  pub steps : List AtomicStep
  pub of_call : StepsOfCall call steps old.stations new.stations
  pub resets : ResetsInSteps call.caller steps old new

-- A reset in which the frames `sending` and `holding` were lost. `on_after` is the number of accesses up to and
-- including the second write of RCTL.
pub record MakesReset (call : PlayedCall) (sending holding : List (List ℕ)) (on_after : ℕ) (old new : ConnectedHost) : Type 0 where
  pub runs : RunsReset call old new
  pub gives_up : GivesUp sending holding call.caller old.host.driver.oldest_receive runs.resets.parts (world_at old.stations call.caller)
      (world_at runs.resets.last call.caller)
  pub enabled_after : on_after ≡ counted_of 0 (before_reset call.caller runs.resets.parts
      ++ at_rest call.caller old.host.driver.setup runs.resets.parts)
