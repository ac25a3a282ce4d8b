-- Frames taken and bad runs together are at most the slots that were outstanding. Without sockets, each frame taken is counted as
-- unclaimed.
use Rattle.std.proofs.Common.{Bool, not, ◌≡◌, ◌≤◌, ◌+◌, [], ℕ, List, length, refl, sym, ap, subst, ◌∙◌, length-append, arith}
use Rattle.std.specs.List.{All, filter}
use Rattle.std.proofs.lemmas.List.{length-map}
use Rattle.std.proofs.lemmas.List.Filters.{length-filter_both}
use Rattle.std.proofs.lemmas.List.Recursion.{is_count_by}
use Rattle.std.proofs.lemmas.List.Sums.{length-filter}
use Rattle.adapter.specs.DriverState.{DriverState}
use Rattle.driver.proofs.ShownRuns.{runs-few}
use Rattle.driver.specs.HandlerSteps.{IfHandled, IsRun, RunOfSlots, ServesReceiver, bad_runs, run_buffers, whole_frames}
use Rattle.driver.specs.Growth.{GrowsBy}
use Rattle.driver.specs.declared.interrupt.Handled.{Handled}
use Rattle.driver.specs.declared.interrupt.Handled.TheVariants.{NotMine}
use Rattle.driver.specs.declared.interrupt.Handled.TheVariants as answers
use Rattle.driver.specs.declared.receiver.Received.{Received}
use Rattle.driver.specs.declared.receiver.Receiver.{Ghosts as OfReceiver}
use Rattle.packet_socket.specs.HostCalls.{HostServes, unclaimed_of}
use Rattle.packet_socket.specs.HostState.{HostState}
use Rattle.packet_socket.specs.SocketKinds.{has_none}
use Rattle.packet_socket.specs.declared.socket_kind.SocketKind.{SocketKind}

pub if-handled : {P Q : ℕ → Type 0} (result : Handled) → ((n : ℕ) → P n → Q n) → IfHandled result P → IfHandled result Q
if-handled NotMine follows holds = tt
if-handled (answers.Handled taken) follows holds = follows taken holds

runs-counted : (runs : List RunOfSlots) → All IsRun runs → length (whole_frames runs) + bad_runs runs ≤ length (run_buffers runs)
runs-counted runs all =
    let whole : RunOfSlots → Bool = λ run. run.whole in
    let bad : RunOfSlots → Bool = λ run. not run.whole in
    omega (
      arith,
      length-map (filter whole runs) (λ (run : RunOfSlots). run.parts),
      length-filter_both whole bad (λ (run : RunOfSlots). refl) runs,
      length-filter bad runs,
      runs-few runs all,
    )

pub serves-counted : {R : Type 0} (receivers : OfReceiver R) (before after : R) (d d' : DriverState) (n : ℕ)
    → ServesReceiver receivers before after d d' n → n + d'.bad ≤ d.bad + length d.buffers
serves-counted receivers before after d d' n serves =
    omega (
      arith,
      serves.ring.count,
      serves.ring.bad.most,
      runs-counted serves.runs serves.ring.leave.are_runs,
      ap length serves.ring.leave.oldest,
      length-append (run_buffers serves.runs) serves.ring.leave.rest,
    )

all-unclaimed : (shown : List Received) → unclaimed_of [] shown ≡ length shown
all-unclaimed shown =
    sym (is_count_by length (λ (received : Received). has_none [] received.ether_type) refl (λ one later. omega arith) shown)

pub host-unclaimed : (h h' : HostState) (n : ℕ) → HostServes h h' n → h.kinds ≡ [] → GrowsBy h.unclaimed h'.unclaimed n
host-unclaimed h h' n serves none =
    subst (GrowsBy h.unclaimed h'.unclaimed) (
    ap (λ (kinds : List SocketKind). unclaimed_of kinds serves.shown) none ∙ all-unclaimed serves.shown
    ∙ sym (length-map serves.shown (λ (one : Received). one.parts)) ∙ ap length serves.frames.parts ∙ serves.ring.count
    ) serves.sorted.unclaimed
