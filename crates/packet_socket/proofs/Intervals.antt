-- Intervals of a host's run.
use Rattle.std.proofs.Common.{Bool, ◌≡◌, ◌++◌, [], ℕ, List, map, refl, sym, ap, subst, ◌∙◌, arith}
use Rattle.std.specs.List.{All}
use Rattle.std.proofs.lemmas.List.{append-nil}
use Rattle.dma_memory.specs.Layout.{Counts}
use Rattle.adapter.specs.HostFrames.{frames_held}
use Rattle.adapter.specs.World.{World}
use Rattle.adapter.specs.Law.{Happens}
use Rattle.adapter.specs.Pasts.{Past, joined}
use Rattle.adapter.proofs.Steps.{goes-happens}
use Rattle.adapter.specs.Calls.{DriverDid, DriverInWorld, GoesTo, driver_did, driver_in}
use Rattle.adapter.specs.DriverState.{DriverState, holding}
use Rattle.adapter.specs.ReadyDrivers.{Stands}
use Rattle.packet_socket.specs.HostCalls.{Accounts, HostDid, HostGoesTo, HostInWorld, HostInterval, HostReadyWith}
use Rattle.packet_socket.specs.HostCalls.{did_both, did_nothing, driver_of, in_world, waiting_frame, waiting_frames}
use Rattle.packet_socket.specs.HostState.{HostState, all_of, queue_at}
use Rattle.packet_socket.proofs.Accounts.{accounts, accounts-join}
use Rattle.packet_socket.proofs.WaitingFrames.{AreSame, all-long, all-same, ends-as, queue-frames-same}

-- The host with another state of its driver.
abbrev pub with_driver : DriverState → HostState → HostState
with_driver driver host = record host { driver = driver }

pub queues-stand : {up : Bool} (h : HostState) (d : DriverState) (a b : World) → HostReadyWith up h a → d.layout ≡ h.driver.layout
    → All (Stands d.layout b.memory) (driver_of h a).handed_out → AreSame h.driver.layout a.memory b.memory (all_of h.queues)
queues-stand h d a b host counts stand =
    all-same h.driver.layout a.memory b.memory (all_of h.queues) (all-long h a host)
    (subst (λ (c : Counts). All (Stands c b.memory) (driver_of h a).handed_out) counts stand)

pub driver-stays : {up : Bool} (h : HostState) (d : DriverState) (a b : World) → HostReadyWith up h a → d.layout ≡ h.driver.layout
    → All (Stands d.layout b.memory) (driver_of h a).handed_out → driver_of (with_driver d h) b ≡ holding (driver_of h a).handed_out d
driver-stays h d a b host counts stand = ends-as (with_driver d h) b h.driver.layout a.memory (all_of h.queues) refl counts
    (queues-stand h d a b host counts stand)

pub accounts-stay : {up : Bool} (h : HostState) (d : DriverState) (a b : World) (stored : List (List ℕ)) → HostReadyWith up h a
    → d.layout ≡ h.driver.layout
    → All (Stands d.layout b.memory) (driver_of h a).handed_out
    → frames_held d.oldest_receive b ≡ frames_held h.driver.oldest_receive a ++ stored
    → Accounts h a (with_driver d h) b [] stored
accounts-stay h d a b stored host counts stand holds =
    let same = queues-stand h d a b host counts stand in
    accounts h a (with_driver d h) b [] [] stored refl holds
    (λ socket.
    ap (λ (c : Counts). map (waiting_frame c b.memory) (queue_at h.queues socket)) counts
    ∙ queue-frames-same h.driver.layout a.memory b.memory h.queues same socket
    ∙ sym (append-nil (waiting_frames h socket a)))
    (record { least = omega arith; most = omega arith; exactly = λ below. omega arith })

pub host-happens : {up : Bool} (h : HostState) (a b : World) (past : Past) → HostReadyWith up h a → Happens a b past
    → HostGoesTo up (in_world h a) (in_world h b) did_nothing past
host-happens {up} h a b past host happens =
    let d = driver_of h a in
    let goes = goes-happens d a b past host.ready happens in
    let stand = goes.flows.ready.stand in
    record {
      sizes = host.sizes;
      driver = subst (λ (end : DriverState). GoesTo up (driver_in d a) (driver_in end b) (driver_did [] []) past)
          (sym (driver-stays h h.driver a b host refl stand)) goes;
      accounts = accounts-stay h h.driver a b past.stored host refl stand goes.flows.holds;
    }

-- If `First` holds of an interval of a driver's run, and `Later` of the next interval, `Later` holds of both intervals together.
abbrev pub Join : (First Later : DriverInWorld → DriverInWorld → DriverDid → Past → Type 0) → Type 0
Join First Later =
    (d1 d2 d3 : DriverState) (a b c : World) (t1 t2 g1 g2 : List (List ℕ)) (first later : Past)
    → First (driver_in d1 a) (driver_in d2 b) (driver_did t1 g1) first
    → Later (driver_in d2 b) (driver_in d3 c) (driver_did t2 g2) later
    → Later (driver_in d1 a) (driver_in d3 c) (driver_did (t1 ++ t2) (g1 ++ g2)) (joined first later)

-- If `First` and `Later` join for a driver, they join for the host of the driver.
pub host-join : (First Later : DriverInWorld → DriverInWorld → DriverDid → Past → Type 0) → Join First Later
    → (h1 h2 h3 : HostInWorld) (one two : HostDid) (first later : Past)
    → HostInterval First h1 h2 one first → HostInterval Later h2 h3 two later
    → HostInterval Later h1 h3 (did_both one two) (joined first later)
host-join First Later joins h1 h2 h3 one two first later before behind = record {
  sizes = behind.sizes;
  driver = joins (driver_of h1.host h1.world) (driver_of h2.host h2.world) (driver_of h3.host h3.world) h1.world h2.world h3.world
      one.driver.taken two.driver.taken one.driver.accepted two.driver.accepted first later before.driver behind.driver;
  accounts = accounts-join h1.host h2.host h3.host h1.world h2.world h3.world one.given two.given first.stored later.stored before.accounts
      behind.accounts;
}
