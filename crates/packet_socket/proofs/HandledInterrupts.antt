-- A host handles an interrupt.
use Rattle.std.proofs.Common.{Bool, ◌≡◌, ◌<◌, ◌≤◌, ◌+◌, ◌++◌, ◌∷◌, [], ℕ, List, length, map, refl, sym, ap, subst, ◌∙◌}
use Rattle.std.proofs.Common.{length-append, arith}
use Rattle.std.specs.List.{All, concat, flat_map, slice_index_or}
use Rattle.std.proofs.lemmas.List.{length-map, map-append}
use Rattle.std.proofs.lemmas.List.Elements.{All-append, All-map}
use Rattle.std.proofs.lemmas.List.Sorted.{All-permutation}
use Rattle.dma_memory.specs.Layout.{Counts}
use Rattle.dma_memory.specs.Owners.{copies}
use Rattle.dma_memory.specs.OwnersLaws.{copies-append, length-no_second}
use Rattle.adapter.specs.World.{World}
use Rattle.adapter.proofs.Composition.{happens_none}
use Rattle.adapter.proofs.Lists.{all-left, all-right}
use Rattle.adapter.specs.Pasts.{Past, joined, nothing}
use Rattle.adapter.specs.bus_types.event.Access.TheVariants.{Reads}
use Rattle.adapter.proofs.TakenSlots.{buffers_can_come_back}
use Rattle.adapter.specs.bus_types.bus.Bus.{Ghosts}
use Rattle.adapter.specs.Calls.{FlowsTo, FollowsWrites, GoesTo, Moment, at, driver_did, driver_in}
use Rattle.adapter.proofs.Intervals.{joined-nothing}
use Rattle.adapter.proofs.Places.{place-below}
use Rattle.adapter.specs.DriverState.{DriverState, HandedOut, frame_of, holding, next_receive, piece_numbers, owners}
use Rattle.adapter.specs.ReadyDrivers.{ReadyWith, Stands}
use Rattle.driver.specs.HandlerSteps.{Asked, DoesNothing, Handles, HandlesIt, IfHandled, IfNotMine, IsSublist, OnlyReceives}
use Rattle.driver.specs.Growth.{GrowsBy}
use Rattle.driver.specs.HandlerSteps.{Scene, ServesReceiver}
use Rattle.driver.specs.HandlerSteps.{held_in}
use Rattle.driver.specs.Parts.{buffers_of, joined_frames, pieces_of, received_of}
use Rattle.driver.specs.declared.interrupt.Handled.{Handled}
use Rattle.driver.specs.declared.interrupt.Handled.TheVariants.{NotMine}
use Rattle.driver.specs.declared.interrupt.Handled.TheVariants as answers
use Rattle.driver.specs.declared.receiver.Received.{Received}
use Rattle.driver.proofs.ShownRuns.{served-few}
use Rattle.packet_socket.specs.HostActs.{OverBus, PassesStage}
use Rattle.packet_socket.specs.HostCalls.{HostMoment, HostReadyWith, IsReadyHost, Queues}
use Rattle.packet_socket.specs.HostCalls.{driver_at, driver_of, socket_entries, host_at, socket_frames, waiting_frame, waiting_frames}
use Rattle.packet_socket.specs.HostCalls.{waiting_pieces, without_socket}
use Rattle.packet_socket.specs.HostEffects.{ClearsCauses, FindsNoCause, HandlesFrames, InterruptEffect}
use Rattle.packet_socket.specs.HostState.{HostState, SocketsState, all_of, queue_at}
use Rattle.packet_socket.specs.InsideHost.{AreOfHost, host_with}
use Rattle.packet_socket.specs.Sorting.{Sorts}
use Rattle.packet_socket.proofs.DriverActs.{last-stage, stage}
use Rattle.packet_socket.proofs.Accounts.{accounts}
use Rattle.packet_socket.proofs.DriversAccesses.{causes-of_driver, handles-last, handles-of_driver}
use Rattle.packet_socket.proofs.ShownFrames.{part-length, queue-frames, unclaimed-frames}
use Rattle.packet_socket.proofs.ConsistentHosts.{kept-copies}
use Rattle.packet_socket.proofs.QueuedPieces.{all-joined, all-pieces, entries-fit, received-numbers, waiting-numbers}
use Rattle.packet_socket.proofs.WaitingFrames.{AreLong, AreSame, IsLong, all-long, all-long-after, queue-frames-same, read-long}
use Rattle.packet_socket.proofs.WaitingFrames.{read-pieces, read-stands}
use Rattle.adapter.proofs.Steps.{goes-happens}
use Rattle.adapter.proofs.DriverAccesses.{follows-join}
use Rattle.bring_up.proofs.AlikeDrivers.{flows-alike, goes-alike}
use Rattle.packet_socket.proofs.Intervals.{accounts-stay, driver-stays, queues-stand}

-- the moment of a host with this driver and these sockets
abbrev pub host_in : {B : Type 0} → Scene B SocketsState → HostMoment B
host_in now = record { bus = now.bus; host = host_with now.driver now.receiver }

-- The first stage of the handler: a read of ICR.
reads-first : {up : Bool} {B : Type 0} {bus : Ghosts B} {old : Moment B} {Later : B → Past → Type 0} {past : Past}
    (behind : Past) (asked : Asked bus up old) → Later asked.after_read behind → past ≡ joined asked.reads.past behind
    → PassesStage bus (Reads 0x00C0 asked.causes ∷ []) (ClearsCauses asked.causes) old.bus past Later
reads-first behind asked later whole =
    let reads = asked.reads in
    stage asked.after_read reads.past behind reads.reports reads.only (record { seen = reads.seen; cleared = reads.cleared }) later whole

leaves : {up : Bool} {B : Type 0} (bus : Ghosts B) (old : HostMoment B) (new : B) (asked : Asked bus up (driver_at bus old))
    → IsReadyHost bus up old → DoesNothing bus (driver_at bus old) (at new (driver_at bus old).driver) asked
    → FindsNoCause old.host old.host (OverBus bus up [] [] old (host_at new old.host))
leaves {up} {B} bus old new asked is it =
    let h = old.host in
    let d = driver_of h (bus.world old.bus) in
    let reads = asked.reads in
    let read = bus.world asked.after_read in
    let stand = it.flows.ready.stand in
    let here : d ≡ driver_of h (bus.world new) =
    sym (driver-stays h h.driver (bus.world old.bus) (bus.world new) is.ready refl stand) in
    record {
      causes = asked.causes;
      none = it.none;
      stays = refl;
      runs = record {
        past = reads.past;
        stages = reads-first nothing asked (it.still, refl) (sym (joined-nothing reads.past));
        own = causes-of_driver h.driver.layout asked.causes;
        last_writes = tt;
        changed = record {
          sizes = is.ready.sizes;
          driver = record {
            flows = subst (λ (end : DriverState). FlowsTo up (driver_in d (bus.world old.bus)) (driver_in end (bus.world new))
                (driver_did [] []) reads.past) here it.flows;
            asked = bus.world asked.after_read;
            causes = asked.causes;
            first = reads.past;
            reads = reads.only;
            later = nothing;
            whole = sym (joined-nothing reads.past);
            goes = subst (λ (end : DriverState). GoesTo up (driver_in d read) (driver_in end (bus.world new)) (driver_did [] []) nothing)
                here
                (subst (λ (b : B). GoesTo up (driver_in d read) (driver_in d (bus.world b)) (driver_did [] []) nothing) (sym it.still)
                (goes-happens d read read nothing reads.flows.ready (happens_none read)));
          };
          accounts = accounts-stay h h.driver (bus.world old.bus) (bus.world new) reads.past.stored is.ready refl stand it.flows.holds;
        };
        follows = subst (λ (b : B). FollowsWrites (bus.world old.bus) (bus.world b) reads.past) (sym it.still) reads.follows;
        work = λ work. let behind = it.work (record { enabled = work.enabled; asked = work.asked }) in record
            { enabled = behind.enabled; asked = behind.asked };
        refilled = λ refilled. refilled;
        offered = λ offered. offered;
      };
    }

has-room : (driver : DriverState) (before : SocketsState) (n : ℕ) → AreOfHost driver before → n ≤ length driver.buffers
    → length (all_of before.queues) + n ≤ before.room
has-room driver before n host few =
    let waiting = buffers_of (all_of before.queues) in
    let rest = driver.staged ++ piece_numbers driver.handed_out in
    omega (
      arith,
      few,
      host.room,
      length-no_second driver.layout.buffers (owners driver ++ waiting) host.owners,
      length-append (owners driver) waiting,
      length-append driver.pool (driver.buffers ++ rest),
      length-append driver.buffers rest,
      entries-fit (all_of before.queues) host.sizes,
    )

-- The queues contain the earlier frames, and then the frames `kept`. The driver is ready while the queues hold these frames. Each queue
-- received its socket's frames of those in `taken`.
pub record Sorted (up : Bool) (driver driver' : DriverState) (before after : SocketsState) (a b : World)
    (taken kept : List (List HandedOut)) : Type 0 where
  pub queues : Queues before.kinds before.queues after.queues (map received_of kept)
  pub ready : ReadyWith up (driver_of (host_with driver' after) b) b
  pub frames : (socket : ℕ)
      → waiting_frames (host_with driver' after) socket b ≡ waiting_frames (host_with driver before) socket a
      ++ socket_frames before.kinds socket (joined_frames taken)

pub sorted : {up : Bool} (driver driver' : DriverState) (before after : SocketsState) (a b : World) (taken kept : List (List HandedOut))
    → AreOfHost driver before → AreOfHost driver' after
    → HostReadyWith up (host_with driver before) a → driver'.layout ≡ driver.layout
    → ReadyWith up (holding ((driver_of (host_with driver before) a).handed_out ++ pieces_of kept) driver') b → IsSublist kept taken
    → length taken ≤ length driver.buffers
    → Sorts before after (map received_of taken) (map received_of kept) → Sorted up driver driver' before after a b taken kept
sorted {up} driver driver' before after a b taken kept sound sound' host counts ready part few shown =
    let h = host_with driver before in
    let h' = host_with driver' after in
    let held = (driver_of h a).handed_out in
    let pieces = pieces_of kept in
    let last = holding (held ++ pieces) driver' in
    let old = a.memory in
    let new = b.memory in
    let entries = map received_of kept in
    let waits = all_of before.queues in
    let P = Stands driver'.layout new in
    let frame : Received → List ℕ = waiting_frame driver'.layout new in
    let number : HandedOut → ℕ = λ one. one.number in
    let same : AreSame driver.layout old new waits = queues-stand h driver' a b host counts (all-left P held pieces ready.stand) in
    let each = all-pieces P (λ (one : List HandedOut). one) kept (all-right P held pieces ready.stand) in
    let outs : All (λ (one : List HandedOut). frame (received_of one) ≡ frame_of one) kept = λ k one below.
    ap frame_of (read-pieces driver'.layout new (slice_index_or kept k one) (each k one below)) in
    let numbers : (k : ℕ) → copies k (piece_numbers (held ++ pieces)) ≡ copies k (buffers_of waits) + copies k (buffers_of entries) = λ k.
    omega (
      arith,
      ap (copies k) (received-numbers kept),
      ap (copies k) (waiting-numbers driver.layout old waits),
      ap (copies k) (map-append number held pieces),
      copies-append k (piece_numbers held) (piece_numbers pieces),
    ) in
    let fits = has-room driver before (length entries) sound (omega (arith, length-map kept received_of, part-length part, few)) in
    let queues = shown.queues fits in
    let list = flat_map (waiting_pieces driver'.layout new) (all_of after.queues) in
    let moves : (k : ℕ) → copies k driver'.pool + copies k (piece_numbers list)
    ≡ copies k driver'.pool + copies k (piece_numbers (held ++ pieces)) = λ k.
    omega (
      arith,
      ap (copies k) (waiting-numbers driver'.layout new (all_of after.queues)),
      kept-copies k before.kinds before.queues after.queues entries queues,
      numbers k,
    ) in
    let Long : Received → Type 0 = λ r. All (IsLong driver'.layout new) r.parts in
    let long_before : AreLong driver'.layout new waits = subst (λ (c : Counts). AreLong c new waits) (sym counts)
    (all-long-after driver.layout old new waits (all-long h a host) same) in
    let long_kept : All Long entries = All-map Long received_of kept
    (λ k one below. read-long driver'.layout new (slice_index_or kept k one) (each k one below)) in
    let long : All Long (all_of after.queues) = All-permutation Long (waits ++ entries) (all_of after.queues) queues.all
    (All-append Long waits entries long_before long_kept) in
    let stand : All P list = all-joined P (waiting_pieces driver'.layout new) (all_of after.queues)
    (λ k r below. read-stands driver'.layout new (slice_index_or (all_of after.queues) k r) (long k r below) (sound'.sizes k r below)) in
    record {
      queues = queues;
      ready = (buffers_can_come_back up last driver'.pool list b ready moves stand).flows.ready;
      frames = λ socket.
          ap (map frame) (queues.ends socket)
          ∙ map-append frame (queue_at before.queues socket) (socket_entries before.kinds socket entries)
          ∙ ap (λ (front : List (List ℕ)). front ++ map frame (socket_entries before.kinds socket entries))
          (ap (λ (c : Counts). map (waiting_frame c new) (queue_at before.queues socket)) counts
          ∙ queue-frames-same driver.layout old new before.queues same socket)
          ∙ ap (λ (behind : List (List ℕ)). waiting_frames h socket a ++ behind)
          (queue-frames before.kinds socket frame kept taken part shown.claimed outs);
    }

numbers-joined : (taken : List (List HandedOut)) → piece_numbers (pieces_of taken) ≡ concat (map piece_numbers taken)
numbers-joined [] = refl
numbers-joined (pieces ∷ later) =
    map-append (λ (one : HandedOut). one.number) pieces (pieces_of later)
    ∙ ap (λ (numbers : List ℕ). piece_numbers pieces ++ numbers) (numbers-joined later)

-- If the driver handled the causes, the host's call has the effect `HandlesFrames`.
works : {up : Bool} {B : Type 0} (bus : Ghosts B) (old new : Scene B SocketsState) (n : ℕ)
    → AreOfHost old.driver old.receiver → AreOfHost new.driver new.receiver → IsReadyHost bus up (host_in old)
    → (asked : Asked bus up (driver_at bus (host_in old)))
    → HandlesIt bus (record { took = Sorts }) n (held_in (driver_at bus (host_in old)).driver.handed_out old)
    (held_in (driver_at bus (host_in old)).driver.handed_out new) asked
    → ServesReceiver (record { took = Sorts }) old.receiver new.receiver old.driver new.driver n
    → OnlyReceives old.driver new.driver
    → HandlesFrames n (host_in old).host (host_in new).host (OverBus bus up [] [] (host_in old) (host_in new)) (bus.world old.bus)
works {up} bus old new n sound sound' is asked it serves only_receives =
    let before = old.receiver in
    let after = new.receiver in
    let driver' = new.driver in
    let h = (host_in old).host in
    let h' = (host_in new).host in
    let a = bus.world old.bus in
    let b = bus.world new.bus in
    let d = driver_of h a in
    let frames = it.frames in
    let handles = it.driver in
    let reads = asked.reads in
    let w = handles.works in
    let last = holding (d.handed_out ++ pieces_of frames.kept) (holding d.handed_out driver') in
    let joined_taken = joined_frames frames.taken in
    let past = joined reads.past w.ran.past in
    let few : length frames.taken ≤ length old.driver.buffers =
    omega (arith, frames.count, served-few n old.driver driver' serves.runs serves.ring) in
    let all = sorted old.driver driver' before after a b frames.taken frames.kept sound sound' is.ready handles.flows.layout
    w.ran.goes.flows.ready frames.part few frames.shown in
    let grows : GrowsBy before.unclaimed after.unclaimed (without_socket before.kinds joined_taken) = subst
    (GrowsBy before.unclaimed after.unclaimed) (unclaimed-frames before.kinds frames.taken) frames.shown.unclaimed in
    let below : next_receive driver' < h.driver.layout.rx = subst (λ (c : Counts). next_receive driver' < c.rx) handles.flows.layout
    (place-below driver'.layout.rx driver'.oldest_receive (length driver'.buffers + length driver'.staged)
    all.ready.driver_is.oldest_slot) in
    record {
      causes = asked.causes;
      some = handles.some;
      missed = record { misses = w.misses.misses; missed = w.misses.missed; exact = w.misses.exact };
      taken = frames.taken;
      frames = record {
        count = frames.count;
        groups = frames.groups;
        each = frames.each;
        sorted = record {
          kinds = frames.shown.kinds;
          queues = subst (Queues before.kinds before.queues after.queues) frames.shown.claimed all.queues;
          unclaimed = frames.shown.unclaimed;
        };
      };
      unclaimed = grows;
      least = handles.least;
      served = record {
        rest = w.served.rest;
        offered = w.served.offered;
        oldest = w.served.oldest ∙ ap (λ (list : List ℕ). list ++ w.served.rest) (numbers-joined frames.taken);
        newest = w.served.newest;
        no_bad = w.served.no_bad;
      };
      only_receives = only_receives;
      loads = w.loads;
      runs = record {
        past = past;
        stages = reads-first w.ran.past asked
            (stage w.split.middle w.split.before w.split.behind w.split.reaches w.split.first_made
            (record { none_left = w.look.none_left; short = w.look.short; loads_are = w.look.loads_are })
            (last-stage new.bus w.split.leaves w.split.later_made
            (λ enabled. let behind = handles.work enabled in record { enabled = behind.enabled; asked = behind.asked }))
            w.split.whole) refl;
        own = handles-of_driver h.driver.layout h.driver asked.causes w.misses.misses (map piece_numbers frames.taken) w.loads
            w.served.offered (next_receive driver') below;
        last_writes = handles-last h.driver asked.causes w.misses.misses (map piece_numbers frames.taken) w.loads w.served.offered
            (next_receive driver');
        changed = record {
          sizes = sound'.sizes;
          driver = record {
            flows = flows-alike d.groups last.groups d.handed_out (driver_of h' b).handed_out handles.flows all.ready;
            asked = bus.world asked.after_read;
            causes = asked.causes;
            first = reads.past;
            reads = reads.only;
            later = w.ran.past;
            whole = refl;
            goes = goes-alike d.groups last.groups d.handed_out (driver_of h' b).handed_out w.ran.goes all.ready;
          };
          accounts = accounts h a h' b [] joined_taken past.stored frames.shown.kinds handles.flows.holds all.frames grows;
        };
        follows = follows-join a (bus.world asked.after_read) b reads.past w.ran.past reads.follows w.ran.follows;
        work = λ work. let behind = handles.work work.enabled in record { enabled = behind.enabled; asked = behind.asked };
        refilled = λ before. serves.ring.refilled;
        offered = λ before. ap (λ (d : DriverState). d.staged) serves.ring.others;
      };
    }

pub host-handles : {up : Bool} {B : Type 0} (bus : Ghosts B) (old new : Scene B SocketsState) (result : Handled)
    → AreOfHost old.driver old.receiver → AreOfHost new.driver new.receiver → IsReadyHost bus up (host_in old)
    → IfNotMine result ((new.driver ≡ old.driver) × (new.receiver ≡ old.receiver))
    → IfHandled result (ServesReceiver (record { took = Sorts }) old.receiver new.receiver old.driver new.driver)
    → OnlyReceives old.driver new.driver
    → Handles bus (record { took = Sorts }) result up (held_in (driver_at bus (host_in old)).driver.handed_out old)
    (held_in (driver_at bus (host_in old)).driver.handed_out new)
    → InterruptEffect result (host_in old).host (host_in new).host (OverBus bus up [] [] (host_in old) (host_in new)) (bus.world old.bus)
host-handles {up} {B} bus old new NotMine sound sound' is stays serves only_receives it =
    let d = (driver_at bus (host_in old)).driver in
    let same : host_with new.driver new.receiver ≡ (host_in old).host = ap (λ (s : DriverState). host_with s new.receiver) stays.0
    ∙ ap (host_with old.driver) stays.1 in
    let left : DoesNothing bus (driver_at bus (host_in old)) (at new.bus d) it.asked =
    subst (λ (s : DriverState). DoesNothing bus (driver_at bus (host_in old)) (at new.bus (holding d.handed_out s)) it.asked)
    stays.0 it.then_does in
    subst (λ (end : HostState). FindsNoCause (host_in old).host end (OverBus bus up [] [] (host_in old) (host_at new.bus end))) (sym same)
    (leaves bus (host_in old) new.bus it.asked is left)
host-handles {up} {B} bus old new (answers.Handled taken) sound sound' is stays serves only_receives it =
    works bus old new taken sound sound' is it.asked it.then_does serves only_receives
