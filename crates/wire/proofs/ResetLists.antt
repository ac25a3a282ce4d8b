-- The equations of a host over a reset of its adapter.
use Rattle.std.proofs.Common.{◌≡◌, ◌++◌, ◌∷◌, [], ℕ, Bool, List, Option, if◌then◌else◌, map, refl, sym, ap, ◌∙◌}
use Rattle.std.proofs.Common.{append_assoc, arith}
use Rattle.std.specs.List.{flat_map}
use Rattle.std.proofs.lemmas.Bool.{eq-eqb}
use Rattle.std.proofs.lemmas.Grind.{flat_map-append}
use Rattle.std.proofs.lemmas.List.{append-nil}
use Rattle.std.proofs.lemmas.List.Sums.{sum_by-append, sum_by-cons}
use Rattle.descriptors.specs.Frames.{padded}
use Rattle.adapter.specs.HostFrames.{frames_held, frames_to_send}
use Rattle.adapter.specs.Pasts.{Past}
use Rattle.adapter.specs.DriverState.{DriverSetup, DriverState}
use Rattle.stations.specs.AtomicRunLaws.{past_join}
use Rattle.stations.specs.AtomicRuns.{LeadsTo, past_at}
use Rattle.stations.specs.AtomicSteps.{AtomicStep, after_atomic}
use Rattle.stations.specs.Stations.{StationState, backlog_at, wire_at, world_at}
use Rattle.packet_socket.specs.HostCalls.{held_for_socket, socket_frames, waiting_frames, without_socket}
use Rattle.packet_socket.specs.HostState.{HostState}
use Rattle.packet_socket.specs.declared.socket_kind.SocketKind.{SocketKind}
use Rattle.host_calls.proofs.HostLists.{accepted-none, given-none, holding-none, put-told, sending-none, stored-told}
use Rattle.host_calls.proofs.Laws.{frames-move}
use Rattle.host_calls.proofs.Lists.{accepted-padded, goes-join, goes-without_drops}
use Rattle.host_calls.specs.Fates.{marks}
use Rattle.host_calls.specs.Happenings.{Disabled, Enabled, GivenUp, Happening, accepted_in_one, given, given_in_one, happened_by}
use Rattle.host_calls.specs.Happenings.{happened_in, missed, missed_of, of_host, put, put_in_one, reached, reached_by}
use Rattle.host_calls.specs.Happenings.{stored, stored_by, toward, toward_by}
use Rattle.host_calls.specs.Lists.{AreDue, ListGoes, HaveCome, holding_in_one, padded_in_one, sending_in_one}
use Rattle.host_calls.specs.Reception.{ReceivesRightly}
use Rattle.host_calls.specs.ConnectedHosts.{connected}
use Rattle.host_calls.specs.ResetSteps.{ResetParts, at_rest, before_reset, disable_of, enable_of, whole_reset}
use Rattle.host_calls.specs.ResetsInSteps.{GivesUp, ResetsInSteps}
use Rattle.wire.specs.Equations.{CountsMisses, MeetsEquations, KeepsCome, SendsDue}
use Rattle.wire.specs.Runs.{ResetAnswer}
use Rattle.wire.proofs.Delivering.{Tells, misses-of}
use Rattle.wire.proofs.ResetTold.{reset_said}

-- What a reset adds to each list of frames

pub parts-happened : (k : ℕ) (setup : DriverSetup) (parts : ResetParts) → happened_in (whole_reset k setup parts)
    ≡ happened_in parts.early ++ (happened_in parts.stopping ++ (happened_in parts.resting ++ happened_in parts.later))
parts-happened k setup parts =
    let enable = enable_of k setup in
    flat_map-append happened_by (before_reset k parts) (at_rest k setup parts ++ parts.later)
    ∙ ap (λ (list : List Happening). list ++ happened_in (at_rest k setup parts ++ parts.later))
    (flat_map-append happened_by parts.early (disable_of k ∷ parts.stopping))
    ∙ append_assoc (happened_in parts.early) (happened_in parts.stopping) (happened_in (at_rest k setup parts ++ parts.later))
    ∙ ap (λ (list : List Happening). happened_in parts.early ++ (happened_in parts.stopping ++ list))
    (flat_map-append happened_by (parts.resting ++ enable ∷ []) parts.later
    ∙ ap (λ (list : List Happening). list ++ happened_in parts.later)
    (flat_map-append happened_by parts.resting (enable ∷ []) ∙ append-nil (happened_in parts.resting)))

rest-happened : (k : ℕ) (setup : DriverSetup) (parts : ResetParts) → happened_in (at_rest k setup parts) ≡ happened_in parts.resting
rest-happened k setup parts =
    flat_map-append happened_by parts.resting (enable_of k setup ∷ []) ∙ append-nil (happened_in parts.resting)

pub reset-list : {X : Type 0} (f : Happening → List X) (k : ℕ) (answer : ResetAnswer) (setup : DriverSetup) (parts : ResetParts)
    → f (Disabled k) ≡ [] → f (GivenUp k answer.sending answer.holding) ≡ [] → f (Enabled k) ≡ []
    → flat_map f (reset_said k answer parts) ≡ flat_map f (happened_in (whole_reset k setup parts))
reset-list {X} f k answer setup parts disabled given_up enabled =
    let e = happened_in parts.early in
    let s = happened_in parts.stopping in
    let r = happened_in parts.resting in
    let l = happened_in parts.later in
    let up = GivenUp k answer.sending answer.holding in
    let last : flat_map f (r ++ Enabled k ∷ l) ≡ flat_map f (r ++ l) =
    flat_map-append f r (Enabled k ∷ l)
    ∙ ap (λ (list : List X). flat_map f r ++ (list ++ flat_map f l)) enabled
    ∙ sym (flat_map-append f r l) in
    let middle : flat_map f (s ++ up ∷ (r ++ Enabled k ∷ l)) ≡ flat_map f (s ++ (r ++ l)) =
    flat_map-append f s (up ∷ (r ++ Enabled k ∷ l))
    ∙ ap (λ (list : List X). flat_map f s ++ (list ++ flat_map f (r ++ Enabled k ∷ l))) given_up
    ∙ ap (λ (list : List X). flat_map f s ++ list) last
    ∙ sym (flat_map-append f s (r ++ l)) in
    flat_map-append f e (Disabled k ∷ (s ++ up ∷ (r ++ Enabled k ∷ l)))
    ∙ ap (λ (list : List X). flat_map f e ++ (list ++ flat_map f (s ++ up ∷ (r ++ Enabled k ∷ l)))) disabled
    ∙ ap (λ (list : List X). flat_map f e ++ list) middle
    ∙ sym (flat_map-append f e (s ++ (r ++ l)))
    ∙ ap (flat_map f) (sym (parts-happened k setup parts))

reset-missed : (n k : ℕ) (answer : ResetAnswer) (setup : DriverSetup) (parts : ResetParts)
    → missed n (reset_said k answer parts) ≡ missed n (happened_in (whole_reset k setup parts))
reset-missed n k answer setup parts =
    let f = missed_of n in
    let e = happened_in parts.early in
    let s = happened_in parts.stopping in
    let r = happened_in parts.resting in
    let l = happened_in parts.later in
    let up = GivenUp k answer.sending answer.holding in
    let one = sum_by-append f e (Disabled k ∷ (s ++ up ∷ (r ++ Enabled k ∷ l))) in
    let two = sum_by-cons f (Disabled k) (s ++ up ∷ (r ++ Enabled k ∷ l)) in
    let three = sum_by-append f s (up ∷ (r ++ Enabled k ∷ l)) in
    let four = sum_by-cons f up (r ++ Enabled k ∷ l) in
    let five = sum_by-append f r (Enabled k ∷ l) in
    let six = sum_by-cons f (Enabled k) l in
    let whole = sum_by-append f e (s ++ (r ++ l)) in
    let behind = sum_by-append f s (r ++ l) in
    let last = sum_by-append f r l in
    omega (arith, one, two, three, four, five, six, whole, behind, last) ∙ ap (missed n) (sym (parts-happened k setup parts))

itself : {T : Type 0} (k : ℕ) (list : List T) → of_host k k list ≡ list
itself k list = ap (λ (here : Bool). if here then list else []) (eq-eqb k k refl)

-- If no frame was lost at host n, as at each host that isn't reset, `Tells` holds for the happenings of a reset.
pub reset-tells : (n k : ℕ) (answer : ResetAnswer) (setup : DriverSetup) (parts : ResetParts) (wires : ℕ → Option ℕ)
    → of_host n k answer.sending ≡ [] → of_host n k answer.holding ≡ []
    → Tells n (reset_said k answer parts) (whole_reset k setup parts) wires [] []
reset-tells n k answer setup parts wires sending holding =
    let steps = whole_reset k setup parts in
    record {
      put = reset-list (put_in_one n) k answer setup parts refl refl refl;
      reached = reset-list (reached_by n) k answer setup parts refl refl refl;
      toward = reset-list (toward_by wires n) k answer setup parts refl refl refl;
      stored = reset-list (stored_by n) k answer setup parts refl refl refl;
      missed = reset-missed n k answer setup parts;
      sending = reset-list (sending_in_one n) k answer setup parts refl sending refl ∙ sending-none n steps;
      holding = reset-list (holding_in_one n) k answer setup parts refl holding refl ∙ holding-none n steps;
      accepted = ap (map padded) (reset-list (accepted_in_one n) k answer setup parts refl refl refl ∙ accepted-none n steps);
      given = λ socket. reset-list (given_in_one n socket) k answer setup parts refl refl refl ∙ given-none n socket steps;
    }

-- The lists of the host that is reset lose their end

pub leads-split : (caller : ℕ) (first later : List AtomicStep) (a b : List StationState) → LeadsTo caller (first ++ later) a b
    → (m : List StationState) × LeadsTo caller first a m × LeadsTo caller later m b
leads-split caller [] later a b leads = (a, refl, leads)
leads-split caller (step ∷ first) later a b leads =
    let rest = leads-split caller first later (after_atomic step a) b leads.2 in
    (rest.0, (leads.0, leads.1, rest.1), rest.2)

due-stays : (k : ℕ) (list : List (List ℕ)) (steps : List AtomicStep) → AreDue k list (happened_in steps) list
due-stays k list steps =
    (goes-without_drops (padded_in_one k) (sending_in_one k) list list (happened_in steps) (sending-none k steps)).1
    (sym (append-nil list)
    ∙ ap (λ (more : List (List ℕ)). list ++ more)
    (sym (accepted-padded k (happened_in steps) ∙ ap (map padded) (accepted-none k steps))))

come-grows : (k : ℕ) (list more : List (List ℕ)) (steps : List AtomicStep) → stored k (happened_in steps) ≡ more
    → HaveCome k list (happened_in steps) (list ++ more)
come-grows k list more steps is =
    (goes-without_drops (stored_by k) (holding_in_one k) list (list ++ more) (happened_in steps) (holding-none k steps)).1
    (ap (λ (frames : List (List ℕ)). list ++ frames) (sym is))

-- GivenUp removes the frames `gone` from the end of the list; the steps of each part change the list as `ListGoes`
-- states
reset-goes_down : (adds drops : Happening → List (List ℕ)) (k : ℕ) (answer : ResetAnswer) (parts : ResetParts)
    (begin first before left middle end gone : List (List ℕ))
    → ListGoes adds drops begin (happened_in parts.early) first → adds (Disabled k) ≡ [] → drops (Disabled k) ≡ []
    → ListGoes adds drops first (happened_in parts.stopping) before
    → adds (GivenUp k answer.sending answer.holding) ≡ [] → drops (GivenUp k answer.sending answer.holding) ≡ gone → before ≡ left ++ gone
    → ListGoes adds drops left (happened_in parts.resting) middle → adds (Enabled k) ≡ [] → drops (Enabled k) ≡ []
    → ListGoes adds drops middle (happened_in parts.later) end
    → ListGoes adds drops begin (reset_said k answer parts) end
reset-goes_down adds drops k answer parts begin first before left middle end gone early no_add no_drop stopping none given_up is resting
    no_more no_less later =
    let up = GivenUp k answer.sending answer.holding in
    let last : ListGoes adds drops middle (Enabled k ∷ happened_in parts.later) end =
    (middle, ap (λ (list : List (List ℕ)). middle ++ list) (no_more ∙ sym no_less), later) in
    let behind : ListGoes adds drops before (up ∷ (happened_in parts.resting ++ Enabled k ∷ happened_in parts.later)) end = (
      left,
      ap (λ (list : List (List ℕ)). before ++ list) none ∙ append-nil before ∙ is
          ∙ ap (λ (list : List (List ℕ)). left ++ list) (sym given_up),
      goes-join adds drops left middle end (happened_in parts.resting) (Enabled k ∷ happened_in parts.later) resting last,
    ) in
    goes-join adds drops begin first end (happened_in parts.early) _ early (
      first,
      ap (λ (list : List (List ℕ)). first ++ list) (no_add ∙ sym no_drop),
      goes-join adds drops first before end (happened_in parts.stopping) _ stopping behind,
    )

reset-sends : (k : ℕ) (answer : ResetAnswer) (steps : List AtomicStep) (h h' : HostState) (a b : List StationState)
    (resets : ResetsInSteps k steps (connected h a) (connected h' b)) → LeadsTo k steps a b
    → GivesUp answer.sending answer.holding k h.driver.oldest_receive resets.parts (world_at a k) (world_at resets.last k)
    → SendsDue k (reset_said k answer resets.parts) (world_at a k) (world_at b k)
reset-sends k answer steps h h' a b resets leads gives =
    let setup = h.driver.setup in
    let parts = resets.parts in
    let sends = frames_to_send (world_at a k) in
    let before = (past_at k (before_reset k parts)).put in
    let rests = resets.rests in
    let restarts = resets.restarts in
    let put_are : put k (reset_said k answer parts) ≡ before =
    reset-list (put_in_one k) k answer setup parts refl refl refl
    ∙ ap (λ (list : List AtomicStep). put k (happened_in list)) (sym resets.split)
    ∙ put-told k k steps a b leads
    ∙ ap (λ (list : List AtomicStep). (past_at k list).put) resets.split
    ∙ ap (λ (past : Past). past.put) (past_join k (before_reset k parts) (at_rest k setup parts ++ parts.later))
    ∙ ap (λ (list : List (List ℕ)). before ++ list)
    (ap (λ (past : Past). past.put) (past_join k (at_rest k setup parts) parts.later)
    ∙ ap (λ (list : List (List ℕ)). list ++ (past_at k parts.later).put) rests.no_frame.none_put ∙ restarts.none_put)
    ∙ append-nil before in
    record {
      due = before;
      are = reset-goes_down (padded_in_one k) (sending_in_one k) k answer parts sends sends sends before before before answer.sending
          (due-stays k sends parts.early) refl refl (due-stays k sends parts.stopping) refl (itself k answer.sending)
          (sym gives.sending_since) (due-stays k before parts.resting) refl refl (due-stays k before parts.later);
      sent = ap (λ (list : List (List ℕ)). list ++ frames_to_send (world_at b k)) put_are
          ∙ ap (λ (list : List (List ℕ)). before ++ list) restarts.none_to_send ∙ append-nil before;
    }

reset-keeps : (k : ℕ) (answer : ResetAnswer) (steps : List AtomicStep) (h h' : HostState) (a b : List StationState)
    (resets : ResetsInSteps k steps (connected h a) (connected h' b))
    → GivesUp answer.sending answer.holding k h.driver.oldest_receive resets.parts (world_at a k) (world_at resets.last k)
    → KeepsCome k (reset_said k answer resets.parts) h (world_at a k) h' (world_at b k)
reset-keeps k answer steps h h' a b resets gives =
    let setup = h.driver.setup in
    let parts = resets.parts in
    let held = frames_held h.driver.oldest_receive (world_at a k) in
    let came = (past_at k parts.later).stored in
    let early = (past_at k parts.early).stored in
    let first = leads-split k parts.early (disable_of k ∷ parts.stopping) a resets.last resets.stops.leads in
    let stopping = first.2.2 in
    let early_are : stored k (happened_in parts.early) ≡ early = stored-told k k parts.early a first.0 first.1 in
    let none_stopping : stored k (happened_in parts.stopping) ≡ [] =
    stored-told k k parts.stopping (after_atomic (disable_of k) first.0) resets.last stopping ∙ resets.stops.none_stored in
    let none_resting : stored k (happened_in parts.resting) ≡ [] =
    ap (stored k) (sym (rest-happened k setup parts))
    ∙ stored-told k k (at_rest k setup parts) resets.last resets.enabled resets.rests.leads ∙ resets.rests.no_frame.none_stored in
    let later_are : stored k (happened_in parts.later) ≡ came = stored-told k k parts.later resets.enabled b resets.restarts.leads in
    let now = frames_held h'.driver.oldest_receive (world_at b k) in
    let kinds : h'.kinds ≡ h.kinds = ap (λ (host : HostState). host.kinds) resets.again.host in
    let none : given k 0 [] ≡ [] = refl in
    let count : h'.unclaimed ≡ h.unclaimed = ap (λ (host : HostState). host.unclaimed) resets.again.host in
    let without : without_socket h'.kinds now ≡ without_socket h.kinds came =
    ap (λ (own : List SocketKind). without_socket own now) kinds ∙ ap (without_socket h.kinds) resets.restarts.held in
    record {
      came = came;
      have_come = reset-goes_down (stored_by k) (holding_in_one k) k answer parts held (held ++ early) ((held ++ early) ++ []) [] [] came
          answer.holding (come-grows k held early parts.early early_are) refl refl
          (come-grows k (held ++ early) [] parts.stopping none_stopping) refl (itself k answer.holding)
          (append-nil (held ++ early) ∙ sym gives.holding_since) (come-grows k [] [] parts.resting none_resting) refl refl
          (come-grows k [] came parts.later later_are);
      taken = [];
      took = sym resets.restarts.held;
      given_is_kept = λ socket.
          ap (λ (list : List (List ℕ)). list ++ held_for_socket h' socket (world_at b k))
          (reset-list (given_in_one k socket) k answer setup parts refl refl refl ∙ given-none k socket (whole_reset k setup parts))
          ∙ ap (λ (list : List (List ℕ)). list ++ socket_frames h'.kinds socket now) (resets.keeps.waiting socket)
          ∙ ap (λ (list : List (List ℕ)). waiting_frames h socket (world_at a k) ++ list)
          (ap (λ (own : List SocketKind). socket_frames own socket now) kinds ∙ ap (socket_frames h.kinds socket) resets.restarts.held);
      unclaimed_is_counted = record {
        least = omega (arith, count);
        most = omega (arith, count, without);
        exactly = λ below. omega (arith, count, without);
      };
    }

reset-misses : (k : ℕ) (answer : ResetAnswer) (steps : List AtomicStep) (h h' : HostState) (a b : List StationState)
    (resets : ResetsInSteps k steps (connected h a) (connected h' b)) → LeadsTo k steps a b
    → CountsMisses h (world_at a k) (missed k (reset_said k answer resets.parts)) h' (world_at b k)
reset-misses k answer steps h h' a b resets leads =
    let happened = reset_said k answer resets.parts in
    let sums = resets.keeps.sums in
    let missed_are : missed k happened ≡ (past_at k steps).missed =
    reset-missed k k answer h.driver.setup resets.parts
    ∙ ap (λ (list : List AtomicStep). missed k (happened_in list)) (sym resets.split)
    ∙ (frames-move k k steps a b leads).missed in
    misses-of h (world_at a k) h' (world_at b k) (missed k happened)
    (let most = sums.at_most in omega (arith, most, missed_are))
    (λ exact below.
    let exactly = sums.exactly exact below in
    let sum = exactly.sum in
    (exactly.exact, exactly.below_greatest, omega (arith, sum, missed_are)))
    sums.sum
    (λ exact small fits.
    let stays = sums.stays_exact exact (omega (arith, small, missed_are)) (omega (arith, fits, missed_are)) in
    let sum = sums.counted (omega (arith, small, missed_are)) (omega (arith, fits, missed_are)) in
    (stays, omega (arith, sum, missed_are)))

pub reset-delivers : (k : ℕ) (answer : ResetAnswer) (steps : List AtomicStep) (h h' : HostState) (a b : List StationState)
    (resets : ResetsInSteps k steps (connected h a) (connected h' b)) → LeadsTo k steps a b
    → GivesUp answer.sending answer.holding k h.driver.oldest_receive resets.parts (world_at a k) (world_at resets.last k)
    → ReceivesRightly h.driver.groups (world_at a k).adapter (marks k (reset_said k answer resets.parts)) h'.driver.groups
    (world_at b k).adapter
    → MeetsEquations k (reset_said k answer resets.parts) a b h h'
reset-delivers k answer steps h h' a b resets leads gives right =
    let setup = h.driver.setup in
    let parts = resets.parts in
    let moves = frames-move k k steps a b leads in
    let happened = reset_said k answer parts in
    let whole = ap (λ (list : List AtomicStep). happened_in list) (sym resets.split) in
    record {
      plan_is_kept = record {
        wire = moves.wires;
        kinds = ap (λ (host : HostState). host.kinds) resets.again.host;
        layout = ap (λ (d : DriverState). d.layout) resets.again.driver;
        filter = right.filter;
        kilobytes = right.kilobytes;
      };
      sent_is_accepted = reset-sends k answer steps h h' a b resets leads gives;
      reached_is_put =
          ap (λ (list : List (List ℕ)). list ++ backlog_at b k)
          (reset-list (reached_by k) k answer setup parts refl refl refl ∙ ap (reached k) whole)
          ∙ moves.waits
          ∙ ap (λ (list : List (List ℕ)). backlog_at a k ++ list)
          (sym (reset-list (toward_by (wire_at a) k) k answer setup parts refl refl refl ∙ ap (toward (wire_at a) k) whole));
      stored_is_kept = reset-keeps k answer steps h h' a b resets gives;
      fates_are_right = right;
      misses_are_counted = reset-misses k answer steps h h' a b resets leads;
    }
