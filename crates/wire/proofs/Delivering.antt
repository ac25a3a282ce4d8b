-- The equations of one host for one event, for no event, and for two consecutive intervals.
use Rattle.std.proofs.Common.{◌≡◌, ◌≤◌, ◌<◌, ◌+◌, ◌^◌, ◌++◌, [], ℕ, IsTrue, List, Option, cond}
use Rattle.std.proofs.Common.{map, refl, sym, ap, subst, ◌∙◌}
use Rattle.std.specs.List.{flat_map}
use Rattle.std.proofs.Common.{append_assoc, arith}
use Rattle.std.proofs.lemmas.List.{append-nil, append_cancel_right}
use Rattle.std.proofs.lemmas.List.Elements.{filter-append}
use Rattle.std.proofs.lemmas.List.Sums.{sum_by-append}
use Rattle.rx_filter.specs.Addresses.{ether_type}
use Rattle.descriptors.specs.Frames.{padded}
use Rattle.adapter.specs.HostFrames.{frames_held, frames_to_send}
use Rattle.adapter.specs.World.{World}
use Rattle.stations.specs.AtomicSteps.{AtomicStep}
use Rattle.stations.specs.Stations.{StationState, backlog_at, wire_at, world_at}
use Rattle.stations.specs.AtomicRuns.{LeadsTo, past_at}
use Rattle.packet_socket.specs.HostCalls.{Given, host_did, given_for, held_for_socket, socket_frames, waiting_frames, without_socket}
use Rattle.packet_socket.specs.HostState.{HostState}
use Rattle.packet_socket.specs.SocketKinds.{goes_to, has_none}
use Rattle.packet_socket.specs.declared.socket_kind.SocketKind.{SocketKind}
use Rattle.host_calls.proofs.Joining.{given-append, marks-append, missed-append, put-append, waits-append}
use Rattle.host_calls.proofs.Laws.{frames-move}
use Rattle.host_calls.proofs.Lists.{accepted-padded, goes-behind, goes-join, goes-without_drops}
use Rattle.host_calls.specs.Lists.{AreDue, HaveCome, holding_in_one, padded_in_one, sending_in_one}
use Rattle.host_calls.proofs.RightFates.{receives-append, receives-none}
use Rattle.host_calls.specs.Fates.{Mark, marks}
use Rattle.host_calls.specs.Happenings.{Happening, accepted, given, happened_in, missed, put, reached, stored, stored_by, toward}
use Rattle.host_calls.specs.Reception.{ReceivesRightly}
use Rattle.host_calls.specs.CallsOfHosts.{HostRuns}
use Rattle.wire.specs.Equations.{CountsMisses, MeetsEquations, KeepsCome, SendsDue, sum_of}
use Rattle.host_calls.specs.ConnectedHosts.{connected}
use Rattle.wire.proofs.GroupsInForce.{Right}

-- `CountsMisses`, by the driver's sum and MPC instead of the count of missed frames.
pub misses-of : (h : HostState) (a : World) (h' : HostState) (b : World) (misses : ℕ)
    → sum_of h' b ≤ sum_of h a + misses
    → (IsTrue h'.driver.exact → b.adapter.missed_packets < Rattle.registers.specs.Counting.greatest_count
    → IsTrue h.driver.exact × (a.adapter.missed_packets < Rattle.registers.specs.Counting.greatest_count)
    × (sum_of h' b ≡ sum_of h a + misses))
    → h.driver.missed ≤ h'.driver.missed
    → (IsTrue h.driver.exact → a.adapter.missed_packets + misses < Rattle.registers.specs.Counting.greatest_count
    → sum_of h a + misses < 2 ^ 64 → IsTrue h'.driver.exact × (sum_of h' b ≡ sum_of h a + misses))
    → CountsMisses h a misses h' b
misses-of h a h' b misses most exactly grows stays = record {
  at_most = omega (arith, most);
  stays = λ is small fits.
      let behind = stays is.exact small (omega (arith, fits)) in
      let sum = behind.1 in
      record { exact = behind.0; below_greatest = omega (arith, sum, small, grows); fits = omega (arith, sum, fits) };
  grows = grows;
  exactly = λ is.
      let before = exactly is.exact is.below_greatest in
      let fits = is.fits in
      let sum = before.2 in (
        record { exact = before.0; below_greatest = before.1; fits = omega (arith, fits, sum) },
        omega (arith, fits, sum),
      );
}

misses-join : (h1 h2 h3 : HostState) (a b c : World) (m n all : ℕ) → all ≡ m + n → CountsMisses h1 a m h2 b → CountsMisses h2 b n h3 c
    → CountsMisses h1 a all h3 c
misses-join h1 h2 h3 a b c m n all is one two = record {
  at_most = omega (arith, is, one.at_most, two.at_most);
  exactly = λ exact.
      let later = two.exactly exact in
      let first = one.exactly later.0 in
      (first.0, omega (arith, is, first.1, later.1));
  stays = λ exact small fits.
      let middle = one.stays exact (omega (arith, is, small)) (omega (arith, is, fits)) in
      let same = (one.exactly middle).1 in
      let grows = one.grows in
      let room = middle.fits in
      two.stays middle (omega (arith, is, small, fits, same, grows, room)) (omega (arith, is, fits, same, room));
  grows = let first = one.grows in let later = two.grows in omega (arith, first, later);
}

without-append : (kinds : List SocketKind) (xs ys : List (List ℕ))
    → without_socket kinds (xs ++ ys) ≡ without_socket kinds xs + without_socket kinds ys
without-append kinds xs ys = sum_by-append (λ (frame : List ℕ). cond (has_none kinds (ether_type frame)) 1 0) xs ys

frames-append : (kinds : List SocketKind) (socket : ℕ) (xs ys : List (List ℕ))
    → socket_frames kinds socket (xs ++ ys) ≡ socket_frames kinds socket xs ++ socket_frames kinds socket ys
frames-append kinds socket xs ys = filter-append (λ (frame : List ℕ). goes_to kinds socket (ether_type frame)) xs ys

pub in-turn : (p q m n o g h : List (List ℕ)) → p ++ m ≡ o ++ g → q ++ n ≡ m ++ h → (p ++ q) ++ n ≡ o ++ (g ++ h)
in-turn p q m n o g h one two =
    append_assoc p q n
    ∙ ap (λ (list : List (List ℕ)). p ++ list) two
    ∙ sym (append_assoc p m h)
    ∙ ap (λ (list : List (List ℕ)). list ++ h) one
    ∙ append_assoc o g h

-- Frames due

sends-join : (k : ℕ) (first later : List Happening) (a b c : World) → SendsDue k first a b → SendsDue k later b c
    → SendsDue k (first ++ later) a c
sends-join k first later a b c one two = record {
  due = put k first ++ two.due;
  are = goes-join (padded_in_one k) (sending_in_one k) (frames_to_send a) (put k first ++ frames_to_send b) (put k first ++ two.due)
      first later (subst (AreDue k (frames_to_send a) first) (sym one.sent) one.are)
      (goes-behind (padded_in_one k) (sending_in_one k) (put k first) (frames_to_send b) two.due later two.are);
  sent =
      ap (λ (frames : List (List ℕ)). frames ++ frames_to_send c) (put-append k first later)
      ∙ append_assoc (put k first) (put k later) (frames_to_send c)
      ∙ ap (λ (frames : List (List ℕ)). put k first ++ frames) two.sent;
}

-- Frames that have come

given-taken : (k : ℕ) (happened : List Happening) (h : HostState) (a : World) (h' : HostState) (b : World) → h'.kinds ≡ h.kinds
    → (keeps : KeepsCome k happened h a h' b) → (socket : ℕ)
    → given k socket happened ++ waiting_frames h' socket b ≡ waiting_frames h socket a ++ socket_frames h.kinds socket keeps.taken
given-taken k happened h a h' b kinds keeps s =
    let left = frames_held h'.driver.oldest_receive b in
    append_cancel_right (given k s happened ++ waiting_frames h' s b) (waiting_frames h s a ++ socket_frames h.kinds s keeps.taken)
    (socket_frames h.kinds s left)
    (append_assoc (given k s happened) (waiting_frames h' s b) (socket_frames h.kinds s left)
    ∙ ap (λ (own : List SocketKind). given k s happened ++ (waiting_frames h' s b ++ socket_frames own s left)) (sym kinds)
    ∙ keeps.given_is_kept s
    ∙ ap (λ (frames : List (List ℕ)). waiting_frames h s a ++ socket_frames h.kinds s frames) keeps.took
    ∙ ap (λ (frames : List (List ℕ)). waiting_frames h s a ++ frames) (frames-append h.kinds s keeps.taken left)
    ∙ sym (append_assoc (waiting_frames h s a) (socket_frames h.kinds s keeps.taken) (socket_frames h.kinds s left)))

come-join : (k : ℕ) (first later : List Happening) (h1 h2 h3 : HostState) (a b c : World) → h2.kinds ≡ h1.kinds
    → KeepsCome k first h1 a h2 b → KeepsCome k later h2 b h3 c → KeepsCome k (first ++ later) h1 a h3 c
come-join k first later h1 h2 h3 a b c kinds one two =
    let held1 = frames_held h1.driver.oldest_receive a in
    let held2 = frames_held h2.driver.oldest_receive b in
    let held3 = frames_held h3.driver.oldest_receive c in
    let all = one.taken ++ two.came in
    let before = one.unclaimed_is_counted in
    let after = two.unclaimed_is_counted in
    let split1 : without_socket h1.kinds one.came ≡ without_socket h1.kinds one.taken + without_socket h2.kinds held2 =
    ap (without_socket h1.kinds) one.took ∙ without-append h1.kinds one.taken held2
    ∙ ap (λ (own : List SocketKind). without_socket h1.kinds one.taken + without_socket own held2) (sym kinds) in
    let split2 : without_socket h1.kinds all ≡ without_socket h1.kinds one.taken + without_socket h2.kinds two.came =
    without-append h1.kinds one.taken two.came
    ∙ ap (λ (own : List SocketKind). without_socket h1.kinds one.taken + without_socket own two.came) (sym kinds) in
    record {
      came = all;
      have_come = goes-join (stored_by k) (holding_in_one k) held1 (one.taken ++ held2) all first later
          (subst (HaveCome k held1 first) one.took one.have_come)
          (goes-behind (stored_by k) (holding_in_one k) one.taken held2 two.came later two.have_come);
      taken = one.taken ++ two.taken;
      took = ap (λ (frames : List (List ℕ)). one.taken ++ frames) two.took ∙ sym (append_assoc one.taken two.taken held3);
      given_is_kept = λ s.
          ap (λ (frames : List (List ℕ)). frames ++ held_for_socket h3 s c) (given-append k s first later)
          ∙ in-turn (given k s first) (given k s later) (waiting_frames h2 s b) (held_for_socket h3 s c) (waiting_frames h1 s a)
          (socket_frames h1.kinds s one.taken) (socket_frames h1.kinds s two.came) (given-taken k first h1 a h2 b kinds one s)
          (two.given_is_kept s
          ∙ ap (λ (own : List SocketKind). waiting_frames h2 s b ++ socket_frames own s two.came) kinds)
          ∙ ap (λ (frames : List (List ℕ)). waiting_frames h1 s a ++ frames) (sym (frames-append h1.kinds s one.taken two.came));
      unclaimed_is_counted = record {
        least = omega (arith, before.least, after.least);
        most = omega (arith, split1, split2, before.most, after.most);
        exactly = λ below.
            let last = after.exactly below in
            let least = after.least in
            let start = before.exactly (omega (arith, below, least)) in
            omega (arith, split1, split2, start, last);
      };
    }

pub delivers-join : (k : ℕ) (first later : List Happening) (a b c : List StationState) (h1 h2 h3 : HostState)
    → ((host : ℕ) → wire_at b host ≡ wire_at a host)
    → MeetsEquations k first a b h1 h2 → MeetsEquations k later b c h2 h3 → MeetsEquations k (first ++ later) a c h1 h3
delivers-join k first later a b c h1 h2 h3 wires one two =
    let plan = one.plan_is_kept in
    let next = two.plan_is_kept in
    let right =
    subst (λ (all : List Mark). ReceivesRightly h1.driver.groups (world_at a k).adapter all h3.driver.groups (world_at c k).adapter)
    (sym (marks-append k first later))
    (receives-append h1.driver.groups h2.driver.groups h3.driver.groups (world_at a k).adapter (world_at b k).adapter (world_at c k).adapter
    (marks k first) (marks k later) one.fates_are_right two.fates_are_right) in
    record {
      plan_is_kept = record {
        wire = next.wire ∙ plan.wire;
        kinds = next.kinds ∙ plan.kinds;
        layout = next.layout ∙ plan.layout;
        filter = right.filter;
        kilobytes = right.kilobytes;
      };
      sent_is_accepted =
          sends-join k first later (world_at a k) (world_at b k) (world_at c k) one.sent_is_accepted two.sent_is_accepted;
      reached_is_put = waits-append k (wire_at a) (wire_at b) first later (backlog_at a k) (backlog_at b k) (backlog_at c k) wires
          one.reached_is_put two.reached_is_put;
      stored_is_kept =
          come-join k first later h1 h2 h3 (world_at a k) (world_at b k) (world_at c k) plan.kinds one.stored_is_kept two.stored_is_kept;
      fates_are_right = right;
      misses_are_counted =
          misses-join h1 h2 h3 (world_at a k) (world_at b k) (world_at c k) (missed k first) (missed k later) (missed k (first ++ later))
          (missed-append k first later) one.misses_are_counted two.misses_are_counted;
    }

-- The lists of host k in `happened` agree with the atomic steps, and with the frames that the host returned and
-- accepted.
pub record Tells (k : ℕ) (happened : List Happening) (steps : List AtomicStep) (wires : ℕ → Option ℕ) (given_are : List Given)
    (accepted_are : List (List ℕ)) : Type 0 where
  pub put : put k happened ≡ put k (happened_in steps)
  pub reached : reached k happened ≡ reached k (happened_in steps)
  pub toward : toward wires k happened ≡ toward wires k (happened_in steps)
  pub stored : stored k happened ≡ stored k (happened_in steps)
  pub missed : missed k happened ≡ missed k (happened_in steps)
  -- no frame was dropped by a reset
  pub sending : flat_map (sending_in_one k) happened ≡ []
  pub holding : flat_map (holding_in_one k) happened ≡ []
  pub accepted : map padded (accepted k happened) ≡ accepted_are
  pub given : (socket : ℕ) → given k socket happened ≡ given_for socket given_are

-- `MeetsEquations` for one event, by what the host did in its steps.
pub delivers-runs : (caller k : ℕ) (steps : List AtomicStep) (happened : List Happening) (a b : List StationState) (h h' : HostState)
    (taken : List (List ℕ)) (given_are : List Given) (accepted_are : List (List ℕ))
    → LeadsTo caller steps a b → Right k happened a b h h'
    → HostRuns k steps (host_did taken given_are accepted_are) (connected h a) (connected h' b)
    → Tells k happened steps (wire_at a) given_are accepted_are
    → MeetsEquations k happened a b h h'
delivers-runs caller k steps happened a b h h' taken given_are accepted_are leads right runs tells =
    let moves = frames-move caller k steps a b leads in
    let flows = runs.flows.driver in
    let accounts = runs.flows.accounts in
    let past = past_at k steps in
    let stored_are : stored k happened ≡ past.stored = tells.stored ∙ moves.stored in
    let missed_are : missed k happened ≡ past.missed = tells.missed ∙ moves.missed in
    let sends = frames_to_send (world_at a k) in
    let held = frames_held h.driver.oldest_receive (world_at a k) in
    let came = held ++ past.stored in
    let count = without-append h.kinds held past.stored in
    record {
      plan_is_kept = record {
        wire = moves.wires;
        kinds = accounts.kinds;
        layout = flows.layout;
        filter = right.right.filter;
        kilobytes = right.right.kilobytes;
      };
      sent_is_accepted = record {
        due = sends ++ accepted_are;
        are = (goes-without_drops (padded_in_one k) (sending_in_one k) sends (sends ++ accepted_are) happened tells.sending).1
            (ap (λ (frames : List (List ℕ)). sends ++ frames) (sym tells.accepted ∙ sym (accepted-padded k happened)));
        sent = ap (λ (frames : List (List ℕ)). frames ++ frames_to_send (world_at b k)) (tells.put ∙ moves.put) ∙ flows.sends;
      };
      reached_is_put =
          ap (λ (frames : List (List ℕ)). frames ++ backlog_at b k) tells.reached
          ∙ moves.waits
          ∙ ap (λ (frames : List (List ℕ)). backlog_at a k ++ frames) (sym tells.toward);
      stored_is_kept = record {
        came = came;
        have_come = (goes-without_drops (stored_by k) (holding_in_one k) held came happened tells.holding).1
            (ap (λ (frames : List (List ℕ)). held ++ frames) (sym stored_are));
        taken = taken;
        took = sym flows.holds;
        given_is_kept = λ socket.
            ap (λ (frames : List (List ℕ)). frames ++ held_for_socket h' socket (world_at b k)) (tells.given socket)
            ∙ accounts.sockets socket
            ∙ append_assoc (waiting_frames h socket (world_at a k)) (socket_frames h.kinds socket held)
            (socket_frames h.kinds socket past.stored)
            ∙ ap (λ (frames : List (List ℕ)). waiting_frames h socket (world_at a k) ++ frames)
            (sym (frames-append h.kinds socket held past.stored));
        unclaimed_is_counted = record {
          least = accounts.least;
          most = let most = accounts.most in omega (arith, most, count);
          exactly = λ below. let same = accounts.exactly below in omega (arith, same, count);
        };
      };
      fates_are_right = right.right;
      misses_are_counted =
          misses-of h (world_at a k) h' (world_at b k) (missed k happened)
          (let most = flows.misses.at_most in omega (arith, most, missed_are))
          (λ exact below.
          let exactly = flows.misses.exactly exact below in
          let sum = exactly.sum in
          (exactly.exact, exactly.below_greatest, omega (arith, sum, missed_are)))
          flows.misses.sum
          (λ exact small fits.
          let stays = flows.misses.stays_exact exact (omega (arith, small, missed_are)) (omega (arith, fits, missed_are)) in
          let sum = flows.misses.counted (omega (arith, small, missed_are)) (omega (arith, fits, missed_are)) in
          (stays, omega (arith, sum, missed_are)));
    }

pub delivers-none : (k : ℕ) (a : List StationState) (h : HostState) → MeetsEquations k [] a a h h
delivers-none k a h = record {
  plan_is_kept = record { wire = refl; kinds = refl; layout = refl; filter = refl; kilobytes = refl };
  sent_is_accepted = record { due = frames_to_send (world_at a k); are = refl; sent = refl };
  reached_is_put = sym (append-nil (backlog_at a k));
  stored_is_kept = record {
    came = frames_held h.driver.oldest_receive (world_at a k);
    have_come = refl;
    taken = [];
    took = refl;
    given_is_kept = λ socket. refl;
    unclaimed_is_counted = record { least = omega arith; most = omega arith; exactly = λ below. omega arith };
  };
  fates_are_right = receives-none h.driver.groups (world_at a k).adapter;
  misses_are_counted = record {
    at_most = omega arith;
    exactly = λ exact. (exact, omega arith);
    stays = λ exact small fits. exact;
    grows = omega arith;
  };
}
