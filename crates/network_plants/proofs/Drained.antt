-- Drains of one host from one state are alike.
use Rattle.std.proofs.Common.{◌≡◌, ◌≢◌, ◌<◌, ℕ, List, [], ◌∷◌, None, Option, Some, ap}
use Rattle.std.proofs.Common.{inl, inr, length, refl, slice_get, subst, suc, sym, zero, ◌∙◌, arith}
use Rattle.std.proofs.lemmas.Option.{slice_get_cases, slice_get_within}
use Rattle.adapter.specs.HostFrames.{frames_to_send}
use Rattle.host_calls.specs.DrainedHosts.{HoldsNothing}
use Rattle.host_calls.specs.Networks.{IsHost, NetworkState}
use Rattle.packet_socket.specs.HostCalls.{Given, given_for, held_for_socket}
use Rattle.packet_socket.specs.HostState.{HostState}
use Rattle.stations.specs.Stations.{backlog_at, world_at}
use Rattle.wire.specs.DrainedNetworks.{NetworkDrains}
use Rattle.wire.specs.Equations.{missed_count}
use Rattle.network_plants.specs.Alike.{DrainsAreAlike, Outlets}

-- the frames that a host holds for a socket; no frame if the host doesn't exist
held-in : NetworkState → (host socket : ℕ) → Option HostState → List (List ℕ)
held-in network host socket None = []
held-in network host socket (Some h) = held_for_socket h socket (world_at network.stations host)

-- The parts of a drain's outcome that the network before the drain determines.
record Leaves (old : NetworkState) (host : ℕ) (given : List Given) (new : NetworkState) : Type 0 where
  given_for : (socket : ℕ) → given_for socket given ≡ held-in old host socket (slice_get old.hosts host)
  nothing : (h : HostState) → IsHost new host h → HoldsNothing h (world_at new.stations host)
  to_send : frames_to_send (world_at new.stations host) ≡ frames_to_send (world_at old.stations host)
  lines : (k : ℕ) → backlog_at new.stations k ≡ backlog_at old.stations k
  worlds : (k : ℕ) → k ≢ host → world_at new.stations k ≡ world_at old.stations k
  was : (h : HostState) → IsHost new host h → (before : HostState) × (slice_get old.hosts host ≡ Some before)
      × (missed_count h (world_at new.stations host) ≡ missed_count before (world_at old.stations host))

there-is : {X : Type 0} (xs : List X) (k : ℕ) → k < length xs → (x : X) × (slice_get xs k ≡ Some x)
there-is [] k below = absurd (omega (arith, below))
there-is (x ∷ xs) zero below = (x, refl)
there-is (x ∷ xs) (suc k) below = there-is xs k (omega (arith, below))

leaves : (old : NetworkState) (host steps : ℕ) (before after : List Given) (new : NetworkState)
    (drained : NetworkDrains old host steps before after new) → Leaves old host drained.given new
unfolding held-in
leaves old host steps before after new drained = elim (slice_get_cases old.hosts host).1 [
  | inl there ↦
      let count = drained.others.count in
      let within = there.1 in
      let now = there-is new.hosts host (omega (arith, count, within)) in
      let drains = drained.drains there.0 now.0 there.2 now.1 in
      record {
        given_for = λ socket. rw there.2 (drains.all_given socket);
        nothing = λ h is.
            let after_it = drained.drains there.0 h there.2 is in
            after_it.nothing_left;
        to_send = drains.keeps.to_send;
        lines = drains.keeps.lines;
        worlds = drains.keeps.others;
        was = λ h is.
            let counts = drained.counts there.0 h there.2 is in
            (there.0, there.2, counts.counted);
      }
  | inr past ↦
      let none = drained.absent past.0 in
      record {
        given_for = λ socket. rw (past.1, none.1) refl;
        nothing = λ h is.
            let within = slice_get_within new.hosts host h is in
            let count = drained.others.count in
            let far = past.0 in
            absurd (omega (arith, within, count, far));
        to_send = ap (λ (network : NetworkState). frames_to_send (world_at network.stations host)) none.2;
        lines = λ k. ap (λ (network : NetworkState). backlog_at network.stations k) none.2;
        worlds = λ k other. ap (λ (network : NetworkState). world_at network.stations k) none.2;
        was = λ h is.
            let within = slice_get_within new.hosts host h is in
            let count = drained.others.count in
            let far = past.0 in
            absurd (omega (arith, within, count, far));
      }
]

same-before : (old : NetworkState) (host : ℕ) (x y : HostState) → slice_get old.hosts host ≡ Some x → slice_get old.hosts host ≡ Some y
    → x ≡ y
same-before old host x y is is' = let both : Some x ≡ Some y = sym is ∙ is' in cc

pub drains-alike : (old : NetworkState) (host m n : ℕ) (a b : Outlets) (one other : NetworkState)
    → NetworkDrains old host m a.before a.after one → NetworkDrains old host n b.before b.after other
    → DrainsAreAlike host a b one other
drains-alike old host m n a b one other x y =
    let left = leaves old host m a.before a.after one x in
    let right = leaves old host n b.before b.after other y in
    record {
      first = record { frames = x.given; appended = x.appended };
      second = record { frames = y.given; appended = y.appended };
      given = λ socket. left.given_for socket ∙ sym (right.given_for socket);
      nothing = left.nothing;
      to_send = left.to_send ∙ sym right.to_send;
      lines = λ k. left.lines k ∙ sym (right.lines k);
      hosts = λ k else. x.others.same k else ∙ sym (y.others.same k else);
      worlds = λ k else. left.worlds k else ∙ sym (right.worlds k else);
      counts = λ h h' is is'.
          let p = left.was h is in
          let q = right.was h' is' in
          p.2 ∙ (ap (λ (state : HostState). missed_count state (world_at old.stations host)) (same-before old host p.0 q.0 p.1 q.1)
          ∙ sym q.2);
    }

pub drains-alike-from : (old old' : NetworkState) (host m n : ℕ) (a b : Outlets) (one other : NetworkState) → old ≡ old'
    → NetworkDrains old host m a.before a.after one → NetworkDrains old' host n b.before b.after other
    → DrainsAreAlike host a b one other
drains-alike-from old old' host m n a b one other same x y =
    drains-alike old host m n a b one other x
    (subst (λ (start : NetworkState). NetworkDrains start host n b.before b.after other) (sym same) y)
