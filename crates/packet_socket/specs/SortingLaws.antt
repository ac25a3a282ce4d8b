-- Laws of sockets that sort frames: no frame, one frame, and two consecutive intervals.
use Rattle.std.proofs.Common.{◌≡◌, ◌+◌, ◌-◌, ◌<◌, ◌++◌, ◌∷◌, [], ℕ, cond, Option, Some, None, List, length, min, refl, sym}
use Rattle.std.proofs.Common.{ap, subst, ◌∙◌, append_assoc, length-append, arith}
use Rattle.std.specs.List.{slice_set}
use Rattle.std.specs.List.Sorted.{IsPermutation}
use Rattle.std.specs.Option.{is_none, is_some}
use Rattle.std.proofs.lemmas.List.{append-nil, length-set}
use Rattle.std.proofs.lemmas.List.Elements.{filter-append}
use Rattle.std.proofs.lemmas.List.Sorted.{IsPermutation-append_left, IsPermutation-refl, IsPermutation-trans, length_permutation}
use Rattle.std.proofs.lemmas.List.Sums.{sum_by-append, sum_by-cons}
use Rattle.driver.specs.Growth.{grows-join, grows-none}
use Rattle.driver.specs.Growth.{GrowsBy, count_limit}
use Rattle.driver.specs.declared.receiver.Received.{Received}
use Rattle.packet_socket.specs.SocketKinds.{goes_to, has_none, has_socket, socket_of}
use Rattle.packet_socket.specs.HostCalls.{Queues, claimed_of, socket_entries, unclaimed_of}
use Rattle.packet_socket.specs.HostState.{SocketsState, all_of, queue_at}
use Rattle.packet_socket.specs.Sorting.{Sorts}
use Rattle.packet_socket.specs.declared.socket_kind.SocketKind.{SocketKind}
use Rattle.packet_socket.specs.QueueLaws.{queue-within, queues-pushed}

-- Counts that saturate

grows-one : (a b : ℕ) → a < count_limit → b ≡ min (a + 1) (count_limit - 1) → GrowsBy a b 1
grows-one a b fits is = record
    { least = omega (arith, fits, is); most = omega (arith, fits, is); exactly = λ below. omega (arith, fits, is, below) }

-- Frames of sockets

pub unclaimed-append : (kinds : List SocketKind) (xs ys : List Received)
    → unclaimed_of kinds (xs ++ ys) ≡ unclaimed_of kinds xs + unclaimed_of kinds ys
unclaimed-append kinds xs ys = sum_by-append (λ (received : Received). cond (has_none kinds received.ether_type) 1 0) xs ys

unclaimed-one : (kinds : List SocketKind) (received : Received) (count : ℕ) → cond (has_none kinds received.ether_type) 1 0 ≡ count
    → unclaimed_of kinds (received ∷ []) ≡ count
unclaimed-one kinds received count is = omega
    (arith, is, sum_by-cons (λ (r : Received). cond (has_none kinds r.ether_type) 1 0) received [])

-- No frame

pub queues-stay : (kinds : List SocketKind) (queues : List (List Received)) → Queues kinds queues queues []
queues-stay kinds queues = record {
  ends = λ socket. sym (append-nil (queue_at queues socket));
  all = subst (λ (list : List Received). IsPermutation list (all_of queues)) (sym (append-nil (all_of queues)))
      (IsPermutation-refl (all_of queues));
}

pub sorts_stays : (sockets : SocketsState) → Sorts sockets sockets [] []
sorts_stays sockets = record {
  kinds = refl;
  room = refl;
  count = refl;
  claimed = refl;
  unclaimed = grows-none sockets.unclaimed;
  queues = λ fits. queues-stay sockets.kinds sockets.queues;
}

-- Two consecutive intervals

pub queues-join : (kinds : List SocketKind) (a b c : List (List Received)) (kept more : List Received) → Queues kinds a b kept
    → Queues kinds b c more → Queues kinds a c (kept ++ more)
queues-join kinds a b c kept more one two = record {
  ends = λ socket.
      two.ends socket
      ∙ ap (λ (list : List Received). list ++ socket_entries kinds socket more) (one.ends socket)
      ∙ append_assoc (queue_at a socket) (socket_entries kinds socket kept) (socket_entries kinds socket more)
      ∙ ap (λ (list : List Received). queue_at a socket ++ list)
      (sym (filter-append (λ (received : Received). goes_to kinds socket received.ether_type) kept more));
  all =
      subst (λ (list : List Received). IsPermutation list (all_of c)) (append_assoc (all_of a) kept more)
      (IsPermutation-trans ((all_of a ++ kept) ++ more) (all_of b ++ more) (all_of c)
      (IsPermutation-append_left more (all_of a ++ kept) (all_of b) one.all) two.all);
}

pub sorts_join : (a b c : SocketsState) (shown kept later more : List Received) → Sorts a b shown kept → Sorts b c later more
    → Sorts a c (shown ++ later) (kept ++ more)
sorts_join a b c shown kept later more one two = record {
  kinds = two.kinds ∙ one.kinds;
  room = two.room ∙ one.room;
  count = two.count ∙ one.count;
  claimed =
      ap (λ (list : List Received). list ++ more) one.claimed
      ∙ ap (λ (list : List Received). claimed_of a.kinds shown ++ list) (two.claimed
      ∙ ap (λ (kinds : List SocketKind). claimed_of kinds later) one.kinds)
      ∙ sym (filter-append (λ (received : Received). has_socket a.kinds received.ether_type) shown later);
  unclaimed =
      subst (GrowsBy a.unclaimed c.unclaimed) (sym (unclaimed-append a.kinds shown later))
      (grows-join a.unclaimed b.unclaimed c.unclaimed (unclaimed_of a.kinds shown) (unclaimed_of a.kinds later) one.unclaimed
      (subst (λ (kinds : List SocketKind). GrowsBy b.unclaimed c.unclaimed (unclaimed_of kinds later)) one.kinds two.unclaimed));
  queues = λ fits.
      let first = one.queues (omega (arith, fits, length-append kept more)) in
      let second = two.queues
      (omega (
        arith,
        fits,
        length-append kept more,
        one.room,
        length_permutation (all_of a.queues ++ kept)
            (all_of b.queues) first.all,
        length-append (all_of a.queues) kept,
      )) in
      queues-join a.kinds a.queues b.queues c.queues kept more first
      (subst (λ (kinds : List SocketKind). Queues kinds b.queues c.queues more) one.kinds second);
}

-- One frame

pub sorts-kept : (kinds : List SocketKind) (queues : List (List Received)) (room unclaimed socket : ℕ) (received : Received)
    (queue : List Received)
    → socket_of kinds received.ether_type ≡ Some socket → socket < length queues
    → (length (queue_at queues socket) < room → queue ≡ queue_at queues socket ++ received ∷ [])
    → Sorts (record { kinds = kinds; queues = queues; room = room; unclaimed = unclaimed })
    (record { kinds = kinds; queues = slice_set queues socket queue; room = room; unclaimed = unclaimed })
    (received ∷ []) (received ∷ [])
sorts-kept kinds queues room unclaimed socket received queue is there pushed = record {
  kinds = refl;
  room = refl;
  count = length-set queues socket queue;
  claimed = ap (λ (place : Option ℕ). cond (is_some place) (received ∷ []) []) (sym is);
  unclaimed = subst (GrowsBy unclaimed unclaimed)
      (sym (unclaimed-one kinds received 0 (ap (λ (place : Option ℕ). cond (is_none place) 1 0) is))) (grows-none unclaimed);
  queues = λ fits.
      let new : queue ≡ queue_at queues socket ++ received ∷ [] = pushed (omega (arith, fits, queue-within queues socket)) in
      subst (λ (list : List Received). Queues kinds queues (slice_set queues socket list) (received ∷ [])) (sym new)
      (queues-pushed kinds queues socket received there is);
}

pub sorts-counted : (sockets : SocketsState) (unclaimed : ℕ) (received : Received) → socket_of sockets.kinds received.ether_type ≡ None
    → sockets.unclaimed < count_limit → unclaimed ≡ min (sockets.unclaimed + 1) (count_limit - 1)
    → Sorts sockets (record sockets { unclaimed = unclaimed }) (received ∷ []) []
sorts-counted sockets unclaimed received is fits more = record {
  kinds = refl;
  room = refl;
  count = refl;
  claimed = ap (λ (place : Option ℕ). cond (is_some place) (received ∷ []) []) (sym is);
  unclaimed = subst (GrowsBy sockets.unclaimed unclaimed)
      (sym (unclaimed-one sockets.kinds received 1 (ap (λ (place : Option ℕ). cond (is_none place) 1 0) is)))
      (grows-one sockets.unclaimed unclaimed fits more);
  queues = λ fits. queues-stay sockets.kinds sockets.queues;
}
