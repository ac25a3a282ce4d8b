-- Laws of queues to which frames are appended.
use Rattle.std.proofs.Common.{◌≡◌, inl, inr, ◌≤◌, ◌<◌, ◌++◌, ◌∷◌, [], ℕ, zero, suc, Bool, cond, Some, List, length}
use Rattle.std.proofs.Common.{sym, ap, subst, ◌∙◌, append_assoc, length-append, arith}
use Rattle.std.specs.List.{slice_set}
use Rattle.std.specs.List.Sorted.{IsPermutation}
use Rattle.std.proofs.lemmas.Bool.Decides.{eqb_tells}
use Rattle.std.proofs.lemmas.List.{append-nil, get_or-set_same, get_or-set_other}
use Rattle.std.proofs.lemmas.List.Sorted.{IsPermutation-append_right, IsPermutation-to_front}
use Rattle.driver.specs.declared.receiver.Received.{Received}
use Rattle.packet_socket.specs.SocketKinds.{socket_of}
use Rattle.packet_socket.specs.HostCalls.{Queues, socket_entries}
use Rattle.packet_socket.specs.HostState.{all_of, queue_at}
use Rattle.packet_socket.specs.declared.socket_kind.SocketKind.{SocketKind}
use Rattle.packet_socket.specs.KindLaws.{goes-there, goes-nowhere-else}

-- The number of frames in a queue is at most the number of frames in all queues.
pub queue-within : (queues : List (List Received)) (socket : ℕ) → length (queue_at queues socket) ≤ length (all_of queues)
queue-within [] socket = omega arith
queue-within (queue ∷ later) zero = omega (arith, length-append queue (all_of later))
queue-within (queue ∷ later) (suc socket) = omega (arith, queue-within later socket, length-append queue (all_of later))

-- If a frame is appended to a queue, all queues together contain this frame in addition to the earlier frames.
pub all-pushed : (queues : List (List Received)) (socket : ℕ) (received : Received) → socket < length queues
    → IsPermutation (all_of queues ++ received ∷ []) (all_of (slice_set queues socket (queue_at queues socket ++ received ∷ [])))
all-pushed [] socket received below = absurd (omega (arith, below))
all-pushed (queue ∷ later) zero received below =
    let moved = IsPermutation-append_right queue (all_of later ++ received ∷ []) (received ∷ all_of later)
    (IsPermutation-to_front (all_of later) received) in
    subst (λ (list : List Received). IsPermutation list ((queue ++ received ∷ []) ++ all_of later))
    (sym (append_assoc queue (all_of later) (received ∷ [])))
    (subst (IsPermutation (queue ++ (all_of later ++ received ∷ []))) (sym (append_assoc queue (received ∷ []) (all_of later))) moved)
all-pushed (queue ∷ later) (suc socket) received below =
    let there : socket < length later = omega (arith, below) in
    let rest = all_of (slice_set later socket (queue_at later socket ++ received ∷ [])) in
    subst (λ (list : List Received). IsPermutation list (queue ++ rest)) (sym (append_assoc queue (all_of later) (received ∷ [])))
    (IsPermutation-append_right queue (all_of later ++ received ∷ []) rest (all-pushed later socket received there))

-- If a frame goes to the end of its socket's queue, `Queues` holds for this frame.
pub queues-pushed : (kinds : List SocketKind) (queues : List (List Received)) (socket : ℕ) (received : Received) → socket < length queues
    → socket_of kinds received.ether_type ≡ Some socket
    → Queues kinds queues (slice_set queues socket (queue_at queues socket ++ received ∷ [])) (received ∷ [])
queues-pushed kinds queues socket received there is =
    let pushed = queue_at queues socket ++ received ∷ [] in
    let one : Bool → List Received = λ goes. cond goes (received ∷ []) [] in
    record {
      ends = λ other.
          elim (eqb_tells socket other) [
            | inl same ↦
                subst (λ (t : ℕ). queue_at (slice_set queues socket pushed) t
                ≡ queue_at queues t ++ socket_entries kinds t (received ∷ [])) same.1
                (get_or-set_same queues socket pushed [] there
                ∙ ap (λ (goes : Bool). queue_at queues socket ++ one goes) (sym (goes-there kinds socket received.ether_type is)))
            | inr differ ↦
                get_or-set_other queues socket other pushed [] (λ same. differ.1 (sym same))
                ∙ sym (append-nil (queue_at queues other))
                ∙ ap (λ (goes : Bool). queue_at queues other ++ one goes)
                (sym (goes-nowhere-else kinds socket other received.ether_type is differ.1))
          ];
      all = all-pushed queues socket received there;
    }
