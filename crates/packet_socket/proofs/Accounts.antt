-- The account of frames in an interval, and in two consecutive intervals together.
use Rattle.std.proofs.Common.{◌≡◌, ◌+◌, ◌++◌, ℕ, cond, List, map, sym, ap, ◌∙◌}
use Rattle.std.proofs.Common.{append_assoc, arith}
use Rattle.std.specs.Prelude.{◌==◌}
use Rattle.std.specs.List.{filter}
use Rattle.std.proofs.lemmas.List.{map-append}
use Rattle.std.proofs.lemmas.List.Elements.{filter-append}
use Rattle.std.proofs.lemmas.List.Sums.{sum_by-append}
use Rattle.rx_filter.specs.Addresses.{ether_type}
use Rattle.adapter.specs.HostFrames.{frames_held}
use Rattle.adapter.specs.World.{World}
use Rattle.driver.specs.Growth.{GrowsBy}
use Rattle.packet_socket.specs.HostCalls.{Accounts, Given, given_for, held_for_socket, socket_frames, waiting_frames, without_socket}
use Rattle.packet_socket.specs.HostState.{HostState}
use Rattle.packet_socket.specs.SocketKinds.{goes_to, has_none}
use Rattle.packet_socket.specs.declared.socket_kind.SocketKind.{SocketKind}

pub for-append : (kinds : List SocketKind) (socket : ℕ) (xs ys : List (List ℕ))
    → socket_frames kinds socket (xs ++ ys) ≡ socket_frames kinds socket xs ++ socket_frames kinds socket ys
for-append kinds socket xs ys = filter-append (λ (frame : List ℕ). goes_to kinds socket (ether_type frame)) xs ys

pub without-append : (kinds : List SocketKind) (xs ys : List (List ℕ))
    → without_socket kinds (xs ++ ys) ≡ without_socket kinds xs + without_socket kinds ys
without-append kinds xs ys = sum_by-append (λ (frame : List ℕ). cond (has_none kinds (ether_type frame)) 1 0) xs ys

-- If the frames taken off the ring went to the queues or were counted, the account of frames holds.
pub accounts : (h : HostState) (a : World) (h' : HostState) (b : World) (given : List Given) (taken stored : List (List ℕ))
    → h'.kinds ≡ h.kinds
    → taken ++ frames_held h'.driver.oldest_receive b ≡ frames_held h.driver.oldest_receive a ++ stored
    → ((socket : ℕ) → given_for socket given ++ waiting_frames h' socket b ≡ waiting_frames h socket a
    ++ socket_frames h.kinds socket taken)
    → GrowsBy h.unclaimed h'.unclaimed (without_socket h.kinds taken) → Accounts h a h' b given stored
accounts h a h' b given taken stored kinds holds queues grows =
    let before = frames_held h.driver.oldest_receive a in
    let behind = frames_held h'.driver.oldest_receive b in
    let count : without_socket h.kinds taken + without_socket h'.kinds behind
    ≡ without_socket h.kinds before + without_socket h.kinds stored =
    ap (λ (k : List SocketKind). without_socket h.kinds taken + without_socket k behind) kinds
    ∙ sym (without-append h.kinds taken behind)
    ∙ ap (without_socket h.kinds) holds
    ∙ without-append h.kinds before stored in
    record {
      kinds = kinds;
      sockets = λ s.
          sym (append_assoc (given_for s given) (waiting_frames h' s b) (socket_frames h'.kinds s behind))
          ∙ ap (λ (list : List (List ℕ)). list ++ socket_frames h'.kinds s behind) (queues s)
          ∙ ap (λ (k : List SocketKind). (waiting_frames h s a ++ socket_frames h.kinds s taken) ++ socket_frames k s behind) kinds
          ∙ append_assoc (waiting_frames h s a) (socket_frames h.kinds s taken) (socket_frames h.kinds s behind)
          ∙ ap (λ (list : List (List ℕ)). waiting_frames h s a ++ list) (sym (for-append h.kinds s taken behind)
          ∙ ap (socket_frames h.kinds s) holds ∙ for-append h.kinds s before stored)
          ∙ sym (append_assoc (waiting_frames h s a) (socket_frames h.kinds s before) (socket_frames h.kinds s stored));
      least = grows.least;
      most = omega (arith, grows.most, count);
      exactly = λ below. let same = grows.exactly below in omega (arith, same, count);
    }

given-append : (socket : ℕ) (xs ys : List Given) → given_for socket (xs ++ ys) ≡ given_for socket xs ++ given_for socket ys
given-append socket xs ys =
    let frame : Given → List ℕ = λ one. one.frame in
    ap (map frame) (filter-append (λ (one : Given). one.socket == socket) xs ys)
    ∙ map-append frame (filter (λ (one : Given). one.socket == socket) xs) (filter (λ (one : Given). one.socket == socket) ys)

pub accounts-join : (h1 h2 h3 : HostState) (a b c : World) (given more : List Given) (stored later : List (List ℕ))
    → Accounts h1 a h2 b given stored → Accounts h2 b h3 c more later
    → Accounts h1 a h3 c (given ++ more) (stored ++ later)
accounts-join h1 h2 h3 a b c given more stored later one two =
    let also : without_socket h2.kinds later
    ≡ without_socket h1.kinds later = ap (λ (k : List SocketKind). without_socket k later) one.kinds in
    let sum = without-append h1.kinds stored later in
    record {
      kinds = two.kinds ∙ one.kinds;
      sockets = λ s.
          ap (λ (list : List (List ℕ)). list ++ held_for_socket h3 s c) (given-append s given more)
          ∙ append_assoc (given_for s given) (given_for s more) (held_for_socket h3 s c)
          ∙ ap (λ (list : List (List ℕ)). given_for s given ++ list) (two.sockets s
          ∙ ap (λ (k : List SocketKind). held_for_socket h2 s b ++ socket_frames k s later) one.kinds)
          ∙ sym (append_assoc (given_for s given) (held_for_socket h2 s b) (socket_frames h1.kinds s later))
          ∙ ap (λ (list : List (List ℕ)). list ++ socket_frames h1.kinds s later) (one.sockets s)
          ∙ append_assoc (held_for_socket h1 s a) (socket_frames h1.kinds s stored) (socket_frames h1.kinds s later)
          ∙ ap (λ (list : List (List ℕ)). held_for_socket h1 s a ++ list) (sym (for-append h1.kinds s stored later));
      least = omega (arith, one.least, two.least);
      most = omega (arith, one.most, two.most, also, sum);
      exactly = λ below.
          let behind = two.exactly below in
          let before = one.exactly (omega (arith, two.least, below)) in
          omega (arith, behind, before, also, sum);
    }
