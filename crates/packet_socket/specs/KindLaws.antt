-- If a socket takes the frames of an EtherType, these frames go to this socket and to no other socket.
use Rattle.std.proofs.Common.{◌≡◌, ◌≢◌, inl, inr, true, false, ℕ, Some, List, refl, ap, ◌∙◌}
use Rattle.std.proofs.lemmas.Bool.{eq-eqb}
use Rattle.std.proofs.lemmas.Bool.Decides.{eqb_tells}
use Rattle.packet_socket.specs.SocketKinds.{goes_to, is_position, socket_of}
use Rattle.packet_socket.specs.declared.socket_kind.SocketKind.{SocketKind}

pub goes-there : (kinds : List SocketKind) (socket ether_type : ℕ) → socket_of kinds ether_type ≡ Some socket
    → goes_to kinds socket ether_type ≡ true
goes-there kinds socket ether_type is = ap (is_position socket) is ∙ eq-eqb socket socket refl

pub goes-nowhere-else : (kinds : List SocketKind) (socket other ether_type : ℕ) → socket_of kinds ether_type ≡ Some socket → socket ≢ other
    → goes_to kinds other ether_type ≡ false
goes-nowhere-else kinds socket other ether_type is differ =
    ap (is_position other) is ∙ elim (eqb_tells socket other) [ inl same ↦ absurd (differ same.1) | inr not ↦ not.0 ]
