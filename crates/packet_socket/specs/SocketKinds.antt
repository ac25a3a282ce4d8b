-- Which socket a frame goes to (our choice; the EtherType: IEEE 802.3, 3.2.6).
use Rattle.std.specs.Prelude.{◌==◌, ℕ, Bool, true, false, List, Option, None, Some, is_none, is_some, position}
use Rattle.packet_socket.specs.declared.socket_kind.SocketKind.{SocketKind}
use Rattle.packet_socket.specs.declared.socket_kind.SocketKind.TheVariants.{Ether, All}

-- whether a socket is an `Ether` socket of this EtherType
abbrev pub is_of_type : ℕ → SocketKind → Bool
is_of_type ether_type (Ether own) = own == ether_type
is_of_type ether_type All = false

-- whether a socket is an `All` socket
abbrev pub is_all : SocketKind → Bool
is_all (Ether own) = false
is_all All = true

-- the first socket number if there is one, else the second
abbrev pub number_or_else : Option ℕ → Option ℕ → Option ℕ
number_or_else (Some first) second = Some first
number_or_else None second = second

-- The socket of an EtherType: the first `Ether` socket of this EtherType in the table, else the first `All` socket,
-- else no socket.
abbrev pub socket_of : List SocketKind → ℕ → Option ℕ
socket_of kinds ether_type = number_or_else (position (is_of_type ether_type) kinds) (position is_all kinds)

-- whether a position was found, and is the number of this socket
abbrev pub is_position : ℕ → Option ℕ → Bool
is_position socket None = false
is_position socket (Some place) = place == socket

-- whether frames of an EtherType go to this socket
abbrev pub goes_to : List SocketKind → (socket ether_type : ℕ) → Bool
goes_to kinds socket ether_type = is_position socket (socket_of kinds ether_type)

-- whether any socket takes frames of this EtherType
abbrev pub has_socket : List SocketKind → ℕ → Bool
has_socket kinds ether_type = is_some (socket_of kinds ether_type)

-- whether no socket takes frames of this EtherType
abbrev pub has_none : List SocketKind → ℕ → Bool
has_none kinds ether_type = is_none (socket_of kinds ether_type)
