-- Which words spell an address, a frame, an EtherType or the frames of a socket, and what they spell (our choice).
use Rattle.std.specs.Prelude.{◌≤◌, ◌+◌, ◌*◌, ℕ, List, [], ◌∷◌, Option, Some, None, if◌then◌else◌}
use Rattle.std.specs.Prelude.{IsOk, ◌==◌, codes, Ok, Err, Result, length, map, slice_index}
use Rattle.std.specs.Option.{option_map}
use Rattle.std.specs.Str.{bytes_eq}
use Rattle.text.specs.Addresses.{SpellsAddress, hexadecimal_value}
use Rattle.text.specs.Numbers.{number_in}
use Rattle.hex.specs.Hex.{decode_of}
use Rattle.hex.specs.declared.error.FromHexError.{FromHexError}
use Rattle.packet_socket.specs.declared.socket_kind.SocketKind.{SocketKind}
use Rattle.packet_socket.specs.declared.socket_kind.SocketKind.TheVariants as socket
use Rattle.scenario.specs.Words.{Text}

-- the byte whose two hexadecimal digits begin at this place of a text
abbrev pub byte_at : Text → ℕ → ℕ
byte_at text place = hexadecimal_value (slice_index text place) * 16 + hexadecimal_value (slice_index text (place + 1))

-- the six bytes of an address: each byte has two hexadecimal digits, and a colon is between two bytes
abbrev pub address_in : Text → List ℕ
address_in text = map (byte_at text) (0 ∷ 3 ∷ 6 ∷ 9 ∷ 12 ∷ 15 ∷ [])

-- The text is six pairs of hexadecimal digits joined by colons.
abbrev pub IsAddressText : Text → Type 0
IsAddressText text = SpellsAddress text (address_in text)

-- the maximum number of hexadecimal digits of a frame
abbrev pub most_frame_digits : ℕ
most_frame_digits = 8000

-- the bytes of a result; no bytes for an error
abbrev pub bytes_or_none : Result (List ℕ) FromHexError → List ℕ
bytes_or_none (Ok bytes) = bytes
bytes_or_none (Err fault) = []

-- the bytes that a text of hexadecimal digits spells, two digits a byte; no bytes if the text isn't an even number of
-- such digits
abbrev pub frame_in : Text → List ℕ
frame_in text = bytes_or_none (decode_of text)

-- The text is an even number of hexadecimal digits, at most 8,000.
pub record IsFrame (text : Text) : Type 0 where
  pub size : length text ≤ most_frame_digits
  pub bytes : IsOk (decode_of text)

-- the number that a text of four hexadecimal digits spells; None for any other text
abbrev pub ether_type_in : Text → Option ℕ
ether_type_in text = if length text == 4 then number_in 16 16 text else None

-- the frames that a socket takes: all frames if the text is `all`, or the frames of the EtherType that the text spells;
-- None for any other text
abbrev pub socket_in : Text → Option SocketKind
socket_in text = if bytes_eq text (codes "all") then Some socket.All else option_map socket.Ether (ether_type_in text)
