-- Ethernet frames: which are legal, which a host may send, padding, and laws about them. A frame is the list of its bytes, from the
-- destination address to the end of the data, without the check sequence.
use Rattle.std.specs.Prelude.{◌≡◌, ◌≤◌, ◌-◌, ◌++◌, ◌&&◌, Bool, IsTrue, ℕ, List, length, take, replicate, nat_le}

-- The number of bytes of the shortest frame on the wire (IEEE 802.3, 4.4.2).
abbrev pub shortest_frame : ℕ
shortest_frame = 60

-- The number of bytes of the longest frame on the wire (IEEE 802.3, 4.4.2, with a VLAN tag; that frames without a tag may be as long is our
-- choice).
abbrev pub longest_frame : ℕ
longest_frame = 1518

-- The number of bytes of the shortest frame that a host may send: two addresses and the Length/Type field (our choice).
abbrev pub shortest_sent : ℕ
shortest_sent = 14

-- A frame of legal size: neither runt nor oversize.
pub record IsLegal (frame : List ℕ) : Type 0 where
  -- The frame has at least 60 bytes.
  pub least : shortest_frame ≤ length frame
  -- The frame has at most 1,518 bytes.
  pub most : length frame ≤ longest_frame

-- Whether a host may send a frame: it has 14 to 1,518 bytes (our choice).
abbrev pub is_sendable : List ℕ → Bool
is_sendable frame = nat_le shortest_sent (length frame) && nat_le (length frame) longest_frame

-- A frame followed by zeros up to 60 bytes. A frame of 60 bytes or more is unchanged ("13.4.33 Transmit Control Register", Pad Short
-- Packets; that the padding is zeros is our choice).
abbrev pub padded : List ℕ → List ℕ
padded frame = frame ++ replicate (shortest_frame - length frame) 0

-- A frame that can be sent is legal after it is padded.
abbrev pub SendablePaddedIsLegal : Type 0
SendablePaddedIsLegal = (frame : List ℕ) → IsTrue (is_sendable frame) → IsLegal (padded frame)

-- A padded frame begins with the frame.
abbrev pub PaddedBeginsWithFrame : Type 0
PaddedBeginsWithFrame = (frame : List ℕ) → take (length frame) (padded frame) ≡ frame

-- Padding doesn't change a frame of 60 bytes or more.
abbrev pub LongFramesStay : Type 0
LongFramesStay = (frame : List ℕ) → shortest_frame ≤ length frame → padded frame ≡ frame
