-- The trace files of libpcap, version 2.4 (pcap-savefile): a file header, packets, and perhaps the beginning of one more packet.
-- At the end, the bytes of a written trace, and the laws about these bytes.
use Rattle.std.specs.Prelude.{◌≡◌, ◌==◌, ◌||◌, ◌<◌, ◌≤◌, ◌+◌, ◌*◌, ◌/◌, ◌%◌, ◌^◌, ◌⊎◌, ◌++◌, ℕ, suc, List, [], ◌∷◌, length, drop}
use Rattle.std.specs.Prelude.{Bool, true, false, IsTrue, nat_lt, if◌then◌else◌, map}
use Rattle.std.specs.List.{flat_map, AllByRecursion}
use Rattle.byteorder.specs.Endian.{big_number, little_number, little_bytes}
use Rattle.pcap_trace.specs.declared.header.Endianness.{Endianness}
use Rattle.pcap_trace.specs.declared.header.Endianness.TheVariants.{Big, Little}
use Rattle.pcap_trace.specs.declared.unit.Unit.{Unit}
use Rattle.pcap_trace.specs.declared.unit.Unit.TheVariants.{Micros, Nanos}

-- A byte order, as a function: from n and a list, it makes the number in the first n bytes of the list.
abbrev pub Order : Type 0
Order = ℕ → List ℕ → ℕ

-- In `Big`, the highest byte of a number is first; in `Little`, the lowest byte. A trace has the byte order of the machine that wrote it.
abbrev pub number_order : Endianness → Order
number_order Big = big_number
number_order Little = little_number

-- ---- the file header (pcap-savefile, "File Header")

-- the magic number of a trace with times in seconds and microseconds
abbrev pub microseconds_magic : ℕ
microseconds_magic = 0xA1B2_C3D4

-- the magic number of a trace with times in seconds and nanoseconds
abbrev pub nanoseconds_magic : ℕ
nanoseconds_magic = 0xA1B2_3C4D

-- whether a word is one of the two magic numbers
abbrev pub is_magic : ℕ → Bool
is_magic n = (n == microseconds_magic) || (n == nanoseconds_magic)

-- The bytes begin with a file header of 24 bytes: a magic number, version 2.4, 12 bytes that are ignored, and link type 1, Ethernet. The
-- ignored bytes are two words and the snapshot length.
pub record IsFileHeader (number : Order) (bytes : List ℕ) : Type 0 where
  pub long_enough : 24 ≤ length bytes
  pub magic_is : IsTrue (is_magic (number 4 bytes))
  pub major_is : number 2 (drop 4 bytes) ≡ 2
  pub minor_is : number 2 (drop 6 bytes) ≡ 4
  pub link_type_is : number 4 (drop 20 bytes) ≡ 1

-- ---- packets (pcap-savefile, "Packet Header")

-- a packet: its header, and the bytes that were captured
pub record Packet : Type 0 where
  pub header : List ℕ
  pub captured : List ℕ

-- the captured length in a packet header: the number of captured bytes of the packet
abbrev pub captured_length : Order → List ℕ → ℕ
captured_length number header = number 4 (drop 8 header)

-- the original length in a packet header: the number of bytes of the packet on the wire
abbrev pub original_length : Order → List ℕ → ℕ
original_length number header = number 4 (drop 12 header)

-- the maximum captured length of a packet, in bytes (libpcap's own limit on a snapshot)
abbrev pub most_captured : ℕ
most_captured = 262144

-- The packet is complete: its header has 16 bytes, and the number of its captured bytes is the captured length in the header, at most
-- `most_captured`.
pub record IsPacket (number : Order) (p : Packet) : Type 0 where
  pub header_length : length p.header ≡ 16
  pub captured_is : length p.captured ≡ captured_length number p.header
  pub short_enough : length p.captured ≤ most_captured

-- the bytes of a packet in a file
abbrev pub packet_bytes : Packet → List ℕ
packet_bytes p = p.header ++ p.captured

-- whether a packet is truncated: its captured length is below its original length (our choice: a captured length above it is accepted)
abbrev pub is_partial : Order → Packet → Bool
is_partial number p = nat_lt (captured_length number p.header) (original_length number p.header)

-- the frames: the captured bytes of the packets that aren't truncated, in order
abbrev pub untruncated_frames : Order → List Packet → List (List ℕ)
untruncated_frames number [] = []
untruncated_frames number (p ∷ ps) = if is_partial number p then untruncated_frames number ps else p.captured ∷ untruncated_frames number ps

-- the number of truncated packets, which are skipped
abbrev pub skipped_of : Order → List Packet → ℕ
skipped_of number [] = 0
skipped_of number (p ∷ ps) = if is_partial number p then suc (skipped_of number ps) else skipped_of number ps

-- ---- the end of a file

-- After the last complete packet: nothing, an incomplete packet, or a packet header with too large a captured length and any bytes. (our
-- choice)
pub data Ending : Type 0 where
  complete : Ending
  cut_off : Ending
  oversized : Ending

-- the bytes after the last complete packet, for each ending
abbrev pub IsRest : Order → List ℕ → Ending → Type 0
IsRest number rest complete = rest ≡ []
IsRest number rest cut_off =
    ((0 < length rest) × (length rest < 16))
    ⊎ ((16 ≤ length rest) × (captured_length number rest ≤ most_captured) × (length rest < 16 + captured_length number rest))
IsRest number rest oversized = (16 ≤ length rest) × (most_captured < captured_length number rest)

-- These bytes are complete packets and a rest, with these frames, this number of skipped packets, and this ending.
pub record IsBody (number : Order) (bytes : List ℕ) (frames : List (List ℕ)) (skipped : ℕ) (ending : Ending) : Type 0 where
  pub packets : List Packet
  pub rest : List ℕ
  pub parts : bytes ≡ flat_map packet_bytes packets ++ rest
  pub whole : AllByRecursion (IsPacket number) packets
  pub frames_are : frames ≡ untruncated_frames number packets
  pub skipped_are : skipped ≡ skipped_of number packets
  pub ends : IsRest number rest ending

-- ---- a trace

-- the ending of a trace, by whether its last packet is cut off
abbrev pub ending_of : Bool → Ending
ending_of true = cut_off
ending_of false = complete

-- These bytes are a trace of these frames, in this byte order, with this number of skipped packets. `cut` is whether the last packet is cut
-- off.
abbrev pub IsTraceIn : Order → List ℕ → List (List ℕ) → ℕ → Bool → Type 0
IsTraceIn number bytes frames skipped cut = IsFileHeader number bytes × IsBody number (drop 24 bytes) frames skipped (ending_of cut)

-- These bytes are such a trace in one of the two byte orders.
abbrev pub IsTrace : List ℕ → List (List ℕ) → ℕ → Bool → Type 0
IsTrace bytes frames skipped cut = (order : Endianness) × IsTraceIn (number_order order) bytes frames skipped cut

-- ---- the written form

-- a frame with its time, a number of microseconds
pub record Timed : Type 0 where
  -- its time in microseconds
  pub time : ℕ
  -- its bytes
  pub frame : List ℕ

-- a frame without its time
abbrev pub timed_frame : Timed → List ℕ
timed_frame t = t.frame

-- the frame with its time that a pair contains
abbrev pub timed : ℕ × List ℕ → Timed
timed p = record { time = p.0; frame = p.1 }

-- the first word of a trace whose times have this unit
abbrev pub magic_of : Unit → ℕ
magic_of Micros = microseconds_magic
magic_of Nanos = nanoseconds_magic

-- the part of a time, given in microseconds, that is less than a second, in this unit
abbrev pub fraction_of : Unit → ℕ → ℕ
fraction_of Micros time = time % 1000000
fraction_of Nanos time = time % 1000000 * 1000

-- the file header of written traces: little-endian, with times in this unit, version 2.4, two words of value 0, snapshot length 65,535, and
-- Ethernet
unfoldable pub file_header : Unit → List ℕ
file_header unit = little_bytes 4 (magic_of unit) ++ little_bytes 2 2 ++ little_bytes 2 4 ++ little_bytes 4 0 ++ little_bytes 4 0
    ++ little_bytes 4 65535 ++ little_bytes 4 1

-- the packet header of a written frame, little-endian: seconds (their low 32 bits), the fraction in this unit, and the length twice
unfoldable pub packet_header : Unit → ℕ → ℕ → List ℕ
packet_header unit time len = little_bytes 4 (time / 1000000 % 2 ^ 32) ++ little_bytes 4 (fraction_of unit time) ++ little_bytes 4 len
    ++ little_bytes 4 len

-- a packet: its header, and then the frame
abbrev pub packet_of : Unit → Timed → List ℕ
packet_of unit t = packet_header unit t.time (length t.frame) ++ t.frame

-- the written form of frames with their times
abbrev pub written : Unit → List Timed → List ℕ
written unit ts = file_header unit ++ flat_map (packet_of unit) ts

-- The frame has at most `most_captured` bytes, so a packet can contain it.
abbrev pub IsShort : Timed → Type 0
IsShort t = length t.frame ≤ most_captured

-- If each frame has at most `most_captured` bytes, the bytes written are a trace of these frames: no packet is skipped, and the end isn't
-- cut off.
abbrev pub WrittenIsTrace : Type 0
WrittenIsTrace = (unit : Unit) (ts : List Timed) → AllByRecursion IsShort ts → IsTrace (written unit ts) (map timed_frame ts) 0 false

-- If each frame has at most `most_captured` bytes, the bytes written are a trace of no other frames, and with no other values of `skipped`
-- and `cut`.
abbrev pub WrittenIsNoOther : Type 0
WrittenIsNoOther =
    (unit : Unit) (ts : List Timed) (frames : List (List ℕ)) (skipped : ℕ) (cut : Bool)
    → AllByRecursion IsShort ts → IsTrace (written unit ts) frames skipped cut
    → (frames ≡ map timed_frame ts) × (skipped ≡ 0) × (cut ≡ false)
