-- The lines that the program prints for a trace: one for each frame, and one with the counts (our choice; a frame's parts:
-- IEEE 802.3 clause 3.2).
use Rattle.std.specs.Prelude.{◌+◌, ◌++◌, ℕ, List, [], ◌∷◌, length, slice_index, slice_range, codes, decimal, nat_lt, if◌then◌else◌}
use Rattle.std.specs.List.{flat_map}
use Rattle.hex.specs.Hex.{encode_lower}
use Rattle.pcap_trace.specs.declared.trace.Trace.{Trace}
use Rattle.rx_filter.specs.Addresses.{destination}
use Rattle.text.specs.Fields.{labelled}
use Rattle.pcap_bench.specs.Printing.{cut_word}

-- a byte, as two lower-case hexadecimal digits
abbrev pub pair : ℕ → List ℕ
pair byte = encode_lower (byte ∷ [])

-- a colon, and the two digits of a byte
abbrev pub colon_pair : ℕ → List ℕ
colon_pair byte = codes ":" ++ pair byte

-- the pairs of an address, joined by colons
abbrev pub address_text : List ℕ → List ℕ
address_text [] = []
address_text (first ∷ others) = pair first ++ flat_map colon_pair others

-- the source address: bytes 6 to 11
abbrev pub source : List ℕ → List ℕ
source frame = slice_range frame 6 12

-- the type: the digits of byte 12, and then those of byte 13
abbrev pub type_text : List ℕ → List ℕ
type_text frame = pair (slice_index frame 12) ++ pair (slice_index frame 13)

-- destination, source and type, or `short` if the frame has fewer than 14 bytes
abbrev pub header_text : List ℕ → List ℕ
header_text frame =
    if nat_lt (length frame) 14 then codes " short"
    else codes " " ++ address_text (destination frame) ++ codes " " ++ address_text (source frame) ++ codes " " ++ type_text frame

-- `N LEN DST SRC TYPE` or `N LEN short`
abbrev pub shown_frame : ℕ → List ℕ → List ℕ
shown_frame number frame = decimal number ++ labelled (codes " ") (length frame) ++ header_text frame ++ codes "\n"

-- a line for each frame, numbered from n on
abbrev pub shown_frames : ℕ → List (List ℕ) → List ℕ
shown_frames n [] = []
shown_frames n (frame ∷ frames) = shown_frame n frame ++ shown_frames (n + 1) frames

-- `frames F skipped K cut no` or `frames F skipped K cut yes`
abbrev pub end_line : Trace → List ℕ
end_line trace = labelled (codes "frames ") (length trace.frames) ++ labelled (codes " skipped ") trace.skipped ++ cut_word trace.cut

-- all lines of a trace
abbrev pub shown_trace : Trace → List ℕ
shown_trace trace = shown_frames 0 trace.frames ++ end_line trace
