-- The number of bytes of the receive packet buffer that a frame occupies (our choice; Intel's manual states the size of the packet buffer,
-- "13.4.16 Packet Buffer Allocation", but not what a frame occupies).
use Rattle.std.specs.Prelude.{◌≤◌, ◌<◌, ◌+◌, ◌*◌, ◌/◌, ℕ, List, length, sum_by}

-- The number of bytes that a frame of n bytes occupies: n, rounded up to a multiple of 16, and 16 more.
abbrev pub cost_of_length : ℕ → ℕ
cost_of_length n = (n + 15) / 16 * 16 + 16

-- The number of bytes that a frame occupies.
abbrev pub cost : List ℕ → ℕ
cost frame = cost_of_length (length frame)

-- The number of bytes that all these frames occupy.
abbrev pub occupied_by : List (List ℕ) → ℕ
occupied_by frames = sum_by cost frames

-- The largest receive part of the packet buffer: 48 kilobytes, in bytes.
abbrev pub most_room : ℕ
most_room = 49152

-- A packet buffer of `room` bytes that contains these frames has room for one more frame.
abbrev pub HasRoomFor : (room : ℕ) → (buffered : List (List ℕ)) → (frame : List ℕ) → Type 0
HasRoomFor room buffered frame = occupied_by buffered + cost frame ≤ room

-- A packet buffer of `room` bytes that contains these frames has no room for one more frame.
abbrev pub LacksRoomFor : (room : ℕ) → (buffered : List (List ℕ)) → (frame : List ℕ) → Type 0
LacksRoomFor room buffered frame = room < occupied_by buffered + cost frame
