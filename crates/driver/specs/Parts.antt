-- The pieces of received frames in their buffers, and how `Parts` stores pieces (our choice).
use Rattle.std.specs.Prelude.{◌≡◌, ◌-◌, ◌≤◌, ◌++◌, ◌∷◌, [], ℕ, All, List, Option, Some, None, flat_map, length, map, replicate, sum}
use Rattle.descriptors.specs.Frames.{longest_frame, shortest_frame}
use Rattle.rx_filter.specs.Addresses.{ether_type}
use Rattle.rx_engine.specs.Pieces.{IsLastSize}
use Rattle.dma_memory.specs.Layout.{Counts, receive_buffer_bytes}
use Rattle.adapter.specs.bus_types.event.Access.{Access}
use Rattle.adapter.specs.bus_types.event.Access.TheVariants.{Loads}
use Rattle.adapter.specs.DriverState.{HandedOut, buffer_at, frame_of}
use Rattle.driver.specs.declared.parts.Part.{Part}
use Rattle.driver.specs.declared.parts.Parts.TheInside.{Inside}
use Rattle.driver.specs.declared.parts.TheConstants.{MOST_PARTS}
use Rattle.driver.specs.declared.receiver.Received.{Received}

-- How `Parts` stores pieces

-- the parts in an array, in order, without its empty places
abbrev pub parts_in : List (Option Part) → List Part
parts_in [] = []
parts_in (Some part ∷ later) = part ∷ parts_in later
parts_in (None ∷ later) = parts_in later

-- an array of these parts, followed by `empty` empty places
abbrev pub filled : List Part → (empty : ℕ) → List (Option Part)
filled parts empty = map (λ (part : Part). Some part) parts ++ replicate empty None

-- The first `count` of the six places contain parts, and the other places are empty.
pub record IsFilled (inside : Inside) : Type 0 where
  pub places : inside.places ≡ filled (parts_in inside.places) (MOST_PARTS - inside.count)
  pub count : length (parts_in inside.places) ≡ inside.count
  pub most : inside.count ≤ MOST_PARTS

-- Buffers and sizes

-- the numbers of the buffers of these pieces
abbrev pub buffers_in : List Part → List ℕ
buffers_in parts = map (λ (part : Part). part.buffer) parts

-- the sizes of these pieces in bytes
abbrev pub lengths_in : List Part → List ℕ
lengths_in parts = map (λ (part : Part). part.length) parts

-- the numbers of the buffers of these frames, in order
abbrev pub buffers_of : List Received → List ℕ
buffers_of list = flat_map (λ (received : Received). buffers_in received.parts) list

-- one load of each piece of a frame, in order
abbrev pub part_loads : Counts → List Part → List Access
part_loads counts parts = map (λ (part : Part). Loads (buffer_at counts part.buffer) part.length) parts

-- A received frame may have this size in bytes.
pub record IsFrameSize (size : ℕ) : Type 0 where
  -- at least 60 bytes
  pub least : shortest_frame ≤ size
  -- at most 1,518 bytes
  pub most : size ≤ longest_frame

-- Each of these sizes is at most the size of a receive buffer.
abbrev pub FitIntoBuffers : List ℕ → Type 0
FitIntoBuffers sizes = All (λ size. size ≤ receive_buffer_bytes) sizes

-- Each of these sizes is the size of a receive buffer.
abbrev pub AreFull : List ℕ → Type 0
AreFull sizes = All (λ size. size ≡ receive_buffer_bytes) sizes

-- Pieces of these sizes fill all their buffers except the last. The last piece has at least one byte, and fits into a buffer.
pub record FillBuffers (sizes : List ℕ) : Type 0 where
  -- the sizes before the last
  pub full : List ℕ
  -- the last size
  pub last : ℕ
  -- `sizes` are the sizes in `full`, and then `last`
  pub sizes_are : sizes ≡ full ++ last ∷ []
  -- each buffer before the last is full
  pub are_full : AreFull full
  -- the last size is at least 1 and at most the size of a receive buffer
  pub last_is : IsLastSize receive_buffer_bytes last

-- The length of a received frame is the sum of the sizes of its pieces, and is legal. Each piece fits into a buffer.
pub record IsWholeFrame (received : Received) : Type 0 where
  -- the length is legal
  pub size : IsFrameSize received.len
  -- the length is the sum of the sizes of the pieces
  pub sum : received.len ≡ sum (lengths_in received.parts)
  -- each piece fits into a buffer
  pub fits : FitIntoBuffers (lengths_in received.parts)

-- Each of these frames has a legal size, which is the sum of its pieces' sizes, and pieces that fit into their
-- buffers.
abbrev pub AreFrames : List Received → Type 0
AreFrames list = All IsWholeFrame list

-- Frames that others hold

-- a piece that others hold, as a part of a received frame
abbrev pub part_of : HandedOut → Part
part_of one = record { buffer = one.number; length = length one.bytes }

-- the buffers and lengths of these pieces
abbrev pub parts_of : List HandedOut → List Part
parts_of pieces = map part_of pieces

-- the frame that these pieces make up, in the form in which a receiver is shown a frame
abbrev pub received_of : List HandedOut → Received
received_of pieces = record { parts = parts_of pieces; len = length (frame_of pieces); ether_type = ether_type (frame_of pieces) }

-- the frames that these lists of pieces make up
abbrev pub joined_frames : List (List HandedOut) → List (List ℕ)
joined_frames taken = map frame_of taken

-- all pieces of these lists, in order
abbrev pub pieces_of : List (List HandedOut) → List HandedOut
pieces_of taken = flat_map (λ (pieces : List HandedOut). pieces) taken
