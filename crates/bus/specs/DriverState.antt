-- The state of a driver as plain data, and where its rings and buffers are (our choice).
use Rattle.std.specs.Prelude.{◌+◌, ◌*◌, ◌^◌, ◌++◌, ℕ, Bool, List, length, map}
use Rattle.dma_memory.specs.Layout.{Counts, ReceiveBuffer, descriptor_bytes, start_of}
use Rattle.descriptors.specs.RingLaws.{place}
use Rattle.std.specs.List.{concat}

-- A piece of a frame that others hold, with the number of its buffer.
pub record HandedOut : Type 0 where
  -- the number of the buffer that contains the piece
  pub number : ℕ
  -- the bytes of the piece
  pub bytes : List ℕ

-- the bytes of these pieces, joined in order
abbrev pub frame_of : List HandedOut → List ℕ
frame_of pieces = concat (map (λ (one : HandedOut). one.bytes) pieces)

-- the numbers of the buffers of these pieces
abbrev pub piece_numbers : List HandedOut → List ℕ
piece_numbers handed_out = map (λ (one : HandedOut). one.number) handed_out

-- The setup with which the driver initializes its adapter again after a reset.
pub record DriverSetup : Type 0 where
  -- the size in kilobytes of the packet buffer for received frames (PBA.RXA)
  pub rxa : ℕ
  -- whether frames to every destination pass the filter (RCTL.UPE and RCTL.MPE)
  pub promiscuous : Bool
  -- whether the VLAN filter is on (RCTL.VFE): tagged frames of VLANs that aren't in `vlans` don't pass
  pub by_vlan : Bool
  -- the VLANs whose tagged frames pass the VLAN filter
  pub vlans : List ℕ
  -- the adapter's Ethernet address
  pub address : List ℕ

-- The state of a driver: its rings, the owners of its buffers, its counts, its groups and its setup.
pub record DriverState : Type 0 where
  -- the sizes of the rings, and the number of receive buffers
  pub layout : Counts
  -- the place of the oldest outstanding receive slot, or of the next slot to be offered if no slot is outstanding
  pub oldest_receive : ℕ
  -- the numbers of the buffers of the outstanding receive slots, the oldest first
  pub buffers : List ℕ
  -- the numbers of the buffers of the staged slots: the slots' descriptors are stored, but the slots aren't offered yet
  pub staged : List ℕ
  -- the numbers of the free buffers
  pub pool : List ℕ
  -- the pieces of frames that others hold and may read
  pub handed_out : List HandedOut
  -- the place of the oldest outstanding transmit slot, or of the next slot to be offered if no slot is outstanding
  pub oldest_transmit : ℕ
  -- the number of outstanding transmit slots
  pub sending : ℕ
  -- the sum of all values read from MPC; it saturates at the greatest u64
  pub missed : ℕ
  -- whether the sum is exact: no value read from MPC was MPC's greatest value, and the sum never saturated
  pub exact : Bool
  -- the number of runs of finished slots that weren't delivered because they didn't contain a whole frame; the number
  -- saturates at the greatest u64
  pub bad : ℕ
  -- the multicast groups that the driver has joined
  pub groups : List (List ℕ)
  -- the setup that a reset uses
  pub setup : DriverSetup

-- The same driver, with these buffers of outstanding and staged slots, this pool, and these pieces that others hold.
abbrev pub with_owners : DriverState → (buffers staged pool : List ℕ) → List HandedOut → DriverState
with_owners driver buffers staged pool handed_out = record driver
    { buffers = buffers; staged = staged; pool = pool; handed_out = handed_out }

-- The same driver, but others hold exactly these pieces of frames.
abbrev pub holding : List HandedOut → DriverState → DriverState
holding handed_out driver = record driver { handed_out = handed_out }

-- The numbers of all buffers by owner: the pool, the outstanding slots, the staged slots, and the pieces that others
-- hold.
abbrev pub owners : DriverState → List ℕ
owners driver = driver.pool ++ (driver.buffers ++ (driver.staged ++ piece_numbers driver.handed_out))

-- Places of rings, slots and buffers

-- Addresses in memory have 64 bits, so they are below this number ("3.2.3 Receive Descriptor Format", "3.3.3 Legacy Transmit Descriptor
-- Format").
abbrev pub address_limit : ℕ
address_limit = 2 ^ 64

-- the address of the receive buffer with this number
abbrev pub buffer_at : Counts → ℕ → ℕ
buffer_at counts number = start_of counts (ReceiveBuffer number)

-- the address of the descriptor of the receive slot at this place
abbrev pub receive_slot : ℕ → ℕ
receive_slot slot = descriptor_bytes * slot

-- the address of the descriptor of the transmit slot at this place
abbrev pub transmit_slot : Counts → ℕ → ℕ
transmit_slot counts slot = descriptor_bytes * counts.rx + descriptor_bytes * slot

-- the place after the last outstanding receive slot, or `oldest_receive` if no slot is outstanding
abbrev pub receive_tail : DriverState → ℕ
receive_tail driver = place driver.layout.rx driver.oldest_receive (length driver.buffers)

-- the place of the receive slot after the outstanding and staged slots
abbrev pub next_receive : DriverState → ℕ
next_receive driver = place driver.layout.rx driver.oldest_receive (length driver.buffers + length driver.staged)

-- the place after the last outstanding transmit slot, or `oldest_transmit` if no slot is outstanding
abbrev pub transmit_tail : DriverState → ℕ
transmit_tail driver = place driver.layout.tx driver.oldest_transmit driver.sending
