-- How `Driver` stores its state (our choice). One queue contains the buffers of the outstanding receive slots, and then
-- those of the staged slots. `Driver` also stores the place after these slots.
use Rattle.std.specs.Prelude.{◌≡◌, ◌≤◌, ◌<◌, ◌-◌, ◌++◌, ℕ, IsTrue, [], length, take, drop}
use Rattle.registers.specs.Counting.{greatest_count}
use Rattle.dma_memory.specs.Layout.{Counts, IsAllowed}
use Rattle.dma_memory.specs.Numbers.{Numbers}
use Rattle.dma_memory.specs.Owners.{HasNoSecondOwner}
use Rattle.circular_buffer.specs.Buffer.{Buffer}
use Rattle.descriptors.specs.RingLaws.{place}
use Rattle.adapter.specs.DriverState.{DriverState}
use Rattle.driver.specs.InsideSetup.{IsRightSetup, setup_in}
use Rattle.driver.specs.declared.driver.Driver.TheInside.{Inside}
use Rattle.driver.specs.declared.setup.Setup.{Setup}

-- the number of outstanding receive slots: the length of the queue minus the number of staged slots
abbrev pub offered_count : Inside → ℕ
offered_count driver = length driver.buffers.items - driver.staged

-- The driver's state in contracts. The queue is split into the buffers of the outstanding slots and those of the staged slots. `Driver`
-- doesn't store which pieces others hold, so `handed_out` is empty.
abbrev pub driver_state_of : Inside → DriverState
driver_state_of driver = record {
  layout = driver.layout;
  oldest_receive = driver.oldest_receive;
  buffers = take (offered_count driver) driver.buffers.items;
  staged = drop (offered_count driver) driver.buffers.items;
  pool = driver.pool.free;
  handed_out = [];
  oldest_transmit = driver.oldest_transmit;
  sending = driver.sending;
  missed = driver.missed;
  exact = driver.exact;
  bad = driver.bad;
  groups = driver.groups;
  setup = setup_in driver.setup;
}

-- What always holds of the receive side. The queue contains the buffers of the outstanding and staged slots, which begin at `oldest` and
-- end before `next`.
pub record HasReceiveSide (counts : Counts) (oldest next staged : ℕ) (queue : Buffer ℕ) (pool : Numbers) : Type 0 where
  -- the oldest slot is in the ring
  pub oldest_slot : oldest < counts.rx
  -- at least one slot is neither outstanding nor staged
  pub room : length queue.items < counts.rx
  -- `next` is the slot after the outstanding and staged slots
  pub next_slot : next ≡ place counts.rx oldest (length queue.items)
  -- the queue has room for a buffer for each slot
  pub capacity : queue.capacity ≡ counts.rx
  -- the queue contains the buffers of all staged slots
  pub some_staged : staged ≤ length queue.items
  -- the pool is for all receive buffers
  pub buffers : pool.buffers ≡ counts.buffers
  -- no buffer has two owners
  pub owners : HasNoSecondOwner counts.buffers (pool.free ++ queue.items)

-- What always holds of the transmit side. The outstanding slots begin at `oldest` and end before `next`.
pub record IsSending (counts : Counts) (oldest next sending : ℕ) : Type 0 where
  -- the oldest slot is in the ring
  pub oldest_slot : oldest < counts.tx
  -- at least one slot isn't outstanding
  pub room : sending < counts.tx
  -- `next` is the slot after the outstanding slots
  pub next_slot : next ≡ place counts.tx oldest sending

-- The sizes of the rings, the number of receive buffers, and the setup are valid.
pub record CanReset (counts : Counts) (setup : Setup) : Type 0 where
  -- the sizes of the rings and the number of receive buffers are valid
  pub allowed : IsAllowed counts
  -- the value of RXA and the VLANs are valid
  pub right : IsRightSetup setup

-- The invariant of `Driver`: what always holds of its fields.
pub record IsConsistentDriver (driver : Inside) : Type 0 where
  -- the receive side
  pub receives : HasReceiveSide driver.layout driver.oldest_receive driver.next_receive driver.staged driver.buffers driver.pool
  -- the transmit side
  pub sends : IsSending driver.layout driver.oldest_transmit driver.next_transmit driver.sending
  -- the layout and the setup are valid
  pub resets : CanReset driver.layout driver.setup
  -- the sum of missed frames is exact if it is below MPC's greatest value
  pub sums : driver.missed < greatest_count → IsTrue driver.exact
