-- The plain data of the fields of a receive engine (our choice).
use Rattle.std.specs.Prelude.{◌≡◌}
use Rattle.rx_engine.specs.Receiver.{Receiver, IsReceiver}
use Rattle.rx_engine.specs.Room.{occupied_by}
use Rattle.rx_engine.specs.declared.engine.RxEngine.TheInside.{Inside}

-- The plain data of a receive engine with these fields.
abbrev pub receiver_of : Inside → Receiver
receiver_of engine = record { buffer = engine.buffer.frames; moved = engine.moved; work = engine.work; stopped = engine.stopped }

-- The invariant of the fields of a receive engine.
pub record IsReceiverInside (engine : Inside) : Type 0 where
  -- The queue of the packet buffer has places for 614 frames.
  pub capacity : engine.buffer.capacity ≡ 614
  -- The memory of this queue has 65,536 bytes.
  pub bytes : engine.buffer.room ≡ 65536
  -- The stored number of occupied bytes is the number that the frames in the packet buffer occupy.
  pub occupied : engine.occupied ≡ occupied_by engine.buffer.frames
  -- The plain data meets the invariant of receive engines.
  pub keeps : IsReceiver (receiver_of engine)
