-- Receive buffers that have room for each legal frame: no frame is cut.
use Rattle.std.specs.Prelude.{◌≤◌, ℕ, All}
use Rattle.descriptors.specs.Frames.{longest_frame}
use Rattle.rx_engine.specs.Pieces.{IsLast}
use Rattle.adapter_model.specs.Conditions.{AreCut}
use Rattle.adapter_model.specs.HostFrames.{pieces_in_slots}
use Rattle.adapter_model.specs.World.{World}

-- If receive buffers have room for each legal frame, no frame has more than one piece. Each finished slot and the slot in progress contain
-- the last piece of a frame.
abbrev pub LargeBuffersTakeFrames : Type 0
LargeBuffersTakeFrames =
    (size oldest_receive : ℕ) (world : World) → longest_frame ≤ size → AreCut size oldest_receive world
    → All IsLast (pieces_in_slots oldest_receive world)
