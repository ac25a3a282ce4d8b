-- A frame that a drained host returned, as contracts of drains state it: `Given`.
use Rattle.packet_socket.specs.HostCalls.{Given}
use Rattle.run_record.specs.declared.drained.DrainedFrame.{DrainedFrame}

-- the frame and the number of its socket
abbrev pub drained_frame : DrainedFrame → Given
drained_frame one = record { socket = one.socket; frame = one.frame }
