-- The texts of errors (our choice).
use Rattle.std.specs.Prelude.{ℕ, List, codes}
use Rattle.packet_socket.specs.declared.receive.RecvError.{RecvError}
use Rattle.packet_socket.specs.declared.receive.RecvError.TheVariants as recv

-- the code and the name of the reason why no frame is returned
abbrev pub recv_error_text : RecvError → List ℕ
recv_error_text recv.Empty = codes "E30 Empty"
recv_error_text recv.NoSocket = codes "E31 NoSocket"
