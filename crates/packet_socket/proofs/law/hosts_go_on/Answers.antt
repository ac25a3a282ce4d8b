use Rattle.packet_socket.proofs.Intervals.{host-happens}
use Rattle.packet_socket.proofs.law.hosts_go_on.Goals as goal

pub returns : goal.returns
returns c up h a b past ready happens = host-happens h a b past ready happens
