-- The sockets of hosts, and the frames that a socket returns in a run, each with the number of its event or drain (our choice).
use Rattle.std.specs.Prelude.{◌+◌, ◌++◌, ℕ, List, [], ◌∷◌, length, map}
use Rattle.std.specs.List.{range_with_len}
use Rattle.pcap_trace.specs.Format.{Timed}
use Rattle.host_calls.specs.Happenings.{given}
use Rattle.run_record.specs.Acts.{Act, said_in}
use Rattle.run_record.specs.Kept.{numbered_frame}
use Rattle.run_record.specs.Numbers.{next_number}
use Rattle.scenario.specs.SoFar.{Host}

-- The frames that this socket of this host returns in these acts, in order, each with the number of its act. The first
-- act has the number `number`.
abbrev pub given_from : (host socket number : ℕ) → List Act → List Timed
given_from host socket number [] = []
given_from host socket number (act ∷ acts) =
    map (numbered_frame number) (given host socket (said_in act)) ++ given_from host socket (next_number number) acts

-- the sockets of a host, each as the host's number and the socket's number
abbrev pub sockets_of_host : (host sockets : ℕ) → List (ℕ × ℕ)
sockets_of_host host sockets = map (λ socket. (host, socket)) (range_with_len 0 sockets)

-- the sockets of these hosts, each as the host's number and the socket's number. Hosts are in order, and so are the
-- sockets of each host. The first host has the number `number`.
abbrev pub sockets_from : (number : ℕ) → List Host → List (ℕ × ℕ)
sockets_from number [] = []
sockets_from number (host ∷ hosts) = sockets_of_host number (length host.sockets) ++ sockets_from (number + 1) hosts
