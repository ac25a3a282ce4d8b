-- The server of an owner, while it is borrowed (our choice).
use Rattle.std.specs.Borrow.{Fml, Lends, MutBor}
use Rattle.nic82540em.specs.contracts.server_owner.ServerOwner.{the_row as owner_row}
use Rattle.adapter_server.specs.contracts.line_server.LineServer.{the_row as server_row}
use Rattle.nic82540em.specs.declared.server_owner.ServerOwner.{ServerOwner}
use Rattle.adapter_server.specs.LineServers.{LineState}

-- the owner with this server in its box
abbrev pub with_server : ServerOwner → LineState → ServerOwner
with_server owner server = record owner { value = server }

-- when the borrow ends, the owner's box contains the last value of the server
abbrev pub LendsServer : MutBor ServerOwner → MutBor LineState → Fml
LendsServer owner server = Lends owner_row server_row owner server (with_server owner.now)
