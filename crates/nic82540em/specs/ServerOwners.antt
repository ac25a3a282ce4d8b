-- The owner of a server in a handle of C: a full owner owns a server's box, and an empty owner owns no box (our choice).
use mathlib.Core.Bool.{Bool, true, false}
use base.Fml.{Fml, feq}
use base.Stored.{Coded}
use denote.RawPtr.{Ptr, null_ptr, ptr_val}
use mir.Val.{Val}
use Rattle.std.specs.Box.Ownership.{box_owns}
use Rattle.std.specs.Global.{Global}
use Rattle.std.specs.Prelude.{[], ◌∷◌, List, None}
use Rattle.std_heap.specs.contracts.GlobalAllocator.TheImpl.{ghosts}
use Rattle.adapter_server.specs.Defaults.{default_options}
use Rattle.adapter_server.specs.LineServers.{LineState}
use Rattle.adapter_server.specs.Serving.{new_server}
use Rattle.adapter_server.specs.contracts.line_server.LineServer.{the_row}

-- a full owner owns a box, and an empty owner contains the null pointer
abbrev pub server_owns : Bool → Global → Ptr → the_row.Denot → Fml
server_owns true alloc = box_owns (ghosts.dealloc_token alloc) the_row
server_owns false alloc = λ p x. feq (List Val) (ptr_val p ∷ []) (ptr_val null_ptr ∷ [])

-- the encoding of servers that the ghost field `value` of an owner uses
abbrev pub server_coded : Coded the_row.Denot
server_coded = the_row.coded

-- the ghost value of an owner that `empty` makes
abbrev pub no_server : LineState
no_server = record { server = new_server default_options None None; waiting = []; told = []; dead = true }
