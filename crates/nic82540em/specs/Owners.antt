-- The owner in a handle of C: a full owner owns an adapter's box, and an empty owner owns no box (our choice).
use mathlib.Core.Bool.{Bool, true, false}
use base.Fml.{Fml, feq}
use base.Stored.{Coded}
use denote.RawPtr.{Ptr, null_ptr, ptr_val}
use mir.Val.{Val}
use Rattle.std.specs.Box.Ownership.{box_owns}
use Rattle.std.specs.Global.{Global}
use Rattle.std.specs.Prelude.{[], ◌∷◌, List, None}
use Rattle.std_heap.specs.contracts.GlobalAllocator.TheImpl.{ghosts}
use Rattle.adapter.specs.Registers.{new_adapter}
use Rattle.nic82540em.specs.contracts.watched.WatchedAdapter.{the_row}
use Rattle.nic82540em.specs.declared.watched.WatchedAdapter.{WatchedAdapter}
use Rattle.nic82540em.specs.Events.{no_events}
use Rattle.played_adapter.specs.Playing.{new_player}
use Rattle.mdic_phy.specs.declared.phy.Link.TheVariants.{Never}

-- a full owner owns a box, and an empty owner contains the null pointer
abbrev pub held_owns : Bool → Global → Ptr → the_row.Denot → Fml
held_owns true alloc = box_owns (ghosts.dealloc_token alloc) the_row
held_owns false alloc = λ p x. feq (List Val) (ptr_val p ∷ []) (ptr_val null_ptr ∷ [])

-- the encoding of adapters that the ghost field `value` of an owner uses
abbrev pub value_coded : Coded the_row.Denot
value_coded = the_row.coded

-- the ghost value of an owner that `empty` makes
abbrev pub no_adapter : WatchedAdapter
no_adapter = record { player = new_player [] (new_adapter [] Never) None; events = no_events; agenda = None }
