-- An owner of a server that is full, and its parts, own what a box at the same types owns.
use mir.Syntax.{impl, tnil, dnil}
use mathlib.Core.List.{[]}
use denote.Signature.{Slot, plain}
use Rattle.std_alloc.proofs.BoxSteps.Form.{Bx}
use Rattle.std_heap.specs.contracts.Global as Heap
use Rattle.std_heap.specs.contracts.GlobalAllocator.TheImpl.{ghosts, dict}
use Rattle.std_heap.proofs.Global.TheLaws as heap
use Rattle.adapter_server.specs.contracts.line_server.LineServer as Held
use Rattle.adapter_server.proofs.line_server.LineServer.TheLaws as held
use Rattle.nic82540em.specs.contracts.parts.Parts as Parts
use Rattle.nic82540em.specs.contracts.server_owner.ServerOwner as Owner

abbrev pub E : Bx
E = record {
  row = Held.the_row;
  laws = held.the_row_laws;
  al = record { row = Heap.the_row; laws = heap.the_row_laws; g = ghosts; d = dict; drops = impl [] tnil dnil };
}

abbrev pub FromParts : Slot 0
FromParts = plain (λ _. Parts.the_row Held.the_row Heap.the_row ghosts)

abbrev pub FromOwner : Slot 0
FromOwner = plain (λ _. Owner.the_row)
