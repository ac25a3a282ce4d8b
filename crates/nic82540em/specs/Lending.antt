-- The adapter of an owner, while it is borrowed (our choice).
use Rattle.std.specs.Borrow.{Fml, Lends, MutBor}
use Rattle.nic82540em.specs.contracts.owner.Owner.{the_row as owner_row}
use Rattle.nic82540em.specs.contracts.watched.WatchedAdapter.{the_row as adapter_row}
use Rattle.nic82540em.specs.declared.owner.Owner.{Owner}
use Rattle.nic82540em.specs.declared.watched.WatchedAdapter.{WatchedAdapter}

-- the owner with this adapter in its box
abbrev pub with_adapter : Owner → WatchedAdapter → Owner
with_adapter owner adapter = record owner { value = adapter }

-- when the borrow ends, the owner's box contains the last value of the adapter
abbrev pub LendsAdapter : MutBor Owner → MutBor WatchedAdapter → Fml
LendsAdapter owner adapter = Lends owner_row adapter_row owner adapter (with_adapter owner.now)
