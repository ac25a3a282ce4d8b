-- What a call of C does with the adapter of a handle (our choice).
use Rattle.std.specs.Prelude.{◌≡◌, false, true}
use Rattle.nic82540em.specs.declared.handle.Nic.{Nic}
use Rattle.nic82540em.specs.declared.watched.WatchedAdapter.{WatchedAdapter}

-- The owner in a handle is full if and only if the handle states that it holds an adapter.
abbrev pub IsSound : Nic → Type 0
IsSound nic = nic.owner.full ≡ nic.held

-- If the handle holds an adapter, `Does` relates the adapter before and after, and the handle still holds the adapter. If not, `Refused`
-- holds, and the handle doesn't change.
pub record OnAdapter (Does : WatchedAdapter → WatchedAdapter → Type 0) (Refused : Type 0) (old new : Nic) : Type 0 where
  -- the handle is sound afterwards, and holds an adapter if and only if it did before
  pub sound : IsSound new
  pub held : new.held ≡ old.held
  pub done : old.held ≡ true → Does old.owner.value new.owner.value
  pub none : old.held ≡ false → Refused × (new ≡ old)

-- `Holds` holds for the adapter, which doesn't change.
abbrev pub OnlyLooks : (Holds : WatchedAdapter → Type 0) → WatchedAdapter → WatchedAdapter → Type 0
OnlyLooks Holds a b = Holds a × (b ≡ a)
