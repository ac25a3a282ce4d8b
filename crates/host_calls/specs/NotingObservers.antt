-- What the observer of a reset (`NotingObserver`) does: it passes what it is told to another observer, and takes notes
-- (our choice).
use Rattle.std.specs.Prelude.{◌≡◌, List}
use Rattle.stations.specs.ToldTicks.{TickTold}
use Rattle.host_calls.specs.Notes.{NotesTicks}
use Rattle.host_calls.specs.declared.noting.NotingObserver.{NotingObserver}

-- Both states refer to the same other observer and the same notes.
pub record KeepsReferences {O : Type 0} (old new : NotingObserver O) : Type 0 where
  pub observer : new.observer.ghost_name ≡ old.observer.ghost_name
  pub noted : new.noted.ghost_name ≡ old.noted.ghost_name

-- From `old` to `new`, the other observer was told the ticks `told`, and these ticks were noted (`NotesTicks`).
pub record TellsAndNotes {O : Type 0} (heard : O → O → List TickTold → Type 0) (old new : NotingObserver O) (told : List TickTold)
    : Type 0 where
  pub keeps : KeepsReferences old new
  pub tells : heard old.observer.now new.observer.now told
  pub notes : NotesTicks old.noted.now new.noted.now told
