-- If ticks were told and noted in each of two consecutive intervals, the joined ticks were told and noted in both
-- together.
use Rattle.std.proofs.Common.{List, refl, ◌∙◌}
use Rattle.stations.specs.ToldTicks.{ComposesTold, TickTold}
use Rattle.host_calls.specs.NotingObservers.{TellsAndNotes}
use Rattle.host_calls.specs.NotesLaws.{reset_notes_join, notes_stay}

pub tells_compose : {O : Type 0} (heard : O → O → List TickTold → Type 0) → ComposesTold heard → ComposesTold (TellsAndNotes heard)
tells_compose heard composes = record {
  stays = λ a. record {
    keeps = record { observer = refl; noted = refl };
    tells = composes.stays a.observer.now;
    notes = notes_stay a.noted.now;
  };
  joins = λ a b c first later one two. record {
    keeps = record { observer = two.keeps.observer ∙ one.keeps.observer; noted = two.keeps.noted ∙ one.keeps.noted };
    tells = composes.joins a.observer.now b.observer.now c.observer.now first later one.tells two.tells;
    notes = reset_notes_join a.noted.now b.noted.now c.noted.now first later one.notes two.notes;
  };
}
