-- Lemmas: the outcomes collected in two consecutive intervals are those of the first, followed by those of the second.
use Rattle.std.proofs.Common.{◌++◌, [], List, map, sym, ap, ◌∙◌, append_assoc}
use Rattle.std.proofs.lemmas.List.{append-nil, map-append}
use Rattle.stations.specs.Outcomes.{Collects, OutcomeList, note_of, room_of}
use Rattle.stations.specs.declared.observer.Observer.{Ghosts as OfObserver}
use Rattle.stations.specs.ToldTicks.{TickTold}
use Rattle.stations.specs.declared.outcomes.Numbered.{Numbered}

pub collects_none : (a : OutcomeList) → Collects a a []
collects_none a = sym (append-nil a.list)

pub collects_join : (a b c : OutcomeList) (first later : List TickTold) → Collects a b first → Collects b c later
    → Collects a c (first ++ later)
collects_join a b c first later one two =
    two
    ∙ ap (λ (list : List Numbered). list ++ map note_of later) one
    ∙ append_assoc a.list (map note_of first) (map note_of later)
    ∙ ap (λ (list : List Numbered). a.list ++ list) (sym (map-append note_of first later))

-- The ghost members of `Outcomes` as an observer.
abbrev pub collector : OfObserver OutcomeList
collector = record { heard = Collects; room_left = room_of }
