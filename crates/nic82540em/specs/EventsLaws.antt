-- What an observer is told in two consecutive intervals.
use Rattle.std.proofs.Common.{◌≡◌, ◌++◌, ◌∷◌, ◌∙◌, [], List, ap, refl, sym}
use Rattle.nic82540em.specs.Events.{HearsBetween, event_of, hears, keeps}
use Rattle.nic82540em.specs.declared.events.Events.{Events}
use Rattle.played_adapter.specs.Told.{Told}

hears_both : (first later : List Told) (events : Events) → hears (first ++ later) events ≡ hears later (hears first events)
hears_both [] later events = refl
hears_both (told ∷ rest) later events = hears_both rest later (keeps events (event_of told))

pub heard_joins : (a b c : Events) (first later : List Told) → HearsBetween a b first → HearsBetween b c later
    → HearsBetween a c (first ++ later)
heard_joins a b c first later one two = two ∙ ap (hears later) one ∙ sym (hears_both first later a)
