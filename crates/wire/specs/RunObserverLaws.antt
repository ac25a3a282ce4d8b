-- The outcomes that an observer is told of the ticks of a call determine the happenings of these ticks.
use Rattle.std.proofs.Common.{◌≡◌, ◌++◌, ◌∷◌, [], List, map, refl, sym, ap, ◌∙◌}
use Rattle.std.specs.List.{flat_map}
use Rattle.adapter.specs.TickGroups.{without_go}
use Rattle.host_calls.specs.Happenings.{Happening, tick_host, tick_happenings, outcome_happenings}
use Rattle.stations.specs.AtomicRuns.{is_go}
use Rattle.stations.specs.Outcomes.{note_of}
use Rattle.stations.specs.ToldTicks.{TickTold}
use Rattle.stations.specs.declared.tick.Tick.{Tick}
use Rattle.stations.specs.declared.tick.Tick.TheVariants.{Deliver, Go, Step}
use Rattle.wire.specs.RunObservers.{happened_of, tick_in}

first : (a b : Tick) (list others : List Tick) → b ∷ others ≡ a ∷ list → b ≡ a
first a b list others same = cc

rest : (a b : Tick) (list others : List Tick) → b ∷ others ≡ a ∷ list → others ≡ list
rest a b list others same = cc

-- If the observer was told one outcome for each tick that isn't Go, in order, the happenings of the ticks are those of
-- these outcomes.
pub told_happened : (ticks : List Tick) (ones : List TickTold) → map tick_in ones ≡ without_go is_go ticks
    → tick_happenings ticks (map note_of ones) ≡ flat_map happened_of ones
told_happened [] [] same = refl
told_happened [] (one ∷ later) same = absurd (cc)
told_happened (Go ∷ ticks) ones same = told_happened ticks ones same
told_happened (Step host kind ∷ ticks) [] same = absurd (cc)
told_happened (Step host kind ∷ ticks) (one ∷ later) same =
    let others = without_go is_go ticks in
    ap (λ (list : List Happening). outcome_happenings host one.outcome ++ list)
    (told_happened ticks later (rest (Step host kind) one.tick others (map tick_in later) same))
    ∙ ap (λ (t : Tick). outcome_happenings (tick_host t) one.outcome ++ flat_map happened_of later)
    (sym (first (Step host kind) one.tick others (map tick_in later) same))
told_happened (Deliver host ∷ ticks) [] same = absurd (cc)
told_happened (Deliver host ∷ ticks) (one ∷ later) same =
    let others = without_go is_go ticks in
    ap (λ (list : List Happening). outcome_happenings host one.outcome ++ list)
    (told_happened ticks later (rest (Deliver host) one.tick others (map tick_in later) same))
    ∙ ap (λ (t : Tick). outcome_happenings (tick_host t) one.outcome ++ flat_map happened_of later)
    (sym (first (Deliver host) one.tick others (map tick_in later) same))
