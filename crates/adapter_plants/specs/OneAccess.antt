-- An access over a solo bus in one state has one answer, and leads to one state.
use Rattle.std.proofs.Common.{◌≡◌, ◌+◌, ◌++◌, ◌∷◌, [], List, sym, ap, subst, length, ◌∙◌}
use Rattle.std.specs.Prelude.{map, min}
use Rattle.adapter_plants.specs.OneTrail.{AreSameRequests, IsSameRequest, courses_one, trail_end}
use Rattle.adapter.specs.LivelyBuses.{most_accesses}
use Rattle.adapter.specs.Pasts.{Past}
use Rattle.adapter.specs.TickGroups.{played_in, waiting_after}
use Rattle.adapter.specs.Trails.{Trail, past_of}
use Rattle.adapter.specs.bus_types.event.Access.{Access}
use Rattle.adapter.specs.bus_types.event.Event.{Event}
use Rattle.adapter.specs.SoloBuses.{Recounts, SoloState, is_solo_go, lively_ticks, solo_tick_of}
use Rattle.adapter.specs.solo_types.solo_bus.SoloTick.TheVariants.{Go}

-- The two states are equal, except that all numbers of accesses from 2^64 - 1 on count as equal.
pub record AreOneState (b c : SoloState) : Type 0 where
  pub world : b.world ≡ c.world
  pub waiting : b.waiting ≡ c.waiting
  pub wire : b.wire ≡ c.wire
  pub lively : b.lively ≡ c.lively
  pub count : min b.accesses most_accesses ≡ min c.accesses most_accesses

accesses_of : (past : Past) (events : List Event) (made : List Access) → past ≡ past_of events → past.accesses ≡ made
    → (past_of events).accesses ≡ made
accesses_of past events made is has = sym (ap (λ (p : Past). p.accesses) is) ∙ has

ticks_of : (a : SoloState) (past : Past) (events : List Event) (x : Access)
    → map solo_tick_of events ≡ played_in is_solo_go Go (lively_ticks a.lively) past.accesses a.waiting → past.accesses ≡ x ∷ []
    → map solo_tick_of events ≡ played_in is_solo_go Go (lively_ticks a.lively) (x ∷ []) a.waiting
ticks_of a past events x played has =
    subst (λ (made : List Access). map solo_tick_of events ≡ played_in is_solo_go Go (lively_ticks a.lively) made a.waiting) has played

module _ (a b c : SoloState) (past other : Past) (x y : Access) (has : past.accesses ≡ x ∷ []) (had : other.accesses ≡ y ∷ [])
    (same : IsSameRequest x y) (p : Recounts a b past) (q : Recounts a c other) where
  events_are_one : p.events ≡ q.events
  events_are_one =
      let requests = subst (λ (made : List Access). AreSameRequests made (past_of q.events).accesses)
      (sym (accesses_of past p.events (x ∷ []) p.past_is has))
      (subst (λ (made : List Access). AreSameRequests (x ∷ []) made)
      (sym (accesses_of other q.events (y ∷ []) q.past_is had)) (same, tt)) in
      courses_one p.events q.events a.world b.world c.world (length a.wire) (record {
        ticks = ticks_of a past p.events x p.played has ∙ sym (ticks_of a other q.events y q.played had);
        free = p.wire.free;
        other_free = q.wire.free;
        requests = requests;
        trail = p.trail;
        other_trail = q.trail;
      })

  pasts_are_one : past ≡ other
  pasts_are_one = p.past_is ∙ ap past_of events_are_one ∙ sym q.past_is

  -- Two accesses that make the same request in the same state have the same answer.
  pub answer_one : x ≡ y
  answer_one = cc (has, had, ap (λ (it : Past). it.accesses) pasts_are_one)

  -- Both accesses lead to equal states (`AreOneState`).
  pub state_one : AreOneState b c
  state_one = record {
    world = trail_end p.events a.world b.world c.world p.trail
        (subst (λ (events : List Event). Trail events a.world c.world) (sym events_are_one) q.trail);
    waiting = p.waiting ∙ ap (λ (it : Past). waiting_after is_solo_go it.accesses a.waiting) pasts_are_one ∙ sym q.waiting;
    wire = p.wire.frames ∙ ap (λ (it : Past). a.wire ++ it.put) pasts_are_one ∙ sym q.wire.frames;
    lively = p.lively ∙ sym q.lively;
    count = p.count ∙ ap (λ (it : Past). min (a.accesses + length it.accesses) most_accesses) pasts_are_one ∙ sym q.count;
  }
