-- The same ticks, played at a solo bus from one state, lead to one state.
use Rattle.std.proofs.Common.{◌≡◌, ◌++◌, ◌∷◌, [], ℕ, List, Bool, refl, sym, ap, subst, length, ◌∙◌}
use Rattle.std.specs.List.{All}
use Rattle.std.proofs.lemmas.List.Elements.{All-head, All-tail}
use Rattle.adapter.specs.World.{World}
use Rattle.adapter_plants.specs.OneTrail.{AreSameRequests, courses_one, no_accesses, trail_end}
use Rattle.adapter.specs.Trails.{IsStep, Trail, past_of}
use Rattle.adapter.specs.bus_types.event.Access.{Access}
use Rattle.adapter.specs.bus_types.event.Event.{Event}
use Rattle.adapter.specs.bus_types.event.Event.TheVariants.{Accesses, Arrives, Steps}
use Rattle.adapter.specs.SoloBuses.{PlaysSoloTicks, SoloState}
use Rattle.adapter.specs.solo_types.solo_bus.SoloTick.{SoloTick}

no_requests : (events : List Event) → All IsStep events → (past_of events).accesses ≡ []
no_requests [] are = refl
no_requests (Steps kind free answer ∷ later) are =
    ap (λ (made : List Access). made ++ (past_of later).accesses) (no_accesses kind answer)
    ∙ no_requests later (All-tail IsStep (Steps kind free answer) later are)
no_requests (Arrives frame fate ∷ later) are = no_requests later (All-tail IsStep (Arrives frame fate) later are)
no_requests (Accesses access ∷ later) are = absurd (All-head IsStep (Accesses access) later are)

solo_of : World → Bool → List SoloTick → List (List ℕ) → ℕ → SoloState
solo_of world lively waiting wire accesses =
    record { world = world; lively = lively; waiting = waiting; wire = wire; accesses = accesses }

same_solo : (b c : SoloState) → b.world ≡ c.world → b.lively ≡ c.lively → b.waiting ≡ c.waiting → b.wire ≡ c.wire
    → b.accesses ≡ c.accesses → b ≡ c
unfolding solo_of
same_solo b c world lively waiting wire accesses =
    let same : solo_of b.world b.lively b.waiting b.wire b.accesses ≡ solo_of c.world c.lively c.waiting c.wire c.accesses = cc in
    same

module _ (ticks left : List SoloTick) (a b c : SoloState) (p : PlaysSoloTicks ticks left a b) (q : PlaysSoloTicks ticks left a c) where
  events_one : p.events ≡ q.events
  events_one =
      let requests = subst (λ (made : List Access). AreSameRequests made (past_of q.events).accesses) (sym (no_requests p.events p.are))
      (subst (λ (made : List Access). AreSameRequests [] made) (sym (no_requests q.events q.are)) tt) in
      courses_one p.events q.events a.world b.world c.world (length a.wire) (record {
        ticks = p.played ∙ sym q.played;
        free = p.wire.free;
        other_free = q.wire.free;
        requests = requests;
        trail = p.trail;
        other_trail = q.trail;
      })

  -- Two runs of the same ticks from one state end in one state.
  pub solo_end_one : b ≡ c
  solo_end_one =
      same_solo b c
      (trail_end p.events a.world b.world c.world p.trail
      (subst (λ (events : List Event). Trail events a.world c.world) (sym events_one) q.trail))
      (p.lively ∙ sym q.lively) (p.waiting ∙ sym q.waiting)
      (p.wire.frames ∙ ap (λ (events : List Event). a.wire ++ (past_of events).put) events_one ∙ sym q.wire.frames)
      (p.accesses ∙ sym q.accesses)
