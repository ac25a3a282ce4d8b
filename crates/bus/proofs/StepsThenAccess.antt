-- Steps of an adapter and deliveries, and then an access of its driver.
use Rattle.std.proofs.Common.{◌≡◌, ◌++◌, ◌∷◌, [], List, refl, sym, ap, ◌∙◌, arith, subst}
use Rattle.std.specs.List.{All}
use Rattle.std.proofs.lemmas.List.{append-nil}
use Rattle.adapter_model.specs.World.{World}
use Rattle.adapter_model.specs.declared.step.StepKind.TheVariants.{TxTake, TxPut, RxData, RxDone, EepromTick, PhyTick}
use Rattle.bus.specs.Law.{Happens}
use Rattle.bus.specs.Pasts.{Past, joined, nothing}
use Rattle.bus.specs.TrailLaws.{past_of-append, same_past}
use Rattle.bus.specs.Trails.{IsStep, past_of, past_of_event}
use Rattle.bus.specs.declared.event.Access.{Access}
use Rattle.bus.specs.declared.event.Event.{Event}
use Rattle.bus.specs.declared.event.Event.TheVariants.{Accesses, Arrives, Steps}
use Rattle.bus.proofs.Lists.{all-head, all-tail}
use Rattle.bus.proofs.Composition.{happens_only, happens_trans}

with-accesses : (past : Past) (accesses : List Access) → past.accesses ≡ []
    → joined past (record nothing { accesses = accesses }) ≡ record past { accesses = accesses }
with-accesses past accesses none =
    same_past _ _ _ _ _ _ _ _ _ _ _ _ (append-nil past.put) (append-nil past.stored) (omega arith) (omega arith) (omega arith)
    (ap (λ (before : List Access). before ++ accesses) none)

pub happens_accesses : (a b : World) (past : Past) (accesses : List Access) → past.accesses ≡ [] → Happens a b past
    → Happens a b (record past { accesses = accesses })
happens_accesses a b past accesses none happens =
    subst (Happens a b) (with-accesses past accesses none)
    (happens_trans a b b past (record nothing { accesses = accesses }) happens (happens_only b accesses))

event-no_access : (event : Event) → IsStep event → (past_of_event event).accesses ≡ []
event-no_access (Steps TxTake wire_free answer) is = refl
event-no_access (Steps TxPut wire_free answer) is = refl
event-no_access (Steps RxData wire_free answer) is = refl
event-no_access (Steps RxDone wire_free answer) is = refl
event-no_access (Steps EepromTick wire_free answer) is = refl
event-no_access (Steps PhyTick wire_free answer) is = refl
event-no_access (Arrives frame fate) is = refl
event-no_access (Accesses access) is = absurd is

pub no_access : (events : List Event) → All IsStep events → (past_of events).accesses ≡ []
no_access [] are = refl
no_access (event ∷ later) are =
    ap (λ (accesses : List Access). accesses ++ (past_of later).accesses) (event-no_access event (all-head IsStep event later are))
    ∙ no_access later (all-tail IsStep event later are)

pub past-with_access : (events : List Event) (access : Access) → All IsStep events
    → record (past_of events) { accesses = access ∷ [] } ≡ past_of (events ++ Accesses access ∷ [])
past-with_access events access are =
    sym (with-accesses (past_of events) (access ∷ []) (no_access events are)) ∙ sym (past_of-append events (Accesses access ∷ []))
