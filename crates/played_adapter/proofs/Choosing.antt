-- Drawn numbers, offered frames that arrive, and accesses of requests.
use Rattle.std.proofs.Common.{◌≡◌, ◌==◌, ◌+◌, ◌%◌, ◌||◌, ◌∷◌, ◌∙◌, [], ℕ, Bool, List, ap, arith, cond, false, nat_lt, refl, subst, sym}
use Rattle.std.proofs.Common.{true}
use Rattle.std.proofs.lemmas.Bool.Decides.{nat_tests}
use Rattle.rand_pcg.specs.Lcg.{Lcg}
use Rattle.rand_pcg.specs.Pcg.{pcg32}
use Rattle.adapter.specs.Machines.{MachineState, after_event}
use Rattle.adapter.specs.Trails.{Occurs}
use Rattle.adapter.specs.bus_types.event.Access.{Access}
use Rattle.adapter.specs.bus_types.event.Event.TheVariants.{Arrives}
use Rattle.rx_engine.specs.declared.arrival.Fate.{Fate}
use Rattle.played_adapter.specs.Draws.{chosen_below, drawn_count}
use Rattle.played_adapter.specs.Order.{ComposesHeard, Tells}
use Rattle.played_adapter.specs.Playing.{FrameArrives, HappensAlone, Interleaves, NextArrives, OldestArrives, Paced, ReportsLine, after}
use Rattle.played_adapter.specs.Requests.{AccessedAfter, ServesAccess}
use Rattle.played_adapter.specs.Told.{OfferedArrived, Told}
use Rattle.played_adapter.specs.declared.player.PlayedAdapter.{PlayedAdapter}
use Rattle.played_adapter.proofs.Happening.{happened}
use Rattle.played_adapter.proofs.Telling.{tells_both, tells_so}

count_by : (none over below : Bool) (generator : Lcg) (drawn : ℕ × Lcg) → over ≡ false
    → cond (none || over) (cond below 0 0, generator) drawn ≡ cond none (0, generator) drawn
count_by true over true generator drawn is = refl
count_by true over false generator drawn is = refl
count_by false over below generator drawn is = ap (λ (b : Bool). cond b (cond below 0 0, generator) drawn) is

-- A number of at most `most` is a number below `most + 1`.
pub count_is : (most : ℕ) (generator : Lcg) → chosen_below most (most + 1) 0 generator ≡ drawn_count most generator
count_is most generator =
    let positive : (most + 1 == 0) ≡ false = grind (arith, nat_tests) in
    count_by (most == 0) (most + 1 == 0) (nat_lt 0 (most + 1)) generator
    ((pcg32 generator).0 % (most + 1), (pcg32 generator).1) positive

module _ {O : Type 0} (heard : O → O → List Told → Type 0) (laws : ComposesHeard heard) where
  pub none_arrives : (left : List (List ℕ)) (a : PlayedAdapter) (before : O) → a.offered ≡ [] → left ≡ []
      → Tells heard before before (NextArrives a (record a { offered = left }))
  none_arrives left a before none still = record {
    told = [];
    holds = subst (λ (offered : List (List ℕ)). OldestArrives offered a (record a { offered = left }) []) (sym none)
        (ap (λ (offered : List (List ℕ)). record a { offered = offered }) (still ∙ sym none), refl);
    hears = laws.stays before;
  }

  pub oldest_arrives : (frame : List ℕ) (later : List (List ℕ)) (fate : Fate) (a b : PlayedAdapter) (machine : MachineState)
      (before now end : O) → a.offered ≡ frame ∷ later → Occurs (Arrives frame fate) a.machine.world
      → machine ≡ after_event (Arrives frame fate) a.machine → heard before now (OfferedArrived frame fate ∷ [])
      → Tells heard now end (ReportsLine (record a { machine = machine; offered = later }) b) → Tells heard before end (NextArrives a b)
  oldest_arrives frame later fate a b machine before now end some occurs state tells reports =
      tells_so heard (FrameArrives frame later fate a b) (NextArrives a b) before end
      (λ told arrives. subst (λ (offered : List (List ℕ)). OldestArrives offered a b told) (sym some) (fate, arrives))
      (happened heard laws (Arrives frame fate) _ (OfferedArrived frame fate ∷ []) a
      (after (Arrives frame fate) (record a { offered = later })) _ b before now end
      occurs (ap (λ (m : MachineState). record a { machine = m; offered = later }) state) tells refl reports)

  pub accessed_after : (access : Access) (a middle b : PlayedAdapter) (before now end : O)
      → Tells heard before now (Interleaves a middle) → Tells heard now end (HappensAlone access middle b)
      → Tells heard before end (AccessedAfter access a b)
  accessed_after access a middle b before now end draws happens =
      tells_both heard laws (Interleaves a) (λ m rest. HappensAlone access m b rest) middle before now end draws happens

  pub served : (access : Access) (a middle later b : PlayedAdapter) (before now then end : O)
      → Tells heard before now (Interleaves a middle) → Tells heard now then (HappensAlone access middle later)
      → Tells heard then end (Paced later b) → Tells heard before end (ServesAccess access a b)
  served access a middle later b before now then end draws happens paced =
      tells_both heard laws (AccessedAfter access a) (λ m rest. Paced m b rest) later before then end
      (accessed_after access a middle later before now then draws happens) paced
