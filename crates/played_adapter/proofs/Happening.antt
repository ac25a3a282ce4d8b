-- Events that happened and were told, from their parts.
use Rattle.std.proofs.Common.{◌≡◌, ◌++◌, ◌∙◌, ◌∷◌, [], ℕ, Bool, List, ap, false, if◌then◌else◌, length, refl, subst, sym, true}
use Rattle.adapter.specs.Machines.{MachineState, after_event}
use Rattle.adapter.specs.Trails.{Occurs}
use Rattle.adapter.specs.bus_types.event.Access.{Access}
use Rattle.adapter.specs.bus_types.event.Event.{Event}
use Rattle.adapter.specs.bus_types.event.Event.TheVariants.{Accesses}
use Rattle.played_adapter.specs.Order.{ComposesHeard, Tells}
use Rattle.played_adapter.specs.Playing.{Accessed, AnswersLoad, HappensTold, HappensAlone, PlaysAll, Prepares}
use Rattle.played_adapter.specs.Playing.{ReportsLine, Ticks, after, has_bytes, kinds_of_ticks, line_change}
use Rattle.played_adapter.specs.Playing.{reported}
use Rattle.played_adapter.specs.Told.{Told}
use Rattle.played_adapter.specs.Told as told
use Rattle.played_adapter.specs.declared.player.PlayedAdapter.{PlayedAdapter}
use Rattle.played_adapter.proofs.Telling.{tells_both, tells_so}

module _ {O : Type 0} (heard : O → O → List Told → Type 0) (laws : ComposesHeard heard) where
  pub happened : (one : Event) (of_it of_that : List Told) (a next m b : PlayedAdapter) (before now end : O)
      → Occurs one a.machine.world → m ≡ next → heard before now of_it → of_it ≡ of_that → Tells heard now end (ReportsLine m b)
      → Tells heard before end (HappensTold one of_that next a b)
  happened one of_it of_that a next m b before now end occurs state tells same reports = record {
    told = of_it ++ reports.told;
    holds = record {
      occurs = occurs;
      after = reports.holds.0 ∙ ap reported state;
      told_is = ap (λ (list : List Told). list ++ reports.told) same
          ∙ ap (λ (list : List Told). of_that ++ list) (reports.holds.1 ∙ ap line_change state);
    };
    hears = laws.joins before now end of_it reports.told tells reports.hears;
  }

  pub alone : (access : Access) (a b : PlayedAdapter) (machine : MachineState) (before now end : O)
      → Occurs (Accesses access) a.machine.world → machine ≡ after_event (Accesses access) a.machine
      → heard before now (told.Accessed access ∷ []) → Tells heard now end (ReportsLine (record a { machine = machine }) b)
      → Tells heard before end (HappensAlone access a b)
  alone access a b machine before now end occurs state tells reports =
      happened (Accesses access) _ (told.Accessed access ∷ []) a (after (Accesses access) a) _ b before now end occurs
      (ap (λ (m : MachineState). record a { machine = m }) state) tells refl reports

  pub ticks_on : (a b : PlayedAdapter) (moved : ℕ) (before now : O) → a.ticks ≡ true
      → Tells heard before now (PlaysAll kinds_of_ticks moved a b) → Tells heard before now (Ticks a b)
  ticks_on a b moved before now on plays =
      tells_so heard (PlaysAll kinds_of_ticks moved a b) (Ticks a b) before now
      (λ told all. (moved, subst (λ (is : Bool). PlaysAll (if is then kinds_of_ticks else []) moved a b told) (sym on) all)) plays

  pub ticks_off : (a : PlayedAdapter) (before : O) → a.ticks ≡ false → Tells heard before before (Ticks a a)
  ticks_off a before off = record {
    told = [];
    holds = (0, subst (λ (is : Bool). PlaysAll (if is then kinds_of_ticks else []) 0 a a []) (sym off) (refl, refl));
    hears = laws.stays before;
  }

  pub accessed : (access : Access) (a middle b : PlayedAdapter) (before now end : O) → Tells heard before now (Prepares a middle)
      → Tells heard now end (HappensAlone access middle b) → Tells heard before end (Accessed access a b)
  accessed access a middle b before now end prepares happens =
      tells_both heard laws (Prepares a) (λ m. HappensAlone access m b) middle before now end prepares happens

  pub not_loaded : (address : ℕ) (bytes : List ℕ) (a : PlayedAdapter) (before : O) → false ≡ has_bytes a address (length bytes)
      → Tells heard before before (AnswersLoad address bytes bytes false a a)
  not_loaded address bytes a before is = record {
    told = [];
    holds = record {
      range = is;
      accessed = λ yes. absurd (cc);
      loaded = λ yes. absurd (cc);
      refused = λ no. (refl, refl, refl);
    };
    hears = laws.stays before;
  }
