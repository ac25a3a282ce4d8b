-- Accesses before which no step is played.
use Rattle.std.proofs.Common.{◌≡◌, [], ℕ, Bool, List, ap, cond, false, refl, subst, sym}
use Rattle.played_adapter.specs.Draws.{drawn_count}
use Rattle.played_adapter.specs.Order.{InOrder, Tells, Times}
use Rattle.played_adapter.specs.Playing.{Accessed, DrawsChoice, HappensAlone, Interleaves}
use Rattle.played_adapter.specs.Playing.{PlaysStepOfKind, PlaysScheduled, Prepares, kinds_of_ticks}
use Rattle.played_adapter.specs.Playing.{access_counted, due}
use Rattle.played_adapter.specs.Told.{Told}
use Rattle.adapter.specs.bus_types.event.Access.{Access}
use Rattle.played_adapter.specs.declared.player.PlayedAdapter.{PlayedAdapter}
use Rattle.played_adapter.specs.declared.scheduling.ScheduledStep.{ScheduledStep}

none_drawn : (a : PlayedAdapter) → a.most_steps ≡ 0 → Interleaves a a []
none_drawn a most =
    subst (λ (n : ℕ). Times DrawsChoice (drawn_count n a.generator).0 (record a { generator = (drawn_count n a.generator).1 }) a [])
    (sym most) (refl, refl)

pub quiet_prepares : (a b : PlayedAdapter) → a.ticks ≡ false → a.most_steps ≡ 0 → a.scheduled.items ≡ [] → b ≡ access_counted a
    → Prepares a b []
quiet_prepares a b ticks most items is = record {
  middle = a;
  first = [];
  rest = [];
  happens = (0, subst (λ (on : Bool). InOrder PlaysStepOfKind (cond on kinds_of_ticks []) (a, 0) (a, 0) []) (sym ticks) (refl, refl));
  goes_on = record {
    middle = a;
    first = [];
    rest = [];
    happens = subst (λ (steps : List ScheduledStep). InOrder PlaysScheduled steps a a []) (sym (ap (due a.accesses) items)) (refl, refl);
    goes_on = (a, none_drawn a most, is);
    told_is = refl;
  };
  told_is = refl;
}

pub quiet_access : {O : Type 0} (heard : O → O → List Told → Type 0) (access : Access) (a b c : PlayedAdapter) (before after : O)
    → a.ticks ≡ false → a.most_steps ≡ 0 → a.scheduled.items ≡ [] → b ≡ access_counted a
    → Tells heard before after (HappensAlone access b c) → Tells heard before after (Accessed access a c)
quiet_access heard access a b c before after ticks most items is tells = record {
  told = tells.told;
  holds = record {
    middle = b;
    first = [];
    rest = tells.told;
    happens = quiet_prepares a b ticks most items is;
    goes_on = tells.holds;
    told_is = refl;
  };
  hears = tells.hears;
}
