-- Cycles after an access or an arrival, plain accesses, and calls on the adapter in a handle.
use Rattle.std.proofs.Common.{◌≡◌, ◌++◌, ◌∷◌, [], ◌∙◌, ◌&&◌, ℕ, Bool, List, Option, None, Some, ap, false, if◌then◌else◌, length}
use Rattle.std.proofs.Common.{nat_lt, refl, subst, sym, true}
use Rattle.std.proofs.lemmas.List.{append-nil}
use Rattle.played_adapter.specs.Order.{ComposesHeard, Tells}
use Rattle.played_adapter.specs.Playing.{Paced}
use Rattle.played_adapter.specs.Told.{Told}
use Rattle.played_adapter.specs.declared.player.PlayedAdapter.{PlayedAdapter}
use Rattle.played_adapter.proofs.Telling.{tells_both}
use Rattle.step_schedules.specs.Agendas.{AgendaState}
use Rattle.step_schedules.specs.declared.deviation.Before.{Before}
use Rattle.access_names.specs.declared.target.Target.{Target}
use Rattle.access_names.specs.Names.{target_text}
use Rattle.nic82540em.specs.Calls.{Follows, HeardByEvents, IsPlain, PacedIf, PacedOr}
use Rattle.nic82540em.specs.Events.{HearsBetween, event_of, hears, keeps}
use Rattle.nic82540em.specs.EventsLaws.{heard_joins}
use Rattle.nic82540em.specs.Handles.{IsSound, OnAdapter}
use Rattle.nic82540em.specs.Lending.{with_adapter}
use Rattle.nic82540em.specs.Schedules.{AfterMeeting, MeetsIf, MeetsName}
use Rattle.nic82540em.specs.declared.events.Events.{Events}
use Rattle.nic82540em.specs.declared.events.KeptEvent.{KeptEvent}
use Rattle.nic82540em.specs.declared.handle.Nic.{Nic}
use Rattle.nic82540em.specs.declared.watched.WatchedAdapter.{WatchedAdapter}

laws : ComposesHeard HearsBetween
laws = record { stays = λ a. refl; joins = heard_joins }

followed_player : (paced : Bool) (Happens : PlayedAdapter → PlayedAdapter → List Told → Type 0) (a middle b : PlayedAdapter)
    (before now after : Events) → Tells HearsBetween before now (Happens a middle)
    → Tells HearsBetween now after (Follows paced middle b) → Tells HearsBetween before after (PacedOr paced Happens a b)
followed_player true Happens a middle b before now after one two =
    tells_both HearsBetween laws (Happens a) (λ m rest. Paced m b rest) middle before now after one two
followed_player false Happens a middle b before now after one two = record {
  told = one.told;
  holds = subst (λ (s : PlayedAdapter). Happens a s one.told) (sym two.holds.0) one.holds;
  hears = subst (HearsBetween before after) (ap (λ (t : List Told). one.told ++ t) two.holds.1 ∙ append-nil one.told)
      (laws.joins before now after one.told two.told one.hears two.hears);
}

pub followed : (paced : Bool) (Happens : PlayedAdapter → PlayedAdapter → List Told → Type 0) (a middle b : WatchedAdapter)
    → Tells HearsBetween a.events middle.events (Happens a.player middle.player) → middle.agenda ≡ a.agenda
    → HeardByEvents (Follows paced) middle b → HeardByEvents (PacedOr paced Happens) a b
followed paced Happens a middle b one same two = (
  followed_player paced Happens a.player middle.player b.player a.events middle.events b.events one two.0,
  two.1 ∙ same,
)

-- An access in its parts: the schedule meets the access, the access happens, and cycles follow.
pub met_and_followed : (made comes : Bool) (before : Before) (target : Target)
    (Happens : PlayedAdapter → PlayedAdapter → List Told → Type 0) (a met middle b : WatchedAdapter) → MeetsIf comes before target a met
    → Tells HearsBetween met.events middle.events (Happens met.player middle.player) → middle.agenda ≡ met.agenda
    → HeardByEvents (Follows (made && nat_lt 0 met.player.pace)) middle b
    → AfterMeeting comes before target (HeardByEvents (PacedIf made Happens)) a b
met_and_followed made comes before target Happens a met middle b meets one same two = record {
  met = met;
  meets = meets;
  happens = followed (made && nat_lt 0 met.player.pace) Happens met middle b one same two;
}

kept : (events : Events) (event : Option KeptEvent) → events.on ≡ false → keeps events event ≡ events
kept events None off = refl
kept events (Some event) off =
    ap (λ (on : Bool). if on && nat_lt (length events.waiting.items) events.waiting.capacity
    then record events { waiting = record events.waiting { items = events.waiting.items ++ event ∷ [] } } else events) off

unheard : (told : List Told) (events : Events) → events.on ≡ false → hears told events ≡ events
unheard [] events off = refl
unheard (one ∷ rest) events off = ap (hears rest) (kept events (event_of one) off) ∙ unheard rest events off

unmet : (comes : Bool) (before : Before) (target : Target) (a : WatchedAdapter) → a.agenda ≡ None → MeetsIf comes before target a a
unmet true before target a none =
    subst (λ (agenda : Option AgendaState). MeetsName before (target_text target) agenda a a) (sym none) refl
unmet false before target a none = refl

unpaced : (made : Bool) (Happens : PlayedAdapter → PlayedAdapter → List Told → Type 0) (a b : PlayedAdapter) (told : List Told) → a.pace ≡ 0
    → Happens a b told → PacedIf made Happens a b told
unpaced true Happens a b told none happens =
    subst (λ (pace : ℕ). PacedOr (true && nat_lt 0 pace) Happens a b told) (sym none) happens
unpaced false Happens a b told none happens = happens

-- At a plain adapter, what happens is the whole access: no schedule meets the access, no cycle follows, and events don't change.
pub plain : {O : Type 0} (heard : O → O → List Told → Type 0) (now later : O) (comes made : Bool) (before : Before) (target : Target)
    (Happens : PlayedAdapter → PlayedAdapter → List Told → Type 0) (a b : WatchedAdapter) → IsPlain a
    → Tells heard now later (Happens a.player b.player) → b.events ≡ a.events → b.agenda ≡ a.agenda
    → AfterMeeting comes before target (HeardByEvents (PacedIf made Happens)) a b
plain heard now later comes made before target Happens a b is_plain tells same kept_agenda = record {
  met = a;
  meets = unmet comes before target a is_plain.0;
  happens = (
    record {
      told = tells.told;
      holds = unpaced made Happens a.player b.player tells.told is_plain.1 tells.holds;
      hears = same ∙ sym (unheard tells.told a.events is_plain.2);
    },
    kept_agenda,
  );
}

-- A handle holds the adapter `a`, and a call changes `a` to `b`.
pub on_held : (Does : WatchedAdapter → WatchedAdapter → Type 0) (Refused : Type 0) (nic : Nic) (a b : WatchedAdapter)
    → a ≡ nic.owner.value → IsSound nic → nic.held ≡ true → Does a b
    → OnAdapter Does Refused nic (record nic { owner = with_adapter nic.owner b })
on_held Does Refused nic a b is_value sound held does = record {
  sound = sound;
  held = refl;
  done = λ _. subst (λ (before : WatchedAdapter). Does before b) is_value does;
  none = λ free. absurd (cc);
}
