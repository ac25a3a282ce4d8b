-- The accesses and requests of a run, and their places.
use Rattle.std.specs.Prelude.{◌+◌, ◌-◌, ◌^◌, ◌==◌, ◌&&◌, ℕ, Bool, true, false, [], min, string_bytes}
use Rattle.std.specs.Str.{bytes_eq}
use Rattle.step_schedules.specs.declared.event.Event.{Event}
use Rattle.step_schedules.specs.declared.event.Past.{Past}
use Rattle.step_schedules.specs.Deviations.{DeviationValue}
use Rattle.step_schedules.specs.Words.{Text}
use Rattle.step_schedules.specs.declared.deviation.Before.{Before}
use Rattle.step_schedules.specs.declared.deviation.Before.TheVariants.{Choice, Read, Request, Write}
use Rattle.step_schedules.specs.declared.deviation.Place.{Place}
use Rattle.step_schedules.specs.declared.deviation.Site.{Site}
use Rattle.step_schedules.specs.declared.deviation.Site.TheVariants as site

-- an access or a request, with the bytes of its name
pub record EventValue : Type 0 where
  -- the place of the access or request in the run
  pub place : Place
  -- the kind of the access or request
  pub before : Before
  -- the name of what is accessed, or the word of the request
  pub name : Text

-- an event as plain data
abbrev pub event_value : Event → EventValue
event_value event = record { place = event.place; before = event.before; name = event.name.now }

-- the access or request that began last, as plain data
abbrev pub past_value : Past → EventValue
past_value past = record { place = past.place; before = past.before; name = string_bytes past.name }

-- the state before the run: no access and no request has come
abbrev pub no_event : EventValue
no_event = record { place = record { round = 0; access = 0 }; before = Read; name = [] }

-- the next number, up to the greatest number of 32 bits
abbrev pub next_count : ℕ → ℕ
next_count number = min (number + 1) (2 ^ 32 - 1)

-- the place of what comes next: an access or a request `choose` is in the same round, and every other request begins a round
abbrev pub next_place : Before → Place → Place
next_place Request place = record { round = next_count place.round; access = 0 }
next_place Read place = record { round = place.round; access = next_count place.access }
next_place Write place = record { round = place.round; access = next_count place.access }
next_place Choice place = record { round = place.round; access = next_count place.access }

-- whether two places are the same
abbrev pub is_place : Place → Place → Bool
is_place place other = place.round == other.round && place.access == other.access

-- whether a deviation at this site can match an event: a place must be the place of the event; a number isn't compared
abbrev pub is_at : EventValue → Site → Bool
is_at event (site.Place place) = is_place place event.place
is_at event (site.Number number) = true

-- whether two kinds are the same
abbrev pub is_same_kind : Before → Before → Bool
is_same_kind Read Read = true
is_same_kind Write Write = true
is_same_kind Request Request = true
is_same_kind Choice Choice = true
is_same_kind _ _ = false

-- Whether a deviation matches an event: they have the same kind and name, and the same place if the deviation has a place. A number isn't
-- compared.
abbrev pub is_matched_by : EventValue → DeviationValue → Bool
is_matched_by event deviation =
    is_at event deviation.site && is_same_kind deviation.before event.before && bytes_eq deviation.name event.name
