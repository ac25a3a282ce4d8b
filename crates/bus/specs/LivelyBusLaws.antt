-- Lemmas: the reports of a lively bus join over consecutive intervals, and its count grows by one at each access.
use Rattle.std.proofs.Common.{◌≡◌, ◌+◌, ◌++◌, [], length, min, refl, sym, ap, ◌∙◌, arith, length-append}
use Rattle.std.proofs.lemmas.List.Elements.{All-append, All-nil}
use Rattle.bus.specs.LivelyBuses.{IsQuietEvent, IsSameMachine, Lives, machine_world, most_accesses}
use Rattle.bus.specs.Pasts.{Past, joined, nothing}
use Rattle.bus.specs.TrailLaws.{past_of-append, trail_joins}
use Rattle.bus.specs.Trails.{past_of}
use Rattle.bus.specs.declared.lively_bus.LivelyBus.{LivelyBus}

pub same_here : (a : LivelyBus) → IsSameMachine a a
same_here a = record { machine = refl }

pub same_on : (a b c : LivelyBus) → IsSameMachine a b → IsSameMachine b c → IsSameMachine a c
same_on a b c one two = record { machine = two.machine ∙ one.machine }

pub lives_none : (a : LivelyBus) → Lives a a nothing
lives_none a = record {
  lent = same_here a;
  events = [];
  trail = refl;
  past_is = refl;
  quiet = All-nil IsQuietEvent;
  eeprom = refl;
  phy = refl;
  count = omega arith;
}

pub lives_join : (a b c : LivelyBus) (first later : Past) → Lives a b first → Lives b c later → Lives a c (joined first later)
lives_join a b c first later one two = record {
  lent = same_on a b c one.lent two.lent;
  events = one.events ++ two.events;
  trail = trail_joins one.events two.events (machine_world a) (machine_world b) (machine_world c) one.trail two.trail;
  past_is = ap (λ (p : Past). joined p later) one.past_is ∙ ap (joined (past_of one.events)) two.past_is
      ∙ sym (past_of-append one.events two.events);
  quiet = All-append IsQuietEvent one.events two.events one.quiet two.quiet;
  eeprom = omega (arith, one.eeprom, two.eeprom, length-append first.accesses later.accesses);
  phy = omega (arith, one.phy, two.phy, length-append first.accesses later.accesses);
  count = omega (arith, one.count, two.count, length-append first.accesses later.accesses);
}

-- Each access increases the count by one, up to the greatest u64.
pub lives_count : (a b : LivelyBus) (past : Past) → Lives a b past
    → min b.accesses most_accesses ≡ min (min a.accesses most_accesses + length past.accesses) most_accesses
lives_count a b past lives = omega (arith, lives.count)
