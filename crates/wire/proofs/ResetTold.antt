-- The happenings of a reset are those of its parts, with what the reset itself did between them.
use Rattle.std.proofs.Common.{◌≡◌, ◌==◌, ◌&&◌, ◌≤◌, ◌<◌, ◌+◌, ◌++◌, ◌∷◌, [], ℕ, Bool, true, false, List, Some, length, min, map}
use Rattle.std.proofs.Common.{append_assoc, refl, sym, ap, arith, if◌then◌else◌, inl, inr, suc, ◌∙◌}
use Rattle.std.specs.Prelude.{nat_le, nat_lt}
use Rattle.std.proofs.lemmas.Bool.{eq-eqb, le-leb, lt-leb, lt-ltb}
use Rattle.std.proofs.lemmas.List.{append-nil}
use Rattle.std.proofs.lemmas.Bool.Decides.{eqb_tells}
use Rattle.adapter.specs.LivelyBuses.{most_accesses}
use Rattle.adapter.specs.TickGroups.{without_go}
use Rattle.adapter.specs.Trails.{past_of}
use Rattle.adapter.specs.bus_types.event.Access.{Access}
use Rattle.adapter.specs.bus_types.event.Event.TheVariants.{Accesses, Arrives, Steps}
use Rattle.adapter.specs.DriverState.{DriverSetup}
use Rattle.stations.specs.AtomicRuns.{LeadsTo, counted_of, events_at, is_go, noted_of, past_at}
use Rattle.stations.specs.AtomicSteps.{At, AtomicStep, Idles, tick_of}
use Rattle.stations.specs.Stations.{StationState}
use Rattle.stations.specs.declared.tick.Tick.{Tick}
use Rattle.host_calls.proofs.HostLists.{none-chosen}
use Rattle.host_calls.proofs.ToldByNumber.{more-counted, told-by_number, where-append, where-such}
use Rattle.host_calls.specs.DeliveryLaws.{happened_where}
use Rattle.host_calls.specs.Happenings.{Disabled, Enabled, GivenUp, Happening, happened_in, tick_happenings_where}
use Rattle.host_calls.proofs.FirstAccess.{tick-accesses}
use Rattle.host_calls.specs.ResetSteps.{ResetParts, at_rest, disable_of, enable_of, whole_reset}
use Rattle.wire.specs.Runs.{ResetAnswer, said_in_reset}

pub count-accesses : (caller n : ℕ) (steps : List AtomicStep) (a b : List StationState) → LeadsTo caller steps a b → n ≤ most_accesses
    → counted_of n steps ≡ min (n + length (past_at caller steps).accesses) most_accesses
count-accesses caller n [] a b leads within = omega (arith, within)
count-accesses caller n (At host (Steps kind wire_free answer) ∷ later) a b leads within =
    count-accesses caller n later _ b leads.2 within
    ∙ ap (λ (list : List Access). min (n + length list) most_accesses)
    (sym (tick-accesses caller (At host (Steps kind wire_free answer)) later tt))
count-accesses caller n (At host (Arrives frame fate) ∷ later) a b leads within =
    count-accesses caller n later _ b leads.2 within
    ∙ ap (λ (list : List Access). min (n + length list) most_accesses)
    (sym (tick-accesses caller (At host (Arrives frame fate)) later tt))
count-accesses caller n (At host (Accesses access) ∷ later) a b leads within =
    let here : (caller == host) ≡ true = eq-eqb caller host (sym leads.1) in
    let rest = count-accesses caller (min (n + 1) most_accesses) later _ b leads.2 (omega arith) in
    let made : (past_at caller (At host (Accesses access) ∷ later)).accesses ≡ access ∷ (past_at caller later).accesses =
    ap (λ (c : Bool). (past_of ((if c then Accesses access ∷ [] else []) ++ events_at caller later)).accesses) here in
    rest ∙ omega arith ∙ ap (λ (list : List Access). min (n + length list) most_accesses) (sym made)
count-accesses caller n (Idles tick ∷ later) a b leads within =
    count-accesses caller n later _ b leads.2 within
    ∙ ap (λ (list : List Access). min (n + length list) most_accesses) (sym (tick-accesses caller (Idles tick) later leads.1))

-- The number of accesses in each part of a reset: 0 in the first part, 1 to 2 in the second, and 3 to `on_after` - 1 in
-- the third. `on_after` is at most the count at which accesses saturate.
pub record PartsCounted (parts : ResetParts) (on_after : ℕ) : Type 0 where
  pub early : counted_of 0 parts.early ≡ 0
  pub stopping : counted_of 1 parts.stopping ≡ 2
  pub resting : counted_of 3 parts.resting + 1 ≡ on_after
  pub within : on_after ≤ most_accesses

-- The happenings whose numbers of earlier accesses pass a test, part by part.
parts-where : (is_such : ℕ → Bool) (k : ℕ) (setup : DriverSetup) (parts : ResetParts) (on_after : ℕ) → PartsCounted parts on_after
    → happened_where is_such 0 (whole_reset k setup parts)
    ≡ happened_where is_such 0 parts.early
    ++ (happened_where is_such 1 parts.stopping
    ++ (happened_where is_such 3 parts.resting ++ happened_where is_such on_after parts.later))
parts-where is_such k setup parts on_after counted =
    let early = parts.early in
    let stopping = parts.stopping in
    let resting = parts.resting in
    let later = parts.later in
    let enable = enable_of k setup in
    let behind = at_rest k setup parts ++ later in
    let at_three : happened_where is_such 3 (resting ++ enable ∷ later)
    ≡ happened_where is_such 3 resting ++ happened_where is_such on_after later =
    where-append is_such 3 resting (enable ∷ later)
    ∙ ap (λ (list : List Happening). happened_where is_such 3 resting ++ list)
    (ap (λ (front : List Happening). front ++ happened_where is_such (min (counted_of 3 resting + 1) most_accesses) later)
    (sym (none-chosen (is_such (counted_of 3 resting))))
    ∙ ap (λ (n : ℕ). happened_where is_such n later)
    (let same = counted.resting in let within = counted.within in omega (arith, same, within))) in
    let at_two : happened_where is_such 2 behind ≡ happened_where is_such 3 (resting ++ enable ∷ later) =
    ap (λ (front : List Happening). front ++ happened_where is_such 3 ((resting ++ enable ∷ []) ++ later)) (sym (none-chosen (is_such 2)))
    ∙ ap (happened_where is_such 3) (append_assoc resting (enable ∷ []) later) in
    ap (happened_where is_such 0) (append_assoc early (disable_of k ∷ stopping) behind)
    ∙ where-append is_such 0 early ((disable_of k ∷ stopping) ++ behind)
    ∙ ap (λ (list : List Happening). happened_where is_such 0 early ++ list)
    (ap (λ (n : ℕ). happened_where is_such n ((disable_of k ∷ stopping) ++ behind)) counted.early
    ∙ ap (λ (front : List Happening). front ++ happened_where is_such 1 (stopping ++ behind)) (sym (none-chosen (is_such 0)))
    ∙ where-append is_such 1 stopping behind
    ∙ ap (λ (list : List Happening). happened_where is_such 1 stopping ++ list)
    (ap (λ (n : ℕ). happened_where is_such n behind) counted.stopping ∙ at_two ∙ at_three))

-- Numbers that pass a test

in-range : (low high m : ℕ) → low ≤ m → m < high → (nat_le low m && nat_lt m high) ≡ true
in-range low high m least most = rw (le-leb low m least) (lt-ltb m high most)

below-range : (low high m : ℕ) → m < low → (nat_le low m && nat_lt m high) ≡ false
below-range low high m below = rw (lt-leb low m below) refl

above-range : (low high m : ℕ) → high ≤ m → (nat_le low m && nat_lt m high) ≡ false
above-range low high m above = both-false (nat_le low m) (nat_lt m high) (lt-leb (suc m) high (omega (arith, above)))
  where
    both-false : (one other : Bool) → other ≡ false → (one && other) ≡ false
    both-false true other is = is
    both-false false other is = refl

is-zero : (m : ℕ) → m ≤ 0 → (m == 0) ≡ true
is-zero m none = eq-eqb m 0 (omega (arith, none))

not-zero : (m : ℕ) → 1 ≤ m → (m == 0) ≡ false
not-zero m some = elim (eqb_tells m 0) [
  | inl same ↦ let is = same.1 in absurd (omega (arith, some, is))
  | inr other ↦ other.0
]

four : (w x y z w' x' y' z' : List Happening) → w ≡ w' → x ≡ x' → y ≡ y' → z ≡ z' → w ++ (x ++ (y ++ z)) ≡ w' ++ (x' ++ (y' ++ z'))
four w x y z w' x' y' z' one two three last =
    ap (λ (list : List Happening). list ++ (x ++ (y ++ z))) one
    ∙ ap (λ (list : List Happening). w' ++ (list ++ (y ++ z))) two
    ∙ ap (λ (list : List Happening). w' ++ (x' ++ (list ++ z))) three
    ∙ ap (λ (list : List Happening). w' ++ (x' ++ (y' ++ list))) last

-- For each part of a reset, either all numbers of accesses in it pass the test, or none does.
pub record Chosen (is_such : ℕ → Bool) (on_after : ℕ) (first second third last : Bool) : Type 0 where
  pub at_zero : (m : ℕ) → m ≤ 0 → is_such m ≡ first
  pub to_reset : (m : ℕ) → 1 ≤ m → m < 3 → is_such m ≡ second
  pub to_enabled : (m : ℕ) → 3 ≤ m → m < on_after → is_such m ≡ third
  pub behind : (m : ℕ) → on_after ≤ m → is_such m ≡ last

-- the happenings of a part if its numbers pass the test, else no happening
abbrev pub chosen : Bool → List AtomicStep → List Happening
chosen is steps = if is then happened_in steps else []

part-told : (is_such : ℕ → Bool) (n : ℕ) (steps : List AtomicStep) (is : Bool) → n ≤ most_accesses
    → ((m : ℕ) → n ≤ m → m ≤ counted_of n steps → is_such m ≡ is) → happened_where is_such n steps ≡ chosen is steps
part-told is_such n steps is within are = where-such is_such n steps is within are

pub parts-chosen : (is_such : ℕ → Bool) (k : ℕ) (setup : DriverSetup) (parts : ResetParts) (on_after : ℕ) (first second third last : Bool)
    → PartsCounted parts on_after → Chosen is_such on_after first second third last
    → happened_where is_such 0 (whole_reset k setup parts)
    ≡ chosen first parts.early ++ (chosen second parts.stopping ++ (chosen third parts.resting ++ chosen last parts.later))
parts-chosen is_such k setup parts on_after first second third last counted is =
    let early = counted.early in
    let stopping = counted.stopping in
    let resting = counted.resting in
    parts-where is_such k setup parts on_after counted
    ∙ four _ _ _ _ _ _ _ _
    (part-told is_such 0 parts.early first (omega arith) (λ m low high. is.at_zero m (omega (arith, high, early))))
    (part-told is_such 1 parts.stopping second (omega arith) (λ m low high. is.to_reset m low (omega (arith, high, stopping))))
    (part-told is_such 3 parts.resting third (omega arith) (λ m low high. is.to_enabled m low (omega (arith, high, resting))))
    (part-told is_such on_after parts.later last counted.within (λ m low high. is.behind m low))

-- The happenings of a reset's parts, with what the reset itself did between them.
abbrev pub reset_said : (k : ℕ) → ResetAnswer → ResetParts → List Happening
reset_said k answer parts =
    happened_in parts.early ++ Disabled k ∷ (happened_in parts.stopping
    ++ GivenUp k answer.sending answer.holding ∷ (happened_in parts.resting ++ Enabled k ∷ happened_in parts.later))

pub told-early : (caller : ℕ) (ticks : List Tick) (setup : DriverSetup) (parts : ResetParts) (a b : List StationState) (on_after : ℕ)
    → PartsCounted parts on_after → LeadsTo caller (whole_reset caller setup parts) a b
    → without_go is_go (map tick_of (whole_reset caller setup parts)) ≡ without_go is_go ticks
    → tick_happenings_where (λ number. number == 0) ticks (noted_of 0 (whole_reset caller setup parts)) ≡ happened_in parts.early
told-early caller ticks setup parts a b on_after counted leads played =
    told-by_number (λ number. number == 0) caller ticks (whole_reset caller setup parts) a b leads played
    ∙ parts-chosen (λ number. number == 0) caller setup parts on_after true false false false counted (record {
      at_zero = is-zero;
      to_reset = λ m low high. not-zero m low;
      to_enabled = λ m low high. not-zero m (omega (arith, low));
      behind = λ m low. not-zero m (let some = counted.resting in omega (arith, low, some));
    }) ∙ append-nil _

pub reset-says : (caller : ℕ) (ticks : List Tick) (setup : DriverSetup) (parts : ResetParts) (a b : List StationState)
    (answer : ResetAnswer) → PartsCounted parts answer.on_after → LeadsTo caller (whole_reset caller setup parts) a b
    → without_go is_go (map tick_of (whole_reset caller setup parts)) ≡ without_go is_go ticks
    → said_in_reset caller (Some answer) ticks (noted_of 0 (whole_reset caller setup parts)) ≡ reset_said caller answer parts
reset-says caller ticks setup parts a b answer counted leads played =
    let on = answer.on_after in
    let steps = whole_reset caller setup parts in
    let least = (more-counted 3 parts.resting (omega arith)).0 in
    let some : 4 ≤ on = let count = counted.resting in omega (arith, count, least) in
    let two : tick_happenings_where (λ number. nat_le 1 number && nat_lt number 3) ticks (noted_of 0 steps) ≡ happened_in parts.stopping =
    told-by_number (λ number. nat_le 1 number && nat_lt number 3) caller ticks steps a b leads played
    ∙ parts-chosen (λ number. nat_le 1 number && nat_lt number 3) caller setup parts on false true false false counted (record {
      at_zero = λ m high. below-range 1 3 m (omega (arith, high));
      to_reset = λ m low high. in-range 1 3 m low high;
      to_enabled = λ m low high. above-range 1 3 m low;
      behind = λ m low. above-range 1 3 m (omega (arith, low, some));
    }) ∙ append-nil _ in
    let three : tick_happenings_where (λ number. nat_le 3 number && nat_lt number on) ticks (noted_of 0 steps) ≡ happened_in parts.resting =
    told-by_number (λ number. nat_le 3 number && nat_lt number on) caller ticks steps a b leads played
    ∙ parts-chosen (λ number. nat_le 3 number && nat_lt number on) caller setup parts on false false true false counted (record {
      at_zero = λ m high. below-range 3 on m (omega (arith, high));
      to_reset = λ m low high. below-range 3 on m high;
      to_enabled = λ m low high. in-range 3 on m low high;
      behind = λ m low. above-range 3 on m low;
    }) ∙ append-nil _ in
    let last : tick_happenings_where (λ number. nat_le on number) ticks (noted_of 0 steps) ≡ happened_in parts.later =
    told-by_number (λ number. nat_le on number) caller ticks steps a b leads played
    ∙ parts-chosen (λ number. nat_le on number) caller setup parts on false false false true counted (record {
      at_zero = λ m high. lt-leb on m (omega (arith, high, some));
      to_reset = λ m low high. lt-leb on m (omega (arith, high, some));
      to_enabled = λ m low high. lt-leb on m high;
      behind = λ m low. le-leb on m low;
    }) in
    ap (λ (list : List Happening). list ++ Disabled caller
    ∷ (tick_happenings_where (λ number. nat_le 1 number && nat_lt number 3) ticks (noted_of 0 steps)
    ++ GivenUp caller answer.sending answer.holding ∷ (tick_happenings_where (λ number. nat_le 3 number && nat_lt number on) ticks
    (noted_of 0 steps)
    ++ Enabled caller ∷ tick_happenings_where (λ number. nat_le on number) ticks (noted_of 0 steps))))
    (told-early caller ticks setup parts a b on counted leads played)
    ∙ ap (λ (list : List Happening). happened_in parts.early ++ Disabled caller ∷ (list
    ++ GivenUp caller answer.sending answer.holding ∷ (tick_happenings_where (λ number. nat_le 3 number && nat_lt number on) ticks
    (noted_of 0 steps)
    ++ Enabled caller ∷ tick_happenings_where (λ number. nat_le on number) ticks (noted_of 0 steps)))) two
    ∙ ap (λ (list : List Happening). happened_in parts.early ++ Disabled caller ∷ (happened_in parts.stopping
    ++ GivenUp caller answer.sending answer.holding ∷ (list
    ++ Enabled caller ∷ tick_happenings_where (λ number. nat_le on number) ticks (noted_of 0 steps)))) three
    ∙ ap (λ (list : List Happening). happened_in parts.early ++ Disabled caller ∷ (happened_in parts.stopping
    ++ GivenUp caller answer.sending answer.holding ∷ (happened_in parts.resting ++ Enabled caller ∷ list))) last
