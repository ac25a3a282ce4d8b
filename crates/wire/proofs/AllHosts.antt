-- The hosts of a plan are initialized in order: their wires, the error of one host, and the first hosts that are
-- initialized.
use Rattle.std.proofs.Common.{◌≡◌, ◌≢◌, ◌≤◌, ◌<◌, ◌+◌, ◌++◌, ◌∷◌, [], zero, suc, Bool, true, false, ℕ, List, Some, None, String, length}
use Rattle.std.proofs.Common.{slice_get, string_eq, cond, nat_lt, not, position, unwrap_or, inl, inr, ◌⊎◌, refl, sym, ap, subst, ◌∙◌}
use Rattle.std.proofs.Common.{arith, length-append}
use Rattle.std.specs.List.{position_or_len}
use Rattle.std.specs.String.{string_eq_equiv}
use Rattle.std.specs.declared.alloc.Global.{Global}
use Rattle.std.proofs.lemmas.Bool.{cases_lt, le-ltb, lt-ltb}
use Rattle.bring_up.specs.declared.init_error.InitError.{InitError}
use Rattle.bring_up.specs.declared.init_error.InitError.TheVariants as errors
use Rattle.packet_socket.specs.HostState.{HostState}
use Rattle.stations.specs.Stations.{StationState}
use Rattle.network_plan.specs.declared.plan.HostPlan.{HostPlan}
use Rattle.network_plan.specs.declared.plan_error.PlanError.{PlanError}
use Rattle.network_plan.specs.declared.plan_error.PlanError.TheVariants as refused
use Rattle.wire.specs.HostsUp.{AreUp, CanComeUp, ComesUp, IsReason, IsRefusal, ShareWires, wire_number}

-- Wires

same-name : (a b c : String Global) → string_eq a b ≡ true → string_eq c a ≡ string_eq c b
same-name a b c same = string_eq_equiv.symm c a ∙ string_eq_equiv.congr a b c same ∙ string_eq_equiv.symm b c

number-same : (plans : List HostPlan) (a b : String Global) → string_eq a b ≡ true → wire_number plans a ≡ wire_number plans b
number-same [] a b same = refl
number-same (plan ∷ later) a b same =
    ap (λ (is : Bool). cond (not is) (1 + wire_number later a) 0) (same-name a b plan.wire same)
    ∙ ap (λ (n : ℕ). cond (not (string_eq plan.wire b)) (1 + n) 0) (number-same later a b same)

first-tells : (here there : Bool) (n m : ℕ) → here ≡ true → cond (not here) (1 + n) 0 ≡ cond (not there) (1 + m) 0 → there ≡ true
first-tells here true n m is same = refl
first-tells true false n m is same = absurd (omega (arith, same))
first-tells false false n m is same = absurd (cc)

later-tells : (here there : Bool) (n m : ℕ) → here ≡ false → cond (not here) (1 + n) 0 ≡ cond (not there) (1 + m) 0 → n ≡ m
later-tells true there n m is same = absurd (cc)
later-tells false true n m is same = absurd (omega (arith, same))
later-tells false false n m is same = omega (arith, same)

either-way : (b : Bool) → (b ≡ true) ⊎ (b ≡ false)
either-way true = inl refl
either-way false = inr refl

first-named : (first : HostPlan) (later : List HostPlan) (a b : String Global) → string_eq first.wire a ≡ true
    → wire_number (first ∷ later) a ≡ wire_number (first ∷ later) b → string_eq a b ≡ true
first-named first later a b here same =
    let other = first-tells (string_eq first.wire a) (string_eq first.wire b) (wire_number later a) (wire_number later b) here same in
    sym (string_eq_equiv.congr first.wire a b here) ∙ other

number-tells : (plans : List HostPlan) (k : ℕ) (plan : HostPlan) (b : String Global) → slice_get plans k ≡ Some plan
    → wire_number plans plan.wire ≡ wire_number plans b → string_eq plan.wire b ≡ true
number-tells [] k plan b there same = absurd (cc)
number-tells (first ∷ later) zero plan b there same =
    let first_is : first ≡ plan = cc in
    first-named first later plan.wire b
    (subst (λ (one : HostPlan). string_eq first.wire one.wire ≡ true) first_is (string_eq_equiv.refl first.wire)) same
number-tells (first ∷ later) (suc k) plan b there same = elim (either-way (string_eq first.wire plan.wire)) [
  | inl here ↦ first-named first later plan.wire b here same
  | inr other ↦
      number-tells later k plan b there
      (later-tells (string_eq first.wire plan.wire) (string_eq first.wire b) (wire_number later plan.wire) (wire_number later b) other
      same)
]

-- the place of the first host that names the wire is at most the number of hosts
case-short : (b : Bool) (n m : ℕ) → n ≤ m → cond b (1 + n) 0 ≤ suc m
case-short true n m short = omega (arith, short)
case-short false n m short = omega arith

place-short : {X : Type 0} (p : X → Bool) (xs : List X) → position_or_len p xs ≤ length xs
place-short p [] = omega arith
place-short p (x ∷ xs) = case-short (not (p x)) (position_or_len p xs) (length xs) (place-short p xs)

or-all : (place count : ℕ) → place ≤ count → unwrap_or (cond (nat_lt place count) (Some place) None) count ≡ place
or-all place count short = elim (cases_lt place count) [
  | inl below ↦
      let is : nat_lt place count ≡ true = lt-ltb place count below in
      ap (λ (b : Bool). unwrap_or (cond b (Some place) None) count) is
  | inr past ↦
      let is : nat_lt place count ≡ false = le-ltb place count past in
      let same : count ≡ place = omega (arith, past, short) in
      ap (λ (b : Bool). unwrap_or (cond b (Some place) None) count) is ∙ same
]

pub first-or-all : {X : Type 0} (p : X → Bool) (xs : List X) → unwrap_or (position p xs) (length xs) ≡ position_or_len p xs
first-or-all p xs = or-all (position_or_len p xs) (length xs) (place-short p xs)

pub refusal-is : (plans : List HostPlan) (number : ℕ) (plan : HostPlan) (error : InitError) (refusal : PlanError)
    → slice_get plans number ≡ Some plan → CanComeUp plans number → IsReason plan error
    → (error ≡ errors.Memory → refusal ≡ refused.Memory)
    → (error ≢ errors.Memory → refusal ≡ refused.Init number error) → IsRefusal plans refusal
refusal-is plans number plan errors.Memory refusal there can reason memory others = subst (IsRefusal plans) (sym (memory refl)) tt
refusal-is plans number plan errors.EepromTimeout refusal there can reason memory others = absurd reason
refusal-is plans number plan errors.Checksum refusal there can reason memory others =
    subst (IsRefusal plans) (sym (others (λ is. cc))) (plan, there, reason, can)
refusal-is plans number plan errors.PhyTimeout refusal there can reason memory others = absurd reason
refusal-is plans number plan errors.NoLink refusal there can reason memory others =
    subst (IsRefusal plans) (sym (others (λ is. cc))) (plan, there, reason, can)
refusal-is plans number plan errors.Config refusal there can reason memory others = absurd reason

pub share-wires : (plans : List HostPlan) (count : ℕ) (hosts : List HostState) (stations : List StationState)
    → AreUp plans count hosts stations → ShareWires plans stations
share-wires plans count hosts stations up j k one other a b one_there other_there a_there b_there =
    let first = up.wires j one a one_there a_there in
    let second = up.wires k other b other_there b_there in (
      (λ same. number-tells plans j one other.wire one_there (sym first ∙ same ∙ second)),
      (λ same. first ∙ number-same plans one.wire other.wire same ∙ sym second),
    )

-- Hosts

pushed : {X : Type 0} (xs : List X) (x y : X) (k : ℕ) → slice_get (xs ++ x ∷ []) k ≡ Some y
    → ((k < length xs) × (slice_get xs k ≡ Some y)) ⊎ ((k ≡ length xs) × (y ≡ x))
pushed [] x y zero there = inr (refl, (cc))
pushed [] x y (suc k) there = absurd (cc)
pushed (z ∷ xs) x y zero there = inl (omega arith, there)
pushed (z ∷ xs) x y (suc k) there = elim (pushed xs x y k there) [
  | inl before ↦ inl (omega (arith, before.0), before.1)
  | inr last ↦ inr (omega (arith, last.0), last.1)
]

pub up-none : (plans : List HostPlan) → AreUp plans 0 [] []
up-none plans = record {
  host_count = refl;
  station_count = refl;
  each = λ k plan host station there made on. absurd (cc);
  wires = λ k plan station there on. absurd (cc);
}

there-is : {X : Type 0} (xs : List X) (k : ℕ) → k < length xs → (x : X) × (slice_get xs k ≡ Some x)
there-is [] k below = absurd (omega (arith, below))
there-is (x ∷ xs) zero below = (x, refl)
there-is (x ∷ xs) (suc k) below = there-is xs k (omega (arith, below))

pub up-can : (plans : List HostPlan) (count : ℕ) (hosts : List HostState) (stations : List StationState)
    → AreUp plans count hosts stations → CanComeUp plans count
up-can plans count hosts stations up k plan below there =
    let count_of_hosts = up.host_count in
    let count_of_stations = up.station_count in
    let host = there-is hosts k (omega (arith, below, count_of_hosts)) in
    let station = there-is stations k (omega (arith, below, count_of_stations)) in
    let is = up.each k plan host.0 station.0 there host.1 station.1 in
    (is.devices.sum, is.devices.comes)

pub up-more : (plans : List HostPlan) (count : ℕ) (hosts : List HostState) (stations : List StationState) (host : HostState)
    (station : StationState)
    → AreUp plans count hosts stations
    → ((plan : HostPlan) → slice_get plans count ≡ Some plan → ComesUp plan host station)
    → ((plan : HostPlan) → slice_get plans count ≡ Some plan → station.wire ≡ wire_number plans plan.wire)
    → AreUp plans (count + 1) (hosts ++ host ∷ []) (stations ++ station ∷ [])
up-more plans count hosts stations host station up comes on = record {
  host_count = omega (arith, up.host_count, length-append hosts (host ∷ []));
  station_count = omega (arith, up.station_count, length-append stations (station ∷ []));
  each = λ k plan h s there made put. elim (pushed hosts host h k made) [
    | inl before ↦ elim (pushed stations station s k put) [
      | inl earlier ↦ up.each k plan h s there before.1 earlier.1
      | inr last ↦ absurd (omega (arith, before.0, last.0, up.host_count, up.station_count))
    ]
    | inr here ↦ elim (pushed stations station s k put) [
      | inl earlier ↦ absurd (omega (arith, earlier.0, here.0, up.host_count, up.station_count))
      | inr last ↦
          let is : slice_get plans count ≡ Some plan =
          ap (λ (n : ℕ). slice_get plans n) (sym (here.0 ∙ up.host_count)) ∙ there in
          subst (ComesUp plan h) (sym last.1) (subst (λ (one : HostState). ComesUp plan one station) (sym here.1) (comes plan is))
    ]
  ];
  wires = λ k plan s there put. elim (pushed stations station s k put) [
    | inl earlier ↦ up.wires k plan s there earlier.1
    | inr last ↦
        let is : slice_get plans count ≡ Some plan =
        ap (λ (n : ℕ). slice_get plans n) (sym (last.0 ∙ up.station_count)) ∙ there in
        ap (λ (one : StationState). one.wire) last.1 ∙ on plan is
  ];
}
