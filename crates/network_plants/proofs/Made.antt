-- Networks that one plan makes are alike.
use Rattle.std.proofs.Common.{◌≡◌, ◌<◌, ℕ, List, [], ◌∷◌, Err, Ok, Result, Some}
use Rattle.std.proofs.Common.{ap, length, refl, slice_get, subst, suc, sym, zero, ◌∙◌, arith}
use Rattle.std.proofs.lemmas.Option.{slice_get_within}
use Rattle.host_calls.specs.Networks.{NetworkState}
use Rattle.network_plan.specs.declared.plan.HostPlan.{HostPlan}
use Rattle.network_plan.specs.declared.plan_error.PlanError.{PlanError}
use Rattle.network_plan.specs.declared.plan_error.PlanError.TheVariants.{Address, Config, Ends, Hosts, Init, Memory, Name}
use Rattle.packet_socket.specs.HostState.{HostState}
use Rattle.rx_filter.specs.Laws.{Passes-same, SameSets-sym}
use Rattle.rx_filter.specs.Passing.{Passes}
use Rattle.rx_filter.specs.Registers.{FilterRegisters, filter_of}
use Rattle.stations.specs.Stations.{StationState}
use Rattle.wire.specs.Filters.{HasPlansFilter, plans_filter}
use Rattle.wire.specs.HostsUp.{AreUp, ComesUp}
use Rattle.wire.specs.NewNetworks.{IsLanAnswer, IsMadeByPlan, IsRight}
use Rattle.network_plants.specs.Alike.{HostsAreAlike, IsOfPlan, NetworksAreAlike}

passes-too : (plan : HostPlan) (a b : FilterRegisters) (frame : List ℕ) → HasPlansFilter plan a → HasPlansFilter plan b
    → Passes (filter_of a) frame → Passes (filter_of b) frame
passes-too plan a b frame x y passes =
    Passes-same (plans_filter plan) (filter_of b) frame (SameSets-sym (filter_of b) (plans_filter plan) y)
    (Passes-same (filter_of a) (plans_filter plan) frame x passes)

pub hosts-alike : (plan : HostPlan) (one other : HostState) (s s' : StationState) → ComesUp plan one s → ComesUp plan other s'
    → HostsAreAlike one s.world other s'.world
hosts-alike plan one other s s' x y = record {
  layout = x.sizes.layout ∙ sym y.sizes.layout;
  memory = x.sizes.memory ∙ sym y.sizes.memory;
  kinds = x.sizes.kinds ∙ sym y.sizes.kinds;
  allocation = x.sizes.allocation ∙ sym y.sizes.allocation;
  passes = λ frame. (
    passes-too plan s.world.adapter.filter s'.world.adapter.filter frame x.sizes.filter y.sizes.filter,
    passes-too plan s'.world.adapter.filter s.world.adapter.filter frame y.sizes.filter x.sizes.filter,
  );
  image = x.devices.image ∙ sym y.devices.image;
  link = x.devices.link_is ∙ sym y.devices.link_is;
}

pub there-is : {X : Type 0} (xs : List X) (k : ℕ) → k < length xs → (x : X) × (slice_get xs k ≡ Some x)
there-is [] k below = absurd (omega (arith, below))
there-is (x ∷ xs) zero below = (x, refl)
there-is (x ∷ xs) (suc k) below = there-is xs k (omega (arith, below))

plan-of : (plans : List HostPlan) (count : ℕ) (hosts : List HostState) (stations : List StationState) (k : ℕ) (s : StationState)
    → AreUp plans count hosts stations → count ≡ length plans → slice_get stations k ≡ Some s
    → (plan : HostPlan) × (slice_get plans k ≡ Some plan)
plan-of plans count hosts stations k s up all there =
    let within = slice_get_within stations k s there in
    let stationed = up.station_count in
    there-is plans k (omega (arith, within, stationed, all))

pub networks-alike : (plans : List HostPlan) (one other : NetworkState) → IsMadeByPlan plans one → IsMadeByPlan plans other
    → NetworksAreAlike one other
networks-alike plans one other x y = record {
  count = x.up.host_count ∙ sym y.up.host_count;
  hosts = λ k h h' s s' is is' on on'.
      let plan = plan-of plans (length plans) one.hosts one.stations k s x.up refl on in
      hosts-alike plan.0 h h' s s' (x.up.each k plan.0 h s plan.1 is on) (y.up.each k plan.0 h' s' plan.1 is' on');
  wires = λ k s s' on on'.
      let plan = plan-of plans (length plans) one.hosts one.stations k s x.up refl on in
      x.up.wires k plan.0 s plan.1 on ∙ sym (y.up.wires k plan.0 s' plan.1 on');
}

not-right : (plans : List HostPlan) (a : PlanError) → IsOfPlan a → IsLanAnswer plans (Err a) → IsRight plans → ⊥
not-right plans Name of x y = x y.0
not-right plans Ends of x y = x.1 y.1
not-right plans Hosts of x y = x.2 y.2
not-right plans Address of x y = x.3 y.3
not-right plans Config of x y = x.4 y.4
not-right plans Memory of x y = of
not-right plans (Init host error) of x y = of

one-reason : (plans : List HostPlan) (a b : PlanError) → IsOfPlan a → IsOfPlan b → IsLanAnswer plans (Err a) → IsLanAnswer plans (Err b)
    → a ≡ b
one-reason plans Memory b of of' x y = absurd of
one-reason plans (Init host error) b of of' x y = absurd of
one-reason plans Name Name of of' x y = refl
one-reason plans Name Ends of of' x y = absurd (x y.0)
one-reason plans Name Hosts of of' x y = absurd (x y.0)
one-reason plans Name Address of of' x y = absurd (x y.0)
one-reason plans Name Config of of' x y = absurd (x y.0)
one-reason plans Name Memory of of' x y = absurd of'
one-reason plans Name (Init host error) of of' x y = absurd of'
one-reason plans Ends Name of of' x y = absurd (y x.0)
one-reason plans Ends Ends of of' x y = refl
one-reason plans Ends Hosts of of' x y = absurd (x.1 y.1)
one-reason plans Ends Address of of' x y = absurd (x.1 y.1)
one-reason plans Ends Config of of' x y = absurd (x.1 y.1)
one-reason plans Ends Memory of of' x y = absurd of'
one-reason plans Ends (Init host error) of of' x y = absurd of'
one-reason plans Hosts Name of of' x y = absurd (y x.0)
one-reason plans Hosts Ends of of' x y = absurd (y.1 x.1)
one-reason plans Hosts Hosts of of' x y = refl
one-reason plans Hosts Address of of' x y = absurd (x.2 y.2)
one-reason plans Hosts Config of of' x y = absurd (x.2 y.2)
one-reason plans Hosts Memory of of' x y = absurd of'
one-reason plans Hosts (Init host error) of of' x y = absurd of'
one-reason plans Address Name of of' x y = absurd (y x.0)
one-reason plans Address Ends of of' x y = absurd (y.1 x.1)
one-reason plans Address Hosts of of' x y = absurd (y.2 x.2)
one-reason plans Address Address of of' x y = refl
one-reason plans Address Config of of' x y = absurd (x.3 y.3)
one-reason plans Address Memory of of' x y = absurd of'
one-reason plans Address (Init host error) of of' x y = absurd of'
one-reason plans Config Name of of' x y = absurd (y x.0)
one-reason plans Config Ends of of' x y = absurd (y.1 x.1)
one-reason plans Config Hosts of of' x y = absurd (y.2 x.2)
one-reason plans Config Address of of' x y = absurd (y.3 x.3)
one-reason plans Config Config of of' x y = refl
one-reason plans Config Memory of of' x y = absurd of'
one-reason plans Config (Init host error) of of' x y = absurd of'

refused-once : (plans : List HostPlan) (a : PlanError) (b : Result NetworkState PlanError) → IsOfPlan a → IsLanAnswer plans (Err a)
    → IsLanAnswer plans b → b ≡ Err a
refused-once plans a (Ok network) of x y = absurd (not-right plans a of x y.0)
refused-once plans a (Err Memory) of x y = absurd (not-right plans a of x y)
refused-once plans a (Err (Init host error)) of x y = absurd (not-right plans a of x y.0)
refused-once plans a (Err Name) of x y = ap Err (one-reason plans Name a tt of y x)
refused-once plans a (Err Ends) of x y = ap Err (one-reason plans Ends a tt of y x)
refused-once plans a (Err Hosts) of x y = ap Err (one-reason plans Hosts a tt of y x)
refused-once plans a (Err Address) of x y = ap Err (one-reason plans Address a tt of y x)
refused-once plans a (Err Config) of x y = ap Err (one-reason plans Config a tt of y x)

pub refusals-alike : (plans : List HostPlan) (a b : Result NetworkState PlanError) → IsLanAnswer plans a → IsLanAnswer plans b
    → (error : PlanError) → a ≡ Err error → IsOfPlan error → b ≡ Err error
refusals-alike plans a b x y error is of =
    refused-once plans error b of (subst (λ (answer : Result NetworkState PlanError). IsLanAnswer plans answer) is x) y

pub made-alike : (plans : List HostPlan) (a b : Result NetworkState PlanError) → IsLanAnswer plans a → IsLanAnswer plans b
    → (one other : NetworkState) → a ≡ Ok one → b ≡ Ok other → NetworksAreAlike one other
made-alike plans a b x y one other is is' =
    let p = subst (λ (answer : Result NetworkState PlanError). IsLanAnswer plans answer) is x in
    let q = subst (λ (answer : Result NetworkState PlanError). IsLanAnswer plans answer) is' y in
    networks-alike plans one other p.1 q.1
