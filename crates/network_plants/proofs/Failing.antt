-- The host whose initialization fails, and why, if each link is up within 2,000 ticks or never.
use Rattle.std.proofs.Common.{◌≡◌, ◌≢◌, ℕ, List, Err, Ok, Result, Some, slice_get, inl, inr}
use Rattle.std.proofs.Common.{ap, refl, subst, sym, ◌∙◌, arith}
use Rattle.std.proofs.lemmas.Bool.{cases_order}
use Rattle.std.proofs.lemmas.Option.{same_Some, slice_get_within}
use Rattle.eeprom.specs.Image.{HasRightSum}
use Rattle.mdic_phy.specs.declared.phy.Link.TheVariants.{Never}
use Rattle.bring_up.specs.declared.init_error.InitError.{InitError}
use Rattle.bring_up.specs.declared.init_error.InitError.TheVariants as fault
use Rattle.host_calls.specs.Networks.{NetworkState}
use Rattle.network_plan.specs.declared.plan.HostPlan.{HostPlan}
use Rattle.network_plan.specs.declared.plan_error.PlanError.{PlanError}
use Rattle.network_plan.specs.declared.plan_error.PlanError.TheVariants.{Address, Config, Ends, Hosts, Init, Memory, Name}
use Rattle.wire.specs.HostsUp.{IsDevices, IsNotUp}
use Rattle.wire.specs.NewNetworks.{IsLanAnswer, IsMadeByPlan}
use Rattle.network_plants.specs.Alike.{IsSameFailure, LinksAreClear}
use Rattle.network_plants.proofs.Made.{there-is}

module _ (plans : List HostPlan) (clear : LinksAreClear plans) where
  cannot : (k : ℕ) (plan : HostPlan) (error : InitError) → slice_get plans k ≡ Some plan → IsDevices plan error
      → HasRightSum plan.image → plan.link ≢ Never → ⊥
  cannot k plan fault.Checksum there devices sum comes = devices sum
  cannot k plan fault.NoLink there devices sum comes = comes (clear k plan there devices.1)
  cannot k plan fault.Memory there devices sum comes = devices
  cannot k plan fault.EepromTimeout there devices sum comes = devices
  cannot k plan fault.PhyTimeout there devices sum comes = devices
  cannot k plan fault.Config there devices sum comes = devices

  one-reason : (plan : HostPlan) (a b : InitError) → IsDevices plan a → IsDevices plan b → a ≡ b
  one-reason plan fault.Checksum fault.Checksum x y = refl
  one-reason plan fault.Checksum fault.NoLink x y = absurd (x y.0)
  one-reason plan fault.NoLink fault.Checksum x y = absurd (y x.0)
  one-reason plan fault.NoLink fault.NoLink x y = refl
  one-reason plan fault.Checksum fault.Memory x y = absurd y
  one-reason plan fault.Checksum fault.EepromTimeout x y = absurd y
  one-reason plan fault.Checksum fault.PhyTimeout x y = absurd y
  one-reason plan fault.Checksum fault.Config x y = absurd y
  one-reason plan fault.NoLink fault.Memory x y = absurd y
  one-reason plan fault.NoLink fault.EepromTimeout x y = absurd y
  one-reason plan fault.NoLink fault.PhyTimeout x y = absurd y
  one-reason plan fault.NoLink fault.Config x y = absurd y
  one-reason plan fault.Memory b x y = absurd x
  one-reason plan fault.EepromTimeout b x y = absurd x
  one-reason plan fault.PhyTimeout b x y = absurd x
  one-reason plan fault.Config b x y = absurd x

  one-host : (j k : ℕ) (a b : InitError) → IsNotUp plans j a → IsNotUp plans k b → Init k b ≡ Init j a
  one-host j k a b x y = elim (cases_order j k) [
    | inl same ↦ (let plan : y.0 ≡ x.0 = same_Some y.0 x.0 (sym y.1 ∙ ap (slice_get plans) (sym same) ∙ x.1) in
        ap (λ (n : ℕ). Init n b) (sym same)
        ∙ ap (Init j) (one-reason x.0 b a (subst (λ (p : HostPlan). IsDevices p b) plan y.2) x.2))
    | inr order ↦ elim order [
      | inl below ↦ (let up = y.3 j x.0 below x.1 in absurd (cannot j x.0 a x.1 x.2 up.0 up.1))
      | inr above ↦ (let up = x.3 k y.0 above y.1 in absurd (cannot k y.0 b y.1 y.2 up.0 up.1))
    ]
  ]

  none-made : (network : NetworkState) (host : ℕ) (error : InitError) → IsNotUp plans host error → IsMadeByPlan plans network → ⊥
  none-made network host error x made =
      let below = slice_get_within plans host x.0 x.1 in
      let h = there-is network.hosts host (omega (arith, below, made.up.host_count)) in
      let s = there-is network.stations host (omega (arith, below, made.up.station_count)) in
      let devices = (made.up.each host x.0 h.0 s.0 x.1 h.1 s.1).devices in
      cannot host x.0 error x.1 x.2 devices.sum devices.comes

  same-failure : (host : ℕ) (error : InitError) (b : Result NetworkState PlanError) → IsLanAnswer plans (Err (Init host error))
      → IsLanAnswer plans b → IsSameFailure host error b
  same-failure host error (Ok network) x y = absurd (none-made network host error x.1 y.1)
  same-failure host error (Err Memory) x y = inl refl
  same-failure host error (Err (Init other reason)) x y = inr (ap Err (one-host host other error reason x.1 y.1))
  same-failure host error (Err Name) x y = absurd (y x.0.0)
  same-failure host error (Err Ends) x y = absurd (y.1 x.0.1)
  same-failure host error (Err Hosts) x y = absurd (y.2 x.0.2)
  same-failure host error (Err Address) x y = absurd (y.3 x.0.3)
  same-failure host error (Err Config) x y = absurd (y.4 x.0.4)

pub failures-alike : (plans : List HostPlan) (a b : Result NetworkState PlanError) → IsLanAnswer plans a → IsLanAnswer plans b
    → LinksAreClear plans → (host : ℕ) (error : InitError) → a ≡ Err (Init host error) → IsSameFailure host error b
failures-alike plans a b x y clear host error is =
    same-failure plans clear host error b (subst (λ (answer : Result NetworkState PlanError). IsLanAnswer plans answer) is x) y
