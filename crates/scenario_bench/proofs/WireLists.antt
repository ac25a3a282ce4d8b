-- The loop that collects the names of wires.
use Rattle.std.proofs.Common.{◌≡◌, ◌<◌, ◌≤◌, ◌+◌, ◌++◌, ◌∷◌, [], ℕ, Bool, true, false, List, length, take}
use Rattle.std.proofs.Common.{◌||◌, if◌then◌else◌, slice_index_or}
use Rattle.std.proofs.Common.{refl, sym, ap, ◌∙◌, arith, bytes_eq, string_bytes}
use Rattle.std.specs.Borrow.{Bor}
use Rattle.std.specs.List.{list_any}
use Rattle.std.proofs.lemmas.Grind.{common_steps}
use Rattle.std.proofs.lemmas.List.{map-append, take_all}
use Rattle.std.proofs.lemmas.List.Sums.{fold-append}
use Rattle.network_plan.specs.declared.plan.HostPlan.{HostPlan}
use Rattle.scenario.specs.SoFar.{host_of_plan, hosts_of}
use Rattle.scenario_bench.specs.WireLists.{wire_names, with_wire_of}
use Rattle.run_record.specs.Puts.{names_in}

any-map : (wire : List ℕ) (wires : List (Bor (List ℕ)))
    → list_any (λ (name : List ℕ). bytes_eq name wire) (names_in wires) ≡ list_any (λ (name : Bor (List ℕ)). bytes_eq name.now wire) wires
any-map wire [] = refl
any-map wire (one ∷ wires) = ap (λ (b : Bool). bytes_eq one.now wire || b) (any-map wire wires)

chosen : (there : Bool) (names more : List (List ℕ)) (b : Bool) → b ≡ there
    → (if b then names else more) ≡ (if there then names else more)
chosen there names more b is = ap (λ (c : Bool). if c then names else more) is

one-more : (plans : List HostPlan) (number : ℕ) (plan d : HostPlan) (wires : List (Bor (List ℕ))) (there : Bool) → number < length plans
    → plan ≡ slice_index_or plans number d → names_in wires ≡ wire_names (hosts_of (take number plans))
    → list_any (λ (name : Bor (List ℕ)). bytes_eq name.now (string_bytes plan.wire)) wires ≡ there
    → wire_names (hosts_of (take (number + 1) plans))
    ≡ (if there then names_in wires else names_in wires ++ string_bytes plan.wire ∷ [])
one-more plans number plan d wires there below is so_far tested =
    let first = take number plans in
    let host = host_of_plan plan in
    let taken : take (number + 1) plans ≡ first ++ plan ∷ [] = grind (arith, common_steps, below, is) in
    let hosts : hosts_of (take (number + 1) plans) ≡ hosts_of first ++ host ∷ [] =
    ap hosts_of taken ∙ map-append host_of_plan first (plan ∷ []) in
    ap wire_names hosts
    ∙ fold-append with_wire_of [] (hosts_of first) (host ∷ [])
    ∙ ap (λ (names : List (List ℕ)). with_wire_of names host) (sym so_far)
    ∙ chosen there (names_in wires) (names_in wires ++ host.wire ∷ [])
    (list_any (λ (name : List ℕ). bytes_eq name host.wire) (names_in wires)) (any-map host.wire wires ∙ tested)

pub wire_there : (plans : List HostPlan) (number : ℕ) (plan d : HostPlan) (wires : List (Bor (List ℕ))) → number < length plans
    → plan ≡ slice_index_or plans number d → names_in wires ≡ wire_names (hosts_of (take number plans))
    → list_any (λ (name : Bor (List ℕ)). bytes_eq name.now (string_bytes plan.wire)) wires ≡ true
    → names_in wires ≡ wire_names (hosts_of (take (number + 1) plans))
wire_there plans number plan d wires below is so_far tested = sym (one-more plans number plan d wires true below is so_far tested)

pub wire_more : (plans : List HostPlan) (number : ℕ) (plan d : HostPlan) (wires more : List (Bor (List ℕ))) (wire : Bor (List ℕ))
    → number < length plans → plan ≡ slice_index_or plans number d → names_in wires ≡ wire_names (hosts_of (take number plans))
    → list_any (λ (name : Bor (List ℕ)). bytes_eq name.now (string_bytes plan.wire)) wires ≡ false
    → wire.now ≡ string_bytes plan.wire → more ≡ wires ++ wire ∷ [] → names_in more ≡ wire_names (hosts_of (take (number + 1) plans))
wire_more plans number plan d wires more wire below is so_far tested named grown =
    ap names_in grown ∙ map-append (λ (name : Bor (List ℕ)). name.now) wires (wire ∷ [])
    ∙ ap (λ (name : List ℕ). names_in wires ++ name ∷ []) named
    ∙ sym (one-more plans number plan d wires false below is so_far tested)

pub wires_all : (plans : List HostPlan) (number : ℕ) (wires : List (Bor (List ℕ))) → length plans ≤ number
    → names_in wires ≡ wire_names (hosts_of (take number plans)) → names_in wires ≡ wire_names (hosts_of plans)
wires_all plans number wires past is = is ∙ ap (λ (hosts : List HostPlan). wire_names (hosts_of hosts)) (take_all number plans past)
