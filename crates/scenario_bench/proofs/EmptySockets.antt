-- The numbers of a host's sockets, one after another.
use Rattle.std.proofs.Common.{◌≡◌, ◌<◌, ◌+◌, ◌++◌, ◌∷◌, [], zero, suc, ℕ, List, length, map, take, slice_index_or}
use Rattle.std.proofs.Common.{sym, ap, ◌∙◌, arith, append_assoc, append-nil}
use Rattle.std.proofs.lemmas.Grind.{common_steps}
use Rattle.std.proofs.lemmas.List.{map-append}
use Rattle.std.specs.List.{range_with_len}
use Rattle.network_plan.specs.declared.plan.HostPlan.{HostPlan}
use Rattle.scenario.specs.SoFar.{Host, host_of_plan, hosts_of}
use Rattle.scenario_bench.specs.Given.{sockets_from, sockets_of_host}

range-suc : (a n : ℕ) → range_with_len a (suc n) ≡ range_with_len a n ++ (a + n) ∷ []
range-suc a zero = ap (λ (k : ℕ). k ∷ []) (omega arith)
range-suc a (suc n) = ap (λ (ks : List ℕ). a ∷ ks) (range-suc (a + 1) n ∙ ap (λ (k : ℕ). range_with_len (a + 1) n ++ k ∷ []) (omega arith))

range-more : (a n : ℕ) → range_with_len a (n + 1) ≡ range_with_len a n ++ (a + n) ∷ []
range-more a n = let more : n + 1 ≡ suc n = omega arith in ap (range_with_len a) more ∙ range-suc a n

from-more : (number : ℕ) (hosts : List Host) (host : Host)
    → sockets_from number (hosts ++ host ∷ []) ≡ sockets_from number hosts ++ sockets_of_host (number + length hosts) (length host.sockets)
from-more number [] host = append-nil (sockets_of_host number (length host.sockets))
    ∙ ap (λ (n : ℕ). sockets_of_host n (length host.sockets)) (omega arith)
from-more number (first ∷ hosts) host =
    ap (λ (l : List (ℕ × ℕ)). sockets_of_host number (length first.sockets) ++ l) (from-more (number + 1) hosts host
    ∙ ap (λ (n : ℕ). sockets_from (number + 1) hosts ++ sockets_of_host n (length host.sockets)) (omega arith))
    ∙ sym (append_assoc (sockets_of_host number (length first.sockets)) (sockets_from (number + 1) hosts)
    (sockets_of_host (number + length (first ∷ hosts)) (length host.sockets)))

pub no_pair : (host : ℕ) (old : List (ℕ × ℕ)) → old ≡ old ++ sockets_of_host host 0
no_pair host old = sym (append-nil old)

pub pair_more : (host count : ℕ) (old places new : List (ℕ × ℕ)) → places ≡ old ++ sockets_of_host host count
    → new ≡ places ++ (host, count) ∷ [] → new ≡ old ++ sockets_of_host host (count + 1)
pair_more host count old places new is more =
    let all : sockets_of_host host (count + 1) ≡ sockets_of_host host count ++ (host, count) ∷ [] =
    ap (map (λ (socket : ℕ). (host, socket))) (range-more 0 count)
    ∙ map-append (λ (socket : ℕ). (host, socket)) (range_with_len 0 count) ((0 + count) ∷ [])
    ∙ ap (λ (k : ℕ). sockets_of_host host count ++ (host, k) ∷ []) (omega arith) in
    more ∙ ap (λ (l : List (ℕ × ℕ)). l ++ (host, count) ∷ []) is
    ∙ append_assoc old (sockets_of_host host count) ((host, count) ∷ []) ∙ ap (λ (l : List (ℕ × ℕ)). old ++ l) (sym all)

pub sockets_more : (plans : List HostPlan) (number count : ℕ) (plan d : HostPlan) (places new : List (ℕ × ℕ)) → number < length plans
    → plan ≡ slice_index_or plans number d → count ≡ length plan.sockets.items → places ≡ sockets_from 0 (hosts_of (take number plans))
    → new ≡ places ++ sockets_of_host number count → new ≡ sockets_from 0 (hosts_of (take (number + 1) plans))
sockets_more plans number count plan d places new below there counts is more =
    let first = take number plans in
    let taken : take (number + 1) plans ≡ first ++ plan ∷ [] = grind (arith, common_steps, below, there) in
    let before : length (hosts_of first) ≡ number = grind (arith, common_steps, below) in
    let hosts : hosts_of (take (number + 1) plans) ≡ hosts_of first ++ host_of_plan plan ∷ [] =
    ap hosts_of taken ∙ map-append host_of_plan first (plan ∷ []) in
    more ∙ ap (λ (n : ℕ). places ++ sockets_of_host number n) counts
    ∙ ap (λ (l : List (ℕ × ℕ)). l ++ sockets_of_host number (length plan.sockets.items)) is
    ∙ sym (ap (λ (hs : List Host). sockets_from 0 hs) hosts
    ∙ from-more 0 (hosts_of first) (host_of_plan plan)
    ∙ ap (λ (n : ℕ). sockets_from 0 (hosts_of first) ++ sockets_of_host n (length plan.sockets.items)) (omega (arith, before)))
