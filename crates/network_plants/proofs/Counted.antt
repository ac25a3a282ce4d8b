-- Two results of `Lan::counts` for one host are the same, by the clauses of this call.
use Rattle.std.proofs.Common.{◌≡◌, ◌≤◌, ◌↔◌, ◌+◌, ℕ, Bool, IfSome, IsNone, IsTrue, None, Option}
use Rattle.std.proofs.Common.{Some, ap, false, inl, inr, length, refl, sym, true, ◌∙◌, arith}
use Rattle.std.proofs.lemmas.Option.{slice_get_cases}
use Rattle.adapter.specs.World.{World}
use Rattle.host_calls.specs.Networks.{IsHost, NetworkState}
use Rattle.packet_socket.specs.HostState.{HostState}
use Rattle.stations.specs.Stations.{world_at}
use Rattle.wire.specs.Counting.{AreCounts}
use Rattle.wire.specs.declared.counts.Counts.{Counts}

same-bool : (P : Type 0) (a b : Bool) → IsTrue a ↔ P → IsTrue b ↔ P → a ≡ b
same-bool P true true x y = refl
same-bool P false false x y = refl
same-bool P true false x y = sym (y.1 (x.0 refl))
same-bool P false true x y = x.1 (y.0 refl)

counts-with : (missed : ℕ) (exact : Bool) (without_descriptor received transmitted unclaimed : ℕ) → Counts
counts-with missed exact without_descriptor received transmitted unclaimed = record {
  missed = missed;
  exact = exact;
  without_descriptor = without_descriptor;
  received = received;
  transmitted = transmitted;
  unclaimed = unclaimed;
}

same-counts : (host : HostState) (world : World) (a b : Counts) → AreCounts host world a → AreCounts host world b → a ≡ b
unfolding counts-with
same-counts host world a b x y =
    let missed : a.missed ≡ b.missed = x.missed ∙ sym y.missed in
    let exact = same-bool _ a.exact b.exact x.exact y.exact in
    let without : a.without_descriptor ≡ b.without_descriptor = x.without_descriptor ∙ sym y.without_descriptor in
    let received : a.received ≡ b.received = x.received ∙ sym y.received in
    let transmitted : a.transmitted ≡ b.transmitted = x.transmitted ∙ sym y.transmitted in
    let unclaimed : a.unclaimed ≡ b.unclaimed = x.unclaimed ∙ sym y.unclaimed in
    let same : counts-with a.missed a.exact a.without_descriptor a.received a.transmitted a.unclaimed
    ≡ counts-with b.missed b.exact b.without_descriptor b.received b.transmitted b.unclaimed = cc in
    same

pub counts-alike : (lan : NetworkState) (host : ℕ) (a b : Option Counts) → IsNone a ↔ (length lan.hosts ≤ host)
    → IsNone b ↔ (length lan.hosts ≤ host)
    → ((state : HostState) → IsHost lan host state → IfSome a (AreCounts state (world_at lan.stations host)))
    → ((state : HostState) → IsHost lan host state → IfSome b (AreCounts state (world_at lan.stations host))) → a ≡ b
counts-alike lan host None None na nb ca cb = refl
counts-alike lan host (Some x) None na nb ca cb = let none : IsNone (Some x) = na.1 (nb.0 refl) in grind (arith, none)
counts-alike lan host None (Some y) na nb ca cb = let none : IsNone (Some y) = nb.1 (na.0 refl) in grind (arith, none)
counts-alike lan host (Some x) (Some y) na nb ca cb = elim (slice_get_cases lan.hosts host).1 [
  | inl there ↦ ap Some (same-counts there.0 (world_at lan.stations host) x y (ca there.0 there.2) (cb there.0 there.2))
  | inr past ↦ let none : IsNone (Some x) = na.1 past.0 in grind (arith, none)
]

pub rooms-alike : (lan : NetworkState) (host a b : ℕ)
    → ((state : HostState) → IsHost lan host state → a ≡ state.driver.layout.buffers + 614)
    → ((state : HostState) → IsHost lan host state → b ≡ state.driver.layout.buffers + 614)
    → (length lan.hosts ≤ host → a ≡ 0) → (length lan.hosts ≤ host → b ≡ 0) → a ≡ b
rooms-alike lan host a b there there' none none' = elim (slice_get_cases lan.hosts host).1 [
  | inl here ↦ there here.0 here.2 ∙ sym (there' here.0 here.2)
  | inr past ↦ none past.0 ∙ sym (none' past.0)
]
