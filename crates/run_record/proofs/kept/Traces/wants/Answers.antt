use Rattle.std.proofs.Common.{◌≡◌, ◌==◌, ◌&&◌, ℕ, Bool, false, List, Option, ap, inl, inr, option_map, sym, unwrap_or, ◌∙◌}
use Rattle.std.proofs.lemmas.Bool.Decides.{eqb_tells}
use Rattle.std.specs.Borrow.{Bor}
use Rattle.std.specs.Str.{bytes_eq}
use Rattle.scenario.specs.SoFar.{Host, hosts_of}
use Rattle.run_record.specs.Kept.{is_of_socket}
use Rattle.run_record.specs.Puts.{is_on_wire}
use Rattle.run_record.specs.Traces.{is_in_trace}
use Rattle.run_record.specs.declared.kept.Traces.{Traces}
use Rattle.run_record.proofs.Found.{item-found, none-found}
use Rattle.run_record.proofs.kept.Traces.wants.Goals as goal

same-host : (a host : ℕ) (rest : Bool) → a ≡ host → rest ≡ (a == host) && rest
same-host a host rest is = elim (eqb_tells a host) [
  | inl same ↦ sym (ap (λ (one : Bool). one && rest) same.0)
  | inr other ↦ absurd (other.1 is)
]

other-host : (a host : ℕ) (rest : Bool) → (a ≡ host → ⊥) → (a == host) ≡ (a == host) && rest
other-host a host rest differ = elim (eqb_tells a host) [
  | inl same ↦ absurd (differ same.1)
  | inr other ↦ other.0 ∙ sym (ap (λ (one : Bool). one && rest) other.0)
]

-- whether the socket that `get` found is the frame's
abbrev of-socket : (host socket : ℕ) → Option (ℕ × ℕ) → Bool
of-socket host socket found = unwrap_or (option_map (λ (place : ℕ × ℕ). is_of_socket place.0 place.1 host socket) found) false

-- whether the frame's host is on the wire whose name `get` found
abbrev on-wire : List Host → (host socket : ℕ) → Option (Bor (List ℕ)) → Bool
on-wire hosts host socket found =
    unwrap_or (option_map (λ (wire : Bor (List ℕ)). is_on_wire hosts wire.now host socket) found) false

pub returns-then-of_host-host : goal.returns-then-of_host-host
returns-then-of_host-host c =
    let one = c.in-Some.field-0.now in
    let found = item-found c.in-Sockets.sockets.now c.args.trace one c.in-Some.ensures.lookup.0 c.in-Some.ensures.lookup.1 in
    same-host one.0 c.args.host (one.1 == c.args.socket) c.if-of_host-host.true
    ∙ sym (ap (λ (traces : Traces). is_in_trace traces c.args.trace c.args.host c.args.socket) c.in-Sockets.is
    ∙ ap (of-socket c.args.host c.args.socket) found)

pub returns-else-of_host-host : goal.returns-else-of_host-host
returns-else-of_host-host c =
    let one = c.in-Some.field-0.now in
    let found = item-found c.in-Sockets.sockets.now c.args.trace one c.in-Some.ensures.lookup.0 c.in-Some.ensures.lookup.1 in
    other-host one.0 c.args.host (one.1 == c.args.socket) c.if-of_host-host.false
    ∙ sym (ap (λ (traces : Traces). is_in_trace traces c.args.trace c.args.host c.args.socket) c.in-Sockets.is
    ∙ ap (of-socket c.args.host c.args.socket) found)

pub returns-in-None : goal.returns-in-None
returns-in-None c =
    sym (ap (λ (traces : Traces). is_in_trace traces c.args.trace c.args.host c.args.socket) c.in-Sockets.is
    ∙ ap (of-socket c.args.host c.args.socket) (none-found c.in-Sockets.sockets.now c.args.trace c.in-None.ensures.lookup.0))

pub returns-in-Some-get : goal.returns-in-Some-get
returns-in-Some-get c =
    let wire = c.in-Some-get.wire.now in
    let found = item-found c.in-Wires.names.now c.args.trace wire c.in-Some-get.ensures.lookup.0 c.in-Some-get.ensures.lookup.1 in
    c.eq.ensures ∙ ap (λ (name : List ℕ). bytes_eq name wire.now) c.wire_of.ensures
    ∙ sym (ap (λ (traces : Traces). is_in_trace traces c.args.trace c.args.host c.args.socket) c.in-Wires.is
    ∙ ap (on-wire (hosts_of c.in-Wires.plans.now) c.args.host c.args.socket) found)

pub returns-in-None-get : goal.returns-in-None-get
returns-in-None-get c =
    sym (ap (λ (traces : Traces). is_in_trace traces c.args.trace c.args.host c.args.socket) c.in-Wires.is
    ∙ ap (on-wire (hosts_of c.in-Wires.plans.now) c.args.host c.args.socket)
    (none-found c.in-Wires.names.now c.args.trace c.in-None-get.ensures.lookup.0))
