-- Steps of the loops that make the events of commands.
use Rattle.std.proofs.Common.{◌≡◌, ◌<◌, ◌+◌, ◌/◌, ◌%◌, ◌==◌, ◌&&◌, [], ◌∷◌, ◌++◌, ◌∙◌}
use Rattle.std.proofs.Common.{Bool, bytes_eq, drop, false, if◌then◌else◌, not, string_bytes, true}
use Rattle.std.proofs.Common.{◌≢◌, ℕ, zero, suc, List, Option, length, get_or, refl, sym, ap, append_assoc, arith, rules}
use Rattle.std.specs.List.{range_with_len}
use Rattle.std.specs.Prelude.{map, option_map, unwrap_or}
use Rattle.std.proofs.lemmas.List.{drop_more, length-map}
use Rattle.std.proofs.lemmas.List.FromFn.{map-range_with_len_more}
use Rattle.std.proofs.lemmas.Option.{slice_get-get_or, slice_get-map}
use Rattle.adapter.specs.model_types.step.StepKind.TheVariants.{RxData, RxDone}
use Rattle.eeprom.specs.Image.{address_bytes}
use Rattle.network_plan.specs.declared.plan.HostPlan.{HostPlan}
use Rattle.stations.specs.declared.tick.Tick.TheVariants.{Deliver, Step}
use Rattle.scenario.specs.SoFar.{Host, Said, Interrupts, Receives, Ticks, host_of_plan, hosts_of}
use Rattle.scenario_bench.specs.EventLists.{arrival_at, arrivals_from, moves_of_pieces}
use Rattle.scenario_bench.specs.EventLists.{broadcast_of, event_drawn, event_of_kind, host_address, late_frame}

moves-more : (host piece : ℕ) → moves_of_pieces host (piece + 1)
    ≡ moves_of_pieces host piece ++ Ticks (Step host RxData) ∷ Ticks (Step host RxDone) ∷ []
moves-more host zero = refl
moves-more host (suc piece) =
    let next : suc piece + 1 ≡ suc (piece + 1) = omega arith in
    ap (moves_of_pieces host) next
    ∙ ap (λ (later : List Said). Ticks (Step host RxData) ∷ Ticks (Step host RxDone) ∷ later) (moves-more host piece)

pub moved-more : (before so_far all : List Said) (moved ended : Said) (host piece : ℕ)
    → so_far ≡ before ++ moves_of_pieces host piece → all ≡ so_far ++ moved ∷ ended ∷ []
    → moved ≡ Ticks (Step host RxData) → ended ≡ Ticks (Step host RxDone) → all ≡ before ++ moves_of_pieces host (piece + 1)
moved-more before so_far all moved ended host piece is more moved_is ended_is =
    more ∙ ap (λ (said : List Said). said ++ moved ∷ ended ∷ []) is
    ∙ ap (λ (said : Said). (before ++ moves_of_pieces host piece) ++ said ∷ ended ∷ []) moved_is
    ∙ ap (λ (said : Said). (before ++ moves_of_pieces host piece) ++ Ticks (Step host RxData) ∷ said ∷ []) ended_is
    ∙ append_assoc before (moves_of_pieces host piece) (Ticks (Step host RxData) ∷ Ticks (Step host RxDone) ∷ [])
    ∙ ap (λ (more : List Said). before ++ more) (sym (moves-more host piece))

arrival_at-more : (pieces host socket : ℕ)
    → arrival_at pieces host (socket + 1) ≡ arrival_at pieces host socket ++ Receives host socket [] ∷ []
arrival_at-more pieces host socket =
    let asked : ℕ → List Said = λ sockets. Interrupts host [] ∷ map (λ n. Receives host n []) (range_with_len 0 sockets) in
    ap (λ (later : List Said). Ticks (Deliver host) ∷ moves_of_pieces host pieces ++ Interrupts host [] ∷ later)
    (map-range_with_len_more (λ (n : ℕ). Receives host n []) 0 socket socket (omega arith))
    ∙ sym (append_assoc (Ticks (Deliver host) ∷ moves_of_pieces host pieces) (asked socket) (Receives host socket [] ∷ []))

pub arrives-none : (before delivered moved all : List Said) (pieces host : ℕ) → delivered ≡ before ++ Ticks (Deliver host) ∷ []
    → moved ≡ delivered ++ moves_of_pieces host pieces → all ≡ moved ++ Interrupts host [] ∷ [] → all ≡ before ++ arrival_at pieces host 0
arrives-none before delivered moved all pieces host delivers moves interrupts =
    let steps = moves_of_pieces host pieces in
    interrupts
    ∙ ap (λ (said : List Said). said ++ Interrupts host [] ∷ []) (moves ∙ ap (λ (said : List Said). said ++ steps) delivers)
    ∙ append_assoc (before ++ Ticks (Deliver host) ∷ []) steps (Interrupts host [] ∷ [])
    ∙ append_assoc before (Ticks (Deliver host) ∷ []) (steps ++ Interrupts host [] ∷ [])

pub arrives-more : (before so_far all : List Said) (one : Said) (pieces host socket : ℕ)
    → so_far ≡ before ++ arrival_at pieces host socket → all ≡ so_far ++ one ∷ [] → one ≡ Receives host socket []
    → all ≡ before ++ arrival_at pieces host (socket + 1)
arrives-more before so_far all one pieces host socket is more one_is =
    more ∙ ap (λ (said : List Said). said ++ one ∷ []) is
    ∙ ap (λ (said : Said). (before ++ arrival_at pieces host socket) ++ said ∷ []) one_is
    ∙ append_assoc before (arrival_at pieces host socket) (Receives host socket [] ∷ [])
    ∙ ap (λ (more : List Said). before ++ more) (sym (arrival_at-more pieces host socket))

-- A host that isn't the sender: the condition is the second test.
pub other_host : {number sender : ℕ} {test answer : Bool} → number ≢ sender → test ≡ answer → (not (number == sender) && test) ≡ answer
other_host {number} {sender} {test} other is =
    let differs : not (number == sender) ≡ true = search (rules, arith) in
    ap (λ (first : Bool). first && test) differs ∙ is

pub own_host : {number sender : ℕ} (test : Bool) → number ≡ sender → (not (number == sender) && test) ≡ false
own_host {number} {sender} test own =
    let same : not (number == sender) ≡ false = search (rules, arith) in
    ap (λ (first : Bool). first && test) same

-- A name was compared with the name of a wire.
pub same_names : {text name wire sender_wire : List ℕ} {test answer : Bool} → text ≡ name → wire ≡ sender_wire
    → test ≡ bytes_eq text wire → test ≡ answer → bytes_eq name sender_wire ≡ answer
same_names {text} {name} {wire} {sender_wire} {test} {answer} named wired tests is =
    ap (λ (one : List ℕ). bytes_eq one sender_wire) (sym named) ∙ ap (bytes_eq text) (sym wired) ∙ sym tests ∙ is

-- The hosts from this number on get their arrivals: those of the first of them, if it is on the wire and isn't the sender, and then those
-- of the others.
pub arrivals_step : (plans : List HostPlan) (number pieces sender : ℕ) (wire : List ℕ) (plan : HostPlan) (here : Bool)
    (before all : List Said) → number < length plans → plan ≡ get_or plans number plan
    → (not (number == sender) && bytes_eq (string_bytes plan.wire) wire) ≡ here
    → all ≡ before ++ (if here then arrival_at pieces number (length plan.sockets.items) else [])
    → all ++ arrivals_from pieces (number + 1) sender wire (hosts_of (drop (number + 1) plans))
    ≡ before ++ arrivals_from pieces number sender wire (hosts_of (drop number plans))
arrivals_step plans number pieces sender wire plan here before all below is tested grown =
    let rest = arrivals_from pieces (number + 1) sender wire (hosts_of (drop (number + 1) plans)) in
    let own : Bool → List Said = λ chosen. if chosen then arrival_at pieces number (length plan.sockets.items) else [] in
    ap (λ (said : List Said). said ++ rest) grown
    ∙ append_assoc before (own here) rest
    ∙ ap (λ (chosen : Bool). before ++ (own chosen ++ rest)) (sym tested)
    ∙ ap (λ (one : HostPlan). before ++ arrivals_from pieces number sender wire (hosts_of (one ∷ drop (number + 1) plans))) is
    ∙ ap (λ (left : List HostPlan). before ++ arrivals_from pieces number sender wire (hosts_of left))
    (sym (drop_more plans number plan below))

address_of-there : (plans : List HostPlan) (host : ℕ) (plan : HostPlan) → host < length plans
    → host_address (hosts_of plans) host ≡ address_bytes (get_or plans host plan).image
address_of-there plans host plan below =
    ap (λ (found : Option Host). unwrap_or (option_map (λ (one : Host). address_bytes one.image) found) [])
    (slice_get-map host_of_plan plans host ∙ ap (option_map host_of_plan) (slice_get-get_or plans host plan below))

pub event_drawn-there : (plans : List HostPlan) (word : ℕ) (plan : HostPlan) → 0 < length plans
    → let host = word / 8 % length plans in event_drawn (hosts_of plans) word
    ≡ event_of_kind (word % 8) host (broadcast_of (address_bytes (get_or plans host plan).image)) (late_frame host)
event_drawn-there plans word plan some =
    let host = word / 8 % length plans in
    let address = host_address (hosts_of plans) in
    ap (λ (n : ℕ). event_of_kind (word % 8) (word / 8 % n) (broadcast_of (address (word / 8 % n))) (late_frame (word / 8 % n)))
    (length-map plans host_of_plan)
    ∙ ap (λ (bytes : List ℕ). event_of_kind (word % 8) host (broadcast_of bytes) (late_frame host))
    (address_of-there plans host plan (omega arith))
