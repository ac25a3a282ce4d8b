-- The frames that a driver took, and those of them that the host's sockets keep.
use Rattle.std.proofs.Common.{Bool, true, false, cond, ◌≡◌, ◌≤◌, ◌∷◌, [], ℕ, Option, Some, None, suc, List, length, map}
use Rattle.std.proofs.Common.{refl, sym, ap, subst, ◌∙◌, arith}
use Rattle.std.specs.List.{All, filter}
use Rattle.std.specs.Option.{is_some}
use Rattle.std.proofs.lemmas.List.{length-map}
use Rattle.std.proofs.lemmas.List.Elements.{filter_passes}
use Rattle.std.proofs.lemmas.List.Sums.{sum_by-cons}
use Rattle.rx_filter.specs.Addresses.{ether_type}
use Rattle.adapter.proofs.Lists.{all-head, all-tail, all-unmapped}
use Rattle.adapter.specs.DriverState.{HandedOut, frame_of}
use Rattle.driver.specs.HandlerSteps.{IsSublist, part_none, part_with, part_without}
use Rattle.driver.specs.Parts.{joined_frames, received_of}
use Rattle.driver.specs.declared.receiver.Received.{Received}
use Rattle.packet_socket.specs.HostCalls.{claimed_of, socket_entries, socket_frames, unclaimed_of, without_socket}
use Rattle.packet_socket.specs.SocketKinds.{goes_to, has_none, has_socket, is_position, socket_of}
use Rattle.packet_socket.specs.declared.socket_kind.SocketKind.{SocketKind}

-- whether a frame that was taken has a socket
abbrev pub has : List SocketKind → List HandedOut → Bool
has kinds one = has_socket kinds (ether_type (frame_of one))

abbrev pub goes : List SocketKind → ℕ → List HandedOut → Bool
goes kinds socket one = goes_to kinds socket (ether_type (frame_of one))

pub part-length : {some all : List (List HandedOut)} → IsSublist some all → length some ≤ length all
part-length part_none = omega arith
part-length (part_with rest) = let later = part-length rest in omega (arith, later)
part-length (part_without rest) = let later = part-length rest in omega (arith, later)

part-count : {some all : List (List HandedOut)} (p : List HandedOut → Bool) → IsSublist some all → All (λ one. p one ≡ true) some
    → length some ≤ length (filter p all)
part-count p part_none passes = omega arith
part-count p (part_with {one = one} {some = some} {all = all} rest) passes =
    let first : p one ≡ true = all-head (λ x. p x ≡ true) one some passes in
    let later = part-count p rest (all-tail (λ x. p x ≡ true) one some passes) in
    subst (λ (b : Bool). suc (length some) ≤ length (cond b (one ∷ filter p all) (filter p all))) (sym first) (omega (arith, later))
part-count p (part_without {one = one} {some = some} {all = all} rest) passes =
    let later = part-count p rest passes in
    at (p one) later
  where
    at : (b : Bool) → length some ≤ length (filter p all) → length some ≤ length (cond b (one ∷ filter p all) (filter p all))
    at true later = omega (arith, later)
    at false later = later

part-is : {some all : List (List HandedOut)} (p : List HandedOut → Bool) → IsSublist some all → All (λ one. p one ≡ true) some
    → length some ≡ length (filter p all) → some ≡ filter p all
part-is p part_none passes many = refl
part-is p (part_with {one = one} {some = some} {all = all} rest) passes many =
    let first : p one ≡ true = all-head (λ x. p x ≡ true) one some passes in
    let taken : cond (p one) (one ∷ filter p all) (filter p all)
    ≡ one ∷ filter p all = ap (λ (b : Bool). cond b (one ∷ filter p all) (filter p all)) first in
    let later = part-is p rest (all-tail (λ x. p x ≡ true) one some passes) (omega (arith, many, ap length taken)) in
    ap (λ (list : List (List HandedOut)). one ∷ list) later ∙ sym taken
part-is p (part_without {one = one} {some = some} {all = all} rest) passes many =
    at (p one) (part-count p rest passes) (λ same. part-is p rest passes same) many
  where
    at : (b : Bool) → length some ≤ length (filter p all) → (length some ≡ length (filter p all) → some ≡ filter p all)
        → length some ≡ length (cond b (one ∷ filter p all) (filter p all)) → some ≡ cond b (one ∷ filter p all) (filter p all)
    at true most later more = absurd (omega (arith, more, most))
    at false most later same = later same

filter-mapped : {X Y : Type 0} (f : X → Y) (p : Y → Bool) (xs : List X) → filter p (map f xs) ≡ map f (filter (λ x. p (f x)) xs)
filter-mapped f p [] = refl
filter-mapped f p (x ∷ xs) = at (p (f x)) (filter-mapped f p xs)
  where
    at : (b : Bool) → filter p (map f xs) ≡ map f (filter (λ y. p (f y)) xs)
        → cond b (f x ∷ filter p (map f xs)) (filter p (map f xs))
        ≡ map f (cond b (x ∷ filter (λ y. p (f y)) xs) (filter (λ y. p (f y)) xs))
    at true rest = ap (λ list. f x ∷ list) rest
    at false rest = rest

filter-stronger : {X : Type 0} (p q : X → Bool) → ((x : X) → q x ≡ false → p x ≡ false) → (xs : List X)
    → filter p (filter q xs) ≡ filter p xs
filter-stronger p q so [] = refl
filter-stronger p q so (x ∷ xs) = at (q x) refl (filter-stronger p q so xs)
  where
    at : (b : Bool) → q x ≡ b → filter p (filter q xs) ≡ filter p xs
        → filter p (cond b (x ∷ filter q xs) (filter q xs)) ≡ cond (p x) (x ∷ filter p xs) (filter p xs)
    at true is rest = ap (λ list. cond (p x) (x ∷ list) list) rest
    at false is rest = rest ∙ ap (λ (b : Bool). cond b (x ∷ filter p xs) (filter p xs)) (sym (so x is))

pub kept-is : (kinds : List SocketKind) (kept taken : List (List HandedOut)) → IsSublist kept taken
    → map received_of kept ≡ claimed_of kinds (map received_of taken)
    → kept ≡ filter (has kinds) taken
kept-is kinds kept taken part is =
    let test : Received → Bool = λ r. has_socket kinds r.ether_type in
    let passes : All (λ (one : List HandedOut). has kinds one ≡ true) kept =
    all-unmapped (λ (r : Received). test r ≡ true) received_of kept
    (subst (All (λ (r : Received). test r ≡ true)) (sym is) (filter_passes test (map received_of taken))) in
    part-is (has kinds) part passes
    (omega (
      arith,
      length-map kept received_of,
      ap length is,
      ap length (filter-mapped received_of test taken),
      length-map (filter (has kinds) taken) received_of,
    ))

kept-frames : (kinds : List SocketKind) (socket : ℕ) (frame : Received → List ℕ) (kept : List (List HandedOut))
    → All (λ (one : List HandedOut). frame (received_of one) ≡ frame_of one) kept
    → map frame (socket_entries kinds socket (map received_of kept)) ≡ joined_frames (filter (goes kinds socket) kept)
kept-frames kinds socket frame [] same = refl
kept-frames kinds socket frame (one ∷ later) same =
    at (goes kinds socket one) (all-head (λ (x : List HandedOut). frame (received_of x) ≡ frame_of x) one later same)
    (kept-frames kinds socket frame later (all-tail (λ (x : List HandedOut). frame (received_of x) ≡ frame_of x) one later same))
  where
    at : (b : Bool) → frame (received_of one) ≡ frame_of one
        → map frame (socket_entries kinds socket (map received_of later)) ≡ joined_frames (filter (goes kinds socket) later)
        → map frame (cond b (received_of one ∷ socket_entries kinds socket (map received_of later))
        (socket_entries kinds socket (map received_of later)))
        ≡ joined_frames (cond b (one ∷ filter (goes kinds socket) later) (filter (goes kinds socket) later))
    at true first rest =
        ap (λ (bytes : List ℕ). bytes ∷ map frame (socket_entries kinds socket (map received_of later))) first
        ∙ ap (λ (list : List (List ℕ)). frame_of one ∷ list) rest
    at false first rest = rest

no-socket : (socket : ℕ) (place : Option ℕ) → is_some place ≡ false → is_position socket place ≡ false
no-socket socket None none = refl
no-socket socket (Some place) none = absurd (cc (none))

pub queue-frames : (kinds : List SocketKind) (socket : ℕ) (frame : Received → List ℕ) (kept taken : List (List HandedOut))
    → IsSublist kept taken
    → map received_of kept ≡ claimed_of kinds (map received_of taken)
    → All (λ (one : List HandedOut). frame (received_of one) ≡ frame_of one) kept
    → map frame (socket_entries kinds socket (map received_of kept)) ≡ socket_frames kinds socket (joined_frames taken)
queue-frames kinds socket frame kept taken part is same =
    kept-frames kinds socket frame kept same
    ∙ ap (λ (list : List (List HandedOut)). joined_frames (filter (goes kinds socket) list)) (kept-is kinds kept taken part is)
    ∙ ap joined_frames (filter-stronger (goes kinds socket) (has kinds)
    (λ one none. no-socket socket (socket_of kinds (ether_type (frame_of one))) none) taken)
    ∙ sym (filter-mapped frame_of (λ (f : List ℕ). goes_to kinds socket (ether_type f)) taken)

pub unclaimed-frames : (kinds : List SocketKind) (taken : List (List HandedOut))
    → unclaimed_of kinds (map received_of taken) ≡ without_socket kinds (joined_frames taken)
unclaimed-frames kinds [] = refl
unclaimed-frames kinds (one ∷ later) =
    omega (
      arith,
      unclaimed-frames kinds later,
      sum_by-cons (λ (r : Received). cond (has_none kinds r.ether_type) 1 0) (received_of one) (map received_of later),
      sum_by-cons (λ (f : List ℕ). cond (has_none kinds (ether_type f)) 1 0) (frame_of one) (joined_frames later),
    )
