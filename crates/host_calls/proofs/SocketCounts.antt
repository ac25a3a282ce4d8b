-- The numbers of frames that a host takes, queues and returns, summed over all its sockets.
use Rattle.std.proofs.Common.{◌≡◌, ◌≢◌, ◌≤◌, ◌<◌, ◌+◌, ◌==◌, ◌++◌, ◌∷◌, [], ℕ, zero, suc, Bool, true, false, cond, Option, Some, None}
use Rattle.std.proofs.Common.{List, length, map}
use Rattle.std.proofs.Common.{inl, inr, refl, sym, ap, subst, ◌∙◌, arith, length-append}
use Rattle.std.proofs.lemmas.Bool.{eq-eqb}
use Rattle.std.proofs.lemmas.Bool.Decides.{eqb_tells}
use Rattle.std.proofs.lemmas.List.{length-map}
use Rattle.std.proofs.lemmas.List.Elements.{filter-append}
use Rattle.std.proofs.lemmas.List.Sums.{length-filter, sum_by-cons}
use Rattle.rx_filter.specs.Addresses.{ether_type}
use Rattle.rx_engine.specs.Pieces.{Piece, frames_from}
use Rattle.rx_engine.specs.Pieces.Piece.{Last, Part}
use Rattle.adapter.specs.HostFrames.{frames_held}
use Rattle.adapter.specs.World.{World}
use Rattle.driver.specs.declared.receiver.Received.{Received}
use Rattle.packet_socket.specs.HostCalls.{Accounts, Given, given_for, socket_frames, waiting_frame, waiting_frames}
use Rattle.packet_socket.specs.HostState.{HostState, all_of, queue_at}
use Rattle.packet_socket.specs.SocketKinds.{goes_to, is_position, socket_of}
use Rattle.packet_socket.specs.declared.socket_kind.SocketKind.{SocketKind}

-- Sums over sockets

-- the sum over the first n sockets
abbrev pub sum_to : ℕ → (ℕ → ℕ) → ℕ
sum_to zero count = 0
sum_to (suc n) count = count 0 + sum_to n (λ k. count (suc k))

pub sum-none : (n : ℕ) (count : ℕ → ℕ) → ((k : ℕ) → count k ≡ 0) → sum_to n count ≡ 0
sum-none zero count none = refl
sum-none (suc n) count none = omega (arith, none 0, sum-none n (λ k. count (suc k)) (λ k. none (suc k)))

pub sum-same : (n : ℕ) (one two : ℕ → ℕ) → ((k : ℕ) → one k ≡ two k) → sum_to n one ≡ sum_to n two
sum-same zero one two same = refl
sum-same (suc n) one two same =
    omega (arith, same 0, sum-same n (λ k. one (suc k)) (λ k. two (suc k)) (λ k. same (suc k)))

pub sum-plus : (n : ℕ) (one two : ℕ → ℕ) → sum_to n (λ k. one k + two k) ≡ sum_to n one + sum_to n two
sum-plus zero one two = refl
sum-plus (suc n) one two = omega (arith, sum-plus n (λ k. one (suc k)) (λ k. two (suc k)))

pub queues-sum : (queues : List (List Received)) (n : ℕ) → length queues ≤ n
    → sum_to n (λ socket. length (queue_at queues socket)) ≡ length (all_of queues)
queues-sum [] n fits = sum-none n (λ socket. length (queue_at [] socket)) (λ socket. refl)
queues-sum (queue ∷ later) zero fits = absurd (omega (arith, fits))
queues-sum (queue ∷ later) (suc n) fits =
    let rest = queues-sum later n (omega (arith, fits)) in
    omega (arith, rest, length-append queue (all_of later))

-- Positions in lists

differ : (a b : ℕ) → a ≢ b → (a == b) ≡ false
differ a b other = elim (eqb_tells a b) [ inl same ↦ absurd (other same.1) | inr apart ↦ apart.0 ]

below-one : (a b : ℕ) → (suc a == suc b) ≡ (a == b)
below-one a b = elim (eqb_tells a b) [
  | inl same ↦ subst (λ (n : ℕ). (suc a == suc n) ≡ (a == b)) same.1 (itself a ∙ sym same.0)
  | inr apart ↦ differ (suc a) (suc b) (λ e. apart.1 (omega (arith, e))) ∙ sym apart.0
]
  where
    itself : (n : ℕ) → (suc n == suc n) ≡ true
    itself n = eq-eqb (suc n) (suc n) refl

-- A frame goes to at most one socket
one-most : (b : Bool) → cond b 1 0 ≤ 1
one-most true = omega arith
one-most false = omega arith

held-sum : (n : ℕ) (number : Option ℕ) → sum_to n (λ socket. cond (is_position socket number) 1 0) ≤ 1
held-sum n None = omega (arith, sum-none n (λ socket. cond (is_position socket None) 1 0) (λ socket. refl))
held-sum zero (Some number) = omega arith
held-sum (suc n) (Some zero) =
    let none = sum-none n (λ socket. cond (zero == suc socket) 1 0)
    (λ socket. ap (λ (b : Bool). cond b 1 0) (differ zero (suc socket) (λ e. absurd (omega (arith, e))))) in
    let first = one-most (zero == zero) in
    omega (arith, none, first)
held-sum (suc n) (Some (suc number)) =
    let rest = held-sum n (Some number) in
    let first : cond (suc number == zero) 1 0 ≡ 0 =
    ap {B = ℕ} (λ (b : Bool). cond b 1 0) (differ (suc number) zero (λ e. absurd (omega (arith, e)))) in
    let same = sum-same n (λ socket. cond (suc number == suc socket) 1 0) (λ socket. cond (number == socket) 1 0)
    (λ socket. ap (λ (b : Bool). cond b 1 0) (below-one number socket)) in
    omega (arith, rest, first, same)

pub frames-sum : (n : ℕ) (kinds : List SocketKind) (frames : List (List ℕ))
    → sum_to n (λ socket. length (socket_frames kinds socket frames)) ≤ length frames
frames-sum n kinds [] = omega (arith, sum-none n (λ socket. length (socket_frames kinds socket [])) (λ socket. refl))
frames-sum n kinds (frame ∷ later) =
    let one = λ (socket : ℕ). cond (goes_to kinds socket (ether_type frame)) 1 0 in
    let rest = λ (socket : ℕ). length (socket_frames kinds socket later) in
    let each = sum-same n (λ socket. length (socket_frames kinds socket (frame ∷ later))) (λ socket. one socket + rest socket)
    (λ socket. counted socket) in
    let both = sum-plus n one rest in
    let first = held-sum n (socket_of kinds (ether_type frame)) in
    let behind = frames-sum n kinds later in
    omega (arith, each, both, first, behind)
  where
    counted : (socket : ℕ) → length (socket_frames kinds socket (frame ∷ later))
        ≡ cond (goes_to kinds socket (ether_type frame)) 1 0 + length (socket_frames kinds socket later)
    counted socket =
        let goes = λ (f : List ℕ). goes_to kinds socket (ether_type f) in
        length-filter goes (frame ∷ later) ∙ sum_by-cons (λ (f : List ℕ). cond (goes f) 1 0) frame later
        ∙ ap (λ (k : ℕ). cond (goes frame) 1 0 + k) (sym (length-filter goes later))

socket-sum : (n socket : ℕ) → socket < n → sum_to n (λ k. cond (socket == k) 1 0) ≡ 1
socket-sum zero socket below = absurd (omega (arith, below))
socket-sum (suc n) zero below =
    let none = sum-none n (λ k. cond (zero == suc k) 1 0)
    (λ k. ap (λ (b : Bool). cond b 1 0) (differ zero (suc k) (λ e. absurd (omega (arith, e))))) in
    let first : cond (zero == zero) 1 0 ≡ 1 = ap {B = ℕ} (λ (b : Bool). cond b 1 0) (eq-eqb zero zero refl) in
    omega (arith, none, first)
socket-sum (suc n) (suc socket) below =
    let rest = socket-sum n socket (omega (arith, below)) in
    let first : cond (suc socket == zero) 1 0 ≡ 0 =
    ap {B = ℕ} (λ (b : Bool). cond b 1 0) (differ (suc socket) zero (λ e. absurd (omega (arith, e)))) in
    let same = sum-same n (λ k. cond (suc socket == suc k) 1 0) (λ k. cond (socket == k) 1 0)
    (λ k. ap (λ (b : Bool). cond b 1 0) (below-one socket k)) in
    omega (arith, rest, first, same)

pub given-sum : (n : ℕ) (one : Given) → one.socket < n → sum_to n (λ socket. length (given_for socket (one ∷ []))) ≡ 1
given-sum n one below =
    sum-same n (λ socket. length (given_for socket (one ∷ []))) (λ socket. cond (one.socket == socket) 1 0)
    (λ socket. counted (one.socket == socket)) ∙ socket-sum n one.socket below
  where
    counted : (here : Bool) → length (map (λ (g : Given). g.frame) (cond here (one ∷ []) [])) ≡ cond here 1 0
    counted true = refl
    counted false = refl

-- Frames held

pub ended-few : (begun : List ℕ) (pieces : List Piece) → length (frames_from begun pieces) ≤ length pieces
ended-few begun [] = omega arith
ended-few begun (Part bytes ∷ later) = omega (arith, ended-few (begun ++ bytes) later)
ended-few begun (Last bytes ∷ later) = omega (arith, ended-few [] later)

pub held-flows : (taken now held stored : List (List ℕ)) → taken ++ now ≡ held ++ stored → stored ≡ []
    → length taken + length now ≡ length held
held-flows taken now held stored holds none =
    omega (arith, ap length holds, length-append taken now, length-append held stored, ap length none)

-- For each socket, the number of frames returned and queued at the end is the number queued at the beginning plus those
-- taken for it.
socket-flows : (h : HostState) (a : World) (h' : HostState) (b : World) (taken : List (List ℕ)) (given : List Given)
    (stored : List (List ℕ))
    → Accounts h a h' b given stored
    → taken ++ frames_held h'.driver.oldest_receive b ≡ frames_held h.driver.oldest_receive a ++ stored
    → (socket : ℕ) → length (given_for socket given) + length (queue_at h'.queues socket)
    ≡ length (queue_at h.queues socket) + length (socket_frames h.kinds socket taken)
socket-flows h a h' b taken given stored accounts holds socket =
    let part = socket_frames h.kinds socket in
    let held = frames_held h.driver.oldest_receive a in
    let now = frames_held h'.driver.oldest_receive b in
    let goes = λ (frame : List ℕ). goes_to h.kinds socket (ether_type frame) in
    let each : part taken ++ part now ≡ part held ++ part stored =
    sym (filter-append goes taken now) ∙ ap part holds ∙ filter-append goes held stored in
    let account : given_for socket given ++ (waiting_frames h' socket b ++ part now)
    ≡ (waiting_frames h socket a ++ part held) ++ part stored =
    ap (λ (kinds : List SocketKind). given_for socket given ++ (waiting_frames h' socket b ++ socket_frames kinds socket now))
    (sym accounts.kinds)
    ∙ accounts.sockets socket in
    omega (
      arith,
      ap length each,
      length-append (part taken) (part now),
      length-append (part held) (part stored),
      ap length account,
      length-append (given_for socket given) (waiting_frames h' socket b ++ part now),
      length-append (waiting_frames h' socket b) (part now),
      length-append (waiting_frames h socket a ++ part held) (part stored),
      length-append (waiting_frames h socket a) (part held),
      length-map (queue_at h'.queues socket) (waiting_frame h'.driver.layout b.memory),
      length-map (queue_at h.queues socket) (waiting_frame h.driver.layout a.memory),
    )

-- For the first n sockets together, the number of frames returned and queued at the end is at most that of frames
-- queued at the beginning and taken.
pub queues-flow : (n : ℕ) (h : HostState) (a : World) (h' : HostState) (b : World) (taken : List (List ℕ)) (given : List Given)
    (stored : List (List ℕ))
    → Accounts h a h' b given stored
    → taken ++ frames_held h'.driver.oldest_receive b ≡ frames_held h.driver.oldest_receive a ++ stored
    → length h.queues ≤ n → length h'.queues ≤ n
    → sum_to n (λ socket. length (given_for socket given)) + length (all_of h'.queues) ≤ length (all_of h.queues) + length taken
queues-flow n h a h' b taken given stored accounts holds fits fits' =
    let gave = λ (socket : ℕ). length (given_for socket given) in
    let after = λ (socket : ℕ). length (queue_at h'.queues socket) in
    let before = λ (socket : ℕ). length (queue_at h.queues socket) in
    let came = λ (socket : ℕ). length (socket_frames h.kinds socket taken) in
    let each = sum-same n (λ socket. gave socket + after socket) (λ socket. before socket + came socket)
    (socket-flows h a h' b taken given stored accounts holds) in
    omega (
      arith,
      each,
      sum-plus n gave after,
      sum-plus n before came,
      queues-sum h'.queues n fits',
      queues-sum h.queues n fits,
      frames-sum n h.kinds taken,
    )
