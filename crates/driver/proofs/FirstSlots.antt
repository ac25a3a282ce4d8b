-- All receive slots except one are offered for the first time. While no frame is held after that, RDH is 0.
use Rattle.std.proofs.Common.{false, ◌≡◌, ◌≤◌, ◌<◌, ◌+◌, ◌-◌, ◌%◌, ◌++◌, ◌∷◌, [], ℕ, List, length}
use Rattle.std.proofs.Common.{zero, suc, ◌*◌, ◌⊎◌, ⊎_elim, refl, sym, ap, subst, ◌∙◌}
use Rattle.std.proofs.Common.{length-append, arith}
use Rattle.std.proofs.lemmas.List.{length-map}
use Rattle.dma_memory.specs.Layout.{Counts, receive_buffer_bytes}
use Rattle.dma_memory.specs.Owners.{HasOneOwner, HaveSameNumbers}
use Rattle.dma_memory.specs.OwnersLaws.{copies-append, length-one_owner, one_owner-same}
use Rattle.descriptors.specs.declared.ring.Ring.{Ring}
use Rattle.descriptors.specs.Ring.{address_of, distance_of, offered_places}
use Rattle.descriptors.specs.RingLaws.{distance-forward, length-places, place, place-distance}
use Rattle.adapter.specs.HostFrames.{frames_held}
use Rattle.adapter.specs.World.{World, receive_ring}
use Rattle.adapter.specs.bus_types.bus.Bus.{Ghosts}
use Rattle.adapter.specs.bus_types.event.Access.TheVariants.{Writes}
use Rattle.adapter.proofs.WaitingRings.{all-offered, holds-none}
use Rattle.adapter.proofs.DriverAccesses.{ran_by-same}
use Rattle.adapter.proofs.Owners.{owners-count}
use Rattle.adapter.specs.bus_types.event.Access.{Access}
use Rattle.adapter.specs.Calls.{IsReadyOver, Moment, Ran, at, only, stores_from}
use Rattle.adapter.specs.Beginnings.{new_driver}
use Rattle.adapter.specs.DriverState.{DriverSetup, DriverState, holding, owners, receive_slot, with_owners}
use Rattle.adapter.specs.ReadyDrivers.{Ready}
use Rattle.bring_up.specs.ClearedDescriptors.{clears, clears_from}
use Rattle.driver.specs.Initialisation.{first_accesses}
use Rattle.driver.specs.Resetting.{OffersFree, free_accesses}

-- If no frame is held after the first offer, RDH is 0

distance-same : (n head : ℕ) → 0 < n → head < n → (n - 1 + n - head) % n ≡ n - 1 → head ≡ 0
distance-same n head some below is =
    let forward = distance-forward n head (n - 1) (omega arith) (omega arith) in
    omega (arith, forward, is)

last-place : (n k : ℕ) → k + 1 ≡ n → place n 0 k ≡ n - 1
last-place n k full =
    place-distance n k 0 (n - 1) (omega (arith, full)) (omega (arith, full))
    (distance-forward n 0 (n - 1) (omega (arith, full)) (omega arith) ∙ omega (arith, full))

pub head-first : (d : DriverState) (world : World) → Ready d world → d.oldest_receive ≡ 0 → length d.buffers + 1 ≡ d.layout.rx
    → frames_held d.oldest_receive world ≡ [] → (receive_ring world).head ≡ 0
head-first d world ready first full none =
    let ring = receive_ring world in
    let n = d.layout.rx in
    let knows = ready.receive in
    let same = all-offered d.oldest_receive d.oldest_transmit world ready.law.sound
    (holds-none receive_buffer_bytes d.oldest_receive d.oldest_transmit world ready.law.sound (omega arith) ready.law.whole none) in
    let from : Ring = record ring { head = d.oldest_receive } in
    let long : distance_of from d.oldest_receive ring.tail ≡ distance_of ring ring.head ring.tail =
    sym (length-places from) ∙ sym (length-map (offered_places from) (address_of from)) ∙ ap length same
    ∙ length-map (offered_places ring) (address_of ring)
    ∙ length-places ring in
    let tail : ring.tail ≡ n - 1 = knows.last ∙ ap (λ (oldest : ℕ). place n oldest (length d.buffers)) first
    ∙ last-place n (length d.buffers) full in
    let back : (n - 1 + n - ring.head) % n ≡ (n - 1 + n - 0) % n =
    ap (λ (t : ℕ). (t + n - ring.head) % n) (sym tail) ∙ ap (λ (c : ℕ). (ring.tail + c - ring.head) % c) (sym knows.slots) ∙ sym long
    ∙ ap (λ (c : ℕ). (ring.tail + c - d.oldest_receive) % c) knows.slots ∙ ap (λ (o : ℕ). (ring.tail + n - o) % n) first
    ∙ ap (λ (t : ℕ). (t + n - 0) % n) tail in
    distance-same n ring.head (omega (arith, full)) knows.head_slot
    (back ∙ distance-forward n 0 (n - 1) (omega (arith, full)) (omega arith) ∙ omega arith)

-- All receive slots except the last are offered

all-staged : (n buffers : ℕ) (pool numbers left : List ℕ) → HasOneOwner buffers pool → n ≤ buffers → HaveSameNumbers pool (numbers ++ left)
    → length numbers < n → (left ≡ []) ⊎ (length numbers + 1 ≡ n) → length numbers + 1 ≡ n
all-staged n buffers pool numbers left owner enough same room full =
    ⊎_elim
    (λ (none : left ≡ []).
    let whole = length-one_owner buffers (numbers ++ left) (one_owner-same buffers pool (numbers ++ left) owner same) in
    absurd (omega (arith, whole, length-append numbers left, ap length none, room, enough)))
    (λ (all : length numbers + 1 ≡ n). all)
    full

-- a new driver whose first slots are outstanding, with the buffers `numbers`
abbrev pub offering : Counts → DriverSetup → (groups : List (List ℕ)) → (pool numbers left : List ℕ) → DriverState
offering counts setup groups pool numbers left = with_owners (new_driver counts setup groups pool) numbers [] left []

-- All receive slots except the last were offered, with the buffers `numbers` of the pool.
pub record OffersFirst {B : Type 0} (bus : Ghosts B) (old new : Moment B) : Type 0 where
  pub numbers : List ℕ
  pub count : length numbers + 1 ≡ old.driver.layout.rx
  pub others : new.driver ≡ with_owners old.driver numbers [] new.driver.pool []
  pub pool : HaveSameNumbers old.driver.pool (numbers ++ new.driver.pool)
  -- If the bus obeys the law and the driver is ready with its transmit side off, the accesses are exactly these.
  pub ran : IsReadyOver bus false old → Ran bus false (only (first_accesses old.driver.layout numbers)) old new

clears-one : (first : ℕ) → clears_from first (suc zero) ≡ clears first ∷ []
clears-one first = let same : first + 16 * 0 ≡ first = omega arith in ap (λ (address : ℕ). clears address ∷ []) same

-- Only the last slot has no buffer, so its descriptor is cleared.
accesses-first : (counts : Counts) (numbers : List ℕ) → length numbers + 1 ≡ counts.rx
    → free_accesses counts numbers ≡ first_accesses counts numbers
accesses-first counts numbers count =
    let n = counts.rx in
    let last : length numbers ≡ n - 1 = omega (arith, count) in
    let one : n - (n - 1) ≡ suc zero = omega (arith, count) in
    let from : ℕ → ℕ → List Access = λ k left.
    stores_from counts 0 numbers ++ (clears_from (receive_slot k) left ++ Writes 0x2818 k ∷ []) in
    ap (λ (k : ℕ). from k (n - k)) last ∙ ap (from (n - 1)) one
    ∙ ap (λ (list : List Access). stores_from counts 0 numbers ++ (list ++ Writes 0x2818 (n - 1) ∷ [])) (clears-one (receive_slot (n - 1)))

pub offers-first : {B : Type 0} (bus : Ghosts B) (b0 b1 : B) (counts : Counts) (setup : DriverSetup) (groups : List (List ℕ))
    (pool : List ℕ) (d : DriverState)
    → HasOneOwner counts.buffers pool → counts.rx ≤ counts.buffers
    → OffersFree bus (at b0 (new_driver counts setup groups pool)) (at b1 d)
    → OffersFirst bus (at b0 (new_driver counts setup groups pool)) (at b1 d)
offers-first bus b0 b1 counts setup groups pool d owner enough offers =
    let numbers = offers.numbers in
    let done : d ≡ offering counts setup groups pool numbers d.pool = offers.others in
    let count : length numbers + 1 ≡ counts.rx =
    all-staged counts.rx counts.buffers pool numbers d.pool owner enough offers.pool (omega (arith, offers.room))
    (subst (λ (s : DriverState). (s.pool ≡ []) ⊎ (length s.buffers + 1 ≡ s.layout.rx)) done offers.refilled) in
    record {
      numbers = numbers;
      count = count;
      others = done;
      pool = offers.pool;
      ran = λ is.
          ran_by-same bus _ _ b0 b1 (new_driver counts setup groups pool) (holding [] d) d [] [] []
          (accesses-first counts numbers count) (ap (holding []) done ∙ sym done) refl (offers.ran [] is);
    }

pub owners-offered : (buffers : ℕ) (counts : Counts) (setup : DriverSetup) (groups : List (List ℕ)) (pool numbers left : List ℕ)
    → HasOneOwner buffers pool
    → HaveSameNumbers pool (numbers ++ left)
    → HasOneOwner buffers (owners (offering counts setup groups pool numbers left))
owners-offered buffers counts setup groups pool numbers left owner same k =
    let d = offering counts setup groups pool numbers left in
    omega (arith, owner k, same k, copies-append k numbers left, owners-count k d)
