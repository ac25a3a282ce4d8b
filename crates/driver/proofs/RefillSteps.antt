-- Slots are staged one by one, and then offered. Before that, buffers that others held may return to the pool.
use Rattle.std.proofs.Common.{◌≡◌, ◌+◌, ◌++◌, [], ℕ, List, length, refl, sym, ap, subst, ◌∙◌, append_assoc, length-append, arith}
use Rattle.std.proofs.lemmas.List.{append-nil, map-append}
use Rattle.std.specs.List.{All}
use Rattle.std.proofs.lemmas.List.Elements.{All-append}
use Rattle.adapter.proofs.Lists.{all-left, all-right}
use Rattle.adapter.proofs.TakenSlots.{buffers_can_come_back}
use Rattle.dma_memory.specs.Owners.{HaveSameNumbers, copies}
use Rattle.dma_memory.specs.OwnersLaws.{copies-append}
use Rattle.descriptors.specs.RingLaws.{place}
use Rattle.adapter.specs.Keeping.{Keeps}
use Rattle.adapter.specs.Pasts.{Past, joined, nothing}
use Rattle.adapter.specs.bus_types.event.Access.{Access}
use Rattle.adapter.proofs.DriverAccesses.{ran_by-itself, ran_by-same, ran_by-stays}
use Rattle.adapter.proofs.Calls.{ran-on, ready-on}
use Rattle.adapter.proofs.Owners.{owners-count}
use Rattle.adapter.proofs.Places.{place-add}
use Rattle.adapter.proofs.ReceiveAccesses.{stores-append}
use Rattle.adapter.specs.Calls.{Moment, Ran, Runs, WhereReady, at, held_at, only, stores_from, tail_write}
use Rattle.adapter.specs.DriverState.{DriverState, HandedOut, holding, next_receive, piece_numbers, owners, with_owners}
use Rattle.adapter.specs.ReadyDrivers.{Stands}
use Rattle.adapter.specs.bus_types.bus.Bus.{Ghosts}
use Rattle.driver.specs.Parts.{buffers_in}
use Rattle.driver.specs.declared.parts.Part.{Part}
use Rattle.driver.specs.RefillSteps.{Refills, Stages, WhereHeld}

pub stages-none : {B : Type 0} (bus : Ghosts B) → ((b : B) → bus.happened b b nothing) → (now : Moment B) → Stages bus [] now now
stages-none bus stays now =
    let d = now.driver in
    record {
      others = ap (λ (list : List ℕ). with_owners d d.buffers list d.pool d.handed_out) (sym (append-nil d.staged));
      pool = λ k. refl;
      ran = λ up held is. ran_by-stays bus stays now.bus (holding held d) is.ready;
    }

next-staged : {B : Type 0} (bus : Ghosts B) (a b : Moment B) (xs : List ℕ) → Stages bus xs a b
    → next_receive b.driver ≡ place a.driver.layout.rx (next_receive a.driver) (length xs)
next-staged bus a b xs stages =
    let d = a.driver in
    let count : length d.buffers + length (d.staged ++ xs)
    ≡ length d.buffers + length d.staged + length xs = omega (arith, length-append d.staged xs) in
    ap next_receive stages.others ∙ ap (place d.layout.rx d.oldest_receive) count
    ∙ place-add d.layout.rx d.oldest_receive (length d.buffers + length d.staged) (length xs)

pub stages-join : {B : Type 0} (bus : Ghosts B)
    → ((a b c : B) (first later : Past) → bus.happened a b first → bus.happened b c later → bus.happened a c (joined first later))
    → (a b c : Moment B) (xs ys : List ℕ) → Keeps bus a.bus b.bus → Stages bus xs a b → Stages bus ys b c → Stages bus (xs ++ ys) a c
stages-join bus joins a b c xs ys keeps one two =
    let d1 = a.driver in
    let d2 = b.driver in
    let d3 = c.driver in
    record {
      others =
          two.others
          ∙ ap (λ (d : DriverState). with_owners d d.buffers (d.staged ++ ys) d3.pool d.handed_out) one.others
          ∙ ap (λ (list : List ℕ). with_owners d1 d1.buffers list d3.pool d1.handed_out) (append_assoc d1.staged xs ys);
      pool = λ k. omega (
        arith,
        one.pool k,
        two.pool k,
        copies-append k xs d2.pool,
        copies-append k ys d3.pool,
        copies-append k xs ys,
        copies-append k (xs ++ ys) d3.pool,
      );
      ran = λ up held is.
          let first = one.ran up held is in
          let second = two.ran up held (ready-on bus (held_at held a) (held_at held b) keeps is first) in
          let accesses : stores_from d1.layout (next_receive d1) xs ++ stores_from d2.layout (next_receive d2) ys
          ≡ stores_from d1.layout (next_receive d1) (xs ++ ys) =
          ap (λ (d : DriverState). stores_from d1.layout (next_receive d1) xs ++ stores_from d.layout (next_receive d2) ys) one.others
          ∙ ap (λ (slot : ℕ). stores_from d1.layout (next_receive d1) xs ++ stores_from d1.layout slot ys)
          (next-staged bus a b xs one)
          ∙ sym (stores-append d1.layout (next_receive d1) xs ys) in
          subst (λ (list : List Access). Ran bus up (only list) (held_at held a) (held_at held c)) accesses (ran-on bus joins first second);
    }

-- After slots were staged, all staged slots are offered: `Refills` holds.
pub refills : {B : Type 0} (bus : Ghosts B)
    → ((a b c : B) (first later : Past) → bus.happened a b first → bus.happened b c later → bus.happened a c (joined first later))
    → (a b c : Moment B) (xs : List ℕ) → Keeps bus a.bus b.bus → Stages bus xs a b
    → c.driver ≡ with_owners b.driver (b.driver.buffers ++ b.driver.staged) [] b.driver.pool []
    → Runs bus (only (tail_write (next_receive b.driver) b.driver.staged)) b c → WhereReady bus a c (Refills bus)
refills bus joins a b c xs keeps stages offered offers up held is =
    let d1 = a.driver in
    let d2 = b.driver in
    let d3 = c.driver in
    let first = stages.ran up held is in
    let second = offers up held (ready-on bus (held_at held a) (held_at held b) keeps is first) in
    let count : length d2.buffers + length d2.staged
    ≡ length (d2.buffers ++ d2.staged) + 0 = omega (arith, length-append d2.buffers d2.staged) in
    let next : next_receive d2 ≡ next_receive d3 = ap (place d2.layout.rx d2.oldest_receive) count ∙ sym (ap next_receive offered) in
    let accesses : stores_from d1.layout (next_receive d1) xs ++ tail_write (next_receive d2) d2.staged
    ≡ stores_from d1.layout (next_receive d1) xs ++ tail_write (next_receive d3) (d1.staged ++ xs) =
    ap (λ (slot : ℕ). stores_from d1.layout (next_receive d1) xs ++ tail_write slot d2.staged) next
    ∙ ap (λ (d : DriverState). stores_from d1.layout (next_receive d1) xs ++ tail_write (next_receive d3) d.staged) stages.others in
    record {
      numbers = xs;
      offered = ap (λ (d : DriverState). d.buffers) offered ∙ ap (λ (d : DriverState). d.buffers ++ d.staged) stages.others;
      ran =
          subst (λ (list : List Access). Ran bus up (only list) (held_at held a) (held_at held c)) accesses (ran-on bus joins first second);
    }

pub owners-staged : {B : Type 0} (bus : Ghosts B) (a b : Moment B) (xs : List ℕ) → Stages bus xs a b
    → HaveSameNumbers (owners a.driver) (owners b.driver)
owners-staged bus a b xs stages k =
    let d = a.driver in
    let left = b.driver.pool in
    let later = with_owners d d.buffers (d.staged ++ xs) left d.handed_out in
    omega (arith, owners-count k d, owners-count k later, stages.pool k, copies-append k xs left, copies-append k d.staged xs)
    ∙ ap (λ (s : DriverState). copies k (owners s)) (sym stages.others)

-- If buffers that others held return to the pool, and slots are then offered, `Refills` holds between the first and the last moment.
pub gives : {B : Type 0} (bus : Ghosts B) → ((b : B) → bus.happened b b nothing)
    → ((a b c : B) (first later : Past) → bus.happened a b first → bus.happened b c later → bus.happened a c (joined first later))
    → (a : B) (d1 d2 : DriverState) (c : Moment B) (parts : List Part) → d2 ≡ record d1 { pool = d2.pool }
    → HaveSameNumbers (buffers_in parts ++ d1.pool) d2.pool
    → WhereReady bus (at a d2) c (Refills bus) → WhereHeld bus parts (at a d1) c (Refills bus)
gives {B} bus stays joins a d1 d2 c parts others back refilling up first pieces later named is =
    let before = first ++ (pieces ++ later) in
    let left = first ++ later in
    let number : HandedOut → ℕ = λ x. x.number in
    let P = Stands d1.layout (bus.world a).memory in
    let stand : All P left = All-append P first later (all-left P first (pieces ++ later) is.ready.stand)
    (all-right P pieces later (all-right P first (pieces ++ later) is.ready.stand)) in
    let moves : (k : ℕ) → copies k d2.pool + copies k (piece_numbers left) ≡ copies k d1.pool + copies k (piece_numbers before) = λ k.
    omega (
      arith,
      back k,
      copies-append k (buffers_in parts) d1.pool,
      ap (copies k) (map-append number first later),
      copies-append k (piece_numbers first) (piece_numbers later),
      ap (copies k) (map-append number first (pieces ++ later)),
      copies-append k (piece_numbers first) (piece_numbers (pieces ++ later)),
      ap (copies k) (map-append number pieces later),
      copies-append k (piece_numbers pieces) (piece_numbers later),
      ap (copies k) named,
    ) in
    let d2' : DriverState = record d1 { pool = d2.pool } in
    let comes = ran_by-itself bus stays a (holding before d1) (holding left d2') [] []
    (buffers_can_come_back up (holding before d1) d2.pool left (bus.world a) is.ready moves stand) in
    let back_is : holding left d2' ≡ holding left d2 = ap (holding left) (sym others) in
    let came = ran_by-same bus [] [] a a (holding before d1) (holding left d2')
    (holding left d2) [] [] [] refl back_is refl comes in
    let refilled = refilling up left (record { honest = is.honest; ready = came.goes.flows.ready }) in
    let last = next_receive c.driver in
    let offering : DriverState → List Access = λ d. stores_from d.layout (next_receive d) refilled.numbers
    ++ tail_write last (d.staged ++ refilled.numbers) in
    record {
      numbers = refilled.numbers;
      offered = refilled.offered ∙ ap (λ (d : DriverState). d.buffers ++ (d.staged ++ refilled.numbers)) others;
      ran =
          subst (λ (list : List Access). Ran bus up (only list) (at a (holding before d1)) (held_at left c)) (ap offering others)
          (ran-on bus joins {two = only (offering d2)} came refilled.ran);
    }
