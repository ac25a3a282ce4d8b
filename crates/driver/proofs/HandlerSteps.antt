-- A driver handles an interrupt: after the read of ICR, it reads MPC, takes frames, and refills the ring.
use Rattle.std.proofs.Common.{◌≡◌, ◌≤◌, ◌+◌, ◌*◌, ◌++◌, ◌∷◌, [], ◌<◌, ◌^◌, ◌∙◌}
use Rattle.std.proofs.Common.{Bool, inl, ℕ, suc, List, length, map, refl, sym, ap, subst}
use Rattle.std.proofs.Common.{length-append, arith}
use Rattle.std.specs.List.{concat}
use Rattle.std.specs.Prelude.{min}
use Rattle.std.proofs.lemmas.List.{append-nil, length-map}
use Rattle.registers.specs.Bits.{HasBit, Meet}
use Rattle.registers.specs.Laws.{Meet-places}
use Rattle.dma_memory.specs.Layout.{receive_buffer_bytes}
use Rattle.descriptors.specs.Frames.{longest_frame}
use Rattle.descriptors.specs.RingLaws.{place}
use Rattle.rx_engine.specs.Pieces.{parts}
use Rattle.adapter.specs.HostFrames.{finished_pieces}
use Rattle.adapter.specs.World.{World}
use Rattle.adapter.specs.Pasts.{Past, joined}
use Rattle.adapter.specs.bus_types.event.Access.{Access}
use Rattle.adapter.specs.bus_types.event.Access.TheVariants.{Reads}
use Rattle.adapter.specs.bus_types.bus.Bus.{Ghosts}
use Rattle.adapter.proofs.DriverAccesses.{ran_by-join}
use Rattle.adapter.proofs.Calls.{ran-on}
use Rattle.adapter.proofs.Places.{place-add}
use Rattle.adapter.proofs.Intervals.{flows_join, work_kept}
use Rattle.adapter.proofs.TakenSlots.{parts_are_few}
use Rattle.adapter.specs.Calls.{GoesTo, HasNoForgottenWork, Moment, Ran, ReadsCauses, at, call_did, driver_did, driver_in}
use Rattle.adapter.specs.Calls.{frames_ended, held_at, in_world_of, only}
use Rattle.adapter.specs.Calls.{receive_loads, stores_from, tail_write, takes_from, missed_added}
use Rattle.adapter.specs.DriverState.{DriverState, HandedOut, frame_of, holding, next_receive, piece_numbers, with_owners}
use Rattle.adapter.specs.ReadyDrivers.{ReadyWith}
use Rattle.driver.specs.HandlerSteps.{HandlesIt, Scene, TakesAll, Works, held_in, moment, offering_accesses, taking_accesses}
use Rattle.driver.specs.Looks.{IsLook}
use Rattle.driver.specs.Parts.{joined_frames, pieces_of}
use Rattle.driver.specs.RefillSteps.{Refills}
use Rattle.driver.specs.declared.receiver.Receiver.{Ghosts as OfReceiver}
use Rattle.bring_up.specs.WrittenRegisters.{handled_causes}
use Rattle.driver.proofs.SeenSlots.{length-parts}
use Rattle.driver.proofs.TakenRuns.{concat-numbers, only-parts}

pub handled-timer : (causes : ℕ) → causes < 2 ^ 32 → HasBit causes 7 → Meet causes handled_causes
handled-timer causes fits bit = (Meet-places causes handled_causes fits).1 (7, bit, refl)

-- The states of the driver: d1 at the beginning, d2 after the read of MPC, d3 after slots were taken, and d4 after refilling.
pub record Follows (misses slots : ℕ) (d1 d2 d3 d4 : DriverState) : Type 0 where
  pub counted : d2 ≡ missed_added misses d1
  pub taken : d3 ≡ record d2 { oldest_receive = d3.oldest_receive; buffers = d3.buffers; pool = d3.pool; bad = d3.bad }
  pub place : d3.oldest_receive ≡ place d2.layout.rx d2.oldest_receive slots
  pub count : slots + length d3.buffers ≡ length d2.buffers
  pub refilled : d4 ≡ with_owners d3 d4.buffers [] d4.pool []

changed : {misses slots : ℕ} (d1 d2 d3 d4 : DriverState) → Follows misses slots d1 d2 d3 d4
    → d3 ≡ record (missed_added misses d1) { oldest_receive = d3.oldest_receive; buffers = d3.buffers; pool = d3.pool; bad = d3.bad }
changed d1 d2 d3 d4 follows =
    follows.taken ∙ ap (λ (d : DriverState). let s : DriverState = record d
    { oldest_receive = d3.oldest_receive; buffers = d3.buffers; pool = d3.pool; bad = d3.bad } in s) follows.counted

oldest-after : {misses slots : ℕ} (d1 d2 d3 d4 : DriverState) (numbers : List ℕ) → Follows misses slots d1 d2 d3 d4
    → d1.buffers ≡ numbers ++ d3.buffers → d3.oldest_receive ≡ place d1.layout.rx d1.oldest_receive (length numbers)
oldest-after {misses} {slots} d1 d2 d3 d4 numbers follows oldest =
    let same = ap (λ (d : DriverState). length d.buffers) follows.counted in
    let many : slots ≡ length numbers = omega (arith, follows.count, same, ap length oldest, length-append numbers d3.buffers) in
    follows.place
    ∙ ap (λ (d : DriverState). place d.layout.rx d.oldest_receive slots) follows.counted
    ∙ ap (place d1.layout.rx d1.oldest_receive) many

next-same : {misses slots : ℕ} (d1 d2 d3 d4 : DriverState) (numbers : List ℕ) → Follows misses slots d1 d2 d3 d4
    → d1.buffers ≡ numbers ++ d3.buffers → next_receive d3 ≡ next_receive d1
next-same d1 d2 d3 d4 numbers follows oldest =
    let rx = d1.layout.rx in
    let left = length d3.buffers + length d1.staged in
    let sum : length numbers + left ≡ length d1.buffers + length d1.staged =
    omega (arith, ap length oldest, length-append numbers d3.buffers) in
    ap next_receive (changed d1 d2 d3 d4 follows)
    ∙ ap (λ (slot : ℕ). place rx slot left) (oldest-after d1 d2 d3 d4 numbers follows oldest)
    ∙ sym (place-add rx d1.oldest_receive (length numbers) left)
    ∙ ap (place rx d1.oldest_receive) sum

ran-same : {B : Type 0} (bus : Ghosts B) {up : Bool} {xs ys : List Access} {t1 t2 accepted : List (List ℕ)} {a b : Moment B}
    → xs ≡ ys → t1 ≡ t2 → Ran bus up (call_did xs t1 accepted) a b
    → Ran bus up (call_did ys t2 accepted) a b
ran-same bus {up} {xs} {ys} {t1} {t2} {accepted} {a} {b} accesses frames ran = record {
  past = ran.past;
  reports = ran.reports;
  only = ran.only ∙ accesses;
  goes = subst (λ (list : List (List ℕ)). GoesTo up (in_world_of bus a) (in_world_of bus b) (driver_did list accepted) ran.past) frames
      ran.goes;
  follows = ran.follows;
}

-- No frame ends in finished slots, so each finished piece is a part, and at most five slots are finished.
last-look : {up : Bool} (d : DriverState) (world : World) (oldest loads : ℕ) → ReadyWith up d world → frames_ended (driver_in d world) ≡ []
    → loads ≡ min (suc (length (finished_pieces d.oldest_receive world))) (length d.buffers) → oldest ≡ d.oldest_receive
    → IsLook oldest d.buffers world loads
last-look {up} d world oldest loads ready none is same =
    let pieces = finished_pieces d.oldest_receive world in
    let seen = only-parts [] pieces none in
    let few = parts_are_few up d seen.0 [] world ready (seen.1 ∙ sym (append-nil (parts seen.0))) in
    subst (λ (slot : ℕ). IsLook slot d.buffers world loads) (sym same) (record {
      none_left = none;
      short = subst (λ (n : ℕ). receive_buffer_bytes * n ≤ longest_frame) (sym (ap length seen.1 ∙ length-parts seen.0)) few;
      loads_are = is;
    })

pub works : {up : Bool} {B R : Type 0} (bus : Ghosts B) (receivers : OfReceiver R)
    → ((a b c : B) (first later : Past) → bus.happened a b first → bus.happened b c later → bus.happened a c (joined first later))
    → (a b c e : Scene B R) (misses n slots : ℕ) (held : List HandedOut) → Follows misses slots a.driver b.driver c.driver e.driver
    → Ran bus up (only (Reads 0x4010 misses ∷ [])) (held_at held (moment a)) (held_at held (moment b))
    → (all : TakesAll bus receivers n up (held_in held (record b { receiver = a.receiver }))
    (held_in held (record c { receiver = e.receiver })))
    → Refills bus up (held_at (held ++ pieces_of all.takes.frames.kept) (moment c))
    (held_at (held ++ pieces_of all.takes.frames.kept) (moment e))
    → Works bus all.takes.frames.taken up (held_at held (moment a)) (held_at (held ++ pieces_of all.takes.frames.kept) (moment e))
unfolding ran-on ran_by-join ran-same
works {up} bus receivers joins a b c e misses n slots held follows counts all refills =
    let takes = all.takes in
    let d1 = a.driver in
    let d2 = b.driver in
    let d3 = c.driver in
    let d4 = e.driver in
    let lists = map piece_numbers takes.frames.taken in
    let numbers = piece_numbers (pieces_of takes.frames.taken) in
    let xs = refills.numbers in
    let same = changed d1 d2 d3 d4 follows in
    let oldest : d1.buffers ≡ numbers ++ d3.buffers = ap (λ (d : DriverState). d.buffers) (sym follows.counted) ∙ takes.oldest in
    let from = place d1.layout.rx d1.oldest_receive (length (concat lists)) in
    let oldest_is : d3.oldest_receive ≡ from = oldest-after d1 d2 d3 d4 numbers follows oldest
    ∙ ap (λ (list : List ℕ). place d1.layout.rx d1.oldest_receive (length list)) (sym (concat-numbers takes.frames.taken)) in
    let taking : Reads 0x4010 misses
    ∷ (takes_from d2.layout d2.oldest_receive lists ++ receive_loads d3.layout d3.oldest_receive all.loads)
    ≡ taking_accesses d1 misses lists all.loads =
    ap (λ (d : DriverState). Reads 0x4010 misses
    ∷ (takes_from d.layout d.oldest_receive lists ++ receive_loads d3.layout d3.oldest_receive all.loads)) follows.counted
    ∙ ap (λ (slot : ℕ). Reads 0x4010 misses
    ∷ (takes_from d1.layout d1.oldest_receive lists ++ receive_loads d3.layout slot all.loads)) oldest_is
    ∙ ap (λ (d : DriverState). Reads 0x4010 misses
    ∷ (takes_from d1.layout d1.oldest_receive lists ++ receive_loads d.layout from all.loads)) same in
    let offers : List Access = stores_from d3.layout (next_receive d3) xs ++ tail_write (next_receive d4) (d3.staged ++ xs) in
    let offering : offers ≡ offering_accesses d1 xs (next_receive d4) =
    ap (λ (d : DriverState). stores_from d.layout (next_receive d3) xs ++ tail_write (next_receive d4) (d.staged ++ xs)) same
    ∙ ap (λ (slot : ℕ). stores_from d1.layout slot xs ++ tail_write (next_receive d4) (d1.staged ++ xs))
    (next-same d1 d2 d3 d4 numbers follows oldest) in
    let up_to = ran-on bus joins (ran-on bus joins counts takes.ran) all.looks in
    let ran = ran-on bus joins up_to refills.ran in
    record {
      misses = record {
        misses = misses;
        missed = ap (λ (d : DriverState). d.missed) follows.refilled ∙ ap (λ (d : DriverState). d.missed) same;
        exact = ap (λ (d : DriverState). d.exact) follows.refilled ∙ ap (λ (d : DriverState). d.exact) same;
      };
      served = record {
        rest = d3.buffers;
        offered = xs;
        oldest = oldest;
        newest = refills.offered ∙ ap (λ (d : DriverState). d3.buffers ++ (d.staged ++ xs)) same;
        no_bad = ap (λ (d : DriverState). d.bad) follows.refilled ∙ takes.bad ∙ ap (λ (d : DriverState). d.bad) follows.counted;
      };
      loads = all.loads;
      ran =
          ran-same bus
          (ap (λ (list : List Access). list ++ offers) taking
          ∙ ap (λ (list : List Access). taking_accesses d1 misses lists all.loads ++ list) offering)
          (append-nil (joined_frames takes.frames.taken ++ []) ∙ append-nil (joined_frames takes.frames.taken)) ran;
      split = record {
        middle = c.bus;
        before = up_to.past;
        behind = refills.ran.past;
        reaches = up_to.reports;
        leaves = refills.ran.reports;
        whole = refl;
        first_made = up_to.only ∙ taking;
        later_made = refills.ran.only ∙ offering;
      };
      look = last-look (holding (held ++ pieces_of takes.frames.kept) d3) (bus.world c.bus) d4.oldest_receive all.loads
          all.looks.goes.flows.ready all.none_left all.loads_are (ap (λ (d : DriverState). d.oldest_receive) follows.refilled);
    }

-- If the value of ICR has a cause that the driver handles, `HandlesIt` holds after MPC is read, frames are taken and slots are offered.
pub handles-it : {up : Bool} {B R : Type 0} (bus : Ghosts B) (receivers : OfReceiver R)
    → ((a b c : B) (first later : Past) → bus.happened a b first → bus.happened b c later → bus.happened a c (joined first later))
    → (o : B) (a b c e : Scene B R) (causes misses n slots : ℕ) (held : List HandedOut)
    → Follows misses slots a.driver b.driver c.driver e.driver
    → Meet causes handled_causes
    → (reads : ReadsCauses bus up causes (at o (holding held a.driver)) a.bus)
    → Ran bus up (only (Reads 0x4010 misses ∷ [])) (held_at held (moment a)) (held_at held (moment b))
    → (all : TakesAll bus receivers n up (held_in held (record b { receiver = a.receiver }))
    (held_in held (record c { receiver = e.receiver })))
    → Refills bus up (held_at (held ++ pieces_of all.takes.frames.kept) (moment c))
    (held_at (held ++ pieces_of all.takes.frames.kept) (moment e))
    → HandlesIt bus receivers n (held_in held (record a { bus = o })) (held_in held e)
    (record { causes = causes; after_read = a.bus; reads = reads })
handles-it {up} bus receivers joins o a b c e causes misses n slots held follows some reads counts taking refills =
    let takes = taking.takes in
    let held2 = held ++ pieces_of takes.frames.kept in
    let all = works bus receivers joins a b c e misses n slots held follows counts taking refills in
    record {
      frames = takes.frames;
      driver = record {
        some = some;
        works = all;
        least =
            omega (
              arith,
              reads.flows.least,
              counts.goes.flows.least,
              takes.ran.goes.flows.least,
              taking.looks.goes.flows.least,
              ap length taking.none_left,
              length-map takes.frames.taken frame_of,
              takes.frames.count,
            );
        work = λ enabled.
            let mask = taking.looks.goes.flows.mask ∙ takes.ran.goes.flows.mask ∙ counts.goes.flows.mask ∙ reads.flows.mask in
            let before : HasNoForgottenWork (holding held2 c.driver) (bus.world c.bus) = record
            { enabled = subst (λ (m : ℕ). HasBit m 7) (sym mask) enabled; asked = inl taking.none_left } in
            work_kept (holding held2 c.driver) (holding held2 e.driver) (bus.world c.bus) (bus.world e.bus) [] []
            refills.ran.past refills.ran.goes before;
        flows =
            flows_join (holding held a.driver) (holding held a.driver) (holding held2 e.driver) (bus.world o)
            (bus.world a.bus) (bus.world e.bus) []
            (joined_frames takes.frames.taken) [] [] reads.past all.ran.past
            reads.flows all.ran.goes.flows;
      };
    }
