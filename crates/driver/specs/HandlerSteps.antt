-- How a driver takes frames off its receive ring, reads a received frame, and handles an interrupt. The contract of `interrupt` uses
-- `Handles`, `ServesReceiver` and `OnlyReceives`, that of `take_finished` uses `TakesAll` and `TakesSlots`, and that of `read` `ReadsHeld`.
use Rattle.std.specs.Prelude.{⊤, ◌≡◌, ◌≤◌, ◌⊎◌, ◌-◌, ◌*◌, ◌++◌, ◌∷◌, []}
use Rattle.std.specs.Prelude.{ℕ, suc, Bool, not, All, List, count_by, filter, flat_map, length, map}
use Rattle.std.specs.Prelude.{IsTrue, min, sum, take}
use Rattle.std.specs.List.{concat}
use Rattle.dma_memory.specs.Layout.{receive_buffer_bytes}
use Rattle.dma_memory.specs.Owners.{HasNoSecondOwner, HaveSameNumbers}
use Rattle.descriptors.specs.Frames.{longest_frame}
use Rattle.rx_filter.specs.Addresses.{ether_type}
use Rattle.descriptors.specs.RingLaws.{place}
use Rattle.adapter.specs.HostFrames.{finished_pieces}
use Rattle.adapter.specs.bus_types.bus.Bus.{Ghosts}
use Rattle.adapter.specs.bus_types.event.Access.{Access}
use Rattle.adapter.specs.bus_types.event.Access.TheVariants.{Reads}
use Rattle.adapter.specs.Calls.{Did, FlowsTo, HasNoForgottenWork, IsReadyOver, IsRefilled, Moment, Ran, ReadsCauses, at, call_did}
use Rattle.adapter.specs.Calls.{driver_did, ether_type_load, frames_ended, held_at, in_world_of, missed_added, only, receive_loads}
use Rattle.adapter.specs.Calls.{stores_from, tail_write, takes_from}
use Rattle.adapter.specs.DriverState.{DriverState, HandedOut, frame_of, holding, next_receive, piece_numbers, owners}
use Rattle.adapter.specs.ReceiveSteps.{after_slots}
use Rattle.driver.specs.Parts.{AreFrames, FillBuffers, FitIntoBuffers, IsFrameSize, IsWholeFrame, buffers_in, buffers_of}
use Rattle.driver.specs.Parts.{joined_frames, lengths_in, parts_of, pieces_of, received_of}
use Rattle.driver.specs.declared.look.Run.{Run}
use Rattle.driver.specs.declared.parts.Part.{Part}
use Rattle.driver.specs.declared.parts.TheConstants.{MOST_PARTS}
use Rattle.driver.specs.declared.receiver.Received.{Received}
use Rattle.driver.specs.declared.receiver.Receiver.{Ghosts as OfReceiver}
use Rattle.adapter.specs.model_types.offsets.TheConstants.{MPC}
use Rattle.registers.specs.Bits.{HasBit, Meet}
use Rattle.registers.specs.Places.{rxt0}
use Rattle.driver.specs.Growth.{GrowsBy}
use Rattle.driver.specs.Looks.{IsLook}
use Rattle.adapter.specs.Pasts.{Past, joined}
use Rattle.bring_up.specs.WrittenRegisters.{handled_causes}
use Rattle.driver.specs.declared.interrupt.Handled.{Handled}
use Rattle.driver.specs.declared.interrupt.Handled.TheVariants.{NotMine}
use Rattle.driver.specs.declared.interrupt.Handled.TheVariants as answers

-- Taking frames

-- The first list is the second list, from which any number of items may be missing. The order is the same.
pub data IsSublist {X : Type 0} : List X → List X → Type 0 where
  part_none : IsSublist [] []
  part_with : {one : X} {some all : List X} → IsSublist some all → IsSublist (one ∷ some) (one ∷ all)
  part_without : {one : X} {some all : List X} → IsSublist some all → IsSublist some (one ∷ all)

-- A receiver was shown the frame `received`. If the receiver kept the frame, no buffer was added to the pool. Otherwise the frame's buffers
-- were added to the pool.
pub record Shows {R : Type 0} (took : R → R → List Received → List Received → Type 0) (before after : R) (received : Received)
    (pool pool' : List ℕ) : Type 0 where
  -- the frames that the receiver kept
  pub kept : List Received
  -- the receiver was shown this frame, and kept the frames `kept`
  pub shown : took before after (received ∷ []) kept
  -- the receiver kept no frame, or this frame
  pub whether : (kept ≡ []) ⊎ (kept ≡ received ∷ [])
  -- the buffers of the frame, if it wasn't kept, were added to the pool
  pub buffers : HaveSameNumbers (buffers_in received.parts ++ pool) (pool' ++ buffers_of kept)

-- A run of slots that left the ring, and whether it was shown to the receiver as a whole frame. A run that wasn't shown is bad.
pub record RunOfSlots : Type 0 where
  -- the buffer and the length of each slot
  pub parts : List Part
  -- whether the run was shown as a whole frame
  pub whole : Bool

-- the run with these parts, and whether it was shown as a whole frame
abbrev pub run_with : List Part → (whole : Bool) → RunOfSlots
run_with parts whole = record { parts = parts; whole = whole }

-- The run has one to six slots. If the run is whole, each buffer before the last is full, and the last contains at least one byte.
pub record IsRun (run : RunOfSlots) : Type 0 where
  -- at least one slot
  pub least : 1 ≤ length run.parts
  -- at most six slots
  pub most : length run.parts ≤ MOST_PARTS
  -- in a whole run, each buffer before the last is full, and the last contains at least one byte
  pub full : IsTrue run.whole → FillBuffers (lengths_in run.parts)

-- the numbers of the buffers of these runs, in order
abbrev pub run_buffers : List RunOfSlots → List ℕ
run_buffers runs = flat_map (λ (run : RunOfSlots). buffers_in run.parts) runs

-- the parts of each run that was shown as a whole frame, in order
abbrev pub whole_frames : List RunOfSlots → List (List Part)
whole_frames runs = map (λ (run : RunOfSlots). run.parts) (filter (λ (run : RunOfSlots). run.whole) runs)

-- the number of bad runs
abbrev pub bad_runs : List RunOfSlots → ℕ
bad_runs runs = count_by (λ (run : RunOfSlots). not run.whole) runs

-- The received frames are those of the whole runs, in order: each has the buffers and lengths of its run. The length of each frame is legal
-- and is the sum of the sizes of its pieces, and each piece fits into a buffer.
pub record AreFramesOf (runs : List RunOfSlots) (received : List Received) : Type 0 where
  -- the frames are those of the whole runs, in order, each with the buffers and lengths of its run
  pub parts : map (λ (one : Received). one.parts) received ≡ whole_frames runs
  -- each frame has a legal length, which is the sum of the sizes of its pieces, and each piece fits into a buffer
  pub sizes : AreFrames received

-- The frames of the whole runs were shown to the receiver, in order. The receiver kept none, some or all of these frames.
pub record ShowsRuns {R : Type 0} (took : R → R → List Received → List Received → Type 0) (before after : R) (runs : List RunOfSlots)
    : Type 0 where
  -- the frames shown
  pub received : List Received
  -- the frames shown are the whole frames of the runs
  pub frames : AreFramesOf runs received
  -- the frames that the receiver kept
  pub kept : List Received
  -- the receiver was shown the frames `received`, and kept the frames `kept`
  pub shown : took before after received kept
  -- the frames kept are among the frames shown, in the same order
  pub part : IsSublist kept received

-- `ShowsRuns` holds. The buffers of the bad runs, and of the frames that the receiver didn't keep, were added to the pool.
pub record ShowsAll {R : Type 0} (took : R → R → List Received → List Received → Type 0) (before after : R) (runs : List RunOfSlots)
    (pool pool' : List ℕ) : Type 0 where
  -- the frames that the receiver was shown, and those that it kept
  pub receiver : ShowsRuns took before after runs
  -- each buffer of the runs was added to the pool, or belongs to a frame that the receiver kept
  pub buffers : HaveSameNumbers (run_buffers runs ++ pool) (pool' ++ buffers_of receiver.kept)

-- A run was passed on. If the run is whole, its frame was shown to the receiver, and the count of bad runs is the same. If the run is bad,
-- it was counted. The buffers of a bad run, or of a frame that the receiver didn't keep, were added to the pool.
pub record PassesOn {R : Type 0} (took : R → R → List Received → List Received → Type 0) (before after : R) (run : RunOfSlots)
    (d d' : DriverState) : Type 0 where
  pub shows : ShowsAll took before after (run ∷ []) d.pool d'.pool
  pub bad : GrowsBy d.bad d'.bad (bad_runs (run ∷ []))

-- The slots of the run, which were the oldest outstanding slots, left the ring. `parts` are the buffers of these slots, each with its
-- length in the run. In the driver's state, only the oldest slot and the outstanding slots changed.
pub record LeavesRing (run : Run) (parts : List Part) (d d' : DriverState) : Type 0 where
  -- the buffers of the parts were those of the oldest outstanding slots
  pub first : d.buffers ≡ buffers_in parts ++ d'.buffers
  -- the lengths of the parts are those of the run
  pub lengths : lengths_in parts ≡ take run.count run.lengths
  -- the oldest slot is the slot after the run, and otherwise only the outstanding slots changed
  pub others : d' ≡ after_slots d run.count d'.buffers d.handed_out

-- The parts have the lengths of the run, and the length of the run is their sum. If the run is whole, its length is legal, and each of its
-- parts fits into a buffer.
pub record HasParts (run : Run) (parts : List Part) : Type 0 where
  pub lengths : lengths_in parts ≡ take run.count run.lengths
  pub length_is : run.length ≡ sum (lengths_in parts)
  pub size : IsTrue run.whole → IsFrameSize run.length
  pub fits : IsTrue run.whole → FitIntoBuffers (lengths_in parts)

-- With a receiver

-- The bus, the driver and the receiver at one point of a run.
pub record Scene (B R : Type 0) : Type 0 where
  -- the bus
  pub bus : B
  -- the driver
  pub driver : DriverState
  -- the receiver
  pub receiver : R

-- this bus, driver and receiver
abbrev pub scene : {B R : Type 0} → B → DriverState → R → Scene B R
scene bus driver receiver = record { bus = bus; driver = driver; receiver = receiver }

-- the bus and the driver of a scene
abbrev pub moment : {B R : Type 0} → Scene B R → Moment B
moment now = record { bus = now.bus; driver = now.driver }

-- this scene, in which others hold exactly these pieces of frames
abbrev pub held_in : {B R : Type 0} → List HandedOut → Scene B R → Scene B R
held_in held now = record now { driver = holding held now.driver }

-- `WhereReady` with a receiver. If the bus obeys the law and the driver is ready before a call, `Holds` relates the scenes before and after
-- the call. The relation is stated for each list of pieces that others hold, and for a transmit side that is set up or off.
abbrev pub WhereReadyIn : {B R : Type 0} → Ghosts B → (old new : Scene B R) → (Bool → Scene B R → Scene B R → Type 0) → Type 0
WhereReadyIn bus old new Holds =
    (up : Bool) (held : List HandedOut) → IsReadyOver bus up (held_at held (moment old)) → Holds up (held_in held old) (held_in held new)

-- The size of a frame's header in bytes: two addresses and the EtherType (IEEE 802.3, 3.2.3 to 3.2.6).
abbrev pub header_bytes : ℕ
header_bytes = 14

-- There is a first piece, and it contains the whole header of the frame, and so the EtherType (bytes 12 and 13).
abbrev pub HasEtherType : List HandedOut → Type 0
HasEtherType [] = ⊥
HasEtherType (first ∷ later) = header_bytes ≤ length first.bytes

-- `WhereReadyIn` for a run with the parts `parts`, if `whole` is true. Before and after the call, others hold the pieces `held`, and then
-- the pieces of a frame. These pieces have the buffers and lengths in `parts`, and the first contains the frame's header.
abbrev pub WhereTaken : {B R : Type 0} → Ghosts B → List Part → (whole : Bool) → (old new : Scene B R)
    → (List HandedOut → Bool → Scene B R → Scene B R → Type 0) → Type 0
WhereTaken bus parts whole old new Holds =
    (up : Bool) (held pieces : List HandedOut) → IsTrue whole → parts_of pieces ≡ parts → HasEtherType pieces
    → IsReadyOver bus up (held_at (held ++ pieces) (moment old))
    → Holds pieces up (held_in (held ++ pieces) old) (held_in (held ++ pieces) new)

-- The frame in these pieces was shown to the receiver. The only access was one load of the frame's bytes 12 and 13. The count of bad runs
-- is the same.
pub record HandsOver {B R : Type 0} (bus : Ghosts B) (receivers : OfReceiver R) (pieces : List HandedOut) (up : Bool)
    (old new : Scene B R) : Type 0 where
  pub shows : Shows receivers.took old.receiver new.receiver (received_of pieces) old.driver.pool new.driver.pool
  pub bad : new.driver.bad ≡ old.driver.bad
  pub ran :
      Ran bus up (only (ether_type_load old.driver.layout (piece_numbers pieces))) (moment old) (at new.bus old.driver)

-- There is at least one buffer, and no more buffers than the longest frame needs.
pub record AreOfOneFrame (numbers : List ℕ) : Type 0 where
  -- at least one buffer
  pub least : 1 ≤ length numbers
  -- the buffers before the last one, if they are full, contain at most the bytes of the longest frame
  pub most : receive_buffer_bytes * (length numbers - 1) ≤ longest_frame

-- These pieces make up a frame of legal size. Each piece except the last fills its buffer. The last piece has at least one byte, and fits
-- into its buffer.
pub record IsTaken (pieces : List HandedOut) : Type 0 where
  -- the pieces make up a frame of legal size
  pub whole : IsWholeFrame (received_of pieces)
  -- each piece except the last fills its buffer, and the last has at least one byte and fits into its buffer
  pub fill : FillBuffers (lengths_in (parts_of pieces))

-- n frames, `taken`, were shown to the receiver, in order. The receiver kept the frames `kept`.
pub record ShowsFrames {R : Type 0} (receivers : OfReceiver R) (n : ℕ) (before after : R) : Type 0 where
  -- the pieces of each frame shown
  pub taken : List (List HandedOut)
  -- the pieces of each frame kept
  pub kept : List (List HandedOut)
  -- the receiver was shown the frames `taken`, and kept the frames `kept`
  pub shown : receivers.took before after (map received_of taken) (map received_of kept)
  -- the frames kept are among the frames shown, in the same order
  pub part : IsSublist kept taken
  -- n frames were shown
  pub count : length taken ≡ n
  -- each frame has at least one buffer, and no more buffers than the longest frame needs (`AreOfOneFrame`)
  pub groups : All AreOfOneFrame (map piece_numbers taken)
  -- each frame has a legal size and fills all its buffers except the last, which contains at least one byte
  pub each : All IsTaken taken

-- n frames were taken off the ring, the oldest first, and shown to the receiver. Others hold the pieces of the frames that the receiver
-- kept. No run was bad.
pub record TakesFrames {B R : Type 0} (bus : Ghosts B) (receivers : OfReceiver R) (n : ℕ) (up : Bool) (old new : Scene B R) : Type 0 where
  pub frames : ShowsFrames receivers n old.receiver new.receiver
  pub oldest : old.driver.buffers ≡ piece_numbers (pieces_of frames.taken) ++ new.driver.buffers
  pub bad : new.driver.bad ≡ old.driver.bad
  pub ran :
      Ran bus up (call_did (takes_from old.driver.layout old.driver.oldest_receive (map piece_numbers frames.taken))
      (joined_frames frames.taken) [])
      (moment old) (held_at (old.driver.handed_out ++ pieces_of frames.kept) (moment new))

-- Over any bus: the runs `runs` left the ring, the oldest first, and n of them were shown as whole frames. It isn't stated which are bad.
pub record TakesSlots {R : Type 0} (receivers : OfReceiver R) (n : ℕ) (before after : R) (d d' : DriverState) : Type 0 where
  pub others : d' ≡ record d { oldest_receive = d'.oldest_receive; buffers = d'.buffers; pool = d'.pool; bad = d'.bad }
  pub runs : List RunOfSlots
  pub are_runs : All IsRun runs
  pub oldest : d.buffers ≡ run_buffers runs ++ d'.buffers
  pub next : d'.oldest_receive ≡ place d.layout.rx d.oldest_receive (length (run_buffers runs))
  pub count : length (whole_frames runs) ≡ n
  -- Each bad run is counted once, until the count saturates.
  pub bad : GrowsBy d.bad d'.bad (bad_runs runs)
  pub shows : ShowsAll receivers.took before after runs d.pool d'.pool

-- Over a bus that obeys the law: n frames were taken, and no frame ends in the remaining finished slots. After the last frame, the
-- descriptors of these slots were loaded, and that of the next outstanding slot if there is one.
pub record TakesAll {B R : Type 0} (bus : Ghosts B) (receivers : OfReceiver R) (n : ℕ) (up : Bool) (old new : Scene B R) : Type 0 where
  -- the bus after the last frame
  pub middle : B
  pub takes : TakesFrames bus receivers n up old (record new { bus = middle })
  pub none_left : frames_ended (in_world_of bus (moment new)) ≡ []
  pub loads : ℕ
  pub loads_are : loads ≡ min (suc (length (finished_pieces new.driver.oldest_receive (bus.world new.bus)))) (length new.driver.buffers)
  pub looks :
      Ran bus up (only (receive_loads new.driver.layout new.driver.oldest_receive loads))
      (held_at (old.driver.handed_out ++ pieces_of takes.frames.kept) (at middle new.driver))
      (held_at (old.driver.handed_out ++ pieces_of takes.frames.kept) (moment new))

-- `read` is the EtherType of the frame in these parts. Conditions: the bus obeys the law, the driver is ready, others hold the frame, and
-- the frame's first piece contains the header.
abbrev pub ReadsEtherType : {B : Type 0} → Ghosts B → List Part → Moment B → (read : ℕ) → Type 0
ReadsEtherType bus parts now read =
    (up : Bool) (held later : List HandedOut) (first : HandedOut) → IsReadyOver bus up (held_at (held ++ first ∷ later) now)
    → parts_of (first ∷ later) ≡ parts → header_bytes ≤ length first.bytes → read ≡ ether_type first.bytes

-- If the bus obeys the law, the driver is ready, and others hold the received frame, `bytes` are the bytes of this frame.
abbrev pub ReadsHeld : {B : Type 0} → Ghosts B → Received → Moment B → List ℕ → Type 0
ReadsHeld bus received now bytes =
    (up : Bool) (first pieces later : List HandedOut) → IsReadyOver bus up (held_at (first ++ (pieces ++ later)) now)
    → parts_of pieces ≡ received.parts → bytes ≡ frame_of pieces

-- Handling an interrupt

-- If the result is `Handled`, `P` holds for its number of frames.
abbrev pub IfHandled : Handled → (ℕ → Type 0) → Type 0
IfHandled NotMine P = ⊤
IfHandled (answers.Handled taken) P = P taken

-- If the result is `NotMine`, `P` holds.
abbrev pub IfNotMine : Handled → Type 0 → Type 0
IfNotMine NotMine P = P
IfNotMine (answers.Handled taken) P = ⊤

-- The accesses after the read of ICR: a read of MPC, `takes_from` with the buffers `taken`, and loads of the next `loads` descriptors.
abbrev pub taking_accesses : DriverState → (misses : ℕ) → (taken : List (List ℕ)) → (loads : ℕ) → List Access
taking_accesses d misses taken loads =
    Reads MPC misses ∷
    (takes_from d.layout d.oldest_receive taken
    ++ receive_loads d.layout (place d.layout.rx d.oldest_receive (length (concat taken))) loads)

-- The handler's last accesses: slots with the buffers `offered` are staged, and `tail` is written to RDT if any slot is staged.
abbrev pub offering_accesses : DriverState → (offered : List ℕ) → (tail : ℕ) → List Access
offering_accesses d offered tail = stores_from d.layout (next_receive d) offered ++ tail_write tail (d.staged ++ offered)

-- An interval is split at a point: the accesses `first` were made before this point, and the accesses `later` after it.
pub record IsSplit {B : Type 0} {bus : Ghosts B} {up : Bool} {did : Did} {old new : Moment B} (ran : Ran bus up did old new)
    (first later : List Access) : Type 0 where
  -- the bus at this point
  pub middle : B
  -- what happened in the interval before this point
  pub before : Past
  -- what happened in the interval after this point
  pub behind : Past
  -- `before` happened on the bus before this point
  pub reaches : bus.happened old.bus middle before
  -- `behind` happened on the bus after this point
  pub leaves : bus.happened middle new.bus behind
  -- both intervals together are the whole interval
  pub whole : ran.past ≡ joined before behind
  -- the accesses before this point
  pub first_made : before.accesses ≡ first
  -- the accesses after this point
  pub later_made : behind.accesses ≡ later

-- The value `misses` was added to the driver's sum of missed frames. `Works` states by its accesses that this value was read from MPC.
pub record ReadsMisses (d d' : DriverState) : Type 0 where
  -- the value that was added
  pub misses : ℕ
  -- the sum grew by this value, up to the greatest u64
  pub missed : d'.missed ≡ (missed_added misses d).missed
  -- the sum is exact if and only if it was exact before, the value is below MPC's greatest value, and the sum didn't saturate
  pub exact : d'.exact ≡ (missed_added misses d).exact

-- The oldest slots, with the buffers `taken`, left the ring. The staged slots and new slots were offered. No run was bad.
pub record TakesAndOffers (d d' : DriverState) (taken : List ℕ) : Type 0 where
  -- the buffers of the slots that weren't taken
  pub rest : List ℕ
  -- the buffers of the new slots
  pub offered : List ℕ
  -- before, the outstanding slots had the buffers `taken`, and then `rest`
  pub oldest : d.buffers ≡ taken ++ rest
  -- after, the outstanding slots have the buffers `rest`, then those of the staged slots, and then `offered`
  pub newest : d'.buffers ≡ rest ++ (d.staged ++ offered)
  -- no run was bad
  pub no_bad : d'.bad ≡ d.bad

-- The driver read MPC, took the frames `taken`, and offered slots. `split` is between the accesses that take and those that offer.
pub record Works {B : Type 0} (bus : Ghosts B) (taken : List (List HandedOut)) (up : Bool) (old new : Moment B) : Type 0 where
  -- MPC was read, and its value was added to the sum
  pub misses : ReadsMisses old.driver new.driver
  -- slots were taken and offered
  pub served : TakesAndOffers old.driver new.driver (piece_numbers (pieces_of taken))
  -- the number of descriptors that the last look loaded
  pub loads : ℕ
  -- exactly these accesses were made, in this order, and these frames were taken
  pub ran :
      Ran bus up (call_did
      (taking_accesses old.driver misses.misses (map piece_numbers taken) loads
      ++ offering_accesses old.driver served.offered (next_receive new.driver))
      (joined_frames taken) []) old new
  -- the point between the accesses that take and those that offer
  pub split : IsSplit ran (taking_accesses old.driver misses.misses (map piece_numbers taken) loads)
      (offering_accesses old.driver served.offered (next_receive new.driver))
  -- the last look at slots, at this point
  pub look : IsLook new.driver.oldest_receive served.rest (bus.world split.middle) loads

-- The handler's first access: a read of ICR.
pub record Asked {B : Type 0} (bus : Ghosts B) (up : Bool) (old : Moment B) : Type 0 where
  -- the value read from ICR
  pub causes : ℕ
  -- the bus after the read
  pub after_read : B
  -- the read of ICR, with no other access
  pub reads : ReadsCauses bus up causes old after_read

-- The result is `NotMine`: the value of ICR had no cause that the driver handles. After the read of ICR, the bus didn't change.
pub record DoesNothing {B : Type 0} (bus : Ghosts B) {up : Bool} (old new : Moment B) (asked : Asked bus up old) : Type 0 where
  -- the value of ICR had no cause that the driver handles
  pub none : ¬ Meet asked.causes handled_causes
  -- the bus didn't change after the read
  pub still : new.bus ≡ asked.after_read
  -- if no work was forgotten before the call, no work is forgotten after it
  pub work : HasNoForgottenWork old.driver (bus.world old.bus) → HasNoForgottenWork new.driver (bus.world new.bus)
  -- no frame was taken or accepted
  pub flows : FlowsTo up (in_world_of bus old) (in_world_of bus new) (driver_did [] []) asked.reads.past

-- The result is `Handled`: after the read of ICR, the driver took the frames `taken`.
pub record HandlesCauses {B : Type 0} (bus : Ghosts B) (taken : List (List HandedOut)) (n : ℕ) {up : Bool} (old new : Moment B)
    (asked : Asked bus up old) : Type 0 where
  -- the value of ICR had a cause that the driver handles
  pub some : Meet asked.causes handled_causes
  -- what the driver did after the read of ICR
  pub works : Works bus taken up (at asked.after_read old.driver) new
  -- n is at least the number of frames that ended in finished slots at the beginning
  pub least : length (frames_ended (in_world_of bus old)) ≤ n
  -- If RXT0 is in the mask at the beginning, no work is forgotten at the end.
  pub work : HasBit (bus.world old.bus).adapter.causes.mask rxt0 → HasNoForgottenWork new.driver (bus.world new.bus)
  -- what changed in the whole call
  pub flows :
      FlowsTo up (in_world_of bus old) (in_world_of bus new) (driver_did (joined_frames taken) []) (joined asked.reads.past works.ran.past)

-- The result is `Handled`, with a receiver. n frames were shown to the receiver, and others hold the pieces of the frames that it kept.
pub record HandlesIt {B R : Type 0} (bus : Ghosts B) (receivers : OfReceiver R) (n : ℕ) {up : Bool} (old new : Scene B R)
    (asked : Asked bus up (moment old)) : Type 0 where
  -- the receiver was shown the frames, and kept none, some or all of them
  pub frames : ShowsFrames receivers n old.receiver new.receiver
  -- the driver handled the causes; others hold the pieces of the frames that the receiver kept
  pub driver :
      HandlesCauses bus frames.taken n (moment old) (held_at (old.driver.handed_out ++ pieces_of frames.kept) (moment new)) asked

-- What the handler did after its read of ICR (`asked`): nothing for `NotMine`; for `Handled`, it took `taken` frames, and offered slots.
abbrev pub HandlesBy : {B R : Type 0} (bus : Ghosts B) → OfReceiver R → Handled → {up : Bool} → (old new : Scene B R)
    → Asked bus up (moment old) → Type 0
HandlesBy bus receivers NotMine old new asked = DoesNothing bus (moment old) (moment new) asked
HandlesBy bus receivers (answers.Handled taken) old new asked = HandlesIt bus receivers taken old new asked

-- The contract of `interrupt` for a driver that is ready, over a bus that obeys the law. The handler reads ICR first, and its next
-- accesses depend on the causes read.
pub record Handles {B R : Type 0} (bus : Ghosts B) (receivers : OfReceiver R) (result : Handled) (up : Bool) (old new : Scene B R) : Type 0
  where
    -- the read of ICR
    pub asked : Asked bus up (moment old)
    -- what the handler did after the read
    pub then_does : HandlesBy bus receivers result old new asked

-- Over any bus

-- Only the receive side and its counts may change: the layout, the outstanding transmit slots, the setup and the groups are the same.
pub record OnlyReceives (d d' : DriverState) : Type 0 where
  -- rings and buffers have the same sizes
  pub layout : d'.layout ≡ d.layout
  -- the oldest transmit slot is the same
  pub oldest : d'.oldest_transmit ≡ d.oldest_transmit
  -- the number of outstanding transmit slots is the same
  pub sending : d'.sending ≡ d.sending
  -- the setup is the same
  pub setup : d'.setup ≡ d.setup
  -- the groups joined are the same
  pub groups : d'.groups ≡ d.groups

-- These runs left the ring, the oldest first. After the remaining slots, the staged slots were offered, and then new slots with the buffers
-- `offered`.
pub record LeaveRing (d d' : DriverState) (runs : List RunOfSlots) : Type 0 where
  -- each run has one to six slots; in a whole run, each buffer before the last is full, and the last isn't empty
  pub are_runs : All IsRun runs
  -- the buffers of the slots that remain outstanding
  pub rest : List ℕ
  -- the buffers of the new slots
  pub offered : List ℕ
  -- before, the outstanding slots had the buffers of the runs, and then `rest`
  pub oldest : d.buffers ≡ run_buffers runs ++ rest
  -- after, the outstanding slots have the buffers `rest`, then those of the staged slots, and then `offered`
  pub newest : d'.buffers ≡ rest ++ (d.staged ++ offered)
  -- the oldest slot is the slot after the runs
  pub next : d'.oldest_receive ≡ place d.layout.rx d.oldest_receive (length (run_buffers runs))

-- A value was added to the sum of missed frames, these runs left the ring, n of them whole, and slots were offered. The record doesn't
-- state which runs are bad or how many slots each has. Only a bus that obeys the law determines the bytes of a load.
pub record ServesRing (d d' : DriverState) (runs : List RunOfSlots) (n : ℕ) : Type 0 where
  -- A value was added to the sum. Over a bus that obeys the law, `Handles` states that this value was read from MPC.
  pub misses : ReadsMisses d d'
  -- n runs were shown as whole frames
  pub count : length (whole_frames runs) ≡ n
  -- the runs left the ring, and slots were offered
  pub leave : LeaveRing d d' runs
  -- Each bad run is counted once, until the count saturates.
  pub bad : GrowsBy d.bad d'.bad (bad_runs runs)
  -- No buffer is free, or all receive slots but one are outstanding.
  pub refilled : IsRefilled d'
  -- the driver's own state before the call lists no pieces that others hold; `held_in` adds them
  pub none_out : d.handed_out ≡ []
  -- no buffer has two owners
  pub one_owner : HasNoSecondOwner d'.layout.buffers (owners d')
  -- No slot is staged at the end. Otherwise only the oldest receive slot, the outstanding receive slots, the pool and the counts change.
  pub others :
      d' ≡ record d {
        oldest_receive = d'.oldest_receive;
        buffers = d'.buffers;
        staged = [];
        pool = d'.pool;
        missed = d'.missed;
        exact = d'.exact;
        bad = d'.bad;
      }

-- The contract of `interrupt` over any bus, if the result is `Handled`. Runs left the ring, and the receiver was shown the frames of the n
-- whole runs.
pub record ServesReceiver {R : Type 0} (receivers : OfReceiver R) (before after : R) (d d' : DriverState) (n : ℕ) : Type 0 where
  -- the runs that left the ring
  pub runs : List RunOfSlots
  -- how the driver's state changed
  pub ring : ServesRing d d' runs n
  -- the frames that the receiver was shown, and those that it kept
  pub receiver : ShowsRuns receivers.took before after runs
  -- the driver's buffers before are its buffers after and those of the frames that the receiver kept
  pub owners : HaveSameNumbers (owners d) (owners d' ++ buffers_of receiver.kept)
