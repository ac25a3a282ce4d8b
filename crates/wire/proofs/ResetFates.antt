-- The fates of frames in a reset of their host.
use Rattle.std.proofs.Common.{◌≡◌, ◌<◌, ◌+◌, ◌*◌, ◌/◌, ◌%◌, ◌++◌, ◌∷◌, [], ℕ, Bool, false, List, Option, Some, None}
use Rattle.std.proofs.Common.{refl, sym, ap, subst, ◌∙◌, arith, if◌then◌else◌, suc, zero}
use Rattle.std.specs.Bool.{⊤}
use Rattle.std.specs.List.{All}
use Rattle.std.proofs.lemmas.Bool.{eq-eqb}
use Rattle.std.proofs.lemmas.List.Elements.{All-append, All-cons}
use Rattle.registers.specs.Bits.{HasBit}
use Rattle.registers.specs.Places.{alone, ctrl_rst, rctl_en}
use Rattle.rx_filter.specs.NumberTables.{HasNumbers, numbers_of_groups}
use Rattle.rx_filter.specs.Registers.{FilterRegisters}
use Rattle.adapter.specs.Receiving.{room}
use Rattle.adapter.specs.Table.{register_at}
use Rattle.adapter.specs.World.{World}
use Rattle.adapter.specs.model_types.offsets.TheConstants.{CTRL, ICR, IMC, IMS, RCTL, TCTL, TDBAL}
use Rattle.adapter.specs.TableLaws.{register_at-only}
use Rattle.adapter.specs.model_types.register.Register.{Register}
use Rattle.adapter.specs.model_types.register.Register.TheVariants.{Rctl}
use Rattle.dma_memory.specs.Layout.{Counts}
use Rattle.adapter.proofs.Lists.{all-head, all-none, all-tail}
use Rattle.adapter.specs.Settings.{IsNotReceiveControl, IsOff, LeavesReceiver, writes_in}
use Rattle.adapter.specs.Trails.{world_after_access}
use Rattle.adapter.specs.bus_types.event.Access.{Access}
use Rattle.adapter.specs.bus_types.event.Access.TheVariants.{Loads, Reads, Stores, Writes}
use Rattle.adapter.specs.bus_types.event.Event.TheVariants.{Accesses}
use Rattle.stations.proofs.HostTrails.{world-here}
use Rattle.stations.specs.AtomicRuns.{LeadsTo, past_at}
use Rattle.stations.specs.AtomicSteps.{At, AtomicStep, after_atomic}
use Rattle.stations.specs.Stations.{StationState, world_at}
use Rattle.host_calls.proofs.Joining.{fates-append}
use Rattle.host_calls.proofs.OffFates.{fates-off}
use Rattle.host_calls.proofs.RightFates.{fates-right, filter-stays}
use Rattle.host_calls.specs.Fates.{AreRightFates, Emptied, Mark, Reception, SwitchedOff, SwitchedOn, mark_by, marks, reception}
use Rattle.host_calls.specs.Happenings.{happened_in}
use Rattle.host_calls.specs.Reception.{LeavesReception}
use Rattle.host_calls.specs.StepOutcomes.{stations_behind}
use Rattle.bring_up.proofs.Setups.{setups-agree}
use Rattle.bring_up.specs.ClearedDescriptors.{clears, clears_from}
use Rattle.bring_up.specs.DriverSteps.{accesses_of}
use Rattle.bring_up.specs.RingRegisters.{receive_control, ring_setup_writes, transmit_control, transmit_writes}
use Rattle.bring_up.specs.WrittenRegisters.{handled_causes, link_control, mask_writes, register_limit}
use Rattle.adapter.specs.DriverState.{DriverSetup, DriverState}
use Rattle.driver.specs.Resetting.{free_accesses, later_accesses, quiet_writes}
use Rattle.bring_up.proofs.Words.{tables-agree}
use Rattle.packet_socket.specs.HostState.{HostState}
use Rattle.host_calls.specs.ConnectedHosts.{connected}
use Rattle.host_calls.specs.ResetSteps.{ResetParts}
use Rattle.host_calls.specs.ResetsInSteps.{ResetsInSteps}
use Rattle.host_calls.proofs.Joining.{marks-append}
use Rattle.host_calls.specs.Happenings.{Disabled, Enabled, GivenUp, Happening, of_host}
use Rattle.host_calls.specs.Reception.{ReceivesRightly}
use Rattle.wire.proofs.ResetAccesses.{IsBeyond, free-hold, quiet-hold}
use Rattle.wire.specs.Equations.{HostStands}
use Rattle.wire.proofs.ResetTold.{reset_said}
use Rattle.wire.specs.Runs.{ResetAnswer}

-- One write

abbrev written : (k offset value : ℕ) → AtomicStep
written k offset value = At k (Accesses (Writes offset value))

world-written : (k offset value : ℕ) (later : List AtomicStep) (a b : List StationState) → LeadsTo k (written k offset value ∷ later) a b
    → world_at (after_atomic (written k offset value) a) k ≡ world_after_access (Writes offset value) (world_at a k)
world-written k offset value later a b leads = world-here a k (Accesses (Writes offset value)) (eq-eqb k k refl) leads.0

disabled : (world : World) → IsOff (world_after_access (Writes RCTL 0) world)
unfolding register_at
disabled world = λ on. absurd (omega (arith, on))

emptied : (world : World) → (world_after_access (Writes CTRL (alone ctrl_rst)) world).adapter.receiver.buffer ≡ []
unfolding register_at
emptied world = refl

reset-off : (world : World) → IsOff (world_after_access (Writes CTRL (alone ctrl_rst)) world)
unfolding register_at
reset-off world = λ on. absurd (omega (arith, on))

buffer-stays : (value : ℕ) (world : World)
    → (world_after_access (Writes RCTL value) world).adapter.receiver.buffer ≡ world.adapter.receiver.buffer
unfolding register_at
buffer-stays value world = refl

leads-first : (caller : ℕ) (first later : List AtomicStep) (a b : List StationState) → LeadsTo caller (first ++ later) a b
    → LeadsTo caller first a (stations_behind first a) × LeadsTo caller later (stations_behind first a) b
leads-first caller [] later a b leads = (refl, leads)
leads-first caller (step ∷ first) later a b leads =
    let rest = leads-first caller first later (after_atomic step a) b leads.2 in
    ((leads.0, leads.1, rest.0), rest.1)

-- The marks of a reset, by its parts.
abbrev reset_marks : (early stopping resting later : List Mark) → List Mark
reset_marks early stopping resting later = early ++ SwitchedOff ∷ (stopping ++ Emptied ∷ (resting ++ SwitchedOn ∷ later))

-- The fates of a reset are right if those of each part are. While the receive side is disabled, they must be right for
-- any frames in the packet buffer.
marks-right : (filter : FilterRegisters) (bytes : ℕ) (groups from cut to : List (List ℕ)) (early stopping resting later : List Mark)
    → AreRightFates filter bytes (reception groups from) early (reception groups cut)
    → ((buffered : List (List ℕ)) → (let off : Reception = record { groups = groups; buffered = buffered; enabled = false } in
    AreRightFates filter bytes off stopping off))
    → ((buffered : List (List ℕ)) → (let off : Reception = record { groups = groups; buffered = buffered; enabled = false } in
    AreRightFates filter bytes off resting off))
    → AreRightFates filter bytes (reception groups []) later (reception groups to)
    → AreRightFates filter bytes (reception groups from) (reset_marks early stopping resting later) (reception groups to)
marks-right filter bytes groups from cut to early stopping resting later first stops rests last =
    let off : Reception = record { groups = groups; buffered = cut; enabled = false } in
    let empty : Reception = record { groups = groups; buffered = []; enabled = false } in
    let end = reception groups to in
    fates-append filter bytes (reception groups from) (reception groups cut) end early
    (SwitchedOff ∷ (stopping ++ Emptied ∷ (resting ++ SwitchedOn ∷ later))) first
    (fates-append filter bytes off off end stopping (Emptied ∷ (resting ++ SwitchedOn ∷ later)) (stops cut)
    (fates-append filter bytes empty empty end resting (SwitchedOn ∷ later) (rests []) last))

-- What is known of the parts of a reset: their accesses, RCTL.EN and MTA at the start, and that the filter and the room
-- are the same at the end.
pub record CanBeJudged (k control : ℕ) (groups : List (List ℕ)) (early stopping resting later : List AtomicStep)
    (a last enabled b : List StationState) : Type 0 where
  pub stops : LeadsTo k (early ++ written k RCTL 0 ∷ stopping) a last
  pub rests : LeadsTo k (written k CTRL (alone ctrl_rst) ∷ (resting ++ written k RCTL control ∷ [])) last enabled
  pub restarts : LeadsTo k later enabled b
  pub none_early : All LeavesReception (past_at k early).accesses
  pub stopping_off : All LeavesReceiver (writes_in (past_at k stopping).accesses)
  pub resting_off : All LeavesReceiver (writes_in (past_at k resting).accesses)
  pub later_leave : All LeavesReception (past_at k later).accesses
  pub on : HasBit (world_at a k).adapter.filter.rctl rctl_en
  pub has : HasNumbers (world_at a k).adapter.filter.mta (numbers_of_groups groups)
  pub filter : (world_at b k).adapter.filter ≡ (world_at a k).adapter.filter
  pub kilobytes : (world_at b k).adapter.receive_kilobytes ≡ (world_at a k).adapter.receive_kilobytes

pub judged : (k control : ℕ) (groups : List (List ℕ)) (early stopping resting later : List AtomicStep)
    (a last enabled b : List StationState)
    → CanBeJudged k control groups early stopping resting later a last enabled b
    → AreRightFates (world_at a k).adapter.filter (room (world_at a k).adapter)
    (reception groups (world_at a k).adapter.receiver.buffer)
    (reset_marks (marks k (happened_in early)) (marks k (happened_in stopping)) (marks k (happened_in resting))
    (marks k (happened_in later)))
    (reception groups (world_at b k).adapter.receiver.buffer)
judged k control groups early stopping resting later a last enabled b can =
    let from = (world_at a k).adapter in
    let begun = leads-first k early (written k RCTL 0 ∷ stopping) a last can.stops in
    let m1 = stations_behind early a in
    let m2 = after_atomic (written k RCTL 0) m1 in
    let first = fates-right k k early a m1 groups begun.0 can.none_early can.on can.has in
    let off2 : IsOff (world_at m2 k) =
    subst IsOff (sym (world-written k RCTL 0 stopping m1 last begun.1)) (disabled (world_at m1 k)) in
    let stops = fates-off k k stopping m2 last begun.1.2 can.stopping_off off2 in
    let m4 = after_atomic (written k CTRL (alone ctrl_rst)) last in
    let at_rest = resting ++ written k RCTL control ∷ [] in
    let here = world-written k CTRL (alone ctrl_rst) at_rest last enabled can.rests in
    let off4 : IsOff (world_at m4 k) = subst IsOff (sym here) (reset-off (world_at last k)) in
    let quiet = leads-first k resting (written k RCTL control ∷ []) m4 enabled can.rests.2 in
    let m5 = stations_behind resting m4 in
    let rests = fates-off k k resting m4 m5 quiet.0 can.resting_off off4 in
    let none5 = rests.empty (ap (λ (w : World). w.adapter.receiver.buffer) here ∙ emptied (world_at last k)) in
    let none : (world_at enabled k).adapter.receiver.buffer ≡ [] =
    ap (λ (ss : List StationState). (world_at ss k).adapter.receiver.buffer) quiet.1.2
    ∙ ap (λ (w : World). w.adapter.receiver.buffer) (world-written k RCTL control [] m5 enabled quiet.1)
    ∙ buffer-stays control (world_at m5 k) ∙ none5 in
    let stays : (world_at enabled k).adapter.filter ≡ from.filter =
    sym (filter-stays k k later enabled b can.restarts can.later_leave) ∙ can.filter in
    let last_right = fates-right k k later enabled b groups can.restarts can.later_leave
    (subst (λ (f : FilterRegisters). HasBit f.rctl rctl_en) (sym stays) can.on)
    (subst (λ (f : FilterRegisters). HasNumbers f.mta (numbers_of_groups groups)) (sym stays) can.has) in
    let to = (world_at b k).adapter.receiver.buffer in
    let all = marks k (happened_in later) in
    let sized : (world_at enabled k).adapter.receive_kilobytes ≡ from.receive_kilobytes =
    sym last_right.right.kilobytes ∙ can.kilobytes in
    let behind : AreRightFates from.filter (room from) (reception groups []) all (reception groups to) =
    subst (λ (f : FilterRegisters). AreRightFates f (room from) (reception groups []) all (reception groups to)) stays
    (subst (λ (n : ℕ). AreRightFates (world_at enabled k).adapter.filter (n * 1024) (reception groups []) all (reception groups to)) sized
    (subst (λ (frames : List (List ℕ)). AreRightFates (world_at enabled k).adapter.filter (room (world_at enabled k).adapter)
    (reception groups frames) all (reception groups to)) none last_right.right.fates)) in
    marks-right from.filter (room from) groups from.receiver.buffer (world_at m1 k).adapter.receiver.buffer to
    (marks k (happened_in early)) (marks k (happened_in stopping)) (marks k (happened_in resting)) all first.right.fates
    (λ buffered. stops.fates from.filter (room from) groups buffered) (λ buffered. rests.fates from.filter (room from) groups buffered)
    behind

-- The accesses of a reset

abbrev LeavesControl : Access → Type 0
LeavesControl (Reads offset value) = ⊤
LeavesControl (Writes offset value) = IsNotReceiveControl (register_at offset)
LeavesControl (Loads address size) = ⊤
LeavesControl (Stores address bytes) = ⊤

found-leaves : (found : Option Register) (offset : ℕ) → register_at offset ≡ found → RCTL < offset → IsNotReceiveControl found
found-leaves None offset at beyond = tt
found-leaves (Some Rctl) offset at beyond =
    let stands = (register_at-only offset Rctl at).there in absurd (omega (arith, stands, beyond))
found-leaves (Some _) offset at beyond = tt

beyond-leaves : (access : Access) → IsBeyond access → LeavesControl access
beyond-leaves (Reads offset value) beyond = tt
beyond-leaves (Writes offset value) beyond = found-leaves (register_at offset) offset refl beyond
beyond-leaves (Loads address size) beyond = tt
beyond-leaves (Stores address bytes) beyond = tt

link-leaves : LeavesControl (Writes CTRL link_control)
unfolding register_at
link-leaves = tt

unmask-leaves : LeavesControl (Writes IMC 0xFFFFFFFF)
unfolding register_at
unmask-leaves = tt

receiver-left : (accesses : List Access) → All LeavesControl accesses → All LeavesReceiver (writes_in accesses)
receiver-left [] leave = all-none LeavesReceiver
receiver-left (Reads offset value ∷ later) leave = receiver-left later (all-tail LeavesControl (Reads offset value) later leave)
receiver-left (Writes offset value ∷ later) leave =
    All-cons LeavesReceiver (record { offset = offset; value = value }) (writes_in later)
    (all-head LeavesControl (Writes offset value) later leave)
    (receiver-left later (all-tail LeavesControl (Writes offset value) later leave))
receiver-left (Loads address size ∷ later) leave = receiver-left later (all-tail LeavesControl (Loads address size) later leave)
receiver-left (Stores address bytes ∷ later) leave = receiver-left later (all-tail LeavesControl (Stores address bytes) later leave)

rest-leaves : (setup : DriverSetup) (counts : Counts) (causes : ℕ) (groups vlans numbers : List ℕ)
    → All LeavesReceiver
    (writes_in (Writes IMC 0xFFFFFFFF ∷ Reads ICR causes ∷ quiet_writes setup counts groups vlans ++ free_accesses counts numbers))
rest-leaves setup counts causes groups vlans numbers =
    let quiet = quiet_writes setup counts groups vlans in
    let free = free_accesses counts numbers in
    receiver-left (Writes IMC 0xFFFFFFFF ∷ Reads ICR causes ∷ quiet ++ free)
    (All-cons LeavesControl (Writes IMC 0xFFFFFFFF) (Reads ICR causes ∷ quiet ++ free) unmask-leaves
    (All-cons LeavesControl (Reads ICR causes) (quiet ++ free) tt
    (All-append LeavesControl quiet free (quiet-hold LeavesControl beyond-leaves setup counts groups vlans link-leaves)
    (free-hold LeavesControl beyond-leaves counts numbers))))

clears-leave : (first count : ℕ) → All LeavesReception (clears_from first count)
clears-leave first zero = all-none LeavesReception
clears-leave first (suc k) =
    All-append LeavesReception (clears_from first k) (clears (first + 16 * k) ∷ []) (clears-leave first k)
    (All-cons LeavesReception (clears (first + 16 * k)) [] tt (all-none LeavesReception))

transmit-leaves : (base bytes : ℕ) → All LeavesReception (accesses_of (ring_setup_writes TDBAL base bytes ++ transmit_writes))
unfolding register_at
transmit-leaves base bytes =
    let seven = accesses_of transmit_writes in
    let five = Writes (TDBAL + 0x18) 0 ∷ seven in
    let four = Writes (TDBAL + 0x10) 0 ∷ five in
    let three = Writes (TDBAL + 8) bytes ∷ four in
    let two = Writes (TDBAL + 4) (base / register_limit) ∷ three in
    All-cons LeavesReception (Writes TDBAL (base % register_limit)) two tt
    (All-cons LeavesReception (Writes (TDBAL + 4) (base / register_limit)) three tt
    (All-cons LeavesReception (Writes (TDBAL + 8) bytes) four tt
    (All-cons LeavesReception (Writes (TDBAL + 0x10) 0) five tt
    (All-cons LeavesReception (Writes (TDBAL + 0x18) 0) seven tt
    (All-cons LeavesReception (Writes TCTL transmit_control) [] tt (all-none LeavesReception))))))

masked-leaves : All LeavesReception (accesses_of mask_writes)
unfolding register_at
masked-leaves = All-cons LeavesReception (Writes IMS handled_causes) [] tt (all-none LeavesReception)

later-leave : (counts : Counts) → All LeavesReception (later_accesses counts)
later-leave counts =
    let base = 16 * counts.rx in
    let clear = clears_from base counts.tx in
    let ring = accesses_of (ring_setup_writes TDBAL base (16 * counts.tx) ++ transmit_writes) in
    All-append LeavesReception (clear ++ ring) (accesses_of mask_writes)
    (All-append LeavesReception clear ring (clears-leave base counts.tx) (transmit-leaves base (16 * counts.tx))) masked-leaves

-- The happenings of a reset

own-mark : (k : ℕ) (marks_are : List Mark) → of_host k k marks_are ≡ marks_are
own-mark k marks_are = ap (λ (here : Bool). if here then marks_are else []) (eq-eqb k k refl)

said-marks : (k : ℕ) (answer : ResetAnswer) (parts : ResetParts)
    → marks k (reset_said k answer parts)
    ≡ reset_marks (marks k (happened_in parts.early)) (marks k (happened_in parts.stopping)) (marks k (happened_in parts.resting))
    (marks k (happened_in parts.later))
said-marks k answer parts =
    let rest = happened_in parts.resting ++ Enabled k ∷ happened_in parts.later in
    let stop = happened_in parts.stopping ++ GivenUp k answer.sending answer.holding ∷ rest in
    let marked : (first : List Happening) (one : Happening) (mark : Mark) (later : List Happening) (all : List Mark)
    → mark_by k one ≡ mark ∷ [] → marks k later ≡ all → marks k (first ++ one ∷ later) ≡ marks k first ++ mark ∷ all =
    λ first one mark later all own same.
    marks-append k first (one ∷ later)
    ∙ ap (λ (list : List Mark). marks k first ++ (list ++ marks k later)) own
    ∙ ap (λ (list : List Mark). marks k first ++ mark ∷ list) same in
    marked (happened_in parts.early) (Disabled k) SwitchedOff stop _ (own-mark k (SwitchedOff ∷ []))
    (marked (happened_in parts.stopping) (GivenUp k answer.sending answer.holding) Emptied rest _ (own-mark k (Emptied ∷ []))
    (marked (happened_in parts.resting) (Enabled k) SwitchedOn (happened_in parts.later) _ (own-mark k (SwitchedOn ∷ [])) refl))

whole-filter : (a b : FilterRegisters) → b ≡ record a { mta = b.mta } → b.mta ≡ a.mta → b ≡ a
whole-filter a b same table = same ∙ ap (λ (list : List ℕ). let f : FilterRegisters = record a { mta = list } in f) table

pub reset-fates : (k : ℕ) (answer : ResetAnswer) (steps : List AtomicStep) (h h' : HostState) (a b : List StationState)
    → HostStands h (world_at a k) → (resets : ResetsInSteps k steps (connected h a) (connected h' b))
    → ReceivesRightly h.driver.groups (world_at a k).adapter (marks k (reset_said k answer resets.parts)) h'.driver.groups
    (world_at b k).adapter
reset-fates k answer steps h h' a b stands resets =
    let setup = h.driver.setup in
    let groups = h.driver.groups in
    let from = (world_at a k).adapter in
    let to = (world_at b k).adapter in
    let agree = setups-agree setup from to stands.set_up resets.keeps.set_up in
    let filter = whole-filter from.filter to.filter agree.0
    (tables-agree groups (world_at a k) (world_at b k) stands.groups resets.keeps.groups)
    in
    let same : h'.driver.groups ≡ groups = ap (λ (d : DriverState). d.groups) resets.again.driver in
    let fates = judged k (receive_control setup.promiscuous setup.by_vlan) groups resets.parts.early resets.parts.stopping
    resets.parts.resting resets.parts.later a resets.last resets.enabled b
    (record {
      stops = resets.stops.leads;
      rests = resets.rests.leads;
      restarts = resets.restarts.leads;
      none_early = subst (All LeavesReception) (sym resets.accesses.early) (all-none LeavesReception);
      stopping_off = subst (λ (list : List Access). All LeavesReceiver (writes_in list)) (sym resets.accesses.stopping)
          (all-none LeavesReceiver);
      resting_off = subst (λ (list : List Access). All LeavesReceiver (writes_in list)) (sym resets.accesses.resting)
          (rest-leaves setup h.driver.layout resets.values.causes resets.values.groups resets.values.vlans resets.values.numbers);
      later_leave = subst (All LeavesReception) (sym resets.accesses.later) (later-leave h.driver.layout);
      on = stands.can.receives;
      has = stands.groups.numbers;
      filter = filter;
      kilobytes = agree.1;
    }) in
    record {
      filter = agree.0;
      unchanged = λ keeps. filter;
      kilobytes = agree.1;
      fates =
          subst (λ (all : List Mark). AreRightFates from.filter (room from) (reception groups from.receiver.buffer) all
          (reception h'.driver.groups to.receiver.buffer)) (sym (said-marks k answer resets.parts))
          (subst (λ (list : List (List ℕ)). AreRightFates from.filter (room from) (reception groups from.receiver.buffer)
          (reset_marks (marks k (happened_in resets.parts.early)) (marks k (happened_in resets.parts.stopping))
          (marks k (happened_in resets.parts.resting)) (marks k (happened_in resets.parts.later))) (reception list to.receiver.buffer))
          (sym same) fates);
    }
