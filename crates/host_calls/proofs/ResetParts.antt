-- `ResetsInSteps` of a host, from the intervals of its reset.
use Rattle.std.proofs.Common.{◌≡◌, ◌++◌, ◌∷◌, [], ℕ, true, IsTrue, List, refl, sym, ap, subst, ◌∙◌, append_assoc, arith}
use Rattle.std.specs.List.{All}
use Rattle.std.proofs.lemmas.List.{append-nil}
use Rattle.registers.specs.Places.{alone, ctrl_rst}
use Rattle.rx_filter.specs.NumberTables.{HasNumbers, numbers_of_groups}
use Rattle.rx_filter.specs.Registers.{FilterRegisters}
use Rattle.adapter.specs.HostFrames.{frames_held, frames_to_send}
use Rattle.adapter.specs.World.{World}
use Rattle.adapter.specs.model_types.offsets.TheConstants.{CTRL, ICR, IMC, MPC, RCTL}
use Rattle.adapter.proofs.Links.{happenings_keep_link}
use Rattle.adapter.proofs.Lists.{append-empty}
use Rattle.adapter.specs.AdaptersAtRest.{NoFrame}
use Rattle.adapter.specs.Law.{Happens}
use Rattle.adapter.specs.Link.{HasLink}
use Rattle.adapter.specs.Pasts.{Past, joined}
use Rattle.adapter.specs.bus_types.event.Access.{Access}
use Rattle.adapter.specs.bus_types.event.Access.TheVariants.{Reads, Writes}
use Rattle.bring_up.proofs.WritesAtRest.{reset-written}
use Rattle.bring_up.specs.ConfiguredAdapters.{AreWords, FilterHasSetup, HasSetup}
use Rattle.bring_up.specs.RingRegisters.{receive_control}
use Rattle.bring_up.specs.Groups.{HasTable}
use Rattle.stations.specs.AtomicRunLaws.{leads_join, past_join}
use Rattle.stations.specs.AtomicRuns.{IsTick, LeadsTo, past_at}
use Rattle.stations.specs.AtomicSteps.{AtomicStep, after_atomic}
use Rattle.stations.specs.Stations.{StationState, world_at}
use Rattle.adapter.proofs.Steps.{goes-happens}
use Rattle.adapter.proofs.Intervals.{goes_join}
use Rattle.adapter.specs.Calls.{GoesTo, HasNoForgottenWork, SumsMisses, driver_did, driver_in, missed_added}
use Rattle.adapter.specs.DriverState.{DriverState, holding}
use Rattle.adapter.specs.ReadyDrivers.{Stands}
use Rattle.driver.proofs.SummedMisses.{sums-as, sums-join}
use Rattle.driver.specs.Initialisation.{AreFilterTables}
use Rattle.driver.specs.Resetting.{free_accesses, later_accesses, quiet_accesses, quiet_writes, stop_accesses}
use Rattle.packet_socket.proofs.Intervals.{accounts-stay, driver-stays, host-happens, host-join, queues-stand, with_driver}
use Rattle.packet_socket.proofs.WaitingFrames.{queue-frames-same}
use Rattle.packet_socket.specs.HostCalls.{HostGoesTo, HostReady, did_nothing, driver_of, in_world, waiting_frames}
use Rattle.packet_socket.specs.HostState.{HostState}
use Rattle.host_calls.proofs.Calling.{work-goes}
use Rattle.host_calls.proofs.HostTrails.{happens-alone, none-alone}
use Rattle.host_calls.proofs.ResetIntervals.{Interval, arrivals-join, frames-join, off-read, off-ticks, off-written, own-past, own-world}
use Rattle.host_calls.proofs.ResetIntervals.{regroup}
use Rattle.host_calls.proofs.SplitSteps.{SplitSteps, nothing-behind, split-steps, ticks-alone}
use Rattle.host_calls.specs.ConnectedHosts.{connected}
use Rattle.host_calls.specs.ResetSteps.{PartsAccess, ResetParts, ResetValues, at_rest, before_reset, disable_of, enable_of, reset_of}
use Rattle.host_calls.specs.ResetSteps.{whole_reset}
use Rattle.host_calls.specs.ResetsInSteps.{HostBeginsAgain, KeepsInReset, ResetsInSteps, RestartsInSteps, RestsInSteps, StopsInSteps}
use Rattle.host_calls.specs.ResetsInSteps.{stopped_host}

-- the driver's accesses in the intervals of a reset
abbrev pub rest_accesses : (causes : ℕ) → List Access
rest_accesses causes = Writes IMC 0xFFFFFFFF ∷ Reads ICR causes ∷ []

-- The five intervals of a reset, with the stations after each interval, and the ticks after the last access.
pub record ResetRan (k : ℕ) (h h' : HostState) (a0 a6 : List StationState) : Type 0 where
  pub values : ResetValues
  pub p1 : Past
  pub p2 : Past
  pub p3 : Past
  pub p4 : Past
  pub p5 : Past
  pub a1 : List StationState
  pub a2 : List StationState
  pub a3 : List StationState
  pub a4 : List StationState
  pub a5 : List StationState
  pub s1 : Interval k (stop_accesses values.misses) p1 a0 a1
  pub s2 : Interval k (Writes CTRL (alone ctrl_rst) ∷ []) p2 a1 a2
  pub s3 : Interval k (rest_accesses values.causes) p3 a2 a3
  pub s4 : Interval k (quiet_accesses h.driver.setup h.driver.layout values.groups values.vlans values.numbers) p4 a3 a4
  pub s5 : Interval k (later_accesses h.driver.layout) p5 a4 a5
  pub s6 : List AtomicStep
  pub ticks : All IsTick s6
  pub ends : LeadsTo k s6 a5 a6
  pub goes : GoesTo true (driver_in (driver_of h (world_at a0 k)) (world_at a0 k))
      (driver_in (missed_added values.misses (driver_of h (world_at a0 k))) (world_at a1 k)) (driver_did [] []) p1
  pub tables : AreFilterTables h.driver.groups h.driver.setup.vlans values.groups values.vlans
  pub resting : NoFrame p3
  pub quiet : NoFrame p4
  pub ready : HostReady h' (world_at a5 k)
  pub work : HasNoForgottenWork h'.driver (world_at a5 k)
  pub held : frames_held h'.driver.oldest_receive (world_at a5 k) ≡ p5.stored
  pub none_put : p5.put ≡ []
  pub none_to_send : frames_to_send (world_at a5 k) ≡ []
  pub again : HostBeginsAgain values.misses values.numbers h h'
  pub set_up : HasSetup h.driver.setup (world_at a5 k).adapter
  pub groups : HasTable h.driver.groups (world_at a5 k)
  pub waiting : (socket : ℕ) → waiting_frames h' socket (world_at a5 k) ≡ waiting_frames h socket (world_at a0 k)
  pub sums : SumsMisses (driver_in h.driver (world_at a0 k)) (driver_in h'.driver (world_at a5 k))
      (joined p1 (joined p2 (joined p3 (joined p4 p5))))
  pub link : HasLink (world_at a0 k) → HasLink (world_at a5 k)

-- all steps
abbrev pub steps_ran : {k : ℕ} {h h' : HostState} {a b : List StationState} → ResetRan k h h' a b → List AtomicStep
steps_ran ran = (ran.s1.steps ++ (ran.s2.steps ++ (ran.s3.steps ++ (ran.s4.steps ++ ran.s5.steps)))) ++ ran.s6

-- The steps of the intervals, split at the three writes to RCTL, CTRL and RCTL.
record Cuts (k : ℕ) (h h' : HostState) (a b : List StationState) (ran : ResetRan k h h' a b) : Type 0 where
  one : SplitSteps k (Writes RCTL 0) [] (Reads MPC ran.values.misses ∷ []) ran.s1.steps a ran.a1
  two : SplitSteps k (Writes CTRL (alone ctrl_rst)) [] [] ran.s2.steps ran.a1 ran.a2
  two_last : two.behind ≡ []
  four : SplitSteps k (Writes RCTL (receive_control h.driver.setup.promiscuous h.driver.setup.by_vlan))
      (quiet_writes h.driver.setup h.driver.layout ran.values.groups ran.values.vlans
      ++ free_accesses h.driver.layout ran.values.numbers) []
      ran.s4.steps ran.a3 ran.a4
  four_last : four.behind ≡ []

cuts : (k : ℕ) (h h' : HostState) (a b : List StationState) (ran : ResetRan k h h' a b) → Cuts k h h' a b ran
cuts k h h' a b ran =
    let one = split-steps k ran.s1.steps a ran.a1 (Writes RCTL 0) [] (Reads MPC ran.values.misses ∷ []) ran.s1.leads ran.s1.made_are in
    let two = split-steps k ran.s2.steps ran.a1 ran.a2 (Writes CTRL (alone ctrl_rst)) [] [] ran.s2.leads ran.s2.made_are in
    let writes = quiet_writes h.driver.setup h.driver.layout ran.values.groups ran.values.vlans in
    let free = free_accesses h.driver.layout ran.values.numbers in
    let last = Writes RCTL (receive_control h.driver.setup.promiscuous h.driver.setup.by_vlan) in
    let four = split-steps k ran.s4.steps ran.a3 ran.a4 last (writes ++ free) [] ran.s4.leads
    (ran.s4.made_are ∙ sym (append_assoc writes free (last ∷ []))) in
    record {
      one = one;
      two = two;
      two_last = nothing-behind k _ [] ran.s2.steps ran.a1 ran.a2 two ran.s2.ends;
      four = four;
      four_last = nothing-behind k _ (writes ++ free) ran.s4.steps ran.a3 ran.a4 four ran.s4.ends;
    }

abbrev parts-of : (k : ℕ) (h h' : HostState) (a b : List StationState) (ran : ResetRan k h h' a b) → Cuts k h h' a b ran → ResetParts
parts-of k h h' a b ran cut = record {
  early = cut.one.before;
  stopping = cut.one.behind ++ cut.two.before;
  resting = ran.s3.steps ++ cut.four.before;
  later = ran.s5.steps ++ ran.s6;
}

-- The split

two-is : (k : ℕ) (h h' : HostState) (a b : List StationState) (ran : ResetRan k h h' a b) (cut : Cuts k h h' a b ran)
    → ran.s2.steps ≡ cut.two.before ++ reset_of k ∷ []
two-is k h h' a b ran cut =
    cut.two.split ∙ ap (λ (list : List AtomicStep). cut.two.before ++ reset_of k ∷ list) cut.two_last

four-is : (k : ℕ) (h h' : HostState) (a b : List StationState) (ran : ResetRan k h h' a b) (cut : Cuts k h h' a b ran)
    → ran.s4.steps ≡ cut.four.before ++ enable_of k h.driver.setup ∷ []
four-is k h h' a b ran cut =
    cut.four.split ∙ ap (λ (list : List AtomicStep). cut.four.before ++ enable_of k h.driver.setup ∷ list) cut.four_last

split-is : (k : ℕ) (h h' : HostState) (a b : List StationState) (ran : ResetRan k h h' a b) (cut : Cuts k h h' a b ran)
    → steps_ran ran ≡ whole_reset k h.driver.setup (parts-of k h h' a b ran cut)
split-is k h h' a b ran cut =
    let Whole : List AtomicStep → List AtomicStep → List AtomicStep → List AtomicStep =
    λ first second fourth. (first ++ (second ++ (ran.s3.steps ++ (fourth ++ ran.s5.steps)))) ++ ran.s6 in
    ap (λ (first : List AtomicStep). Whole first ran.s2.steps ran.s4.steps) cut.one.split
    ∙ ap (λ (second : List AtomicStep). Whole (cut.one.before ++ disable_of k ∷ cut.one.behind) second ran.s4.steps)
    (two-is k h h' a b ran cut)
    ∙ ap (λ (fourth : List AtomicStep).
    Whole (cut.one.before ++ disable_of k ∷ cut.one.behind) (cut.two.before ++ reset_of k ∷ []) fourth) (four-is k h h' a b ran cut)
    ∙ regroup cut.one.before cut.one.behind cut.two.before ran.s3.steps cut.four.before ran.s5.steps ran.s6 (disable_of k) (reset_of k)
    (enable_of k h.driver.setup)

-- The accesses

pub accesses-join : (k : ℕ) (first later : List AtomicStep)
    → (past_at k (first ++ later)).accesses ≡ (past_at k first).accesses ++ (past_at k later).accesses
accesses-join k first later = ap (λ (past : Past). past.accesses) (past_join k first later)

two-accesses : (k : ℕ) (first later : List AtomicStep) (xs ys : List Access) → (past_at k first).accesses ≡ xs
    → (past_at k later).accesses ≡ ys → (past_at k (first ++ later)).accesses ≡ xs ++ ys
two-accesses k first later xs ys one two =
    accesses-join k first later
    ∙ ap (λ (list : List Access). list ++ (past_at k later).accesses) one
    ∙ ap (λ (list : List Access). xs ++ list) two

accesses-are : (k : ℕ) (h h' : HostState) (a b : List StationState) (ran : ResetRan k h h' a b) (cut : Cuts k h h' a b ran)
    → PartsAccess k h.driver.layout h.driver.setup ran.values (parts-of k h h' a b ran cut)
accesses-are k h h' a b ran cut = record {
  early = cut.one.before_are;
  stopping = two-accesses k cut.one.behind cut.two.before (Reads MPC ran.values.misses ∷ []) [] cut.one.behind_are cut.two.before_are;
  resting = two-accesses k ran.s3.steps cut.four.before (rest_accesses ran.values.causes) _ ran.s3.made_are cut.four.before_are;
  later = two-accesses k ran.s5.steps ran.s6 (later_accesses h.driver.layout) [] ran.s5.made_are (none-alone k ran.s6 ran.ticks)
      ∙ append-nil (later_accesses h.driver.layout);
}

-- Before CTRL.RST is written

-- An interval of the driver is an interval of its host, because the frames in the queues don't change.
driver-goes : (h : HostState) (d : DriverState) (a b : World) (past : Past) → HostReady h a
    → GoesTo true (driver_in (driver_of h a) a) (driver_in (holding (driver_of h a).handed_out d) b) (driver_did [] []) past
    → HostGoesTo true (in_world h a) (in_world (with_driver d h) b) did_nothing past
driver-goes h d a b past host goes =
    let stand = goes.flows.ready.stand in
    let counts = goes.flows.layout in
    record {
      sizes = host.sizes;
      driver = subst (λ (end : DriverState). GoesTo true (driver_in (driver_of h a) a) (driver_in end b) (driver_did [] []) past)
          (sym (driver-stays h d a b host counts stand)) goes;
      accounts = accounts-stay h d a b past.stored host counts stand goes.flows.holds;
    }

stops-are : (k : ℕ) (h h' : HostState) (a b : List StationState) (ran : ResetRan k h h' a b) (cut : Cuts k h h' a b ran)
    → HostReady h (world_at a k) → StopsInSteps k ran.values.misses (parts-of k h h' a b ran cut) (connected h a) cut.two.middle
stops-are k h h' a b ran cut ready =
    let h1 = stopped_host ran.values.misses h in
    let last = cut.two.middle in
    let t2 = cut.two.before in
    let here = ran.a1 in
    let is : ran.s1.steps ++ t2 ≡ before_reset k (parts-of k h h' a b ran cut) =
    ap (λ (list : List AtomicStep). list ++ t2) cut.one.split
    ∙ append_assoc cut.one.before (disable_of k ∷ cut.one.behind) t2 in
    let are = ticks-alone k t2 here last cut.two.leads cut.two.before_are in
    let stopped = driver-goes h (missed_added ran.values.misses h.driver) (world_at a k) (world_at here k) ran.p1 ready ran.goes in
    let ready1 : HostReady h1 (world_at here k) = record { sizes = stopped.sizes; ready = stopped.driver.flows.ready } in
    let alone = happens-alone k k t2 here last are cut.two.leads in
    let ticked = host-happens h1 (world_at here k) (world_at last k) (past_at k t2) ready1 alone in
    let both = host-join (GoesTo true) (GoesTo true) goes_join (in_world h (world_at a k)) (in_world h1 (world_at here k))
    (in_world h1 (world_at last k)) did_nothing did_nothing ran.p1 (past_at k t2) stopped ticked in
    let past_is : joined ran.p1 (past_at k t2) ≡ past_at k (before_reset k (parts-of k h h' a b ran cut)) =
    ap (λ (past : Past). joined past (past_at k t2)) (sym ran.s1.past_is) ∙ sym (past_join k ran.s1.steps t2) ∙ ap (past_at k) is in
    let disabled = after_atomic (disable_of k) cut.one.middle in
    let off = off-written k cut.one.middle disabled (cut.one.rest.0, cut.one.rest.1, refl) in
    let read = off-read k ran.values.misses cut.one.behind disabled here cut.one.rest.2 cut.one.behind_are off in
    let then = off-ticks k t2 here last are cut.two.leads read.1 in
    let none = arrivals-join (past_at k cut.one.behind) (past_at k t2) read.0 then.0 in
    let stopping_is = past_join k cut.one.behind t2 in
    record {
      leads = subst (λ (list : List AtomicStep). LeadsTo k list a last) is
          (leads_join k ran.s1.steps t2 a here last ran.s1.leads cut.two.leads);
      goes = subst (HostGoesTo true (in_world h (world_at a k)) (in_world h1 (world_at last k)) did_nothing) past_is both;
      none_stored = ap (λ (past : Past). past.stored) stopping_is ∙ none.none_stored;
      none_missed = ap (λ (past : Past). past.missed) stopping_is ∙ none.none_missed;
    }

-- From the write of CTRL.RST to the second write of RCTL

rest-is : {X : Type 0} (r n : X) (s q : List X) → (r ∷ []) ++ (s ++ (q ++ n ∷ [])) ≡ r ∷ ((s ++ q) ++ n ∷ [])
rest-is r n s q = ap (λ (list : List _). r ∷ list) (sym (append_assoc s q (n ∷ [])))

rests-are : (k : ℕ) (h h' : HostState) (a b : List StationState) (ran : ResetRan k h h' a b) (cut : Cuts k h h' a b ran)
    → RestsInSteps k h.driver.setup (parts-of k h h' a b ran cut) cut.two.middle ran.a4
rests-are k h h' a b ran cut =
    let setup = h.driver.setup in
    let last = cut.two.middle in
    let reset = reset_of k ∷ [] in
    let is : reset ++ (ran.s3.steps ++ ran.s4.steps) ≡ at_rest k setup (parts-of k h h' a b ran cut) =
    ap (λ (list : List AtomicStep). reset ++ (ran.s3.steps ++ list)) (four-is k h h' a b ran cut)
    ∙ rest-is (reset_of k) (enable_of k setup) ran.s3.steps cut.four.before in
    let written : LeadsTo k reset last ran.a2 =
    subst (λ (list : List AtomicStep). LeadsTo k (reset_of k ∷ list) last ran.a2) cut.two_last cut.two.rest in
    let quiet = leads_join k ran.s3.steps ran.s4.steps ran.a2 ran.a3 ran.a4 ran.s3.leads ran.s4.leads in
    let past_is : past_at k (reset ++ (ran.s3.steps ++ ran.s4.steps)) ≡ joined (past_at k reset) (joined ran.p3 ran.p4) =
    past_join k reset (ran.s3.steps ++ ran.s4.steps)
    ∙ ap (joined (past_at k reset)) (past_join k ran.s3.steps ran.s4.steps)
    ∙ ap (λ (past : Past). joined (past_at k reset) (joined past (past_at k ran.s4.steps))) ran.s3.past_is
    ∙ ap (λ (past : Past). joined (past_at k reset) (joined ran.p3 past)) ran.s4.past_is in
    let still : NoFrame (past_at k reset) =
    subst NoFrame (sym (own-past k (Writes CTRL (alone ctrl_rst)))) (record { none_put = refl; none_stored = refl; none_missed = refl }) in
    record {
      leads = subst (λ (list : List AtomicStep). LeadsTo k list last ran.a4) is
          (leads_join k reset (ran.s3.steps ++ ran.s4.steps) last ran.a2 ran.a4 written quiet);
      is_reset = own-world k (Writes CTRL (alone ctrl_rst)) last (after_atomic (reset_of k) last) (cut.two.rest.0, cut.two.rest.1, refl)
          ∙ reset-written (world_at last k);
      no_frame = subst (λ (list : List AtomicStep). NoFrame (past_at k list)) is
          (subst NoFrame (sym past_is)
          (frames-join (past_at k reset) (joined ran.p3 ran.p4) still (frames-join ran.p3 ran.p4 ran.resting ran.quiet)));
    }

-- The host is ready again, and ticks follow its last access

restarts-are : (k : ℕ) (h h' : HostState) (a b : List StationState) (ran : ResetRan k h h' a b) (cut : Cuts k h h' a b ran)
    → RestartsInSteps k (parts-of k h h' a b ran cut) ran.a4 (connected h' b)
restarts-are k h h' a b ran cut =
    let w = world_at ran.a5 k in
    let w' = world_at b k in
    let past = past_at k ran.s6 in
    let goes = host-happens h' w w' past ran.ready (happens-alone k k ran.s6 ran.a5 b ran.ticks ran.ends) in
    let later_is : past_at k (ran.s5.steps ++ ran.s6) ≡ joined ran.p5 past =
    past_join k ran.s5.steps ran.s6 ∙ ap (λ (p : Past). joined p past) ran.s5.past_is in
    let none = append-empty past.put (frames_to_send w')
    (goes.driver.flows.sends ∙ append-nil (frames_to_send w) ∙ ran.none_to_send) in
    record {
      leads = leads_join k ran.s5.steps ran.s6 ran.a4 ran.a5 b ran.s5.leads ran.ends;
      ready = record { sizes = goes.sizes; ready = goes.driver.flows.ready };
      work = work-goes h' w h' w' [] [] [] past goes ran.work;
      held = goes.driver.flows.holds ∙ ap (λ (list : List (List ℕ)). list ++ past.stored) ran.held
          ∙ sym (ap (λ (p : Past). p.stored) later_is);
      none_put = ap (λ (p : Past). p.put) later_is ∙ ap (λ (list : List (List ℕ)). list ++ past.put) ran.none_put ∙ none.0;
      none_to_send = none.1;
    }

-- What the reset keeps

pub sums-held : (d d' e e' : DriverState) (a b : World) (past : Past) → e.missed ≡ d.missed → e.exact ≡ d.exact → e'.missed ≡ d'.missed
    → e'.exact ≡ d'.exact → SumsMisses (driver_in d a) (driver_in d' b) past → SumsMisses (driver_in e a) (driver_in e' b) past
sums-held d d' e e' a b past missed exact missed' exact' sums = record {
  sum = omega (arith, sums.sum, missed, missed');
  counted = λ fits low. let is = sums.counted fits (omega (arith, low, missed)) in omega (arith, is, missed, missed');
  sticks = λ fits much. let is = sums.sticks fits (omega (arith, much, missed)) in omega (arith, is, missed');
  at_most = omega (arith, sums.at_most, missed, missed');
  exactly = λ is below.
      let all = sums.exactly (subst IsTrue exact' is) below in
      record {
        exact = subst IsTrue (sym exact) all.exact;
        below_greatest = all.below_greatest;
        sum = omega (arith, all.sum, missed, missed');
      };
  stays_exact = λ is below low. subst IsTrue (sym exact') (sums.stays_exact (subst IsTrue exact is) below (omega (arith, low, missed)));
  small = λ was below.
      subst IsTrue (sym exact')
      (sums.small (λ small. subst IsTrue exact (was (omega (arith, small, missed)))) (omega (arith, below, missed')));
}

keeps-are : (k : ℕ) (h h' : HostState) (a b : List StationState) (ran : ResetRan k h h' a b)
    → KeepsInReset k (steps_ran ran) (connected h a) (connected h' b)
keeps-are k h h' a b ran =
    let w = world_at ran.a5 k in
    let w' = world_at b k in
    let past = past_at k ran.s6 in
    let happens = happens-alone k k ran.s6 ran.a5 b ran.ticks ran.ends in
    let goes = host-happens h' w w' past ran.ready happens in
    let filter : w'.adapter.filter ≡ w.adapter.filter = happens.steady.registers.filter in
    let same = queues-stand h' h'.driver w w' ran.ready refl (host-stands h' w w' past ran.ready happens) in
    let first = ran.s1.steps ++ (ran.s2.steps ++ (ran.s3.steps ++ (ran.s4.steps ++ ran.s5.steps))) in
    let before = joined ran.p1 (joined ran.p2 (joined ran.p3 (joined ran.p4 ran.p5))) in
    let first_is : past_at k first ≡ before =
    intervals-past k ran.s1.steps ran.s2.steps ran.s3.steps ran.s4.steps ran.s5.steps ran.p1 ran.p2
    ran.p3 ran.p4 ran.p5 ran.s1.past_is ran.s2.past_is ran.s3.past_is ran.s4.past_is ran.s5.past_is in
    let whole : past_at k (first ++ ran.s6) ≡ joined before past =
    past_join k first ran.s6 ∙ ap (λ (p : Past). joined p past) first_is in
    let sums = sums-join (driver_in h.driver (world_at a k)) (driver_in h'.driver w) (driver_in h'.driver w') before past ran.sums
    (sums-held (driver_of h' w) (driver_of h' w') h'.driver h'.driver w w' past refl refl refl refl goes.driver.flows.misses) in
    record {
      set_up = record {
        filter = subst (FilterHasSetup h.driver.setup) (sym filter) ran.set_up.filter;
        allocation = happens.steady.registers.allocation ∙ ran.set_up.allocation;
      };
      groups = record {
        numbers = subst (λ (f : FilterRegisters). HasNumbers f.mta (numbers_of_groups h.driver.groups)) (sym filter) ran.groups.numbers;
        words = subst (λ (f : FilterRegisters). AreWords f.mta) (sym filter) ran.groups.words;
      };
      waiting = λ socket. queue-frames-same h'.driver.layout w.memory w'.memory h'.queues same socket ∙ ran.waiting socket;
      sums = sums-as (driver_in h.driver (world_at a k)) (driver_in h'.driver w') (joined before past) (past_at k (first ++ ran.s6))
          (ap (λ (p : Past). p.missed) whole) sums;
      link = λ link. happenings_keep_link w w' past happens (ran.link link);
    }
  where
    intervals-past : (k : ℕ) (s1 s2 s3 s4 s5 : List AtomicStep) (p1 p2 p3 p4 p5 : Past) → past_at k s1 ≡ p1 → past_at k s2 ≡ p2
        → past_at k s3 ≡ p3 → past_at k s4 ≡ p4 → past_at k s5 ≡ p5
        → past_at k (s1 ++ (s2 ++ (s3 ++ (s4 ++ s5)))) ≡ joined p1 (joined p2 (joined p3 (joined p4 p5)))
    intervals-past k s1 s2 s3 s4 s5 p1 p2 p3 p4 p5 e1 e2 e3 e4 e5 =
        let j1 = past_join k s1 (s2 ++ (s3 ++ (s4 ++ s5))) in
        let j2 = past_join k s2 (s3 ++ (s4 ++ s5)) in
        let j3 = past_join k s3 (s4 ++ s5) in
        let j4 = past_join k s4 s5 in cc

    host-stands : (h : HostState) (a b : World) (past : Past) → HostReady h a → Happens a b past
        → All (Stands h.driver.layout b.memory) (driver_of h a).handed_out
    host-stands h a b past ready happens = (goes-happens (driver_of h a) a b past ready.ready happens).flows.ready.stand

pub resets-are : (k : ℕ) (h h' : HostState) (a b : List StationState) (ran : ResetRan k h h' a b) → HostReady h (world_at a k)
    → ResetsInSteps k (steps_ran ran) (connected h a) (connected h' b)
resets-are k h h' a b ran ready =
    let cut = cuts k h h' a b ran in
    record {
      parts = parts-of k h h' a b ran cut;
      split = split-is k h h' a b ran cut;
      values = ran.values;
      tables = ran.tables;
      accesses = accesses-are k h h' a b ran cut;
      last = cut.two.middle;
      enabled = ran.a4;
      stops = stops-are k h h' a b ran cut ready;
      rests = rests-are k h h' a b ran cut;
      restarts = restarts-are k h h' a b ran cut;
      again = ran.again;
      keeps = keeps-are k h h' a b ran;
    }
