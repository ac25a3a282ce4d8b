-- Register writes as intervals of a driver's run, if the world right before each write is known.
use Rattle.std.proofs.Common.{◌≡◌, ◌<◌, ◌+◌, ◌*◌, ◌⊎◌, ⊎_elim, ◌++◌, ◌∷◌, []}
use Rattle.std.proofs.Common.{Bool, true, false, ℕ, List, length, bit_and, inl}
use Rattle.std.proofs.Common.{inr, refl, sym, ap, subst, ◌∙◌, arith}
use Rattle.std.proofs.lemmas.List.{append-nil, nil_from_length}
use Rattle.registers.specs.Bits.{HasBit}
use Rattle.registers.specs.Laws.{HasBit-union}
use Rattle.dma_memory.specs.Layout.{receive_buffer_bytes}
use Rattle.descriptors.specs.Ring.{count_of}
use Rattle.rx_engine.specs.Pieces.{frames_of}
use Rattle.adapter.specs.HostAreas.{buffer_size}
use Rattle.adapter.specs.HostFrames.{frames_held}
use Rattle.adapter.specs.KnownRing.{KnowsRing}
use Rattle.adapter.specs.World.{World, receive_ring, transmit_ring, world_after_write}
use Rattle.adapter.specs.model_types.register.Register.TheVariants.{Rctl, Tctl}
use Rattle.adapter.specs.RegisterSetting.{with_receive_control, with_transmit_control}
use Rattle.adapter.specs.Keeping.{view_of}
use Rattle.adapter.specs.Law.{Acts}
use Rattle.adapter.specs.Pasts.{Past, joined, nothing}
use Rattle.adapter.specs.Settings.{IsOff}
use Rattle.adapter.specs.bus_types.bus.Bus.{Ghosts}
use Rattle.adapter.specs.bus_types.event.Access.{Access}
use Rattle.adapter.specs.bus_types.event.Access.TheVariants.{Writes}
use Rattle.adapter.proofs.KnownRings.{known_transmit_ring_stays}
use Rattle.adapter.proofs.WaitingRings.{holds-none, offers_wait}
use Rattle.adapter.specs.Beginnings.{Enabled}
use Rattle.adapter.specs.Calls.{Goes, GoesTo, Ran, at, driver_did, driver_in, frames_ended, only}
use Rattle.adapter.specs.DriverState.{DriverState, transmit_tail}
use Rattle.adapter.specs.ReadyDrivers.{Ready, ReadyWith}
use Rattle.adapter.proofs.DriverAccesses.{SetsBy, follows-acts, follows-join, write-sets}
use Rattle.adapter.proofs.TransmitControl.{causes_are_enabled, transmitter_is_enabled}
use Rattle.adapter.proofs.ReceiveControl.{receiver_is_enabled}
use Rattle.adapter.proofs.Steps.{goes-happens}
use Rattle.adapter.proofs.Intervals.{goes_join, joined-nothing}
use Rattle.bring_up.specs.DriverSteps.{MakesAccesses, EnablesCauses, LeavesDriver, LetsFramesIn}
use Rattle.bring_up.specs.SettingSteps.{WriteActs}
use Rattle.bring_up.specs.RingRegisters.{receive_control, receive_writes, transmit_writes}
use Rattle.bring_up.proofs.Steps.{register-written}

-- Steps and deliveries, and then one access, form an interval of the driver's run. The access itself must be such an interval, from the
-- world right before it.
unfoldable pub ran_by-begins : {first_up up : Bool} {B : Type 0} (bus : Ghosts B) (old new : B) (access : Access)
    (effect : World → World → Type 0) (d : DriverState) (acts : Acts (view_of bus) old new access effect)
    → SetsBy access effect (bus.world new)
    → ReadyWith first_up d (bus.world old)
    → (ReadyWith first_up d acts.middle → GoesTo up (driver_in d acts.middle) (driver_in d (bus.world new)) (driver_did [] []) nothing)
    → Ran bus up (only (access ∷ [])) (at old d) (at new d)
ran_by-begins {first_up} {up} bus old new access effect d acts sets ready step =
    let first = goes-happens d (bus.world old) acts.middle acts.past ready acts.before in
    record {
      past = acts.past;
      reports = acts.told;
      only = acts.only;
      goes =
          subst (GoesTo up (driver_in d (bus.world old)) (driver_in d (bus.world new)) (driver_did [] [])) (joined-nothing acts.past)
          (goes_join d d d (bus.world old) acts.middle (bus.world new) [] [] [] [] acts.past nothing first (step first.flows.ready));
      follows = follows-acts bus old new access effect acts sets;
    }

unfoldable pub accessed-by : {B : Type 0} (bus : Ghosts B) (old new : B) (access : Access) (effect : World → World → Type 0)
    → Acts (view_of bus) old new access effect → SetsBy access effect (bus.world new) → MakesAccesses bus (access ∷ []) old new
accessed-by bus old new access effect acts sets =
    record { past = acts.past; reports = acts.told; only = acts.only; follows = follows-acts bus old new access effect acts sets }

unfoldable pub accessed-join : {B : Type 0} (bus : Ghosts B)
    → ((a b c : B) (first later : Past) → bus.happened a b first → bus.happened b c later → bus.happened a c (joined first later))
    → (a b c : B) (xs ys : List Access) → MakesAccesses bus xs a b → MakesAccesses bus ys b c → MakesAccesses bus (xs ++ ys) a c
accessed-join bus joins a b c xs ys one two = record {
  past = joined one.past two.past;
  reports = joins a b c one.past two.past one.reports two.reports;
  only = rw (one.only, two.only) refl;
  follows = follows-join (bus.world a) (bus.world b) (bus.world c) one.past two.past one.follows two.follows;
}

-- A write of RCTL

control-kept : (promiscuous by_vlan : Bool) → bit_and (receive_control promiscuous by_vlan) 0x0607B33A ≡ receive_control promiscuous by_vlan
control-kept true true = refl
control-kept true false = refl
control-kept false true = refl
control-kept false false = refl

receive_control-written : (promiscuous by_vlan : Bool) (world : World)
    → world_after_write 0x0100 (receive_control promiscuous by_vlan) world
    ≡ with_receive_control (receive_control promiscuous by_vlan) world
receive_control-written promiscuous by_vlan world =
    register-written Rctl tt (receive_control promiscuous by_vlan) world
    ∙ ap (λ (control : ℕ). with_receive_control control world) (control-kept promiscuous by_vlan)

not-extended : (promiscuous by_vlan : Bool) → ¬ (HasBit (receive_control promiscuous by_vlan) 25)
not-extended true true = λ has. omega arith
not-extended true false = λ has. omega arith
not-extended false true = λ has. omega arith
not-extended false false = λ has. omega arith

small-buffers : (promiscuous by_vlan : Bool) (world : World)
    → buffer_size (with_receive_control (receive_control promiscuous by_vlan) world) ≡ receive_buffer_bytes
small-buffers true true world = refl
small-buffers true false world = refl
small-buffers false true world = refl
small-buffers false false world = refl

pub lets-frames-in : {B : Type 0} (bus : Ghosts B) (old new : B) (promiscuous by_vlan : Bool) (value : ℕ) (d : DriverState)
    → value ≡ receive_control promiscuous by_vlan → WriteActs bus old new 0x0100 value → ReadyWith false d (bus.world old)
    → frames_held d.oldest_receive (bus.world old) ≡ [] → IsOff (bus.world old)
    → LetsFramesIn bus (receive_writes promiscuous by_vlan) d old new
unfolding ran_by-begins
lets-frames-in bus old new promiscuous by_vlan value d is written ready none off =
    let control = receive_control promiscuous by_vlan in
    let o = d.oldest_receive in
    let acts = subst (WriteActs bus old new 0x0100) is written in
    let middle = acts.middle in
    let within : o < count_of (receive_ring (bus.world old)) = omega (arith, ready.driver_is.oldest_slot, ready.receive.slots) in
    let waits = offers_wait receive_buffer_bytes o d.oldest_transmit (bus.world old) middle acts.past ready.law.sound within off
    (omega arith) ready.law.whole none acts.before in
    let arrives = acts.before.steady.arrivals.off off in
    let between = acts.before.between o d.oldest_transmit ready.law.sound in
    let empty : frames_held o middle ≡ [] =
    between.receive.holds ∙ ap (λ (frames : List (List ℕ)). frames ++ acts.past.stored) none ∙ arrives.0 in
    let done : bus.world new ≡ with_receive_control control middle = acts.effect_is ∙ receive_control-written promiscuous by_vlan middle in
    let ready_there = (goes-happens d (bus.world old) middle acts.past ready acts.before).flows.ready in
    let goes : GoesTo false (driver_in d middle) (driver_in d (bus.world new)) (driver_did [] []) nothing =
    subst (λ (w : World). GoesTo false (driver_in d middle) (driver_in d w) (driver_did [] []) nothing) (sym done)
    (receiver_is_enabled d control middle ready_there waits.none_finished waits.no_work (not-extended promiscuous by_vlan)
    (small-buffers promiscuous by_vlan middle)) in
    let none_held : frames_held o (bus.world new) ≡ [] = goes.flows.holds ∙ append-nil (frames_held o middle) ∙ empty in
    let law = goes.flows.ready.law in
    record {
      ran = ran_by-begins bus old new (Writes 0x0100 control) _ d acts (write-sets 0x0100 control (bus.world new)) ready
          (λ there. goes);
      none_held = none_held;
      none_finished =
          (holds-none receive_buffer_bytes o d.oldest_transmit (bus.world new) law.sound (omega arith) law.whole none_held).none_finished;
      no_arrival = record { none_stored = arrives.0; none_missed = arrives.1 };
    }

-- A write of TCTL

pub lets-frames-out : {B : Type 0} (bus : Ghosts B) (old new : B) (value : ℕ) (d : DriverState)
    → value ≡ 0x000400FA → WriteActs bus old new 0x0400 value → ReadyWith false d (bus.world old)
    → d.oldest_transmit < d.layout.tx
    → KnowsRing (transmit_ring (bus.world old)) (16 * d.layout.rx) d.layout.tx (transmit_tail d)
    → LeavesDriver bus transmit_writes true d old new
lets-frames-out bus old new value d is written ready below knows =
    let acts = subst (WriteActs bus old new 0x0400) is written in
    let middle = acts.middle in
    let still = known_transmit_ring_stays (bus.world old) middle acts.past _ _ _ acts.before.steady knows in
    let done : bus.world new ≡ with_transmit_control 0x000400FA middle = acts.effect_is ∙ register-written Tctl tt 0x000400FA middle in
    ran_by-begins bus old new (Writes 0x0400 0x000400FA) _ d acts (write-sets 0x0400 0x000400FA (bus.world new)) ready
    (λ there. subst (λ (w : World). Goes (driver_in d middle) (driver_in d w) (driver_did [] []) nothing) (sym done)
    (transmitter_is_enabled d 0x000400FA middle there below still refl))

-- A write of IMS

pub asked-still : (d : DriverState) (a b : World) (past : Past) → Goes (driver_in d a) (driver_in d b) (driver_did [] []) past
    → (frames_ended (driver_in d a) ≡ []) ⊎ HasBit a.adapter.causes.recorded 7
    → (frames_ended (driver_in d b) ≡ []) ⊎ HasBit b.adapter.causes.recorded 7
asked-still d a b past goes asked =
    ⊎_elim
    (λ (same : length (frames_ended (driver_in d a)) ≡ 0 + length (frames_ended (driver_in d b))).
    ⊎_elim
    (λ (none : frames_ended (driver_in d a) ≡ []).
    inl (nil_from_length (frames_ended (driver_in d b)) (omega (arith, same, ap length none))))
    (λ (bit : HasBit a.adapter.causes.recorded 7). inr (goes.causes 7 bit))
    asked)
    (λ (bit : HasBit b.adapter.causes.recorded 7). inr bit)
    goes.recorded

pub enables-causes : {B : Type 0} (bus : Ghosts B) (old new : B) (value : ℕ) (d : DriverState)
    → value ≡ 0xD1 → WriteActs bus old new 0x00D0 value → Ready d (bus.world old)
    → EnablesCauses bus 0xD1 d old new
unfolding accessed-by
enables-causes bus old new value d is written ready =
    let acts = subst (WriteActs bus old new 0x00D0) is written in
    let middle = acts.middle in
    let goes = goes-happens d (bus.world old) middle acts.past ready acts.before in
    let enabled : Enabled true d 0xD1 middle (bus.world new) =
    subst (Enabled true d 0xD1 middle) (sym acts.effect_is) (causes_are_enabled true d 0xD1 middle goes.flows.ready) in
    let mask : HasBit (bus.world new).adapter.causes.mask 7 =
    subst (λ (bits : ℕ). HasBit bits 7) (sym enabled.mask) ((HasBit-union middle.adapter.causes.mask 0xD1 7).1 (inr refl)) in
    record {
      accessed = accessed-by bus old new (Writes 0x00D0 0xD1) _ acts (write-sets 0x00D0 0xD1 (bus.world new));
      middle = middle;
      goes = goes;
      enabled = enabled;
      ready = enabled.ready;
      holds = enabled.frames.held ∙ goes.flows.holds;
      mask = mask;
      work = λ asked.
          record {
            enabled = mask;
            asked =
                ⊎_elim
                (λ (none : frames_ended (driver_in d middle) ≡ []). inl (ap frames_of enabled.frames.pieces_same ∙ none))
                (λ (bit : HasBit middle.adapter.causes.recorded 7). inr (subst (λ (bits : ℕ). HasBit bits 7) (sym enabled.recorded) bit))
                (asked-still d (bus.world old) middle acts.past goes asked);
          };
    }
