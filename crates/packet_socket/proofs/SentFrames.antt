-- A host sends a frame.
use Rattle.std.proofs.Common.{◌≡◌, ◌<◌, ◌+◌, ◌-◌, ◌%◌, ◌∷◌, [], ℕ, true, List, length, refl, sym, ap, subst, ◌∙◌, arith}
use Rattle.std.specs.List.{All}
use Rattle.std.specs.Prelude.{Err, Ok, ◌↔◌}
use Rattle.dma_memory.specs.Layout.{Counts}
use Rattle.descriptors.specs.Frames.{longest_frame, padded, shortest_sent}
use Rattle.adapter.specs.Slots.{written_back_slots}
use Rattle.adapter.specs.World.{World}
use Rattle.adapter.specs.model_types.offsets.TheConstants.{TDT}
use Rattle.adapter.specs.Pasts.{Past, joined}
use Rattle.adapter.specs.bus_types.bus.Bus.{Ghosts}
use Rattle.adapter.specs.bus_types.event.Access.{Access}
use Rattle.adapter.specs.bus_types.event.Access.TheVariants.{Stores, Writes}
use Rattle.adapter.proofs.FramesCounted.{slots_have_frames}
use Rattle.adapter.proofs.Intervals.{goes_join}
use Rattle.adapter.specs.Calls.{FollowsWrites, GoesTo, IsRefilled, Moment, driver_did, driver_in, held_at, send_accesses}
use Rattle.adapter.specs.Calls.{transmit_buffer, whole_descriptor}
use Rattle.adapter.specs.DriverState.{DriverState, holding, transmit_slot, transmit_tail}
use Rattle.adapter.specs.ReadyDrivers.{Ready}
use Rattle.driver.specs.SendSteps.{HasWrongLength, SendAnswer, Sends, accepted_by, loads_to_free, with_transmit_slots}
use Rattle.driver.specs.declared.transmit.SendError.TheVariants.{RingFull, TooLong, TooShort}
use Rattle.packet_socket.specs.HostActs.{CallStages, IsOfDriver, MovesFrames, OnlyLastWrites, OverBus, PassesStages, accesses_in}
use Rattle.packet_socket.specs.HostCalls.{HostMoment, IsReadyHost, driver_at, driver_of, host_at}
use Rattle.packet_socket.specs.HostEffects.{AreLeft, IsSendable, SendEffect}
use Rattle.packet_socket.specs.HostState.{HostState}
use Rattle.packet_socket.proofs.DriversAccesses.{frees-last, frees-of_driver, sends-last, sends-of_driver}
use Rattle.packet_socket.proofs.DriverActs.{driver-acts, last-stage, makes-none, stage}
use Rattle.adapter.proofs.DriverAccesses.{follows-join}
use Rattle.packet_socket.proofs.Intervals.{with_driver}

-- A call that changes only the outstanding transmit slots

-- The host h with the driver d differs from h only in the outstanding transmit slots.
abbrev pub OnlySends : HostState → DriverState → Type 0
OnlySends h d = with_driver d h ≡ record h { driver = with_transmit_slots h.driver d.oldest_transmit d.sending }

send-acts : {B : Type 0} (bus : Ghosts B) (old : HostMoment B) (new : Moment B) (accepted : List (List ℕ)) (stages : CallStages)
    (past : Past) → IsReadyHost bus true old → OnlySends old.host new.driver → PassesStages bus stages old.bus new.bus past
    → All (IsOfDriver old.host.driver.layout) (accesses_in stages) → OnlyLastWrites (accesses_in stages)
    → GoesTo true (driver_in (driver_at bus old).driver (bus.world old.bus))
    (driver_in (holding (driver_at bus old).driver.handed_out new.driver) (bus.world new.bus)) (driver_did [] accepted) past
    → FollowsWrites (bus.world old.bus) (bus.world new.bus) past
    → OverBus bus true [] accepted old (host_at new.bus (with_driver new.driver old.host))
    (record { stages = stages; kind = MovesFrames; taken = [] })
send-acts bus old new accepted stages past is others passes own last goes follows =
    driver-acts bus old new accepted MovesFrames stages past is (λ from to done happened it. it)
    (λ refilled. subst (λ (host : HostState). IsRefilled host.driver) (sym others) refilled)
    (λ offered. subst (λ (host : HostState). host.driver.staged ≡ []) (sym others) offered) passes own last goes follows

left-over : (d : DriverState) (world : World) → Ready d world → written_back_slots d.oldest_transmit world ≡ []
    → AreLeft d.oldest_transmit d.sending world
left-over d world ready none =
    let count = (slots_have_frames d world ready).count in
    record { none = none; frames = omega (arith, count, ap length none) }

sends-same : (d d' : DriverState) (frame : List ℕ) → d'.layout ≡ d.layout → transmit_tail d' ≡ transmit_tail d
    → send_accesses d' frame ≡ send_accesses d frame
sends-same d d' frame counts tail =
    let at : Counts → ℕ → List Access = λ layout slot.
    Stores (transmit_buffer layout slot) frame ∷ Stores (transmit_slot layout slot)
    (whole_descriptor (transmit_buffer layout slot) (length frame)) ∷ Writes TDT ((slot + 1) % layout.tx) ∷ [] in
    ap (λ (layout : Counts). at layout (transmit_tail d')) counts ∙ ap (at d.layout) tail

sendable : (frame : List ℕ) → ¬ (length frame < shortest_sent) → ¬ (longest_frame < length frame) → IsSendable frame
sendable frame short long = record { least = omega (arith, short); most = omega (arith, long) }

pub host-sends : {B : Type 0} (bus : Ghosts B) (old : HostMoment B) (new : Moment B) (frame : List ℕ) (result : SendAnswer)
    → IsReadyHost bus true old → ((result ≡ Err TooShort) ↔ (length frame < shortest_sent))
    → ((result ≡ Err TooLong) ↔ (longest_frame < length frame))
    → (HasWrongLength result → (new.bus ≡ old.bus) × (new.driver ≡ old.host.driver)) → OnlySends old.host new.driver
    → Sends bus frame result (driver_at bus old) (held_at (driver_at bus old).driver.handed_out new)
    → SendEffect frame result old.host (with_driver new.driver old.host)
    (OverBus bus true [] (accepted_by result frame) old (host_at new.bus (with_driver new.driver old.host))) (bus.world old.bus)
host-sends bus old new frame (Err TooShort) is short long none others sent =
    (short.0 refl, makes-none bus old new.bus _ is (none tt).0 (ap (λ (d : DriverState). with_driver d old.host) (none tt).1))
host-sends bus old new frame (Err TooLong) is short long none others sent =
    (long.0 refl, makes-none bus old new.bus _ is (none tt).0 (ap (λ (d : DriverState). with_driver d old.host) (none tt).1))
host-sends bus old new frame (Err RingFull) is short long none others sent =
    let h = old.host in
    let d = driver_of h (bus.world old.bus) in
    let ran = sent.frees_first.ran in
    let full = sent.answer in
    let count = (slots_have_frames d (bus.world old.bus) is.ready.ready).count in
    record {
      sendable = sendable frame (λ low. let e = short.1 low in absurd (cc)) (λ high. let e = long.1 high in absurd (cc));
      full = omega (arith, full.at_entry.0, ap length full.at_entry.1, count);
      still_full = full.at_return.0 ∙ ap (λ (layout : Counts). layout.tx) ran.goes.flows.layout;
      stays = others ∙ ap (λ (s : DriverState). let host : HostState = record h
          { driver = with_transmit_slots h.driver s.oldest_transmit s.sending } in host) full.same;
      runs = send-acts bus old new [] _ ran.past is others
          (last-stage new.bus ran.reports ran.only
          (left-over (holding d.handed_out new.driver) (bus.world new.bus) ran.goes.flows.ready sent.frees_first.none))
          (frees-of_driver h.driver.layout h.driver new.driver.sending) (frees-last h.driver new.driver.sending) ran.goes ran.follows;
    }
host-sends bus old new frame (Ok u) is short long none others sent =
    let h = old.host in
    let a = bus.world old.bus in
    let c = bus.world new.bus in
    let d = driver_of h a in
    let parts = sent.frees_first in
    let freed = parts.freed.driver in
    let between = parts.freed.bus in
    let frees = parts.reclaims.ran in
    let sends = parts.sends in
    let oldest : new.driver.oldest_transmit ≡ freed.oldest_transmit = ap (λ (s : DriverState). s.oldest_transmit) parts.more in
    let more : new.driver.sending ≡ freed.sending + 1 = ap (λ (s : DriverState). s.sending) parts.more in
    let left : freed.sending ≡ new.driver.sending - 1 = omega (arith, more) in
    let layout : freed.layout ≡ h.driver.layout = ap (λ (s : DriverState). s.layout) parts.slots in
    let some : 0 < h.driver.layout.tx = omega (arith, is.ready.ready.transmit.oldest_slot) in
    record {
      sendable = sendable frame (λ low. let e = short.1 low in absurd (cc)) (λ high. let e = long.1 high in absurd (cc));
      freed = sent.answer.freed;
      some = sent.answer.some;
      others = others;
      runs = send-acts bus old new (padded frame ∷ []) _ (joined frees.past sends.past) is others
          (stage between frees.past sends.past frees.reports (frees.only ∙ ap (λ (n : ℕ). loads_to_free h.driver n) left)
          (subst (λ (n : ℕ). AreLeft new.driver.oldest_transmit n (bus.world between)) left
          (subst (λ (slot : ℕ). AreLeft slot freed.sending (bus.world between)) (sym oldest)
          (left-over freed (bus.world between) frees.goes.flows.ready parts.reclaims.none)))
          (last-stage new.bus sends.reports (sends.only ∙ sends-same h.driver freed frame layout parts.tail) tt) refl)
          (sends-of_driver h.driver.layout h.driver (new.driver.sending - 1) frame refl some)
          (sends-last h.driver (new.driver.sending - 1) frame)
          (goes_join d freed (holding d.handed_out new.driver) a (bus.world between) c [] [] [] (padded frame ∷ []) frees.past sends.past
          frees.goes sends.goes)
          (follows-join a (bus.world between) c frees.past sends.past frees.follows sends.follows);
    }
