-- Consecutive intervals of an exchange, and the intervals of single calls.
use Rattle.std.proofs.Common.{◌≡◌, ◌≤◌, ◌++◌, ◌∷◌, [], ℕ, Bool, true, false, List, Option, Ok, Err, arith, length, ◌<◌, map, refl, sym, ap}
use Rattle.std.proofs.Common.{subst}
use Rattle.std.proofs.Common.{◌∙◌, take}
use Rattle.std.specs.Io.KnownBytes.{Appends}
use Rattle.std.proofs.KnownBytes.{Appends-nil, Appends-trans}
use Rattle.std.proofs.lemmas.Grind.{common_steps}
use Rattle.std.proofs.lemmas.List.{append-nil, map-append}
use Rattle.std.specs.Prelude.{⊤, ◌↔◌, if◌then◌else◌}
use Rattle.descriptors.specs.Frames.{is_sendable, longest_frame, shortest_sent}
use Rattle.driver.specs.declared.transmit.SendError.TheVariants.{RingFull, TooLong, TooShort}
use Rattle.dma_memory.specs.Layout.{size_of}
use Rattle.adapter.specs.BusMembers.{Composes}
use Rattle.adapter.specs.Keeping.{Keeps}
use Rattle.adapter.specs.Pasts.{Past, joined, nothing}
use Rattle.adapter.specs.bus_types.bus.Bus.{Ghosts}
use Rattle.adapter.proofs.Composition.{happens_none}
use Rattle.adapter.proofs.Keeping.{keeps-here, keeps-on}
use Rattle.adapter.specs.Calls.{FlowsTo}
use Rattle.adapter.proofs.Intervals.{flows_join}
use Rattle.driver.specs.SendSteps.{SendAnswer, accepted_by}
use Rattle.driver.specs.declared.interrupt.Handled.{Handled}
use Rattle.packet_socket.specs.HostActs.{OverBus, CallsOver, CallsUp, Effect, Ends, PassesStages, CallStages, Then}
use Rattle.packet_socket.specs.HostCalls.{Given, HostFlowsTo, HostGoesTo, HostMoment, IsReadyHost}
use Rattle.packet_socket.specs.HostCalls.{HostInWorld, HostDid, host_did, in_world}
use Rattle.packet_socket.specs.HostEffects.{InterruptEffect, RecvEffect, SendEffect, given_by}
use Rattle.packet_socket.proofs.Effects.{Maps, flows-changed, interrupt-map, recv-map, send-map}
use Rattle.packet_socket.proofs.Intervals.{host-happens, host-join}
use Rattle.pcap_trace.specs.Format.{packet_of}
use Rattle.pcap_trace.specs.declared.unit.Unit.TheVariants.{Micros}
use Rattle.drive.specs.Exchanging.{ExchangeMoment, Exchanges, HostFlows, exchange_at, accepted_of, given_of, host_moment}
use Rattle.drive.specs.Numbering.{next_frame_number, packets_of}
use Rattle.drive.proofs.Numbers.{number_after-append, packets_of-append}

still-ready : {B : Type 0} (bus : Ghosts B) (accepted received : List (List ℕ)) (old new : HostMoment B)
    → HostFlows bus accepted received old new → IsReadyHost bus true new
still-ready bus accepted received old new it =
    record { honest = it.honest; ready = record { sizes = it.flows.sizes; ready = it.flows.driver.ready } }

flows-of_goes : (old new : HostInWorld) (done : HostDid) (past : Past) → HostGoesTo true old new done past
    → HostFlowsTo true old new done past
flows-of_goes old new done past goes = record { sizes = goes.sizes; driver = goes.driver.flows; accounts = goes.accounts }

pub exchanges-here : {B : Type 0} (bus : Ghosts B) → Composes bus.happened bus.lent_stays → (now : ExchangeMoment B)
    → Exchanges bus [] now now
exchanges-here bus composes now =
    let w = bus.world now.bus in
    record {
      keeps = keeps-here bus composes.lent_stays_here now.bus;
      layout = refl;
      received = [];
      written = Appends-nil now.text;
      count = refl;
      flows = λ is. record {
        honest = is.honest;
        taken = [];
        past = nothing;
        reports = composes.stays now.bus;
        flows = flows-of_goes (in_world now.host w) (in_world now.host w) (host_did [] [] []) nothing
            (host-happens now.host w w nothing is.ready (happens_none w));
      };
    }

flows-on : {B : Type 0} (bus : Ghosts B) → Composes bus.happened bus.lent_stays → (a b c : HostMoment B)
    (accepted more received later : List (List ℕ)) → HostFlows bus accepted received a b → HostFlows bus more later b c
    → HostFlows bus (accepted ++ more) (received ++ later) a c
flows-on bus composes a b c accepted more received later one two = record {
  honest = two.honest;
  taken = one.taken ++ two.taken;
  past = joined one.past two.past;
  reports = composes.joins a.bus b.bus c.bus one.past two.past one.reports two.reports;
  flows = subst
      (λ (given : List Given). HostFlowsTo true (in_world a.host (bus.world a.bus)) (in_world c.host (bus.world c.bus))
      (host_did (one.taken ++ two.taken) given (accepted ++ more)) (joined one.past two.past))
      (sym (map-append given_of received later))
      (host-join (FlowsTo true) (FlowsTo true) (flows_join {first_up = true} {up = true}) (in_world a.host (bus.world a.bus))
      (in_world b.host (bus.world b.bus)) (in_world c.host (bus.world c.bus)) (host_did one.taken (map given_of received) accepted)
      (host_did two.taken (map given_of later) more) one.past two.past one.flows two.flows);
}

pub exchanges-on : {B : Type 0} (bus : Ghosts B) → Composes bus.happened bus.lent_stays → (a b c : ExchangeMoment B)
    (accepted more : List (List ℕ)) → Exchanges bus accepted a b → Exchanges bus more b c → Exchanges bus (accepted ++ more) a c
exchanges-on bus composes a b c accepted more one two = record {
  keeps = keeps-on bus composes.lent_stays_on a.bus b.bus c.bus one.keeps two.keeps;
  layout = two.layout ∙ one.layout;
  received = one.received ++ two.received;
  written = subst (Appends a.text c.text) (sym (packets_of-append a.number one.received two.received))
      (Appends-trans a.text b.text c.text _ _ one.written
      (subst (λ (n : ℕ). Appends b.text c.text (packets_of n two.received)) one.count two.written));
  count = two.count
      ∙ ap (λ (n : ℕ). Rattle.drive.specs.Numbering.number_after n two.received) one.count
      ∙ sym (number_after-append a.number one.received two.received);
  flows = λ is.
      let first = one.flows is in
      flows-on bus composes (host_moment a) (host_moment b) (host_moment c) accepted more one.received two.received first
      (two.flows (still-ready bus accepted one.received (host_moment a) (host_moment b) first));
}

sendable : (frame : List ℕ) → shortest_sent ≤ length frame → length frame ≤ longest_frame → is_sendable frame ≡ true
sendable frame least most = grind (arith, common_steps)

too-short : (frame : List ℕ) → length frame < shortest_sent → is_sendable frame ≡ false
too-short frame short = grind (arith, common_steps)

too-long : (frame : List ℕ) → longest_frame < length frame → is_sendable frame ≡ false
too-long frame long = grind (arith, common_steps)

passes-reports : {B : Type 0} (bus : Ghosts B) → Composes bus.happened bus.lent_stays → (stages : CallStages) (old new : B) (past : Past)
    → PassesStages bus stages old new past → bus.happened old new past
passes-reports {B} bus composes Ends old new past it =
    subst (λ (p : Past). bus.happened old new p) (sym it.1)
    (subst (λ (b : B). bus.happened old b nothing) (sym it.0) (composes.stays old))
passes-reports {B} bus composes (Then made Holds later) old new past it =
    subst (λ (p : Past). bus.happened old new p) (sym it.whole)
    (composes.joins old it.middle new it.before it.behind it.reports
    (passes-reports bus composes later it.middle new it.behind it.later))

effect-flows : {B : Type 0} (bus : Ghosts B) → Composes bus.happened bus.lent_stays → (old new : HostMoment B) (received : List (List ℕ))
    (accepted : List (List ℕ)) (Does : Effect) → Maps Does → bus.honest new.bus
    → Does old.host new.host (OverBus bus true (map given_of received) accepted old new) (bus.world old.bus)
    → HostFlows bus accepted received old new
effect-flows bus composes old new received accepted Does maps honest does =
    (maps (HostFlows bus accepted received old new) old.host new.host (bus.world old.bus)
    (OverBus bus true (map given_of received) accepted old new) (λ flows act. ⊤)
    (λ act it. (
      record {
        honest = honest;
        taken = act.taken;
        past = it.past;
        reports = passes-reports bus composes act.stages old.bus new.bus it.past it.stages;
        flows = record {
          sizes = it.changed.sizes;
          driver = flows-changed act.kind true _ _ _ _ it.changed.driver;
          accounts = it.changed.accounts;
        };
      },
      tt,
    )) does).0

-- A call of `send` is an interval of the exchange.
pub exchange-sends : {B : Type 0} (bus : Ghosts B) → Composes bus.happened bus.lent_stays → (old new : HostMoment B) (frame : List ℕ)
    (result : SendAnswer) (text : Option (List ℕ)) (number : ℕ)
    → Keeps bus old.bus new.bus → new.host.driver.layout ≡ old.host.driver.layout
    → CallsUp bus [] (accepted_by result frame) old new (SendEffect frame result)
    → Exchanges bus (accepted_by result frame) (exchange_at old.bus old.host text number) (exchange_at new.bus new.host text number)
exchange-sends bus composes old new frame result text number keeps layout sends = record {
  keeps = keeps;
  layout = layout;
  received = [];
  written = Appends-nil text;
  count = refl;
  flows = λ is. effect-flows bus composes old new [] (accepted_by result frame) (SendEffect frame result) (send-map frame result)
      (keeps.honest is.honest) (sends is);
}

-- A call of `interrupt` is an interval of the exchange.
pub exchange-handles : {B : Type 0} (bus : Ghosts B) → Composes bus.happened bus.lent_stays → (old new : HostMoment B) (result : Handled)
    (text : Option (List ℕ)) (number : ℕ)
    → Keeps bus old.bus new.bus → new.host.driver.layout ≡ old.host.driver.layout
    → CallsOver bus [] [] old new (InterruptEffect result)
    → Exchanges bus [] (exchange_at old.bus old.host text number) (exchange_at new.bus new.host text number)
exchange-handles bus composes old new result text number keeps layout handles = record {
  keeps = keeps;
  layout = layout;
  received = [];
  written = Appends-nil text;
  count = refl;
  flows = λ is. effect-flows bus composes old new [] [] (InterruptEffect result) (interrupt-map result) (keeps.honest is.honest)
      (handles true is);
}

-- A call of `recv` that returned a frame, together with the write of the frame, is an interval of the exchange.
pub exchange-receives : {B : Type 0} (bus : Ghosts B) → Composes bus.happened bus.lent_stays → (old new : HostMoment B) (size : ℕ)
    (into : List ℕ) (text text' : Option (List ℕ)) (number : ℕ)
    → Keeps bus old.bus new.bus → new.host.driver.layout ≡ old.host.driver.layout
    → CallsOver bus (given_by 0 (Ok (take size into))) [] old new (RecvEffect 0 (Ok (take size into)))
    → Appends text text' (packet_of Micros (record { time = number; frame = take size into }))
    → Exchanges bus [] (exchange_at old.bus old.host text number) (exchange_at new.bus new.host text' (next_frame_number number))
exchange-receives bus composes old new size into text text' number keeps layout receives written = record {
  keeps = keeps;
  layout = layout;
  received = take size into ∷ [];
  written = subst (Appends text text') (sym (append-nil (packet_of Micros (record { time = number; frame = take size into })))) written;
  count = refl;
  flows = λ is. effect-flows bus composes old new (take size into ∷ []) [] (RecvEffect 0 (Ok (take size into)))
      (recv-map 0 (Ok (take size into))) (keeps.honest is.honest) (receives true is);
}

pub still-fits : {B : Type 0} (bus : Ghosts B) (accepted : List (List ℕ)) (a b : ExchangeMoment B) → Exchanges bus accepted a b
    → size_of a.host.driver.layout ≤ bus.extent a.bus → size_of b.host.driver.layout ≤ bus.extent b.bus
still-fits bus accepted a b one fits = rw (one.layout, one.keeps.extent) fits

-- whether a driver accepted or rejected a frame that was passed to it
abbrev pub is_done : SendAnswer → Bool
is_done (Ok u) = true
is_done (Err TooShort) = true
is_done (Err TooLong) = true
is_done (Err RingFull) = false

pub accepted-is : (result : SendAnswer) (frame : List ℕ) → (result ≡ Err TooShort ↔ (length frame < shortest_sent))
    → (result ≡ Err TooLong ↔ (longest_frame < length frame))
    → accepted_by result frame ≡ (if is_done result then accepted_of frame else [])
accepted-is (Ok u) frame short long =
    let not_short : length frame < shortest_sent → ⊥ = λ low. let e : Ok u ≡ Err TooShort = short.1 low in cc in
    let not_long : longest_frame < length frame → ⊥ = λ high. let e : Ok u ≡ Err TooLong = long.1 high in cc in
    let least : shortest_sent ≤ length frame = omega (arith, not_short) in
    let most : length frame ≤ longest_frame = omega (arith, not_long) in
    rw (sendable frame least most) refl
accepted-is (Err TooShort) frame short long = rw (too-short frame (short.0 refl)) refl
accepted-is (Err TooLong) frame short long = rw (too-long frame (long.0 refl)) refl
accepted-is (Err RingFull) frame short long = refl

-- A call of `send` for a frame that the driver accepted or rejected (`done`), or that the full ring left, is an interval of the exchange.
pub exchange-hands : {B : Type 0} (bus : Ghosts B) → Composes bus.happened bus.lent_stays → (old new : HostMoment B) (frame : List ℕ)
    (result : SendAnswer) (done : Bool) (text : Option (List ℕ)) (number : ℕ)
    → Keeps bus old.bus new.bus → new.host.driver.layout ≡ old.host.driver.layout
    → (result ≡ Err TooShort ↔ (length frame < shortest_sent)) → (result ≡ Err TooLong ↔ (longest_frame < length frame))
    → CallsUp bus [] (accepted_by result frame) old new (SendEffect frame result) → is_done result ≡ done
    → Exchanges bus (if done then accepted_of frame else []) (exchange_at old.bus old.host text number)
    (exchange_at new.bus new.host text number)
exchange-hands bus composes old new frame result done text number keeps layout short long sends is =
    subst (λ (accepted : List (List ℕ)). Exchanges bus accepted (exchange_at old.bus old.host text number)
    (exchange_at new.bus new.host text number))
    (accepted-is result frame short long ∙ ap (λ (done : Bool). if done then accepted_of frame else []) is)
    (exchange-sends bus composes old new frame result text number keeps layout sends)

-- Since a loop began (`start`), no frame was sent, and the sink, which had failed `before` times, didn't fail. The memory is large enough.
pub record GoesOn {B : Type 0} (bus : Ghosts B) (start now : ExchangeMoment B) (before failed : ℕ) : Type 0 where
  pub memory : size_of now.host.driver.layout ≤ bus.extent now.bus
  pub failures : failed ≡ before
  pub exchanges : Exchanges bus [] start now

pub goes-here : {B : Type 0} (bus : Ghosts B) → Composes bus.happened bus.lent_stays → (now : ExchangeMoment B) (failed : ℕ)
    → size_of now.host.driver.layout ≤ bus.extent now.bus → GoesOn bus now now failed failed
goes-here bus composes now failed memory = record { memory = memory; failures = refl; exchanges = exchanges-here bus composes now }

pub goes-on : {B : Type 0} {bus : Ghosts B} {start now next : ExchangeMoment B} {before failed more : ℕ}
    → Composes bus.happened bus.lent_stays → GoesOn bus start now before failed → Exchanges bus [] now next → more ≡ failed
    → GoesOn bus start next before more
goes-on {bus} {start} {now} {next} composes so_far one none = record {
  memory = still-fits bus [] now next one so_far.memory;
  failures = none ∙ so_far.failures;
  exchanges = exchanges-on bus composes start now next [] [] so_far.exchanges one;
}
