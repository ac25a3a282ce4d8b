-- Steps that don't change memory, rings and slots: ticks, arrivals, and faults.
use Rattle.std.proofs.Common.{◌≡◌, [], inl, Bool, true, false, ℕ, List, Option, Some, None, refl, sym, arith}
use Rattle.std.proofs.lemmas.List.{append-nil}
use Rattle.std.proofs.Common.{cond}
use Rattle.mdic_phy.specs.Mdic.{MdicState, has_work, mdic_after_tick, phy_after_tick, told}
use Rattle.mdic_phy.specs.Mdic as mdi
use Rattle.mdic_phy.specs.Phy.{PhyState}
use Rattle.mdic_phy.specs.Phy as phy
use Rattle.mdic_phy.specs.declared.mdic.Ticked.{Ticked as Told}
use Rattle.rx_engine.specs.Held.{Holds, held}
use Rattle.rx_engine.specs.Laws.{held-after_arrival}
use Rattle.rx_engine.specs.declared.arrival.Fate.{Fate}
use Rattle.rx_engine.specs.declared.arrival.Fate.TheVariants.{Off, Illegal, Filtered, Missed, Stored}
use Rattle.adapter_model.specs.Receiving.{IsFate}
use Rattle.adapter_model.specs.State.{AdapterState}
use Rattle.adapter_model.specs.Steps.{after_phy_told, causes_told}
use Rattle.adapter_model.specs.declared.step.StepKind.TheVariants.{EepromTick, PhyTick}
use Rattle.adapter_model.specs.Outcomes.{FrameOutcome}
use Rattle.adapter_model.specs.HostFrames.{finished_pieces, frames_held}
use Rattle.adapter_model.specs.Conditions.{Sound}
use Rattle.bus.specs.Law.{Between, Happens, Management, management_of, phy_ticked}
use Rattle.bus.specs.Pasts.{Past, nothing}
use Rattle.adapter_model.specs.Running.{CanRun}
use Rattle.bus.specs.StepsAndArrivals.{past_of_arrival, past_of_step, world_after_arrival, world_after_step}
use Rattle.adapter_model.specs.State.{IsAdapter}
use Rattle.adapter_model.specs.World.{World}
use Rattle.bus.proofs.Composition.{finishes-none, happens_none, puts-none}
use Rattle.bus.proofs.EngineRegisters.{added, no-arrivals, steady_moves}
use Rattle.descriptors.specs.Frames.{IsLegal}
use Rattle.std.proofs.lemmas.List.Elements.{All-cons}
use Rattle.bus.proofs.KeptPieces.{cut-kept}
use Rattle.bus.proofs.Lists.{all-none}

-- The adapter `after`, with the rings, the piece in progress, the frames to be sent, RCTL and TCTL of `adapter`.
abbrev pub with_slots_of : AdapterState → AdapterState → AdapterState
with_slots_of adapter after = record after {
  receive_ring = adapter.receive_ring;
  transmit_ring = adapter.transmit_ring;
  filter = record after.filter { rctl = adapter.filter.rctl };
  transmit_control = adapter.transmit_control;
  receiver = record adapter.receiver { buffer = after.receiver.buffer; stopped = after.receiver.stopped };
  transmitter = record adapter.transmitter { stopped = after.transmitter.stopped };
}

-- Neither engine is stopped.
pub record GoOn (receiver_stopped transmitter_stopped : Bool) : Type 0 where
  pub receiver_runs : receiver_stopped ≡ false
  pub transmitter_runs : transmitter_stopped ≡ false

pub going : (a : World) → CanRun a → GoOn a.adapter.receiver.stopped a.adapter.transmitter.stopped
going a can = record { receiver_runs = can.receiver_runs; transmitter_runs = can.transmitter_runs }

-- With the packet buffer `buffer`, the frames held are those held before, and then the frames `stored`.
abbrev pub HoldsQuietly : ℕ → World → List (List ℕ) → List (List ℕ) → Type 0
HoldsQuietly o a buffer stored = Holds (frames_held o a)
    (held a.memory (finished_pieces o a) (record a.adapter.receiver { buffer = buffer })) stored
    a.memory (finished_pieces o a) (record a.adapter.receiver { buffer = buffer })

pub holds-same : (o p : ℕ) (a : World) → Sound o p a → HoldsQuietly o a a.adapter.receiver.buffer []
holds-same o p a sound = record { frames = sym (append-nil (frames_held o a)); begun = sound.begun }

pub between_quiet : (o p : ℕ) (a : World) (after : AdapterState) (past : Past) → past.put ≡ []
    → HoldsQuietly o a after.receiver.buffer past.stored
    → (CanRun a → GoOn after.receiver.stopped after.transmitter.stopped) → Sound o p a
    → Between o p a (record a { adapter = with_slots_of a.adapter after }) past
between_quiet o p a after past no_put holds goes sound =
    let b : World = record a { adapter = with_slots_of a.adapter after } in
    record {
      transmit = puts-none p a b past no_put refl refl;
      receive = finishes-none o a b past holds.frames refl refl;
      fits = λ size fit. record { large = fit.large; finished_fit = fit.finished_fit; work_fits = fit.work_fits };
      whole = λ size are. cut-kept size o a b are.sized refl (λ k d below. refl) refl are;
      untouched = λ area apart. refl;
      foreign = λ area apart. apart;
      runs = λ can.
          let on = goes can in
          record {
            receiver_runs = on.receiver_runs;
            transmitter_runs = on.transmitter_runs;
            receive_indices = can.receive_indices;
            transmit_indices = can.transmit_indices;
            not_extended = can.not_extended;
            transmittable = can.transmittable;
          };
      sound = record {
        receive_slots = sound.receive_slots;
        transmit_slots = sound.transmit_slots;
        separate = sound.separate;
        reports = sound.reports;
        begun = holds.begun;
        pads = sound.pads;
      };
    }

-- A step with the outcome `Fault` changes only which engines are stopped. `CanRun` doesn't hold before this step.
pub between_stopped : (o p : ℕ) (a : World) (receiver transmitter : Bool) → ¬ (CanRun a) → Sound o p a
    → Between o p a (record a {
      adapter = record a.adapter {
        receiver = record a.adapter.receiver { stopped = receiver };
        transmitter = record a.adapter.transmitter { stopped = transmitter };
      };
    }) nothing
between_stopped o p a receiver transmitter cannot sound =
    let after : AdapterState = record a.adapter {
      receiver = record a.adapter.receiver { stopped = receiver };
      transmitter = record a.adapter.transmitter { stopped = transmitter };
    } in
    between_quiet o p a after nothing refl (holds-same o p a sound) (λ can. absurd (cannot can)) sound

-- Ticks of the EEPROM and of the PHY.

pub eeprom_tick_happens : (a : World) (answer : FrameOutcome) → IsAdapter a.adapter
    → Happens a (world_after_step EepromTick answer a) (past_of_step EepromTick answer)
eeprom_tick_happens a answer running =
    let b = world_after_step EepromTick answer a in
    let past = past_of_step EepromTick answer in
    record {
      steady = steady_moves a b past refl (λ place set. set) (inl refl) (inl refl) (no-arrivals a b past refl refl refl)
          (record { eerd = refl; management = refl });
      between = λ o p sound. between_quiet o p a b.adapter past refl (holds-same o p a sound) (going a) sound;
    }

tick_told : (a : World) (tells : Option Told) (answer : FrameOutcome)
    → (management_of (after_phy_told tells a.adapter) ≡ phy_ticked (management_of a.adapter))
    → Happens a (record a { adapter = after_phy_told tells a.adapter }) (past_of_step PhyTick answer)
tick_told a None answer moves =
    let past = past_of_step PhyTick answer in
    record {
      steady = steady_moves a a past refl (λ place set. set) (inl refl) (inl refl) (no-arrivals a a past refl refl refl)
          (record { eerd = refl; management = moves });
      between = λ o p sound. between_quiet o p a a.adapter past refl (holds-same o p a sound) (going a) sound;
    }
tick_told a (Some tells) answer moves =
    let b : World = record a { adapter = after_phy_told (Some tells) a.adapter } in
    let past = past_of_step PhyTick answer in
    record {
      steady = steady_moves a b past refl (added a.adapter.causes.recorded (causes_told tells)) (inl refl) (inl refl)
          (no-arrivals a b past refl refl refl) (record { eerd = refl; management = moves });
      between = λ o p sound. between_quiet o p a b.adapter past refl (holds-same o p a sound) (going a) sound;
    }

-- The tick changes MDIC and the PHY exactly if there is something to do.
management_told : (adapter : AdapterState) (works : Bool) (tells : Told)
    → management_of (after_phy_told (cond works (Some tells) None) adapter)
    ≡ cond works (let management : Management = record
    { mdic = mdic_after_tick adapter.mdic adapter.phy; phy = phy_after_tick adapter.mdic adapter.phy } in management)
    (management_of adapter)
management_told adapter true tells = refl
management_told adapter false tells = refl

pub phy_tick_happens : (a : World) (answer : FrameOutcome) → IsAdapter a.adapter
    → Happens a (world_after_step PhyTick answer a) (past_of_step PhyTick answer)
phy_tick_happens a answer running =
    tick_told a (told a.adapter.mdic a.adapter.phy) answer
    (management_told a.adapter (has_work a.adapter.mdic a.adapter.phy)
    (record { link_changed = phy.comes_up a.adapter.phy; access_complete = mdi.tells_end a.adapter.mdic }))

-- Arrivals of frames.

pub arrival_happens : (a : World) (fate : Fate) (frame : List ℕ) → IsAdapter a.adapter → IsFate a.adapter frame fate
    → Happens a (world_after_arrival fate frame a) (past_of_arrival fate frame)
arrival_happens a Off frame running is = happens_none a
arrival_happens a Illegal frame running is = happens_none a
arrival_happens a Filtered frame running is = happens_none a
arrival_happens a Missed frame running is =
    let b = world_after_arrival Missed frame a in
    let past = past_of_arrival Missed frame in
    record {
      steady = steady_moves a b past refl (added a.adapter.causes.recorded 0x40) (inl refl) (inl refl)
          (record {
            missed = omega (arith, running.registers.counters.missed);
            off = λ off. absurd (off is.0.enabled);
            legal = all-none IsLegal;
          })
          (record { eerd = refl; management = refl });
      between = λ o p sound. between_quiet o p a b.adapter past refl (holds-same o p a sound) (going a) sound;
    }
arrival_happens a Stored frame running is =
    let b = world_after_arrival Stored frame a in
    let past = past_of_arrival Stored frame in
    record {
      steady = steady_moves a b past refl (λ place set. set) (inl refl) (inl refl)
          (record {
            missed = omega arith;
            off = λ off. absurd (off is.0.enabled);
            legal = All-cons IsLegal frame [] is.0.legal (all-none IsLegal);
          })
          (record { eerd = refl; management = refl });
      between = λ o p sound. between_quiet o p a b.adapter past refl
          (held-after_arrival Stored frame a.memory (finished_pieces o a) a.adapter.receiver running.receiver sound.begun) (going a) sound;
    }
