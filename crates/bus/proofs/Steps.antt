-- A change in which the driver takes and accepts no frame is an interval of the driver's run.
use Rattle.std.proofs.Common.{Bool, max, min, inl, inr, ⊎_elim, ◌≡◌, ◌≤◌, ◌<◌, ◌⊎◌, ◌+◌, ◌++◌, [], ℕ, List, length, refl, sym, ap, subst}
use Rattle.std.proofs.Common.{◌∙◌, length-append, arith}
use Rattle.std.specs.List.{All}
use Rattle.std.proofs.lemmas.List.{append-nil}
use Rattle.registers.specs.Bits.{HasBit}
use Rattle.registers.specs.Counting.{greatest_count}
use Rattle.registers.specs.Interrupts.{Interrupts}
use Rattle.dma_memory.specs.HostMemory.{bytes_at}
use Rattle.dma_memory.specs.Layout.{ReceiveBuffer, area_of}
use Rattle.descriptors.specs.Ring.{address_of}
use Rattle.descriptors.specs.RingLaws.{place}
use Rattle.rx_engine.specs.PieceLaws.{frames-append}
use Rattle.rx_engine.specs.Pieces.{IsPart, begun_of, frames_from, frames_of}
use Rattle.adapter_model.specs.Conditions.{Sound}
use Rattle.adapter_model.specs.HostFrames.{finished_pieces, frames_held, frames_to_send}
use Rattle.adapter_model.specs.Slots.{written_back_slots}
use Rattle.adapter_model.specs.World.{World, receive_ring}
use Rattle.bus.specs.Law.{Happens}
use Rattle.bus.specs.DriversStores.{SameFrames}
use Rattle.bus.specs.Pasts.{Past, nothing}
use Rattle.bus.proofs.DriversSlots.{drivers_side_stays}
use Rattle.bus.proofs.Buffers.{buffer-aside, stand-kept}
use Rattle.bus.proofs.Readiness.{keeps-happening, own-staged, ready-kept, stored-kept}
use Rattle.bus.proofs.Intervals.{misses-counted}
use Rattle.bus.proofs.EndedFrames.{frames-none}
use Rattle.bus.specs.DriverState.{DriverState, HandedOut, receive_slot, receive_tail, with_owners}
use Rattle.bus.specs.Calls.{GoesTo, driver_did, driver_in}
use Rattle.bus.specs.ReadyDrivers.{ReadyWith, Stands}
use Rattle.bus.proofs.RegisterSetting.{others-set}

-- What happens without the driver: frames leave and arrive, frames end in slots, slots become written back, causes are
-- recorded, and MPC counts.
pub record Passes (o p : ℕ) (a b : World) (past : Past) : Type 0 where
  pub sends : past.put ++ frames_to_send b ≡ frames_to_send a
  pub holds : frames_held o b ≡ frames_held o a ++ past.stored
  pub ended : List (List ℕ)
  pub grown : frames_of (finished_pieces o b) ≡ frames_of (finished_pieces o a) ++ ended
  pub told : (ended ≡ []) ⊎ HasBit b.adapter.causes.recorded 7
  pub reported : List ℕ
  pub written : written_back_slots p b ≡ written_back_slots p a ++ reported
  pub each_reported : length reported ≡ length past.put
  pub mask : b.adapter.causes.mask ≡ a.adapter.causes.mask
  pub causes : (place : ℕ) → HasBit a.adapter.causes.recorded place → HasBit b.adapter.causes.recorded place
  pub missed : a.adapter.missed_packets + past.missed ≤ greatest_count → b.adapter.missed_packets ≡ a.adapter.missed_packets + past.missed
  pub missed_most : b.adapter.missed_packets ≤ a.adapter.missed_packets + past.missed
  pub missed_below_greatest : b.adapter.missed_packets < greatest_count → b.adapter.missed_packets ≡ a.adapter.missed_packets + past.missed

pub goes-passes : {up : Bool} (d : DriverState) (buffers staged pool : List ℕ) (handed_out : List HandedOut) (a b : World) (past : Past)
    → Passes d.oldest_receive d.oldest_transmit a b past
    → ReadyWith up (with_owners d buffers staged pool handed_out) b
    → GoesTo up (driver_in d a) (driver_in (with_owners d buffers staged pool handed_out) b) (driver_did [] []) past
goes-passes {up} d buffers staged pool handed_out a b past passes ready =
    let longer = length-append (frames_of (finished_pieces d.oldest_receive a)) passes.ended in
    record {
      flows = record {
        ready = ready;
        layout = refl;
        sends = passes.sends ∙ sym (append-nil (frames_to_send a));
        holds = passes.holds;
        least = omega (arith, ap length passes.grown, longer);
        frees = omega
            (arith, ap length passes.written, length-append (written_back_slots d.oldest_transmit a) passes.reported, passes.each_reported);
        mask = passes.mask;
        misses = misses-counted d (with_owners d buffers staged pool handed_out) a b past refl refl passes.missed passes.missed_most
            passes.missed_below_greatest;
      };
      causes = passes.causes;
      recorded =
          ⊎_elim
          (λ (none : passes.ended ≡ []). inl (omega (arith, ap length passes.grown, longer, ap length none)))
          (λ (bit : HasBit b.adapter.causes.recorded 7). inr bit)
          passes.told;
    }

pub passes-same : (o p : ℕ) (a b : World) → SameFrames o p a b → b.adapter.causes ≡ a.adapter.causes
    → b.adapter.missed_packets ≡ a.adapter.missed_packets → Passes o p a b nothing
passes-same o p a b same causes missed = record {
  sends = same.to_send;
  holds = same.held ∙ sym (append-nil (frames_held o a));
  ended = [];
  grown = ap frames_of same.pieces_same ∙ sym (append-nil (frames_of (finished_pieces o a)));
  told = inl refl;
  reported = [];
  written = same.written_same ∙ sym (append-nil (written_back_slots p a));
  each_reported = refl;
  mask = ap (λ (c : Interrupts). c.mask) causes;
  causes = λ place has. subst (λ (c : Interrupts). HasBit c.recorded place) (sym causes) has;
  missed = λ fits. omega (arith, missed);
  missed_most = omega (arith, missed);
  missed_below_greatest = λ below_greatest. omega (arith, missed);
}

pub goes-same : {up : Bool} (d : DriverState) (a b : World) → SameFrames d.oldest_receive d.oldest_transmit a b
    → b.adapter.causes ≡ a.adapter.causes → b.adapter.missed_packets ≡ a.adapter.missed_packets → ReadyWith up d b
    → GoesTo up (driver_in d a) (driver_in d b) (driver_did [] []) nothing
goes-same d a b same causes missed ready = goes-passes d d.buffers d.staged d.pool d.handed_out a b nothing
    (passes-same d.oldest_receive d.oldest_transmit a b same causes missed) ready

pub same-frames : (o p : ℕ) (a : World) → Sound o p a → SameFrames o p a a
same-frames o p a sound = (others-set o p a a.adapter sound).same

pub goes-stays : {up : Bool} (d : DriverState) (a : World) → ReadyWith up d a
    → GoesTo up (driver_in d a) (driver_in d a) (driver_did [] []) nothing
goes-stays {up} d a ready =
    goes-same d a a (same-frames d.oldest_receive d.oldest_transmit a ready.law.sound) refl refl ready

pub goes-happens : {up : Bool} (d : DriverState) (a b : World) (past : Past) → ReadyWith up d a → Happens a b past
    → GoesTo up (driver_in d a) (driver_in d b) (driver_did [] []) past
goes-happens {up} d a b past ready happens =
    let o = d.oldest_receive in
    let p = d.oldest_transmit in
    let between = happens.between o p ready.law.sound in
    let arrivals = happens.steady.arrivals in
    let own = drivers_side_stays o p a b past ready.law.sound happens in
    let slot : ℕ → ℕ = λ i. place d.layout.rx (receive_tail d) i in
    let kept : (i : ℕ) → i < length d.staged
    → bytes_at b.memory (receive_slot (slot i)) 16 ≡ bytes_at a.memory (receive_slot (slot i)) 16 = λ i below.
    let stays = own.receive_slots _ (own-staged d a i ready (omega (arith, below, ready.driver_is.room))) in
    let at : address_of (receive_ring a) (slot i) ≡ receive_slot (slot i) = omega (arith, ready.receive.begins) in
    subst (λ (address : ℕ). bytes_at b.memory address 16 ≡ bytes_at a.memory address 16) at stays.bytes in
    let stand : All (Stands d.layout b.memory) d.handed_out = stand-kept d a b ready (λ number known free.
    let aside = buffer-aside d a number ready known free in
    between.untouched (area_of d.layout (ReceiveBuffer number)) aside.foreign) in
    let ready_after = ready-kept d d.staged d.pool a b ready (keeps-happening d a b past ready happens) ready.driver_is
    (stored-kept a.memory b.memory d.layout (receive_tail d) d.staged kept ready.slots.stored) stand in
    goes-passes d d.buffers d.staged d.pool d.handed_out a b past
    (record {
      sends = between.transmit.sends;
      holds = between.receive.holds;
      ended = frames_from (begun_of (finished_pieces o a)) between.receive.pieces;
      grown = ap frames_of between.receive.grown ∙ frames-append [] (finished_pieces o a) between.receive.pieces;
      told =
          ⊎_elim
          (λ (are_parts : All IsPart between.receive.pieces).
          inl (frames-none (begun_of (finished_pieces o a)) between.receive.pieces are_parts))
          (λ (bit : HasBit b.adapter.causes.recorded 7). inr bit)
          between.receive.told;
      reported = between.transmit.reported;
      written = between.transmit.written;
      each_reported = between.transmit.each_reported;
      mask = happens.steady.registers.mask;
      causes = happens.steady.causes;
      missed = λ fits. let same = grown a.adapter.missed_packets past.missed fits in omega (arith, same, arrivals.missed);
      missed_most = let most = grown-most a.adapter.missed_packets past.missed in omega (arith, most, arrivals.missed);
      missed_below_greatest = λ below_greatest.
          let same = grown-below_greatest a.adapter.missed_packets past.missed (omega (arith, below_greatest, arrivals.missed)) in
          omega (arith, same, arrivals.missed);
    })
    ready_after
  where
    grown : (x y : ℕ) → x + y ≤ greatest_count → max x (min (x + y) greatest_count) ≡ x + y
    grown x y fits = omega (arith, fits)

    grown-most : (x y : ℕ) → max x (min (x + y) greatest_count) ≤ x + y
    grown-most x y = omega arith

    grown-below_greatest : (x y : ℕ) → max x (min (x + y) greatest_count) < greatest_count → max x (min (x + y) greatest_count) ≡ x + y
    grown-below_greatest x y below_greatest = omega (arith, below_greatest)
