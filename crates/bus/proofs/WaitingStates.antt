-- During initialization, no frame is held while RCTL.EN is 0, and the registers of the transmit ring don't change while the transmit side
-- is off.
use Rattle.std.proofs.Common.{◌≡◌, ◌++◌, ℕ, List, sym, ap, subst, ◌∙◌, arith}
use Rattle.std.proofs.lemmas.List.{append-nil}
use Rattle.dma_memory.specs.Layout.{receive_buffer_bytes}
use Rattle.registers.specs.Bits.{HasBit}
use Rattle.rx_filter.specs.Registers.{FilterRegisters}
use Rattle.adapter_model.specs.HostFrames.{frames_held}
use Rattle.adapter_model.specs.declared.ring.RingRegisters.{RingRegisters}
use Rattle.bus.proofs.WaitingRings.{holds-none}
use Rattle.bus.proofs.Steps.{goes-happens}
use Rattle.bus.specs.Beginnings.{NoFrameComes, NothingIsHeld, RingsThatAreOffStay}

pub no_frame_comes : NoFrameComes
no_frame_comes up driver a b past ready happens waits =
    let between = happens.between driver.oldest_receive driver.oldest_transmit ready.law.sound in
    let stored = (happens.steady.arrivals.off waits.disabled).0 in
    record {
      disabled = subst (λ (filter : FilterRegisters). ¬ (HasBit filter.rctl 1)) (sym happens.steady.registers.filter) waits.disabled;
      none = between.receive.holds ∙ ap (λ (frames : List (List ℕ)). frames_held driver.oldest_receive a ++ frames) stored
          ∙ append-nil (frames_held driver.oldest_receive a) ∙ waits.none;
    }

pub nothing_is_held : NothingIsHeld
nothing_is_held up driver world ready waits =
    let none = holds-none receive_buffer_bytes driver.oldest_receive driver.oldest_transmit world ready.law.sound (omega arith)
    ready.law.whole waits.none in
    (none.none_finished, none.no_work)

pub rings_that_are_off_stay : RingsThatAreOffStay
rings_that_are_off_stay driver a b past ready happens =
    let before = a.adapter.transmit_ring in
    let behind = b.adapter.transmit_ring in
    let moved = happens.steady.transmit_ring.others in
    let still = (goes-happens driver a b past ready happens).flows.ready.transmit in
    let tail : behind.tail ≡ before.tail = ap (λ (ring : RingRegisters). ring.tail) moved in
    let head : behind.head ≡ before.head = still.idle ∙ tail ∙ sym ready.transmit.idle in
    moved ∙ ap (λ (index : ℕ). let ring : RingRegisters = record before { head = index } in ring) head
