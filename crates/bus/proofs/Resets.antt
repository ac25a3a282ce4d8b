-- A driver disables the receiver and resets its adapter.
use Rattle.std.proofs.Common.{◌≡◌, ◌≤◌, ◌/◌, ◌%◌, ◌^◌, ◌++◌, ◌∷◌, [], ℕ, Bool, false, List, length, map, take, if◌then◌else◌, inl, inr}
use Rattle.std.proofs.Common.{refl, sym, ap, subst, ◌∙◌, append_assoc, arith}
use Rattle.std.specs.List.{All, AllPairs}
use Rattle.std.proofs.lemmas.Bool.Decides.{eqb_tells}
use Rattle.std.proofs.lemmas.List.{append-nil}
use Rattle.std.proofs.lemmas.List.Kept.{AllPairs-cons}
use Rattle.std.proofs.Math.Seq.{take-length}
use Rattle.registers.specs.Bits.{HasBit, is_set}
use Rattle.registers.specs.Laws.{HasBit-zero}
use Rattle.registers.specs.Places.{rctl_en}
use Rattle.dma_memory.specs.Areas.{AreApart, AreSeparate, Area, area_at}
use Rattle.dma_memory.specs.HostMemory.{LiesIn}
use Rattle.dma_memory.specs.Layout.{receive_buffer_bytes, size_of}
use Rattle.dma_memory.specs.OwnersLaws.{copies-append}
use Rattle.rx_engine.specs.Receiver.{Receiver}
use Rattle.tx_engine.specs.Transmitter.{Queued, Transmitter}
use Rattle.adapter_model.specs.HostAreas.{IsForeign, areas, buffer_of, data_of, offered_buffers, ring_area}
use Rattle.adapter_model.specs.HostAreas.{work_areas, writable}
use Rattle.adapter_model.specs.HostFrames.{named}
use Rattle.adapter_model.specs.Slots.{buffered, finished, slots_in_work, offered, slot_of_work}
use Rattle.adapter_model.specs.World.{World, receive_ring, transmit_ring}
use Rattle.bus.proofs.AdaptersAtRest.{happenings_keep_rest, rest_after_reset, rest_is_idle}
use Rattle.bus.proofs.IdleRings.{idle_rings_are_sound, offered-none}
use Rattle.bus.proofs.Lists.{all-left, all-none, pairs-head, pairs-none, pairs-tail}
use Rattle.bus.proofs.RegisterSetting.{receiver_can_be_set}
use Rattle.bus.specs.AdaptersAtRest.{IsAtRest}
use Rattle.bus.specs.RegisterSetting.{with_receive_control}
use Rattle.bus.proofs.Owners.{owners-count}
use Rattle.bus.proofs.Intervals.{misses-stay}
use Rattle.bus.specs.ReadyDrivers.{Stands}
use Rattle.bus.specs.Resets.{DriversRest, ReceiverIsDisabled, ResetForgetsSlots, ResetKeepsSum, RestKeepsMemory, reset_driver}
use Rattle.bus.specs.Resets.{reset_world}
use Rattle.bus.proofs.ReceiveControl.{goes-receiver_set}

-- The receiver is disabled

pairs-left : {X : Type 0} (R : X → X → Type 0) (xs ys : List X) → AllPairs R (xs ++ ys) → AllPairs R xs
pairs-left R [] ys pairs = pairs-none R
pairs-left R (x ∷ xs) ys pairs =
    AllPairs-cons R x xs (all-left (R x) xs ys (pairs-head R x (xs ++ ys) pairs)) (pairs-left R xs ys (pairs-tail R x (xs ++ ys) pairs))

separate-left : (memory : List ℕ) (xs ys : List Area) → AreSeparate memory (xs ++ ys) → AreSeparate memory xs
separate-left memory xs ys separate = record {
  lie = all-left (λ (area : Area). LiesIn memory area.address area.size) xs ys separate.lie;
  apart = pairs-left AreApart xs ys separate.apart;
}

without-last : (memory : List ℕ) (r t : Area) (one two three last : List Area)
    → AreSeparate memory (r ∷ t ∷ (one ++ (two ++ (three ++ last)))) → AreSeparate memory (r ∷ t ∷ (one ++ (two ++ (three ++ []))))
without-last memory r t one two three last separate =
    let Separate : List Area → Type 0 = λ list. AreSeparate memory (r ∷ t ∷ list) in
    let same : (one ++ (two ++ three)) ++ last ≡ one ++ (two ++ (three ++ last)) =
    append_assoc one (two ++ three) last ∙ ap (λ (list : List Area). one ++ list) (append_assoc two three last) in
    subst (λ (list : List Area). Separate (one ++ (two ++ list))) (sym (append-nil three))
    (separate-left memory (r ∷ t ∷ (one ++ (two ++ three))) last (subst Separate (sym same) separate))

not-set : (control bit : ℕ) → ¬ (HasBit control bit) → is_set control bit ≡ false
not-set control bit unset = elim (eqb_tells (control / 2 ^ bit % 2) 1) [
  | inl same ↦ absurd (unset same.1)
  | inr differ ↦ differ.0
]

no-buffers : (world : World) → ¬ (HasBit world.adapter.filter.rctl rctl_en) → offered_buffers world ≡ []
no-buffers world off =
    ap (λ (on : Bool). if on then map (buffer_of world) (offered (receive_ring world)) else [])
    (not-set world.adapter.filter.rctl rctl_en off)

pub receiver_is_disabled : ReceiverIsDisabled
receiver_is_disabled up driver control world ready off plain =
    let o = driver.oldest_receive in
    let b = with_receive_control control world in
    let memory = world.memory in
    let r = ring_area (receive_ring world) in
    let t = ring_area (transmit_ring world) in
    let payload = map (data_of memory) (offered (transmit_ring world)) in
    let done = map (named memory) (finished o world) in
    let work = work_areas memory world.adapter.receiver.work in
    let fewer = without-last memory r t payload done work (offered_buffers world) ready.law.sound.separate in
    let separate : AreSeparate memory (areas o b) =
    subst (λ (list : List Area). AreSeparate memory (r ∷ t ∷ (payload ++ (done ++ (work ++ list))))) (sym (no-buffers b off)) fewer in
    let set = receiver_can_be_set o driver.oldest_transmit control world ready.law.sound separate in
    goes-receiver_set driver control world ready set plain (λ enabled. absurd (off enabled))
    (set.same.whole receive_buffer_bytes (λ enabled. absurd (off enabled)) ready.law.whole)

-- The reset

pub reset_forgets_slots : ResetForgetsSlots
reset_forgets_slots up driver pool world ready free = record {
  rest = rest_after_reset world;
  lies = ready.lies;
  one_owner = λ k.
      let before = owners-count k driver in
      let after = owners-count k (reset_driver pool driver) in
      let same = free k in
      let inner = copies-append k driver.buffers driver.staged in
      let outer = copies-append k driver.pool (driver.buffers ++ driver.staged) in
      omega (arith, after, same, outer, inner, before) ∙ ready.driver_is.one_owner k;
  stand = ready.stand;
}

pub reset_keeps_sum : ResetKeepsSum
reset_keeps_sum driver pool world none =
    misses-stay driver (reset_driver pool driver) world (reset_world world) refl refl (sym none)

-- After the reset

writes-nothing : (world : World) → IsAtRest world → (area : Area) → IsForeign world area
writes-nothing world rest area = subst (λ (list : List Area). All (AreApart area) list) (sym nothing_there) (all-none (AreApart area))
  where
    working : slots_in_work world ≡ []
    working = ap (λ (receiver : Receiver). slot_of_work receiver.work) rest.receiver

    queued : buffered world ≡ []
    queued = ap (λ (transmitter : Transmitter). map (λ (one : Queued). one.descriptor) transmitter.buffer) rest.transmitter

    off : ¬ (HasBit world.adapter.filter.rctl rctl_en)
    off = subst (λ (control : ℕ). ¬ (HasBit control rctl_en)) (sym rest.control) (HasBit-zero rctl_en)

    nothing_there : writable world ≡ []
    nothing_there =
        rw (
          no-buffers world off,
          working,
          queued,
          offered-none (receive_ring world) rest.rings.receive,
          offered-none (transmit_ring world) rest.rings.transmit,
        ) refl

pub rest_keeps_memory : RestKeepsMemory
rest_keeps_memory a b past happens rest =
    let idle = (rest_is_idle a rest).0 in
    let between = happens.between a.adapter.receive_ring.tail a.adapter.transmit_ring.tail (idle_rings_are_sound a idle) in
    let all = area_at 0 (length a.memory) in
    let same : take (length a.memory) b.memory ≡ take (length a.memory) a.memory = between.untouched all (writes-nothing a rest all) in
    sym (take-length b.memory) ∙ ap (λ (n : ℕ). take n b.memory) happens.steady.size ∙ same ∙ take-length a.memory

pub drivers_rest : DriversRest
drivers_rest driver a b past happens is rests =
    let kept = happenings_keep_rest a b past happens is rests.rest in
    let memory = rest_keeps_memory a b past happens rests.rest in (
      record {
        rest = kept.0;
        lies = subst (λ (n : ℕ). size_of driver.layout ≤ n) (sym (ap length memory)) rests.lies;
        one_owner = rests.one_owner;
        stand = subst (λ (bytes : List ℕ). All (Stands driver.layout bytes) driver.handed_out) (sym memory) rests.stand;
      },
      kept.1,
    )
