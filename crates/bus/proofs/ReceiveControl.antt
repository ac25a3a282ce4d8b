-- RCTL is written while no receive slot is finished or in progress and the transmit side is off.
use Rattle.std.proofs.Common.{Bool, true, false, ◌≡◌, ◌≢◌, ◌≤◌, ◌<◌, ◌++◌, ◌∷◌, [], ℕ, List, Option, if◌then◌else◌, map, inl, refl, sym, ap}
use Rattle.std.proofs.Common.{subst, ◌∙◌, arith}
use Rattle.std.specs.List.{All, AllPairs}
use Rattle.std.proofs.lemmas.Simd.{map-map}
use Rattle.std.proofs.lemmas.List.Elements.{All-cons, All-map}
use Rattle.std.proofs.lemmas.List.Kept.{AllPairs-cons}
use Rattle.dma_memory.specs.Areas.{AreApart, AreSeparate, Area, area_at}
use Rattle.dma_memory.specs.HostMemory.{LiesIn}
use Rattle.dma_memory.specs.Layout.{Counts, ReceiveBuffer, ReceiveRing, area_of, receive_buffer_bytes}
use Rattle.dma_memory.specs.LayoutLaws.{layout_begins, places-apart}
use Rattle.dma_memory.specs.Owners.{copies}
use Rattle.dma_memory.specs.OwnersLaws.{copies-cons, copies-itself, no_second_from_one, once_from_no_second}
use Rattle.rx_engine.specs.Descriptors.{named_address}
use Rattle.rx_engine.specs.declared.engine.Work.{Work}
use Rattle.adapter_model.specs.HostAreas.{areas, buffer_size, data_of, receives, ring_area, work_areas}
use Rattle.adapter_model.specs.HostFrames.{named}
use Rattle.adapter_model.specs.Slots.{finished, slots_in_work, offered, outstanding, slot_of_work}
use Rattle.adapter_model.specs.World.{World, receive_ring, transmit_ring}
use Rattle.bus.proofs.IdleRings.{first-two, offered-none}
use Rattle.bus.proofs.RegisterSetting.{receiver_can_be_set}
use Rattle.bus.proofs.Lists.{all-head, all-tail, pairs-head, pairs-none}
use Rattle.bus.specs.RegisterSetting.{with_receive_control, ReceiverSet}
use Rattle.bus.specs.Beginnings.{ReceiverIsEnabled}
use Rattle.bus.specs.DriverState.{DriverState, buffer_at, owners}
use Rattle.bus.specs.ReadyDrivers.{ReadyWith}
use Rattle.bus.proofs.Buffers.{buffer-lies, known-area}
use Rattle.bus.proofs.Owners.{all-copies, outstanding-number, owners-count}
use Rattle.bus.proofs.Steps.{goes-same}
use Rattle.bus.proofs.EndedFrames.{none-cut}
use Rattle.bus.proofs.AlikeWorlds.{ready-set}
use Rattle.registers.specs.Bits.{HasBit}
use Rattle.registers.specs.Places.{rctl_bsex, rctl_en}
use Rattle.adapter_model.specs.Conditions.{AreCut}
use Rattle.bus.specs.Calls.{GoesTo, driver_did, driver_in}
use Rattle.bus.specs.Pasts.{nothing}

-- The buffers of outstanding slots

abbrev buffers_of : Counts → List ℕ → List Area
buffers_of counts numbers = map (λ number. area_of counts (ReceiveBuffer number)) numbers

buffers-apart : (counts : Counts) (numbers : List ℕ) → ((number : ℕ) → copies number numbers ≤ 1)
    → ((number : ℕ) → 0 < copies number numbers → number < counts.buffers) → AllPairs AreApart (buffers_of counts numbers)
buffers-apart counts [] once known = pairs-none AreApart
buffers-apart counts (first ∷ numbers) once known =
    let at : ℕ → Area = λ number. area_of counts (ReceiveBuffer number) in
    let first_known = known first (omega (arith, copies-itself first numbers)) in
    AllPairs-cons AreApart (at first) (map at numbers)
    (All-map (AreApart (at first)) at numbers (all-copies (λ other. AreApart (at first) (at other)) numbers (λ other some.
    let differ : first ≢ other = λ same. absurd
    (omega (arith, some, once first, copies-itself first numbers, ap (λ (number : ℕ). copies number numbers) same)) in
    places-apart counts (ReceiveBuffer first) (ReceiveBuffer other) first_known
    (known other (omega (arith, some, copies-cons other first numbers))) (λ same. differ (cc)))))
    (buffers-apart counts numbers (λ number. omega (arith, once number, copies-cons number first numbers))
    (λ number some. known number (omega (arith, some, copies-cons number first numbers))))

rings-and-buffers : (driver : DriverState) (world : World) → ReadyWith false driver world → (on : Bool)
    → AreSeparate world.memory (ring_area (receive_ring world) ∷ ring_area (transmit_ring world)
    ∷ (if on then buffers_of driver.layout driver.buffers else []))
rings-and-buffers driver world ready false = first-two world.memory (ring_area (receive_ring world))
    (ring_area (transmit_ring world)) _ ready.law.sound.separate
rings-and-buffers driver world ready true =
    let counts = driver.layout in
    let numbers = driver.buffers in
    let r = ring_area (receive_ring world) in
    let t = ring_area (transmit_ring world) in
    let at : ℕ → Area = λ number. area_of counts (ReceiveBuffer number) in
    let Lies : Area → Type 0 = λ area. LiesIn world.memory area.address area.size in
    let two = first-two world.memory r t _ ready.law.sound.separate in
    let known : (number : ℕ) → 0 < copies number numbers
    → number < counts.buffers = λ number. outstanding-number driver number ready.driver_is in
    let once : (number : ℕ)
    → copies number numbers ≤ 1 = λ number. omega (
      arith,
      owners-count number driver,
      once_from_no_second counts.buffers number (owners driver)
          (no_second_from_one counts.buffers (owners driver) ready.driver_is.one_owner),
    ) in
    let behind = (layout_begins counts).behind_rings in
    let each : (P : Area → Type 0) → ((number : ℕ) → number < counts.buffers → P (at number))
    → All P (map at numbers) = λ P fact. All-map P at numbers
    (all-copies (λ number. P (at number)) numbers (λ number some. fact number (known number some))) in
    let from_r = each (AreApart r)
    (λ number below. subst (λ (other : Area). AreApart other (at number)) (sym (known-area _ _ _ _ ready.receive))
    (places-apart counts ReceiveRing (ReceiveBuffer number) tt below (λ same. absurd (cc)))) in
    let from_t = each (AreApart t) (λ number below. inl (omega (arith, ready.transmit.ends, behind))) in
    record {
      lie = All-cons Lies r (t ∷ map at numbers) (all-head Lies r (t ∷ []) two.lie)
          (All-cons Lies t (map at numbers) (all-head Lies t [] (all-tail Lies r (t ∷ []) two.lie))
          (each Lies (λ number below. buffer-lies driver world number ready below)));
      apart =
          AllPairs-cons AreApart r (t ∷ map at numbers)
          (All-cons (AreApart r) t (map at numbers) (all-head (AreApart r) t [] (pairs-head AreApart r (t ∷ []) two.apart)) from_r)
          (AllPairs-cons AreApart t (map at numbers) from_t (buffers-apart counts numbers once known));
    }

named-buffers : (counts : Counts) (memory : List ℕ) (size : ℕ) (slots numbers : List ℕ) → size ≡ receive_buffer_bytes
    → map (named_address memory) slots ≡ map (buffer_at counts) numbers
    → map (λ slot. area_at (named_address memory slot) size) slots ≡ buffers_of counts numbers
named-buffers counts memory size slots numbers big same =
    let at : ℕ → Area = λ address. area_at address size in
    sym (map-map at (named_address memory) slots) ∙ ap (map at) same ∙ map-map at (buffer_at counts) numbers
    ∙ ap (λ (n : ℕ). map (λ number. area_at (buffer_at counts number) n) numbers) big

-- RCTL was written without BSEX, and the buffers that the conditions then name have the driver's size.
pub goes-receiver_set : {up : Bool} (driver : DriverState) (control : ℕ) (world : World) → ReadyWith up driver world
    → ReceiverSet driver.oldest_receive driver.oldest_transmit world (with_receive_control control world) → ¬ (HasBit control rctl_bsex)
    → (HasBit control rctl_en → buffer_size (with_receive_control control world) ≤ receive_buffer_bytes)
    → AreCut receive_buffer_bytes driver.oldest_receive (with_receive_control control world)
    → GoesTo up (driver_in driver world) (driver_in driver (with_receive_control control world)) (driver_did [] []) nothing
goes-receiver_set driver control world ready set plain large cut =
    let b = with_receive_control control world in
    goes-same driver world b set.same refl refl
    (ready-set driver world b.adapter ready
    (record {
      sound = set.same.sound;
      runs = set.runs plain ready.law.runs;
      fit = set.same.fits receive_buffer_bytes large ready.law.fit;
      whole = cut;
    })
    ready.transmit)

pub receiver_is_enabled : ReceiverIsEnabled
receiver_is_enabled driver control world ready none idle plain big =
    let o = driver.oldest_receive in
    let b = with_receive_control control world in
    let ring = receive_ring world in
    let memory = world.memory in
    let r = ring_area ring in
    let t = ring_area (transmit_ring world) in
    let on = receives b in
    let accepted : outstanding ring o ≡ offered ring = ready.law.sound.receive_slots.classes
    ∙ ap (λ (slots : List ℕ). slots ++ (slots_in_work world ++ offered ring)) none
    ∙ ap (λ (work : Option Work). slot_of_work work ++ offered ring) idle in
    let named_at = named-buffers driver.layout memory (buffer_size b) (offered ring) driver.buffers big
    (ap (map (named_address memory)) (sym accepted) ∙ ready.slots.names) in
    let bufs = map (λ slot. area_at (named_address memory slot) (buffer_size b)) (offered ring) in
    let count = if on then bufs else [] in
    let one = subst (λ (list : List Area). AreSeparate memory (r ∷ t ∷ (if on then list else []))) (sym named_at)
    (rings-and-buffers driver world ready on) in
    let two = subst (λ (work : Option Work). AreSeparate memory (r ∷ t ∷ (work_areas memory work ++ count))) (sym idle) one in
    let three = subst (λ (slots : List ℕ). AreSeparate memory
    (r ∷ t ∷ (map (named memory) slots ++ (work_areas memory world.adapter.receiver.work ++ count)))) (sym none) two in
    let separate : AreSeparate memory (areas o b) = subst
    (λ (slots : List ℕ). AreSeparate memory
    (r ∷ t ∷ (map (data_of memory) slots
    ++ (map (named memory) (finished o world) ++ (work_areas memory world.adapter.receiver.work ++ count)))))
    (sym (offered-none (transmit_ring world) ready.transmit.idle)) three in
    let set = receiver_can_be_set o driver.oldest_transmit control world ready.law.sound separate in
    goes-receiver_set driver control world ready set plain (λ enabled. omega (arith, big))
    (none-cut receive_buffer_bytes o b (λ enabled. big) none idle)
