-- The frames that are lost in a reset, by the notes of its ticks. Also the number of accesses up to the second write of
-- RCTL.
use Rattle.std.proofs.Common.{◌≡◌, ◌≤◌, ◌+◌, ◌-◌, ◌*◌, ◌%◌, ◌++◌, ◌∷◌, [], ℕ, zero, suc, List, drop, length, length-append, min, take}
use Rattle.std.proofs.Common.{refl, sym, ap, ◌∙◌, append_assoc, arith}
use Rattle.std.specs.List.{flat_map}
use Rattle.std.proofs.lemmas.List.{append-nil, length-map}
use Rattle.std.proofs.lemmas.Grind.{flat_map-append}
use Rattle.registers.specs.Places.{alone, ctrl_rst}
use Rattle.rx_engine.specs.declared.engine.TheConstants.{MOST_FRAMES}
use Rattle.dma_memory.specs.Layout.{Counts, descriptor_bytes}
use Rattle.adapter.specs.HostFrames.{frames_held, frames_to_send}
use Rattle.adapter.specs.State.{IsAdapter}
use Rattle.adapter.specs.model_types.offsets.TheConstants.{CTRL, MPC, MTA, RCTL, RDBAL, RDT, VFTA}
use Rattle.adapter.specs.LivelyBuses.{most_accesses}
use Rattle.adapter.specs.Pasts.{Past, joined}
use Rattle.adapter.specs.Settings.{Write}
use Rattle.adapter.specs.bus_types.event.Access.{Access}
use Rattle.adapter.specs.bus_types.event.Access.TheVariants.{Reads, Writes}
use Rattle.bring_up.specs.ClearedDescriptors.{clears, clears_from}
use Rattle.bring_up.specs.DriverSteps.{accesses_of}
use Rattle.bring_up.specs.FilterTables.{address_writes, table_writes}
use Rattle.bring_up.specs.RingRegisters.{receive_control, ring_setup_writes}
use Rattle.adapter.specs.Calls.{stores_from}
use Rattle.adapter.specs.DriverState.{DriverSetup, DriverState, receive_slot}
use Rattle.stations.proofs.HostTrails.{trail-of}
use Rattle.stations.specs.AtomicRunLaws.{leads_join, past_join, steps_told_join}
use Rattle.stations.specs.AtomicRuns.{LeadsTo, counted_of, events_at, past_at, steps_told}
use Rattle.stations.specs.AtomicSteps.{AtomicStep, after_atomic}
use Rattle.stations.specs.Stations.{StationState, world_at}
use Rattle.host_calls.proofs.Laws.{frames-move}
use Rattle.driver.specs.Resetting.{free_accesses, quiet_writes}
use Rattle.host_calls.proofs.AdaptersStay.{adapter-behind}
use Rattle.host_calls.proofs.NotedSteps.{early-puts, first-stores, no-late_puts, no-later_stores}
use Rattle.host_calls.proofs.PendingFrames.{held-in_room}
use Rattle.host_calls.proofs.ResetParts.{accesses-join}
use Rattle.host_calls.proofs.ResetIntervals.{own-past}
use Rattle.host_calls.proofs.SplitSteps.{counted-accesses, own-accesses}
use Rattle.host_calls.specs.ConnectedHosts.{ConnectedHost}
use Rattle.host_calls.specs.Notes.{Notes, early_put, first_stored, noted_after}
use Rattle.host_calls.specs.NotesLaws.{take-whole}
use Rattle.host_calls.specs.ResetSteps.{PartsAccess, ResetParts, ResetValues, at_rest, before_reset, disable_of, enable_of, reset_of}
use Rattle.host_calls.specs.ResetsInSteps.{GivesUp, ResetsInSteps}

before-accesses : (k : ℕ) (counts : Counts) (setup : DriverSetup) (values : ResetValues) (parts : ResetParts)
    → PartsAccess k counts setup values parts
    → (past_at k (before_reset k parts)).accesses ≡ Writes RCTL 0 ∷ Reads MPC values.misses ∷ []
before-accesses k counts setup values parts are =
    ap (λ (past : Past). past.accesses) (past_join k parts.early (disable_of k ∷ parts.stopping))
    ∙ ap (λ (list : List Access). list ++ (past_at k (disable_of k ∷ parts.stopping)).accesses) are.early
    ∙ own-accesses k k (Writes RCTL 0) parts.stopping refl
    ∙ ap (λ (list : List Access). Writes RCTL 0 ∷ list) are.stopping

before-stored : (k : ℕ) (parts : ResetParts) → (past_at k parts.stopping).stored ≡ []
    → (past_at k (before_reset k parts)).stored ≡ (past_at k parts.early).stored
before-stored k parts none =
    ap (λ (past : Past). past.stored) (past_join k parts.early (disable_of k ∷ parts.stopping))
    ∙ ap (λ (past : Past). (past_at k parts.early).stored ++ past.stored)
    (past_join k (disable_of k ∷ []) parts.stopping
    ∙ ap (λ (past : Past). joined past (past_at k parts.stopping)) (own-past k (Writes RCTL 0)))
    ∙ ap (λ (list : List (List ℕ)). (past_at k parts.early).stored ++ list) none
    ∙ append-nil (past_at k parts.early).stored

pub gives-up : (k : ℕ) (steps : List AtomicStep) (old new : ConnectedHost) (it : ResetsInSteps k steps old new)
    → GivesUp (frames_to_send (world_at it.last k)) (frames_held old.host.driver.oldest_receive (world_at it.last k)) k
    old.host.driver.oldest_receive it.parts (world_at old.stations k) (world_at it.last k)
gives-up k steps old new it =
    let flows = it.stops.goes.driver.flows in
    record {
      sending_then = refl;
      holding_then = refl;
      sending_since = flows.sends ∙ append-nil (frames_to_send (world_at old.stations k));
      holding_since = flows.holds
          ∙ ap (λ (list : List (List ℕ)). frames_held old.host.driver.oldest_receive (world_at old.stations k) ++ list)
          (before-stored k it.parts it.stops.none_stored);
    }

-- The numbers of accesses before outcomes

before-counted : (k : ℕ) (steps : List AtomicStep) (old new : ConnectedHost) (it : ResetsInSteps k steps old new)
    → counted_of 0 (before_reset k it.parts) ≡ 2
before-counted k steps old new it =
    let two = ap length (before-accesses k old.host.driver.layout old.host.driver.setup it.values it.parts it.accesses) in
    counted-accesses k 0 (before_reset k it.parts) old.stations it.last it.stops.leads (omega (arith, two)) ∙ omega (arith, two)

puts-noted : (k : ℕ) (steps : List AtomicStep) (old new : ConnectedHost) (it : ResetsInSteps k steps old new)
    → flat_map (early_put k) (steps_told 0 steps) ≡ (past_at k (before_reset k it.parts)).put
puts-noted k steps old new it =
    let before = before_reset k it.parts in
    let behind = (it.parts.resting ++ enable_of k old.host.driver.setup ∷ []) ++ it.parts.later in
    let two = ap length (before-accesses k old.host.driver.layout old.host.driver.setup it.values it.parts it.accesses) in
    ap (λ (list : List AtomicStep). flat_map (early_put k) (steps_told 0 list)) it.split
    ∙ ap (flat_map (early_put k)) (steps_told_join 0 before (reset_of k ∷ behind))
    ∙ flat_map-append (early_put k) (steps_told 0 before) (steps_told (counted_of 0 before) (reset_of k ∷ behind))
    ∙ ap (λ (n : ℕ). flat_map (early_put k) (steps_told 0 before) ++ flat_map (early_put k) (steps_told n (reset_of k ∷ behind)))
    (before-counted k steps old new it)
    ∙ ap (λ (list : List (List ℕ)). flat_map (early_put k) (steps_told 0 before) ++ list) (no-late_puts k 3 behind (omega arith))
    ∙ append-nil (flat_map (early_put k) (steps_told 0 before))
    ∙ early-puts k 0 before old.stations it.last it.stops.leads (omega (arith, two))
    ∙ (frames-move k k before old.stations it.last it.stops.leads).put

leads-first : (k : ℕ) (first later : List AtomicStep) (a b : List StationState) → LeadsTo k (first ++ later) a b
    → ((middle : List StationState) × LeadsTo k first a middle)
leads-first k [] later a b leads = (a, refl)
leads-first k (step ∷ first) later a b leads =
    let rest = leads-first k first later (after_atomic step a) b leads.2 in (rest.0, (leads.0, leads.1, rest.1))

stores-noted : (k : ℕ) (steps : List AtomicStep) (old new : ConnectedHost) (it : ResetsInSteps k steps old new)
    → flat_map (first_stored k) (steps_told 0 steps) ≡ (past_at k it.parts.early).stored
stores-noted k steps old new it =
    let early = it.parts.early in
    let behind = it.parts.stopping ++ (at_rest k old.host.driver.setup it.parts ++ it.parts.later) in
    let none = ap length it.accesses.early in
    let start = leads-first k early (disable_of k ∷ it.parts.stopping) old.stations it.last it.stops.leads in
    let few : counted_of 0 early ≡ 0 =
    counted-accesses k 0 early old.stations start.0 start.1 (omega (arith, none))
    ∙ ap (λ (list : List Access). 0 + length list) it.accesses.early in
    ap (λ (list : List AtomicStep). flat_map (first_stored k) (steps_told 0 list))
    (it.split
    ∙ append_assoc early (disable_of k ∷ it.parts.stopping) (at_rest k old.host.driver.setup it.parts ++ it.parts.later))
    ∙ ap (flat_map (first_stored k)) (steps_told_join 0 early (disable_of k ∷ behind))
    ∙ flat_map-append (first_stored k) (steps_told 0 early) (steps_told (counted_of 0 early) (disable_of k ∷ behind))
    ∙ ap (λ (n : ℕ). flat_map (first_stored k) (steps_told 0 early) ++ flat_map (first_stored k) (steps_told n (disable_of k ∷ behind)))
    few
    ∙ ap (λ (list : List (List ℕ)). flat_map (first_stored k) (steps_told 0 early) ++ list) (no-later_stores k 1 behind (omega arith))
    ∙ append-nil (flat_map (first_stored k) (steps_told 0 early))
    ∙ first-stores k early old.stations start.0 start.1 it.accesses.early
    ∙ (frames-move k k early old.stations start.0 start.1).stored

-- What the notes contain

-- the notes of host k before the ticks of a reset, with the held frames `holding`
abbrev pub first_notes : (k most : ℕ) → List (List ℕ) → Notes
first_notes k most holding = record { host = k; most = most; put = 0; holding = holding }

drop-first : {X : Type 0} (xs ys : List X) → drop (length xs) (xs ++ ys) ≡ ys
drop-first [] ys = refl
drop-first (x ∷ xs) ys = drop-first xs ys

-- Dropping the noted number of frames from those to be sent at the beginning yields those to be sent at the write of
-- CTRL.RST.
pub sending-noted : (k most : ℕ) (steps : List AtomicStep) (old new : ConnectedHost) (it : ResetsInSteps k steps old new)
    (holding : List (List ℕ)) (count taken : ℕ) → length (frames_to_send (world_at old.stations k)) ≤ most_accesses
    → count ≡ (noted_after (steps_told 0 steps) (first_notes k most holding)).put
    → taken ≡ min (length (frames_to_send (world_at old.stations k))) count
    → drop taken (frames_to_send (world_at old.stations k)) ≡ frames_to_send (world_at it.last k)
sending-noted k most steps old new it holding count taken few noted taken_is =
    let puts = (past_at k (before_reset k it.parts)).put in
    let since = (gives-up k steps old new it).sending_since in
    let all = ap length since in
    let both = length-append puts (frames_to_send (world_at it.last k)) in
    let number = ap length (puts-noted k steps old new it) in
    let is : taken ≡ length puts = omega (arith, few, noted, taken_is, all, both, number) in
    ap (λ (n : ℕ). drop n (frames_to_send (world_at old.stations k))) is
    ∙ ap (drop (length puts)) (sym since)
    ∙ drop-first puts (frames_to_send (world_at it.last k))

last-in_room : (k : ℕ) (steps : List AtomicStep) (old new : ConnectedHost) (it : ResetsInSteps k steps old new)
    → IsAdapter (world_at old.stations k).adapter
    → length (frames_held old.host.driver.oldest_receive (world_at it.last k)) ≤ old.host.driver.layout.rx + MOST_FRAMES
last-in_room k steps old new it adapter =
    let trail = trail-of k k (before_reset k it.parts) old.stations it.last it.stops.leads in
    held-in_room it.stops.goes.driver.flows.ready
    (adapter-behind (events_at k (before_reset k it.parts)) (world_at old.stations k) (world_at it.last k) trail adapter)

-- The list in the notes contains the frames held at the write of CTRL.RST.
pub holding-noted : (k most : ℕ) (steps : List AtomicStep) (old new : ConnectedHost) (it : ResetsInSteps k steps old new)
    → IsAdapter (world_at old.stations k).adapter → old.host.driver.layout.rx + MOST_FRAMES ≤ most
    → (noted_after (steps_told 0 steps)
    (first_notes k most (frames_held old.host.driver.oldest_receive (world_at old.stations k)))).holding
    ≡ frames_held old.host.driver.oldest_receive (world_at it.last k)
holding-noted k most steps old new it adapter room =
    let held = frames_held old.host.driver.oldest_receive (world_at old.stations k) in
    let last = frames_held old.host.driver.oldest_receive (world_at it.last k) in
    let is : held ++ flat_map (first_stored k) (steps_told 0 steps) ≡ last =
    ap (λ (list : List (List ℕ)). held ++ list) (stores-noted k steps old new it) ∙ sym (gives-up k steps old new it).holding_since in
    let fits = last-in_room k steps old new it adapter in
    ap (take most) is ∙ take-whole most last (omega (arith, fits, room))

-- The number of accesses up to the second write of RCTL

length-writes : (writes : List Write) → length (accesses_of writes) ≡ length writes
length-writes writes = length-map writes (λ (write : Write). Writes write.offset write.value)

length-table : (offset : ℕ) (words : List ℕ) → length (table_writes offset words) ≡ length words
length-table offset [] = refl
length-table offset (word ∷ later) = let rest = length-table (offset + 4) later in omega (arith, rest)

length-stores : (counts : Counts) (slot : ℕ) (numbers : List ℕ) → length (stores_from counts slot numbers) ≡ length numbers
length-stores counts slot [] = refl
length-stores counts slot (number ∷ later) = let rest = length-stores counts ((slot + 1) % counts.rx) later in omega (arith, rest)

length-clears : (first count : ℕ) → length (clears_from first count) ≡ count
length-clears first zero = refl
length-clears first (suc n) =
    let rest = length-clears first n in
    omega (arith, rest, length-append (clears_from first n) (clears (first + descriptor_bytes * n) ∷ []))

quiet-length : (setup : DriverSetup) (counts : Counts) (groups vlans : List ℕ) → length groups ≡ 128 → length vlans ≡ 128
    → length (quiet_writes setup counts groups vlans) ≡ 295
quiet-length setup counts groups vlans groups_long vlans_long =
    let address = address_writes setup.address in
    let tables = table_writes MTA groups ++ (table_writes VFTA vlans ++ address) in
    let ring = ring_setup_writes RDBAL 0 (descriptor_bytes * counts.rx) in
    let own : length address ≡ 32 = refl in
    omega (
      arith,
      groups_long,
      vlans_long,
      length-append (accesses_of tables) (accesses_of ring),
      length-writes tables,
      length-append (table_writes MTA groups) (table_writes VFTA vlans ++ address),
      length-append (table_writes VFTA vlans) address,
      length-table MTA groups,
      length-table VFTA vlans,
      own,
    )

free-length : (counts : Counts) (numbers : List ℕ) → length numbers ≤ counts.rx → length (free_accesses counts numbers) ≡ counts.rx + 1
free-length counts numbers fits =
    let tail = Writes RDT (length numbers) ∷ [] in
    let clears = clears_from (receive_slot (length numbers)) (counts.rx - length numbers) in
    omega (
      arith,
      fits,
      length-append (stores_from counts 0 numbers) (clears ++ tail),
      length-stores counts 0 numbers,
      length-append clears tail,
      length-clears (receive_slot (length numbers)) (counts.rx - length numbers),
    )

rest-length : (k : ℕ) (counts : Counts) (setup : DriverSetup) (values : ResetValues) (parts : ResetParts)
    → PartsAccess k counts setup values parts → length values.groups ≡ 128 → length values.vlans ≡ 128 → length values.numbers ≤ counts.rx
    → length (past_at k (at_rest k setup parts)).accesses ≡ 300 + counts.rx
rest-length k counts setup values parts are groups_long vlans_long fits =
    let enable = Writes RCTL (receive_control setup.promiscuous setup.by_vlan) in
    let quiet = quiet_writes setup counts values.groups values.vlans in
    let last = ap length (accesses-join k parts.resting (enable_of k setup ∷ [])) in
    let behind = length-append (past_at k parts.resting).accesses (past_at k (enable_of k setup ∷ [])).accesses in
    omega (
      arith,
      ap length (own-accesses k k (Writes CTRL (alone ctrl_rst)) (parts.resting ++ enable_of k setup ∷ []) refl),
      last,
      behind,
      ap length are.resting,
      ap length (own-accesses k k enable [] refl),
      length-append quiet (free_accesses counts values.numbers),
      quiet-length setup counts values.groups values.vlans groups_long vlans_long,
      free-length counts values.numbers fits,
    )

pub enabled-after : (k : ℕ) (steps : List AtomicStep) (old new : ConnectedHost) (it : ResetsInSteps k steps old new)
    → 302 + old.host.driver.layout.rx ≤ most_accesses
    → counted_of 0 (before_reset k it.parts ++ at_rest k old.host.driver.setup it.parts) ≡ 302 + old.host.driver.layout.rx
enabled-after k steps old new it small =
    let setup = old.host.driver.setup in
    let counts = old.host.driver.layout in
    let before = before_reset k it.parts in
    let rest = at_rest k setup it.parts in
    let offered = ap (λ (d : DriverState). length d.buffers) it.again.driver in
    let layout = ap (λ (d : DriverState). d.layout.rx) it.again.driver in
    let room = it.restarts.ready.ready.driver_is.room in
    let two = ap length (before-accesses k counts setup it.values it.parts it.accesses) in
    let others = rest-length k counts setup it.values it.parts it.accesses it.tables.has_groups.words it.tables.has_vlans.words
    (omega (arith, offered, layout, room)) in
    let all = ap length (accesses-join k before rest) in
    let both = length-append (past_at k before).accesses (past_at k rest).accesses in
    counted-accesses k 0 (before ++ rest) old.stations it.enabled
    (leads_join k before rest old.stations it.last it.enabled it.stops.leads it.rests.leads)
    (omega (arith, two, others, all, both, small))
    ∙ omega (arith, two, others, all, both)
