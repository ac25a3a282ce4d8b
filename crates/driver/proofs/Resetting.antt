-- A running adapter is reset, part by part.
use Rattle.std.proofs.Common.{Bool, true, false, ◌≡◌, ◌≤◌, ◌<◌, ◌-◌, ◌*◌, ◌++◌, ◌∷◌, [], ℕ, List, length, map, inl}
use Rattle.std.proofs.Common.{append_assoc, arith, refl, sym, ap, subst, ◌∙◌}
use Rattle.std.specs.List.{All}
use Rattle.std.proofs.lemmas.List.{append-nil}
use Rattle.std.proofs.lemmas.List.Elements.{All-cons}
use Rattle.dma_memory.specs.Layout.{Counts, IsAllowed, size_of}
use Rattle.dma_memory.specs.Owners.{HaveSameNumbers}
use Rattle.rx_filter.specs.NumberTables.{HasNumbers, numbers_of_groups}
use Rattle.rx_engine.specs.Pieces.{frames_of}
use Rattle.rx_filter.specs.Registers.{FilterRegisters}
use Rattle.adapter.specs.HostFrames.{frames_held, frames_to_send, piece_in}
use Rattle.adapter.specs.Rings.{new_ring}
use Rattle.adapter.specs.Table.{IsInTable, row_of}
use Rattle.adapter.specs.TableLaws.{register_at-there}
use Rattle.adapter.specs.World.{World}
use Rattle.adapter.specs.model_types.register.Register.{Register}
use Rattle.adapter.specs.model_types.register.Register.TheVariants.{Ctrl, Pba, Rctl, Receive}
use Rattle.adapter.specs.model_types.register.RingRegister.TheVariants.{Tail}
use Rattle.adapter.specs.AdaptersAtRest.{IsAtRest, NoFrame}
use Rattle.adapter.specs.Link.{HasLink, IsNotOfPhy, LeavesPhy}
use Rattle.adapter.specs.Pasts.{Past, joined, nothing}
use Rattle.adapter.specs.Settings.{AreSet, IsNotReceiveControl, IsOff, LeavesReceiver, Settings, Write}
use Rattle.adapter.specs.Settings.{settings_after_all, settings_of, writes_in}
use Rattle.adapter.specs.bus_types.bus.Bus.{Ghosts}
use Rattle.adapter.specs.bus_types.event.Access.{Access}
use Rattle.adapter.specs.bus_types.event.Access.TheVariants.{Writes}
use Rattle.adapter.proofs.Lists.{all-left, all-none, all-right, append-empty}
use Rattle.adapter.proofs.Settings.{settings-append, settings_join, writes-append}
use Rattle.adapter.proofs.DriverAccesses.{follows-join}
use Rattle.adapter.proofs.Intervals.{misses-stay}
use Rattle.adapter.specs.Calls.{IsRefilled, Ran, at, driver_in, only, stores_from, missed_added}
use Rattle.adapter.specs.DriverState.{DriverSetup, DriverState, receive_slot, with_owners}
use Rattle.adapter.specs.ReadyDrivers.{Ready, ReadyWith, Stands}
use Rattle.adapter.specs.Resets.{RestsWith, reset_driver}
use Rattle.bring_up.proofs.ConfiguredSettings.{all-set, before-rings, filter_written}
use Rattle.bring_up.proofs.DriverAccesses.{asked-still}
use Rattle.bring_up.proofs.DriverResets.{rests-sets}
use Rattle.bring_up.proofs.NoFrames.{clears-write_none, new_transmit_ring_stays, quiet_stays, stores-write_none}
use Rattle.bring_up.proofs.RestingRings.{drivers_begin_again}
use Rattle.bring_up.proofs.Steps.{IntervalsJoin, no-frames}
use Rattle.bring_up.proofs.WritesAtRest.{allocation-aside, link-aside}
use Rattle.bring_up.proofs.WritesOf.{link-first, rings-last}
use Rattle.bring_up.specs.ClearedDescriptors.{clears_from}
use Rattle.bring_up.specs.Configuration.{IsValidIn, configured_counts, vlans_of}
use Rattle.bring_up.specs.ConfiguredAdapters.{AreWords, FilterHasSetup, HasSetup, names_vlans, setup_of, writes_before_rings}
use Rattle.bring_up.specs.DriverSteps.{ResetsDriver}
use Rattle.bring_up.specs.DriverSteps.{EnablesCauses, LetsFramesIn}
use Rattle.bring_up.specs.FilterSetting.{SetsFilter}
use Rattle.bring_up.specs.FilterTables.{address_writes, table_writes}
use Rattle.bring_up.specs.NoFrames.{LeavesTransmitRing}
use Rattle.bring_up.specs.RestingRings.{HasNewRings, HasReceiveRing, SetsAtRest}
use Rattle.bring_up.specs.RingRegisters.{receive_control, receive_writes, ring_setup_writes, transmit_writes}
use Rattle.bring_up.specs.SettingSteps.{IsAside, Sets, SetsOnly}
use Rattle.bring_up.specs.WrittenRegisters.{allocation_writes, enable_link_writes, mask_writes, reset_writes, write_at}
use Rattle.bring_up.specs.declared.config.Config.{Config}
use Rattle.driver.specs.Initialisation.{AreFilterTables, transmit_accesses}
use Rattle.driver.specs.Resetting.{Resets, free_accesses, later_accesses, quiet_accesses, quiet_writes, stop_accesses}
use Rattle.driver.proofs.SummedMisses.{sums-as, sums-join}
use Rattle.driver.proofs.Initialisation.{new-still, new-whole, settings-all, tail-leaves_receiver, tail-leaves_transmits, transmit-writes}

joined-only : (first later : Past) (xs ys : List Access) → first.accesses ≡ xs → later.accesses ≡ ys
    → (joined first later).accesses ≡ xs ++ ys
joined-only first later xs ys one two =
    ap (λ (list : List Access). list ++ later.accesses) one ∙ ap (λ (list : List Access). xs ++ list) two

-- The register writes

free-writes : (counts : Counts) (numbers : List ℕ) → writes_in (free_accesses counts numbers) ≡ write_at 0x2818 (length numbers) ∷ []
free-writes counts numbers =
    let k = length numbers in
    let cleared = clears_from (receive_slot k) (counts.rx - k) in
    writes-append (stores_from counts 0 numbers) (cleared ++ Writes 0x2818 k ∷ [])
    ∙ ap (λ (writes : List Write). writes ++ writes_in (cleared ++ Writes 0x2818 k ∷ [])) (stores-write_none counts 0 numbers)
    ∙ writes-append cleared (Writes 0x2818 k ∷ [])
    ∙ ap (λ (writes : List Write). writes ++ write_at 0x2818 k ∷ []) (clears-write_none (receive_slot k) (counts.rx - k))

phy-left : (register : Register) (value : ℕ) → IsInTable register → LeavesPhy (write_at (row_of register).offset value)
    → All LeavesPhy (write_at (row_of register).offset value ∷ [])
phy-left register value within leaves = All-cons LeavesPhy (write_at (row_of register).offset value) [] leaves (all-none LeavesPhy)

allocation-leaves_phy : (kilobytes : ℕ) → All LeavesPhy (allocation_writes kilobytes)
allocation-leaves_phy kilobytes = phy-left Pba kilobytes tt (subst IsNotOfPhy (sym (register_at-there Pba tt)) tt)

off-leaves_phy : All LeavesPhy (write_at 0x0100 0 ∷ [])
off-leaves_phy = phy-left Rctl 0 tt (subst IsNotOfPhy (sym (register_at-there Rctl tt)) tt)

reset-leaves_receiver : All LeavesReceiver (write_at 0x0000 0x04000000 ∷ [])
reset-leaves_receiver =
    All-cons LeavesReceiver (write_at 0x0000 0x04000000) [] (subst IsNotReceiveControl (sym (register_at-there Ctrl tt)) tt)
    (all-none LeavesReceiver)

tail-leaves_phy : (slot : ℕ) → All LeavesPhy (write_at 0x2818 slot ∷ [])
tail-leaves_phy slot = phy-left (Receive Tail) slot tt (subst IsNotOfPhy (sym (register_at-there (Receive Tail) tt)) tt)

-- The writes of both tables of the filter, and of the address.
abbrev tables_of : (address groups vlans : List ℕ) → List Write
tables_of address groups vlans = table_writes 0x5200 groups ++ (table_writes 0x5600 vlans ++ address_writes address)

-- the writes of initialization after those of the receive ring
abbrev behind_ring : Config → List Write
behind_ring config =
    (write_at 0x2818 (config.rx - 1) ∷ []) ++ (receive_writes config.promiscuous (names_vlans config.vlans)
    ++ (ring_setup_writes 0x3800 (16 * config.rx) (16 * config.tx) ++ (transmit_writes ++ mask_writes)))

-- From the reset to the writes of the receive ring

record AgainAtRest {B : Type 0} (bus : Ghosts B) (config : Config) (again : DriverState) (address groups vlans : List ℕ) (start : Settings)
    (b3 b7 : B) (past : Past) : Type 0 where
  ring : HasReceiveRing config.rx (bus.world b7)
  rests : RestsWith again (bus.world b7)
  no_frame : NoFrame past
  reports : bus.happened b3 b7 past
  only : past.accesses ≡ quiet_writes (setup_of config address) (configured_counts config) groups vlans
  set : AreSet (bus.world b3) (bus.world b7) past
  behind : settings_of (bus.world b7).adapter ≡ settings_after_all
      (writes_before_rings config address groups vlans ++ ring_setup_writes 0x2800 0 (16 * config.rx)) start
  link : HasLink (bus.world b3) → HasLink (bus.world b7)

rests-same : (d : DriverState) (a b : World) → b.memory ≡ a.memory → IsAtRest b → RestsWith d a → RestsWith d b
rests-same d a b memory rest rests = record {
  rest = rest;
  lies = subst (λ (bytes : List ℕ). size_of d.layout ≤ length bytes) (sym memory) rests.lies;
  one_owner = rests.one_owner;
  stand = subst (λ (bytes : List ℕ). All (Stands d.layout bytes) d.handed_out) (sym memory) rests.stand;
}

set-of : {B : Type 0} (bus : Ghosts B) (old new : B) (writes : List Write) (sets : Sets bus writes old new)
    → AreSet (bus.world old) (bus.world new) sets.past
set-of bus old new writes sets =
    sets.settings ∙ ap (λ (list : List Write). settings_after_all list (settings_of (bus.world old).adapter)) (sym sets.writes_are)

again-at-rest : {B : Type 0} (bus : Ghosts B) → IntervalsJoin bus → (old b3 b4 b5 b6 b7 : B) (config : Config) (named : List (List ℕ))
    (address : List ℕ) (size : ℕ) (again : DriverState) → IsValidIn config size → 16 * config.rx ≤ length (bus.world b3).memory
    → settings_of (bus.world b3).adapter ≡ settings_after_all reset_writes (settings_of (bus.world old).adapter)
    → RestsWith again (bus.world b3)
    → (s4 : SetsOnly bus (allocation_writes config.rxa) b3 b4) → (s5 : SetsOnly bus enable_link_writes b4 b5)
    → (HasLink (bus.world b4) → HasLink (bus.world b5))
    → (s6 : SetsFilter bus named (vlans_of config.vlans) address b5 b6)
    → (s7 : SetsAtRest bus (ring_setup_writes 0x2800 0 (16 * config.rx)) (HasNewRings config.rx) (HasReceiveRing config.rx) b6 b7)
    → AgainAtRest bus config again address s6.groups s6.vlans (settings_of (bus.world old).adapter) b3 b7
    (joined s4.sets.past (joined s5.sets.past (joined s6.sets.past s7.sets.past)))
again-at-rest bus joins old b3 b4 b5 b6 b7 config named address size again had room set3 rests s4 s5 link5 s6 s7 =
    let world = bus.world in
    let start = settings_of (world old).adapter in
    let groups = s6.groups in
    let vlans = s6.vlans in
    let tables = tables_of address groups vlans in
    let after : List Write → Settings → Settings = settings_after_all in
    let all = rings-last config address groups vlans s6.has_groups.words s6.has_vlans.words in
    let behind = all-right IsAside reset_writes (allocation_writes config.rxa ++ (enable_link_writes ++ tables)) all in
    let aside = all-right IsAside enable_link_writes tables (all-right IsAside (allocation_writes config.rxa)
    (enable_link_writes ++ tables) behind) in
    let p4 = s4.sets.past in
    let p5 = s5.sets.past in
    let p6 = s6.sets.past in
    let p7 = s7.sets.past in
    let r4 = rests-sets bus b3 b4 (allocation_writes config.rxa) again s4.sets (allocation-aside config.rxa) rests in
    let r5 = rests-sets bus b4 b5 enable_link_writes again s5.sets link-aside r4 in
    let r6 = rests-sets bus b5 b6 tables again s6.sets aside r5 in
    let f4 = (s4.sets.rests (allocation-aside config.rxa) rests.rest).1 in
    let f5 = (s5.sets.rests link-aside r4.rest).1 in
    let f6 = (s6.sets.rests aside r5.rest).1 in
    let memory6 : (world b6).memory ≡ (world b3).memory =
    s6.sets.memory aside r5.rest ∙ s5.sets.memory link-aside r4.rest ∙ s4.sets.memory (allocation-aside config.rxa) rests.rest in
    let set6 : settings_of (world b6).adapter
    ≡ after tables (after enable_link_writes (after (allocation_writes config.rxa) (after reset_writes start))) =
    s6.sets.settings ∙ ap (after tables) (s5.sets.settings ∙ ap (after enable_link_writes)
    (s4.sets.settings ∙ ap (after (allocation_writes config.rxa)) set3)) in
    let whole6 : settings_of (world b6).adapter ≡ after (writes_before_rings config address groups vlans) start =
    set6
    ∙ sym (settings-append enable_link_writes tables (after (allocation_writes config.rxa) (after reset_writes start)))
    ∙ sym (settings-append (allocation_writes config.rxa) (enable_link_writes ++ tables) (after reset_writes start))
    ∙ sym (settings-append reset_writes (allocation_writes config.rxa ++ (enable_link_writes ++ tables)) start) in
    let whole = whole6 ∙ before-rings config address groups vlans size start had s6.address_is s6.has_groups.words
    s6.has_vlans.words s6.groups_are s6.vlans_are in
    let rest6 = r6.rest in
    let rings : HasNewRings config.rx (world b6) = record {
      rest = rest6;
      receives = new-whole (world b6).adapter.receive_ring (ap (λ (settings : Settings). settings.receive_ring) whole) rest6.rings.receive;
      transmits =
          new-whole (world b6).adapter.transmit_ring (ap (λ (settings : Settings). settings.transmit_ring) whole) rest6.rings.transmit;
      room = omega (arith, room, ap length memory6);
    } in
    let ring = s7.after_is rings in
    let phy = link-first config address groups vlans s6.has_groups.words s6.has_vlans.words in
    let last = joined p6 p7 in
    record {
      ring = ring;
      rests = rests-same again (world b6) (world b7) (s7.memory rings) ring.rest r6;
      no_frame = no-frames p4 (joined p5 last) f4 (no-frames p5 last f5 (no-frames p6 p7 f6 (s7.no_frame rings)));
      reports = joins b3 b4 b7 p4 (joined p5 last) s4.sets.reports (joins b4 b5 b7 p5 last s5.sets.reports
          (joins b5 b6 b7 p6 p7 s6.sets.reports s7.sets.reports));
      only = rw (s4.only, s5.only, s6.only, s7.only) refl;
      set = settings_join (world b3) (world b4) (world b7) p4 (joined p5 last) (set-of bus b3 b4 (allocation_writes config.rxa) s4.sets)
          (settings_join (world b4) (world b5) (world b7) p5 last (set-of bus b4 b5 enable_link_writes s5.sets)
          (settings_join (world b5) (world b6) (world b7) p6 p7 (set-of bus b5 b6 tables s6.sets)
          (set-of bus b6 b7 (ring_setup_writes 0x2800 0 (16 * config.rx)) s7.sets)));
      behind = s7.sets.settings ∙ ap (after (ring_setup_writes 0x2800 0 (16 * config.rx))) whole6
          ∙ sym (settings-append (writes_before_rings config address groups vlans) (ring_setup_writes 0x2800 0 (16 * config.rx)) start);
      link = λ up.
          s7.sets.link (all-left LeavesPhy (ring_setup_writes 0x2800 0 (16 * config.rx)) (behind_ring config) phy.1)
          (s6.sets.link phy.0 (link5 (s4.sets.link (allocation-leaves_phy config.rxa) up)));
    }

-- The whole reset

-- the registers of the filter after all writes of the initialization
abbrev filter_set : Config → (address groups vlans : List ℕ) → FilterRegisters
filter_set config address groups vlans = record (filter_written address groups vlans)
    { rctl = receive_control config.promiscuous (names_vlans config.vlans) }

set-by : (a b : World) (past : Past) (writes : List Write) → AreSet a b past → writes_in past.accesses ≡ writes
    → settings_of b.adapter ≡ settings_after_all writes (settings_of a.adapter)
set-by a b past writes set are = set ∙ ap (λ (list : List Write). settings_after_all list (settings_of a.adapter)) are

pub resets-all : {B : Type 0} (bus : Ghosts B) → IntervalsJoin bus → (up : Bool) (b0 b2 b3 b4 b5 b6 b7 b8 b9 b10 b11 : B)
    (config : Config) (address : List ℕ) (size v : ℕ) (e0 : DriverState) (pool numbers left : List ℕ)
    → (let e2 = missed_added v e0 in
    let again = reset_driver pool e2 in
    let e8 = with_owners again numbers [] left e0.handed_out in
    e0.layout ≡ configured_counts config → e0.setup ≡ setup_of config address → IsValidIn config size
    → 16 * config.rx ≤ length (bus.world b3).memory
    → (stop : Ran bus up (only (stop_accesses v)) (at b0 e0) (at b2 e2))
    → IsOff (bus.world b2) → (bus.world b2).adapter.missed_packets ≡ 0
    → (resets : ResetsDriver bus up pool e2 b2 b3)
    → settings_of (bus.world b3).adapter ≡ settings_after_all reset_writes (settings_of (bus.world b2).adapter)
    → SetsOnly bus (allocation_writes config.rxa) b3 b4 → SetsOnly bus enable_link_writes b4 b5
    → (HasLink (bus.world b4) → HasLink (bus.world b5))
    → SetsFilter bus e0.groups (vlans_of config.vlans) address b5 b6
    → SetsAtRest bus (ring_setup_writes 0x2800 0 (16 * config.rx)) (HasNewRings config.rx) (HasReceiveRing config.rx) b6 b7
    → HaveSameNumbers pool (numbers ++ left) → IsRefilled e8
    → (ReadyWith false again (bus.world b7)
    → Ran bus false (only (free_accesses (configured_counts config) numbers)) (at b7 again) (at b8 e8))
    → (ReadyWith false e8 (bus.world b8) → frames_held e8.oldest_receive (bus.world b8) ≡ [] → IsOff (bus.world b8)
    → LetsFramesIn bus (receive_writes config.promiscuous (names_vlans config.vlans)) e8 b8 b9)
    → (ReadyWith false e8 (bus.world b9) → (bus.world b9).adapter.transmit_ring ≡ new_ring
    → Ran bus true (only (transmit_accesses (configured_counts config))) (at b9 e8) (at b10 e8))
    → (Ready e8 (bus.world b10) → EnablesCauses bus 0xD1 e8 b10 b11)
    → Resets bus up (at b0 e0) (at b11 e8))
resets-all bus joins up b0 b2 b3 b4 b5 b6 b7 b8 b9 b10 b11 config address size v e0 pool numbers left
    layout setup had room stop off zero resets set3 s4 s5 link5 s6 s7 same refilled offers enables transmits masking =
    let world = bus.world in
    let counts = configured_counts config in
    let e2 = missed_added v e0 in
    let again = reset_driver pool e2 in
    let e8 = with_owners again numbers [] left e0.handed_out in
    let k = length numbers in
    let ready =
    again-at-rest bus joins b2 b3 b4 b5 b6 b7 config e0.groups address size again had room set3 resets.rests s4 s5 link5 s6 s7 in
    let begin7 = drivers_begin_again e2 pool (world b7) (subst IsAllowed (sym layout) had.counts) ready.rests
    (subst (λ (c : Counts). HasReceiveRing c.rx (world b7)) (sym layout) ready.ring) in
    let first = offers begin7.0 in
    let writes8 = ap writes_in first.only ∙ free-writes counts numbers in
    let still = quiet_stays again e8 (world b7) (world b8) first.past first.goes first.follows.set first.follows.off
    (subst (All LeavesReceiver) (sym writes8) (tail-leaves_receiver k)) begin7.1 in
    let new8 = new_transmit_ring_stays e8 (world b7) (world b8) first.past first.goes.flows.ready first.follows.set
    (subst (All LeavesTransmitRing) (sym writes8) (tail-leaves_transmits k)) ready.ring.transmits in
    let lets = enables first.goes.flows.ready still.0.none_held still.0.off in
    let new9 = new-still config.promiscuous (names_vlans config.vlans) e8 (world b8) (world b9) lets.ran.past lets.ran.only
    lets.ran.goes.flows.ready lets.ran.follows.set new8 in
    let sends = transmits lets.ran.goes.flows.ready new9 in
    let masks = masking sends.goes.flows.ready in
    let out9 = append-empty lets.ran.past.put (frames_to_send (world b9))
    (lets.ran.goes.flows.sends ∙ append-nil (frames_to_send (world b8)) ∙ still.0.none_to_send) in
    let none9 : NoFrame lets.ran.past =
    record { none_put = out9.0; none_stored = lets.no_arrival.none_stored; none_missed = lets.no_arrival.none_missed } in
    let at_rest = joined s4.sets.past (joined s5.sets.past (joined s6.sets.past s7.sets.past)) in
    let last_two = joined first.past lets.ran.past in
    let quiet = joined at_rest last_two in
    let no_frame = no-frames at_rest last_two ready.no_frame (no-frames first.past lets.ran.past still.1 none9) in
    let later = joined sends.past masks.accessed.past in
    let out10 = append-empty sends.past.put (frames_to_send (world b10))
    (sends.goes.flows.sends ∙ append-nil (frames_to_send (world b9)) ∙ out9.1) in
    let out11 = append-empty masks.accessed.past.put (frames_to_send masks.middle)
    (masks.goes.flows.sends ∙ append-nil (frames_to_send (world b10)) ∙ out10.1) in
    let held10 : frames_held e8.oldest_receive (world b10) ≡ sends.past.stored =
    sends.goes.flows.holds ∙ ap (λ (frames : List (List ℕ)). frames ++ sends.past.stored) lets.none_held in
    let held11 : frames_held e8.oldest_receive (world b11) ≡ later.stored =
    masks.enabled.frames.held ∙ masks.goes.flows.holds
    ∙ ap (λ (frames : List (List ℕ)). frames ++ masks.accessed.past.stored) held10 in
    let first_off =
    resets.first.follows.off off (subst (All LeavesReceiver) (sym (ap writes_in resets.first.only)) reset-leaves_receiver) in
    let zero_last : resets.last.adapter.missed_packets ≡ 0 =
    omega (arith, resets.goes.flows.misses.at_most, first_off.none_missed, zero) in
    let sum2 = misses-stay e2 again resets.last (world b7) refl refl (ready.ring.rest.none_missed ∙ sym zero_last) in
    let sum3 = sums-join (driver_in again (world b7)) (driver_in e8 (world b8)) (driver_in e8 (world b9)) first.past lets.ran.past
    first.goes.flows.misses lets.ran.goes.flows.misses in
    let sum4 = misses-stay e8 e8 masks.middle (world b11) refl refl masks.enabled.missed in
    let sum5 = sums-join (driver_in e8 (world b9)) (driver_in e8 (world b10)) (driver_in e8 (world b11)) sends.past
    (joined masks.accessed.past nothing) sends.goes.flows.misses
    (sums-join (driver_in e8 (world b10)) (driver_in e8 masks.middle) (driver_in e8 (world b11)) masks.accessed.past nothing
    masks.goes.flows.misses sum4) in
    let from7 = sums-join (driver_in again (world b7)) (driver_in e8 (world b9)) (driver_in e8 (world b11)) last_two
    (joined sends.past (joined masks.accessed.past nothing)) sum3 sum5 in
    let from_last = sums-join (driver_in e2 resets.last) (driver_in again (world b7)) (driver_in e8 (world b11)) nothing
    (joined last_two (joined sends.past (joined masks.accessed.past nothing))) sum2 from7 in
    let from_stop = sums-join (driver_in e2 (world b2)) (driver_in e2 resets.last) (driver_in e8 (world b11)) resets.first.past
    (joined nothing (joined last_two (joined sends.past (joined masks.accessed.past nothing)))) resets.goes.flows.misses from_last in
    let all_sums = sums-join (driver_in e0 (world b0)) (driver_in e2 (world b2)) (driver_in e8 (world b11)) stop.past
    (joined resets.first.past (joined nothing (joined last_two (joined sends.past (joined masks.accessed.past nothing)))))
    stop.goes.flows.misses from_stop in
    let sums = sums-as (driver_in e0 (world b0)) (driver_in e8 (world b11)) _
    (joined stop.past (joined resets.first.past (joined resets.later.past (joined quiet later))))
    (omega (arith, resets.no_frame.none_missed, ready.no_frame.none_missed)) all_sums in
    let fits : k < 65536 = omega
    (arith, first.goes.flows.ready.driver_is.room, ap (λ (c : Counts). c.rx) layout, had.counts.rx.most) in
    let set11 = settings-all config k address s6.groups s6.vlans (settings_of (world b2).adapter) (settings_of (world b7).adapter)
    (settings_of (world b8).adapter) (settings_of (world b9).adapter) (settings_of (world b10).adapter) (settings_of (world b11).adapter)
    ready.behind (set-by (world b7) (world b8) first.past (write_at 0x2818 k ∷ []) first.follows.set writes8)
    (set-by (world b8) (world b9) lets.ran.past (receive_writes config.promiscuous (names_vlans config.vlans)) lets.ran.follows.set
    (ap writes_in lets.ran.only))
    (set-by (world b9) (world b10) sends.past (ring_setup_writes 0x3800 (16 * config.rx) (16 * config.tx) ++ transmit_writes)
    sends.follows.set
    (ap writes_in sends.only ∙ transmit-writes counts))
    (set-by (world b10) (world b11) masks.accessed.past mask_writes masks.accessed.follows.set (ap writes_in masks.accessed.only))
    ∙ all-set config address s6.groups s6.vlans size k (settings_of (world b2).adapter) had fits s6.address_is s6.has_groups.words
    s6.has_vlans.words s6.groups_are s6.vlans_are in
    let filter : (world b11).adapter.filter ≡ filter_set config address s6.groups s6.vlans =
    ap (λ (settings : Settings). settings.filter) set11 in
    let phy = (link-first config address s6.groups s6.vlans s6.has_groups.words s6.has_vlans.words).1 in
    let ring_first = ring_setup_writes 0x2800 0 (16 * config.rx) in
    let tail_first = write_at 0x2818 (config.rx - 1) ∷ [] in
    let receives = receive_writes config.promiscuous (names_vlans config.vlans) in
    let ring_last = ring_setup_writes 0x3800 (16 * config.rx) (16 * config.tx) in
    let masked = transmit_writes ++ mask_writes in
    let from2 = all-right LeavesPhy ring_first (tail_first ++ (receives ++ (ring_last ++ masked))) phy in
    let from3 = all-right LeavesPhy tail_first (receives ++ (ring_last ++ masked)) from2 in
    let from4 = subst (All LeavesPhy) (sym (append_assoc ring_last transmit_writes mask_writes))
    (all-right LeavesPhy receives (ring_last ++ masked) from3) in
    let link9 : HasLink (world b3) → HasLink (world b9) = λ up_first.
    lets.ran.follows.link
    (subst (All LeavesPhy) (sym (ap writes_in lets.ran.only)) (all-left LeavesPhy receives (ring_last ++ masked) from3))
    (first.follows.link (subst (All LeavesPhy) (sym writes8) (tail-leaves_phy k)) (ready.link up_first)) in
    record {
      stopped = at b2 e2;
      stops = record { misses = v; counted = refl; ran = stop };
      middle = b3;
      pool = pool;
      resets = resets;
      groups = s6.groups;
      vlans = s6.vlans;
      tables = subst (λ (s : DriverSetup). AreFilterTables e0.groups s.vlans s6.groups s6.vlans) (sym setup)
          (record { has_groups = s6.has_groups; has_vlans = s6.has_vlans; groups_are = s6.groups_are; vlans_are = s6.vlans_are });
      numbers = numbers;
      enabled = b9;
      quiet = record {
        past = quiet;
        reports = joins b3 b7 b9 at_rest last_two ready.reports (joins b7 b8 b9 first.past lets.ran.past first.reports lets.ran.reports);
        only = joined-only at_rest last_two _ _ ready.only (joined-only first.past lets.ran.past _ _ first.only lets.ran.only)
            ∙ ap (λ (s : DriverSetup). quiet_accesses s counts s6.groups s6.vlans numbers) (sym setup)
            ∙ ap (λ (c : Counts). quiet_accesses e0.setup c s6.groups s6.vlans numbers) (sym layout);
        follows = record {
          set = settings_join (world b3) (world b7) (world b9) at_rest last_two ready.set
              (settings_join (world b7) (world b8) (world b9) first.past lets.ran.past first.follows.set lets.ran.follows.set);
          off = λ off_there leaves. record { none_stored = no_frame.none_stored; none_missed = no_frame.none_missed };
          link = λ leaves. link9;
        };
      };
      no_frame = no_frame;
      later = record {
        past = later;
        reports = joins b9 b10 b11 sends.past masks.accessed.past sends.reports masks.accessed.reports;
        only = joined-only sends.past masks.accessed.past _ _ sends.only masks.accessed.only ∙ ap later_accesses (sym layout);
        follows = follows-join (world b9) (world b10) (world b11) sends.past masks.accessed.past sends.follows masks.accessed.follows;
      };
      restarted = record {
        ready = masks.ready;
        work = masks.work (asked-still e8 (world b9) (world b10) sends.past sends.goes
            (inl (ap (λ (slots : List ℕ). frames_of (map (piece_in (world b9).memory) slots)) lets.none_finished)));
        held = held11;
        none_put = rw (out10.0, out11.0) refl;
        none_to_send = masks.enabled.frames.to_send ∙ out11.1;
      };
      again = record { driver = refl; same = same; refilled = refilled };
      set_up = subst (λ (s : DriverSetup). HasSetup s (world b11).adapter) (sym setup) (record {
        filter = subst (FilterHasSetup (setup_of config address)) (sym filter) (record {
          receive_control_is = refl;
          vlans = s6.has_vlans;
          words = s6.vlans_are;
          address_low = refl;
          address_high = refl;
          vlan_type = refl;
        });
        allocation = ap (λ (settings : Settings). settings.receive_kilobytes) set11;
      });
      table = record {
        numbers = subst (λ (f : FilterRegisters). HasNumbers f.mta (numbers_of_groups e0.groups)) (sym filter) s6.has_groups;
        words = subst (λ (f : FilterRegisters). AreWords f.mta) (sym filter) s6.groups_are;
      };
      sums = sums;
      link = λ up_first.
          let l2 = stop.follows.link (subst (All LeavesPhy) (sym (ap writes_in stop.only)) off-leaves_phy) up_first in
          let l9 = link9 (resets.link l2) in
          let l10 = sends.follows.link (subst (All LeavesPhy) (sym (ap writes_in sends.only ∙ transmit-writes counts))
          (all-left LeavesPhy (ring_last ++ transmit_writes) mask_writes from4)) l9 in
          masks.accessed.follows.link (subst (All LeavesPhy) (sym (ap writes_in masks.accessed.only))
          (all-right LeavesPhy (ring_last ++ transmit_writes) mask_writes from4)) l10;
    }
