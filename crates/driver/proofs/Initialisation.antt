-- An adapter is initialized, part by part.
use Rattle.std.proofs.Common.{Bool, IsTrue, Option, None, Some, is_some, true, false, ◌≡◌, ◌≤◌, ◌<◌, ◌+◌, ◌-◌, ◌*◌, ◌++◌, ◌∷◌, [], ℕ, List}
use Rattle.std.proofs.Common.{length, map, inl, refl, sym, ap, subst, ◌∙◌, append_assoc, arith}
use Rattle.std.specs.List.{All}
use Rattle.std.specs.Prelude.{◌≢◌, Err, IfErr, Result}
use Rattle.std.specs.Result.{IsErrAnd}
use Rattle.std.proofs.lemmas.Result.{err_from_is_err_and}
use Rattle.std.proofs.lemmas.List.{append-nil}
use Rattle.std.proofs.lemmas.List.Elements.{All-cons}
use Rattle.arrayvec.specs.declared.array_vec.ArrayVec.{ArrayVec}
use Rattle.registers.specs.Counting.{greatest_count}
use Rattle.dma_memory.specs.Layout.{Counts, receive_buffer_bytes}
use Rattle.descriptors.specs.RingLaws.{place}
use Rattle.rx_filter.specs.Addresses.{IsAddress}
use Rattle.eeprom.specs.Image.{HasRightSum, address_bytes}
use Rattle.rx_engine.specs.Pieces.{frames_of}
use Rattle.adapter.specs.HostFrames.{frames_held, frames_to_send, piece_in}
use Rattle.adapter.specs.Rings.{new_ring}
use Rattle.adapter.specs.Slots.{finished}
use Rattle.adapter.specs.TableLaws.{register_at-there}
use Rattle.adapter.specs.KnownRing.{KnowsRing}
use Rattle.adapter.specs.World.{World, transmit_ring}
use Rattle.adapter.specs.model_types.ring.RingRegisters.{RingRegisters}
use Rattle.adapter.specs.model_types.register.Register.TheVariants.{Rctl, Receive}
use Rattle.adapter.specs.model_types.register.RingRegister.TheVariants.{Tail}
use Rattle.adapter.specs.Link.{HasLink, KeepsLink, LeavesPhy}
use Rattle.adapter.specs.Pasts.{Past, joined, nothing}
use Rattle.adapter.specs.AdaptersAtRest.{NoFrame}
use Rattle.adapter.specs.Settings.{AreSet, IsNotReceiveControl, WhileOff, LeavesReceiver, Settings, Write, settings_after_all, settings_of}
use Rattle.adapter.specs.Settings.{writes_in}
use Rattle.adapter.specs.bus_types.bus.Bus.{Ghosts}
use Rattle.adapter.specs.bus_types.event.Access.{Access}
use Rattle.adapter.proofs.Lists.{all-left, all-none, all-right, append-empty}
use Rattle.adapter.proofs.Settings.{settings-append, writes-append}
use Rattle.adapter.proofs.WaitingRings.{holds-none}
use Rattle.adapter.proofs.DriverAccesses.{ran_by-join}
use Rattle.adapter.specs.Calls.{GoesTo, Ran, at, driver_did, driver_in, only, stores_from}
use Rattle.adapter.specs.Beginnings.{new_driver}
use Rattle.adapter.specs.DriverState.{DriverSetup, DriverState, transmit_tail}
use Rattle.adapter.specs.ReadyDrivers.{ReadyWith}
use Rattle.bring_up.specs.ClearedDescriptors.{clears_from}
use Rattle.bring_up.specs.Configuration.{IsValidIn, configured_counts, vlans_of}
use Rattle.bring_up.specs.ConfiguredAdapters.{HasSetup, IsConfigured, names_vlans, setup_of, writes_before_rings}
use Rattle.bring_up.specs.DriverSteps.{LeavesDriver, LetsFramesIn, SetsTransmitRing, EnablesCauses, accesses_of}
use Rattle.bring_up.specs.NoFrames.{IsNotTransmitRing, HasNoFrames, LeavesTransmitRing}
use Rattle.bring_up.specs.Device.{IsBeforeAccess, IsErrorOf, IsFound}
use Rattle.bring_up.specs.declared.init_error.InitError.{InitError}
use Rattle.bring_up.specs.declared.init_error.InitError.TheVariants.{Checksum, EepromTimeout, Memory, NoLink, PhyTimeout}
use Rattle.bring_up.specs.declared.init_error.InitError.TheVariants as errors
use Rattle.bring_up.specs.FilterSetting.{SetsFilter}
use Rattle.bring_up.specs.FilterTables.{address_writes, table_writes}
use Rattle.bring_up.specs.RestingRings.{HasNewRings, HasReceiveRing, SetsAtRest}
use Rattle.bring_up.specs.SettingSteps.{IsAside, RecordsNone, RecordsNoCause}
use Rattle.bring_up.proofs.CausesLeft.{joined-causes, mask-causes, receive-causes, tail-causes, transmit-causes}
use Rattle.bring_up.proofs.WritesOf.{link-first, rings-last}
use Rattle.bring_up.proofs.ConfiguredSettings.{before-rings, writes-configure, writes_offering}
use Rattle.bring_up.specs.RingRegisters.{receive_control, receive_writes, ring_setup_writes, transmit_writes}
use Rattle.bring_up.specs.WrittenRegisters.{allocation_writes, enable_link_writes, mask_writes, reset_writes, write_at}
use Rattle.bring_up.specs.declared.config.Config.{Config}
use Rattle.bring_up.proofs.DriverAccesses.{asked-still}
use Rattle.bring_up.proofs.Steps.{IntervalsJoin}
use Rattle.bring_up.proofs.NoFrames.{clears-write_none, new_transmit_ring_stays, quiet_stays, stores-write_none}
use Rattle.bring_up.specs.Groups.{AreNamedOnce}
use Rattle.bring_up.proofs.Numbers.{same-numbers}
use Rattle.driver.specs.Initialisation.{HasFoundRing, Initialises, IsErrorOfInit, RefusesInit, first_accesses, transmit_accesses}
use Rattle.driver.proofs.FirstSlots.{head-first, offering}

-- The register writes of each part

pub first-writes : (counts : Counts) (numbers : List ℕ) → writes_in (first_accesses counts numbers) ≡ write_at 0x2818 (counts.rx - 1) ∷ []
first-writes counts numbers =
    writes-append (stores_from counts 0 numbers) _
    ∙ ap (λ (writes : List Write). writes ++ write_at 0x2818 (counts.rx - 1) ∷ []) (stores-write_none counts 0 numbers)

pub writes-of : (writes : List Write) → writes_in (accesses_of writes) ≡ writes
writes-of [] = refl
writes-of (write ∷ later) = ap (λ (rest : List Write). write ∷ rest) (writes-of later)

pub transmit-writes : (counts : Counts)
    → writes_in (transmit_accesses counts) ≡ ring_setup_writes 0x3800 (16 * counts.rx) (16 * counts.tx) ++ transmit_writes
transmit-writes counts =
    let writes = ring_setup_writes 0x3800 (16 * counts.rx) (16 * counts.tx) ++ transmit_writes in
    writes-append (clears_from (16 * counts.rx) counts.tx) (accesses_of writes)
    ∙ ap (λ (first : List Write). first ++ writes_in (accesses_of writes)) (clears-write_none (16 * counts.rx) counts.tx)
    ∙ writes-of writes

-- RDT is neither RCTL nor a register of the transmit ring, and RCTL isn't a register of this ring

leaves-one : (P : Write → Type 0) (write : Write) → P write → All P (write ∷ [])
leaves-one P write leaves = All-cons P write [] leaves (all-none P)

pub tail-leaves_receiver : (slot : ℕ) → All LeavesReceiver (write_at 0x2818 slot ∷ [])
tail-leaves_receiver slot =
    leaves-one LeavesReceiver (write_at 0x2818 slot) (subst IsNotReceiveControl (sym (register_at-there (Receive Tail) tt)) tt)

pub tail-leaves_transmits : (slot : ℕ) → All LeavesTransmitRing (write_at 0x2818 slot ∷ [])
tail-leaves_transmits slot =
    leaves-one LeavesTransmitRing (write_at 0x2818 slot) (subst IsNotTransmitRing (sym (register_at-there (Receive Tail) tt)) tt)

pub control-leaves_transmits : (control : ℕ) → All LeavesTransmitRing (write_at 0x0100 control ∷ [])
control-leaves_transmits control =
    leaves-one LeavesTransmitRing (write_at 0x0100 control) (subst IsNotTransmitRing (sym (register_at-there Rctl tt)) tt)

-- The transmit side is set up

none-leaves_transmits : (accesses : List Access) (past : Past) → past.accesses ≡ accesses → writes_in accesses ≡ []
    → All LeavesTransmitRing (writes_in past.accesses)
none-leaves_transmits accesses past only none = subst (All LeavesTransmitRing) (sym (ap writes_in only ∙ none))
    (all-none LeavesTransmitRing)

pub sets-transmitter : {B : Type 0} (bus : Ghosts B) → IntervalsJoin bus
    → (b0 b1 b2 b3 : B) (d : DriverState) (counts : Counts) → d.layout ≡ counts → d.oldest_transmit ≡ 0 → d.sending ≡ 0 → 0 < counts.tx
    → (bus.world b0).adapter.transmit_ring ≡ new_ring
    → Ran bus false (only (clears_from (16 * counts.rx) counts.tx)) (at b0 d) (at b1 d)
    → (ReadyWith false d (bus.world b1) → (bus.world b1).adapter.transmit_ring ≡ new_ring
    → SetsTransmitRing bus (ring_setup_writes 0x3800 (16 * counts.rx) (16 * counts.tx)) d b1 b2)
    → (ReadyWith false d (bus.world b2) → d.oldest_transmit < d.layout.tx
    → KnowsRing (transmit_ring (bus.world b2)) (16 * d.layout.rx) d.layout.tx (transmit_tail d)
    → LeavesDriver bus transmit_writes true d b2 b3)
    → Ran bus true (only (transmit_accesses counts)) (at b0 d) (at b3 d)
sets-transmitter bus joins b0 b1 b2 b3 d counts is oldest none some new clearing rings enables =
    let n1 = new_transmit_ring_stays d (bus.world b0) (bus.world b1) clearing.past clearing.goes.flows.ready clearing.follows.set
    (none-leaves_transmits (clears_from (16 * counts.rx) counts.tx) clearing.past clearing.only
    (clears-write_none (16 * counts.rx) counts.tx)) new in
    let sets = rings clearing.goes.flows.ready n1 in
    let tail : 0 ≡ transmit_tail d =
    ap (λ (o : ℕ). place d.layout.tx o 0) (sym oldest) ∙ ap (place d.layout.tx d.oldest_transmit) (sym none) in
    let below : d.oldest_transmit < d.layout.tx = omega (arith, oldest, some, ap (λ (c : Counts). c.tx) is) in
    let runs = enables sets.ran.goes.flows.ready below
    (subst (KnowsRing (transmit_ring (bus.world b2)) (16 * d.layout.rx) d.layout.tx) tail sets.knows) in
    ran_by-join bus joins (clears_from (16 * counts.rx) counts.tx) _ b0 b1 b3 d d d [] [] [] [] clearing
    (ran_by-join bus joins _ (accesses_of transmit_writes) b1 b2 b3 d d d [] [] [] [] sets.ran runs)

-- The device is found, and its receive ring is set up

pub new-whole : (ring : RingRegisters) → record ring { head = 0 } ≡ new_ring → ring.head ≡ ring.tail → ring ≡ new_ring
new-whole ring start idle =
    let tail : ring.tail ≡ 0 = ap (λ (registers : RingRegisters). registers.tail) start in
    ap (λ (registers : RingRegisters). let moved : RingRegisters = record registers { head = ring.head } in moved) start
    ∙ ap (λ (head : ℕ). let moved : RingRegisters = record new_ring { head = head } in moved) (idle ∙ tail)

filtered : (config : Config) (address groups vlans : List ℕ) (settings : Settings)
    → settings_after_all (table_writes 0x5200 groups ++ (table_writes 0x5600 vlans ++ address_writes address))
    (settings_after_all (reset_writes ++ (allocation_writes config.rxa ++ enable_link_writes)) settings)
    ≡ settings_after_all (writes_before_rings config address groups vlans) settings
filtered config address groups vlans settings =
    let tables = table_writes 0x5200 groups ++ (table_writes 0x5600 vlans ++ address_writes address) in
    let device = reset_writes ++ (allocation_writes config.rxa ++ enable_link_writes) in
    sym (settings-append device tables settings)
    ∙ ap (λ (writes : List Write). settings_after_all writes settings)
    (append_assoc reset_writes (allocation_writes config.rxa ++ enable_link_writes) tables
    ∙ ap (λ (writes : List Write). reset_writes ++ writes) (append_assoc (allocation_writes config.rxa) enable_link_writes tables))

-- the writes of initialization after those that set up the receive ring
abbrev behind-receive : Config → List Write
behind-receive config =
    (write_at 0x2818 (config.rx - 1) ∷ []) ++ (receive_writes config.promiscuous (names_vlans config.vlans)
    ++ (ring_setup_writes 0x3800 (16 * config.rx) (16 * config.tx) ++ (transmit_writes ++ mask_writes)))

pub finds-ring : {B : Type 0} (bus : Ghosts B) (b0 b1 b2 b3 : B)
    (config : Config) (size : ℕ) (image : List ℕ) → IsValidIn config size → 16 * config.rx ≤ length (bus.world b2).memory
    → IsFound bus config.rxa b0 b1 image → SetsFilter bus config.groups.items (vlans_of config.vlans) (address_bytes image) b1 b2
    → SetsAtRest bus (ring_setup_writes 0x2800 0 (16 * config.rx)) (HasNewRings config.rx) (HasReceiveRing config.rx) b2 b3
    → HasFoundRing bus config (address_bytes image) b0 b3
finds-ring bus b0 b1 b2 b3 config size image had room found filter ring =
    let old = settings_of (bus.world b0).adapter in
    let groups = filter.groups in
    let vlans = filter.vlans in
    let address = address_bytes image in
    let words = address_bytes (bus.world b0).adapter.image in
    let same : address ≡ words = ap address_bytes found.image_is in
    let receive = ring_setup_writes 0x2800 0 (16 * config.rx) in
    let set : settings_of (bus.world b2).adapter ≡ settings_after_all (writes_before_rings config address groups vlans) old =
    filter.sets.settings
    ∙ ap (settings_after_all (table_writes 0x5200 groups ++ (table_writes 0x5600 vlans ++ address_writes address))) found.settings
    ∙ filtered config address groups vlans old in
    let whole = set ∙ before-rings config address groups vlans size old had filter.address_is filter.has_groups.words
    filter.has_vlans.words filter.groups_are filter.vlans_are in
    let all = rings-last config address groups vlans filter.has_groups.words filter.has_vlans.words in
    let tables = table_writes 0x5200 groups ++ (table_writes 0x5600 vlans ++ address_writes address) in
    let behind = all-right IsAside reset_writes (allocation_writes config.rxa ++ (enable_link_writes ++ tables)) all in
    let aside = all-right IsAside enable_link_writes tables (all-right IsAside (allocation_writes config.rxa)
    (enable_link_writes ++ tables) behind) in
    let rest = (filter.sets.rests aside found.rests).0 in
    let phy = link-first config address groups vlans filter.has_groups.words filter.has_vlans.words in
    let rings : HasNewRings config.rx (bus.world b2) = record {
      rest = rest;
      receives = new-whole (bus.world b2).adapter.receive_ring (ap (λ (settings : Settings). settings.receive_ring) whole)
          rest.rings.receive;
      transmits = new-whole (bus.world b2).adapter.transmit_ring (ap (λ (settings : Settings). settings.transmit_ring) whole)
          rest.rings.transmit;
      room = room;
    } in
    record {
      sum = subst HasRightSum found.image_is found.sum_is_right;
      address = subst IsAddress same filter.address_is;
      found_is = same;
      ring = ring.after_is rings;
      up = ring.sets.link (all-left LeavesPhy receive (behind-receive config) phy.1) (filter.sets.link phy.0 found.up);
      groups = groups;
      vlans = vlans;
      tables = record {
        has_groups = filter.has_groups;
        has_vlans = filter.has_vlans;
        groups_are = filter.groups_are;
        vlans_are = filter.vlans_are;
      };
      settings =
          ring.sets.settings ∙ ap (settings_after_all receive) set
          ∙ sym (settings-append (writes_before_rings config address groups vlans) receive old)
          ∙ ap (λ (bytes : List ℕ). settings_after_all (writes_before_rings config bytes groups vlans ++ receive) old) same;
    }

-- The whole initialization

-- The settings after the last part are those after all writes of the initialization, in order.
pub settings-all : (config : Config) (slots : ℕ) (address groups vlans : List ℕ) (s0 s1 s2 s3 s4 s5 : Settings)
    → s1 ≡ settings_after_all (writes_before_rings config address groups vlans ++ ring_setup_writes 0x2800 0 (16 * config.rx)) s0
    → s2 ≡ settings_after_all (write_at 0x2818 slots ∷ []) s1
    → s3 ≡ settings_after_all (receive_writes config.promiscuous (names_vlans config.vlans)) s2
    → s4 ≡ settings_after_all (ring_setup_writes 0x3800 (16 * config.rx) (16 * config.tx) ++ transmit_writes) s3
    → s5 ≡ settings_after_all mask_writes s4
    → s5 ≡ settings_after_all (writes_before_rings config address groups vlans ++ writes_offering config slots) s0
settings-all config slots address groups vlans s0 s1 s2 s3 s4 s5 one two three four five =
    let before = writes_before_rings config address groups vlans in
    let receive = ring_setup_writes 0x2800 0 (16 * config.rx) in
    let tail = write_at 0x2818 slots ∷ [] in
    let passing = receive_writes config.promiscuous (names_vlans config.vlans) in
    let ring = ring_setup_writes 0x3800 (16 * config.rx) (16 * config.tx) in
    let after : List Write → Settings → Settings = settings_after_all in
    five
    ∙ ap (after mask_writes) four
    ∙ sym (settings-append (ring ++ transmit_writes) mask_writes s3)
    ∙ ap (after ((ring ++ transmit_writes) ++ mask_writes)) three
    ∙ sym (settings-append passing ((ring ++ transmit_writes) ++ mask_writes) s2)
    ∙ ap (after (passing ++ ((ring ++ transmit_writes) ++ mask_writes))) two
    ∙ sym (settings-append tail (passing ++ ((ring ++ transmit_writes) ++ mask_writes)) s1)
    ∙ ap (after (tail ++ (passing ++ ((ring ++ transmit_writes) ++ mask_writes)))) one
    ∙ sym (settings-append (before ++ receive) (tail ++ (passing ++ ((ring ++ transmit_writes) ++ mask_writes))) s0)
    ∙ ap (λ (writes : List Write). after writes s0)
    (append_assoc before receive (tail ++ (passing ++ ((ring ++ transmit_writes) ++ mask_writes)))
    ∙ ap (λ (writes : List Write). before ++ (receive ++ (tail ++ (passing ++ writes)))) (append_assoc ring transmit_writes mask_writes))

-- After the receive slots are offered, no frame is held or to be sent, and the transmit ring still has its reset values.
pub stays-quiet : (counts : Counts) (numbers : List ℕ) (d d' : DriverState) (a b : World) (past : Past)
    → past.accesses ≡ first_accesses counts numbers
    → GoesTo false (driver_in d a) (driver_in d' b) (driver_did [] []) past → AreSet a b past → WhileOff a past → HasNoFrames d a
    → a.adapter.transmit_ring ≡ new_ring
    → HasNoFrames d' b × ((b.adapter.transmit_ring ≡ new_ring) × NoFrame past)
stays-quiet counts numbers d d' a b past only goes set off quiet new =
    let slot = counts.rx - 1 in
    let writes = sym (ap writes_in only ∙ first-writes counts numbers) in
    let still = quiet_stays d d' a b past goes set off (subst (All LeavesReceiver) writes (tail-leaves_receiver slot)) quiet in (
      still.0,
      (
        new_transmit_ring_stays d' a b past goes.flows.ready set
            (subst (All LeavesTransmitRing) writes (tail-leaves_transmits slot)) new,
        still.1,
      ),
    )

pub new-still : (promiscuous by_vlan : Bool) (d : DriverState) (a b : World) (past : Past)
    → past.accesses ≡ accesses_of (receive_writes promiscuous by_vlan)
    → ReadyWith false d b → AreSet a b past → a.adapter.transmit_ring ≡ new_ring → b.adapter.transmit_ring ≡ new_ring
new-still promiscuous by_vlan d a b past only ready set new =
    new_transmit_ring_stays d a b past ready set
    (subst (All LeavesTransmitRing) (sym (ap writes_in only)) (control-leaves_transmits (receive_control promiscuous by_vlan))) new

-- The frames of two consecutive intervals, from the write of RCTL up to the write of IMS. `a`, `b` and `c` are the worlds before, between
-- and after them.
record Counts-from (d : DriverState) (a b c : World) (first later : Past) : Type 0 where
  none_put : first.put ++ later.put ≡ []
  none_to_send : frames_to_send c ≡ []
  held : frames_held d.oldest_receive c ≡ first.stored ++ later.stored
  missed_most : c.adapter.missed_packets ≤ first.missed + later.missed
  missed : IsTrue d.exact → c.adapter.missed_packets < greatest_count → c.adapter.missed_packets ≡ first.missed + later.missed

counts-from : {up1 up2 : Bool} (d : DriverState) (a b c : World) (first later : Past)
    → GoesTo up1 (driver_in d a) (driver_in d b) (driver_did [] []) first
    → GoesTo up2 (driver_in d b) (driver_in d c) (driver_did [] []) later
    → frames_to_send a ≡ [] → frames_held d.oldest_receive a ≡ [] → a.adapter.missed_packets ≡ 0 → Counts-from d a b c first later
counts-from d a b c first later one two none_to_send none_held none_missed =
    let out1 = append-empty first.put (frames_to_send b) (one.flows.sends ∙ append-nil (frames_to_send a) ∙ none_to_send) in
    let out2 = append-empty later.put (frames_to_send c) (two.flows.sends ∙ append-nil (frames_to_send b) ∙ out1.1) in
    record {
      none_put = rw (out1.0, out2.0) refl;
      none_to_send = out2.1;
      held =
          two.flows.holds ∙ ap (λ (frames : List (List ℕ)). frames ++ later.stored)
          (one.flows.holds ∙ ap (λ (frames : List (List ℕ)). frames ++ first.stored) none_held);
      missed_most = omega (arith, one.flows.misses.at_most, two.flows.misses.at_most, none_missed);
      missed = λ exact below_greatest.
          let behind = two.flows.misses.exactly exact below_greatest in
          let before = one.flows.misses.exactly behind.exact behind.below_greatest in
          omega (arith, before.sum, behind.sum, none_missed);
    }

none-finished : (d : DriverState) (world : World) → ReadyWith true d world → frames_held d.oldest_receive world ≡ []
    → finished d.oldest_receive world ≡ []
none-finished d world ready none =
    (holds-none receive_buffer_bytes d.oldest_receive d.oldest_transmit world ready.law.sound (omega arith)
    ready.law.whole none).none_finished

-- The writes after those that set up the receive ring don't write CTRL or MDIC, so the link remains up.
link-up : (config : Config) (address groups vlans : List ℕ) → length groups ≡ 128 → length vlans ≡ 128
    → (w1 w2 w3 w4 w5 : World) (p2 p3 p4 p5 : Past)
    → writes_in p2.accesses ≡ write_at 0x2818 (config.rx - 1) ∷ []
    → writes_in p3.accesses ≡ receive_writes config.promiscuous (names_vlans config.vlans)
    → writes_in p4.accesses ≡ ring_setup_writes 0x3800 (16 * config.rx) (16 * config.tx) ++ transmit_writes → writes_in p5.accesses
    ≡ mask_writes
    → KeepsLink w1 w2 p2 → KeepsLink w2 w3 p3 → KeepsLink w3 w4 p4 → KeepsLink w4 w5 p5 → HasLink w1 → HasLink w5
link-up config address groups vlans groups_whole vlans_whole w1 w2 w3 w4 w5 p2 p3 p4 p5 two three four five keeps2 keeps3 keeps4 keeps5 up =
    let tail = write_at 0x2818 (config.rx - 1) ∷ [] in
    let receives = receive_writes config.promiscuous (names_vlans config.vlans) in
    let ring = ring_setup_writes 0x3800 (16 * config.rx) (16 * config.tx) in
    let masked = transmit_writes ++ mask_writes in
    let all = (link-first config address groups vlans groups_whole vlans_whole).1 in
    let from2 = all-right LeavesPhy (ring_setup_writes 0x2800 0 (16 * config.rx)) (behind-receive config) all in
    let from3 = all-right LeavesPhy tail (receives ++ (ring ++ masked)) from2 in
    let from4 = subst (All LeavesPhy) (sym (append_assoc ring transmit_writes mask_writes))
    (all-right LeavesPhy receives (ring ++ masked) from3) in
    keeps5 (subst (All LeavesPhy) (sym five) (all-right LeavesPhy (ring ++ transmit_writes) mask_writes from4))
    (keeps4 (subst (All LeavesPhy) (sym four) (all-left LeavesPhy (ring ++ transmit_writes) mask_writes from4))
    (keeps3 (subst (All LeavesPhy) (sym three) (all-left LeavesPhy receives (ring ++ masked) from3))
    (keeps2 (subst (All LeavesPhy) (sym two) (all-left LeavesPhy tail (receives ++ (ring ++ masked)) from2)) up)))

pub initialises : {B : Type 0} (bus : Ghosts B) → IntervalsJoin bus
    → (b0 b1 b2 b3 b4 b5 : B) (config : Config) (size : ℕ) (address : List ℕ) (groups : List (List ℕ)) (pool numbers : List ℕ)
    (d : DriverState) (past : Past) → IsValidIn config size
    → bus.happened b0 b1 past → HasFoundRing bus config address b0 b1 → RecordsNoCause past → length numbers + 1 ≡ config.rx
    → d ≡ offering (configured_counts config) (setup_of config address) groups pool numbers d.pool → AreNamedOnce config.groups.items groups
    → (first : Ran bus false (only (first_accesses (configured_counts config) numbers)) (at b1 (new_driver
    (configured_counts config) (setup_of config address) groups pool)) (at b2 d))
    → HasNoFrames d (bus.world b2) → NoFrame first.past
    → LetsFramesIn bus (receive_writes config.promiscuous (names_vlans config.vlans)) d b2 b3
    → Ran bus true (only (transmit_accesses (configured_counts config))) (at b3 d) (at b4 d) → EnablesCauses bus 0xD1 d b4 b5
    → Initialises bus config b0 b5 d
initialises bus joins b0 b1 b2 b3 b4 b5 config size address groups pool numbers d past had told found no_cause count is named first quiet
    no_frame lets sends masks =
    let counts = configured_counts config in
    let device = bus.world b0 in
    let words = address_bytes device.adapter.image in
    let later = joined sends.past masks.accessed.past in
    let out3 = append-empty lets.ran.past.put (frames_to_send (bus.world b3))
    (lets.ran.goes.flows.sends ∙ append-nil (frames_to_send (bus.world b2)) ∙ quiet.none_to_send) in
    let new_missed : d.missed ≡ 0 = ap (λ (s : DriverState). s.missed) is in
    let none_missed : (bus.world b3).adapter.missed_packets ≡ 0 =
    omega (
      arith,
      first.goes.flows.misses.at_most,
      lets.ran.goes.flows.misses.at_most,
      no_frame.none_missed,
      lets.no_arrival.none_missed,
      found.ring.rest.none_missed,
      new_missed,
    ) in
    let from = counts-from d (bus.world b3) (bus.world b4) masks.middle sends.past masks.accessed.past sends.goes masks.goes out3.1
    lets.none_held none_missed in
    let held : frames_held d.oldest_receive (bus.world b5) ≡ later.stored = masks.enabled.frames.held ∙ from.held in
    let exact : IsTrue d.exact = ap (λ (s : DriverState). s.exact) is in
    let all =
    settings-all config (config.rx - 1) words found.groups found.vlans (settings_of device.adapter) (settings_of (bus.world b1).adapter)
    (settings_of (bus.world b2).adapter)
    (settings_of (bus.world b3).adapter) (settings_of (bus.world b4).adapter) (settings_of (bus.world b5).adapter) found.settings
    (first.follows.set ∙ ap (λ (writes : List Write). settings_after_all writes (settings_of (bus.world b1).adapter))
    (ap writes_in first.only ∙ first-writes counts numbers))
    (lets.ran.follows.set ∙ ap (λ (writes : List Write). settings_after_all writes (settings_of (bus.world b2).adapter))
    (ap writes_in lets.ran.only))
    (sends.follows.set ∙ ap (λ (writes : List Write). settings_after_all writes (settings_of (bus.world b3).adapter))
    (ap writes_in sends.only ∙ transmit-writes counts))
    (masks.accessed.follows.set ∙ ap (λ (writes : List Write). settings_after_all writes (settings_of (bus.world b4).adapter))
    (ap writes_in masks.accessed.only)) in
    let tables = found.tables in
    let set = writes-configure config words found.groups found.vlans size (settings_of device.adapter) had found.address tables.groups_are
    tables.vlans_are tables.has_groups tables.has_vlans in
    let configured = subst (IsConfigured config words) (sym all) set.0 in
    let start = joined past (joined first.past lets.ran.past) in
    let setup : d.setup ≡ setup_of config words = ap (λ (s : DriverState). s.setup) is ∙ ap (setup_of config) found.found_is in
    record {
      middle = b3;
      first = start;
      later = later;
      reports_first = joins b0 b1 b3 past (joined first.past lets.ran.past) told
          (joins b1 b2 b3 first.past lets.ran.past first.reports lets.ran.reports);
      reports_later = joins b3 b4 b5 sends.past masks.accessed.past sends.reports masks.accessed.reports;
      accesses = record {
        ends = record {
          earlier = past.accesses;
          whole =
              rw (first.only, lets.ran.only) refl
              ∙ ap (λ (slots : List ℕ). past.accesses ++
              (first_accesses counts slots ++ accesses_of (receive_writes config.promiscuous (names_vlans config.vlans))))
              (sym (ap (λ (s : DriverState). s.buffers) is))
              ∙ ap (λ (c : Counts). past.accesses ++
              (first_accesses c d.buffers ++ accesses_of (receive_writes config.promiscuous (names_vlans config.vlans))))
              (sym (ap (λ (s : DriverState). s.layout) is));
        };
        rest = rw (sends.only, masks.accessed.only, is) refl;
      };
      no_cause = joined-causes start later
          (joined-causes past (joined first.past lets.ran.past) no_cause
          (joined-causes first.past lets.ran.past
          (subst (All RecordsNone) (sym (ap writes_in first.only ∙ first-writes counts numbers)) (tail-causes (config.rx - 1)))
          (subst (All RecordsNone) (sym (ap writes_in lets.ran.only))
          (receive-causes config.promiscuous (names_vlans config.vlans)))))
          (joined-causes sends.past masks.accessed.past
          (subst (All RecordsNone) (sym (ap writes_in sends.only ∙ transmit-writes counts))
          (transmit-causes (16 * config.rx) (16 * config.tx)))
          (subst (All RecordsNone) (sym (ap writes_in masks.accessed.only)) mask-causes));
      started = record {
        ready = masks.ready;
        work = masks.work (asked-still d (bus.world b3) (bus.world b4) sends.past sends.goes
            (inl (ap (λ (slots : List ℕ). frames_of (map (piece_in (bus.world b3).memory) slots))
            lets.none_finished)));
        frames = record {
          held = held;
          none_put = from.none_put;
          none_to_send = masks.enabled.frames.to_send ∙ from.none_to_send;
          none_finished = λ none. none-finished d (bus.world b5) masks.ready (held ∙ none);
          head = λ none.
              head-first d (bus.world b5) masks.ready (ap (λ (s : DriverState). s.oldest_receive) is)
              (ap (λ (s : DriverState). length s.buffers + 1) is ∙ count ∙ sym (ap (λ (s : DriverState). s.layout.rx) is)) (held ∙ none);
          missed_most = omega (arith, from.missed_most, masks.enabled.missed);
          missed = λ below_greatest. masks.enabled.missed ∙ from.missed exact (omega (arith, below_greatest, masks.enabled.missed));
        };
      };
      adapter = record {
        sum = found.sum;
        address = found.address;
        image = ap (λ (settings : Settings). settings.image) all ∙ set.1;
        configured = configured;
        up = link-up config words found.groups found.vlans tables.has_groups.words tables.has_vlans.words (bus.world b1) (bus.world b2)
            (bus.world b3) (bus.world b4) (bus.world b5) first.past lets.ran.past sends.past masks.accessed.past
            (ap writes_in first.only ∙ first-writes counts numbers) (ap writes_in lets.ran.only)
            (ap writes_in sends.only ∙ transmit-writes counts) (ap writes_in masks.accessed.only)
            first.follows.link lets.ran.follows.link sends.follows.link masks.accessed.follows.link found.up;
      };
      setup = setup;
      set_up = subst (λ (s : DriverSetup). HasSetup s (bus.world b5).adapter) (sym setup)
          (record { filter = configured.filter.setup; allocation = configured.allocation });
      table = record {
        numbers = same-numbers (bus.world b5).adapter.filter.mta config.groups.items d.groups
            (subst (AreNamedOnce config.groups.items) (sym (ap (λ (s : DriverState). s.groups) is)) named) configured.filter.groups;
        words = configured.filter.group_words;
      };
    }

pub vlans-named : (vlans : Option (ArrayVec ℕ 32 (Unit {0}))) → is_some vlans ≡ names_vlans vlans
vlans-named None = refl
vlans-named (Some list) = refl

-- `?` returns the error of a call

pub passed : {T : Type 0} (P : InitError → Type 0) {from : InitError} (result : Result T InitError) → IsErrAnd result (λ y. y ≡ from)
    → P from → IfErr result P
passed P result told holds =
    let err = err_from_is_err_and result told in
    subst (λ r. IfErr r P) (sym (err.1 ∙ ap Err err.2)) holds

pub config-told : {T : Type 0} {from : InitError} (result : Result T InitError) → IsErrAnd result (λ y. y ≡ from)
    → from ≡ errors.Config → result ≡ Err errors.Config
config-told result told is = let err = err_from_is_err_and result told in err.1 ∙ ap Err (err.2 ∙ is)

pub not-config : {T : Type 0} {from : InitError} (result : Result T InitError) → IsErrAnd result (λ y. y ≡ from)
    → from ≢ errors.Config → result ≢ Err errors.Config
not-config result told other is =
    let holds : IfErr result (λ error. error ≢ errors.Config) = passed (λ error. error ≢ errors.Config) result told other in
    (subst (λ r. IfErr r (λ error. error ≢ errors.Config)) is holds) refl

-- The error of a device that was not found

pub why-found : (error : InitError) (image : List ℕ) (accesses : ℕ) → IsErrorOf error image accesses
    → IsErrorOfInit error image accesses
why-found Memory image accesses why = absurd why
why-found errors.Config image accesses why = absurd why
why-found EepromTimeout image accesses why = why
why-found Checksum image accesses why = why
why-found PhyTimeout image accesses why = why
why-found NoLink image accesses why = why

-- Initialization is refused before any access

before-access : {B : Type 0} {bus : Ghosts B} {b : B} (error : InitError) → bus.happened b b nothing → IsBeforeAccess error
    → RefusesInit bus b b error
before-access Memory stays before = record { past = nothing; reports = stays; why = refl; why_lively = λ lively. tt }
before-access errors.Config stays before = record { past = nothing; reports = stays; why = refl; why_lively = λ lively. tt }
before-access EepromTimeout stays before = absurd before
before-access Checksum stays before = absurd before
before-access PhyTimeout stays before = absurd before
before-access NoLink stays before = absurd before

pub refused : {T B : Type 0} (bus : Ghosts B) (b : B) {from error : InitError} (result : Result T InitError) → bus.happened b b nothing
    → IsErrAnd result (λ y. y ≡ from) → from ≡ error → IsBeforeAccess error → IfErr result (RefusesInit bus b b)
refused {T} {B} bus b {from} {error} result stays told is before =
    let err = err_from_is_err_and result told in
    subst (λ (r : Result T InitError). IfErr r (RefusesInit bus b b)) (sym (err.1 ∙ ap Err (err.2 ∙ is)))
    (before-access error stays before)
