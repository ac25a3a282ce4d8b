-- What may happen in two consecutive intervals may happen in the joined interval, and an interval may be empty.
use Rattle.std.proofs.Common.{◌≡◌, ◌⊎◌, ◌+◌, ℕ, zero, suc, List, [], ◌++◌, refl, sym, ap, subst, ◌∙◌, inl, inr, append_assoc}
use Rattle.std.proofs.Common.{arith, length, length-append}
use Rattle.std.proofs.lemmas.List.{append-nil}
use Rattle.std.specs.Fn.{iterate}
use Rattle.std.specs.List.{All}
use Rattle.eeprom.specs.Eerd as eeprom
use Rattle.registers.specs.Bits.{HasBit}
use Rattle.registers.specs.Places.{rxt0}
use Rattle.rx_engine.specs.Pieces.{IsPart, Piece}
use Rattle.rx_filter.specs.Registers.{FilterRegisters}
use Rattle.adapter_model.specs.declared.ring.RingRegisters.{RingRegisters}
use Rattle.adapter_model.specs.Slots.{finished, written_back_slots}
use Rattle.adapter_model.specs.HostFrames.{finished_pieces, frames_held, frames_to_send}
use Rattle.bus.specs.Law.{Between, Happens, OnlyHeadMoves, PutsInOrder, Steady, StoresInOrder, management_of, phy_ticked}
use Rattle.bus.specs.Pasts.{Past, joined, nothing}
use Rattle.adapter_model.specs.World.{World}
use Rattle.descriptors.specs.Frames.{IsLegal}
use Rattle.descriptors.specs.Ring.{HasValidIndices}
use Rattle.adapter_model.specs.Rings.{ring_of}
use Rattle.std.proofs.lemmas.List.Elements.{All-append}
use Rattle.bus.proofs.Lists.{all-none}
use Rattle.bus.proofs.EngineRegisters.{no-arrivals, steady_moves}
use Rattle.bus.specs.declared.event.Access.{Access}

pub iterate-add : {A : Type 0} (h : A → A) (m n : ℕ) (x : A) → iterate h (m + n) x ≡ iterate h n (iterate h m x)
iterate-add h zero n x = let none : 0 + n ≡ n = omega arith in ap (λ (k : ℕ). iterate h k x) none
iterate-add h (suc m) n x =
    let moved : suc m + n ≡ suc (m + n) = omega arith in
    ap (λ (k : ℕ). iterate h k x) moved ∙ iterate-add h m n (h x)

-- The facts about registers (`Steady`).

head_trans : (a b c : RingRegisters) → OnlyHeadMoves a b → OnlyHeadMoves b c → OnlyHeadMoves a c
head_trans a b c one two = record {
  others = two.others ∙ ap (λ (ring : RingRegisters). let moved : RingRegisters = record ring { head = c.head } in moved) one.others;
  head = by_case one.head two.head;
}
  where
    by_case : (b.head ≡ a.head) ⊎ HasValidIndices (ring_of b) → (c.head ≡ b.head) ⊎ HasValidIndices (ring_of c)
        → (c.head ≡ a.head) ⊎ HasValidIndices (ring_of c)
    by_case first (inr slot) = inr slot
    by_case (inl first) (inl later) = inl (later ∙ first)
    by_case (inr slot) (inl later) =
        let same : c ≡ b = two.others ∙ ap (λ (head : ℕ). let ring : RingRegisters = record b { head = head } in ring) later in
        inr (subst (λ (ring : RingRegisters). HasValidIndices (ring_of ring)) (sym same) slot)

pub steady_trans : (a b c : World) (first later : Past) → Steady a b first → Steady b c later → Steady a c (joined first later)
steady_trans a b c first later one two = record {
  size = two.size ∙ one.size;
  image = two.image ∙ one.image;
  registers = record {
    mask = two.registers.mask ∙ one.registers.mask;
    filter = two.registers.filter ∙ one.registers.filter;
    device_control = two.registers.device_control ∙ one.registers.device_control;
    transmit_control = two.registers.transmit_control ∙ one.registers.transmit_control;
    allocation = two.registers.allocation ∙ one.registers.allocation;
  };
  causes = λ place set. two.causes place (one.causes place set);
  receive_ring = head_trans a.adapter.receive_ring b.adapter.receive_ring c.adapter.receive_ring one.receive_ring two.receive_ring;
  transmit_ring = head_trans a.adapter.transmit_ring b.adapter.transmit_ring c.adapter.transmit_ring one.transmit_ring two.transmit_ring;
  arrivals = record {
    missed = omega (arith, one.arrivals.missed, two.arrivals.missed);
    off = λ off.
        let before = one.arrivals.off off in
        let after = two.arrivals.off (subst (λ (filter : FilterRegisters). ¬ (HasBit filter.rctl 1)) (sym one.registers.filter) off) in
        (ap (λ (frames : List (List ℕ)). frames ++ later.stored) before.0 ∙ after.0, omega (arith, before.1, after.1));
    legal = All-append IsLegal first.stored later.stored one.arrivals.legal two.arrivals.legal;
  };
  ticks = record {
    eerd = two.ticks.eerd
        ∙ ap (λ (image : List ℕ). iterate (eeprom.after_tick image) later.eeprom_ticks b.adapter.eerd) one.image
        ∙ ap (iterate (eeprom.after_tick a.adapter.image) later.eeprom_ticks) one.ticks.eerd
        ∙ sym (iterate-add (eeprom.after_tick a.adapter.image) first.eeprom_ticks later.eeprom_ticks a.adapter.eerd);
    management = two.ticks.management
        ∙ ap (iterate phy_ticked later.phy_ticks) one.ticks.management
        ∙ sym (iterate-add phy_ticked first.phy_ticks later.phy_ticks (management_of a.adapter));
  };
}

-- The facts about frames (`Between`).

-- If a frame ends in the new pieces of either interval, RXT0 is recorded after both, because recorded causes remain recorded.
told-joined : (first later : List Piece) (b c : World) → All IsPart first ⊎ HasBit b.adapter.causes.recorded rxt0
    → All IsPart later ⊎ HasBit c.adapter.causes.recorded rxt0
    → ((place : ℕ) → HasBit b.adapter.causes.recorded place → HasBit c.adapter.causes.recorded place)
    → All IsPart (first ++ later) ⊎ HasBit c.adapter.causes.recorded rxt0
told-joined first later b c (inr set) two keeps = inr (keeps rxt0 set)
told-joined first later b c (inl parts) (inr set) keeps = inr set
told-joined first later b c (inl parts) (inl still) keeps = inl (All-append IsPart first later parts still)

puts_trans : (p : ℕ) (a b c : World) (first later : Past) → PutsInOrder p a b first → PutsInOrder p b c later
    → PutsInOrder p a c (joined first later)
puts_trans p a b c first later one two = record {
  sends = append_assoc first.put later.put (frames_to_send c) ∙ ap (λ (behind : List (List ℕ)). first.put ++ behind) two.sends ∙ one.sends;
  reported = one.reported ++ two.reported;
  written = two.written ∙ ap (λ (slots : List ℕ). slots ++ two.reported) one.written
      ∙ append_assoc (written_back_slots p a) one.reported two.reported;
  each_reported = omega
      (arith, one.each_reported, two.each_reported, length-append one.reported two.reported, length-append first.put later.put);
}

stores_trans : (o : ℕ) (a b c : World) (first later : Past) → Steady b c later → StoresInOrder o a b first → StoresInOrder o b c later
    → StoresInOrder o a c (joined first later)
stores_trans o a b c first later steady one two = record {
  holds = two.holds ∙ ap (λ (frames : List (List ℕ)). frames ++ later.stored) one.holds
      ∙ append_assoc (frames_held o a) first.stored later.stored;
  more = one.more ++ two.more;
  done = two.done ∙ ap (λ (slots : List ℕ). slots ++ two.more) one.done ∙ append_assoc (finished o a) one.more two.more;
  pieces = one.pieces ++ two.pieces;
  grown = two.grown ∙ ap (λ (list : List Piece). list ++ two.pieces) one.grown
      ∙ append_assoc (finished_pieces o a) one.pieces two.pieces;
  told = told-joined one.pieces two.pieces b c one.told two.told steady.causes;
}

pub between_trans : (o p : ℕ) (a b c : World) (first later : Past) → Steady a b first → Steady b c later → Between o p a b first
    → Between o p b c later → Between o p a c (joined first later)
between_trans o p a b c first later earlier steady one two = record {
  transmit = puts_trans p a b c first later one.transmit two.transmit;
  receive = stores_trans o a b c first later steady one.receive two.receive;
  fits = λ size fit. two.fits size (one.fits size fit);
  whole = λ size are. two.whole size (one.whole size are);
  untouched = λ area apart. two.untouched area (one.foreign area apart) ∙ one.untouched area apart;
  foreign = λ area apart. two.foreign area (one.foreign area apart);
  runs = λ can. two.runs (one.runs can);
  sound = two.sound;
}

-- No frame is put on the wire, and no slot is written back.
pub puts-none : (p : ℕ) (a b : World) (past : Past) → past.put ≡ [] → frames_to_send b ≡ frames_to_send a
    → written_back_slots p b ≡ written_back_slots p a → PutsInOrder p a b past
puts-none p a b past none same written = record {
  sends = ap (λ (put : List (List ℕ)). put ++ frames_to_send b) none ∙ same;
  reported = [];
  written = written ∙ sym (append-nil (written_back_slots p a));
  each_reported = sym (ap length none);
}

-- No receive slot is finished.
pub finishes-none : (o : ℕ) (a b : World) (past : Past) → frames_held o b ≡ frames_held o a ++ past.stored
    → finished o b ≡ finished o a → finished_pieces o b ≡ finished_pieces o a → StoresInOrder o a b past
finishes-none o a b past holds done grown = record {
  holds = holds;
  more = [];
  done = done ∙ sym (append-nil (finished o a));
  pieces = [];
  grown = grown ∙ sym (append-nil (finished_pieces o a));
  told = inl (all-none IsPart);
}

-- Both facts together (`Happens`).

pub happens_trans : (a b c : World) (first later : Past) → Happens a b first → Happens b c later → Happens a c (joined first later)
happens_trans a b c first later one two = record {
  steady = steady_trans a b c first later one.steady two.steady;
  between = λ o p sound.
      let before = one.between o p sound in
      between_trans o p a b c first later one.steady two.steady before (two.between o p before.sound);
}

-- Only accesses happened.
pub happens_only : (a : World) (accesses : List Access) → Happens a a (record nothing { accesses = accesses })
happens_only a accesses =
    let past : Past = record nothing { accesses = accesses } in
    record {
      steady = steady_moves a a past refl (λ place set. set) (inl refl) (inl refl) (no-arrivals a a past refl refl refl)
          (record { eerd = refl; management = refl });
      between = λ o p sound. record {
        transmit = puts-none p a a past refl refl refl;
        receive = finishes-none o a a past (sym (append-nil (frames_held o a))) refl refl;
        fits = λ size fit. fit;
        whole = λ size are. are;
        untouched = λ area apart. refl;
        foreign = λ area apart. apart;
        runs = λ can. can;
        sound = sound;
      };
    }

pub happens_none : (a : World) → Happens a a nothing
happens_none a = happens_only a []
