-- Two consecutive intervals of a driver's run join. An interval in which no recorded cause is cleared forgets no work.
use Rattle.std.proofs.Common.{◌≡◌, ◌≤◌, ◌<◌, ◌^◌, ◌+◌, ◌++◌, [], ⊎_elim}
use Rattle.std.proofs.Common.{Bool, IsTrue, ℕ, List, length, inl, inr, subst, sym, ap}
use Rattle.std.proofs.Common.{◌∙◌, append_assoc, length-append, arith}
use Rattle.std.proofs.lemmas.Bool.{cases_lt}
use Rattle.std.proofs.lemmas.List.{append-nil, nil_from_length}
use Rattle.registers.specs.Bits.{HasBit}
use Rattle.registers.specs.Counting.{greatest_count}
use Rattle.adapter_model.specs.HostFrames.{frames_held, frames_to_send}
use Rattle.adapter_model.specs.World.{World}
use Rattle.bus.specs.Pasts.{Past, joined, nothing}
use Rattle.bus.specs.DriverState.{DriverState}
use Rattle.bus.specs.Calls.{FlowsTo, GoesTo, HasNoForgottenWork, SumsMisses, driver_did, driver_in, frames_ended}
use Rattle.bus.specs.TrailLaws.{same_past}

-- If the driver's sum doesn't change and MPC counts the frames missed, `SumsMisses` holds.
pub misses-counted : (d d' : DriverState) (a b : World) (past : Past) → d'.missed ≡ d.missed → d'.exact ≡ d.exact
    → (a.adapter.missed_packets + past.missed ≤ greatest_count → b.adapter.missed_packets ≡ a.adapter.missed_packets + past.missed)
    → b.adapter.missed_packets ≤ a.adapter.missed_packets + past.missed
    → (b.adapter.missed_packets < greatest_count → b.adapter.missed_packets ≡ a.adapter.missed_packets + past.missed)
    → SumsMisses (driver_in d a) (driver_in d' b) past
misses-counted d d' a b past missed exact counts most below_greatest = record {
  sum = omega (arith, missed);
  counted = λ fits low. let same = counts fits in omega (arith, missed, same);
  sticks = λ fits much. let same = counts fits in omega (arith, missed, same, much);
  at_most = omega (arith, missed, most);
  exactly = λ is below. let same = below_greatest below in record
      { exact = subst IsTrue exact is; below_greatest = omega (arith, same, below); sum = omega (arith, missed, same) };
  stays_exact = λ is below low. subst IsTrue (sym exact) is;
  small = λ was below. subst IsTrue (sym exact) (was (omega (arith, missed, below)));
}

pub misses-stay : (d d' : DriverState) (a b : World) → d'.missed ≡ d.missed → d'.exact ≡ d.exact
    → b.adapter.missed_packets ≡ a.adapter.missed_packets → SumsMisses (driver_in d a) (driver_in d' b) nothing
misses-stay d d' a b missed exact packets =
    misses-counted d d' a b nothing missed exact (λ fits. omega (arith, packets)) (omega (arith, packets))
    (λ below. omega (arith, packets))

pub flows_join : {first_up up : Bool} (d1 d2 d3 : DriverState) (a b c : World) (t1 t2 g1 g2 : List (List ℕ)) (first later : Past)
    → FlowsTo first_up (driver_in d1 a) (driver_in d2 b) (driver_did t1 g1) first
    → FlowsTo up (driver_in d2 b) (driver_in d3 c) (driver_did t2 g2) later
    → FlowsTo up (driver_in d1 a) (driver_in d3 c) (driver_did (t1 ++ t2) (g1 ++ g2)) (joined first later)
flows_join d1 d2 d3 a b c t1 t2 g1 g2 first later one two = record {
  ready = two.ready;
  layout = two.layout ∙ one.layout;
  sends =
      append_assoc first.put later.put (frames_to_send c)
      ∙ ap (λ (frames : List (List ℕ)). first.put ++ frames) two.sends
      ∙ sym (append_assoc first.put (frames_to_send b) g2)
      ∙ ap (λ (frames : List (List ℕ)). frames ++ g2) one.sends
      ∙ append_assoc (frames_to_send a) g1 g2;
  holds =
      append_assoc t1 t2 (frames_held d3.oldest_receive c)
      ∙ ap (λ (frames : List (List ℕ)). t1 ++ frames) two.holds
      ∙ sym (append_assoc t1 (frames_held d2.oldest_receive b) later.stored)
      ∙ ap (λ (frames : List (List ℕ)). frames ++ later.stored) one.holds
      ∙ append_assoc (frames_held d1.oldest_receive a) first.stored later.stored;
  least = omega (arith, one.least, two.least, length-append t1 t2);
  frees = omega (arith, one.frees, two.frees, length-append first.put later.put, length-append g1 g2);
  mask = two.mask ∙ one.mask;
  misses = record {
    sum = omega (arith, one.misses.sum, two.misses.sum);
    counted = λ fits low.
        let before = one.misses.counted (omega (arith, fits)) (omega (arith, low)) in
        let behind = two.misses.counted (omega (arith, before, one.misses.sum, fits)) (omega (arith, before, low)) in
        omega (arith, before, behind);
    sticks = λ fits much.
        let behind = two.misses.sticks (omega (arith, one.misses.at_most, one.misses.sum, fits)) in
        ⊎_elim
        (λ (low : d1.missed + a.adapter.missed_packets + first.missed < 2 ^ 64).
        let before = one.misses.counted (omega (arith, fits)) low in
        behind (omega (arith, before, much)))
        (λ (high : 2 ^ 64 ≤ d1.missed + a.adapter.missed_packets + first.missed).
        let before = one.misses.sticks (omega (arith, fits)) (omega (arith, high)) in
        behind (omega (arith, before)))
        (cases_lt (d1.missed + a.adapter.missed_packets + first.missed) (2 ^ 64));
    at_most = omega (arith, one.misses.at_most, two.misses.at_most);
    exactly = λ exact below_greatest.
        let behind = two.misses.exactly exact below_greatest in
        let before = one.misses.exactly behind.exact behind.below_greatest in
        record { exact = before.exact; below_greatest = before.below_greatest; sum = omega (arith, before.sum, behind.sum) };
    stays_exact = λ exact below low.
        let before = one.misses.stays_exact exact (omega (arith, below)) (omega (arith, low)) in
        two.misses.stays_exact before (omega (arith, one.misses.at_most, one.misses.sum, below)) (omega (arith, one.misses.at_most, low));
    small = λ was. two.misses.small (one.misses.small was);
  };
}

pub goes_join : {first_up up : Bool} (d1 d2 d3 : DriverState) (a b c : World) (t1 t2 g1 g2 : List (List ℕ)) (first later : Past)
    → GoesTo first_up (driver_in d1 a) (driver_in d2 b) (driver_did t1 g1) first
    → GoesTo up (driver_in d2 b) (driver_in d3 c) (driver_did t2 g2) later
    → GoesTo up (driver_in d1 a) (driver_in d3 c) (driver_did (t1 ++ t2) (g1 ++ g2)) (joined first later)
goes_join d1 d2 d3 a b c t1 t2 g1 g2 first later one two = record {
  flows = flows_join d1 d2 d3 a b c t1 t2 g1 g2 first later one.flows two.flows;
  causes = λ place has. two.causes place (one.causes place has);
  recorded =
      ⊎_elim
      (λ (same : length (frames_ended (driver_in d2 b)) ≡ length t2 + length (frames_ended (driver_in d3 c))).
      ⊎_elim
      (λ (before : length (frames_ended (driver_in d1 a)) ≡ length t1 + length (frames_ended (driver_in d2 b))). inl
      (omega (arith, before, same, length-append t1 t2)))
      (λ (bit : HasBit b.adapter.causes.recorded 7). inr (two.causes 7 bit))
      one.recorded)
      (λ (bit : HasBit c.adapter.causes.recorded 7). inr bit)
      two.recorded;
}

pub joined-nothing : (past : Past) → joined past nothing ≡ past
joined-nothing past =
    same_past _ _ _ _ _ _ _ _ _ _ _ _ (append-nil past.put) (append-nil past.stored) (omega arith) (omega arith) (omega arith)
    (append-nil past.accesses)

pub work_kept : {up : Bool} (d d' : DriverState) (a b : World) (taken accepted : List (List ℕ)) (past : Past)
    → GoesTo up (driver_in d a) (driver_in d' b) (driver_did taken accepted) past → HasNoForgottenWork d a → HasNoForgottenWork d' b
work_kept d d' a b taken accepted past goes work = record {
  enabled = subst (λ (mask : ℕ). HasBit mask 7) (sym goes.flows.mask) work.enabled;
  asked =
      ⊎_elim
      (λ (same : length (frames_ended (driver_in d a)) ≡ length taken + length (frames_ended (driver_in d' b))).
      ⊎_elim
      (λ (none : frames_ended (driver_in d a) ≡ []).
      inl (nil_from_length (frames_ended (driver_in d' b)) (omega (arith, same, ap length none))))
      (λ (bit : HasBit a.adapter.causes.recorded 7). inr (goes.causes 7 bit))
      work.asked)
      (λ (bit : HasBit b.adapter.causes.recorded 7). inr bit)
      goes.recorded;
}
