use Rattle.std.proofs.Common.{◌≡◌, ◌+◌, ◌-◌, ◌<◌, ◌∙◌, arith, drop, length, refl}
use Rattle.std.proofs.lemmas.List.{drop-set, length-set}
use Rattle.access_names.proofs.Digits.{all_digits, first_digit, one_more}
use Rattle.access_names.proofs.name.TargetName.prepend_hexadecimal.Goals as goal
use Rattle.access_names.proofs.name.TargetName.prepend_hexadecimal.Goals.{
  then-loop-turns-test+else-left-ge-HEXADECIMAL,
  else-loop-turns-test,
}

pub loop-turns-init : goal.loop-turns-init
loop-turns-init c = (refl, omega arith, omega arith, omega arith, c.requires.1, c.requires.0, omega arith)

pub overflow_sub-at : goal.overflow_sub-at
overflow_sub-at c = omega (arith, c.loop-turns.invariant.1)

pub bounds-self-at : goal.bounds-self-at
bounds-self-at c = omega (arith, c.loop-turns.invariant.1)

pub loop-turns-preserved : goal.loop-turns-preserved
loop-turns-preserved c =
    let l = c.loop-turns in
    let e : l.at - 1 + 1 ≡ l.at = omega (arith, l.invariant.1) in (
      rw (drop-set l.self.bytes (l.at - 1) c.digit_of.result (omega (arith, l.invariant.1)), e, c.digit_of.ensures)
          (one_more l.turns l.left (drop l.at l.self.bytes) (omega arith) c.if-left-ge-HEXADECIMAL.true ∙ l.invariant.0),
      omega (arith, l.invariant.1),
      omega arith,
      omega (arith, l.invariant.3),
      l.invariant.4,
      l.invariant.5,
      length-set l.self.bytes (l.at - 1) c.digit_of.result ∙ l.invariant.6,
    )

pub overflow_sub-self : goal.overflow_sub-self
overflow_sub-self c = omega (arith, c.loop-turns.invariant.1, c.loop-turns.invariant.2, c.loop-turns.invariant.5)

pub bounds-self-at-2 : goal.bounds-self-at-2
bounds-self-at-2 c =
    omega (arith, c.loop-turns.invariant.1, c.loop-turns.invariant.2, c.loop-turns.invariant.3, c.loop-turns.invariant.4)

pub overflow_sub-self-2 : goal.overflow_sub-self-2
overflow_sub-self-2 c = omega (arith, c.loop-turns.invariant.1, c.loop-turns.invariant.2, c.loop-turns.invariant.5)

pub returns-clause-text : goal.returns-clause-text
returns-clause-text c =
    let l = c.loop-turns in
    let few : 1 < l.turns → l.left < 16 =
    elim c.loop-turns-test.branch [
      | then-loop-turns-test+else-left-ge-HEXADECIMAL w ↦ (λ some. omega (arith, w.if-left-ge-HEXADECIMAL.false))
      | else-loop-turns-test w ↦ (λ some. omega (arith, w.loop-turns-test.false))
    ] in
    let e : l.at - 1 + 1 ≡ l.at = omega (arith, l.invariant.1, l.invariant.2, l.invariant.5) in
    let room : l.at - 1 < length l.self.bytes = omega (arith, l.invariant.1, l.invariant.3, l.invariant.4, l.invariant.6) in
    rw (drop-set l.self.bytes (l.at - 1) c.digit_of-2.result room, e, c.digit_of-2.ensures)
    (first_digit l.turns l.left (drop l.at l.self.bytes) l.invariant.2 few ∙ l.invariant.0 ∙ all_digits c.args.number _)

pub returns-clause-room : goal.returns-clause-room
returns-clause-room c =
    let l = c.loop-turns in
    (omega (arith, l.invariant.1, l.invariant.2, l.invariant.3), omega (arith, l.invariant.1, l.invariant.2, l.invariant.3))
