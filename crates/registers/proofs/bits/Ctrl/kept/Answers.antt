use Rattle.std.proofs.Common.{bit_and, ◌^◌, ◌-◌, ap, ◌∙◌, ℕ}
use Rattle.std.proofs.lemmas.Nat.{and_assoc}
use Rattle.registers.proofs.bits.Ctrl.kept.Goals as goal

pub returns : goal.returns
returns c = c.difference.ensures tt ∙ ap (λ (n : ℕ). bit_and n (2 ^ 32 - 1 - 0x4000000)) c.written.ensures
    ∙ and_assoc _ c.args.value 0x44000061
