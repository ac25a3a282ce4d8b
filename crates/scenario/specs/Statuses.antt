-- The program's exit status for a refusal (our choice): 1 if a line is faulty, and 4 if memory was refused.
use Rattle.std.specs.Prelude.{ℕ}
use Rattle.scenario.specs.declared.refusal.Refusal.{Refusal}
use Rattle.scenario.specs.declared.refusal.Refusal.TheVariants as refusal

abbrev pub refusal_status : Refusal → ℕ
refusal_status (refusal.Line line fault) = 1
refusal_status refusal.Memory = 4
