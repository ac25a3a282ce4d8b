-- Why a line isn't read (our choice).
use Rattle.std.specs.Prelude.{ℕ}
use Rattle.scenario.specs.declared.refusal.Fault.{Fault}
use Rattle.scenario.specs.declared.refusal.Refusal.{Refusal}
use Rattle.scenario.specs.declared.refusal.Refusal.TheVariants as refusal
use Rattle.scenario.specs.declared.refusal.Stop.{Stop}
use Rattle.scenario.specs.declared.refusal.Stop.TheVariants as stop

-- If the reason is a fault, the fault has this property.
abbrev pub IfFault : Stop → (Fault → Type 0) → Type 0
IfFault stop.Memory P = Unit {0}
IfFault (stop.Fault fault) P = P fault

-- the refusal of a text if the line with this number wasn't read for this reason
abbrev pub refusal_at : ℕ → Stop → Refusal
refusal_at line stop.Memory = refusal.Memory
refusal_at line (stop.Fault fault) = refusal.Line line fault
