-- The interrupt causes of the adapter as two sets of places. Each set is a number whose bits at these places are 1.
use Rattle.std.specs.Prelude.{ℕ}

-- The recorded causes and the mask. The interrupt line is asserted while a cause is in both.
pub record Interrupts : Type 0 where
  -- The recorded causes, which a read of ICR returns.
  pub recorded : ℕ
  -- The causes that can assert the interrupt line, which a read of IMS returns.
  pub mask : ℕ
