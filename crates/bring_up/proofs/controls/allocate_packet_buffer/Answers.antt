use Rattle.std.proofs.Common.{refl}
use Rattle.bring_up.proofs.Steps.{only-write}
use Rattle.bring_up.proofs.controls.allocate_packet_buffer.Goals as goal

pub returns-clause-sets : goal.returns-clause-sets
returns-clause-sets g c honest = only-write refl c.from.ensures (c.write.ensures.acts honest)
