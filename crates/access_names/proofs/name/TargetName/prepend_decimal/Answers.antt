use Rattle.std.proofs.Common.{arith}
use Rattle.std.proofs.lemmas.Fmt.{length-decimal-le}
use Rattle.access_names.proofs.name.TargetName.prepend_decimal.Goals as goal

pub write_digits-self-requires : goal.write_digits-self-requires
write_digits-self-requires c =
    (omega (arith, length-decimal-le 20 c.args.number (omega arith) (omega arith) c.ranges.number.fits), omega arith)

pub returns-clause-room : goal.returns-clause-room
returns-clause-room c =
    let few = length-decimal-le 20 c.args.number (omega arith) (omega arith) c.ranges.number.fits in
    (omega (arith, few), omega arith)
