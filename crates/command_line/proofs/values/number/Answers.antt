use Rattle.std.proofs.Common.{refl}
use Rattle.clap.specs.Words.{first_of, found_of, rows_of}
use Rattle.command_line.specs.Jobs.{name_of}
use Rattle.command_line.proofs.Getters.{text_is}
use Rattle.command_line.proofs.values.number.Goals as goal

pub returns-in-None-clause-refused : goal.returns-in-None-clause-refused
returns-in-None-clause-refused c =
    let rows = rows_of (found_of c.args.matches.now) in
    let text = c.in-Some.text.now in (
      refl,
      record {
        text = text;
        given = text_is (first_of (name_of c.args.option) rows) c.text.result (rw c.name_of.ensures at c.text.ensures) c.in-Some.is;
        unspelled = λ spelled. let number = c.requires rows text spelled in c.in-None.ensures.refused number.0 number.1;
      },
    )
