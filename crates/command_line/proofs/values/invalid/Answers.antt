use Rattle.clap.specs.Words.{Text, first_of, found_of, rows_of}
use Rattle.command_line.specs.Jobs.{IsSpelled, name_of}
use Rattle.command_line.proofs.Getters.{is_there, text_is, unspelled_here}
use Rattle.command_line.proofs.values.invalid.Goals as goal

pub unwrap-text-requires : goal.unwrap-text-requires
unwrap-text-requires c = is_there _ _ _ (rw c.name_of.ensures at c.text.ensures) c.requires.given

pub returns-clause-invalid : goal.returns-clause-invalid
returns-clause-invalid c =
    let rows = rows_of (found_of c.args.matches.now) in
    let first = first_of (name_of c.args.option) rows in
    let given = text_is first c.text.result (rw c.name_of.ensures at c.text.ensures) c.unwrap-text.ensures in
    record {
      given = given;
      unspelled = unspelled_here (λ (text : Text). IsSpelled rows c.args.option text) first c.requires.text c.unwrap-text.result.now
          c.requires.unspelled c.requires.given given;
    }
