use Rattle.std.proofs.Common.{◌≡◌, ◌∙◌, ap, subst, sym}
use Rattle.clap.specs.Matches.{found_of}
use Rattle.clap.specs.Walk.{Row, Text, rows_of}
use Rattle.std.specs.Prelude.{IsSomeAnd, List, Option, map, true}
use Rattle.command_line.specs.Jobs.{IsInvalidIn, IsJobOf, has_option}
use Rattle.command_line.proofs.Commands.{subcommand_got, taken}
use Rattle.command_line.proofs.reader.line.Goals as goal

pub job_of-requires : goal.job_of-requires
job_of-requires g c =
    let words = map g.S.AsStr.text c.args.words.now in
    let m = c.in_ok-matches in
    let got = subcommand_got words m.matches c.subcommand.result c.unwrap.result c.unwrap.ensures c.subcommand.ensures.name
    c.subcommand.ensures.rows m.ensures.found.1 in
    taken words c.unwrap.result.0.now (rows_of (found_of c.unwrap.result.1.now)) m.ensures.taken got

pub returns-in-Ok-clause-job : goal.returns-in-Ok-clause-job
returns-in-Ok-clause-job g c =
    let words = map g.S.AsStr.text c.args.words.now in
    let m = c.in_ok-matches in
    let got = subcommand_got words m.matches c.subcommand.result c.unwrap.result c.unwrap.ensures c.subcommand.ensures.name
    c.subcommand.ensures.rows m.ensures.found.1 in (
      m.ensures.taken,
      subst (λ (o : Option (Text × List Row)). IsSomeAnd o (λ found. IsJobOf found c.in-Ok.job)) (sym got) c.in-Ok.ensures.job,
    )

pub returns-clause-value : goal.returns-clause-value
returns-clause-value g c =
    let words = map g.S.AsStr.text c.args.words.now in
    let m = c.in_ok-matches in
    let got = subcommand_got words m.matches c.subcommand.result c.unwrap.result c.unwrap.ensures c.subcommand.ensures.name
    c.subcommand.ensures.rows m.ensures.found.1 in
    let value = c.invalid.result in (
      m.ensures.taken,
      subst (λ (o : Option (Text × List Row)). IsSomeAnd o (λ found. (has_option found.0 value.option ≡ true) × IsInvalidIn found.1 value))
          (sym got)
          (ap (has_option c.unwrap.result.0.now) c.invalid.ensures.option ∙ c.in-Err.ensures.refused.0, c.invalid.ensures.invalid),
    )
