use Rattle.std.proofs.Common.{arith, codes, refl}
use Rattle.clap.specs.Words.{Text, found_of, rows_of}
use Rattle.command_line.specs.Jobs.{text_in}
use Rattle.command_line.specs.Spelling.{IsKilobytes, IsLink, SpellsKilobytes, SpellsLink}
use Rattle.command_line.specs.declared.job.ServeLink.{ServeLink}
use Rattle.command_line.specs.declared.job.ServeLink.TheVariants.{After, Never}
use Rattle.command_line.specs.declared.job.ValueOption.TheVariants.{Link, Memory, Missed, Registers, Rxa, Seed}
use Rattle.command_line.proofs.Getters.{of_given_or_default, refused_of}
use Rattle.command_line.proofs.adapter_jobs.serve_job.Goals as goal

default_kilobytes : IsKilobytes 48
default_kilobytes = (omega arith, omega arith, refl)

default_link : IsLink (After 1)
default_link = (omega arith, omega arith)

spelled_link : (text : Text) (link : ServeLink) → SpellsLink text link → IsLink link
spelled_link text (After ticks) h = h.1
spelled_link text Never h = tt

pub returns-clause-bounds : goal.returns-clause-bounds
returns-clause-bounds c = (
  of_given_or_default SpellsKilobytes 48 IsKilobytes default_kilobytes (λ text n h. h.1) (text_in c.args.matches.now (codes "rxa")) _
      c.in_ok-number_or-3.ensures.value,
  of_given_or_default SpellsLink (After 1) IsLink default_link spelled_link (text_in c.args.matches.now (codes "link")) _
      c.in_ok-link.ensures.value,
)

pub returns-clause-job : goal.returns-clause-job
returns-clause-job c = (
  refl,
  record {
    memory = c.in_ok-number_or.ensures.value;
    registers = c.in_ok-number_or-2.ensures.value;
    image = c.in_ok-image.ensures.value;
    link = c.in_ok-link.ensures.value;
    kilobytes = c.in_ok-number_or-3.ensures.value;
    seed = c.in_ok-number_or-4.ensures.value;
    missed = c.in_ok-number_or-5.ensures.value;
    schedule = c.text.ensures;
    «record» = c.text-2.ensures;
  },
)

pub returns-in_err-number_or-clause-refused : goal.returns-in_err-number_or-clause-refused
returns-in_err-number_or-clause-refused c =
    refused_of (codes "serve") (rows_of (found_of c.args.matches.now)) Memory c.in_err-number_or.field-0.0
    c.from_residual.result refl c.in_err-number_or.ensures.refused c.from_residual.ensures.1

pub returns-in_err-number_or-2-clause-refused : goal.returns-in_err-number_or-2-clause-refused
returns-in_err-number_or-2-clause-refused c =
    refused_of (codes "serve") (rows_of (found_of c.args.matches.now)) Registers c.in_err-number_or-2.field-0.0
    c.from_residual-in_err-number_or-2.result refl c.in_err-number_or-2.ensures.refused c.from_residual-in_err-number_or-2.ensures.1

pub returns-in_err-link-clause-refused : goal.returns-in_err-link-clause-refused
returns-in_err-link-clause-refused c =
    refused_of (codes "serve") (rows_of (found_of c.args.matches.now)) Link c.in_err-link.field-0.0
    c.from_residual-in_err-link.result refl c.in_err-link.ensures.refused c.from_residual-in_err-link.ensures.1

pub returns-in_err-number_or-3-clause-refused : goal.returns-in_err-number_or-3-clause-refused
returns-in_err-number_or-3-clause-refused c =
    refused_of (codes "serve") (rows_of (found_of c.args.matches.now)) Rxa c.in_err-number_or-3.field-0.0
    c.from_residual-in_err-number_or-3.result refl c.in_err-number_or-3.ensures.refused c.from_residual-in_err-number_or-3.ensures.1

pub returns-in_err-number_or-4-clause-refused : goal.returns-in_err-number_or-4-clause-refused
returns-in_err-number_or-4-clause-refused c =
    refused_of (codes "serve") (rows_of (found_of c.args.matches.now)) Seed c.in_err-number_or-4.field-0.0
    c.from_residual-in_err-number_or-4.result refl c.in_err-number_or-4.ensures.refused c.from_residual-in_err-number_or-4.ensures.1

pub returns-in_err-number_or-5-clause-refused : goal.returns-in_err-number_or-5-clause-refused
returns-in_err-number_or-5-clause-refused c =
    refused_of (codes "serve") (rows_of (found_of c.args.matches.now)) Missed c.in_err-number_or-5.field-0.0
    c.from_residual-in_err-number_or-5.result refl c.in_err-number_or-5.ensures.refused c.from_residual-in_err-number_or-5.ensures.1

pub number_or-requires : goal.number_or-requires
number_or-requires c = λ rows text spelled. spelled

pub number_or-requires-2 : goal.number_or-requires-2
number_or-requires-2 c = λ rows text spelled. spelled

pub number_or-requires-3 : goal.number_or-requires-3
number_or-requires-3 c = λ rows text spelled. spelled

pub number_or-requires-4 : goal.number_or-requires-4
number_or-requires-4 c = λ rows text spelled. spelled

pub number_or-requires-5 : goal.number_or-requires-5
number_or-requires-5 c = λ rows text spelled. spelled
