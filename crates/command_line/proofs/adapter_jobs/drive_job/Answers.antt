use Rattle.std.proofs.Common.{codes, refl}
use Rattle.clap.specs.Words.{found_of, rows_of}
use Rattle.command_line.specs.declared.job.ValueOption.TheVariants.{Buffers, Expect, Idle, Memory, Registers, Rx, Tx}
use Rattle.command_line.proofs.Getters.{refused_of}
use Rattle.command_line.proofs.adapter_jobs.drive_job.Goals as goal

pub returns-clause-job : goal.returns-clause-job
returns-clause-job c = (
  refl,
  record {
    registers = c.in_ok-number_or.ensures.value;
    memory = c.in_ok-number_or-2.ensures.value;
    rx = c.in_ok-number_or-3.ensures.value;
    tx = c.in_ok-number_or-4.ensures.value;
    buffers = c.in_ok-number_or-5.ensures.value;
    expect = c.in_ok-number.ensures.value;
    idle = c.in_ok-number-2.ensures.value;
    send = c.path.ensures;
    receive = c.path-2.ensures;
  },
)

pub returns-in_err-number_or-clause-refused : goal.returns-in_err-number_or-clause-refused
returns-in_err-number_or-clause-refused c =
    refused_of (codes "drive") (rows_of (found_of c.args.matches.now)) Registers c.in_err-number_or.field-0.0
    c.from_residual.result refl c.in_err-number_or.ensures.refused c.from_residual.ensures.1

pub returns-in_err-number_or-2-clause-refused : goal.returns-in_err-number_or-2-clause-refused
returns-in_err-number_or-2-clause-refused c =
    refused_of (codes "drive") (rows_of (found_of c.args.matches.now)) Memory c.in_err-number_or-2.field-0.0
    c.from_residual-in_err-number_or-2.result refl c.in_err-number_or-2.ensures.refused c.from_residual-in_err-number_or-2.ensures.1

pub returns-in_err-number_or-3-clause-refused : goal.returns-in_err-number_or-3-clause-refused
returns-in_err-number_or-3-clause-refused c =
    refused_of (codes "drive") (rows_of (found_of c.args.matches.now)) Rx c.in_err-number_or-3.field-0.0
    c.from_residual-in_err-number_or-3.result refl c.in_err-number_or-3.ensures.refused c.from_residual-in_err-number_or-3.ensures.1

pub returns-in_err-number_or-4-clause-refused : goal.returns-in_err-number_or-4-clause-refused
returns-in_err-number_or-4-clause-refused c =
    refused_of (codes "drive") (rows_of (found_of c.args.matches.now)) Tx c.in_err-number_or-4.field-0.0
    c.from_residual-in_err-number_or-4.result refl c.in_err-number_or-4.ensures.refused c.from_residual-in_err-number_or-4.ensures.1

pub returns-in_err-number_or-5-clause-refused : goal.returns-in_err-number_or-5-clause-refused
returns-in_err-number_or-5-clause-refused c =
    refused_of (codes "drive") (rows_of (found_of c.args.matches.now)) Buffers c.in_err-number_or-5.field-0.0
    c.from_residual-in_err-number_or-5.result refl c.in_err-number_or-5.ensures.refused c.from_residual-in_err-number_or-5.ensures.1

pub returns-in_err-number-clause-refused : goal.returns-in_err-number-clause-refused
returns-in_err-number-clause-refused c =
    refused_of (codes "drive") (rows_of (found_of c.args.matches.now)) Expect c.in_err-number.field-0.0
    c.from_residual-in_err-number.result refl c.in_err-number.ensures.refused c.from_residual-in_err-number.ensures.1

pub returns-in_err-number-2-clause-refused : goal.returns-in_err-number-2-clause-refused
returns-in_err-number-2-clause-refused c =
    refused_of (codes "drive") (rows_of (found_of c.args.matches.now)) Idle c.in_err-number-2.field-0.0
    c.from_residual-in_err-number-2.result refl c.in_err-number-2.ensures.refused c.from_residual-in_err-number-2.ensures.1

pub number_or-requires : goal.number_or-requires
number_or-requires c = λ rows text spelled. spelled

pub number_or-requires-2 : goal.number_or-requires-2
number_or-requires-2 c = λ rows text spelled. spelled

pub number_or-requires-3 : goal.number_or-requires-3
number_or-requires-3 c = λ rows text spelled. spelled

pub number_or-requires-4 : goal.number_or-requires-4
number_or-requires-4 c = λ rows text spelled. spelled

pub number_or-requires-5 : goal.number_or-requires-5
number_or-requires-5 c = λ rows text spelled. spelled

pub number-requires : goal.number-requires
number-requires c = λ rows text spelled. spelled

pub number-requires-2 : goal.number-requires-2
number-requires-2 c = λ rows text spelled. spelled
