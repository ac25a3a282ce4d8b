use Rattle.std.proofs.Common.{codes, refl}
use Rattle.clap.specs.Words.{found_of, rows_of}
use Rattle.command_line.specs.declared.job.ValueOption.TheVariants.{Address, Group}
use Rattle.command_line.proofs.Getters.{refused_of}
use Rattle.command_line.proofs.trace_jobs.pass_job.Goals as goal

pub returns-clause-job : goal.returns-clause-job
returns-clause-job c = (
  refl,
  record {
    filter = record {
      address = c.in_ok-address.ensures.value;
      group = c.in_ok-address-2.ensures.value;
      vlan = c.in_ok-vlan.ensures.value;
    };
    input = c.path.ensures;
    output = c.path-2.ensures;
    nanos = c.flag.ensures;
  },
)

pub returns-in_err-address-clause-refused : goal.returns-in_err-address-clause-refused
returns-in_err-address-clause-refused c =
    refused_of (codes "pass") (rows_of (found_of c.args.matches.now)) Address c.in_err-address.field-0.0
    c.from_residual.result refl c.in_err-address.ensures.refused c.from_residual.ensures.1

pub returns-in_err-address-2-clause-refused : goal.returns-in_err-address-2-clause-refused
returns-in_err-address-2-clause-refused c =
    refused_of (codes "pass") (rows_of (found_of c.args.matches.now)) Group c.in_err-address-2.field-0.0
    c.from_residual-in_err-address-2.result refl c.in_err-address-2.ensures.refused c.from_residual-in_err-address-2.ensures.1

pub address-requires : goal.address-requires
address-requires c = λ rows text spelled. spelled

pub address-requires-2 : goal.address-requires-2
address-requires-2 c = λ rows text spelled. spelled
