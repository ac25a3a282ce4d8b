use Rattle.std.proofs.Common.{◌≡◌, false, map, take}
use Rattle.clap.specs.Words.{app_of}
use Rattle.clap.specs.declared.builder.command.Command.TheViews.{out-Command as fields_of}
use Rattle.command_line.specs.Arguments.{app_for, bare_app, with_subcommands}
use Rattle.command_line.proofs.command.program_with.Given as goal

-- the program has the subcommands before this index, and no global argument
abbrev pub invariant-loop-subcommand : goal.invariant-loop-subcommand
invariant-loop-subcommand l = record {
  app : app_of l.program
      ≡ with_subcommands bare_app (map app_for (take l.subcommand-index l.subcommands));
  local : (fields_of l.program).has_globals ≡ false;
}
