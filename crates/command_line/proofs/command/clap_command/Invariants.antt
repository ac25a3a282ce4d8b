use Rattle.std.proofs.Common.{◌≡◌, false, map, take}
use Rattle.clap.specs.Words.{app_of, new_app}
use Rattle.clap.specs.declared.builder.command.Command.TheViews.{out-Command as fields_of}
use Rattle.command_line.specs.Arguments.{rule_for, with_rules}
use Rattle.command_line.proofs.command.clap_command.Given as goal

-- the command has the rules of the arguments before this index, and no global argument
abbrev pub invariant-loop-argument : goal.invariant-loop-argument
invariant-loop-argument l = record {
  app : app_of l.command
      ≡ with_rules (new_app l.row.0.now) (map rule_for (take l.argument-index l.row.3.now));
  local : (fields_of l.command).has_globals ≡ false;
}
