use Rattle.std.proofs.Common.{◌∙◌, ap, arith, map, rules}
use Rattle.std.proofs.lemmas.List.{take_all}
use Rattle.clap.specs.Simple.{app_of_fields}
use Rattle.clap.specs.Words.{new_app}
use Rattle.command_line.specs.Arguments.{rule_for, with_rules}
use Rattle.command_line.proofs.Adding.{local_argument, with_argument}
use Rattle.command_line.proofs.command.clap_command.Goals as goal

pub loop-argument-init : goal.loop-argument-init
loop-argument-init c = record {
  app = ap app_of_fields c.after_help-command.ensures ∙ ap app_of_fields c.about.ensures ∙ c.new.ensures.app;
  local = search rules;
}

pub loop-argument-preserved : goal.loop-argument-preserved
loop-argument-preserved c =
    let old = c.loop-argument.command in
    let arg = c.clap_argument.result in
    record {
      app = with_argument old _ arg (new_app c.args.row.now.0.now) c.args.row.now.3.now
          c.loop-argument.argument-index _ (omega arith) c.in_ok-command.ensures c.clap_argument.ensures.local c.clap_argument.ensures.rule
          c.loop-argument.invariant.app;
      local = local_argument old _ arg c.in_ok-command.ensures c.clap_argument.ensures.local c.loop-argument.invariant.local;
    }

pub returns-clause-app : goal.returns-clause-app
returns-clause-app c =
    c.loop-argument.invariant.app
    ∙ ap (λ arguments. with_rules (new_app c.args.row.now.0.now) (map rule_for arguments))
    (take_all c.loop-argument.argument-index c.args.row.now.3.now (omega arith))

pub returns-clause-no_globals : goal.returns-clause-no_globals
returns-clause-no_globals c = c.loop-argument.invariant.local
