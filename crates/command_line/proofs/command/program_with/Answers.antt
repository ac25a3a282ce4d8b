use Rattle.std.proofs.Common.{◌≡◌, ◌∙◌, ap, arith, codes, map, rules, true}
use Rattle.std.proofs.lemmas.List.{take_all}
use Rattle.clap.specs.Simple.{Shape, app_of_fields, on_top}
use Rattle.clap.specs.Words.{app_of, new_app}
use Rattle.command_line.specs.Arguments.{app_for, bare_app, with_subcommands}
use Rattle.command_line.proofs.Adding.{local_command, with_command}
use Rattle.command_line.proofs.command.program_with.Goals as goal

-- the changes by `version`, `subcommand_required` and `arg_required_else_help`
abbrev versioned : Shape → Shape
versioned s = record s { has_version = true }

abbrev needing : Shape → Shape
needing s = record s { subcommand_required = true }

abbrev helping : Shape → Shape
helping s = record s { arg_required_else_help = true }

pub loop-subcommand-init : goal.loop-subcommand-init
loop-subcommand-init c =
    let first : app_of c.version.result ≡ on_top versioned (new_app (codes "nicbench")) =
    ap app_of_fields c.version.ensures ∙ ap (on_top versioned) c.in_ok-clap_command.ensures.app in
    let second : app_of c.subcommand_required.result ≡ on_top needing (app_of c.version.result) =
    ap app_of_fields c.subcommand_required.ensures in
    let third : app_of c.arg_required_else_help-program.result ≡ on_top helping (app_of c.subcommand_required.result) =
    ap app_of_fields c.arg_required_else_help-program.ensures in
    record {
      app = third ∙ ap (on_top helping) (second ∙ ap (on_top needing) first);
      local = search rules;
    }

pub loop-subcommand-preserved : goal.loop-subcommand-preserved
loop-subcommand-preserved c =
    let old = c.loop-subcommand.program in
    let command = c.in_ok-command.command in
    record {
      app = with_command old _ command bare_app c.args.subcommands.now c.loop-subcommand.subcommand-index _ (omega arith)
          c.in_ok-program.ensures c.in_ok-command.ensures.no_globals c.in_ok-command.ensures.app c.loop-subcommand.invariant.app;
      local = local_command old _ command c.in_ok-program.ensures c.in_ok-command.ensures.no_globals c.loop-subcommand.invariant.local;
    }

pub returns-clause-app : goal.returns-clause-app
returns-clause-app c =
    c.loop-subcommand.invariant.app
    ∙ ap (λ subcommands. with_subcommands bare_app (map app_for subcommands))
    (take_all c.loop-subcommand.subcommand-index c.args.subcommands.now (omega arith))

pub returns-clause-no_globals : goal.returns-clause-no_globals
returns-clause-no_globals c = c.loop-subcommand.invariant.local
