-- The rule of clap's contracts for each argument that the code adds, and the command for each subcommand (our choice).
use Rattle.std.specs.Prelude.{Bool, List, [], ◌∷◌, codes, false, map, true}
use Rattle.clap.specs.declared.builder.action.ArgAction.{ArgAction}
use Rattle.clap.specs.declared.builder.action.ArgAction.TheVariants as action
use Rattle.clap.specs.Simple.{on_top}
use Rattle.clap.specs.Words.{App, Rule, Text, new_app, with_rule, with_subcommand}
use Rattle.command_line.specs.Shape.{file_rule, flag_rule, number_rule, option_rule, required_rule}
use Rattle.command_line.specs.declared.command.Argument.{Argument}
use Rattle.command_line.specs.declared.command.Form.{Form}
use Rattle.command_line.specs.declared.command.Form.TheVariants.{File, Flag, Number, Required, Value}
use Rattle.command_line.specs.declared.command.CommandRow.{CommandRow}

-- whether an argument of this form is required
abbrev pub is_required_form : Form → Bool
is_required_form Value = false
is_required_form (Number least most) = false
is_required_form Required = true
is_required_form Flag = false
is_required_form File = true

-- clap's action for an argument of this form
abbrev pub action_of_form : Form → ArgAction
action_of_form Flag = action.SetTrue
action_of_form _ = action.Set

-- clap's rule for an argument of this form and this name
abbrev pub rule_of_form : Form → Text → Rule
rule_of_form Value name = option_rule name
rule_of_form (Number least most) name = number_rule least most name
rule_of_form Required name = required_rule name
rule_of_form Flag name = flag_rule name
rule_of_form File name = file_rule name

-- clap's rule for an argument; field 0 is the name, and field 1 the form
abbrev pub rule_for : Argument → Rule
rule_for argument = rule_of_form argument.1 argument.0.now

-- a command with these additional rules, in this order
abbrev pub with_rules : App → List Rule → App
with_rules app [] = app
with_rules app (rule ∷ others) = with_rules (with_rule app rule) others

-- clap's command for a row: field 0 is the name, and field 3 contains the arguments, each with a rule
abbrev pub app_for : CommandRow → App
app_for row = with_rules (new_app row.0.now) (map rule_for row.3.now)

-- a program with these additional subcommands, in this order
abbrev pub with_subcommands : App → List App → App
with_subcommands program [] = program
with_subcommands program (command ∷ others) = with_subcommands (with_subcommand program command.top) others

-- the program without its subcommands
abbrev pub bare_app : App
bare_app =
    on_top (λ s. record s { has_version = true; subcommand_required = true; arg_required_else_help = true })
    (new_app (codes "nicbench"))
