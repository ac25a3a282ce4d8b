-- A command with one more argument or subcommand.
use Rattle.std.proofs.Common.{◌≡◌, ◌∙◌, ◌+◌, ◌<◌, ◌||◌, ◌++◌, ℕ, Bool, ap, ap₂, false, get_or, length, List, [], ◌∷◌, map, refl, sym, take}
use Rattle.std.proofs.lemmas.List.{map-append, take_more}
use Rattle.clap.specs.Words.{AddsArg, AddsSubcommand, App, Rule, app_of, rule_of, with_rule, with_subcommand}
use Rattle.clap.specs.declared.builder.arg.Arg.{Arg}
use Rattle.clap.specs.declared.builder.command.Command.{Command}
use Rattle.clap.specs.declared.builder.command.Command.TheViews.{out-Command as fields_of}
use Rattle.command_line.specs.Arguments.{app_for, bare_app, rule_for, with_rules, with_subcommands}
use Rattle.command_line.specs.Shape.{drive_app, pass_app, program_app, run_app, serve_app, show_app}
use Rattle.command_line.specs.declared.command.Argument.{Argument}
use Rattle.command_line.specs.declared.command.CommandRow.{CommandRow}

abbrev pub IsLocal : Command → Type 0
IsLocal command = (fields_of command).has_globals ≡ false

abbrev pub IsLocalArg : Arg → Type 0
IsLocalArg arg = arg.global ≡ false

neither : (first second : Bool) → first ≡ false → second ≡ false → (first || second) ≡ false
neither first second e f = ap₂ (λ (a b : Bool). a || b) e f

one_more : {X Y : Type 0} (f : X → Y) (xs : List X) (i : ℕ) (d : X) → i < length xs
    → map f (take (i + 1) xs) ≡ map f (take i xs) ++ f (get_or xs i d) ∷ []
one_more f xs i d below =
    ap (map f) (take_more xs i d below) ∙ map-append f (take i xs) (get_or xs i d ∷ [])

with_last_rule : (app : App) (rules : List Rule) (rule : Rule) → with_rules app (rules ++ rule ∷ []) ≡ with_rule (with_rules app rules) rule
with_last_rule app [] rule = refl
with_last_rule app (first ∷ rules) rule = with_last_rule (with_rule app first) rules rule

pub with_argument : (old new : Command) (arg : Arg) (app : App) (source : List Argument) (i : ℕ) (d : Argument) → i < length source
    → AddsArg old arg new → IsLocalArg arg → rule_of arg ≡ rule_for (get_or source i d)
    → app_of old ≡ with_rules app (map rule_for (take i source))
    → app_of new ≡ with_rules app (map rule_for (take (i + 1) source))
with_argument old new arg app source i d below adds local is so_far =
    adds.shape local ∙ ap₂ with_rule so_far is
    ∙ sym (with_last_rule app (map rule_for (take i source)) (rule_for (get_or source i d)))
    ∙ ap (with_rules app) (sym (one_more rule_for source i d below))

pub local_argument : (old new : Command) (arg : Arg) → AddsArg old arg new → IsLocalArg arg → IsLocal old → IsLocal new
local_argument old new arg adds local is = adds.globals ∙ neither _ _ is local

with_last_command : (app : App) (commands : List App) (command : App)
    → with_subcommands app (commands ++ command ∷ []) ≡ with_subcommand (with_subcommands app commands) command.top
with_last_command app [] command = refl
with_last_command app (first ∷ commands) command = with_last_command (with_subcommand app first.top) commands command

pub with_command : (old new command : Command) (app : App) (source : List CommandRow) (i : ℕ) (d : CommandRow) → i < length source
    → AddsSubcommand old command new → IsLocal command → app_of command ≡ app_for (get_or source i d)
    → app_of old ≡ with_subcommands app (map app_for (take i source))
    → app_of new ≡ with_subcommands app (map app_for (take (i + 1) source))
with_command old new command app source i d below adds local is so_far =
    adds.shape local ∙ ap₂ (λ (a b : App). with_subcommand a b.top) so_far is
    ∙ sym (with_last_command app (map app_for (take i source)) (app_for (get_or source i d)))
    ∙ ap (with_subcommands app) (sym (one_more app_for source i d below))

pub local_command : (old new command : Command) → AddsSubcommand old command new → IsLocal command → IsLocal old → IsLocal new
local_command old new command adds local is = adds.globals ∙ neither _ _ is local

-- the program with rows for each of its subcommands
pub whole_program : (pass run show serve drive : CommandRow) → app_for pass ≡ pass_app → app_for run ≡ run_app
    → app_for show ≡ show_app → app_for serve ≡ serve_app → app_for drive ≡ drive_app
    → with_subcommands bare_app (map app_for (pass ∷ run ∷ show ∷ serve ∷ drive ∷ [])) ≡ program_app
unfolding program_app
whole_program pass run show serve drive is_pass is_run is_show is_serve is_drive =
    let with_first = ap (λ (a : App). with_subcommand bare_app a.top) is_pass in
    let with_second = ap₂ (λ (a b : App). with_subcommand a b.top) with_first is_run in
    let with_third = ap₂ (λ (a b : App). with_subcommand a b.top) with_second is_show in
    let with_fourth = ap₂ (λ (a b : App). with_subcommand a b.top) with_third is_serve in
    ap₂ (λ (a b : App). with_subcommand a b.top) with_fourth is_drive
