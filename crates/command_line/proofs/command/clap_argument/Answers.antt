use Rattle.std.specs.Prelude.{Some}
use Rattle.std.proofs.Common.{◌≡◌, ◌∙◌, ◌⊎◌, Bool, ap, ap₂, inl, inr, refl, subst, sym}
use Rattle.clap.specs.Words.{Rule, Text, new_rule, rule_of}
use Rattle.clap.specs.declared.builder.action.ArgAction.{ArgAction}
use Rattle.command_line.specs.Arguments.{action_of_form, is_required_form, rule_of_form}
use Rattle.command_line.specs.declared.command.Form.{Form}
use Rattle.command_line.specs.declared.command.Form.TheVariants.{File, Flag, Required, Value}
use Rattle.command_line.proofs.command.clap_argument.Goals.{After-action-arg}
use Rattle.command_line.proofs.command.clap_argument.Goals as goal

-- the rule of an argument after the calls that are made for each form
abbrev begun : Text → Bool → ArgAction → Rule
begun name required action = record (new_rule name) { required = required; action = Some action }

filed_is : (form : Form) (name : Text) → form ≡ File → begun name (is_required_form form) (action_of_form form) ≡ rule_of_form form name
filed_is form name is =
    subst (λ (form : Form). begun name (is_required_form form) (action_of_form form) ≡ rule_of_form form name) (sym is) refl

-- the rule of an option
abbrev named : Text → Bool → ArgAction → Rule
named name required action = record (begun name required action) { long = Some name }

flagged_is : (form : Form) (name : Text) → form ≡ Flag → named name (is_required_form form) (action_of_form form) ≡ rule_of_form form name
flagged_is form name is =
    subst (λ (form : Form). named name (is_required_form form) (action_of_form form) ≡ rule_of_form form name) (sym is) refl

-- the rule of an option with a value
abbrev valued : Text → Bool → ArgAction → Rule
valued name required action = record (named name required action) { value_names = 1 }

valued_is : (form : Form) (name : Text) → (form ≡ Value) ⊎ (form ≡ Required)
    → valued name (is_required_form form) (action_of_form form) ≡ rule_of_form form name
valued_is form name (inl is) =
    subst (λ (form : Form). valued name (is_required_form form) (action_of_form form) ≡ rule_of_form form name) (sym is) refl
valued_is form name (inr is) =
    subst (λ (form : Form). valued name (is_required_form form) (action_of_form form) ≡ rule_of_form form name) (sym is) refl

-- the rule after the calls that are made for each form
acted : (c : After-action-arg) → rule_of c.action-arg.result ≡ begun c.args.argument.now.0.now c.is_required.result c.action_of.result
acted c =
    let name = c.args.argument.now.0.now in
    let first : rule_of c.help.result ≡ new_rule name = ap rule_of c.help.ensures ∙ c.new.ensures.rule in
    let second : rule_of c.required.result ≡ record (new_rule name) { required = c.is_required.result } =
    ap rule_of c.required.ensures ∙ ap (λ (r : Rule). record r { required = c.is_required.result }) first in
    ap rule_of c.action-arg.ensures ∙ ap (λ (r : Rule). record r { action = Some c.action_of.result }) second

pub returns-in-Value-clause-rule : goal.returns-in-Value-clause-rule
returns-in-Value-clause-rule c =
    let name = c.args.argument.now.0.now in
    let action = acted (goal.at.returns-in-Value-clause-rule c).After-action-arg in
    let option : rule_of c.long-in-Value.result ≡ named name c.is_required.result c.action_of.result =
    ap rule_of c.long-in-Value.ensures ∙ ap (λ (r : Rule). record r { long = Some name }) action in
    let value : rule_of c.value_name.result ≡ valued name c.is_required.result c.action_of.result =
    ap rule_of c.value_name.ensures ∙ ap (λ (r : Rule). record r { value_names = 1 }) option in
    value ∙ ap₂ (valued name) c.is_required.ensures c.action_of.ensures
    ∙ valued_is c.args.argument.now.1 name c.in-Value.is

pub returns-in-File-clause-rule : goal.returns-in-File-clause-rule
returns-in-File-clause-rule c =
    let name = c.args.argument.now.0.now in
    acted (goal.at.returns-in-File-clause-rule c).After-action-arg
    ∙ ap₂ (begun name) c.is_required.ensures c.action_of.ensures ∙ filed_is c.args.argument.now.1 name c.in-File.is

pub returns-in-Flag-clause-rule : goal.returns-in-Flag-clause-rule
returns-in-Flag-clause-rule c =
    let name = c.args.argument.now.0.now in
    let action = acted (goal.at.returns-in-Flag-clause-rule c).After-action-arg in
    let option : rule_of c.long.result ≡ named name c.is_required.result c.action_of.result =
    ap rule_of c.long.ensures ∙ ap (λ (r : Rule). record r { long = Some name }) action in
    option ∙ ap₂ (named name) c.is_required.ensures c.action_of.ensures ∙ flagged_is c.args.argument.now.1 name c.in-Flag.is
