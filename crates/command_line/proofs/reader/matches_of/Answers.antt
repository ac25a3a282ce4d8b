use Rattle.std.proofs.Common.{◌≡◌, ◌∙◌, ap, subst, sym}
use Rattle.clap.proofs.CallerLemmas.{subcommand_required}
use Rattle.clap.specs.Faults.{is_simple_and_free}
use Rattle.clap.specs.Kinds.{HasKind, Kinds}
use Rattle.command_line.specs.Shape.{program_app, refusals}
use Rattle.clap.specs.Simple.{App, is_simple}
use Rattle.std.specs.Prelude.{map}
use Rattle.clap.specs.Words.{app_of}
use Rattle.command_line.proofs.Commands.{found_is, needs_subcommand, refusals_are, refused_result, simple, simple_and_free}
use Rattle.command_line.proofs.reader.matches_of.Goals as goal

pub returns-in_err-matches-clause-refused : goal.returns-in_err-matches-clause-refused
returns-in_err-matches-clause-refused g c =
    let is : app_of c.in_ok-command.command ≡ program_app = c.in_ok-command.ensures.app in
    let words = map g.S.AsStr.text c.args.words.now in
    let error = c.in_err-matches.field-0.0 in
    let known = c.in_err-matches.ensures.kinds (ap is_simple_and_free is ∙ simple_and_free) in
    refused_result (refusals words) error c.from_residual-in_err-matches.result
    (subst (λ (kinds : Kinds). HasKind kinds error) (refusals_are (app_of c.in_ok-command.command) words is) known)
    c.from_residual-in_err-matches.ensures.1

pub returns-clause-taken : goal.returns-clause-taken
returns-clause-taken g c =
    let is : app_of c.in_ok-command.command ≡ program_app = c.in_ok-command.ensures.app in
    let words = map g.S.AsStr.text c.args.words.now in
    sym (refusals_are (app_of c.in_ok-command.command) words is)
    ∙ c.in_ok-matches.ensures.kinds (ap is_simple_and_free is ∙ simple_and_free)

pub returns-clause-found : goal.returns-clause-found
returns-clause-found g c =
    let is : app_of c.in_ok-command.command ≡ program_app = c.in_ok-command.ensures.app in
    let words = map g.S.AsStr.text c.args.words.now in
    let m = c.in_ok-matches in (
      subcommand_required c.in_ok-command.command m.matches m.ensures.parsed c.in_ok-command.ensures.no_globals
          (ap (λ (a : App). a.top.subcommand_required) is ∙ needs_subcommand),
      (m.ensures.matches (ap is_simple is ∙ simple)).1 ∙ found_is (app_of c.in_ok-command.command) words is,
    )
