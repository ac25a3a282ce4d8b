use Rattle.std.specs.Prelude.{IfErr, IfOk, List, codes}
use Rattle.std.specs.Str.{bytes_eq}
use Rattle.std.proofs.Common.{◌≡◌, ◌∙◌, false, inl, inr, refl, subst, sym, true≢false}
use Rattle.std.proofs.lemmas.Slice.Eq.{bytes_eq-Decides}
use Rattle.clap.specs.Words.{Row, Text, found_of, rows_of}
use Rattle.command_line.specs.Jobs.{HasFiles, HasScenario, HasTrace, HasTraces, IsJobOf, IsMisspelledOf, IsSubcommand}
use Rattle.command_line.proofs.reader.job_of.Goals as goal

-- a name isn't equal to two different texts
other : {P : Type 0} (name first second : Text) → bytes_eq first second ≡ false → name ≡ first → name ≡ second → P
other name first second differ e f = absurd (true≢false (sym ((bytes_eq-Decides first second).1 (sym e ∙ f)) ∙ differ))

pass_files : (name : Text) (rows : List Row) → name ≡ codes "pass" → IsSubcommand name rows → HasFiles rows
pass_files name rows is h =
    elim h [
      | inl pass ↦ pass.1
      | inr h1 ↦ elim h1 [
        | inl run ↦ other name (codes "pass") (codes "run") refl is run.0
        | inr h2 ↦ elim h2 [
          | inl show ↦ other name (codes "pass") (codes "show") refl is show.0
          | inr h3 ↦ elim h3 [
            | inl serve ↦ other name (codes "pass") (codes "serve") refl is serve
            | inr drive ↦ other name (codes "pass") (codes "drive") refl is drive.0
          ]
        ]
      ]
    ]

run_files : (name : Text) (rows : List Row) → name ≡ codes "run" → IsSubcommand name rows → HasScenario rows
run_files name rows is h =
    elim h [
      | inl pass ↦ other name (codes "run") (codes "pass") refl is pass.0
      | inr h1 ↦ elim h1 [
        | inl run ↦ run.1
        | inr h2 ↦ elim h2 [
          | inl show ↦ other name (codes "run") (codes "show") refl is show.0
          | inr h3 ↦ elim h3 [
            | inl serve ↦ other name (codes "run") (codes "serve") refl is serve
            | inr drive ↦ other name (codes "run") (codes "drive") refl is drive.0
          ]
        ]
      ]
    ]

show_file : (name : Text) (rows : List Row) → name ≡ codes "show" → IsSubcommand name rows → HasTrace rows
show_file name rows is h =
    elim h [
      | inl pass ↦ other name (codes "show") (codes "pass") refl is pass.0
      | inr h1 ↦ elim h1 [
        | inl run ↦ other name (codes "show") (codes "run") refl is run.0
        | inr h2 ↦ elim h2 [
          | inl show ↦ show.1
          | inr h3 ↦ elim h3 [
            | inl serve ↦ other name (codes "show") (codes "serve") refl is serve
            | inr drive ↦ other name (codes "show") (codes "drive") refl is drive.0
          ]
        ]
      ]
    ]

drive_files : (name : Text) (rows : List Row) → name ≡ codes "drive" → IsSubcommand name rows → HasTraces rows
drive_files name rows is h =
    elim h [
      | inl pass ↦ other name (codes "drive") (codes "pass") refl is pass.0
      | inr h1 ↦ elim h1 [
        | inl run ↦ other name (codes "drive") (codes "run") refl is run.0
        | inr h2 ↦ elim h2 [
          | inl show ↦ other name (codes "drive") (codes "show") refl is show.0
          | inr h3 ↦ elim h3 [
            | inl serve ↦ other name (codes "drive") (codes "serve") refl is serve
            | inr drive ↦ drive.1
          ]
        ]
      ]
    ]

pub pass_job-requires : goal.pass_job-requires
pass_job-requires c = pass_files c.args.name.now (rows_of (found_of c.args.matches.now)) c.in-pass.is c.requires

pub run_job-requires : goal.run_job-requires
run_job-requires c = run_files c.args.name.now (rows_of (found_of c.args.matches.now)) c.in-run.is c.requires

pub path-requires : goal.path-requires
path-requires c = show_file c.args.name.now (rows_of (found_of c.args.matches.now)) c.in-show.is c.requires

pub drive_job-requires : goal.drive_job-requires
drive_job-requires c = drive_files c.args.name.now (rows_of (found_of c.args.matches.now)) c.in-drive.is c.requires

pub returns-in-pass-clause-job : goal.returns-in-pass-clause-job
returns-in-pass-clause-job c =
    subst (λ (name : Text). IfOk c.pass_job.result (IsJobOf (name, rows_of (found_of c.args.matches.now)))) (sym c.in-pass.is)
    c.pass_job.ensures.job

pub returns-in-pass-clause-refused : goal.returns-in-pass-clause-refused
returns-in-pass-clause-refused c =
    subst (λ (name : Text). IfErr c.pass_job.result (IsMisspelledOf name (rows_of (found_of c.args.matches.now)))) (sym c.in-pass.is)
    c.pass_job.ensures.refused

pub returns-in-serve-clause-job : goal.returns-in-serve-clause-job
returns-in-serve-clause-job c =
    subst (λ (name : Text). IfOk c.serve_job.result (IsJobOf (name, rows_of (found_of c.args.matches.now)))) (sym c.in-serve.is)
    c.serve_job.ensures.job

pub returns-in-serve-clause-refused : goal.returns-in-serve-clause-refused
returns-in-serve-clause-refused c =
    subst (λ (name : Text). IfErr c.serve_job.result (IsMisspelledOf name (rows_of (found_of c.args.matches.now)))) (sym c.in-serve.is)
    c.serve_job.ensures.refused

pub returns-in-drive-clause-job : goal.returns-in-drive-clause-job
returns-in-drive-clause-job c =
    subst (λ (name : Text). IfOk c.drive_job.result (IsJobOf (name, rows_of (found_of c.args.matches.now)))) (sym c.in-drive.is)
    c.drive_job.ensures.job

pub returns-in-drive-clause-refused : goal.returns-in-drive-clause-refused
returns-in-drive-clause-refused c =
    subst (λ (name : Text). IfErr c.drive_job.result (IsMisspelledOf name (rows_of (found_of c.args.matches.now)))) (sym c.in-drive.is)
    c.drive_job.ensures.refused

none_other : (name : Text) (rows : List Row) → ¬ (name ≡ codes "pass") → ¬ (name ≡ codes "run") → ¬ (name ≡ codes "show")
    → ¬ (name ≡ codes "serve") → ¬ (name ≡ codes "drive") → IsSubcommand name rows → ⊥
none_other name rows not_pass not_run not_show not_serve not_drive h =
    elim h [
      | inl pass ↦ not_pass pass.0
      | inr h1 ↦ elim h1 [
        | inl run ↦ not_run run.0
        | inr h2 ↦ elim h2 [
          | inl show ↦ not_show show.0
          | inr h3 ↦ elim h3 [
            | inl serve ↦ not_serve serve
            | inr drive ↦ not_drive drive.0
          ]
        ]
      ]
    ]

pub unreachable-requires : goal.unreachable-requires
unreachable-requires c =
    none_other c.args.name.now (rows_of (found_of c.args.matches.now)) c.in_default.not-pass c.in_default.not-run c.in_default.not-show
    c.in_default.not-serve c.in_default.not-drive c.requires
