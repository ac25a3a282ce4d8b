-- The program's command line without its help texts, as clap's contracts describe it (our choice).
use Rattle.std.specs.Prelude.{◌-◌, ◌^◌, ℕ, List, Option, Some, codes, true}
use Rattle.clap.specs.Words.{App, Row, Rule, Text, fault_of, new_app, new_rule, subcommand_of, with_rule, with_subcommand}
use Rattle.clap.specs.Kinds.{Kinds}
use Rattle.clap.specs.Simple.{on_top}
use Rattle.clap.specs.declared.builder.ArgAction.TheVariants as action
use Rattle.clap.specs.declared.builder.value_parser.ValueParser.TheVariants as parsers

-- an option that takes one value, and occurs at most once; its value has one name in the help text
abbrev pub option_rule : Text → Rule
option_rule name = record (new_rule name) { long = Some name; action = Some action.Set; value_names = 1 }

-- such an option, whose value clap accepts only if it is a decimal number within these bounds
abbrev pub number_rule : (least most : ℕ) → Text → Rule
number_rule least most name = record (option_rule name) { parser = Some (parsers.Unsigned least most) }

-- an option whose value is a decimal number of at most this many bits
abbrev pub bits_rule : (bits : ℕ) → Text → Rule
bits_rule bits name = number_rule 0 (2 ^ bits - 1) name

-- an option that takes no value, and occurs at most once
abbrev pub flag_rule : Text → Rule
flag_rule name = record (new_rule name) { long = Some name; action = Some action.SetTrue }

-- an option that takes one value, and occurs exactly once
abbrev pub required_rule : Text → Rule
required_rule name = record (option_rule name) { required = true }

-- the path of a file or a folder, which must be given
abbrev pub file_rule : Text → Rule
file_rule name = record (new_rule name) { required = true; action = Some action.Set }

-- `pass [--address A] [--group G] [--vlan N] [--nanos] IN OUT`
unfoldable pub pass_app : App
pass_app =
    with_rule (with_rule (with_rule (with_rule (with_rule (with_rule (new_app (codes "pass"))
    (option_rule (codes "address"))) (option_rule (codes "group"))) (number_rule 0 4095 (codes "vlan"))) (flag_rule (codes "nanos")))
    (file_rule (codes "IN"))) (file_rule (codes "OUT"))

-- `run [--wires] [--nanos] [--events FILE] SCENARIO OUTDIR`
unfoldable pub run_app : App
run_app =
    with_rule (with_rule (with_rule (with_rule (with_rule (new_app (codes "run"))
    (flag_rule (codes "wires"))) (flag_rule (codes "nanos"))) (option_rule (codes "events"))) (file_rule (codes "SCENARIO")))
    (file_rule (codes "OUTDIR"))

-- `show TRACE`
unfoldable pub show_app : App
show_app = with_rule (new_app (codes "show")) (file_rule (codes "TRACE"))

-- `serve [--memory BYTES] [--registers ADDRESS] [--address A] [--image FILE] [--link N|never] [--rxa N] [--seed N] [--missed N]
-- [--schedule FILE] [--record FILE]`
unfoldable pub serve_app : App
serve_app =
    with_rule (with_rule (with_rule (with_rule (with_rule (with_rule (with_rule (with_rule (with_rule (with_rule (new_app (codes "serve"))
    (option_rule (codes "memory"))) (option_rule (codes "registers"))) (option_rule (codes "address")))
    (option_rule (codes "image"))) (option_rule (codes "link"))) (number_rule 2 48 (codes "rxa"))) (bits_rule 64 (codes "seed")))
    (bits_rule 32 (codes "missed"))) (option_rule (codes "schedule"))) (option_rule (codes "record"))

-- `drive [--registers ADDRESS] [--memory BYTES] [--rx N] [--tx N] [--buffers N] [--expect N] [--idle N] --send IN --receive OUT`
unfoldable pub drive_app : App
drive_app =
    with_rule (with_rule (with_rule (with_rule (with_rule (with_rule (with_rule (with_rule (with_rule (new_app (codes "drive"))
    (option_rule (codes "registers"))) (option_rule (codes "memory"))) (bits_rule 16 (codes "rx"))) (bits_rule 16 (codes "tx")))
    (bits_rule 16 (codes "buffers"))) (bits_rule 64 (codes "expect"))) (bits_rule 64 (codes "idle")))
    (required_rule (codes "send"))) (required_rule (codes "receive"))

-- the program, which has a version and requires a subcommand, and shows its help if no word follows its name
unfoldable pub program_app : App
unfolding pass_app run_app show_app serve_app drive_app
program_app =
    with_subcommand (with_subcommand (with_subcommand (with_subcommand (with_subcommand
    (on_top (λ s. record s { has_version = true; subcommand_required = true; arg_required_else_help = true })
    (new_app (codes "nicbench")))
    pass_app.top) run_app.top) show_app.top) serve_app.top) drive_app.top

-- the kinds of error that clap may return for the words; an empty list if clap accepts the words
unfoldable pub refusals : List Text → Kinds
refusals words = fault_of program_app words

-- the subcommand that clap finds in the words, with the texts of each of its options, flags and paths; or `None` if clap finds no
-- subcommand
unfoldable pub found_in : List Text → Option (Text × List Row)
found_in words = subcommand_of program_app words
