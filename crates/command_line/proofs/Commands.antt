-- The program as clap builds it. If clap accepts the words, the subcommand is one of the program's five, and its required paths are given.
-- What clap's clauses state of the program, of its errors and of the subcommand that was entered.
use Rattle.std.specs.List.{find, list_all, slice_index_or}
use Rattle.std.specs.Option.{option_map, option_map_or}
use Rattle.std.specs.Prelude.{Result, Ok, Err, IfErr, IsErrAnd, IsSome, codes, is_some}
use Rattle.std.specs.Str.{bytes_eq}
use Rattle.std.proofs.lemmas.Option.{same_Some}
use Rattle.std.proofs.lemmas.Slice.Eq.{bytes_eq-Decides}
use Rattle.std.proofs.Common.{◌≡◌, ◌∙◌, ◌||◌, Bool, cond, true, false, not, refl, sym, subst, ap, ap₂, List, [], ◌∷◌, Option, Some, None}
use Rattle.std.proofs.Common.{◌⊎◌, ℕ, inl, inr, true≢false}
use Rattle.clap.proofs.OnLiterals.{clap_on_literals}
use Rattle.clap.specs.Faults.{check_fault, entered_fault, level_fault}
use Rattle.clap.specs.Kinds.{HasKind, IsAmong, Kinds, check_kinds}
use Rattle.clap.specs.Simple.{App, Shape, argument_words, built, entered, is_simple, label_of, names_of, new_shape, rows_at}
use Rattle.clap.specs.Faults.{fault_of, is_simple_and_free}
use Rattle.clap.specs.Simple.{subcommand_of, subcommand_rows_of}
use Rattle.clap.specs.Values.{kind_of}
use Rattle.clap.specs.declared.error.Error.{Error}
use Rattle.command_line.specs.Errors.{IsFromClap, IsRefusedBy}
use Rattle.command_line.specs.declared.error.LineError.{LineError}
use Rattle.command_line.specs.declared.error.LineError.TheVariants.{Memory, NotUnicode, Value, Words}
use Rattle.clap.specs.Takes.{is_given}
use Rattle.clap.specs.Walk.{Row, Text, answers_to, first_of, nothing_held, rows_after, rows_of, walk}
use Rattle.clap.specs.Matches.{found_of, subcommand_name_of}
use Rattle.clap.specs.declared.parser.matches.ArgMatches.{ArgMatches}
use Rattle.clap.specs.declared.parser.matches.ArgMatches.TheViews.{out-ArgMatches, out-SubCommand}
use Rattle.std.specs.Borrow.{Bor}
use Rattle.std.specs.Box.{box_value}
use Rattle.command_line.specs.Jobs.{HasFiles, HasScenario, HasTrace, HasTraces, IsSubcommand}
use Rattle.command_line.specs.Shape.{drive_app, found_in, pass_app, program_app, refusals, run_app, serve_app, show_app}
use Rattle.command_line.proofs.Uses.{EachHasValue, gives, given_has_first, nothing_missing}
use Rattle.command_line.proofs.Walks.{StopsAtOther, level_below, level_checks, level_rows, level_walk}

pub simple : is_simple program_app ≡ true
unfolding clap_on_literals program_app pass_app run_app show_app serve_app drive_app
simple = refl

pub simple_and_free : is_simple_and_free program_app ≡ true
unfolding clap_on_literals program_app pass_app run_app show_app serve_app drive_app
simple_and_free = refl

-- ---- the program as clap builds it

-- the program's subcommands by their indices: 0 `pass`, 1 `run`, 2 `show`, 3 `serve`, 4 `drive`, 5 `help`
unfoldable built_sub : ℕ → Shape
built_sub index = slice_index_or (built program_app).subs index (new_shape [])

top_gives : list_all gives (built program_app).top.rules ≡ true
unfolding clap_on_literals program_app pass_app run_app show_app serve_app drive_app
top_gives = refl

-- the names of the subcommands that clap builds; each of their arguments has a value if it is given
record AreBuilt : Type 0 where
  pass : ((built_sub 0).name ≡ codes "pass") × (list_all gives (built_sub 0).rules ≡ true)
  run : ((built_sub 1).name ≡ codes "run") × (list_all gives (built_sub 1).rules ≡ true)
  show : ((built_sub 2).name ≡ codes "show") × (list_all gives (built_sub 2).rules ≡ true)
  serve : (built_sub 3).name ≡ codes "serve"
  drive : ((built_sub 4).name ≡ codes "drive") × (list_all gives (built_sub 4).rules ≡ true)

are_built : AreBuilt
unfolding clap_on_literals program_app pass_app run_app show_app serve_app drive_app built_sub
are_built = record { pass = (refl, refl); run = (refl, refl); show = (refl, refl); serve = refl; drive = (refl, refl) }

has_help : (built program_app).top.disable_help_subcommand ≡ false
unfolding clap_on_literals program_app pass_app run_app show_app serve_app drive_app
has_help = refl

six_subcommands : (built program_app).subs ≡ built_sub 0 ∷ built_sub 1 ∷ built_sub 2 ∷ built_sub 3 ∷ built_sub 4 ∷ built_sub 5 ∷ []
unfolding clap_on_literals program_app pass_app run_app show_app serve_app drive_app built_sub
six_subcommands = refl

help_answers : (word : Text) → answers_to word (label_of (built_sub 5)) ≡ (bytes_eq (codes "help") word || false)
unfolding clap_on_literals program_app pass_app run_app show_app serve_app drive_app built_sub
help_answers word = refl

-- the fault of a subcommand that requires two paths, of which some may not be given
abbrev misses_of : (first second : Text) → List Row → Kinds
misses_of first second rows = check_kinds false false (not (is_given first rows) || (not (is_given second rows) || false))

-- the faults of subcommands without one of their paths
record MissPaths (rows : List Row) : Type 0 where
  pass : check_fault (built_sub 0) rows false ≡ misses_of (codes "IN") (codes "OUT") rows
  run : check_fault (built_sub 1) rows false ≡ misses_of (codes "SCENARIO") (codes "OUTDIR") rows
  show : check_fault (built_sub 2) rows false ≡ check_kinds false false (not (is_given (codes "TRACE") rows) || false)
  drive : check_fault (built_sub 4) rows false ≡ misses_of (codes "send") (codes "receive") rows

miss_paths : (rows : List Row) → MissPaths rows
unfolding clap_on_literals program_app pass_app run_app show_app serve_app drive_app built_sub
miss_paths rows = record { pass = refl; run = refl; show = refl; drive = refl }

-- ---- the subcommand that was found

not_second : (text word : Text) → bytes_eq word text ≡ false → (bytes_eq text word || false) ≡ false
not_second text word e = go (bytes_eq text word) refl
  where
    go : (b : Bool) → bytes_eq text word ≡ b → (b || false) ≡ false
    go false same = refl
    go true same =
        let back : bytes_eq word text ≡ true = (bytes_eq-Decides word text).1 (sym ((bytes_eq-Decides text word).0 same)) in
        absurd (true≢false (sym back ∙ e))

-- the shape was entered with these words, without a fault, and has this name and these rows
record IsEntered (s : Shape) (words : List Text) (name : Text) (rows : List Row) : Type 0 where
  faultless : level_fault s [] nothing_held words false [] ≡ []
  named : name ≡ s.name
  rows_are : rows ≡ rows_after s.rules [] words

entered_is : (s : Shape) (words : List Text) (name : Text) (rows : List Row) → level_fault s [] nothing_held words false [] ≡ []
    → Some (rows_at s words) ≡ Some (name, rows) → IsEntered s words name rows
entered_is s words name rows f found =
    let same : (name, rows) ≡ rows_at s words = sym (same_Some (rows_at s words) (name, rows) found) in
    record {
      faultless = f;
      named = ap (λ (p : Text × List Row). p.0) same;
      rows_are = ap (λ (p : Text × List Row). p.1) same;
    }

-- one of the program's five subcommands was entered
abbrev IsEnteredAmong : (first second third fourth fifth : Shape) (words : List Text) (name : Text) (rows : List Row) → Type 0
IsEnteredAmong first second third fourth fifth words name rows =
    IsEntered first words name rows ⊎ (IsEntered second words name rows
    ⊎ (IsEntered third words name rows ⊎ (IsEntered fourth words name rows ⊎ IsEntered fifth words name rows)))

-- the first of six subcommands that has the name
abbrev first_that : (is_first is_second is_third is_fourth is_fifth is_sixth : Bool)
    → (first second third fourth fifth sixth : Shape) → Option Shape
first_that is_first is_second is_third is_fourth is_fifth is_sixth first second third fourth fifth sixth =
    cond is_first (Some first) (cond is_second (Some second) (cond is_third (Some third)
    (cond is_fourth (Some fourth) (cond is_fifth (Some fifth) (cond is_sixth (Some sixth) None)))))

first_of_six : (first second third fourth fifth sixth : Shape) (is_first is_second is_third is_fourth is_fifth is_sixth : Bool)
    (words : List Text) (name : Text) (rows : List Row)
    → is_sixth ≡ false
    → option_map_or (λ s. level_fault s [] nothing_held words false [])
    (first_that is_first is_second is_third is_fourth is_fifth is_sixth first second third fourth fifth sixth) [] ≡ []
    → option_map (λ s. rows_at s words)
    (first_that is_first is_second is_third is_fourth is_fifth is_sixth first second third fourth fifth sixth) ≡ Some (name, rows)
    → IsEnteredAmong first second third fourth fifth words name rows
first_of_six first second third fourth fifth sixth true is_second is_third is_fourth is_fifth is_sixth words name rows e f found =
    inl (entered_is first words name rows f found)
first_of_six first second third fourth fifth sixth false true is_third is_fourth is_fifth is_sixth words name rows e f found =
    inr (inl (entered_is second words name rows f found))
first_of_six first second third fourth fifth sixth false false true is_fourth is_fifth is_sixth words name rows e f found =
    inr (inr (inl (entered_is third words name rows f found)))
first_of_six first second third fourth fifth sixth false false false true is_fifth is_sixth words name rows e f found =
    inr (inr (inr (inl (entered_is fourth words name rows f found))))
first_of_six first second third fourth fifth sixth false false false false true is_sixth words name rows e f found =
    inr (inr (inr (inr (entered_is fifth words name rows f found))))
first_of_six first second third fourth fifth sixth false false false false false true words name rows e f found = absurd (true≢false e)
first_of_six first second third fourth fifth sixth false false false false false false words name rows e f found = absurd (cc)

entered_other : (a : App) (disabled : Bool) (stop : Option (Text × List Text)) (name : Text) (rows : List Row)
    → a.subs ≡ built_sub 0 ∷ built_sub 1 ∷ built_sub 2 ∷ built_sub 3 ∷ built_sub 4 ∷ built_sub 5 ∷ []
    → disabled ≡ false → StopsAtOther disabled stop → entered_fault a stop ≡ [] → entered a stop ≡ Some (name, rows)
    → (words : List Text) × IsEnteredAmong (built_sub 0) (built_sub 1) (built_sub 2) (built_sub 3) (built_sub 4) words name rows
entered_other a disabled None name rows subs enabled other f found = absurd (cc)
entered_other a disabled (Some p) name rows subs enabled other f found =
    let answers : Shape → Bool = λ s. answers_to p.0 (label_of s) in
    let fault = subst (λ (l : List Shape). option_map_or (λ s. level_fault s [] nothing_held p.1 false []) (find answers l) []
    ≡ []) subs f in
    let met = subst (λ (l : List Shape). option_map (λ s. rows_at s p.1) (find answers l) ≡ Some (name, rows)) subs found in
    let is_sixth : answers (built_sub 5) ≡ false = help_answers p.0 ∙ not_second (codes "help") p.0 (other enabled) in (
      p.1,
      first_of_six (built_sub 0) (built_sub 1) (built_sub 2) (built_sub 3) (built_sub 4) (built_sub 5)
          (answers (built_sub 0)) (answers (built_sub 1)) (answers (built_sub 2)) (answers (built_sub 3)) (answers (built_sub 4))
          (answers (built_sub 5)) p.1 name rows is_sixth fault met,
    )

both_given : (input output : Bool) → (not input || (not output || false)) ≡ false → (input ≡ true) × (output ≡ true)
both_given true true e = (refl, refl)
both_given true false e = absurd (true≢false e)
both_given false output e = absurd (true≢false e)

one_given : (trace : Bool) → (not trace || false) ≡ false → trace ≡ true
one_given true e = refl
one_given false e = absurd (true≢false e)

two_there : (s : Shape) (first second : Text) (rows : List Row) → check_fault s rows false ≡ misses_of first second rows
    → EachHasValue rows → check_fault s rows false ≡ [] → IsSome (first_of first rows) × IsSome (first_of second rows)
two_there s first second rows misses has f =
    let given = both_given (is_given first rows) (is_given second rows) (nothing_missing false false _ (sym misses ∙ f)) in
    (given_has_first first rows has given.0, given_has_first second rows has given.1)

trace_there : (rows : List Row) → EachHasValue rows → check_fault (built_sub 2) rows false ≡ [] → HasTrace rows
trace_there rows has f = given_has_first (codes "TRACE") rows has
    (one_given (is_given (codes "TRACE") rows) (nothing_missing false false _ (sym (miss_paths rows).show ∙ f)))

-- the subcommand `own` was entered, and the paths that it requires are given
is_own : (s : Shape) (own : Text) (Has : List Row → Type 0) (words : List Text) (name : Text) (rows : List Row)
    → (s.name ≡ own) × (list_all gives s.rules ≡ true)
    → ((there : List Row) → EachHasValue there → check_fault s there false ≡ [] → Has there)
    → IsEntered s words name rows → (name ≡ own) × Has rows
is_own s own Has words name rows is there it =
    let each = level_rows s is.1 [] words false [] it.faultless in
    let has = there (rows_after s.rules [] words) each (level_checks s is.1 [] words false [] it.faultless) in
    (it.named ∙ is.0, subst Has (sym it.rows_are) has)

pub taken : (words : List Text) (name : Text) (rows : List Row) → refusals words ≡ [] → found_in words ≡ Some (name, rows)
    → IsSubcommand name rows
unfolding refusals found_in
taken words name rows f found =
    let a = built program_app in
    let rest = argument_words program_app words in
    let stop = (walk a.top.rules (names_of a) nothing_held rest).stopped in
    let below = level_below a.top top_gives (names_of a) rest (is_some (entered a stop)) (entered_fault a stop) f in
    let good = level_walk a.top top_gives (names_of a) rest (is_some (entered a stop)) (entered_fault a stop) f in
    let it = entered_other a a.top.disable_help_subcommand stop name rows six_subcommands has_help good.1 below found in
    elim it.1 [
      | inl pass ↦ inl (is_own (built_sub 0) (codes "pass") HasFiles it.0 name rows are_built.pass
          (λ there. two_there (built_sub 0) (codes "IN") (codes "OUT") there (miss_paths there).pass) pass)
      | inr other ↦ elim other [
        | inl run ↦ inr (inl (is_own (built_sub 1) (codes "run") HasScenario it.0 name rows are_built.run
            (λ there. two_there (built_sub 1) (codes "SCENARIO") (codes "OUTDIR") there (miss_paths there).run) run))
        | inr later ↦ elim later [
          | inl show ↦ inr (inr (inl (is_own (built_sub 2) (codes "show") HasTrace it.0 name rows are_built.show trace_there show)))
          | inr last ↦ elim last [
            | inl serve ↦ inr (inr (inr (inl (serve.named ∙ are_built.serve))))
            | inr drive ↦ inr (inr (inr (inr (is_own (built_sub 4) (codes "drive") HasTraces it.0 name rows are_built.drive
                (λ there. two_there (built_sub 4) (codes "send") (codes "receive") there (miss_paths there).drive) drive))))
          ]
        ]
      ]
    ]

-- ---- the clauses of clap for the program

pub needs_subcommand : program_app.top.subcommand_required ≡ true
unfolding program_app
needs_subcommand = refl

pub refusals_are : (a : App) (words : List Text) → a ≡ program_app → fault_of a words ≡ refusals words
unfolding refusals
refusals_are a words e = ap (λ (x : App). fault_of x words) e

pub found_is : (a : App) (words : List Text) → a ≡ program_app → subcommand_of a words ≡ found_in words
unfolding found_in
found_is a words e = ap (λ (x : App). subcommand_of x words) e

pub refused_by : (kinds : Kinds) (error : Error) (made : LineError) → HasKind kinds error → IsFromClap error made → IsRefusedBy kinds made
refused_by kinds error Memory h m = tt
refused_by kinds error (Value value) h m = absurd m
refused_by kinds error NotUnicode h m = absurd m
refused_by kinds error (Words same) h m =
    elim h [
      | inl memory ↦ absurd (m.1 memory)
      | inr among ↦ subst (λ (x : Error). IsAmong (kind_of x) kinds) (sym m.0) among
    ]

pub refused_result : {T : Type 0} (kinds : Kinds) (error : Error) (r : Result T LineError) → HasKind kinds error
    → IsErrAnd r (IsFromClap error)
    → IfErr r (IsRefusedBy kinds)
refused_result kinds error (Ok x) h m = tt
refused_result kinds error (Err made) h m = refused_by kinds error made h m

pair_met : {X : Type 0} (o : Option X) (h : X → Text × List Row) (name : Text) (rows : List Row) → option_map (λ x. (h x).0) o ≡ Some name
    → option_map (λ p. p.1) (option_map h o) ≡ Some rows → option_map h o ≡ Some (name, rows)
pair_met None h name rows e f = absurd (cc)
pair_met (Some x) h name rows e f =
    let first : (h x).0 ≡ name = same_Some (h x).0 name e in
    let second : (h x).1 ≡ rows = same_Some (h x).1 rows f in
    ap₂ (λ (u : Text) (v : List Row). Some (u, v)) first second

-- the name and the rows that the getter returns are those of the subcommand that was entered
pub subcommand_got : (words : List Text) (m : ArgMatches) (got : Option (Bor Text × Bor ArgMatches)) (met : Bor Text × Bor ArgMatches)
    → got ≡ Some met
    → option_map (λ p. p.0.now) got ≡ subcommand_name_of m
    → option_map (λ p. rows_of (found_of p.1.now)) got ≡ option_map (λ p. p.1) (subcommand_rows_of m)
    → subcommand_rows_of m ≡ found_in words → found_in words ≡ Some (met.0.now, rows_of (found_of met.1.now))
subcommand_got words m got met is name rows found =
    let named : subcommand_name_of m ≡ Some met.0.now = sym name
    ∙ ap (λ (o : Option (Bor Text × Bor ArgMatches)). option_map (λ p. p.0.now) o) is in
    let rowed : option_map (λ p. p.1) (subcommand_rows_of m) ≡ Some (rows_of (found_of met.1.now)) =
    sym rows ∙ ap (λ (o : Option (Bor Text × Bor ArgMatches)). option_map (λ p. rows_of (found_of p.1.now)) o) is in
    sym found ∙ pair_met (out-ArgMatches m).subcommand
    (λ b. ((out-SubCommand (box_value b)).name.now, rows_of (found_of (out-SubCommand (box_value b)).matches)))
    met.0.now (rows_of (found_of met.1.now)) named rowed
