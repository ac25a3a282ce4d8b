-- If no use of an argument has a fault, each row has a value, and each required argument is given.
use Rattle.std.specs.List.{find, fold, list_all}
use Rattle.std.specs.Option.{option_map_or}
use Rattle.std.specs.Str.{bytes_eq}
use Rattle.std.specs.Prelude.{IsSome, option_and_then, slice_get}
use Rattle.std.proofs.Common.{◌≡◌, ◌<◌, ℕ, Bool, cond, true, false, nat_lt, refl, sym, arith, List, [], ◌∷◌, ◌++◌, length, Option, Some}
use Rattle.std.proofs.Common.{None, true≢false}
use Rattle.std.proofs.lemmas.List.{length-append}
use Rattle.clap.proofs.WalkLemmas.{both}
use Rattle.clap.specs.Facts.{explicit_source, unwrap_or_range}
use Rattle.clap.specs.Faults.{action_fault, react_fault, settle_fault, use_fault}
use Rattle.clap.specs.Kinds.{Kinds, check_kinds, or_else, range_kinds}
use Rattle.clap.specs.Takes.{is_given}
use Rattle.clap.specs.Walk.{Held, Row, Rule, Text, action_of, arg_by_id, at_row, default_rows, first_of, has_row, most_values, more_values}
use Rattle.clap.specs.Walk.{reacted, reading_by, settled, settled_rows, used, used_as, used_by_id, values_or_missing, with_default}
use Rattle.clap.specs.Walk.{with_values, without}
use Rattle.clap.specs.declared.builder.action.ArgAction.{ArgAction}
use Rattle.clap.specs.declared.builder.action.ArgAction.TheVariants.{Set, Append, SetTrue, SetFalse, Count, Help, HelpShort, HelpLong}
use Rattle.clap.specs.declared.builder.action.ArgAction.TheVariants.{Version}
use Rattle.clap.specs.declared.builder.value_parser.Reading.{Reading}
use Rattle.clap.specs.declared.error.kind.ErrorKind.{ErrorKind}
use Rattle.clap.specs.declared.parser.matches.ValueSource.{ValueSource}

-- ---- lists of kinds

pub some_kind : {P : Type 0} (k : ErrorKind) (ks : Kinds) → k ∷ ks ≡ [] → P
some_kind k ks e = absurd (cc)

pub first_none : (a b : Kinds) → or_else a b ≡ [] → a ≡ []
first_none [] b e = refl
first_none (k ∷ ks) b e = e

pub second_none : (a b : Kinds) → or_else a b ≡ [] → b ≡ []
second_none [] b e = e
second_none (k ∷ ks) b e = some_kind k ks e

-- ---- rows with values

abbrev pub HasValue : Row → Type 0
HasValue r = 0 < length r.values

abbrev pub EachHasValue : List Row → Type 0
EachHasValue [] = Unit {0}
EachHasValue (r ∷ rs) = HasValue r × EachHasValue rs

each_of_both : (xs ys : List Row) → EachHasValue xs → EachHasValue ys → EachHasValue (xs ++ ys)
each_of_both [] ys h k = k
each_of_both (x ∷ xs) ys h k = (h.0, each_of_both xs ys h.1 k)

each_of_either : (b : Bool) (xs ys : List Row) → EachHasValue xs → EachHasValue ys → EachHasValue (cond b xs ys)
each_of_either true xs ys h k = h
each_of_either false xs ys h k = k

at_row_keeps : (id : Text) (change : Row → List Row) (missing rows : List Row) → ((r : Row) → HasValue r → EachHasValue (change r))
    → EachHasValue missing → EachHasValue rows → EachHasValue (at_row id change missing rows)
at_row_keeps id change missing [] changed m h = m
at_row_keeps id change missing (r ∷ rs) changed m h =
    each_of_either (bytes_eq r.id id) (change r ++ rs) (r ∷ at_row id change missing rs) (each_of_both (change r) rs (changed r h.0) h.1)
    (h.0, at_row_keeps id change missing rs changed m h.1)

with_values_keeps : (id : Text) (how : Reading) (s : ValueSource) (v : Text) (vs : List Text) (rows : List Row) → EachHasValue rows
    → EachHasValue (with_values id how s (v ∷ vs) rows)
with_values_keeps id how s v vs rows h =
    at_row_keeps id (more_values s (v ∷ vs)) _ rows
    (λ r has. let more : 0 < length (r.values ++ v ∷ vs) = simp length-append (omega arith) in (more, tt))
    (let one : 0 < length (v ∷ vs) = omega arith in (one, tt)) h

without_keeps : (id : Text) (rows : List Row) → EachHasValue rows → EachHasValue (without id rows)
without_keeps id rows h = at_row_keeps id (λ _. []) [] rows (λ r has. tt) tt h

-- ---- a use of an argument

-- a use with this action and n values (with `missing` if n is 0) has a value, or asks for help or the version
abbrev pub gives_by : ArgAction → ℕ → (missing : List Text) → Bool
gives_by Set n missing = nat_lt 0 n
gives_by SetTrue n missing = nat_lt 0 (length missing)
gives_by Help n missing = true
gives_by Version n missing = true
gives_by _ n missing = false

abbrev pub gives : Rule → Bool
gives a = gives_by (action_of a) (unwrap_or_range a.range).start_inclusive a.missing

abbrev pub Gives : Option Rule → Type 0
Gives None = Unit {0}
Gives (Some a) = gives a ≡ true

gives_of_either : (b : Bool) (x y : Option Rule) → Gives x → Gives y → Gives (cond b x y)
gives_of_either true x y h k = h
gives_of_either false x y h k = k

pub found_gives : (p : Rule → Bool) (rules : List Rule) → list_all gives rules ≡ true → Gives (find p rules)
found_gives p [] e = tt
found_gives p (a ∷ rest) e =
    let parts = both (gives a) (list_all gives rest) e in
    gives_of_either (p a) (Some a) (find p rest) parts.0 (found_gives p rest parts.1)

some_values_keep : (id : Text) (how : Reading) (s : ValueSource) (values : List Text) (rows : List Row) → nat_lt 0 (length values) ≡ true
    → EachHasValue rows → EachHasValue (with_values id how s values rows)
some_values_keep id how s [] rows some h = absurd (true≢false (sym some))
some_values_keep id how s (v ∷ vs) rows some h = with_values_keeps id how s v vs rows h

flag_use_keeps : (a : Rule) (how : Reading) (s : ValueSource) (values : List Text) (rows : List Row) → nat_lt 0 (length a.missing) ≡ true
    → EachHasValue rows → EachHasValue (with_values a.id how s (values_or_missing a values) rows)
flag_use_keeps a how s [] rows some h = some_values_keep a.id how s a.missing rows some h
flag_use_keeps a how s (v ∷ vs) rows some h = with_values_keeps a.id how s v vs rows h

use_as_keeps : (x : ArgAction) (n : ℕ) (again : Bool) (a : Rule) (values : List Text) (rows : List Row) → gives_by x n a.missing ≡ true
    → range_kinds n (most_values a) (length values) ≡ [] → action_fault x again a (values_or_missing a values) rows ≡ []
    → EachHasValue rows → EachHasValue (used_as x a.id (reading_by a) (values_or_missing a values) rows)
use_as_keeps Set n again a [] rows g few f h =
    some_kind _ _ (rw g at few)
use_as_keeps Set n again a (v ∷ vs) rows g few f h = with_values_keeps a.id (reading_by a) _ v vs (without a.id rows)
    (without_keeps a.id rows h)
use_as_keeps Help n again a values rows g few f h = some_kind _ _ f
use_as_keeps Version n again a values rows g few f h = some_kind _ _ f
use_as_keeps Append n again a values rows g few f h = absurd (true≢false (sym g))
use_as_keeps SetTrue n again a values rows g few f h =
    flag_use_keeps a (reading_by a) _ values (without a.id rows) g (without_keeps a.id rows h)
use_as_keeps SetFalse n again a values rows g few f h = absurd (true≢false (sym g))
use_as_keeps Count n again a values rows g few f h = absurd (true≢false (sym g))
use_as_keeps HelpShort n again a values rows g few f h = absurd (true≢false (sym g))
use_as_keeps HelpLong n again a values rows g few f h = absurd (true≢false (sym g))

pub use_keeps : (again : Bool) (a : Rule) (values : List Text) (rows : List Row) → gives a ≡ true → use_fault again a values rows ≡ []
    → EachHasValue rows → EachHasValue (used a values rows)
use_keeps again a values rows g f h =
    let least = (unwrap_or_range a.range).start_inclusive in
    let few = range_kinds least (most_values a) (length values) in
    let action = action_fault (action_of a) again a (values_or_missing a values) rows in
    use_as_keeps (action_of a) least again a values rows g (first_none few action f) (second_none few action f) h

use_found_keeps : (again : Bool) (found : Option Rule) (values : List Text) (rows : List Row) → Gives found
    → option_map_or (λ a. use_fault again a values rows) found [] ≡ [] → EachHasValue rows → EachHasValue (used_by_id found values rows)
use_found_keeps again None values rows g f h = h
use_found_keeps again (Some a) values rows g f h = use_keeps again a values rows g f h

-- ---- an argument that waits is used

module _ (c : List Rule) (again : Bool) (each : list_all gives c ≡ true) where
  settle_rows_keeps : (pending : Option (Text × List Text)) (rows : List Row)
      → option_map_or (λ p. option_map_or (λ a. use_fault again a p.1 rows) (arg_by_id c p.0) []) pending [] ≡ []
      → EachHasValue rows → EachHasValue (settled_rows c pending rows)
  settle_rows_keeps None rows f h = h
  settle_rows_keeps (Some p) rows f h = use_found_keeps again (arg_by_id c p.0) p.1 rows (found_gives _ c each) f h

  pub settle_keeps : (h : Held) → settle_fault c again h ≡ [] → EachHasValue h.rows → EachHasValue (settled c h).rows
  settle_keeps h f has = settle_rows_keeps h.pending h.rows f has

  pub react_keeps : (a : Rule) (values : List Text) (h : Held) → gives a ≡ true → react_fault c again a values h ≡ []
      → EachHasValue h.rows → EachHasValue (reacted c a values h).rows
  react_keeps a values h g f has =
      use_keeps again a values (settled c h).rows g (second_none (settle_fault c again h) _ f) (settle_keeps h (first_none _ _ f) has)

-- ---- defaults, and required arguments

default_rows_keeps : (id : Text) (how : Reading) (values : List Text) (rows : List Row) → EachHasValue rows
    → EachHasValue (default_rows id how values rows)
default_rows_keeps id how [] rows h = h
default_rows_keeps id how (v ∷ vs) rows h = with_values_keeps id how _ v vs rows h

pub defaults_keep : (rules : List Rule) (rows : List Row) → EachHasValue rows → EachHasValue (fold with_default rows rules)
defaults_keep [] rows h = h
defaults_keep (a ∷ rest) rows h =
    defaults_keep rest (with_default rows a)
    (each_of_either (has_row a.id rows) rows _ h (default_rows_keeps a.id (reading_by a) a.defaults rows h))

abbrev OptionHasValue : Option Row → Type 0
OptionHasValue None = Unit {0}
OptionHasValue (Some r) = HasValue r

option_of_either : (b : Bool) (x y : Option Row) → OptionHasValue x → OptionHasValue y → OptionHasValue (cond b x y)
option_of_either true x y h k = h
option_of_either false x y h k = k

found_has_value : (p : Row → Bool) (rows : List Row) → EachHasValue rows → OptionHasValue (find p rows)
found_has_value p [] h = tt
found_has_value p (r ∷ rs) h = option_of_either (p r) (Some r) (find p rs) h.0 (found_has_value p rs h.1)

first_value_there : (values : List Text) → 0 < length values → IsSome (slice_get values 0)
first_value_there [] h = absurd (omega arith)
first_value_there (v ∷ vs) h = refl

first_there : (found : Option Row) → OptionHasValue found → option_map_or (λ r. explicit_source r.source) found false ≡ true
    → IsSome (option_and_then (λ r. slice_get r.values 0) found)
first_there None h e = absurd (true≢false (sym e))
first_there (Some r) h e = first_value_there r.values h

pub given_has_first : (id : Text) (rows : List Row) → EachHasValue rows → is_given id rows ≡ true → IsSome (first_of id rows)
given_has_first id rows h e = first_there (find (λ r. bytes_eq r.id id) rows) (found_has_value _ rows h) e

pub nothing_missing : (help subcommand argument : Bool) → check_kinds help subcommand argument ≡ [] → argument ≡ false
nothing_missing true subcommand argument e = some_kind _ _ e
nothing_missing false true argument e = some_kind _ _ e
nothing_missing false false true e = some_kind _ _ e
nothing_missing false false false e = refl
