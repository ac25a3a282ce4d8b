-- After a walk without faults each row has a value, and the subcommand isn't `help`, unless `help` is disabled.
use Rattle.std.specs.List.{fold, list_all}
use Rattle.std.specs.Option.{option_map_or}
use Rattle.std.specs.Prelude.{codes, drop, encode_utf8, if◌then◌else◌, is_some, slice_get}
use Rattle.std.specs.Str.{bytes_eq, chars}
use Rattle.std.proofs.Common.{◌≡◌, ◌&&◌, ℕ, Bool, true, false, not, refl, List, [], ◌∷◌, length, Option, Some, None, zero, suc}
use Rattle.clap.specs.Faults.{bundle_fault, bundle_step_fault, check_fault, defaults_fault, flag_word_fault, flags_fault, level_fault}
use Rattle.clap.specs.Faults.{long_fault, option_fault, other_fault, positional_fault, react_fault, settle_fault, short_fault, step_fault}
use Rattle.clap.specs.Faults.{turn_fault, walk_fault, word_fault}
use Rattle.clap.specs.Kinds.{Kinds, or_else}
use Rattle.clap.specs.Lexer.{long_of, short_of}
use Rattle.clap.specs.Simple.{Shape}
use Rattle.clap.specs.Walk.{Held, Names, Outcome, Rule, Step, Text, Waiting, Walk, after_flag, after_step, arg_by_id, arg_by_index}
use Rattle.clap.specs.Walk.{arg_by_long, arg_by_short, attached_value, bundle, bundle_met, bundle_step, done, flag_met, idle, is_pending}
use Rattle.clap.specs.Walk.{long_met, long_or_other, next, nothing_held, option, option_met, option_word, plain, plain_word, positional}
use Rattle.clap.specs.Walk.{reacted, refused, rows_after, settled, short_met, short_or_plain, subcommand, subcommand_met}
use Rattle.clap.specs.Walk.{subcommand_or_other, takes_several, takes_values, to_positional, trailing, value, waits, walk, walk_from}
use Rattle.clap.specs.Walk.{walked, walked_from, word_met}
use Rattle.clap.specs.declared.error.kind.ErrorKind.{ErrorKind}
use Rattle.clap.specs.declared.error.kind.ErrorKind.TheVariants as kind
use Rattle.command_line.proofs.Uses.{EachHasValue, Gives, defaults_keep, first_none, found_gives, gives, react_keeps, second_none}
use Rattle.command_line.proofs.Uses.{settle_keeps, some_kind}

-- the name isn't `help`, unless `help` is disabled
abbrev pub IsOther : Bool → Text → Type 0
IsOther disabled name = disabled ≡ false → bytes_eq name (codes "help") ≡ false

-- the subcommand that was found isn't `help`, unless `help` is disabled
abbrev pub MeetsOther : Bool → Step → Type 0
MeetsOther disabled (subcommand name) = IsOther disabled name
MeetsOther disabled _ = Unit {0}

abbrev pub StopsAtOther : Bool → Option (Text × List Text) → Type 0
StopsAtOther disabled None = Unit {0}
StopsAtOther disabled (Some p) = IsOther disabled p.0

not_help : (is_help disabled : Bool) (k : ErrorKind) (ks : Kinds) → (if is_help && not disabled then k ∷ ks else []) ≡ [] → disabled ≡ false
    → is_help ≡ false
not_help false disabled k ks e d = refl
not_help true true k ks e d = absurd (cc)
not_help true false k ks e d = some_kind k ks e

module _ (s : Shape) (each : list_all gives s.rules ≡ true) where
  -- after a step each row has a value, and the step isn't `help`, unless `help` is disabled
  abbrev Keeps : Held × Step → Type 0
  Keeps p = EachHasValue p.0.rows × MeetsOther s.disable_help_subcommand p.1

  option_keeps : (a : Rule) (v : Option Text) (h : Held) → gives a ≡ true → option_fault s.rules s.args_override_self a v h ≡ []
      → EachHasValue h.rows → EachHasValue (option_met s.rules a v h).0.rows
  option_keeps a (Some v) h g f has = react_keeps s.rules s.args_override_self each a (v ∷ []) h g f has
  option_keeps a None h g f has = settle_keeps s.rules s.args_override_self each h f has

  flag_keeps : (a : Rule) (v : Option Text) (h : Held) → gives a ≡ true → react_fault s.rules s.args_override_self a [] h ≡ []
      → EachHasValue h.rows → EachHasValue (flag_met s.rules a v h).0.rows
  flag_keeps a (Some v) h g f has = has
  flag_keeps a None h g f has = react_keeps s.rules s.args_override_self each a [] h g f has

  -- ---- flags

  long_flag_keeps : (a : Rule) (v : Option Text) (h : Held) → gives a ≡ true
      → (if is_some v then kind.TooManyValues ∷ [] else react_fault s.rules s.args_override_self a [] h) ≡ []
      → EachHasValue h.rows → EachHasValue (flag_met s.rules a v h).0.rows
  long_flag_keeps a (Some v) h g f has = has
  long_flag_keeps a None h g f has = flag_keeps a None h g f has

  long_value_keeps : (takes : Bool) (a : Rule) (v : Option Text) (h : Held) → gives a ≡ true
      → (if takes then option_fault s.rules s.args_override_self a v h
      else (if is_some v then kind.TooManyValues ∷ [] else react_fault s.rules s.args_override_self a [] h)) ≡ []
      → EachHasValue h.rows → EachHasValue (if takes then option_met s.rules a v h else flag_met s.rules a v h).0.rows
  long_value_keeps true a v h g f has = option_keeps a v h g f has
  long_value_keeps false a v h g f has = long_flag_keeps a v h g f has

  long_keeps : (found : Option Rule) (v : Option Text) (h : Held) → Gives found → long_fault s.rules s.args_override_self found v h ≡ []
      → EachHasValue h.rows → EachHasValue (long_met s.rules found v h).0.rows
  long_keeps None v h g f has = has
  long_keeps (Some a) v h g f has = long_value_keeps (takes_values a) a v h g f has

  short_value_keeps : (takes : Bool) (a : Rule) (rest : Text) (h : Held) (more_fault : Held → Kinds) (more : Held → Held × Outcome)
      → gives a ≡ true
      → ((g : Held) → more_fault g ≡ [] → EachHasValue g.rows → EachHasValue (more g).0.rows)
      → (if takes then option_fault s.rules s.args_override_self a (attached_value rest) h
      else or_else (react_fault s.rules s.args_override_self a [] h) (more_fault (reacted s.rules a [] h))) ≡ []
      → EachHasValue h.rows
      → EachHasValue (if takes then option_met s.rules a (attached_value rest) h else more (reacted s.rules a [] h)).0.rows
  short_value_keeps true a rest h more_fault more g keeps f has = option_keeps a (attached_value rest) h g f has
  short_value_keeps false a rest h more_fault more g keeps f has =
      let here = react_fault s.rules s.args_override_self a [] h in
      let after = more_fault (reacted s.rules a [] h) in
      keeps (reacted s.rules a [] h) (second_none here after f)
      (react_keeps s.rules s.args_override_self each a [] h g (first_none here after f) has)

  short_keeps : (found : Option Rule) (rest : Text) (h : Held) (more_fault : Held → Kinds) (more : Held → Held × Outcome) → Gives found
      → ((g : Held) → more_fault g ≡ [] → EachHasValue g.rows → EachHasValue (more g).0.rows)
      → short_fault s.rules s.args_override_self found rest h more_fault ≡ []
      → EachHasValue h.rows → EachHasValue (short_met s.rules found rest h more).0.rows
  short_keeps None rest h more_fault more g keeps f has = has
  short_keeps (Some a) rest h more_fault more g keeps f has = short_value_keeps (takes_values a) a rest h more_fault more g keeps f has

  character_keeps : (x : Option ℕ) (flags : Text) (skip : ℕ) (so_far : Outcome) (h : Held)
      (more_fault : Text → ℕ → Held → Kinds) (more : Text → ℕ → Outcome → Held → Held × Outcome)
      → ((t : Text) (n : ℕ) (o : Outcome) (g : Held) → more_fault t n g ≡ [] → EachHasValue g.rows → EachHasValue (more t n o g).0.rows)
      → bundle_step_fault s.rules s.args_override_self x flags skip h more_fault ≡ []
      → EachHasValue h.rows → EachHasValue (bundle_step s.rules x flags skip so_far h more).0.rows
  character_keeps None flags skip so_far h more_fault more keeps f has = has
  character_keeps (Some x) flags zero so_far h more_fault more keeps f has =
      let rest = drop (length (encode_utf8 x)) flags in
      short_keeps (arg_by_short s.rules x) rest h (more_fault rest 0) (more rest 0 done) (found_gives _ s.rules each)
      (keeps rest 0 done) f has
  character_keeps (Some x) flags (suc skip) so_far h more_fault more keeps f has = keeps
      (drop (length (encode_utf8 x)) flags) skip so_far h f has

  bundle_keeps : (k : ℕ) (flags : Text) (skip : ℕ) (so_far : Outcome) (h : Held)
      → flags_fault s.rules s.args_override_self k flags skip h ≡ []
      → EachHasValue h.rows → EachHasValue (bundle_met s.rules k flags skip so_far h).0.rows
  unfolding flags_fault bundle_met
  bundle_keeps zero flags skip so_far h f has = has
  bundle_keeps (suc k) flags skip so_far h f has =
      character_keeps (slice_get (chars flags) 0) flags skip so_far h (flags_fault s.rules s.args_override_self k) (bundle_met s.rules k)
      (λ t n o g e held. bundle_keeps k t n o g e held) f has

  -- ---- words

  option_word_keeps : (found : Option Rule) (id word : Text) (h : Held) → EachHasValue h.rows
      → EachHasValue (option_word found id word h).0.rows
  option_word_keeps None id word h has = has
  option_word_keeps (Some a) id word h has = has

  plain_word_keeps : (waiting : Waiting) (word : Text) (h : Held) → EachHasValue h.rows → Keeps (plain_word s.rules waiting word h)
  plain_word_keeps (option id) word h has = (option_word_keeps (arg_by_id s.rules id) id word h has, tt)
  plain_word_keeps idle word h has = (has, tt)
  plain_word_keeps positional word h has = (has, tt)

  after_flag_keeps : (waiting : Waiting) (word : Text) (h : Held) (outcome : Outcome) → EachHasValue h.rows
      → Keeps (after_flag s.rules waiting word h outcome)
  after_flag_keeps waiting word h done has = (has, tt)
  after_flag_keeps waiting word h (waits id) has = (has, tt)
  after_flag_keeps waiting word h plain has = plain_word_keeps waiting word h has
  after_flag_keeps waiting word h refused has = plain_word_keeps waiting word h has

  short_word_keeps : (flags : Option Text) (waiting : Waiting) (word : Text) (h : Held)
      → option_map_or (λ x. bundle_fault s.rules s.args_override_self x h) flags [] ≡ [] → EachHasValue h.rows
      → Keeps (short_or_plain s.rules waiting word flags h)
  short_word_keeps None waiting word h f has = plain_word_keeps waiting word h has
  short_word_keeps (Some flags) waiting word h f has =
      after_flag_keeps waiting word (bundle s.rules flags h).0 (bundle s.rules flags h).1
      (bundle_keeps (length flags) flags h.skip plain (record h { skip = 0 }) f has)

  flag_word_keeps : (long : Option (Text × Option Text)) (waiting : Waiting) (word : Text) (h : Held)
      → flag_word_fault s.rules s.args_override_self long word h ≡ []
      → EachHasValue h.rows → Keeps (long_or_other s.rules waiting word long h)
  flag_word_keeps (Some p) waiting word h f has =
      let met = long_met s.rules (arg_by_long s.rules p.0) p.1 h in
      after_flag_keeps waiting word met.0 met.1 (long_keeps (arg_by_long s.rules p.0) p.1 h (found_gives _ s.rules each) f has)
  flag_word_keeps None waiting word h f has = short_word_keeps (short_of word) waiting word h f has

  dashes_keep : (is_end : Bool) (waiting : Waiting) (place : ℕ) (word : Text) (h : Held)
      → (if is_end then [] else flag_word_fault s.rules s.args_override_self (long_of word) word h) ≡ []
      → EachHasValue h.rows → Keeps (if is_end then (h, trailing place) else long_or_other s.rules waiting word (long_of word) h)
  dashes_keep true waiting place word h f has = (has, tt)
  dashes_keep false waiting place word h f has = flag_word_keeps (long_of word) waiting word h f has

  other_keeps : (met : Option Text) (waiting : Waiting) (place : ℕ) (word : Text) (h : Held) → other_fault s met word h ≡ []
      → EachHasValue h.rows → Keeps (subcommand_or_other s.rules met waiting place word h)
  other_keeps (Some name) waiting place word h f has =
      (has, not_help (bytes_eq name (codes "help")) s.disable_help_subcommand kind.DisplayHelp (kind.InvalidSubcommand ∷ []) f)
  other_keeps None waiting place word h f has = dashes_keep (bytes_eq word (45 ∷ 45 ∷ [])) waiting place word h f has

  word_keeps : (names : Names) (is_trailing : Bool) (waiting : Waiting) (place : ℕ) (word : Text) (h : Held)
      → word_fault s names is_trailing waiting word h ≡ []
      → EachHasValue h.rows → Keeps (word_met s.rules names is_trailing waiting place word h)
  word_keeps names true waiting place word h f has = (has, tt)
  word_keeps names false waiting place word h f has = other_keeps (subcommand_met names waiting word) waiting place word h f has

  -- ---- turns

  abbrev pub IsGood : Walk → Type 0
  IsGood w = EachHasValue w.held.rows × StopsAtOther s.disable_help_subcommand w.stopped

  positional_if_keeps : (more : Bool) (h : Held) → (if more then [] else settle_fault s.rules s.args_override_self h) ≡ []
      → EachHasValue h.rows → EachHasValue (if more then h else settled s.rules h).rows
  positional_if_keeps true h f has = has
  positional_if_keeps false h f has = settle_keeps s.rules s.args_override_self each h f has

  to_positional_keeps : (found : Option Rule) (word : Text) (w : Walk) (h : Held) (stray : Kinds)
      → option_map_or (λ a. positional_fault s.rules s.args_override_self a h) found stray ≡ []
      → StopsAtOther s.disable_help_subcommand w.stopped → EachHasValue h.rows → IsGood (to_positional s.rules found word w h)
  to_positional_keeps None word w h stray f stops has = (has, stops)
  to_positional_keeps (Some a) word w h stray f stops has =
      (positional_if_keeps (is_pending a h.pending && takes_several a) h f has, tt)

  step_keeps : (w : Walk) (word : Text) (h : Held) (step : Step) → step_fault s w.position h step ≡ []
      → StopsAtOther s.disable_help_subcommand w.stopped
      → Keeps (h, step) → IsGood (after_step s.rules word w h step)
  step_keeps w word h (next waiting) f stops k = (k.0, stops)
  step_keeps w word h (trailing place) f stops k = (k.0, stops)
  step_keeps w word h (subcommand name) f stops k = (k.0, k.1)
  step_keeps w word h value f stops k = to_positional_keeps (arg_by_index s.rules w.position) word w h _ f stops k.0

  turn_keeps : (names : Names) (stopped : Option (Text × List Text)) (w : Walk) (word : Text)
      → (let met = word_met s.rules names w.is_trailing w.waiting w.position word w.held in
      if is_some stopped then [] else or_else (word_fault s names w.is_trailing w.waiting word w.held)
      (step_fault s w.position met.0 met.1)) ≡ []
      → StopsAtOther s.disable_help_subcommand stopped → IsGood w → IsGood (walked_from s.rules names stopped w word)
  turn_keeps names (Some p) w word f stops good = (good.0, stops)
  turn_keeps names None w word f stops good =
      let met = word_met s.rules names w.is_trailing w.waiting w.position word w.held in
      let here = word_fault s names w.is_trailing w.waiting word w.held in
      let there = step_fault s w.position met.0 met.1 in
      step_keeps w word met.0 met.1 (second_none here there f) good.1
      (word_keeps names w.is_trailing w.waiting w.position word w.held (first_none here there f) good.0)

  pub walk_keeps : (names : Names) (words : List Text) (w : Walk) → walk_fault s names w words ≡ [] → IsGood w
      → IsGood (fold (walked s.rules names) w words)
  unfolding walk_fault walked
  walk_keeps names [] w f good = good
  walk_keeps names (word ∷ rest) w f good =
      let here = turn_fault s names w word in
      let after = walk_fault s names (walked s.rules names w word) rest in
      walk_keeps names rest (walked s.rules names w word) (second_none here after f)
      (turn_keeps names w.stopped w word (first_none here after f) good.1 good)

  -- ---- a level

  pub level_walk : (names : Names) (words : List Text) (has : Bool) (below : Kinds) → level_fault s names nothing_held words has below ≡ []
      → IsGood (walk s.rules names nothing_held words)
  level_walk names words has below f =
      walk_keeps names words (walk_from nothing_held) (first_none (walk_fault s names (walk_from nothing_held) words) _ f) (tt, tt)

  pub level_rows : (names : Names) (words : List Text) (has : Bool) (below : Kinds) → level_fault s names nothing_held words has below ≡ []
      → EachHasValue (rows_after s.rules names words)
  level_rows names words has below f =
      let end = (walk s.rules names nothing_held words).held in
      let after_walk = second_none (walk_fault s names (walk_from nothing_held) words) _ f in
      let after_below = second_none below _ after_walk in
      defaults_keep s.rules (settled s.rules end).rows
      (settle_keeps s.rules s.args_override_self each end (first_none (settle_fault s.rules s.args_override_self end) _ after_below)
      (level_walk names words has below f).0)

  pub level_below : (names : Names) (words : List Text) (has : Bool) (below : Kinds) → level_fault s names nothing_held words has below ≡ []
      → below ≡ []
  level_below names words has below f =
      first_none below _ (second_none (walk_fault s names (walk_from nothing_held) words) _ f)

  pub level_checks : (names : Names) (words : List Text) (has : Bool) (below : Kinds)
      → level_fault s names nothing_held words has below ≡ []
      → check_fault s (rows_after s.rules names words) has ≡ []
  level_checks names words has below f =
      let end = (walk s.rules names nothing_held words).held in
      let after_below = second_none below _ (second_none (walk_fault s names (walk_from nothing_held) words) _ f) in
      let after_settle = second_none (settle_fault s.rules s.args_override_self end) _ after_below in
      second_none (defaults_fault (settled s.rules end).rows s.rules) _ after_settle
