-- Lines that are read part by part.
use Rattle.std.proofs.Common.{◌≡◌, ◌≢◌, ◌+◌, ◌-◌, ◌<◌, ◌≤◌, ◌++◌, ◌==◌, ◌||◌, ℕ, zero, suc, Bool, true, false}
use Rattle.std.proofs.Common.{List, [], ◌∷◌, Option, Some, None, cond}
use Rattle.std.proofs.Common.{All, length, min, take, nat_lt, append_assoc, arith, inl, inr, lit<, ◌⊎◌, refl, sym, ap, subst, ◌∙◌}
use Rattle.std.proofs.lemmas.Bool.Decides.{nat_tests}
use Rattle.std.proofs.lemmas.List.{append-nil, length-append, length-take, take_all, take_min, take_more}
use Rattle.std.proofs.Math.Seq.{take-append-add}
use Rattle.std.proofs.lemmas.List.Elements.{All-head, All-tail}
use Rattle.std.specs.Prelude.{slice_index}
use Rattle.std.specs.Io.KnownBytes.{Consumes}
use Rattle.server_requests.specs.Lines.{behind_line, first_line, is_feed, lines_of, most_line_bytes, with_front}
use Rattle.server_requests.specs.LinesRead.{Adds, AtEnd, BothKnown, IsRestOfLine, GoesOn}
use Rattle.server_requests.specs.LinesRead.{IsLong, IsNextLine, IsWholeLine, TakesPart, whole_or_long}
use Rattle.server_requests.specs.Texts.{Text}
use Rattle.server_requests.specs.declared.line_reader.NextLine.TheVariants.{End}
use Rattle.server_requests.specs.declared.line_reader.Part.TheVariants as parts

-- Bytes of a line were read. `line` keeps the first of them, as far as there is room, and `is_long` is whether there wasn't room for all.
pub record Reads (line : Text) (is_long : Bool) (old new : List ℕ) : Type 0 where
  pub got : List ℕ
  pub kept : line ≡ take most_line_bytes got
  pub long : is_long ≡ nat_lt most_line_bytes (length got)
  pub goes : GoesOn got old new

pub known_same : (before : Option (List ℕ)) (Holds : List ℕ → List ℕ → Type 0) → ((bytes : List ℕ) → Holds bytes bytes)
    → BothKnown before before Holds
known_same None Holds holds = tt
known_same (Some bytes) Holds holds = holds bytes

pub known_then : (before now after : Option (List ℕ)) (P Q R : List ℕ → List ℕ → Type 0)
    → ((a b c : List ℕ) → P a b → Q b c → R a c) → BothKnown before now P → BothKnown now after Q → BothKnown before after R
known_then None now after P Q R joins one two = tt
known_then (Some a) None after P Q R joins one two = absurd one
known_then (Some a) (Some b) None P Q R joins one two = absurd two
known_then (Some a) (Some b) (Some c) P Q R joins one two = joins a b c one two

pub reads_none : (before : Option (List ℕ)) → BothKnown before before (Reads [] false)
reads_none before = known_same before (Reads [] false)
    (λ bytes. record { got = []; kept = refl; long = refl; goes = record { all = refl; first = refl; behind = refl } })

-- Bytes without an LF continue a line, and an LF ends the line.

no_feed : (byte : ℕ) → byte ≢ 10 → is_feed byte ≡ false
no_feed byte other = grind (arith, nat_tests)

goes_byte : (byte : ℕ) (bytes later : List ℕ) → is_feed byte ≡ false → GoesOn bytes (bytes ++ later) later
    → GoesOn (byte ∷ bytes) (byte ∷ (bytes ++ later)) later
goes_byte byte bytes later other goes = record {
  all = refl;
  first = ap (λ (feed : Bool). cond feed [] (byte ∷ first_line (bytes ++ later))) other ∙ ap (λ (bs : List ℕ). byte ∷ bs) goes.first;
  behind = ap (λ (feed : Bool). cond feed (bytes ++ later) (behind_line (bytes ++ later))) other ∙ goes.behind;
}

pub goes_without : (bytes later : List ℕ) → All (λ byte. byte ≢ 10) bytes → GoesOn bytes (bytes ++ later) later
goes_without [] later all = record { all = refl; first = refl; behind = refl }
goes_without (byte ∷ bytes) later all =
    goes_byte byte bytes later (no_feed byte (All-head (λ b. b ≢ 10) byte bytes all))
    (goes_without bytes later (All-tail (λ b. b ≢ 10) byte bytes all))

none_behind : (got b : List ℕ) → got ++ b ≡ [] → b ≡ []
none_behind [] b none = none
none_behind (x ∷ got) b none = cc

pub goes_then : (got bytes a b c : List ℕ) → GoesOn got a b → GoesOn bytes b c → GoesOn (got ++ bytes) a c
goes_then got bytes a b c one two = record {
  all = one.all ∙ ap (λ (bs : List ℕ). got ++ bs) two.all ∙ sym (append_assoc got bytes c);
  first = one.first ∙ ap (λ (bs : List ℕ). got ++ bs) two.first ∙ sym (append_assoc got bytes (first_line c));
  behind = one.behind ∙ two.behind;
}

pub goes_end : (got bytes a b c : List ℕ) → GoesOn got a b → IsRestOfLine bytes b c → IsRestOfLine (got ++ bytes) a c
goes_end got bytes a b c one two = record {
  some = λ none. two.some (none_behind got b (sym one.all ∙ none));
  first = one.first ∙ ap (λ (bs : List ℕ). got ++ bs) two.first;
  rest = two.rest ∙ sym one.behind;
}

pub ends_at : (bytes later : List ℕ) → All (λ byte. byte ≢ 10) bytes → IsRestOfLine bytes (bytes ++ 10 ∷ later) later
ends_at bytes later all =
    let goes = goes_without bytes (10 ∷ later) all in
    record {
      some = λ none. some_list later (none_behind bytes (10 ∷ later) none);
      first = goes.first ∙ append-nil bytes;
      rest = sym goes.behind;
    }
  where
    some_list : (later : List ℕ) → 10 ∷ later ≡ [] → ⊥
    some_list later none = cc

-- What is kept of a line.

take_again : (most : ℕ) (got bytes : List ℕ) → take most (take most got ++ bytes) ≡ take most (got ++ bytes)
take_again zero got bytes = refl
take_again (suc most) [] bytes = refl
take_again (suc most) (x ∷ got) bytes = ap (λ (k : List ℕ). x ∷ k) (take_again most got bytes)

has_room : (most room line bytes : ℕ) → line ≤ most → room ≡ most - line → nat_lt room bytes ≡ nat_lt most (line + bytes)
has_room most room line bytes fits is = grind (arith, nat_tests)

pub adds_front : (line line' bytes : List ℕ) (room count : ℕ) → length line ≤ most_line_bytes → room ≡ most_line_bytes - length line
    → count ≡ min room (length bytes) → line' ≡ line ++ take count bytes → Adds (nat_lt room (length bytes)) bytes line line'
adds_front line line' bytes room count fits room_is count_is is =
    let whole : length line + room ≡ most_line_bytes = omega (arith, fits, room_is) in
    record {
      kept = is ∙ ap (λ (n : ℕ). line ++ take n bytes) count_is ∙ ap (λ (l : List ℕ). line ++ l) (take_min room bytes)
          ∙ sym (take-append-add line bytes room) ∙ ap (λ (n : ℕ). take n (line ++ bytes)) whole;
      long = has_room most_line_bytes room (length line) (length bytes) fits room_is;
    }

longer : (is_long more : Bool) (most all kept added both : ℕ) → is_long ≡ nat_lt most all → more ≡ nat_lt most (kept + added)
    → kept ≡ min most all → both ≡ all + added → (is_long || more) ≡ nat_lt most both
longer true true most all kept added both long is_more is_kept is_both = grind (arith, nat_tests)
longer true false most all kept added both long is_more is_kept is_both = grind (arith, nat_tests)
longer false true most all kept added both long is_more is_kept is_both = grind (arith, nat_tests)
longer false false most all kept added both long is_more is_kept is_both = grind (arith, nat_tests)

pub keeps_both : (line line' : Text) (is_long more : Bool) (got bytes : List ℕ) → line ≡ take most_line_bytes got
    → is_long ≡ nat_lt most_line_bytes (length got) → Adds more bytes line line'
    → (line' ≡ take most_line_bytes (got ++ bytes)) × ((is_long || more) ≡ nat_lt most_line_bytes (length (got ++ bytes)))
keeps_both line line' is_long more got bytes kept long adds = (
  adds.kept ∙ ap (λ (l : Text). take most_line_bytes (l ++ bytes)) kept ∙ take_again most_line_bytes got bytes,
  longer is_long more most_line_bytes (length got) (length line) (length bytes) (length (got ++ bytes)) long adds.long
      (ap length kept ∙ length-take most_line_bytes got) (length-append got bytes),
)

pub reads_more : (line line' : Text) (is_long more : Bool) (before now after : Option (List ℕ))
    → BothKnown before now (Reads line is_long) → BothKnown now after (TakesPart (parts.More more) line line')
    → BothKnown before after (Reads line' (is_long || more))
reads_more line line' is_long more before now after reads takes =
    known_then before now after (Reads line is_long) (TakesPart (parts.More more) line line') (Reads line' (is_long || more))
    (λ a b c one two.
    let both = keeps_both line line' is_long more one.got two.0 one.kept one.long two.2 in
    record { got = one.got ++ two.0; kept = both.0; long = both.1; goes = goes_then one.got two.0 a b c one.goes two.1 }) reads takes

pub part_more : (a b : Option (List ℕ)) (line line' : Text) (is_long : Bool) (bytes : List ℕ) → All (λ byte. byte ≢ 10) bytes
    → Consumes a b bytes → Adds is_long bytes line line' → BothKnown a b (TakesPart (parts.More is_long) line line')
part_more None b line line' is_long bytes all consumes adds = tt
part_more (Some a) None line line' is_long bytes all consumes adds = absurd consumes
part_more (Some a) (Some b) line line' is_long bytes all consumes adds =
    (bytes, subst (λ (old : List ℕ). GoesOn bytes old b) (sym consumes) (goes_without bytes b all), adds)

with_feed : (shown : List ℕ) (count : ℕ) → count < length shown → slice_index shown count ≡ 10
    → take (count + 1) shown ≡ take count shown ++ 10 ∷ []
with_feed shown count below feed = take_more shown count 0 below ∙ ap (λ (byte : ℕ). take count shown ++ byte ∷ []) feed

pub part_last : (a b : Option (List ℕ)) (line line' : Text) (is_long : Bool) (shown : List ℕ) (count : ℕ) → count < length shown
    → slice_index shown count ≡ 10 → All (λ byte. byte ≢ 10) (take count shown) → Consumes a b (take (count + 1) shown)
    → Adds is_long (take count shown) line line' → BothKnown a b (TakesPart (parts.Last is_long) line line')
part_last None b line line' is_long shown count below feed all consumes adds = tt
part_last (Some a) None line line' is_long shown count below feed all consumes adds = absurd consumes
part_last (Some a) (Some b) line line' is_long shown count below feed all consumes adds =
    let bytes = take count shown in
    let is : a ≡ bytes ++ 10 ∷ b = consumes ∙ ap (λ (bs : List ℕ). bs ++ b) (with_feed shown count below feed)
    ∙ append_assoc bytes (10 ∷ []) b in
    (bytes, subst (λ (old : List ℕ). IsRestOfLine bytes old b) (sym is) (ends_at bytes b all), adds)

-- A line that was read to its end.

more_than : (most n : ℕ) → true ≡ nat_lt most n → most < n
more_than most n e = grind (arith, nat_tests)

at_most : (most n : ℕ) → false ≡ nat_lt most n → n ≤ most
at_most most n e = grind (arith, nat_tests)

-- A whole line was read. `line` keeps its first bytes, as far as there is room, and `is_long` is whether there wasn't room for all.
record Done (line : Text) (is_long : Bool) (old new : List ℕ) : Type 0 where
  got : List ℕ
  kept : line ≡ take most_line_bytes got
  long : is_long ≡ nat_lt most_line_bytes (length got)
  ends : IsRestOfLine got old new

known_as : (before after : Option (List ℕ)) (P Q : List ℕ → List ℕ → Type 0) → ((a b : List ℕ) → P a b → Q a b)
    → BothKnown before after P → BothKnown before after Q
known_as None after P Q is holds = tt
known_as (Some a) None P Q is holds = absurd holds
known_as (Some a) (Some b) P Q is holds = is a b holds

is_line : (line : Text) (is_long : Bool) (before after : Option (List ℕ)) → BothKnown before after (Done line is_long)
    → IsNextLine (whole_or_long is_long) line before after
is_line line true before after done =
    known_as before after (Done line true) IsLong
    (λ a c one. record {
      some = one.ends.some;
      long = omega (arith, ap length one.ends.first, more_than most_line_bytes (length one.got) one.long);
      rest = one.ends.rest;
    }) done
is_line line false before after done =
    known_as before after (Done line false) (IsWholeLine line)
    (λ a c one.
    let few : length one.got ≤ most_line_bytes = at_most most_line_bytes (length one.got) one.long in
    record {
      some = one.ends.some;
      short = omega (arith, ap length one.ends.first, few);
      line_is = one.kept ∙ take_all most_line_bytes one.got few ∙ sym one.ends.first;
      rest = one.ends.rest;
    }) done

pub reads_last : (line line' : Text) (is_long more : Bool) (before now after : Option (List ℕ))
    → BothKnown before now (Reads line is_long) → BothKnown now after (TakesPart (parts.Last more) line line')
    → IsNextLine (whole_or_long (is_long || more)) line' before after
reads_last line line' is_long more before now after reads takes =
    is_line line' (is_long || more) before after
    (known_then before now after (Reads line is_long) (TakesPart (parts.Last more) line line') (Done line' (is_long || more))
    (λ a b c one two.
    let both = keeps_both line line' is_long more one.got two.0 one.kept one.long two.2 in
    record { got = one.got ++ two.0; kept = both.0; long = both.1; ends = goes_end one.got two.0 a b c one.goes two.1 }) reads takes)

taken_none : (n : ℕ) → take {A = ℕ} n [] ≡ []
taken_none zero = refl
taken_none (suc n) = refl

none_taken : (most : ℕ) (got : List ℕ) → 0 < most → length (take most got) ≡ 0 → got ≡ []
none_taken most [] some e = refl
none_taken zero (x ∷ got) some e = absurd (omega arith)
none_taken (suc most) (x ∷ got) some e = absurd (omega (arith, e))

some_front : (most : ℕ) (line got a b : List ℕ) → 0 < length line → line ≡ take most got → a ≡ got ++ b → a ≢ []
some_front most line [] a b some kept all none = absurd (omega (arith, ap length (kept ∙ taken_none most)))
some_front most line (x ∷ got) a b some kept all none = cc

pub reads_rest : (line line' : Text) (is_long : Bool) (before now after : Option (List ℕ)) → 0 < length line'
    → BothKnown before now (Reads line is_long) → BothKnown now after (TakesPart parts.None line line')
    → IsNextLine (whole_or_long is_long) line' before after
reads_rest line line' is_long before now after some reads takes =
    is_line line' is_long before after
    (known_then before now after (Reads line is_long) (TakesPart parts.None line line') (Done line' is_long)
    (λ a b c one two. record {
      got = one.got;
      kept = two.1 ∙ one.kept;
      long = one.long;
      ends = record {
        some = some_front most_line_bytes line' one.got a b some (two.1 ∙ one.kept) one.goes.all;
        first = one.goes.first ∙ ap (λ (bs : List ℕ). one.got ++ first_line bs) two.0.none ∙ append-nil one.got;
        rest = two.0.still ∙ sym (one.goes.behind ∙ ap behind_line two.0.none);
      };
    }) reads takes)

pub reads_end : (line line' : Text) (is_long : Bool) (before now after : Option (List ℕ)) → length line' ≡ 0
    → BothKnown before now (Reads line is_long) → BothKnown now after (TakesPart parts.None line line')
    → IsNextLine End line' before after
reads_end line line' is_long before now after none reads takes =
    known_then before now after (Reads line is_long) (TakesPart parts.None line line') AtEnd
    (λ a b c one two. record {
      none = one.goes.all ∙ ap (λ (bs : List ℕ). bs ++ b)
          (none_taken most_line_bytes one.got (lit< tt) (ap length (sym (two.1 ∙ one.kept)) ∙ none)) ∙ two.0.none;
      still = two.0.still;
    }) reads takes

-- The lines of an input are its first line, and then the lines of the bytes after that line.

lines_if : (feed : Bool) (byte : ℕ) (later : List ℕ)
    → ((later ≡ []) ⊎ (lines_of later ≡ first_line later ∷ lines_of (behind_line later)))
    → cond feed ([] ∷ lines_of later) (with_front byte (lines_of later))
    ≡ cond feed [] (byte ∷ first_line later) ∷ lines_of (cond feed later (behind_line later))
lines_if true byte later known = refl
lines_if false byte later (inl none) =
    subst (λ (bytes : List ℕ). with_front byte (lines_of bytes) ≡ (byte ∷ first_line bytes) ∷ lines_of (behind_line bytes)) (sym none) refl
lines_if false byte later (inr some) = ap (with_front byte) some

lines_cases : (bytes : List ℕ) → (bytes ≡ []) ⊎ (lines_of bytes ≡ first_line bytes ∷ lines_of (behind_line bytes))
lines_cases [] = inl refl
lines_cases (byte ∷ later) = inr (lines_if (is_feed byte) byte later (lines_cases later))

pub lines_some : (bytes : List ℕ) → bytes ≢ [] → lines_of bytes ≡ first_line bytes ∷ lines_of (behind_line bytes)
lines_some bytes some =
    elim (lines_cases bytes) [
      | inl none ↦ absurd (some none)
      | inr lines ↦ lines
    ]

pub empty_yes : (n m : ℕ) → (n == 0) ≡ true → n ≡ m → m ≡ 0
empty_yes n m e same = grind (arith, nat_tests)

pub empty_no : (n m : ℕ) → (n == 0) ≡ false → n ≡ m → 0 < m
empty_no n m e same = grind (arith, nat_tests)
