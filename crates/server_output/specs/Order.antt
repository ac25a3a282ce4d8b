-- Texts that are written, and beginnings of them.
use Rattle.std.specs.Prelude.{◌≡◌, ◌++◌, ℕ, List, Option, Result, Ok, Err}
use Rattle.std.specs.Io.KnownBytes.{Appends}
use Rattle.server_output.specs.Texts.{Text}

-- A text with the property `Holds` was written.
pub record WritesText (before after : Option (List ℕ)) (Holds : Text → Type 0) : Type 0 where
  -- the text that was written
  pub text : Text
  -- the text has the property
  pub holds : Holds text
  -- the text was appended to the bytes `before`, and the bytes afterwards are `after`
  pub written : Appends before after text

-- `part` is a beginning of a text with the property `Holds`.
pub record IsBeginning (Holds : Text → Type 0) (part : Text) : Type 0 where
  -- the whole text
  pub text : Text
  -- the part that wasn't written
  pub rest : Text
  -- the whole text has the property
  pub holds : Holds text
  -- the part is a beginning of the whole text
  pub text_is : text ≡ part ++ rest

-- A beginning of a text with the property `Holds` was written.
abbrev pub TellsPart : (before after : Option (List ℕ)) → (Text → Type 0) → Type 0
TellsPart before after Holds = WritesText before after (IsBeginning Holds)

-- A beginning of this text was written.
abbrev pub WritesPart : (before after : Option (List ℕ)) → Text → Type 0
WritesPart before after whole = TellsPart before after (λ text. text ≡ whole)

-- A text was written, or at an error a beginning of the text.
abbrev pub Says : {T E : Type 0} → Result T E → (before after : Option (List ℕ)) → Text → Type 0
Says (Ok value) before after text = Appends before after text
Says (Err error) before after text = WritesPart before after text
