-- Beginnings of texts that were written before the server stopped.
use Rattle.std.proofs.Common.{◌≡◌, ◌++◌, ◌+◌, ◌≤◌, ◌∙◌, ℕ, List, [], Option}
use Rattle.std.proofs.Common.{append_assoc, ap, drop, length, refl, subst, sym, take}
use Rattle.std.proofs.lemmas.List.{append-nil, drop-drop, take-append-drop}
use lib.ListN.{drop_of_length-le}
use Rattle.std.specs.Prelude.{Err, IsErr, Ok, OnErr, Result}
use Rattle.std.specs.Io.KnownBytes.{Appends, Keeps}
use Rattle.server_output.specs.Order.{IsBeginning, Says, WritesText, TellsPart, WritesPart}
use Rattle.server_output.specs.Texts.{Text}
pub use Rattle.server_output.specs.WritingLaws.{keeps_same, part_then}
use Rattle.server_output.proofs.Writing.{appends_kept, appends_none, appends_then, tells_so}

pub part_whole : (Holds : Text → Type 0) (before after : Option (List ℕ)) → WritesText before after Holds → TellsPart before after Holds
part_whole Holds before after tells =
    tells_so Holds (IsBeginning Holds) before after
    (λ text holds. record { text = text; rest = []; holds = holds; text_is = sym (append-nil text) }) tells

pub part_of : (Holds : Text → Type 0) (text : Text) (before after : Option (List ℕ)) → Holds text → Keeps before after
    → TellsPart before after Holds
part_of Holds text before after holds kept = record {
  text = [];
  holds = record { text = text; rest = text; holds = holds; text_is = refl };
  written = appends_kept before before after [] (appends_none before) kept;
}

pub part_none : (Holds : Text → Type 0) (text : Text) (before : Option (List ℕ)) → Holds text → TellsPart before before Holds
part_none Holds text before holds = part_of Holds text before before holds (keeps_same before)

pub part_so : (P Q : Text → Type 0) (before after : Option (List ℕ)) → ((text : Text) → P text → Q text) → TellsPart before after P
    → TellsPart before after Q
part_so P Q before after so tells =
    tells_so (IsBeginning P) (IsBeginning Q) before after
    (λ part begins. record {
      text = begins.text;
      rest = begins.rest;
      holds = so begins.text begins.holds;
      text_is = begins.text_is;
    }) tells

-- A text is written piece by piece: the pieces so far, and the rest of the text.

pub said_none : (text : Text) (before : Option (List ℕ)) → WritesText before before (λ part. text ≡ part ++ text)
said_none text before = record { text = []; holds = refl; written = appends_none before }

pub said_more : (text piece : Text) (written count : ℕ) (before now after : Option (List ℕ))
    → WritesText before now (λ part. text ≡ part ++ drop written text) → piece ≡ drop written text → Appends now after (take count piece)
    → WritesText before after (λ part. text ≡ part ++ drop (written + count) text)
said_more text piece written count before now after said same more =
    let rest = drop written text in
    record {
      text = said.text ++ take count piece;
      holds = said.holds ∙ ap (λ (t : Text). said.text ++ t) (sym (take-append-drop count rest))
          ∙ sym (append_assoc said.text (take count rest) (drop count rest))
          ∙ ap (λ (t : Text). (said.text ++ take count t) ++ drop count rest) (sym same)
          ∙ ap (λ (t : Text). (said.text ++ take count piece) ++ t) (drop-drop count written text);
      written = appends_then before now after said.text (take count piece) said.written more;
    }

pub all_said : (text : Text) (written : ℕ) (before now : Option (List ℕ)) → length text ≤ written
    → WritesText before now (λ part. text ≡ part ++ drop written text) → Appends before now text
all_said text written before now all said =
    subst (λ (t : Text). Appends before now t)
    (sym (said.holds ∙ ap (λ (t : Text). said.text ++ t) (drop_of_length-le text all) ∙ append-nil said.text)) said.written

pub said_part : (text rest : Text) (before now after : Option (List ℕ)) → WritesText before now (λ part. text ≡ part ++ rest)
    → Keeps now after → TellsPart before after (λ whole. whole ≡ text)
said_part text rest before now after said kept = record {
  text = said.text;
  holds = record { text = text; rest = rest; holds = refl; text_is = said.holds };
  written = appends_kept before now after said.text said.written kept;
}

pub nothing_said : (whole : Text) (before : Option (List ℕ)) → TellsPart before before (λ text. text ≡ whole)
nothing_said whole before = part_none (λ (text : Text). text ≡ whole) whole before refl

pub says_stop : {T E : Type 0} (result : Result T E) (text : Text) (before after : Option (List ℕ)) → IsErr result
    → WritesPart before after text → Says result before after text
says_stop (Ok value) text before after is part = absurd (cc)
says_stop (Err error) text before after is part = part

pub whatever_err : {T E : Type 0} (result : Result T E) (P : Type 0) → P → OnErr result P
whatever_err (Ok value) P holds = tt
whatever_err (Err error) P holds = holds
