-- Texts that are written one after another.
use Rattle.std.proofs.Common.{◌++◌, ◌∙◌, ℕ, List, [], Option, None, Some, append_assoc, ap, refl, sym}
use Rattle.std.proofs.lemmas.List.{append-nil}
use Rattle.std.specs.Io.KnownBytes.{Appends, Keeps}
use Rattle.server_output.specs.Order.{WritesText, TellsPart}
use Rattle.server_output.specs.Texts.{Text}

pub appends_then : (a b c : Option (List ℕ)) (first rest : List ℕ) → Appends a b first → Appends b c rest → Appends a c (first ++ rest)
appends_then None b c first rest one two = tt
appends_then (Some a) None c first rest one two = absurd one
appends_then (Some a) (Some b) None first rest one two = absurd two
appends_then (Some a) (Some b) (Some c) first rest one two =
    two ∙ ap (λ (text : List ℕ). text ++ rest) one ∙ append_assoc a first rest

pub appends_none : (a : Option (List ℕ)) → Appends a a []
appends_none None = tt
appends_none (Some a) = sym (append-nil a)

pub appends_kept : (a b c : Option (List ℕ)) (text : List ℕ) → Appends a b text → Keeps b c → Appends a c text
appends_kept None b c text one two = tt
appends_kept (Some a) None c text one two = absurd one
appends_kept (Some a) (Some b) None text one two = absurd two
appends_kept (Some a) (Some b) (Some c) text one two = two ∙ one

pub keeps_same : (bytes : Option (List ℕ)) → Keeps bytes bytes
keeps_same None = tt
keeps_same (Some bytes) = refl

-- A text, and then a beginning of another text, are together a beginning of both texts joined.
pub part_then : (P Q R : Text → Type 0) (before now after : Option (List ℕ))
    → ((first later : Text) → P first → Q later → R (first ++ later)) → WritesText before now P → TellsPart now after Q
    → TellsPart before after R
part_then P Q R before now after joins first later = record {
  text = first.text ++ later.text;
  holds = record {
    text = first.text ++ later.holds.text;
    rest = later.holds.rest;
    holds = joins first.text later.holds.text first.holds later.holds.holds;
    text_is = ap (λ (t : Text). first.text ++ t) later.holds.text_is ∙ sym (append_assoc first.text later.text later.holds.rest);
  };
  written = appends_then before now after first.text later.text first.written later.written;
}
