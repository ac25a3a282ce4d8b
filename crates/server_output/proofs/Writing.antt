-- Texts that are written one after another.
use Rattle.std.specs.Prelude.{ℕ, List, Option}
use Rattle.server_output.specs.Order.{WritesText}
use Rattle.server_output.specs.Texts.{Text}
pub use Rattle.server_output.specs.WritingLaws.{appends_kept, appends_none, appends_then}

pub tells_so : (P Q : Text → Type 0) (before after : Option (List ℕ)) → ((text : Text) → P text → Q text) → WritesText before after P
    → WritesText before after Q
tells_so P Q before after so tells = record { text = tells.text; holds = so tells.text tells.holds; written = tells.written }
