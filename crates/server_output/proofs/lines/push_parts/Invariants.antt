use Rattle.std.proofs.Common.{◌≡◌, ◌++◌, drop}
use Rattle.server_output.specs.Texts.{joined_parts}
use Rattle.server_output.proofs.lines.push_parts.Given as goal

-- the text so far and the remaining parts are together the text with all parts
abbrev pub invariant-loop-part : goal.invariant-loop-part
invariant-loop-part l = l.text.items ++ joined_parts (drop l.part-index l.parts) ≡ l.initial.text.items ++ joined_parts l.parts
