use Rattle.std.proofs.Common.{◌≡◌, drop, map}
use Rattle.text.specs.Tables.{entry_of, value_in}
use Rattle.text.proofs.table.value_of.Given as goal

-- The value of the word in the table is its value in the entries that the loop hasn't seen yet.
abbrev pub invariant-loop-name : goal.invariant-loop-name
invariant-loop-name g l = value_in (map entry_of (drop l.name-index l.table)) l.word ≡ value_in (map entry_of l.table) l.word
