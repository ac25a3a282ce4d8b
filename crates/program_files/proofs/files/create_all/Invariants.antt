use Rattle.std.proofs.Common.{◌≡◌, length}
use Rattle.std.specs.Prelude.{All}
use Rattle.program_files.proofs.files.create_all.Given as goal

-- the files so far were opened, and no write to them has failed
abbrev pub invariant-loop-name : goal.invariant-loop-name
invariant-loop-name g l = record {
  count : length l.sinks.items ≡ l.name-index;
  countable : All (λ sink. sink.failures ≡ 0) l.sinks.items;
}
