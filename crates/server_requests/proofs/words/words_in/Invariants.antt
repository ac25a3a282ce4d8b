use denote.Shadow.{shadow}
use denote.Text.{Utf8}
use Rattle.std.proofs.Common.{◌≡◌, ◌++◌, length}
use Rattle.std.specs.List.{filter, slice_split}
use Rattle.text.specs.Words.{is_word, texts, words_of}
use Rattle.server_requests.specs.Words.{is_blank}
use Rattle.server_requests.proofs.words.words_in.Given as goal

abbrev pub invariant-loop-rest : goal.invariant-loop-rest
invariant-loop-rest l =
    shadow (Utf8 l.rest) × (texts l.words.items ++ filter is_word (slice_split is_blank l.rest) ≡ words_of l.line)

abbrev pub decreases-loop-rest : goal.decreases-loop-rest
decreases-loop-rest l = length l.rest
