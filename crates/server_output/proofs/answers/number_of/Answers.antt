use Rattle.std.proofs.Common.{◌∙◌, ◌++◌, List, ℕ, ap, drop, length, replicate}
use Rattle.std.proofs.lemmas.List.{drop-replicate}
use Rattle.std.specs.Int.{from_le_bytes, w64}
use Rattle.server_output.specs.Answers.{number_of_bytes}
use Rattle.server_output.proofs.answers.number_of.Goals as goal

pub returns : goal.returns
unfolding number_of_bytes
returns c =
    let size = length c.args.bytes.now in
    c.from_le_bytes.ensures
    ∙ ap (λ (front : List ℕ). from_le_bytes w64 (front ++ drop size (replicate 8 0))) c.copy_from_slice.ensures.after
    ∙ ap (λ (rest : List ℕ). from_le_bytes w64 (c.args.bytes.now ++ rest)) (drop-replicate size 8 0)
