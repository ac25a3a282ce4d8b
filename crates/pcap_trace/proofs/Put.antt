-- Bytes that are written into a block after the first ones.
use Rattle.std.proofs.Common.{◌≡◌, ◌≤◌, ◌+◌, ◌++◌, ℕ, List, length, take, drop, sym, ap, ◌∙◌, arith}
use Rattle.std.proofs.lemmas.List.{length-append, length-take-le}
use Rattle.std.proofs.Math.Seq.{take-append_seam}

pub put_after : (block bytes : List ℕ) (end : ℕ) → end + length bytes ≤ length block
    → take (end + length bytes) (take end block ++ bytes ++ drop (end + length bytes) block) ≡ take end block ++ bytes
put_after block bytes end fits =
    let front = take end block in
    let size : length (front ++ bytes) ≡ end + length bytes =
    length-append front bytes ∙ ap (λ (n : ℕ). n + length bytes) (length-take-le end block (omega (arith, fits))) in
    ap (λ (n : ℕ). take n (front ++ bytes ++ drop (end + length bytes) block)) (sym size)
    ∙ take-append_seam (front ++ bytes) (drop (end + length bytes) block)
