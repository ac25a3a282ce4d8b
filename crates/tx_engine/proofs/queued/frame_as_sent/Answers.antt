use Rattle.std.proofs.Common.{◌≡◌, ◌++◌, ℕ, List, replicate, take, ap, ◌∙◌}
use Rattle.std.proofs.lemmas.List.{take-replicate}
use Rattle.tx_engine.proofs.QueuedWalk.{sent-is}
use Rattle.tx_engine.proofs.queued.frame_as_sent.Goals as goal

pub returns : goal.returns
returns c =
    let bytes = c.args.bytes.now in
    let n = c.zeros_after-count.result in
    let first : c.extend.new.whole.items ≡ bytes = c.extend.ensures ∙ ap (λ (list : List ℕ). list ++ bytes) c.new-whole.ensures in
    let zeros : take n (replicate 60 0) ≡ replicate n 0 = take-replicate n 60 0 c.zeros_after-count.ensures.most in
    c.from_slice.ensures ∙ c.as_slice.ensures.value ∙ c.extend-2.ensures
    ∙ ap (λ (list : List ℕ). list ++ take n (replicate 60 0)) first
    ∙ ap (λ (list : List ℕ). bytes ++ list) zeros
    ∙ ap (λ (k : ℕ). bytes ++ replicate k 0) c.zeros_after-count.ensures.zeros
    ∙ sent-is bytes c.args.pad
