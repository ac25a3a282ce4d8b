use Rattle.std.proofs.Common.{◌≡◌, ◌++◌, ◌∙◌, [], List, ℕ, ap, arith, codes, flat_map, sym}
use Rattle.std.proofs.lemmas.List.{append-nil, nil_from_length}
use Rattle.server_output.specs.Texts.{Text, frame_word}
use Rattle.server_output.proofs.lines.frames_line.Goals as goal

pub loop-frame-preserved : goal.loop-frame-preserved
loop-frame-preserved c = record {
  text = c.in_ok-push_frame.ensures.same ∙ c.loop-frame.invariant.text;
  left = omega (arith, c.in_ok-push_frame.ensures.few, c.loop-frame.invariant.left, c.loop-frame-test.true, c.len-count.ensures);
}

pub returns-clause-none : goal.returns-clause-none
returns-clause-none c =
    nil_from_length c.loop-frame.frames (omega (arith, c.loop-frame.invariant.left, c.loop-frame-test.false, c.len-count.ensures))

pub returns-clause-text : goal.returns-clause-text
returns-clause-text c =
    let none : c.loop-frame.frames ≡ [] = returns-clause-none c in
    c.in_ok-extend_from_slice.ensures.items
    ∙ ap (λ (text : Text). text ++ codes "\n")
    (sym (append-nil c.loop-frame.text.items)
    ∙ sym (ap (λ (left : List (List ℕ)). c.loop-frame.text.items ++ flat_map frame_word left) none)
    ∙ c.loop-frame.invariant.text)
