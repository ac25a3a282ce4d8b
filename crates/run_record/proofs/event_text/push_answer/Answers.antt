use Rattle.std.proofs.Common.{◌≡◌, ◌++◌, ℕ, List, ap, codes, length, rules, sym, ◌∙◌}
use Rattle.std.proofs.lemmas.Result.{on_ok_weaker}
use Rattle.network_plan.specs.Answers.{answer_with}
use Rattle.run_record.specs.EventTexts.{answer_numbers, answer_word, numbered}
use Rattle.run_record.proofs.Appended.{also}
use Rattle.run_record.proofs.event_text.push_answer.Goals as goal

pub returns-in-Interrupted-Handled : goal.returns-in-Interrupted-Handled
returns-in-Interrupted-Handled c =
    let before = c.args.text.now.items in
    let one = answer_with c.args.frame.now c.args.answer.now in
    let worded = c.push_answer_word.new.text.items in
    let all = c.push_number-in-Interrupted-Handled.new.text.items in
    let size = numbered (codes " ") c.in-Interrupted-Handled.taken in
    let worded_is = c.in_ok-push_answer_word.ensures c.args.frame.now in
    let size_is : answer_numbers one ≡ size = search rules in
    on_ok_weaker c.push_number-in-Interrupted-Handled.result
    (λ (is : all ≡ worded ++ size). also before (answer_word one) (answer_numbers one) worded all worded_is
    (is ∙ ap (λ (list : List ℕ). worded ++ list) (sym size_is)))
    c.push_number-in-Interrupted-Handled.ensures

pub returns-in-Received-Ok : goal.returns-in-Received-Ok
returns-in-Received-Ok c =
    let before = c.args.text.now.items in
    let one = answer_with c.args.frame.now c.args.answer.now in
    let worded = c.push_answer_word.new.text.items in
    let all = c.push_number.new.text.items in
    let size = numbered (codes " ") (length c.args.frame.now) in
    let worded_is = c.in_ok-push_answer_word.ensures c.args.frame.now in
    let size_is : answer_numbers one ≡ size = search rules in
    on_ok_weaker c.push_number.result
    (λ (is : all ≡ worded ++ size). also before (answer_word one) (answer_numbers one) worded all worded_is
    (is ∙ ap (λ (list : List ℕ). worded ++ list) (sym size_is)))
    c.push_number.ensures
