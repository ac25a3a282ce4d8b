use Rattle.std.proofs.Common.{◌++◌, ℕ, List, ap, codes, map, string_bytes, ◌∙◌}
use Rattle.network_plan.specs.Answers.{answer_with}
use Rattle.run_record.specs.EventLines.{end_logged, place_text}
use Rattle.run_record.specs.EventTexts.{answer_text, event_text, numbered}
use Rattle.run_record.proofs.Appended.{also}
use Rattle.run_record.proofs.run_log.EventLog.end.Goals as goal

pub returns : goal.returns
returns c =
    let names = map string_bytes c.self.inside.names.items in
    let answer = answer_with c.args.frame.now c.args.answer.now in
    let outcomes = c.self.inside.outcomes.items in
    let place = place_text c.args.place in
    let event = event_text names c.args.event.now in
    let told = answer_text answer in
    let count = numbered (codes " accesses ") c.args.accesses in
    let feed = codes "\n" in
    let before = c.self.inside.text.items in
    let placed = c.push_place.new.text.items in
    let called = c.push_event.new.text.items in
    let answered = c.push_answer.new.text.items in
    let counted = c.push_number.new.text.items in
    let ticked = c.extend_from_slice.new.self.items in
    let all = c.extend_from_slice-2.new.self.items in
    let event_is = c.in_ok-push_event.ensures
    ∙ ap (λ list. placed ++ event_text (map string_bytes list) c.args.event.now) c.as_slice.ensures.value in
    let outcomes_is = c.in_ok-extend_from_slice.ensures.items ∙ ap (λ (list : List ℕ). counted ++ list) c.as_slice-2.ensures.value in
    let called_is = also before place event placed called c.in_ok-push_place.ensures event_is in
    let answered_is = also before (place ++ event) told called answered called_is c.in_ok-push_answer.ensures in
    let counted_is = also before (place ++ event ++ told) count answered counted answered_is c.in_ok-push_number.ensures in
    let ticked_is = also before (place ++ event ++ told ++ count) outcomes counted ticked counted_is outcomes_is in
    let line = also before (place ++ event ++ told ++ count ++ outcomes) feed ticked all ticked_is
    c.in_ok-extend_from_slice-2.ensures.items in
    ap (λ (text : List ℕ). record { names = names; outcomes = c.clear.new.self.items; text = text }) line
    ∙ ap (λ (list : List ℕ). record {
      names = names;
      outcomes = list;
      text = before ++ (place ++ event ++ told ++ count ++ outcomes ++ feed);
    }) c.clear.ensures.items
    ∙ ap (end_logged c.args.place c.args.event.now c.args.accesses answer) c.self.view_is
