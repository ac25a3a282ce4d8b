use Rattle.std.proofs.Common.{◌≡◌, ◌⊎◌, ◌++◌, [], ℕ, List, ap, append-nil, append_assoc, codes, inl, inr, length, map, refl, string_bytes}
use Rattle.std.proofs.Common.{sym, ◌∙◌}
use Rattle.std.proofs.lemmas.Result.{on_ok_weaker}
use Rattle.adapter.specs.Outcomes.{with_frame}
use Rattle.adapter.specs.model_types.outcome.Outcome.{Outcome}
use Rattle.adapter.specs.model_types.outcome.Outcome.TheVariants as outcome
use Rattle.rx_engine.specs.declared.arrival.Fate.{Fate}
use Rattle.run_record.specs.EventTexts.{numbered, outcome_field, outcome_size, tick_text}
use Rattle.run_record.proofs.Appended.{also}
use Rattle.run_record.proofs.event_text.push_told.Goals as goal

-- only an outcome with a frame has a size
no-size : (frame : List ℕ) (one : Outcome (Unit {0})) → ((u : Unit {0}) → one ≡ outcome.Put u → ⊥)
    → ((u : Unit {0}) (fate : Fate) → one ≡ outcome.Delivered u fate → ⊥) → outcome_size (with_frame frame one) ≡ []
no-size frame (outcome.Put u) put delivered = absurd (put u refl)
no-size frame (outcome.Delivered u fate) put delivered = absurd (delivered u fate refl)
no-size frame _ put delivered = refl

has-size : (frame : List ℕ) (one : Outcome (Unit {0}))
    → ((u : Unit {0}) × (one ≡ outcome.Put u)) ⊎ ((u : Unit {0}) × (fate : Fate) × (one ≡ outcome.Delivered u fate))
    → outcome_size (with_frame frame one) ≡ numbered (codes " ") (length frame)
has-size frame one (inl (u, is)) = ap (λ (o : Outcome (Unit {0})). outcome_size (with_frame frame o)) is
has-size frame one (inr (u, fate, is)) = ap (λ (o : Outcome (Unit {0})). outcome_size (with_frame frame o)) is

-- the text with the tick and the word for its outcome
with-word : (before at tick field word first ticked worded : List ℕ) → first ≡ before ++ at → ticked ≡ first ++ tick
    → worded ≡ ticked ++ word → word ≡ field → worded ≡ before ++ (at ++ tick ++ field)
with-word before at tick field word first ticked worded one two three is =
    also before (at ++ tick) field ticked worded (also before at tick first ticked one two)
    (three ∙ ap (λ (list : List ℕ). ticked ++ list) is)

pub returns-in_default : goal.returns-in_default
returns-in_default c =
    let before = c.args.text.now.items in
    let at = numbered (codes " @") c.args.accesses in
    let tick = tick_text (map string_bytes c.args.names.now) c.args.tick in
    let field = outcome_field (with_frame c.args.frame.now c.args.outcome.now) in
    let none = no-size c.args.frame.now c.args.outcome.now c.in_default.not-Put c.in_default.not-Delivered in
    with-word before at tick field c.outcome_word.result.now c.push_number.new.text.items c.push_tick.new.text.items
    c.extend_from_slice.new.self.items c.in_ok-push_number.ensures c.in_ok-push_tick.ensures c.in_ok-extend_from_slice.ensures.items
    (c.outcome_word.ensures c.args.frame.now)
    ∙ ap (λ (list : List ℕ). before ++ (at ++ tick ++ list)) (sym (append-nil field) ∙ ap (λ (list : List ℕ). field ++ list) (sym none))

pub returns-in-Put : goal.returns-in-Put
returns-in-Put c =
    let before = c.args.text.now.items in
    let at = numbered (codes " @") c.args.accesses in
    let tick = tick_text (map string_bytes c.args.names.now) c.args.tick in
    let field = outcome_field (with_frame c.args.frame.now c.args.outcome.now) in
    let size = numbered (codes " ") (length c.args.frame.now) in
    let worded = c.extend_from_slice.new.self.items in
    let all = c.push_number-in-Put.new.text.items in
    let worded_is = with-word before at tick field c.outcome_word.result.now c.push_number.new.text.items c.push_tick.new.text.items worded
    c.in_ok-push_number.ensures c.in_ok-push_tick.ensures c.in_ok-extend_from_slice.ensures.items
    (c.outcome_word.ensures c.args.frame.now) in
    on_ok_weaker c.push_number-in-Put.result
    (λ (is : all ≡ worded ++ size). also before (at ++ tick ++ field) size worded all worded_is is
    ∙ ap (λ (list : List ℕ). before ++ list) (append_assoc (at ++ tick) field size)
    ∙ ap (λ (list : List ℕ). before ++ (at ++ tick ++ (field ++ list)))
    (sym (has-size c.args.frame.now c.args.outcome.now c.in-Put.is)))
    c.push_number-in-Put.ensures
