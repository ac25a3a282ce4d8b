use Rattle.std.proofs.Common.{◌≡◌, ◌++◌, ◌∷◌, [], ℕ, List, ap, arith, is_some, map, refl, ◌∙◌}
use Rattle.network_plan.specs.Answers.{answer_with}
use Rattle.stations.specs.Outcomes.{OutcomeList, note_of}
use Rattle.stations.specs.declared.outcomes.Numbered.{Numbered}
use Rattle.network_plan.specs.declared.reply.Reply.{Reply}
use Rattle.wire.proofs.collector.CollectorRunObserver.answer.Goals as goal

pub unwrap-given-requires : goal.unwrap-given-requires
unwrap-given-requires c = ap is_some c.take.ensures.value ∙ c.requires.room.frame

pub push_reserved-requires : goal.push_reserved-requires
push_reserved-requires c = omega (arith, c.args.self.now.replies.now.ok.0, c.requires.room.place)

pub returns : goal.returns
returns c = λ begin ticks heard of_ticks.
    let held = c.args.self.now.current.now.outcomes in
    let with_outcomes : OutcomeList → Reply = λ outcomes.
    record { answer = c.with_frame.result; accesses = c.args.accesses; outcomes = outcomes } in
    let told : OutcomeList = record { list = map note_of ticks; room = held.room } in
    record {
      reply = with_outcomes told;
      replies = record {
        answer = c.with_frame.ensures ∙ ap (λ (frame : List ℕ). answer_with frame c.args.answer) c.fill.ensures;
        accesses = refl;
        outcomes = refl;
      };
      told = λ empty.
          let collected : held ≡ told =
          ap (λ (list : List Numbered). record { list = list; room = held.room })
          (heard.outcomes ∙ ap (λ (list : List Numbered). list ++ map note_of ticks) empty) in
          record {
            same = record { list = heard.same.list };
            appended =
                c.push_reserved.ensures.items
                ∙ ap (λ (outcomes : OutcomeList). c.args.self.now.replies.now.items ++ with_outcomes outcomes ∷ [])
                (c.replace-outcomes.ensures.value ∙ collected)
                ∙ ap (λ (items : List Reply). items ++ with_outcomes told ∷ []) heard.replies;
            none_left = ap (λ (outcomes : OutcomeList). outcomes.list) c.replace-outcomes.ensures.after ∙ c.new.ensures.none;
          };
    }
