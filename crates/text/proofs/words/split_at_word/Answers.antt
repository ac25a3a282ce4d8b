use Rattle.text.proofs.Slices.{after_mark, before_mark}
use Rattle.text.proofs.words.split_at_word.Goals as goal

pub returns-in-Some-clause-before : goal.returns-in-Some-clause-before
returns-in-Some-clause-before c = before_mark c.args.mark.now c.args.words.now c.in-Some.place c.in-Some.ensures.place

pub returns-in-Some-clause-after : goal.returns-in-Some-clause-after
returns-in-Some-clause-after c = after_mark c.args.mark.now c.args.words.now c.in-Some.place c.in-Some.ensures.place
