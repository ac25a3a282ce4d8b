use Rattle.search.specs.Options.{is_option}
use Rattle.search.proofs.Written.{Written}
use Rattle.search.proofs.options.write_options.Given as goal

abbrev pub invariant-loop-number : goal.invariant-loop-number
invariant-loop-number l =
    Written (is_option l.actions l.possible l.last l.is_every) l.number l.count l.into l.initial.into
