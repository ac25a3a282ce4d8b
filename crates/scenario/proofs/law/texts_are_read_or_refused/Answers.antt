use Rattle.scenario.proofs.FirstFaults.{read-or-refused, refused-once}
use Rattle.scenario.proofs.law.texts_are_read_or_refused.Goals as goal

pub returns-clause-read : goal.returns-clause-read
returns-clause-read c = read-or-refused

pub returns-clause-once : goal.returns-clause-once
returns-clause-once c = refused-once
