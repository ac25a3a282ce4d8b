use Rattle.wire.proofs.LegalFrames.{made-legal, runs-legal}
use Rattle.wire.proofs.law.frames_are_legal.Goals as goal

pub returns-clause-made : goal.returns-clause-made
returns-clause-made c = made-legal

pub returns-clause-stays : goal.returns-clause-stays
returns-clause-stays c = runs-legal
