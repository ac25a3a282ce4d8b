use Rattle.tx_engine.specs.Laws.{to_send-take, to_send-put, to_send-offer}
use Rattle.tx_engine.specs.StatusLaws.{to_send-elsewhere}
use Rattle.tx_engine.proofs.laws.frames_to_be_sent.Goals as goal

pub returns : goal.returns
returns c = record { take = to_send-take; put = to_send-put; others = to_send-elsewhere; offer = to_send-offer }
