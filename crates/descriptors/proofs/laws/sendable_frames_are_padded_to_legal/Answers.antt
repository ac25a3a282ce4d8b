use Rattle.descriptors.specs.Laws.{padded-legal, take-padded, padded-long}
use Rattle.descriptors.proofs.laws.sendable_frames_are_padded_to_legal.Goals as goal

pub returns : goal.returns
returns c = record { legal = padded-legal; begins = take-padded; stays = padded-long }
