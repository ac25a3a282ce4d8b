use Rattle.bus.proofs.AdaptersAtRest.{accesses_keep_rest, happenings_keep_rest, rest_after_reset, rest_is_idle}
use Rattle.bus.proofs.settings_law.adapters_rest.Goals as goal

pub returns : goal.returns
returns c = record { idle = rest_is_idle; after_reset = rest_after_reset; happenings = happenings_keep_rest; accesses = accesses_keep_rest }
