use Rattle.bus.proofs.Links.{accesses_keep_link, happenings_keep_link, link_intervals_join}
use Rattle.bus.proofs.link_law.links_stay_up.Goals as goal

pub returns : goal.returns
returns c = record { happenings = happenings_keep_link; accesses = accesses_keep_link; joins = link_intervals_join }
