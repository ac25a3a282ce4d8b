use Rattle.bus.proofs.Settings.{happenings_leave_settings, settings_join, stays-off, writes-set}
use Rattle.bus.proofs.settings_law.writes_alone_set.Goals as goal

pub returns : goal.returns
returns c = record { happenings = happenings_leave_settings; writes = writes-set; joins = settings_join; stays_off = stays-off }
