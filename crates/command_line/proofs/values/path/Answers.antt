use Rattle.command_line.proofs.Getters.{got_some, text_is}
use Rattle.command_line.proofs.values.path.Goals as goal

pub unwrap-requires : goal.unwrap-requires
unwrap-requires c = got_some _ c.text.result c.text.ensures c.requires

pub returns : goal.returns
returns c = text_is _ c.text.result c.text.ensures c.unwrap.ensures
