-- The answers to refused lines (QEMU, docs/devel/testing/qtest: FAIL and ERR; the reasons are our choice).
use Rattle.std.specs.Prelude.{codes}
use Rattle.server_requests.specs.Texts.{Text}
use Rattle.server_requests.specs.declared.refusal.Refusal.{Refusal}
use Rattle.server_requests.specs.declared.refusal.Refusal.TheVariants as refusals

-- the answer to a line that is refused for this reason, with its LF
abbrev pub refusal_line : Refusal → Text
refusal_line refusals.Unknown = codes "FAIL unknown\n"
refusal_line refusals.Count = codes "ERR count\n"
refusal_line refusals.Value = codes "ERR value\n"
refusal_line refusals.Size = codes "ERR size\n"
refusal_line refusals.Address = codes "ERR address\n"
refusal_line refusals.Register = codes "ERR register\n"
refusal_line refusals.Saved = codes "ERR saved\n"
refusal_line refusals.Text = codes "ERR text\n"
refusal_line refusals.Long = codes "ERR long\n"
