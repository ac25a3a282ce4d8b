-- The words that lines begin with (our choice).
use Rattle.std.specs.Prelude.{List, [], ◌∷◌, Option, codes}
use Rattle.text.specs.Tables.{value_in}
use Rattle.scenario.specs.Words.{Text}
use Rattle.scenario.specs.declared.line_kind.CallKind.TheVariants as call
use Rattle.scenario.specs.declared.line_kind.ItemKind.TheVariants as item
use Rattle.scenario.specs.declared.line_kind.LineKind.{LineKind}
use Rattle.scenario.specs.declared.line_kind.LineKind.TheVariants as line

-- the words with which lines begin, and the kinds of these lines
abbrev pub kinds : List (Text × LineKind)
kinds =
    (codes "host", line.Host)
    ∷ (codes "group", line.Item item.Group)
    ∷ (codes "vlan", line.Item item.Vlan)
    ∷ (codes "socket", line.Item item.Socket)
    ∷ (codes "send", line.Call call.Send)
    ∷ (codes "recv", line.Call call.Recv)
    ∷ (codes "interrupt", line.Call call.Interrupt)
    ∷ (codes "reset", line.Call call.Reset)
    ∷ (codes "join", line.Call call.Join)
    ∷ (codes "leave", line.Call call.Leave)
    ∷ (codes "tick", line.Tick)
    ∷ (codes "feed", line.Feed)
    ∷ (codes "auto", line.Auto)
    ∷ (codes "drain", line.Drain)
    ∷ []

-- the kind of the lines that begin with a word; None if there is no such kind
unfoldable pub line_kind_named : Text → Option LineKind
line_kind_named word = value_in kinds word
