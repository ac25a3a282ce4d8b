-- The lines that the program prints of a run (our choice).
use Rattle.std.specs.Prelude.{◌++◌, [], ℕ, Bool, true, false, List, None, Option, Some, codes, string_bytes}
use Rattle.std.specs.List.{flat_map}
use Rattle.text.specs.Fields.{labelled}
use Rattle.run_record.specs.declared.tally.GivenUp.{GivenUp}
use Rattle.run_record.specs.declared.summary.HostSummary.{HostSummary}
use Rattle.run_record.specs.declared.summary.Summary.{Summary}

-- the word for whether the number of missed frames is exact
abbrev pub exact_word : Bool → List ℕ
exact_word true = codes " exact"
exact_word false = codes " atleast"

-- the numbers of frames that resets dropped, and that arrived while the receive side was disabled; empty if there was
-- no reset
abbrev pub resets_text : Option GivenUp → List ℕ
resets_text None = []
resets_text (Some told) = labelled (codes " givenup ") told.sending ++ labelled (codes " ") told.holding
    ++ labelled (codes " off ") told.off

-- the part of a host's line after its name
abbrev pub host_fields : HostSummary → List ℕ
host_fields host =
    labelled (codes " accepted ") host.accepted ++ labelled (codes " put ") host.put
    ++ labelled (codes " reached ") host.reached
    ++ labelled (codes " stored ") host.stored ++ labelled (codes " missed ") host.missed ++ exact_word host.exact
    ++ labelled (codes " given ") host.given ++ labelled (codes " unclaimed ") host.unclaimed ++ resets_text host.given_up
    ++ codes "\n"

-- the line of a host: its name, and the other parts
abbrev pub host_line : HostSummary → List ℕ
host_line host = string_bytes host.name ++ host_fields host

-- the lines of a run, one line for each host
abbrev pub summary_text : Summary → List ℕ
summary_text summary = flat_map host_line summary.hosts.items
