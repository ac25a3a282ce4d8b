-- Numbers that stand for options, kinds of steps, outcomes and fates in calls from C (our choice).
use Rattle.std.specs.Prelude.{◌==◌, ◌%◌, ◌&&◌, ℕ, Bool, Option, Some, None, if◌then◌else◌, nat_le, nat_lt}
use Rattle.adapter.specs.model_types.outcome.Outcome.{Outcome}
use Rattle.adapter.specs.model_types.outcome.Outcome.TheVariants.{Took, Put, WireFull, Part, Moved, Done, Delivered, Ticked, Nothing, Fault}
use Rattle.adapter.specs.model_types.step.StepKind.{StepKind}
use Rattle.played_adapter.specs.Kinds.{kind_numbered}
use Rattle.mdic_phy.specs.declared.phy.Link.{Link}
use Rattle.mdic_phy.specs.declared.phy.Link.TheVariants.{After, Never}
use Rattle.rx_engine.specs.declared.arrival.Fate.{Fate}
use Rattle.rx_engine.specs.declared.arrival.Fate.TheVariants.{Off, Illegal, Filtered, Missed, Stored}

-- The setting of the link for this number of ticks until the link is up. For 0, the link is never up. A number above 65,535 has no setting.
abbrev pub link_with : ℕ → Option Link
link_with number = if number == 0 then Some Never else if nat_lt 65535 number then None else Some (After number)

-- whether PBA.RXA may have this value: an even number of kilobytes from 2 to 48 (13.4.16 "Packet Buffer Allocation"; the bounds are our
-- choice)
abbrev pub is_receive_share : ℕ → Bool
is_receive_share kilobytes = (kilobytes % 2 == 0) && nat_le 2 kilobytes && nat_le kilobytes 48

-- The number that `step` and `arrive` return if they are refused. `play` returns this number if it is refused and can't return the number
-- of a faulty line.
abbrev pub refused : ℕ
refused = 0xFFFFFFFF

-- the kind of steps with this number, if there is one
abbrev pub kind_with : ℕ → Option StepKind
kind_with number = if nat_lt number 6 then Some (kind_numbered number) else None

-- the number of an outcome
abbrev pub outcome_number : {F : Type 0} → Outcome F → ℕ
outcome_number Nothing = 0
outcome_number Took = 1
outcome_number (Put frame) = 2
outcome_number WireFull = 3
outcome_number Part = 4
outcome_number Moved = 5
outcome_number Done = 6
outcome_number Ticked = 7
outcome_number Fault = 8
outcome_number (Delivered frame fate) = 9

-- the number of a fate
abbrev pub fate_number : Fate → ℕ
fate_number Off = 0
fate_number Illegal = 1
fate_number Filtered = 2
fate_number Missed = 3
fate_number Stored = 4
