-- Calls of a driver over a bus, one after the other.
use Rattle.std.proofs.Common.{Bool, ◌++◌}
use Rattle.bus.specs.Keeping.{Keeps}
use Rattle.bus.specs.Pasts.{Past, joined}
use Rattle.bus.specs.declared.bus.Bus.{Ghosts}
use Rattle.bus.proofs.DriverAccesses.{ran_by-join}
use Rattle.bus.specs.Calls.{Did, IsReadyOver, Moment, Ran, call_did}

-- what was done in two consecutive calls
abbrev pub both : Did → Did → Did
both one two =
    call_did (one.accesses ++ two.accesses) (one.frames.taken ++ two.frames.taken) (one.frames.accepted ++ two.frames.accepted)

unfoldable pub ran-on : {B : Type 0} (bus : Ghosts B)
    → ((a b c : B) (first later : Past) → bus.happened a b first → bus.happened b c later → bus.happened a c (joined first later))
    → {first_up up : Bool} {one two : Did} {a b c : Moment B} → Ran bus first_up one a b → Ran bus up two b c
    → Ran bus up (both one two) a c
ran-on bus joins {first_up} {up} {one} {two} {a} {b} {c} ran later =
    ran_by-join bus joins one.accesses two.accesses a.bus b.bus c.bus a.driver b.driver c.driver one.frames.taken
    two.frames.taken one.frames.accepted two.frames.accepted ran later

pub ready-on : {B : Type 0} (bus : Ghosts B) {up : Bool} {did : Did} (a b : Moment B) → Keeps bus a.bus b.bus → IsReadyOver bus up a
    → Ran bus up did a b → IsReadyOver bus up b
ready-on bus a b keeps is ran = record { honest = keeps.honest is.honest; ready = ran.goes.flows.ready }
