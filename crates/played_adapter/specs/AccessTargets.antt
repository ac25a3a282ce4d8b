-- What a schedule meets at an access: the kind of the access, and its target.
use Rattle.access_names.specs.Targets.{memory_target_in}
use Rattle.access_names.specs.declared.target.Target.{Target}
use Rattle.access_names.specs.declared.target.Target.TheVariants.{Register}
use Rattle.adapter.specs.State.{AdapterState}
use Rattle.adapter.specs.bus_types.event.Access.{Access}
use Rattle.adapter.specs.bus_types.event.Access.TheVariants.{Loads, Reads, Stores, Writes}
use Rattle.step_schedules.specs.declared.deviation.Before.{Before}
use Rattle.step_schedules.specs.declared.deviation.Before.TheVariants.{Read, Write}

-- before a read or before a write, by the kind of the access
abbrev pub before_of : Access → Before
before_of (Reads offset value) = Read
before_of (Writes offset value) = Write
before_of (Loads address size) = Read
before_of (Stores address bytes) = Write

-- the target of an access
abbrev pub target_of : Access → AdapterState → Target
target_of (Reads offset value) adapter = Register offset
target_of (Writes offset value) adapter = Register offset
target_of (Loads address size) adapter = memory_target_in adapter address
target_of (Stores address bytes) adapter = memory_target_in adapter address
