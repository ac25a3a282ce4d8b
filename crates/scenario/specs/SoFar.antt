-- The hosts, commands and traces of the lines read so far (our choice).
use Rattle.std.specs.Prelude.{ℕ, Bool, List, [], Option, String, map, position, string_bytes}
use Rattle.std.specs.Str.{bytes_eq}
use Rattle.std.specs.declared.alloc.Global.{Global}
use Rattle.bring_up.specs.declared.config.Config.{Config}
use Rattle.mdic_phy.specs.declared.phy.Link.{Link}
use Rattle.network_plan.specs.declared.event.Event.{Event}
use Rattle.network_plan.specs.declared.event.Event.TheVariants as event
use Rattle.network_plan.specs.declared.plan.HostPlan.{HostPlan}
use Rattle.packet_socket.specs.declared.socket_kind.SocketKind.{SocketKind}
use Rattle.stations.specs.declared.tick.Tick.{Tick}
use Rattle.scenario.specs.Words.{Text}
use Rattle.scenario.specs.declared.call.Call.{Call}
use Rattle.scenario.specs.declared.call.Call.TheVariants as call
use Rattle.scenario.specs.declared.command.Command.{Command}
use Rattle.scenario.specs.declared.command.Command.TheVariants as command
use Rattle.scenario.specs.declared.command.Scenario.{Scenario}

-- A host of the plan, with the bytes of its names.
pub record Host : Type 0 where
  -- the host's name
  pub name : Text
  -- the name of the host's wire
  pub wire : Text
  -- the words of the host's EEPROM
  pub image : List ℕ
  -- the setting of the host's link: the number of PHY ticks until the link is up, or never
  pub link : Link
  -- the host's rings, buffers, packet buffer and filter
  pub config : Config
  -- which frames each socket of the host takes, in order
  pub sockets : List SocketKind

-- the host of a plan
abbrev pub host_of_plan : HostPlan → Host
host_of_plan plan = record {
  name = string_bytes plan.name;
  wire = string_bytes plan.wire;
  image = plan.image;
  link = plan.link;
  config = plan.config;
  sockets = plan.sockets.items;
}

-- A command or an event, with the bytes of its frame and the list of its ticks. Feeds, Draws and Drains are commands
-- that aren't events: frames of a trace, random events, and a drain.
pub data Said : Type 0 where
  Sends : (host : ℕ) (frame : List ℕ) (ticks : List Tick) → Said
  Receives : (host socket : ℕ) (ticks : List Tick) → Said
  Interrupts : (host : ℕ) (ticks : List Tick) → Said
  Resets : (host : ℕ) (ticks : List Tick) → Said
  Joins : (host : ℕ) (group : List ℕ) (ticks : List Tick) → Said
  Leaves : (host : ℕ) (group : List ℕ) (ticks : List Tick) → Said
  Ticks : (tick : Tick) → Said
  Feeds : (host trace : ℕ) → Said
  Draws : (count start : ℕ) → Said
  Drains : (host : ℕ) → Said

-- the command of an event
abbrev pub command_of_event : Event → Said
command_of_event (event.Send host frame ticks) = Sends host frame.now ticks.now
command_of_event (event.Recv host socket ticks) = Receives host socket ticks.now
command_of_event (event.Interrupt host ticks) = Interrupts host ticks.now
command_of_event (event.Reset host ticks) = Resets host ticks.now
command_of_event (event.Join host group ticks) = Joins host group ticks.now
command_of_event (event.Leave host group ticks) = Leaves host group ticks.now
command_of_event (event.Tick tick) = Ticks tick

-- the command of this call at a host, during which these ticks are played
abbrev pub said_of_call : Call → (host : ℕ) (ticks : List Tick) → Said
said_of_call (call.Send frame) host ticks = Sends host frame.items ticks
said_of_call (call.Recv socket) host ticks = Receives host socket ticks
said_of_call call.Interrupt host ticks = Interrupts host ticks
said_of_call call.Reset host ticks = Resets host ticks
said_of_call (call.Join group) host ticks = Joins host group ticks
said_of_call (call.Leave group) host ticks = Leaves host group ticks

-- a command of a scenario, with the bytes of its frame and the list of its ticks
abbrev pub said_of : Command → Said
said_of (command.Call host one ticks) = said_of_call one host ticks.items
said_of (command.Tick tick) = Ticks tick
said_of (command.Feed host trace) = Feeds host trace
said_of (command.Auto count start) = Draws count start
said_of (command.Drain host) = Drains host

-- the hosts, commands and names of traces of the lines read so far
pub record SoFar : Type 0 where
  pub hosts : List Host
  pub commands : List Said
  pub traces : List Text

-- the hosts of these plans
abbrev pub hosts_of : List HostPlan → List Host
hosts_of plans = map host_of_plan plans

-- the hosts, commands and names of traces of a scenario
abbrev pub so_far : Scenario → SoFar
so_far scenario = record {
  hosts = hosts_of scenario.plan.hosts.items;
  commands = map said_of scenario.commands.items;
  traces = map (λ (name : String Global). string_bytes name) scenario.traces.items;
}

-- no hosts, no commands and no traces: before the first line
abbrev pub nothing_read : SoFar
nothing_read = record { hosts = []; commands = []; traces = [] }

-- whether the host has this name
abbrev pub has_name : Text → Host → Bool
has_name name host = bytes_eq host.name name

-- the number of the first host of this name; None if there is no such host
abbrev pub host_place : Text → List Host → Option ℕ
host_place name hosts = position (has_name name) hosts
