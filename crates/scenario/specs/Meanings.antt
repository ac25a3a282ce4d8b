-- The meaning of lines, by their kinds (our choice). Words are numbered from 0; word 0 decides the kind of a line.
use Rattle.std.specs.Prelude.{◌≡◌, ◌<◌, ◌≤◌, ◌&&◌, ℕ, Bool, true, List, [], ◌∷◌, ◌++◌, Some, None, find, if◌then◌else◌}
use Rattle.std.specs.Prelude.{IsSome, IsSomeAnd, codes, drop, false, is_some, length, map, nat_le, unwrap_or}
use Rattle.std.specs.List.{list_all}
use Rattle.std.specs.Str.Parse.{digits_value}
use Rattle.eeprom.specs.Image.{image_with}
use Rattle.bring_up.specs.Configuration.{vlans_of}
use Rattle.packet_socket.specs.declared.socket_kind.SocketKind.{SocketKind}
use Rattle.packet_socket.specs.declared.socket_kind.SocketKind.TheVariants as socket
use Rattle.stations.specs.declared.tick.Tick.{Tick}
use Rattle.stations.specs.declared.tick.Tick.TheVariants as tick
use Rattle.scenario.specs.HostOptions.{HaveValuesOnce, HaveRightForms, options_asked, uses_in}
use Rattle.scenario.specs.SoFar.{Host, Said, SoFar, Sends, Receives, Interrupts, Resets, Joins, Leaves, Ticks, Feeds, Draws, Drains}
use Rattle.scenario.specs.SoFar.{has_name, host_place, said_of_call}
use Rattle.scenario.specs.Spellings.{IsAddressText, IsFrame, address_in, frame_in, socket_in}
use Rattle.text.specs.Numbers.{is_number}
use Rattle.text.specs.Words.{words_after, words_before}
use Rattle.scenario.specs.TickWords.{is_tick, tick_named}
use Rattle.scenario.specs.Words.{Text, word}
use Rattle.scenario.specs.declared.host_use.HostOptions.{HostOptions}
use Rattle.scenario.specs.declared.call.Call.{Call}
use Rattle.scenario.specs.declared.host_change.Item.{Item}
use Rattle.scenario.specs.declared.host_change.Item.TheVariants as items
use Rattle.scenario.specs.declared.line_kind.CallKind.{CallKind}
use Rattle.scenario.specs.declared.line_kind.CallKind.TheVariants as call
use Rattle.scenario.specs.declared.line_kind.ItemKind.{ItemKind}
use Rattle.scenario.specs.declared.line_kind.ItemKind.TheVariants as item
use Rattle.scenario.specs.declared.line_kind.LineKind.{LineKind}
use Rattle.scenario.specs.declared.line_kind.LineKind.TheVariants as line

-- the maximum number of events of an `auto` line
abbrev pub most_events : ℕ
most_events = 1000000

-- the words of a call: the words before the first word that is a slash, or all words if there is no slash
abbrev pub call_words : List Text → List Text
call_words words = words_before (codes "/") words

-- the words of a call's ticks: the words after the first word that is a slash, or no word if there is no slash
abbrev pub tick_words : List Text → List Text
tick_words words = words_after (codes "/") words

-- the words of the options of a `host` line: all words after the first four
abbrev pub option_words : List Text → List Text
option_words words = drop 4 words

-- whether a word is a number of events to draw: a decimal number of at most 1,000,000
abbrev pub is_count : Text → Bool
is_count text = is_number 10 64 text && nat_le (digits_value 10 text) most_events

-- whether each word spells a tick
abbrev pub are_ticks : List Text → Bool
are_ticks words = list_all is_tick words

-- whether each word is go, or spells a tick at a known host
abbrev pub are_ticks_of : List Host → List Text → Bool
are_ticks_of hosts words = list_all (λ one. is_some (tick_named hosts one)) words

-- the ticks that words spell; `Go` for a word that spells no tick at a known host
abbrev pub ticks_in : List Host → List Text → List Tick
ticks_in hosts words = map (λ one. unwrap_or (tick_named hosts one) tick.Go) words

-- A `host` line has at least 4 words, each option that takes a value has one, and no option occurs twice.
pub record HasHostWords (words : List Text) : Type 0 where
  pub least : 4 ≤ length words
  pub options : HaveValuesOnce (uses_in (option_words words))

-- the number of words of a line with a call of this kind, without the slash and the ticks
abbrev pub size_of_call : CallKind → ℕ
size_of_call call.Interrupt = 2
size_of_call call.Reset = 2
size_of_call _ = 3

-- A line of this kind has the right number of words. The slash and the words of a call's ticks don't count.
abbrev pub HasCount : LineKind → List Text → Type 0
HasCount line.Host words = HasHostWords words
HasCount (line.Item one) words = length words ≡ 3
HasCount (line.Call one) words = length (call_words words) ≡ size_of_call one
HasCount line.Tick words = length words ≡ 2
HasCount line.Feed words = length words ≡ 3
HasCount line.Auto words = length words ≡ 3
HasCount line.Drain words = length words ≡ 2

-- A text has the form of an item of this kind.
abbrev pub IsItem : ItemKind → Text → Type 0
IsItem item.Group text = IsAddressText text
IsItem item.Vlan text = is_number 10 16 text ≡ true
IsItem item.Socket text = IsSome (socket_in text)

-- The words of a call of this kind have the forms for their places.
abbrev pub CanAsk : CallKind → List Text → Type 0
CanAsk call.Send words = IsFrame (word 2 words)
CanAsk call.Recv words = is_number 10 64 (word 2 words) ≡ true
CanAsk call.Interrupt words = Unit {0}
CanAsk call.Reset words = Unit {0}
CanAsk call.Join words = IsAddressText (word 2 words)
CanAsk call.Leave words = IsAddressText (word 2 words)

-- Each word of a line of this kind has the form for its place.
abbrev pub HasValues : LineKind → List Text → Type 0
HasValues line.Host words = IsAddressText (word 2 words) × HaveRightForms (uses_in (option_words words))
HasValues (line.Item one) words = IsItem one (word 2 words)
HasValues (line.Call one) words = CanAsk one (call_words words) × (are_ticks (tick_words words) ≡ true)
HasValues line.Tick words = is_tick (word 1 words) ≡ true
HasValues line.Feed words = Unit {0}
HasValues line.Auto words = (is_count (word 1 words) ≡ true) × (is_number 10 64 (word 2 words) ≡ true)
HasValues line.Drain words = Unit {0}

-- There is a host of this name, and the first such host holds fewer than `most` items.
abbrev pub IsRoomAt : Text → (Host → ℕ) → ℕ → List Host → Type 0
IsRoomAt name held most hosts = IsSomeAnd (find (has_name name) hosts) (λ host. held host < most)

-- the number of a host's groups
abbrev pub groups_held : Host → ℕ
groups_held host = length host.config.groups.items

-- the number of VLANs in a host's list; 0 if the host has no list
abbrev pub vlans_held : Host → ℕ
vlans_held host = length (vlans_of host.config.vlans)

-- the number of a host's sockets
abbrev pub sockets_held : Host → ℕ
sockets_held host = length host.sockets

-- the number of a host's items of the same kind as this item
abbrev pub items_held : Item → Host → ℕ
items_held (items.Group group) = groups_held
items_held (items.Vlan vlan) = vlans_held
items_held (items.Socket socket) = sockets_held

-- the maximum number of a host's items of the same kind as this item
abbrev pub most_items : Item → ℕ
most_items (items.Group group) = 32
most_items (items.Vlan vlan) = 32
most_items (items.Socket socket) = 8

-- the number that a text of decimal digits spells
abbrev pub number_read : Text → ℕ
number_read text = digits_value 10 text

-- the item of this kind that a text of the right form spells
abbrev pub item_in : ItemKind → Text → Item
item_in item.Group text = items.Group (address_in text)
item_in item.Vlan text = items.Vlan (number_read text)
item_in item.Socket text = items.Socket (unwrap_or (socket_in text) socket.All)

-- There is a host of this name, and the first such host has room for this item.
abbrev pub IsRoomFor : Text → Item → List Host → Type 0
IsRoomFor name one hosts = IsRoomAt name (items_held one) (most_items one) hosts

-- There is a host of this name.
abbrev pub NamesHost : Text → List Host → Type 0
NamesHost name hosts = IsSome (host_place name hosts)

-- There is a host of this name, and each tick is `go` or at a known host.
pub record AreKnown (hosts : List Host) (name : Text) (ticks : List Text) : Type 0 where
  pub host : NamesHost name hosts
  pub inside : are_ticks_of hosts ticks ≡ true

-- The hosts that the line names are known; for a `host` line, the name of the new host isn't known. For a new item, the
-- first host of this name has room.
abbrev pub HasHostNames : LineKind → List Host → List Text → Type 0
HasHostNames line.Host hosts words = host_place (word 1 words) hosts ≡ None
HasHostNames (line.Item one) hosts words = IsRoomFor (word 1 words) (item_in one (word 2 words)) hosts
HasHostNames (line.Call one) hosts words = AreKnown hosts (word 1 (call_words words)) (tick_words words)
HasHostNames line.Tick hosts words = IsSome (tick_named hosts (word 1 words))
HasHostNames line.Feed hosts words = NamesHost (word 1 words) hosts
HasHostNames line.Auto hosts words = Unit {0}
HasHostNames line.Drain hosts words = NamesHost (word 1 words) hosts

-- whether lines of this kind set up hosts: `host` lines, and lines that add a group, a VLAN or a socket
abbrev pub sets_up : LineKind → Bool
sets_up line.Host = true
sets_up (line.Item one) = true
sets_up _ = false

-- If the line sets up hosts, no command comes before the line.
abbrev pub HasOrder : LineKind → List Said → Type 0
HasOrder kind commands = sets_up kind ≡ true → length commands ≡ 0

-- a host with these options, no groups, all VLANs and no sockets
abbrev pub host_described : (name : Text) (address : List ℕ) (wire : Text) (options : HostOptions) → Host
host_described name address wire options = record {
  name = name;
  wire = wire;
  image = image_with address;
  link = options.link;
  config = record {
    rx = options.rx;
    tx = options.tx;
    buffers = options.buffers;
    rxa = options.rxa;
    promiscuous = options.promiscuous;
    groups = record { items = [] };
    vlans = None;
  };
  sockets = [];
}

-- the host that a `host` line makes
abbrev pub host_of_words : List Text → Host
host_of_words words = host_described (word 1 words) (address_in (word 2 words)) (word 3 words) (options_asked (uses_in
    (option_words words)))

-- the host with this group appended to its groups
abbrev pub with_group : List ℕ → Host → Host
with_group group host = record host { config = record host.config { groups = record { items = host.config.groups.items ++ group ∷ [] } } }

-- the host with this VLAN appended to its list of VLANs; the first VLAN of a host begins the list
abbrev pub with_vlan : ℕ → Host → Host
with_vlan vlan host =
    record host { config = record host.config { vlans = Some (record { items = vlans_of host.config.vlans ++ vlan ∷ [] }) } }

-- the host with this socket appended to its sockets
abbrev pub with_socket : SocketKind → Host → Host
with_socket kind host = record host { sockets = host.sockets ++ kind ∷ [] }

-- the host with this item appended to its groups, VLANs or sockets
abbrev pub with_item : Item → Host → Host
with_item (items.Group group) = with_group group
with_item (items.Vlan vlan) = with_vlan vlan
with_item (items.Socket kind) = with_socket kind

-- the list with a change of the first host that passes the test
abbrev pub changed_first : (Host → Bool) → (Host → Host) → List Host → List Host
changed_first test change [] = []
changed_first test change (host ∷ hosts) = if test host then change host ∷ hosts else host ∷ changed_first test change hosts

-- the lines read so far, with these hosts
abbrev pub with_hosts : List Host → SoFar → SoFar
with_hosts hosts before = record before { hosts = hosts }

-- the lines read so far, with a change of the first host of this name
abbrev pub changing : Text → (Host → Host) → SoFar → SoFar
changing name change before = with_hosts (changed_first (has_name name) change before.hosts) before

-- the lines read so far, with one more command
abbrev pub with_command : Said → SoFar → SoFar
with_command said before = record before { commands = before.commands ++ said ∷ [] }

-- the event of a call of this kind with these words, at a host, during which these ticks are played
abbrev pub said_in_call : CallKind → (words : List Text) (host : ℕ) (ticks : List Tick) → Said
said_in_call call.Send words host ticks = Sends host (frame_in (word 2 words)) ticks
said_in_call call.Recv words host ticks = Receives host (number_read (word 2 words)) ticks
said_in_call call.Interrupt words host ticks = Interrupts host ticks
said_in_call call.Reset words host ticks = Resets host ticks
said_in_call call.Join words host ticks = Joins host (address_in (word 2 words)) ticks
said_in_call call.Leave words host ticks = Leaves host (address_in (word 2 words)) ticks

-- The words of a call of this kind have the forms for their places, and spell the call `one`.
pub record IsAsked (kind : CallKind) (words : List Text) (one : Call) : Type 0 where
  pub form : CanAsk kind words
  pub said : (host : ℕ) (ticks : List Tick) → said_of_call one host ticks ≡ said_in_call kind words host ticks

-- the number of the first host of this name, or 0 if there is no such host
abbrev pub number_of : Text → List Host → ℕ
number_of name hosts = unwrap_or (host_place name hosts) 0

-- the hosts, commands and traces after a valid line of this kind with these words
abbrev pub after_line : LineKind → SoFar → List Text → SoFar
after_line line.Host before words = with_hosts (before.hosts ++ host_of_words words ∷ []) before
after_line (line.Item one) before words = changing (word 1 words) (with_item (item_in one (word 2 words))) before
after_line (line.Call one) before words =
    with_command
    (said_in_call one (call_words words) (number_of (word 1 (call_words words)) before.hosts)
    (ticks_in before.hosts (tick_words words)))
    before
after_line line.Tick before words = with_command (Ticks (unwrap_or (tick_named before.hosts (word 1 words)) tick.Go)) before
after_line line.Feed before words =
    let fed = with_command (Feeds (number_of (word 1 words) before.hosts) (length before.traces)) before in
    record fed { traces = before.traces ++ word 2 words ∷ [] }
after_line line.Auto before words = with_command (Draws (number_read (word 1 words)) (number_read (word 2 words))) before
after_line line.Drain before words = with_command (Drains (number_of (word 1 words) before.hosts)) before
