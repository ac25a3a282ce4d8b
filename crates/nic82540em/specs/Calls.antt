-- What the calls of C do with the adapter of a handle: numbers represent kinds, outcomes and fates (our choice).
use Rattle.std.specs.Prelude.{◌≡◌, ◌≢◌, ◌↔◌, ◌+◌, ◌++◌, ◌∷◌, [], ◌==◌, ◌||◌, ◌^◌, ℕ, Bool, false, true, IsTrue, List, Option, Some, None}
use Rattle.std.specs.Prelude.{◌&&◌, if◌then◌else◌, is_some, length, nat_le, nat_lt, not, replicate, slice_get}
use Rattle.rand_core.specs.Pcg32Seed.{pcg32_seed}
use Rattle.rand_pcg.specs.Pcg.{pcg32_of_seed}
use Rattle.adapter.specs.State.{AdapterState}
use Rattle.adapter.specs.model_types.outcome.Outcome.{Outcome}
use Rattle.adapter.specs.model_types.step.StepKind.{StepKind}
use Rattle.adapter.specs.model_types.step.StepKind.TheVariants.{EepromTick, PhyTick, RxData, RxDone, TxPut, TxTake}
use Rattle.access_names.specs.Names.{target_text}
use Rattle.access_names.specs.Targets.{memory_target_in}
use Rattle.access_names.specs.declared.target.Target.{Target}
use Rattle.access_names.specs.declared.target.Target.TheVariants as targets
use Rattle.adapter.specs.bus_types.event.Access.{Access}
use Rattle.eeprom.specs.Image.{image_with}
use Rattle.mdic_phy.specs.declared.phy.Link.{Link}
use Rattle.rx_engine.specs.declared.arrival.Fate.{Fate}
use Rattle.nic82540em.specs.Copies.{CopiesFront}
use Rattle.nic82540em.specs.Numbers.{fate_number, is_receive_share, kind_with, link_with, outcome_number, refused}
use Rattle.nic82540em.specs.Events.{HearsBetween, no_events, without_first}
use Rattle.nic82540em.specs.Schedules.{AfterMeeting, after_choice, number_chosen}
use Rattle.nic82540em.specs.declared.events.KeptEvent.{KeptEvent}
use Rattle.nic82540em.specs.declared.numbers.AdapterOptions.{AdapterOptions}
use Rattle.nic82540em.specs.declared.watched.WatchedAdapter.{WatchedAdapter}
use Rattle.played_adapter.specs.AccessTargets.{before_of, target_of}
use Rattle.played_adapter.specs.FirstAdapters.{first_adapter}
use Rattle.played_adapter.specs.Order.{Tells}
use Rattle.played_adapter.specs.Playing as player
use Rattle.played_adapter.specs.Playing.{Arrives, Steps, new_player}
use Rattle.played_adapter.specs.Requests.{PacedAfter, ServesChoice, ServesSettle}
use Rattle.played_adapter.specs.Told.{Told}
use Rattle.played_adapter.specs.declared.player.PlayedAdapter.{PlayedAdapter}
use Rattle.step_schedules.specs.declared.deviation.Before.TheVariants.{Read, Write}

-- Something happens to the adapter, and its events hear what is told about it. The schedule doesn't change.
abbrev pub HeardByEvents : (PlayedAdapter → PlayedAdapter → List Told → Type 0) → WatchedAdapter → WatchedAdapter → Type 0
HeardByEvents Happens a b = Tells HearsBetween a.events b.events (Happens a.player b.player) × (b.agenda ≡ a.agenda)

-- `Changes` relates the adapter before and after. The events and the schedule don't change.
abbrev pub Silently : (PlayedAdapter → PlayedAdapter → Type 0) → WatchedAdapter → WatchedAdapter → Type 0
Silently Changes a b = Changes a.player b.player × (b.events ≡ a.events) × (b.agenda ≡ a.agenda)

-- Something happens. If `paced` is true, cycles are then played until one does nothing, up to the maximum of `pace`.
abbrev pub PacedOr : (paced : Bool) → (PlayedAdapter → PlayedAdapter → List Told → Type 0) → PlayedAdapter → PlayedAdapter → List Told
    → Type 0
PacedOr true Happens a b told = PacedAfter (Happens a) b told
PacedOr false Happens a b told = Happens a b told

-- If `paced` is true, cycles are played until one does nothing, up to the maximum of `pace`. Otherwise nothing happens.
abbrev pub Follows : (paced : Bool) → PlayedAdapter → PlayedAdapter → List Told → Type 0
Follows true a b told = player.Paced a b told
Follows false a b told = (b ≡ a) × (told ≡ [])

-- An access or an arrival is made, or refused. Cycles follow if the access or arrival is made and the maximum of `pace` isn't 0.
abbrev pub PacedIf : (made : Bool) → (PlayedAdapter → PlayedAdapter → List Told → Type 0) → PlayedAdapter → PlayedAdapter → List Told
    → Type 0
PacedIf made Happens a b told = PacedOr (made && nat_lt 0 a.pace) Happens a b told

-- The steps before an access are played, the access happens, and cycles follow, as `PacedIf` defines.
abbrev pub AccessedMet : Access → WatchedAdapter → WatchedAdapter → Type 0
AccessedMet access a b = HeardByEvents (PacedIf true (player.Accessed access)) a b

-- If memory contains the bytes, the steps before an access are played, the bytes are loaded, and cycles follow, as `PacedIf` defines.
abbrev pub LoadsMet : (address : ℕ) → (old new : List ℕ) → (answer : Bool) → WatchedAdapter → WatchedAdapter → Type 0
LoadsMet address old new answer a b = HeardByEvents (PacedIf answer (player.AnswersLoad address old new answer)) a b

-- If memory contains the places, the steps before an access are played, the bytes are stored, and cycles follow, as `PacedIf` defines.
abbrev pub StoresMet : (address : ℕ) → (bytes : List ℕ) → (answer : Bool) → WatchedAdapter → WatchedAdapter → Type 0
StoresMet address bytes answer a b = HeardByEvents (PacedIf answer (player.AnswersStore address bytes answer)) a b

-- the target of an access of memory at this address
abbrev pub target_at : (address : ℕ) → WatchedAdapter → Target
target_at address a = memory_target_in a.player.machine.world.adapter address

-- The schedule, if there is one, meets an access. Then the access is made, as `AccessedMet` defines.
abbrev pub AccessAnswered : Access → WatchedAdapter → WatchedAdapter → Type 0
AccessAnswered access a b =
    AfterMeeting true (before_of access) (target_of access a.player.machine.world.adapter) (AccessedMet access) a b

-- If memory contains the bytes, the schedule, if there is one, meets their load. Then the load is made or refused, as `LoadsMet` defines.
abbrev pub LoadAnswered : (address : ℕ) → (old new : List ℕ) → (answer : Bool) → WatchedAdapter → WatchedAdapter → Type 0
LoadAnswered address old new answer a b =
    AfterMeeting (player.has_bytes a.player address (length old)) Read (target_at address a) (LoadsMet address old new answer) a b

-- If memory contains the places, the schedule, if there is one, meets the store. Then the store is made or refused, as `StoresMet` defines.
abbrev pub StoreAnswered : (address : ℕ) → (bytes : List ℕ) → (answer : Bool) → WatchedAdapter → WatchedAdapter → Type 0
StoreAnswered address bytes answer a b =
    AfterMeeting (player.has_bytes a.player address (length bytes)) Write (target_at address a) (StoresMet address bytes answer) a b

-- No schedule is played, no cycle follows an access, and events are off.
abbrev pub IsPlain : WatchedAdapter → Type 0
IsPlain a = (a.agenda ≡ None) × (a.player.pace ≡ 0) × (a.events.on ≡ false)

-- All offered frames arrive, and then cycles are played until one does nothing, up to their maximum number. `moved` of their steps do
-- something.
abbrev pub SettlesOffered : (moved : ℕ) → WatchedAdapter → WatchedAdapter → Type 0
SettlesOffered moved a b = HeardByEvents (ServesSettle moved) a b

-- The oldest frame is taken off the wire, if there is a frame and it fits. The answer is the frame's length, or 0 if there is no frame.
abbrev pub TakingAnswered : (old new : List ℕ) → (answer : ℕ) → WatchedAdapter → WatchedAdapter → Type 0
TakingAnswered old new answer a b = Silently (player.AnswersTaking old new answer) a b

-- the words of the EEPROM: the image of the options if they have one, or else an image with their address
abbrev pub image_of : AdapterOptions → List ℕ
image_of options = if options.has_image then options.image else image_with options.address

-- a new adapter with the EEPROM of the options and this link; PBA was written with the options' kilobytes, and MPC has the options' count
abbrev pub adapter_with_options : AdapterOptions → Link → AdapterState
adapter_with_options options link = first_adapter (image_of options) link options.receive_kilobytes options.missed

-- a new adapter with this link, with memory of zeros at some address
abbrev pub IsMadeOf : AdapterOptions → Link → PlayedAdapter → Type 0
IsMadeOf options link a = a ≡ new_player (replicate options.memory 0) (adapter_with_options options link) a.address

-- a new adapter with this link, whose events are off, and which plays no schedule
abbrev pub IsMade : AdapterOptions → Link → WatchedAdapter → Type 0
IsMade options link a = IsMadeOf options link a.player × (a.events ≡ no_events) × (a.agenda ≡ None)

-- The options are in range, and the adapter is new.
pub record IsNew (options : AdapterOptions) (a : WatchedAdapter) : Type 0 where
  -- the setting of the link
  pub link : Link
  -- the number in the options stands for this setting
  pub link_is : link_with options.link ≡ Some link
  -- PBA.RXA may have the value of the options
  pub share : is_receive_share options.receive_kilobytes ≡ true
  -- the adapter is new
  pub new : IsMade options link a

-- A step of this kind is played, and this number stands for its outcome.
pub record StepAnswered (kind : StepKind) (number : ℕ) (a b : WatchedAdapter) : Type 0 where
  -- the outcome of the step
  pub outcome : Outcome (Unit {0})
  -- the number of this outcome
  pub number_is : number ≡ outcome_number outcome
  -- the step is played
  pub plays : HeardByEvents (Steps kind outcome) a b

-- A step of this kind is played, and the number of its outcome is the answer. If there is no kind, nothing happens, and the answer is
-- `refused`.
abbrev pub AnswersKind : Option StepKind → (answer : ℕ) → WatchedAdapter → WatchedAdapter → Type 0
AnswersKind (Some kind) answer a b = StepAnswered kind answer a b
AnswersKind None answer a b = (answer ≡ refused) × (b ≡ a)

-- As `AnswersKind`, for the kind with this number.
abbrev pub AnswersStep : (number answer : ℕ) → WatchedAdapter → WatchedAdapter → Type 0
AnswersStep number answer a b = AnswersKind (kind_with number) answer a b

-- A frame is delivered, and this number stands for its fate.
pub record AnswersArrival (frame : List ℕ) (answer : ℕ) (a b : WatchedAdapter) : Type 0 where
  -- the fate of the frame
  pub fate : Fate
  -- the number of this fate
  pub number_is : answer ≡ fate_number fate
  -- the frame arrives, and cycles follow, as `PacedIf` defines
  pub arrives : HeardByEvents (PacedIf true (Arrives frame fate)) a b

-- A step of this kind is added to the list of scheduled steps, if there is a kind and the list has room. The answer is whether it was
-- added.
abbrev pub SchedulesKind : (access : ℕ) → Option StepKind → (answer : Bool) → PlayedAdapter → PlayedAdapter → Type 0
SchedulesKind access (Some kind) answer a b = player.AnswersSchedule access kind answer a b
SchedulesKind access None answer a b = (answer ≡ false) × (b ≡ a)

-- As `SchedulesKind`, for the kind with this number. No event is kept.
abbrev pub ScheduleAnswered : (access number : ℕ) → (answer : Bool) → WatchedAdapter → WatchedAdapter → Type 0
ScheduleAnswered access number answer a b = Silently (SchedulesKind access (kind_with number) answer) a b

-- the greatest number that the maximum of steps drawn before an access, or of cycles after it, can be set to
abbrev pub most_drawn : ℕ
most_drawn = 65535

-- If `count` is allowed, up to `count` steps are drawn before each later access, by a generator with this seed. While a schedule is played,
-- no steps are drawn.
pub record SetsInterleaving (plays : Bool) (count seed : ℕ) (answer : Bool) (a b : PlayedAdapter) : Type 0 where
  -- the answer is whether the maximum is allowed
  pub range : answer ≡ nat_le count most_drawn
  -- if the maximum is allowed, the generator has this seed, and the maximum is set, to 0 while a schedule is played
  pub taken : answer ≡ true → b ≡ record a { generator = pcg32_of_seed (pcg32_seed 16 seed); most_steps = if plays then 0 else count }
  -- if the maximum isn't allowed, nothing changes
  pub refused : answer ≡ false → b ≡ a

-- As `SetsInterleaving`. No event is kept.
abbrev pub AnswersInterleave : (count seed : ℕ) → (answer : Bool) → WatchedAdapter → WatchedAdapter → Type 0
AnswersInterleave count seed answer a b = Silently (SetsInterleaving (is_some a.agenda) count seed answer) a b

-- If `count` is allowed, up to `count` cycles are played after each later access and each later call of `arrive`.
pub record SetsPace (count : ℕ) (answer : Bool) (a b : PlayedAdapter) : Type 0 where
  -- the answer is whether the maximum is allowed
  pub range : answer ≡ nat_le count most_drawn
  -- if the maximum is allowed, it is set
  pub taken : answer ≡ true → b ≡ record a { pace = count }
  -- if the maximum isn't allowed, nothing changes
  pub refused : answer ≡ false → b ≡ a

-- As `SetsPace`. No event is kept.
abbrev pub AnswersPace : (count : ℕ) → (answer : Bool) → WatchedAdapter → WatchedAdapter → Type 0
AnswersPace count answer a b = Silently (SetsPace count answer) a b

-- A number below a limit is chosen. If steps are drawn before accesses, the generator draws the number. Otherwise the number is
-- `number_chosen` if `number_chosen` is below the limit, or else 0. If the limit is 0, the number is 0.
pub record Chooses (limit answer : ℕ) (a b : WatchedAdapter) : Type 0 where
  -- the number is chosen, and the events hear what is told about the choice
  pub chooses : Tells HearsBetween a.events b.events (ServesChoice limit (number_chosen a.agenda) answer a.player b.player)
  -- the schedule has met the request
  pub met : b.agenda ≡ after_choice a.agenda

-- A frame is offered. The answer is `false` if memory is refused, else `true`.
pub record AnswersOffer (frame : List ℕ) (answer : Bool) (a b : WatchedAdapter) : Type 0 where
  -- if memory isn't refused, the frame waits
  pub taken : answer ≡ true → b ≡ record a { player = record a.player { offered = a.player.offered ++ frame ∷ [] } }
  -- if memory is refused, nothing changes
  pub refused : answer ≡ false → b ≡ a

-- the adapter whose wire is full from now on if `full` is true, or else has room again until 64 frames wait
abbrev pub with_wire : (full : Bool) → WatchedAdapter → WatchedAdapter
with_wire full a = record a { player = record a.player { wire_free = not full } }

-- An adapter with its events and its schedule is a copy of another one.
abbrev pub IsWatchedCopy : WatchedAdapter → WatchedAdapter → Type 0
IsWatchedCopy a copy = player.IsCopy a.player copy.player × (copy.events ≡ a.events) × (copy.agenda ≡ a.agenda)

-- The oldest event, if one waits, is taken and stored at a place. `old` and `new` are the values at this place before and after. The answer
-- is whether an event waited.
pub record AnswersEvent (old new : KeptEvent) (answer : Bool) (a b : WatchedAdapter) : Type 0 where
  -- if an event waited, the place contains the oldest one, which no longer waits
  pub taken : answer ≡ true → (slice_get a.events.waiting.items 0 ≡ Some new) × (b ≡ record a { events = without_first a.events })
  -- if no event waited, nothing changes
  pub refused : answer ≡ false → (slice_get a.events.waiting.items 0 ≡ None) × (new ≡ old) × (b ≡ a)

-- the target of an access with this number, if there is one: 1 or 2 for the register at this offset, 3 or 4 for memory at this address
abbrev pub target_numbered : (before address : ℕ) → WatchedAdapter → Option Target
target_numbered before address a =
    if (before == 1) || (before == 2) then (if nat_lt address (2 ^ 32) then Some (targets.Register address) else None)
    else if (before == 3) || (before == 4) then Some (target_at address a)
    else None

-- The name of this target is copied to an area, as far as there is room. Without a target, the answer is 0, and the area doesn't change.
abbrev pub NameTold : Option Target → (old new : List ℕ) → (answer : ℕ) → Type 0
NameTold (Some target) old new answer = CopiesFront (target_text target) old new answer
NameTold None old new answer = (answer ≡ 0) × (new ≡ old)

-- the adapter that plays ticks before later accesses if `on` is true, and no ticks if `on` is false
abbrev pub with_ticks : Bool → WatchedAdapter → WatchedAdapter
with_ticks on a = record a { player = record a.player { ticks = on } }

-- the adapter with this number of accesses so far
abbrev pub with_accesses : ℕ → WatchedAdapter → WatchedAdapter
with_accesses accesses a = record a { player = record a.player { accesses = accesses } }

-- the adapter whose later events are kept if `on` is true; the events that wait don't change
abbrev pub with_events : Bool → WatchedAdapter → WatchedAdapter
with_events on a = record a { events = record a.events { on = on } }

-- Steps with something to do.

-- `works` is true if and only if a step of this kind has another outcome than `Nothing`, the outcome with number 0.
abbrev pub HasWork : StepKind → (works : Bool) → WatchedAdapter → Type 0
HasWork kind works a = (answer : ℕ) (b : WatchedAdapter) → StepAnswered kind answer a b → IsTrue works ↔ (answer ≢ 0)

-- the value of a bit of a mask if the bit is set, else 0
abbrev pub bit_if : Bool → (value : ℕ) → ℕ
bit_if is_set value = if is_set then value else 0

-- The answer is the value of a bit if a step of this kind has something to do, else 0.
pub record AnswersWork (kind : StepKind) (value : ℕ) (answer : ℕ) (a : WatchedAdapter) : Type 0 where
  -- whether a step of this kind has something to do
  pub works : Bool
  -- `HasWork` holds of `works` for this kind
  pub has_work : HasWork kind works a
  -- the answer is the value of the bit, or 0
  pub answer_is : answer ≡ bit_if works value

-- The bit of a mask with the number of a kind is set if and only if a step of this kind has something to do.
pub record TellsPossible (mask : ℕ) (a : WatchedAdapter) : Type 0 where
  -- whether a kind has something to do
  pub works : StepKind → Bool
  -- `HasWork` holds of `works` for each kind
  pub each : (kind : StepKind) → HasWork kind (works kind) a
  -- a bit for each kind, by its number
  pub mask_is : mask ≡ bit_if (works TxTake) 1 + bit_if (works TxPut) 2 + bit_if (works RxData) 4 + bit_if (works RxDone) 8
      + bit_if (works EepromTick) 16 + bit_if (works PhyTick) 32
