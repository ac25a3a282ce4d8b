-- `HasPlayed` and `StopsWithin` for events and drains, for lists of items with events, and for commands.
use Rattle.std.proofs.Common.{◌≡◌, ◌<◌, ◌≤◌, ◌-◌, ◌++◌, ◌∷◌, [], false, zero, suc, ℕ, List, length, map, refl, sym, ap, subst, ◌∙◌, arith}
use Rattle.std.proofs.Common.{append_assoc, append-nil, drop, length-append, length-drop, take}
use Rattle.std.proofs.lemmas.Grind.{flat_map-append}
use Rattle.std.specs.List.{flat_map}
use Rattle.rand_pcg.specs.Lcg.{Lcg}
use Rattle.rand_pcg.specs.Pcg.{pcg32}
use Rattle.std.proofs.Common.{Option, None, Some, option_map, slice_get}
use Rattle.std.proofs.lemmas.List.{length-map, map-append, take-append-drop}
use Rattle.std.proofs.lemmas.Option.{slice_get-map, slice_get_past}
use Rattle.std.specs.Prelude.{unwrap_or}
use Rattle.pcap_trace.specs.declared.trace.Trace.{Trace}
use Rattle.scenario.specs.declared.command.Command.{Command}
use Rattle.scenario.specs.declared.command.Command.TheVariants as command
use Rattle.scenario_bench.specs.EventLists.{all_events, events_after_send, events_of, fed, pieces_for, words_from}
use Rattle.network_plan.specs.declared.event.Event.{Event}
use Rattle.network_plan.specs.declared.event.Event.TheVariants as event
use Rattle.network_plan.specs.declared.reply.Reply.{Reply}
use Rattle.stations.specs.Stations.{world_at}
use Rattle.wire.specs.DrainedNetworks.{NetworkDrains}
use Rattle.wire.specs.Runs.{RunTold}
use Rattle.run_record.specs.Recording.{AreInOrder, RecordsReplies}
use Rattle.scenario.specs.SoFar.{Drains, Host, Said, Sends, command_of_event, said_of}
use Rattle.run_record.specs.Acts.{Act, Drained, ran}
use Rattle.scenario_bench.specs.PlayedActs.{act_of}
use Rattle.run_record.specs.DrainedView.{drained_frame}
use Rattle.run_record.specs.declared.drained.DrainedFrame.{DrainedFrame}
use Rattle.scenario_bench.specs.PlayedEvents.{HasPlayed, HasPlayedFront, StopsWithin, trace_frames}
use Rattle.run_record.specs.Tallies.{AreNoted}
use Rattle.scenario_bench.specs.declared.bench_error.BenchError.{BenchError}
use Rattle.scenario_bench.specs.declared.bench_error.BenchError.TheVariants as errors
use Rattle.scenario_bench.specs.declared.play.Play.{Play}
use Rattle.run_record.specs.declared.run_log.Refusals.{Refusals}
use Rattle.scenario_bench.proofs.JoinedActs.{acts-ran, leads-drained, leads-join, leads-none, leads-ran}
use Rattle.run_record.proofs.NotedDrains.{noted_moves}
use Rattle.scenario_bench.proofs.ResetsInOrder.{in_order}
use Rattle.run_record.specs.RecordingLaws.{notes_join, noted_none}

pub played_none : (a : Play) → HasPlayed [] a a
played_none a = record {
  acts = [];
  are = refl;
  leads = leads-none a.lan;
  noted = noted_none a.record;
}

pub played_join : (said later : List Said) (a b c : Play) → HasPlayed said a b → HasPlayed later b c → HasPlayed (said ++ later) a c
played_join said later a b c one two = record {
  acts = one.acts ++ two.acts;
  are = map-append act_of one.acts two.acts ∙ ap (λ (l : List Said). l ++ map act_of two.acts) one.are
      ∙ ap (λ (l : List Said). said ++ l) two.are;
  leads = leads-join a.lan b.lan c.lan one.acts two.acts one.leads two.leads;
  noted = notes_join one.acts two.acts a.record b.record c.record one.noted two.noted;
}

-- The line number in the record changes

abbrev pub lined : Play → (line : ℕ) → Play
lined a line = record a { «record» = record a.record { line = line } }

noted-lined : (acts : List Act) (line : ℕ) (a b : Play) → AreNoted acts (lined a line).record b.record → AreNoted acts a.record b.record
noted-lined acts line a b noted = record {
  number = noted.number;
  hosts = noted.hosts;
  returned = noted.returned;
  puts = noted.puts;
  logged = record { entries = noted.logged.entries; are = noted.logged.are; log = noted.logged.log };
}

pub played_lined : (said : List Said) (line : ℕ) (a b : Play) → HasPlayed said (lined a line) b → HasPlayed said a b
played_lined said line a b has = record {
  acts = has.acts;
  are = has.are;
  leads = has.leads;
  noted = noted-lined has.acts line a b has.noted;
}

-- The numbers of refused calls without those of `auto` commands change.
pub played_counted : (said : List Said) (asked : Refusals) (a b : Play) → HasPlayed said a b → HasPlayed said a (record b { asked = asked })
played_counted said asked a b has = record { acts = has.acts; are = has.are; leads = has.leads; noted = has.noted }

pub stops_lined : (said : List Said) (line : ℕ) (a b : Play) (error : BenchError) → StopsWithin said (lined a line) b error
    → StopsWithin said a b error
stops_lined said line a b (errors.Plan error) stops = absurd stops
stops_lined said line a b (errors.Run stopped) (front, number) = (
  record {
    first = front.first;
    left = front.left;
    parts = front.parts;
    some = front.some;
    played = played_lined front.first line a b front.played;
  },
  number,
)
stops_lined said line a b errors.Memory stops = stops
stops_lined said line a b (errors.Write error) stops = absurd stops

pub played : (events : List Event) (a b : Play) → RunTold RecordsReplies events a.lan b.lan a.record b.record → b.record.failed ≡ false
    → HasPlayed (map command_of_event events) a b
played events a b told sound =
    let first = told.runs in
    record {
      acts = ran events first.replies;
      are = acts-ran a.lan events first.replies b.lan first.states;
      leads = leads-ran a.lan events told.replies b.lan first;
      noted =
          let order = subst (AreInOrder events) (sym first.appended) (in_order a.lan events first.replies b.lan first.states) in
          subst (λ (rs : List Reply). AreNoted (ran events rs) a.record b.record) first.appended (told.told.recorded sound order).noted;
    }

pub drained : (host steps : ℕ) (before frames slice : List DrainedFrame) (a b : Play)
    → NetworkDrains a.lan host steps (map drained_frame before) (map drained_frame frames) b.lan → before ≡ [] → slice ≡ frames
    → AreNoted (Drained host 0 (map drained_frame slice) ∷ []) a.record b.record → HasPlayed (Drains host ∷ []) a b
drained host steps before frames slice a b drains none same noted =
    let buffered = length (world_at a.lan.stations host).adapter.receiver.buffer in
    let given = map drained_frame frames in
    record {
      acts = Drained host buffered given ∷ [];
      are = refl;
      leads = leads-drained a.lan host steps given b.lan
          (subst (λ (ds : List DrainedFrame). NetworkDrains a.lan host steps (map drained_frame ds) given b.lan) none drains);
      noted = noted_moves host buffered given a.record b.record
          (subst (λ (ds : List DrainedFrame). AreNoted (Drained host 0 (map drained_frame ds) ∷ []) a.record b.record) same noted);
    }

-- Memory was refused

pub front_played : (events : List Event) (done : ℕ) (a b : Play) → done < length events
    → RunTold RecordsReplies (take done events) a.lan b.lan a.record b.record → b.record.failed ≡ false
    → HasPlayedFront (map command_of_event events) a b
front_played events done a b left told sound = record {
  first = map command_of_event (take done events);
  left = map command_of_event (drop done events);
  parts = ap (map command_of_event) (sym (take-append-drop done events))
      ∙ map-append command_of_event (take done events) (drop done events);
  some = omega (arith, left, length-map (drop done events) command_of_event, length-drop done events);
  played = played (take done events) a b told sound;
}

pub stops_behind : (all before said later : List Said) (a b c : Play) (error : BenchError) → all ≡ before ++ (said ++ later)
    → HasPlayed before a b → StopsWithin said b c error → StopsWithin all a c error
stops_behind all before said later a b c (errors.Plan error) is has stops = absurd stops
stops_behind all before said later a b c (errors.Run stopped) is has (front, number) = (
  record {
    first = before ++ front.first;
    left = front.left ++ later;
    parts = is ∙ ap (λ (s : List Said). before ++ (s ++ later)) front.parts
        ∙ ap (λ (s : List Said). before ++ s) (append_assoc front.first front.left later)
        ∙ sym (append_assoc before front.first (front.left ++ later));
    some = omega (arith, front.some, length-append front.left later);
    played = played_join before front.first a b c has front.played;
  },
  number,
)
stops_behind all before said later a b c errors.Memory is has stops = stops
stops_behind all before said later a b c (errors.Write error) is has stops = absurd stops

-- Lists of items whose events are played in order

-- The invariant of a loop over items: the events of the items before `rest` were played.
pub record HasFed (X : Type 0) (events : X → List Said) (all rest : List X) (a b : Play) : Type 0 where
  pub done : List X
  pub parts : all ≡ done ++ rest
  pub played : HasPlayed (flat_map events done) a b

pub none_fed : (X : Type 0) (events : X → List Said) (all : List X) (a : Play) → HasFed X events all all a a
none_fed X events all a = record { done = []; parts = refl; played = played_none a }

pub one_fed : (X : Type 0) (events : X → List Said) (all rest later : List X) (one : X) (said : List Said) (a b c : Play)
    → HasFed X events all rest a b → rest ≡ one ∷ later → said ≡ events one → HasPlayed said b c → HasFed X events all later a c
one_fed X events all rest later one said a b c has is said_is played = record {
  done = has.done ++ one ∷ [];
  parts = has.parts ∙ ap (λ (r : List X). has.done ++ r) is ∙ sym (append_assoc has.done (one ∷ []) later);
  played = subst (λ (s : List Said). HasPlayed s a c)
      (ap (λ (s : List Said). flat_map events has.done ++ s) (said_is ∙ sym (append-nil (events one)))
      ∙ sym (flat_map-append events has.done (one ∷ [])))
      (played_join (flat_map events has.done) said a b c has.played played);
}

pub all_fed : (X : Type 0) (events : X → List Said) (all rest : List X) (a b : Play) → HasFed X events all rest a b → rest ≡ []
    → HasPlayed (flat_map events all) a b
all_fed X events all rest a b has is =
    subst (λ (xs : List X). HasPlayed (flat_map events xs) a b)
    (sym (has.parts ∙ ap (λ (r : List X). has.done ++ r) is ∙ append-nil has.done)) has.played

pub fed_stops : (X : Type 0) (events : X → List Said) (all rest later : List X) (one : X) (a b c : Play) (error : BenchError)
    → HasFed X events all rest a b → rest ≡ one ∷ later → StopsWithin (events one) b c error → StopsWithin (flat_map events all) a c error
fed_stops X events all rest later one a b c error has is stops =
    stops_behind (flat_map events all) (flat_map events has.done) (events one) (flat_map events later) a b c error
    (ap (flat_map events) (has.parts ∙ ap (λ (r : List X). has.done ++ r) is) ∙ flat_map-append events has.done (one ∷ later))
    has.played stops

-- The invariant of the loop that draws words: `left` words remain, and the events of the other words were played.
pub record HasDrawn (event : ℕ → Said) (words : List ℕ) (left : ℕ) (generator : Lcg) (a b : Play) : Type 0 where
  pub done : List ℕ
  pub parts : words ≡ done ++ words_from left generator
  pub played : HasPlayed (map event done) a b

pub none_drawn : (event : ℕ → Said) (words : List ℕ) (left : ℕ) (generator : Lcg) (a : Play) → words ≡ words_from left generator
    → HasDrawn event words left generator a a
none_drawn event words left generator a is = record { done = []; parts = is; played = played_none a }

next-word : (left : ℕ) (generator : Lcg) → 0 < left
    → words_from left generator ≡ (pcg32 generator).0 ∷ words_from (left - 1) (pcg32 generator).1
next-word zero generator some = absurd (omega (arith, some))
next-word (suc left) generator some =
    let same : left ≡ suc left - 1 = omega arith in
    ap (λ (n : ℕ). (pcg32 generator).0 ∷ words_from n (pcg32 generator).1) same

next-parts : (words done : List ℕ) (left word : ℕ) (generator later : Lcg) → words ≡ done ++ words_from left generator → 0 < left
    → (word, later) ≡ pcg32 generator → words ≡ done ++ word ∷ words_from (left - 1) later
next-parts words done left word generator later parts some is =
    parts ∙ ap (λ (ws : List ℕ). done ++ ws) (next-word left generator some
    ∙ sym (ap (λ (p : ℕ × Lcg). p.0 ∷ words_from (left - 1) p.1) is))

pub one_drawn : (event : ℕ → Said) (words : List ℕ) (left word : ℕ) (generator later : Lcg) (said : Said) (a b c : Play)
    → HasDrawn event words left generator a b → 0 < left → (word, later) ≡ pcg32 generator → said ≡ event word
    → HasPlayed (said ∷ []) b c → HasDrawn event words (left - 1) later a c
one_drawn event words left word generator later said a b c has some is said_is played = record {
  done = has.done ++ word ∷ [];
  parts = next-parts words has.done left word generator later has.parts some is
      ∙ sym (append_assoc has.done (word ∷ []) (words_from (left - 1) later));
  played = subst (λ (s : List Said). HasPlayed s a c)
      (ap (λ (s : Said). map event has.done ++ s ∷ []) said_is ∙ sym (map-append event has.done (word ∷ [])))
      (played_join (map event has.done) (said ∷ []) a b c has.played played);
}

pub all_drawn : (event : ℕ → Said) (words : List ℕ) (left : ℕ) (generator : Lcg) (a b : Play) → HasDrawn event words left generator a b
    → left ≡ 0 → HasPlayed (map event words) a b
all_drawn event words left generator a b has none =
    subst (λ (ws : List ℕ). HasPlayed (map event ws) a b)
    (sym (has.parts ∙ ap (λ (n : ℕ). has.done ++ words_from n generator) none ∙ append-nil has.done)) has.played

pub draw_stops : (event : ℕ → Said) (words : List ℕ) (left word : ℕ) (generator later : Lcg) (said : Said) (a b c : Play)
    (error : BenchError) → HasDrawn event words left generator a b → 0 < left → (word, later) ≡ pcg32 generator → said ≡ event word
    → StopsWithin (said ∷ []) b c error → StopsWithin (map event words) a c error
draw_stops event words left word generator later said a b c error has some is said_is stops =
    stops_behind (map event words) (map event has.done) (said ∷ []) (map event (words_from (left - 1) later)) a b c error
    (ap (map event) (next-parts words has.done left word generator later has.parts some is)
    ∙ map-append event has.done (word ∷ words_from (left - 1) later)
    ∙ ap (λ (s : Said). map event has.done ++ s ∷ map event (words_from (left - 1) later)) (sym said_is)) has.played stops

pub sent : (hosts : List Host) (sender : ℕ) (frame : List ℕ) (events : List Event) (a b c : Play)
    → HasPlayed (Sends sender frame [] ∷ []) a b
    → map command_of_event events ≡ events_after_send hosts sender (pieces_for (length frame)) → HasPlayed (map command_of_event events) b c
    → HasPlayed (fed hosts sender frame) a c
sent hosts sender frame events a b c first follows second =
    subst (λ (said : List Said). HasPlayed said a c) (ap (λ (s : List Said). Sends sender frame [] ∷ s) follows)
    (played_join (Sends sender frame [] ∷ []) (map command_of_event events) a b c first second)

pub send_stops : (hosts : List Host) (sender : ℕ) (frame : List ℕ) (a b : Play) (error : BenchError)
    → StopsWithin (Sends sender frame [] ∷ []) a b error → StopsWithin (fed hosts sender frame) a b error
send_stops hosts sender frame a b error stops =
    stops_behind (fed hosts sender frame) [] (Sends sender frame [] ∷ [])
    (events_after_send hosts sender (pieces_for (length frame))) a a b error
    refl (played_none a) stops

pub behind_stops : (hosts : List Host) (sender : ℕ) (frame : List ℕ) (events : List Event) (a b c : Play) (error : BenchError)
    → HasPlayed (Sends sender frame [] ∷ []) a b → map command_of_event events ≡ events_after_send hosts sender (pieces_for (length frame))
    → StopsWithin (map command_of_event events) b c error
    → StopsWithin (fed hosts sender frame) a c error
behind_stops hosts sender frame events a b c error first follows stops =
    stops_behind (fed hosts sender frame) (Sends sender frame [] ∷ []) (map command_of_event events) [] a b c error
    (ap (λ (s : List Said). Sends sender frame [] ∷ s) (sym follows ∙ sym (append-nil (map command_of_event events)))) first stops

-- Commands

fed-frames : (hosts : List Host) (sender : ℕ) (traces : List Trace) (place : ℕ) (found : Option Trace) → slice_get traces place ≡ found
    → unwrap_or (slice_get (map trace_frames traces) place) [] ≡ unwrap_or (option_map trace_frames found) []
fed-frames hosts sender traces place found is =
    ap (λ (o : Option (List (List ℕ))). unwrap_or o []) (slice_get-map trace_frames traces place ∙ ap (option_map trace_frames) is)

pub of_same : (Holds : List Said → Type 0) (hosts : List Host) (traces : List (List (List ℕ))) (one other : Command) → one ≡ other
    → Holds (events_of hosts traces (said_of other)) → Holds (events_of hosts traces (said_of one))
of_same Holds hosts traces one other is holds =
    subst Holds (sym (ap (λ (c : Command). events_of hosts traces (said_of c)) is)) holds

as-event : (hosts : List Host) (traces : List (List (List ℕ))) (one : Event)
    → command_of_event one ∷ [] ≡ events_of hosts traces (command_of_event one)
as-event hosts traces (event.Send host frame ticks) = refl
as-event hosts traces (event.Recv host socket ticks) = refl
as-event hosts traces (event.Interrupt host ticks) = refl
as-event hosts traces (event.Reset host ticks) = refl
as-event hosts traces (event.Join host group ticks) = refl
as-event hosts traces (event.Leave host group ticks) = refl
as-event hosts traces (event.Tick tick) = refl

pub of_event : (Holds : List Said → Type 0) (hosts : List Host) (traces : List (List (List ℕ))) (one : Command) (event : Event)
    → command_of_event event ≡ said_of one → Holds (command_of_event event ∷ []) → Holds (events_of hosts traces (said_of one))
of_event Holds hosts traces one event is holds = subst Holds (as-event hosts traces event ∙ ap (events_of hosts traces) is) holds

pub of_no_feed : (hosts : List Host) (traces : List Trace) (one : Command) (host place : ℕ) (a : Play)
    → one ≡ command.Feed host place → length traces ≤ place
    → HasPlayed (events_of hosts (map trace_frames traces) (said_of one)) a a
of_no_feed hosts traces one host place a is past =
    subst (λ (s : List Said). HasPlayed s a a)
    (sym (ap (λ (c : Command). events_of hosts (map trace_frames traces) (said_of c)) is
    ∙ ap (flat_map (fed hosts host)) (fed-frames hosts host traces place None (slice_get_past traces place past)))) (played_none a)

pub of_feed : (Holds : List Said → Type 0) (hosts : List Host) (traces : List Trace) (one : Command) (host place : ℕ) (trace : Trace)
    → one ≡ command.Feed host place → slice_get traces place ≡ Some trace → Holds (flat_map (fed hosts host) trace.frames)
    → Holds (events_of hosts (map trace_frames traces) (said_of one))
of_feed Holds hosts traces one host place trace is found holds =
    subst Holds (sym (ap (λ (c : Command). events_of hosts (map trace_frames traces) (said_of c)) is
    ∙ ap (flat_map (fed hosts host)) (fed-frames hosts host traces place (Some trace) found))) holds

-- Several commands

pub one_ran : (hosts : List Host) (traces : List (List (List ℕ))) (commands rest later : List Command) (one : Command) (a b c : Play)
    → HasFed Said (events_of hosts traces) (map said_of commands) (map said_of rest) a b → rest ≡ one ∷ later
    → HasPlayed (events_of hosts traces (said_of one)) b c
    → HasFed Said (events_of hosts traces) (map said_of commands) (map said_of later) a c
one_ran hosts traces commands rest later one a b c has is played =
    one_fed Said (events_of hosts traces) (map said_of commands) (map said_of rest) (map said_of later) (said_of one)
    (events_of hosts traces (said_of one)) a b c has (ap (map said_of) is) refl played

pub all_ran : (hosts : List Host) (traces : List (List (List ℕ))) (commands rest : List Command) (a b : Play)
    → HasFed Said (events_of hosts traces) (map said_of commands) (map said_of rest) a b → rest ≡ []
    → HasPlayed (all_events hosts traces (map said_of commands)) a b
all_ran hosts traces commands rest a b has is =
    all_fed Said (events_of hosts traces) (map said_of commands) (map said_of rest) a b has (ap (map said_of) is)

pub command_stops : (hosts : List Host) (traces : List (List (List ℕ))) (commands rest later : List Command) (one : Command) (a b c : Play)
    (error : BenchError) → HasFed Said (events_of hosts traces) (map said_of commands) (map said_of rest) a b → rest ≡ one ∷ later
    → StopsWithin (events_of hosts traces (said_of one)) b c error → StopsWithin (all_events hosts traces (map said_of commands)) a c error
command_stops hosts traces commands rest later one a b c error has is stops =
    fed_stops Said (events_of hosts traces) (map said_of commands) (map said_of rest) (map said_of later) (said_of one) a b c error has
    (ap (map said_of) is) stops
