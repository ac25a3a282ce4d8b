-- The clauses of `bench`, by what was played and recorded.
use Rattle.std.proofs.Common.{◌≡◌, ◌<◌, ◌≤◌, ◌+◌, ◌++◌, ◌∷◌, ◌⊎◌, [], zero, suc, ℕ, Bool, List, Option, Some, None, length, map, replicate}
use Rattle.std.proofs.Common.{◌==◌, ◌&&◌, true, false, append_assoc, if◌then◌else◌, slice_get}
use Rattle.std.proofs.Common.{option_map, inl, inr, refl, sym, ap, subst, ◌∙◌, arith, rules, take}
use Rattle.std.specs.Prelude.{unwrap_or}
use Rattle.std.proofs.Math.Seq.{take-append_seam}
use Rattle.std.proofs.lemmas.List.{length-append, length-map}
use Rattle.std.proofs.lemmas.Option.{slice_get-map, slice_get_within}
use Rattle.host_calls.specs.Happenings.{Accepted, Given, Happening, given}
use Rattle.packet_socket.specs.HostState.{HostState}
use Rattle.pcap_trace.specs.Format.{Timed}
use Rattle.pcap_trace.specs.declared.unit.Unit.{Unit}
use Rattle.stations.specs.Stations.{world_at}
use Rattle.network_plan.specs.declared.plan.HostPlan.{HostPlan}
use Rattle.host_calls.specs.Networks.{IsHost}
use Rattle.scenario.specs.SoFar.{Host, Said, host_of_plan, hosts_of, said_of}
use Rattle.run_record.specs.Acts.{Act, history, said_in}
use Rattle.scenario_bench.specs.PlayedActs.{act_of}
use Rattle.scenario.specs.declared.command.Scenario.{Scenario}
use Rattle.scenario_bench.specs.Benches.{AreAllWritten, AreUntouched, BenchSinks, Benches, PlaysEvents}
use Rattle.run_record.specs.WrittenTraces.{AreWritten, AreWrittenUpTo}
use Rattle.scenario_bench.specs.Benches.{PlaysScenario, Stops, StopsBefore, StopsWriting, TellsRun, scenario_events, texts_of}
use Rattle.run_record.specs.WrittenTraces.{SinkState}
use Rattle.run_record.specs.EventLines.{LogState, lines_from}
use Rattle.scenario_bench.specs.EventLists.{all_events}
use Rattle.run_record.specs.EventLogView.{plan_name}
use Rattle.scenario_bench.specs.Given.{given_from, sockets_from}
use Rattle.run_record.specs.Numbers.{next_number}
use Rattle.run_record.specs.Kept.{numbered_frame}
use Rattle.scenario_bench.specs.PlayedEvents.{AreRecorded, HasBegunPlay, HasPlayed, HasPlayedFront}
use Rattle.run_record.specs.Recording.{IsNewRecord}
use Rattle.scenario_bench.specs.PlayedEvents.{StopsAtPlan, StopsWithin, TellTallies, TellsTally, socket_texts_in, wire_texts_in}
use Rattle.run_record.specs.Kept.{KeptFrame, frames_where, is_of_socket, put_from, returned_from, returned_in}
use Rattle.run_record.specs.Kept.{socket_texts}
use Rattle.scenario_bench.specs.WireLists.{wire_names}
use Rattle.run_record.specs.Puts.{wire_texts}
use Rattle.run_record.specs.RunLogs.{logged, new_log}
use Rattle.scenario_bench.specs.Summaries.{TellsHosts}
use Rattle.run_record.specs.Numbers.{as_told}
use Rattle.run_record.specs.Tallies.{no_tally, number_behind, tally_behind}
use Rattle.scenario_bench.specs.declared.play.Play.{Play}
use Rattle.run_record.specs.declared.run_log.RunLog.{RunLog}
use Rattle.run_record.specs.declared.summary.HostSummary.{HostSummary}
use Rattle.run_record.specs.declared.summary.Summary.{Summary}
use Rattle.scenario_bench.specs.declared.bench_error.BenchError.{BenchError}
use Rattle.scenario_bench.specs.declared.bench_error.BenchError.TheVariants as errors
use Rattle.scenario.specs.declared.command.Command.{Command}
use Rattle.run_record.specs.declared.tally.Tally.{Tally}
use Rattle.run_record.proofs.Told.{noted-lists, number_told, tally_of}
use Rattle.scenario_bench.proofs.ToldAnswers.{lines_told, refusals_told, same_names}

-- Summaries of the hosts, in order

pub none_told : (plans : List HostPlan) (play : Play) → TellTallies 0 plans play []
none_told plans play = record { count = refl; each = λ k plan tally host one plan_is tally_is host_is is. cc }

some-same : {X : Type 0} → (x y : X) → Some x ≡ Some y → x ≡ y
some-same x y e = cc

last-or-before : {X : Type 0} → (xs : List X) (x y : X) (k : ℕ) → slice_get (xs ++ x ∷ []) k ≡ Some y
    → (slice_get xs k ≡ Some y) ⊎ ((k ≡ length xs) × (x ≡ y))
last-or-before [] x y zero is = inr (refl, some-same x y is)
last-or-before [] x y (suc k) is = cc
last-or-before (z ∷ xs) x y zero is = inl is
last-or-before (z ∷ xs) x y (suc k) is = elim (last-or-before xs x y k is) [
  | inl before ↦ inl before
  | inr last ↦ inr (ap (λ (n : ℕ). suc n) last.0, last.1)
]

pub one_told : (first : ℕ) (plans : List HostPlan) (play : Play) (told more : List HostSummary) (plan : HostPlan) (one : HostSummary)
    → TellTallies first plans play told → slice_get plans first ≡ Some plan
    → ((tally : Tally) (host : HostState) → slice_get play.record.hosts.items first ≡ Some tally → IsHost play.lan first host
    → TellsTally plan tally host (world_at play.lan.stations first) one)
    → more ≡ told ++ one ∷ [] → TellTallies (first + 1) plans play more
one_told first plans play told more plan one has plan_there tells is = record {
  count = ap length is ∙ length-append told (one ∷ []) ∙ ap (λ (n : ℕ). n + 1) has.count;
  each = λ k other tally host this plan_is tally_is host_is told_is.
      elim (last-or-before told one this k (sym (ap (λ (l : List HostSummary). slice_get l k) is) ∙ told_is)) [
        | inl before ↦ has.each k other tally host this plan_is tally_is host_is before
        | inr last ↦
            let at : k ≡ first = last.0 ∙ has.count in
            let same : plan ≡ other = some-same plan other (sym plan_there ∙ ap (slice_get plans) (sym at) ∙ plan_is) in
            let here = tells tally host (ap (slice_get play.record.hosts.items) (sym at) ∙ tally_is)
            (subst (λ (n : ℕ). IsHost play.lan n host) at host_is) in
            subst (λ (n : ℕ). TellsTally other tally host (world_at play.lan.stations n) this) (sym at)
            (subst (λ (p : HostPlan). TellsTally p tally host (world_at play.lan.stations first) this) same
            (subst (λ (s : HostSummary). TellsTally plan tally host (world_at play.lan.stations first) s) last.1 here))
      ];
}

-- The record after a run that began with an empty record

at-replicate : {X : Type 0} → (n k : ℕ) (x : X) → k < n → slice_get (replicate n x) k ≡ Some x
at-replicate zero k x below = absurd (omega (arith, below))
at-replicate (suc n) zero x below = refl
at-replicate (suc n) (suc k) x below = at-replicate n k x (omega (arith, below))

pub tally_at : (plans : List HostPlan) (said : List Said) (a b : Play) (begun : HasBegunPlay plans a) (played : HasPlayed said a b) (k : ℕ)
    → k < length plans → slice_get b.record.hosts.items k ≡ Some (tally_of k (history played.acts))
tally_at plans said a b begun played k below =
    let happened = history played.acts in
    played.noted.hosts k
    ∙ ap (option_map (tally_behind happened k)) (ap (λ (l : List Tally). slice_get l k) begun.hosts
    ∙ at-replicate (length plans) k no_tally below)
    ∙ ap (λ (t : Tally). Some t) (noted-lists k happened)

enough : {X : Type 0} → (xs : List X) (n : ℕ) → ((k : ℕ) → k < n → (x : X) × (slice_get xs k ≡ Some x)) → n ≤ length xs
enough xs zero each = omega arith
enough xs (suc n) each =
    let last = each n (omega arith) in
    let within : n < length xs = slice_get_within xs n last.0 last.1 in
    omega (arith, within)

pub tallies_enough : (plans : List HostPlan) (said : List Said) (a b : Play) → HasBegunPlay plans a → HasPlayed said a b
    → length plans ≤ length b.record.hosts.items
tallies_enough plans said a b begun played = enough b.record.hosts.items (length plans)
    (λ k below. (tally_of k (history played.acts), tally_at plans said a b begun played k below))

where-append : (test : ℕ → ℕ → Bool) (xs ys : List KeptFrame) → frames_where test (xs ++ ys) ≡ frames_where test xs ++ frames_where test ys
where-append test [] ys = refl
where-append test (x ∷ xs) ys =
    let first : List Timed = if test x.host x.socket then x.frame ∷ [] else [] in
    ap (λ (list : List Timed). first ++ list) (where-append test xs ys)
    ∙ sym (append_assoc first (frames_where test xs) (frames_where test ys))

returned-one : (number : ℕ) (here : Bool) (frame : List ℕ) (xs : List Timed) (ys : List (List ℕ)) → xs ≡ map (numbered_frame number) ys
    → (if here then numbered_frame number frame ∷ [] else []) ++ xs ≡ map (numbered_frame number) ((if here then frame ∷ [] else []) ++ ys)
returned-one number true frame xs ys is = ap (λ (list : List Timed). numbered_frame number frame ∷ list) is
returned-one number false frame xs ys is = is

returned-of : (k s number : ℕ) (happened : List Happening)
    → frames_where (is_of_socket k s) (returned_in number happened) ≡ map (numbered_frame number) (given k s happened)
returned-of k s number [] = refl
returned-of k s number (Given host socket frame ∷ happened) =
    returned-one number ((k == host) && (s == socket)) frame (frames_where (is_of_socket k s) (returned_in number happened))
    (given k s happened) (returned-of k s number happened)
returned-of k s number (Accepted host frame ∷ happened) = returned-of k s number happened
returned-of k s number (_ ∷ happened) = returned-of k s number happened

returned-from : (k s number : ℕ) (acts : List Act)
    → frames_where (is_of_socket k s) (returned_from number acts) ≡ given_from k s number acts
returned-from k s number [] = refl
returned-from k s number (act ∷ acts) =
    where-append (is_of_socket k s) (returned_in number (said_in act)) (returned_from (next_number number) acts)
    ∙ ap (λ (list : List Timed). list ++ frames_where (is_of_socket k s) (returned_from (next_number number) acts))
    (returned-of k s number (said_in act))
    ∙ ap (λ (list : List Timed). map (numbered_frame number) (given k s (said_in act)) ++ list)
    (returned-from k s (next_number number) acts)

texts-of : (acts : List Act) (places : List (ℕ × ℕ))
    → socket_texts (returned_from 0 acts) places ≡ map (λ (place : ℕ × ℕ). given_from place.0 place.1 0 acts) places
texts-of acts [] = refl
texts-of acts (place ∷ places) =
    ap (λ (text : List Timed). text ∷ socket_texts (returned_from 0 acts) places) (returned-from place.0 place.1 0 acts)
    ∙ ap (λ (l : List (List Timed)). given_from place.0 place.1 0 acts ∷ l) (texts-of acts places)

pub texts_are : (plans : List HostPlan) (said : List Said) (a b : Play) (begun : HasBegunPlay plans a) (played : HasPlayed said a b)
    → socket_texts_in plans b
    ≡ map (λ (place : ℕ × ℕ). given_from place.0 place.1 0 played.acts) (sockets_from 0 (hosts_of plans))
texts_are plans said a b begun played =
    ap (λ (returned : List KeptFrame). socket_texts returned (sockets_from 0 (hosts_of plans)))
    (played.noted.returned ∙ ap (λ (n : ℕ). a.record.returned ++ returned_from n played.acts) begun.number
    ∙ ap (λ (returned : List KeptFrame). returned ++ returned_from 0 played.acts) begun.returned)
    ∙ texts-of played.acts (sockets_from 0 (hosts_of plans))

-- The summary

abbrev pub plays_of : (scenario : Scenario) (said : List Said) (a b : Play) → HasBegunPlay scenario.plan.hosts.items a → HasPlayed said a b
    → PlaysEvents scenario said
plays_of scenario said a b begun played = record {
  made = a.lan;
  by_plan = begun.made;
  acts = played.acts;
  are = played.are;
  behind = b.lan;
  leads = played.leads;
}

plan-at : (plans : List HostPlan) (k : ℕ) (plan : Host) (found : Option HostPlan) → slice_get plans k ≡ found
    → slice_get (hosts_of plans) k ≡ Some plan → (one : HostPlan) × (slice_get plans k ≡ Some one) × (host_of_plan one ≡ plan)
plan-at plans k plan None is there = absurd (none (sym (ap (option_map host_of_plan) is) ∙ sym
    (slice_get-map host_of_plan plans k) ∙ there))
  where
    none : None ≡ Some plan → ⊥
    none e = cc
plan-at plans k plan (Some one) is there =
    (one, is, some-same (host_of_plan one) plan (sym (ap (option_map host_of_plan) is) ∙ sym (slice_get-map host_of_plan plans k) ∙ there))

pub hosts_tell : (plans : List HostPlan) (said : List Said) (a b : Play) (told : List HostSummary) (begun : HasBegunPlay plans a)
    (played : HasPlayed said a b) → TellTallies (length plans) plans b told
    → TellsHosts (hosts_of plans) (history played.acts) b.lan told
hosts_tell plans said a b told begun played tells = record {
  count = tells.count ∙ sym (length-map plans host_of_plan);
  each = λ k plan host one plan_is host_is one_is.
      let found = plan-at plans k plan (slice_get plans k) refl plan_is in
      let below : k < length plans = slice_get_within plans k found.0 found.1 in
      let happened = history played.acts in
      let tally = tally_at plans said a b begun played k below in
      let this = tells.each k found.0 (tally_of k happened) host one found.1 tally host_is one_is in
      record {
        name = this.name ∙ ap (λ (h : Host). h.name) found.2;
        frames = search rules;
        missed = this.counts.0;
        exact = this.counts.1;
        unclaimed = this.counts.2;
      };
}

pub same_events : (hosts : List HostPlan) (said : List Command) (scenario : Scenario) (traces : List (List (List ℕ)))
    → hosts ≡ scenario.plan.hosts.items → said ≡ scenario.commands.items
    → all_events (hosts_of hosts) traces (map said_of said) ≡ scenario_events scenario traces
same_events hosts said scenario traces hosts_are said_is =
    ap (λ (hs : List HostPlan). all_events (hosts_of hs) traces (map said_of said)) hosts_are
    ∙ ap (λ (cs : List Command). all_events (hosts_of scenario.plan.hosts.items) traces (map said_of cs)) said_is

pub stops_as : (all said : List Said) (a b : Play) (error : BenchError) → all ≡ said → StopsWithin all a b error
    → StopsWithin said a b error
stops_as all said a b error is stops = subst (λ (events : List Said). StopsWithin events a b error) is stops

tells_as : (hosts plans : List HostPlan) (b : Play) (told : List HostSummary) → hosts ≡ plans → TellTallies (length hosts) hosts b told
    → TellTallies (length plans) plans b told
tells_as hosts plans b told is tells = subst (λ (hs : List HostPlan). TellTallies (length hs) hs b told) is tells

-- The commands of the scenario were played, and `hosts` are the summaries of its hosts.
pub record HasPlayedScenario (scenario : Scenario) (traces : List (List (List ℕ))) (old new : Play) (hosts : List HostSummary)
    : Type 0 where
  pub played : HasPlayed (scenario_events scenario traces) old new
  pub tells : TellTallies (length scenario.plan.hosts.items) scenario.plan.hosts.items new hosts

pub played_scenario : (plans : List HostPlan) (commands : List Command) (scenario : Scenario) (traces : List (List (List ℕ))) (a b : Play)
    (told : List HostSummary) → plans ≡ scenario.plan.hosts.items → commands ≡ scenario.commands.items
    → HasPlayed (all_events (hosts_of plans) traces (map said_of commands)) a b → TellTallies (length plans) plans b told
    → HasPlayedScenario scenario traces a b told
played_scenario plans commands scenario traces a b told plans_are commands_are has tells = record {
  played = subst (λ (said : List Said). HasPlayed said a b) (same_events plans commands scenario traces plans_are commands_are) has;
  tells = tells_as plans scenario.plan.hosts.items b told plans_are tells;
}

-- the summary contains these summaries of hosts, and the refused calls and the lines of the record
pub record IsOfPlay (play : Play) (told : List HostSummary) (summary : Summary) : Type 0 where
  pub hosts : summary.hosts.items ≡ told
  pub refusals : summary.refusals ≡ play.record.log.refusals
  pub events : summary.events ≡ play.record.log.lines

-- Traces of wires

still-recorded : (wires : ℕ) (more : List KeptFrame) (first puts : Option (List KeptFrame)) → IsNewRecord wires first
    → puts ≡ option_map (λ (old : List KeptFrame). old ++ more) first → AreRecorded wires puts
still-recorded wires more None puts new is = subst (AreRecorded wires) (sym is) new
still-recorded wires more (Some old) puts new is = subst (AreRecorded wires) (sym is) tt

same-puts : (more old : List KeptFrame) (puts : Option (List KeptFrame)) → old ≡ []
    → puts ≡ option_map (λ (old : List KeptFrame). old ++ more) (Some old) → unwrap_or puts [] ≡ more
same-puts more old puts none is =
    ap (λ (p : Option (List KeptFrame)). unwrap_or p []) is ∙ ap (λ (l : List KeptFrame). l ++ more) none

module _ (unit : Unit) (hosts : List Host) (wires : ℕ) (more : List KeptFrame) (old new : List SinkState) (none : wires ≡ length old) where
  wires-written : (first puts : Option (List KeptFrame)) → IsNewRecord wires first
      → puts ≡ option_map (λ (old : List KeptFrame). old ++ more) first
      → AreWritten unit (length old) (wire_texts hosts (unwrap_or puts []) (wire_names hosts)) old new
      → AreWritten unit (length old) (wire_texts hosts more (wire_names hosts)) old new
  wires-written None puts first is wrote = record {
    sinks = wrote.sinks;
    whole = λ k text before after below. absurd (omega (arith, below, first, none));
    others = wrote.others;
  }
  wires-written (Some first) puts new_is is wrote =
      subst (λ (ps : List KeptFrame). AreWritten unit (length old) (wire_texts hosts ps (wire_names hosts)) old new)
      (same-puts more first puts new_is is) wrote

  wires-failed : (failed : ℕ) (first puts : Option (List KeptFrame)) → IsNewRecord wires first
      → puts ≡ option_map (λ (old : List KeptFrame). old ++ more) first
      → AreWrittenUpTo unit failed (wire_texts hosts (unwrap_or puts []) (wire_names hosts)) old new
      → AreWrittenUpTo unit failed (wire_texts hosts more (wire_names hosts)) old new
  wires-failed failed None puts first is wrote = absurd (omega (arith, wrote.sink, first, none))
  wires-failed failed (Some first) puts new_is is wrote =
      subst (λ (ps : List KeptFrame). AreWrittenUpTo unit failed (wire_texts hosts ps (wire_names hosts)) old new)
      (same-puts more first puts new_is is) wrote

-- A scenario that was played

module _ (scenario : Scenario) (traces : List (List (List ℕ))) (first play : Play) (hosts : List HostSummary)
    (begins : HasBegunPlay scenario.plan.hosts.items first) (has : HasPlayedScenario scenario traces first play hosts) where
  abbrev plans : List HostPlan
  plans = scenario.plan.hosts.items

  abbrev said : List Said
  said = scenario_events scenario traces

  abbrev acts : List Act
  acts = has.played.acts

  abbrev pub plays_in : PlaysScenario scenario traces
  plays_in = plays_of scenario said first play begins has.played

  hosts-told : {summary : Summary} → IsOfPlay play hosts summary → TellsHosts (hosts_of plans) (history acts) play.lan summary.hosts.items
  hosts-told {summary} of_play = hosts_tell plans said first play summary.hosts.items begins has.played
      (subst (λ (told : List HostSummary). TellTallies (length plans) plans play told) (sym of_play.hosts) has.tells)

  log-is : (events : Bool) → first.record.log ≡ new_log (map plan_name plans) events
      → play.record.log ≡ logged 0 has.played.noted.logged.entries (new_log (map plan_name plans) events)
  log-is events log =
      let entries = has.played.noted.logged.entries in
      has.played.noted.logged.log ∙ ap (λ (n : ℕ). logged n entries first.record.log) begins.number
      ∙ ap (logged 0 entries) log

  run-told : (events : Bool) {summary : Summary} → first.record.log ≡ new_log (map plan_name plans) events → IsOfPlay play hosts summary
      → TellsRun events plays_in summary
  run-told events {summary} log of_play =
      let entries = has.played.noted.logged.entries in
      let names = map plan_name plans in
      let is = log-is events log in
      record {
        entries = entries;
        are = has.played.noted.logged.are;
        tells = record {
          refusals = of_play.refusals ∙ ap (λ (log : RunLog). log.refusals) is ∙ refusals_told 0 entries (new_log names events);
          lines = ap (option_map (λ (log : LogState). log.text)) (of_play.events ∙ ap (λ (log : RunLog). log.lines) is)
              ∙ lines_told events names entries
              ∙ ap (λ (all : List (List ℕ)). if events then Some (lines_from all 0 entries) else None) (same_names plans);
        };
      }

  same-texts : socket_texts_in plans play ≡ texts_of plays_in
  same-texts = texts_are plans said first play begins has.played

  puts-are : play.record.puts ≡ option_map (λ (old : List KeptFrame). old ++ put_from 0 acts) first.record.puts
  puts-are = has.played.noted.puts
      ∙ ap (λ (n : ℕ). option_map (λ (old : List KeptFrame). old ++ put_from n acts) first.record.puts) begins.number

  pub recorded : (wires : ℕ) → IsNewRecord wires first.record.puts → AreRecorded wires play.record.puts
  recorded wires new = still-recorded wires (put_from 0 acts) first.record.puts play.record.puts new puts-are

  module _ (unit : Unit) (sinks : BenchSinks) (wires : ℕ) (new : IsNewRecord wires first.record.puts)
      (counts : wires ≡ length sinks.wires_old) where
    pub benched : (events : Bool) {summary : Summary} → first.record.log ≡ new_log (map plan_name plans) events
        → IsOfPlay play hosts summary → AreAllWritten unit (socket_texts_in plans play) (wire_texts_in plans play) sinks
        → Benches unit scenario traces events summary sinks
    benched events log of_play wrote =
        record {
          plays = plays_in;
          texts = record {
            texts = subst (λ (texts : List (List Timed)). AreWritten unit (length sinks.old) texts sinks.old sinks.new)
                same-texts wrote.texts;
            wires = wires-written unit (hosts_of plans) wires (put_from 0 acts) sinks.wires_old sinks.wires_new counts
                first.record.puts play.record.puts new puts-are wrote.wires;
          };
          tells = hosts-told of_play;
          answers = run-told events log of_play;
        }

    pub bench_failed : (error : BenchError) → StopsWriting unit (socket_texts_in plans play) (wire_texts_in plans play) error sinks
        → Stops unit scenario traces error sinks
    unfolding Stops
    bench_failed (errors.Plan error) stops = absurd stops
    bench_failed (errors.Run stopped) stops = absurd stops
    bench_failed errors.Memory stops = stops
    bench_failed (errors.Write error) (inl (wrote, untouched)) = (
      plays_in,
      inl (
        (
          wrote.0,
          subst (λ (texts : List (List Timed)). AreWrittenUpTo unit wrote.0 texts sinks.old sinks.new) same-texts wrote.1,
        ),
        untouched,
      ),
    )
    bench_failed (errors.Write error) (inr (wrote, stopped)) = (
      plays_in,
      inr (
        subst (λ (texts : List (List Timed)). AreWritten unit (length sinks.old) texts sinks.old sinks.new) same-texts wrote,
        (
          stopped.0,
          wires-failed unit (hosts_of plans) wires (put_from 0 acts) sinks.wires_old sinks.wires_new counts stopped.0
              first.record.puts play.record.puts new puts-are stopped.1,
        ),
      ),
    )

-- Errors after which nothing was written

stopped-before : (scenario : Scenario) (all : List Said) (a b : Play) (done : ℕ) → HasBegunPlay scenario.plan.hosts.items a
    → HasPlayedFront all a b → done ≡ b.record.number → StopsBefore scenario all done
stopped-before scenario all a b done begun front is =
    let acts = front.played.acts in
    record {
      first = length front.first;
      left = omega (arith, front.some, ap length front.parts, length-append front.first front.left);
      number = is ∙ front.played.noted.number ∙ ap (λ (n : ℕ). number_behind n acts) begun.number ∙ number_told 0 acts
          ∙ ap as_told (omega (arith, length-map acts act_of, ap length front.played.are));
      plays = subst (λ (first : List Said). PlaysEvents scenario first)
          (sym (ap (take (length front.first)) front.parts ∙ take-append_seam front.first front.left))
          (plays_of scenario front.first a b begun front.played);
    }

module _ (unit : Unit) (scenario : Scenario) (traces : List (List (List ℕ))) (sinks : BenchSinks) (untouched : AreUntouched sinks) where
  pub unmade : (error : BenchError) → StopsAtPlan scenario.plan.hosts.items error → Stops unit scenario traces error sinks
  unfolding Stops
  unmade (errors.Plan error) stops = (stops, untouched)
  unmade (errors.Run stopped) stops = absurd stops
  unmade errors.Memory stops = untouched
  unmade (errors.Write error) stops = absurd stops

  pub unplayed : (a b : Play) (error : BenchError) → HasBegunPlay scenario.plan.hosts.items a
      → StopsWithin (scenario_events scenario traces) a b error → Stops unit scenario traces error sinks
  unfolding Stops
  unplayed a b (errors.Plan error) begun stops = absurd stops
  unplayed a b (errors.Run stopped) begun stops =
      (stopped-before scenario (scenario_events scenario traces) a b stopped.done begun stops.0 stops.1, untouched)
  unplayed a b errors.Memory begun stops = untouched
  unplayed a b (errors.Write error) begun stops = absurd stops
