-- What is recorded in two consecutive intervals is recorded in both together, and an interval without ticks and events records nothing.
use Rattle.std.proofs.Common.{◌≡◌, ◌++◌, ◌∷◌, [], ℕ, List, None, Option, Some, length}
use Rattle.std.proofs.Common.{option_map, slice_get, refl, sym, ap, subst, ◌∙◌, append_assoc, append-nil, arith, length-append}
use Rattle.std.specs.Prelude.{⊤}
use Rattle.std.specs.List.{flat_map, fold}
use Rattle.std.proofs.lemmas.Grind.{flat_map-append}
use Rattle.std.proofs.lemmas.List.{map-append}
use Rattle.std.proofs.lemmas.List.Sums.{fold-append}
use Rattle.host_calls.specs.Happenings.{Happening}
use Rattle.network_plan.specs.declared.event.Event.{Event}
use Rattle.network_plan.specs.declared.reply.Reply.{Reply}
use Rattle.stations.specs.ToldTicks.{ComposesTold, TickTold}
use Rattle.wire.specs.RunObservers.{ComposesRuns, happened_of}
use Rattle.run_record.specs.Acts.{Act, Ran, history, ran, said_in}
use Rattle.run_record.specs.EventLines.{place_in_run}
use Rattle.run_record.specs.Numbers.{next_number}
use Rattle.run_record.specs.Kept.{FramesGrow, KeptFrame, PutsGrow, chosen_from, put_frame_in, put_frames_in, put_from}
use Rattle.run_record.specs.Kept.{returned_frame_in, returned_from}
use Rattle.run_record.specs.Recording.{AreInOrder, HearsTicks, RecordsReplies}
use Rattle.run_record.specs.RunLogs.{AreLogged, act_logged, acts_in, log_heard, logged}
use Rattle.run_record.specs.Tallies.{AreNoted, TalliesGrow, tallied_by, number_behind, tally_behind}
use Rattle.run_record.specs.declared.record.Record.{Record}
use Rattle.run_record.specs.declared.run_log.RunLog.{RunLog}
use Rattle.run_record.specs.declared.tally.Tally.{Tally}

-- Counts of hosts.

pub stays : (k : ℕ) (found : Option Tally) → found ≡ option_map (tally_behind [] k) found
stays k None = refl
stays k (Some tally) = refl

-- Without happenings, no count changes.
pub grows_not : (hosts : List Tally) → TalliesGrow [] hosts hosts
grows_not hosts k = stays k (slice_get hosts k)

further : (xs ys : List Happening) (k : ℕ) (found : Option Tally)
    → option_map (tally_behind ys k) (option_map (tally_behind xs k) found) ≡ option_map (tally_behind (xs ++ ys) k) found
further xs ys k None = refl
further xs ys k (Some tally) = ap (λ (t : Tally). Some t) (sym (fold-append (tallied_by k) tally xs ys))

pub grows_join : (xs ys : List Happening) (a b c : List Tally) → TalliesGrow xs a b → TalliesGrow ys b c → TalliesGrow (xs ++ ys) a c
grows_join xs ys a b c one two k =
    two k ∙ ap (option_map (tally_behind ys k)) (one k) ∙ further xs ys k (slice_get a k)

-- Frames that were put.

pub puts_not : (puts : Option (List KeptFrame)) → PutsGrow [] puts puts
puts_not None = refl
puts_not (Some puts) = ap (λ (all : List KeptFrame). Some all) (sym (append-nil puts))

puts-further : (xs ys : List KeptFrame) (found : Option (List KeptFrame))
    → option_map (λ (puts : List KeptFrame). puts ++ ys) (option_map (λ (puts : List KeptFrame). puts ++ xs) found)
    ≡ option_map (λ (puts : List KeptFrame). puts ++ (xs ++ ys)) found
puts-further xs ys None = refl
puts-further xs ys (Some puts) = ap (λ (all : List KeptFrame). Some all) (append_assoc puts xs ys)

pub puts_join : (xs ys : List KeptFrame) (a b c : Option (List KeptFrame)) → PutsGrow xs a b → PutsGrow ys b c → PutsGrow (xs ++ ys) a c
puts_join xs ys a b c one two = two ∙ ap (option_map (λ (puts : List KeptFrame). puts ++ ys)) one ∙ puts-further xs ys a

chosen_from-join : (chosen : ℕ → Happening → List KeptFrame) (number : ℕ) (acts later : List Act)
    → chosen_from chosen number (acts ++ later) ≡ chosen_from chosen number acts ++ chosen_from chosen (number_behind number acts) later
chosen_from-join chosen number [] later = refl
chosen_from-join chosen number (act ∷ acts) later =
    let first = flat_map (chosen number) (said_in act) in
    let next = next_number number in
    ap (λ (rest : List KeptFrame). first ++ rest) (chosen_from-join chosen next acts later)
    ∙ sym (append_assoc first (chosen_from chosen next acts) (chosen_from chosen (number_behind next acts) later))

-- Frames that sockets returned.

pub frames_join : (xs ys a b c : List KeptFrame) → FramesGrow xs a b → FramesGrow ys b c → FramesGrow (xs ++ ys) a c
frames_join xs ys a b c one two = two ∙ ap (λ (list : List KeptFrame). list ++ ys) one ∙ append_assoc a xs ys

-- Lines of acts, one list after the other.

logged-join : (number : ℕ) (entries later : List (ℕ × Act)) (log : RunLog)
    → logged number (entries ++ later) log ≡ logged (number_behind number (acts_in entries)) later (logged number entries log)
logged-join number [] later log = refl
logged-join number (entry ∷ entries) later log =
    logged-join (next_number number) entries later (act_logged (place_in_run number entry.0) entry.1 log)

logs-join : (acts later : List Act) (a b c : Record) → b.number ≡ number_behind a.number acts → AreLogged acts a b → AreLogged later b c
    → AreLogged (acts ++ later) a c
logs-join acts later a b c number one two = record {
  entries = one.entries ++ two.entries;
  are = map-append (λ (entry : ℕ × Act). entry.1) one.entries two.entries
      ∙ ap (λ (list : List Act). list ++ acts_in two.entries) one.are ∙ ap (λ (list : List Act). acts ++ list) two.are;
  log = two.log ∙ ap (logged b.number two.entries) one.log
      ∙ ap (λ (n : ℕ). logged n two.entries (logged a.number one.entries a.log)) (number ∙ ap (number_behind a.number) (sym one.are))
      ∙ sym (logged-join a.number one.entries two.entries a.log);
}

pub notes_join : (acts later : List Act) (a b c : Record) → AreNoted acts a b → AreNoted later b c → AreNoted (acts ++ later) a c
notes_join acts later a b c one two = record {
  number = two.number ∙ ap (λ (n : ℕ). number_behind n later) one.number
      ∙ sym (fold-append (λ (n : ℕ) (act : Act). next_number n) a.number acts later);
  hosts = subst (λ (happened : List Happening). TalliesGrow happened a.hosts.items c.hosts.items)
      (sym (flat_map-append said_in acts later))
      (grows_join (history acts) (history later) a.hosts.items b.hosts.items c.hosts.items one.hosts two.hosts);
  returned = subst (λ (more : List KeptFrame). FramesGrow more a.returned c.returned)
      (sym (chosen_from-join returned_frame_in a.number acts later))
      (frames_join (returned_from a.number acts) (returned_from (number_behind a.number acts) later) a.returned b.returned c.returned
      one.returned (subst (λ (n : ℕ). FramesGrow (returned_from n later) b.returned c.returned) one.number two.returned));
  puts = subst (λ (puts : List KeptFrame). PutsGrow puts a.puts c.puts) (sym (chosen_from-join put_frame_in a.number acts later))
      (puts_join (put_from a.number acts) (put_from (number_behind a.number acts) later) a.puts b.puts c.puts one.puts
      (subst (λ (n : ℕ). PutsGrow (put_from n later) b.puts c.puts) one.number two.puts));
  logged = logs-join acts later a b c one.number one.logged two.logged;
}

pub noted_none : (a : Record) → AreNoted [] a a
noted_none a = record {
  number = refl;
  hosts = grows_not a.hosts.items;
  returned = sym (append-nil a.returned);
  puts = puts_not a.puts;
  logged = record { entries = []; are = refl; log = refl };
}

-- Ticks and events of two intervals.

-- `HearsTicks` holds of no tick. If it holds of two consecutive intervals, it holds of both joined.
pub ticks_compose : ComposesTold HearsTicks
ticks_compose = record {
  stays = λ a. record {
    before = λ sound. sound;
    number = refl;
    returned = refl;
    hosts = grows_not a.hosts.items;
    puts = λ sound. puts_not a.puts;
    log = λ sound. refl;
  };
  joins = λ a b c first later one two. record {
    before = λ sound. one.before (two.before sound);
    number = two.number ∙ one.number;
    returned = two.returned ∙ one.returned;
    hosts =
        subst (λ (happened : List Happening). TalliesGrow happened a.hosts.items c.hosts.items)
        (sym (flat_map-append happened_of first later))
        (grows_join (flat_map happened_of first) (flat_map happened_of later) a.hosts.items b.hosts.items c.hosts.items one.hosts
        two.hosts);
    puts = λ sound.
        let of : List TickTold → List KeptFrame = λ ticks. put_frames_in a.number (flat_map happened_of ticks) in
        let both : of (first ++ later) ≡ of first ++ of later =
        ap (put_frames_in a.number) (flat_map-append happened_of first later)
        ∙ flat_map-append (put_frame_in a.number) (flat_map happened_of first) (flat_map happened_of later) in
        subst (λ (puts : List KeptFrame). PutsGrow puts a.puts c.puts) (sym both)
        (puts_join (of first) (of later) a.puts b.puts c.puts (one.puts (two.before sound))
        (subst (λ (n : ℕ). PutsGrow (put_frames_in n (flat_map happened_of later)) b.puts c.puts) one.number (two.puts sound)));
    log = λ sound. two.log sound ∙ ap (λ (log : RunLog). fold log_heard log later) (one.log (two.before sound))
        ∙ sym (fold-append log_heard a.log first later);
  };
}

ran-join : (events later : List Event) (replies others : List Reply) → length replies ≡ length events
    → ran (events ++ later) (replies ++ others) ≡ ran events replies ++ ran later others
ran-join [] later [] others same = refl
ran-join [] later (reply ∷ replies) others same = absurd (omega (arith, same))
ran-join (one ∷ events) later [] others same = absurd (omega (arith, same))
ran-join (one ∷ events) later (reply ∷ replies) others same =
    ap (λ (acts : List Act). Ran one reply ∷ acts) (ran-join events later replies others (omega (arith, same)))

order-first : (events later : List Event) (replies others : List Reply) → length replies ≡ length events
    → AreInOrder (events ++ later) (replies ++ others) → AreInOrder events replies × AreInOrder later others
order-first [] later [] others same order = (tt, order)
order-first [] later (reply ∷ replies) others same order = absurd (omega (arith, same))
order-first (one ∷ events) later [] others same order = absurd (omega (arith, same))
order-first (one ∷ events) later (reply ∷ replies) others same order =
    let rest = order-first events later replies others (omega (arith, same)) order.1 in
    ((order.0, rest.0), rest.1)

-- `RecordsReplies` holds of an interval without events. If it holds of two consecutive intervals, it holds of both joined.
pub record_composes : ComposesRuns HearsTicks RecordsReplies (λ now one. ⊤)
record_composes = record {
  quiet = λ a b heard. record {
    each = refl;
    recorded = λ sound order. record {
      before = heard.before sound;
      noted = record {
        number = heard.number;
        hosts = heard.hosts;
        returned = heard.returned ∙ sym (append-nil a.returned);
        puts = heard.puts sound;
        logged = record { entries = []; are = refl; log = heard.log sound };
      };
    };
  };
  joins = λ a b c events later replies others one two. record {
    each = let first = one.each in let second = two.each in
        omega (arith, first, second, length-append events later, length-append replies others);
    recorded = λ sound order.
        let parts = order-first events later replies others one.each order in
        let last = two.recorded sound parts.1 in
        let first = one.recorded last.before parts.0 in
        record {
          before = first.before;
          noted =
              subst (λ (acts : List Act). AreNoted acts a c) (sym (ran-join events later replies others one.each))
              (notes_join (ran events replies) (ran later others) a b c first.noted last.noted);
        };
  };
  keeps_room = λ a b event told heard room. tt;
}
