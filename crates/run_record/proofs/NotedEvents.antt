-- The frames that sockets return in an event are those of its answer, and the record of one event or drain.
use Rattle.std.proofs.Common.{◌≡◌, ◌==◌, ◌&&◌, ◌++◌, ◌∷◌, [], ℕ, Bool, true, false, nat_le, nat_lt, List, Option, Some, None, Ok, Err}
use Rattle.std.proofs.Common.{length, map, replicate, suc, zero}
use Rattle.std.proofs.Common.{if◌then◌else◌, refl, sym, ap, subst, ◌∙◌, append-nil}
use Rattle.std.proofs.lemmas.Grind.{flat_map-append}
use Rattle.host_calls.proofs.ToldAround.{around_ticks}
use Rattle.host_calls.specs.Happenings.{Disabled, Enabled, Given, GivenUp, Happening, Moved}
use Rattle.host_calls.specs.Happenings.{tick_happenings, lone_tick_happenings, tick_happenings_around, outcome_happenings}
use Rattle.host_calls.specs.Happenings.{tick_happenings_where}
use Rattle.network_plan.specs.declared.event.Event.{Event}
use Rattle.network_plan.specs.declared.event.Event.TheVariants as event
use Rattle.network_plan.specs.Answers.{FrameAnswer}
use Rattle.network_plan.specs.declared.reply.Answer.TheVariants as answer
use Rattle.network_plan.specs.declared.reply.Reply.{Reply}
use Rattle.stations.specs.declared.outcomes.Numbered.{Numbered}
use Rattle.adapter.specs.Outcomes.{FrameOutcome}
use Rattle.adapter.specs.model_types.outcome.Outcome.TheVariants as outcome
use Rattle.stations.specs.declared.tick.Tick.{Tick}
use Rattle.stations.specs.declared.tick.Tick.TheVariants as tick
use Rattle.packet_socket.specs.HostCalls.{Given as GivenFrame}
use Rattle.wire.specs.DrainedNetworks.{said_of_drain}
use Rattle.wire.specs.Runs.{ResetAnswer, accepted_by_answer, given_by_answer, joined_of, left_by_answer, reset_answer, said, said_in_reset}
use Rattle.run_record.specs.Acts.{Act, Drained, Ran, said_in}
use Rattle.run_record.specs.EventLines.{place_in_run}
use Rattle.run_record.specs.Numbers.{next_number}
use Rattle.run_record.specs.Kept.{FramesGrow, KeptFrame, PutsGrow, put_frames_in, returned_frame_in, returned_in}
use Rattle.run_record.specs.RecordingLaws.{puts_not}
use Rattle.run_record.specs.RunLogs.{AreLogged, act_drained}
use Rattle.run_record.specs.Tallies.{AreNoted, TalliesGrow}
use Rattle.run_record.specs.declared.record.Record.{Record}
use Rattle.run_record.proofs.AroundTicks.{AreQuiet, gives_around, joins_quiet, leaves_quiet}

-- Ticks and sends return no frame.

given-of : (n host : ℕ) (one : FrameOutcome) → returned_in n (outcome_happenings host one) ≡ []
given-of n host (outcome.Put frame) = refl
given-of n host (outcome.Delivered frame fate) = refl
given-of n host outcome.Moved = refl
given-of n host _ = refl

given-chosen : (n : ℕ) (b : Bool) (host : ℕ) (one : FrameOutcome) → returned_in n (if b then outcome_happenings host one else []) ≡ []
given-chosen n true host one = given-of n host one
given-chosen n false host one = refl

both-none : (n : ℕ) (xs ys : List Happening) → returned_in n xs ≡ [] → returned_in n ys ≡ [] → returned_in n (xs ++ ys) ≡ []
both-none n xs ys one two = flat_map-append (returned_frame_in n) xs ys ∙ ap (λ (l : List KeptFrame). l ++ returned_in n ys) one ∙ two

given-told : (n : ℕ) (ticks : List Tick) (outcomes : List Numbered) → returned_in n (tick_happenings ticks outcomes) ≡ []
given-told n [] outcomes = refl
given-told n (tick.Go ∷ ticks) outcomes = given-told n ticks outcomes
given-told n (tick.Step host kind ∷ ticks) [] = refl
given-told n (tick.Step host kind ∷ ticks) (one ∷ outcomes) =
    both-none n (outcome_happenings host one.outcome) (tick_happenings ticks outcomes) (given-of n host one.outcome)
    (given-told n ticks outcomes)
given-told n (tick.Deliver host ∷ ticks) [] = refl
given-told n (tick.Deliver host ∷ ticks) (one ∷ outcomes) =
    both-none n (outcome_happenings host one.outcome) (tick_happenings ticks outcomes) (given-of n host one.outcome)
    (given-told n ticks outcomes)

given-alone : (n : ℕ) (one : Tick) (outcomes : List Numbered) → returned_in n (lone_tick_happenings one outcomes) ≡ []
given-alone n one [] = refl
given-alone n tick.Go (first ∷ outcomes) = given-of n 0 first.outcome
given-alone n (tick.Step host kind) (first ∷ outcomes) = given-of n host first.outcome
given-alone n (tick.Deliver host) (first ∷ outcomes) = given-of n host first.outcome

pub given-accepted : (n host : ℕ) (frame : List ℕ) (one : FrameAnswer) → returned_in n (accepted_by_answer host frame one) ≡ []
given-accepted n host frame (answer.Sent (Ok u)) = refl
given-accepted n host frame (answer.Sent (Err error)) = refl
given-accepted n host frame _ = refl

-- A join or a leave returns no frame.
gives-by-ticks : (n : ℕ) (middle : List Happening) → AreQuiet middle → (ticks : List Tick) (outcomes : List Numbered)
    → returned_in n (tick_happenings_around middle ticks outcomes) ≡ []
gives-by-ticks n middle quiet ticks outcomes =
    gives_around middle (tick_happenings ticks outcomes) (tick_happenings_around middle ticks outcomes)
    (around_ticks middle ticks outcomes) quiet n
    ∙ given-told n ticks outcomes

-- A reset returns no frame.

given-where : (n : ℕ) (is_such : ℕ → Bool) (ticks : List Tick) (outcomes : List Numbered)
    → returned_in n (tick_happenings_where is_such ticks
    outcomes) ≡ []
given-where n is_such [] outcomes = refl
given-where n is_such (tick.Go ∷ ticks) outcomes = given-where n is_such ticks outcomes
given-where n is_such (tick.Step host kind ∷ ticks) [] = refl
given-where n is_such (tick.Step host kind ∷ ticks) (one ∷ outcomes) =
    both-none n (if is_such one.accesses then outcome_happenings host one.outcome else []) (tick_happenings_where is_such ticks outcomes)
    (given-chosen n (is_such one.accesses) host one.outcome) (given-where n is_such ticks outcomes)
given-where n is_such (tick.Deliver host ∷ ticks) [] = refl
given-where n is_such (tick.Deliver host ∷ ticks) (one ∷ outcomes) =
    both-none n (if is_such one.accesses then outcome_happenings host one.outcome else []) (tick_happenings_where is_such ticks outcomes)
    (given-chosen n (is_such one.accesses) host one.outcome) (given-where n is_such ticks outcomes)

given-reset : (n host : ℕ) (found : Option ResetAnswer) (ticks : List Tick) (outcomes : List Numbered)
    → returned_in n (said_in_reset host found ticks outcomes) ≡ []
given-reset n host None ticks outcomes = given-told n ticks outcomes
given-reset n host (Some found) ticks outcomes =
    let of = λ (is_such : ℕ → Bool). tick_happenings_where is_such ticks outcomes in
    let first = λ (at : ℕ). at == 0 in
    let second = λ (at : ℕ). nat_le 1 at && nat_lt at 3 in
    let third = λ (at : ℕ). nat_le 3 at && nat_lt at found.on_after in
    let last = λ (at : ℕ). nat_le found.on_after at in
    let behind : List Happening = of third ++ Enabled host ∷ of last in
    let stopped : List Happening = of second ++ GivenUp host found.sending found.holding ∷ behind in
    both-none n (of first) (Disabled host ∷ stopped) (given-where n first ticks outcomes)
    (both-none n (of second) (GivenUp host found.sending found.holding ∷ behind) (given-where n second ticks outcomes)
    (both-none n (of third) (Enabled host ∷ of last) (given-where n third ticks outcomes)
    (given-where n last ticks outcomes)))

-- Only the answer of a socket has a frame.
abbrev pub answer_of : Event → FrameAnswer → List Happening
answer_of (event.Recv host socket ticks) one = given_by_answer host socket one
answer_of other one = []

pub given-said : (n : ℕ) (one : Event) (reply : Reply) → returned_in n (said one reply) ≡ returned_in n (answer_of one reply.answer)
given-said n (event.Send host frame ticks) reply =
    both-none n (accepted_by_answer host frame.now reply.answer) (tick_happenings ticks.now reply.outcomes.list)
    (given-accepted n host frame.now reply.answer) (given-told n ticks.now reply.outcomes.list)
given-said n (event.Recv host socket ticks) reply =
    flat_map-append (returned_frame_in n) (tick_happenings ticks.now reply.outcomes.list) (given_by_answer host socket reply.answer)
    ∙ ap (λ (l : List KeptFrame). l ++ returned_in n (given_by_answer host socket reply.answer))
    (given-told n ticks.now reply.outcomes.list)
given-said n (event.Interrupt host ticks) reply = given-told n ticks.now reply.outcomes.list
given-said n (event.Reset host ticks) reply = given-reset n host (reset_answer reply.answer) ticks.now reply.outcomes.list
given-said n (event.Join host group ticks) reply =
    gives-by-ticks n (joined_of host group reply.answer) (joins_quiet host group reply.answer) ticks.now reply.outcomes.list
given-said n (event.Leave host group ticks) reply =
    gives-by-ticks n (left_by_answer host group reply.answer) (leaves_quiet host group reply.answer) ticks.now reply.outcomes.list
given-said n (event.Tick one) reply = given-alone n one reply.outcomes.list

pub returned_none : (returned : List KeptFrame) → FramesGrow [] returned returned
returned_none returned = sym (append-nil returned)

-- One act.

act-noted : (act : Act) (old new : Record) → new.number ≡ next_number old.number
    → TalliesGrow (said_in act) old.hosts.items new.hosts.items
    → FramesGrow (returned_in old.number (said_in act)) old.returned new.returned
    → PutsGrow (put_frames_in old.number (said_in act)) old.puts new.puts → AreLogged (act ∷ []) old new → AreNoted (act ∷ []) old new
act-noted act old new next hosts returned puts logged = record {
  number = next;
  hosts = subst (λ (happened : List Happening). TalliesGrow happened old.hosts.items new.hosts.items)
      (sym (append-nil (said_in act))) hosts;
  returned = subst (λ (more : List KeptFrame). FramesGrow more old.returned new.returned)
      (sym (append-nil (returned_in old.number (said_in act)))) returned;
  puts = subst (λ (more : List KeptFrame). PutsGrow more old.puts new.puts)
      (sym (append-nil (put_frames_in old.number (said_in act)))) puts;
  logged = logged;
}

pub noted : (one : Event) (reply : Reply) (old new : Record) → new.number ≡ next_number old.number
    → TalliesGrow (said one reply) old.hosts.items new.hosts.items
    → FramesGrow (returned_in old.number (said one reply)) old.returned new.returned
    → PutsGrow (put_frames_in old.number (said one reply)) old.puts new.puts → AreLogged (Ran one reply ∷ []) old new
    → AreNoted (Ran one reply ∷ []) old new
noted one reply old new next hosts returned puts logged = act-noted (Ran one reply) old new next hosts returned puts logged

-- A drain puts no frame.

puts-moved : (number host moves : ℕ) (later : List Happening)
    → put_frames_in number (replicate moves (Moved host) ++ later) ≡ put_frames_in number later
puts-moved number host zero later = refl
puts-moved number host (suc moves) later = puts-moved number host moves later

puts-given : (number host : ℕ) (frames : List GivenFrame)
    → put_frames_in number (map (λ (one : GivenFrame). Given host one.socket one.frame) frames) ≡ []
puts-given number host [] = refl
puts-given number host (one ∷ frames) = puts-given number host frames

pub puts_drained : (number host moves : ℕ) (frames : List GivenFrame) → put_frames_in number (said_of_drain host moves frames) ≡ []
puts_drained number host moves frames =
    puts-moved number host moves (map (λ (one : GivenFrame). Given host one.socket one.frame) frames)
    ∙ puts-given number host frames

pub drain_noted : (host : ℕ) (frames : List GivenFrame) (old new : Record) → new.number ≡ next_number old.number
    → TalliesGrow (said_of_drain host 0 frames) old.hosts.items new.hosts.items
    → FramesGrow (returned_in old.number (said_of_drain host 0 frames)) old.returned new.returned → new.puts ≡ old.puts
    → new.log ≡ act_drained (place_in_run old.number old.line) host (length frames) old.log → AreNoted (Drained host 0 frames ∷ []) old new
drain_noted host frames old new next hosts returned puts log = act-noted (Drained host 0 frames) old new next hosts returned
    (subst (λ (more : List KeptFrame). PutsGrow more old.puts new.puts) (sym (puts_drained old.number host 0 frames))
    (puts ∙ puts_not old.puts)) (record { entries = (old.line, Drained host 0 frames) ∷ []; are = refl; log = log })
