-- The record of an event: what is recorded of its ticks, line and answer is what `RecordsReplies` states of the event and its reply.
use Rattle.std.proofs.Common.{◌≡◌, ◌==◌, ◌⊎◌, ◌++◌, ◌∷◌, [], ℕ, arith, inl, inr, length, Bool, true, false, Err}
use Rattle.std.proofs.Common.{◌||◌, List, None, Ok, OnOk, Option, Result, Some, map}
use Rattle.std.proofs.Common.{if◌then◌else◌, option_map, slice_get, refl, sym, ap, subst, ◌∙◌, append-nil}
use Rattle.std.specs.List.{flat_map, fold}
use Rattle.std.specs.Result.{is_err}
use Rattle.std.specs.Vec.{with_items}
use Rattle.std.specs.declared.alloc.AllocError.{AllocError}
use Rattle.std.proofs.lemmas.Grind.{flat_map-append}
use Rattle.std.proofs.lemmas.List.{with_items_is}
use Rattle.std.proofs.lemmas.List.Sums.{fold-append}
use Rattle.stations.specs.Outcomes.{note_of}
use Rattle.stations.specs.ToldTicks.{TickTold}
use Rattle.stations.specs.declared.outcomes.Numbered.{Numbered}
use Rattle.stations.specs.declared.tick.Tick.{Tick}
use Rattle.host_calls.proofs.ToldAround.{around_ticks}
use Rattle.host_calls.specs.Happenings.{Accepted, Disabled, Enabled, Given, GivenUp, Happening, Put, Reached}
use Rattle.host_calls.specs.Happenings.{tick_host, tick_happenings, lone_tick_happenings}
use Rattle.host_calls.specs.Happenings.{tick_happenings_around}
use Rattle.host_calls.specs.Happenings.{outcome_happenings}
use Rattle.network_plan.specs.Answers.{FrameAnswer}
use Rattle.network_plan.specs.declared.event.Event.{Event}
use Rattle.network_plan.specs.declared.event.Event.TheVariants as event
use Rattle.network_plan.specs.declared.reply.Answer.TheVariants as answer
use Rattle.network_plan.specs.declared.reply.Reply.{Reply}
use Rattle.wire.specs.RunObservers.{AreOfTicks, TellsReply, ending, happened_of, played_ticks, tick_in}
use Rattle.wire.specs.RunObserverLaws.{told_happened}
use Rattle.wire.specs.Runs.{accepted_by_answer, given_by_answer, joined_of, left_by_answer, said}
use Rattle.run_record.specs.Acts.{Ran}
use Rattle.run_record.specs.EventLines.{paired, place_in_run}
use Rattle.run_record.specs.Numbers.{next_number}
use Rattle.run_record.specs.Kept.{FramesGrow, KeptFrame, PutsGrow, put_frame_in, put_frames_in, returned_in}
use Rattle.run_record.specs.Recording.{IsInOrder, NotesAnswer, NotesLine, HearsTicks, RecordsReplies, TellsReset, answered}
use Rattle.run_record.specs.RunLogs.{log_ended, log_heard}
use Rattle.run_record.specs.Tallies.{TalliesGrow, given_up_of, grown_by, tallied_by, tally_given_up, counted_once}
use Rattle.run_record.specs.Tallies.{passage_by, tally_behind}
use Rattle.run_record.specs.declared.record.Record.{Record}
use Rattle.run_record.specs.declared.run_log.RunLog.{RunLog}
use Rattle.run_record.specs.declared.tally.Passage.{Passage}
use Rattle.run_record.specs.declared.tally.Passage.TheVariants as passage
use Rattle.run_record.specs.declared.tally.Tally.{Tally}
use Rattle.run_record.proofs.AroundTicks.{AreQuiet, grows_around, joins_quiet, leaves_quiet, puts_around}
use Rattle.run_record.proofs.NotedEvents.{given-accepted, given-said, noted}
use Rattle.run_record.specs.RecordingLaws.{grows_join}

first : (a b : Tick) (list : List Tick) (others : List Tick) → b ∷ others ≡ a ∷ list → b ≡ a
first a b list others same = cc

rest : (a b : Tick) (list : List Tick) (others : List Tick) → b ∷ others ≡ a ∷ list → others ≡ list
rest a b list others same = cc

-- A send's accepted frame may be counted before or after the happenings of the send's ticks.

counts-commute : (a b : Bool) (one : Passage) (tally : Tally)
    → (if a then counted_once passage.Accepted (if b then counted_once one tally else tally) else
    (if b then counted_once one tally else tally))
    ≡ (if b then counted_once one (if a then counted_once passage.Accepted tally else tally) else
    (if a then counted_once passage.Accepted tally else tally))
counts-commute true true passage.Accepted tally = refl
counts-commute true true passage.Put tally = refl
counts-commute true true passage.Reached tally = refl
counts-commute true true passage.Stored tally = refl
counts-commute true true passage.Given tally = refl
counts-commute true true passage.Off tally = refl
counts-commute true false one tally = refl
counts-commute false true one tally = refl
counts-commute false false one tally = refl

given-up-count : (a b : Bool) (one : Passage) (sending holding : ℕ) (tally : Tally)
    → (if a then tally_given_up sending holding (if b then counted_once one tally else tally) else
    (if b then counted_once one tally else tally))
    ≡ (if b then counted_once one (if a then tally_given_up sending holding tally else tally) else
    (if a then tally_given_up sending holding tally else tally))
given-up-count true true passage.Accepted sending holding tally = refl
given-up-count true true passage.Put sending holding tally = refl
given-up-count true true passage.Reached sending holding tally = refl
given-up-count true true passage.Off sending holding tally = refl
given-up-count true true passage.Stored sending holding tally = refl
given-up-count true true passage.Given sending holding tally = refl
given-up-count true false one sending holding tally = refl
given-up-count false true one sending holding tally = refl
given-up-count false false one sending holding tally = refl

accepted-commutes : (k host : ℕ) (frame : List ℕ) (one : Happening) (tally : Tally)
    → tallied_by k (tallied_by k tally one) (Accepted host frame) ≡ tallied_by k (tallied_by k tally (Accepted host frame)) one
accepted-commutes k host frame (Accepted at other) tally = counts-commute (k == host) (k == at) passage.Accepted tally
accepted-commutes k host frame (Put at other) tally = counts-commute (k == host) (k == at) passage.Put tally
accepted-commutes k host frame (Reached at other fate) tally = counts-commute (k == host) (k == at) (passage_by fate) tally
accepted-commutes k host frame (Given at socket other) tally = counts-commute (k == host) (k == at) passage.Given tally
accepted-commutes k host frame (GivenUp at sending holding) tally =
    sym (given-up-count (k == at) (k == host) passage.Accepted (length sending) (length holding) tally)
accepted-commutes k host frame _ tally = refl

accepted-first : (k host : ℕ) (frame : List ℕ) (list : List Happening) (tally : Tally)
    → tallied_by k (fold (tallied_by k) tally list) (Accepted host frame)
    ≡ fold (tallied_by k) (tallied_by k tally (Accepted host frame)) list
accepted-first k host frame [] tally = refl
accepted-first k host frame (one ∷ list) tally =
    accepted-first k host frame list (tallied_by k tally one)
    ∙ ap (λ (t : Tally). fold (tallied_by k) t list) (accepted-commutes k host frame one tally)

grows-as : (list : List Happening) (host : ℕ) (frame : List ℕ) (k : ℕ) (found : Option Tally)
    → option_map (tally_behind (Accepted host frame ∷ []) k) (option_map (tally_behind list k) found)
    ≡ option_map (tally_behind (Accepted host frame ∷ list) k) found
grows-as list host frame k None = refl
grows-as list host frame k (Some tally) = ap (λ (t : Tally). Some t) (accepted-first k host frame list tally)

-- What a reset gave up is counted last, but is listed between the happenings of its ticks.

grown-twice : (n m x : ℕ) → grown_by n (grown_by m x) ≡ grown_by m (grown_by n x)
grown-twice n m x = omega arith

given-up-twice : (a b : Bool) (s h t r : ℕ) (tally : Tally)
    → (if a then tally_given_up s h (if b then tally_given_up t r tally else tally) else (if b then tally_given_up t r tally else tally))
    ≡ (if b then tally_given_up t r (if a then tally_given_up s h tally else tally) else (if a then tally_given_up s h tally else tally))
given-up-twice true true s h t r tally =
    ap (λ (n : ℕ). record tally { sending = n; holding = grown_by h (grown_by r tally.holding); is_reset = true })
    (grown-twice s t tally.sending)
    ∙ ap (λ (n : ℕ). record tally { sending = grown_by t (grown_by s tally.sending); holding = n; is_reset = true })
    (grown-twice h r tally.holding)
given-up-twice true false s h t r tally = refl
given-up-twice false true s h t r tally = refl
given-up-twice false false s h t r tally = refl

given-up-commutes : (k host : ℕ) (sending holding : List (List ℕ)) (one : Happening) (tally : Tally)
    → tallied_by k (tallied_by k tally one) (GivenUp host sending holding)
    ≡ tallied_by k (tallied_by k tally (GivenUp host sending holding)) one
given-up-commutes k host sending holding (Accepted at frame) tally =
    given-up-count (k == host) (k == at) passage.Accepted (length sending) (length holding) tally
given-up-commutes k host sending holding (Put at frame) tally =
    given-up-count (k == host) (k == at) passage.Put (length sending) (length holding) tally
given-up-commutes k host sending holding (Reached at frame fate) tally =
    given-up-count (k == host) (k == at) (passage_by fate) (length sending) (length holding) tally
given-up-commutes k host sending holding (Given at socket frame) tally =
    given-up-count (k == host) (k == at) passage.Given (length sending) (length holding) tally
given-up-commutes k host sending holding (GivenUp at others held) tally =
    given-up-twice (k == host) (k == at) (length sending) (length holding) (length others) (length held) tally
given-up-commutes k host sending holding _ tally = refl

given-up-behind : (k host : ℕ) (sending holding : List (List ℕ)) (list : List Happening) (tally : Tally)
    → fold (tallied_by k) (tallied_by k tally (GivenUp host sending holding)) list
    ≡ tallied_by k (fold (tallied_by k) tally list) (GivenUp host sending holding)
given-up-behind k host sending holding [] tally = refl
given-up-behind k host sending holding (one ∷ list) tally =
    ap (λ (t : Tally). fold (tallied_by k) t list) (sym (given-up-commutes k host sending holding one tally))
    ∙ given-up-behind k host sending holding list (tallied_by k tally one)

given-up-last : (k host : ℕ) (one : FrameAnswer) (list : List Happening) (tally : Tally)
    → fold (tallied_by k) (fold (tallied_by k) tally (given_up_of host one)) list
    ≡ fold (tallied_by k) (fold (tallied_by k) tally list) (given_up_of host one)
given-up-last k host (answer.Reset sending holding on_after) list tally =
    given-up-behind k host sending.items holding.items list tally
given-up-last k host _ list tally = refl

reset-counts : (k host : ℕ) (one : FrameAnswer) (early stopping resting later : List Happening) (tally : Tally)
    → tally_behind ((early ++ (stopping ++ (resting ++ later))) ++ given_up_of host one) k tally
    ≡ tally_behind (early ++ Disabled host ∷ (stopping ++ (given_up_of host one ++ (resting ++ Enabled host ∷ later)))) k tally
reset-counts k host one early stopping resting later tally =
    let count : Tally → List Happening → Tally = λ t list. fold (tallied_by k) t list in
    let up = given_up_of host one in
    let first = count tally early in
    let second = count first stopping in
    let third = count second resting in
    fold-append (tallied_by k) tally (early ++ (stopping ++ (resting ++ later))) up
    ∙ ap (λ (t : Tally). count t up) (fold-append (tallied_by k) tally early (stopping ++ (resting ++ later))
    ∙ fold-append (tallied_by k) first stopping (resting ++ later) ∙ fold-append (tallied_by k) second resting later)
    ∙ sym (given-up-last k host one later third)
    ∙ ap (λ (t : Tally). count t later) (sym (given-up-last k host one resting second))
    ∙ sym (fold-append (tallied_by k) tally early (Disabled host ∷ (stopping ++ (up ++ (resting ++ Enabled host ∷ later))))
    ∙ fold-append (tallied_by k) first stopping (up ++ (resting ++ Enabled host ∷ later))
    ∙ fold-append (tallied_by k) second up (resting ++ Enabled host ∷ later)
    ∙ fold-append (tallied_by k) (count second up) resting (Enabled host ∷ later))

reset-grown : (k host : ℕ) (one : FrameAnswer) (early stopping resting later : List Happening) (found : Option Tally)
    → option_map (tally_behind ((early ++ (stopping ++ (resting ++ later))) ++ given_up_of host one) k) found
    ≡ option_map (tally_behind (early ++ Disabled host ∷ (stopping ++ (given_up_of host one ++ (resting ++ Enabled host ∷ later)))) k) found
reset-grown k host one early stopping resting later None = refl
reset-grown k host one early stopping resting later (Some tally) =
    ap (λ (t : Tally). Some t) (reset-counts k host one early stopping resting later tally)

none-more : (list : List Happening) (a b c : List Tally) → TalliesGrow list a b → TalliesGrow [] b c → TalliesGrow list a c
none-more list a b c ticks none =
    subst (λ (happened : List Happening). TalliesGrow happened a c) (append-nil list) (grows_join list [] a b c ticks none)

-- an accepted frame is counted last, but is listed first
accepted-last : (list : List Happening) (host : ℕ) (frame : List ℕ) (one : FrameAnswer) (a b c : List Tally) → TalliesGrow list a b
    → TalliesGrow (accepted_by_answer host frame one) b c → TalliesGrow (accepted_by_answer host frame one ++ list) a c
accepted-last list host frame (answer.Sent (Ok u)) a b c ticks sent = λ k.
    sent k ∙ ap (option_map (tally_behind (Accepted host frame ∷ []) k)) (ticks k) ∙ grows-as list host frame k (slice_get a k)
accepted-last list host frame (answer.Sent (Err error)) a b c ticks sent = none-more list a b c ticks sent
accepted-last list host frame _ a b c ticks sent = none-more list a b c ticks sent

alone : (one : Tick) (ticks : List TickTold) → map tick_in ticks ≡ one ∷ []
    → lone_tick_happenings one (map note_of ticks) ≡ flat_map happened_of ticks
alone one [] same = absurd (cc)
alone one (tick_happenings ∷ []) same =
    ap (λ (t : Tick). outcome_happenings (tick_host t) tick_happenings.outcome) (sym (first one tick_happenings.tick [] [] same))
    ∙ sym (append-nil (outcome_happenings (tick_host tick_happenings.tick) tick_happenings.outcome))
alone one (tick_happenings ∷ next ∷ later) same =
    let none : next.tick ∷ map tick_in later ≡ [] = rest one tick_happenings.tick [] (next.tick ∷ map tick_in later) same in
    absurd (cc)

-- a join or a leave is listed between the happenings of its ticks, and changes no count
around-grows : (middle : List Happening) → AreQuiet middle → (list : List Tick) (outcomes : List Numbered) (happened : List Happening)
    (a b c : List Tally) → tick_happenings list outcomes ≡ happened → TalliesGrow happened a b → TalliesGrow [] b c
    → TalliesGrow (tick_happenings_around middle list outcomes) a c
around-grows middle quiet list outcomes happened a b c same ticked none =
    grows_around middle (tick_happenings list outcomes) (tick_happenings_around middle list outcomes) (around_ticks middle list outcomes)
    quiet a c
    (subst (λ (said : List Happening). TalliesGrow said a c) (sym same) (none-more happened a b c ticked none))

reset-grows : (host : ℕ) (one : FrameAnswer) (ticked happened : List Happening) (a b c : List Tally)
    → ((happened ≡ ticked) × (given_up_of host one ≡ [])) ⊎ TellsReset host (given_up_of host one) ticked happened
    → TalliesGrow ticked a b → TalliesGrow (given_up_of host one) b c → TalliesGrow happened a c
reset-grows host one ticked happened a b c (inl (same, none)) ticks answers =
    subst (λ (list : List Happening). TalliesGrow list a c) (sym same)
    (none-more ticked a b c ticks (subst (λ (list : List Happening). TalliesGrow list b c) none answers))
reset-grows host one ticked happened a b c (inr between) ticks answers =
    let both = grows_join ticked (given_up_of host one) a b c ticks answers in
    let parts = subst (λ (list : List Happening). TalliesGrow (list ++ given_up_of host one) a c) between.ticks both in
    subst (λ (list : List Happening). TalliesGrow list a c) (sym between.all)
    (λ k. parts k ∙ reset-grown k host one between.early between.stopping between.resting between.later (slice_get a k))

event-grows : (one : Event) (reply : Reply) (ticks : List TickTold) (a b c : List Tally) → AreOfTicks one ticks
    → reply.outcomes.list ≡ map note_of ticks → IsInOrder one reply → TalliesGrow (flat_map happened_of ticks) a b
    → TalliesGrow (answered one reply.answer) b c → TalliesGrow (said one reply) a c
event-grows (event.Send host frame list) reply ticks a b c of_ticks outcomes order ticked answers =
    subst (λ (happened : List Happening). TalliesGrow (accepted_by_answer host frame.now reply.answer ++ happened) a c)
    (sym (ap (tick_happenings list.now) outcomes ∙ told_happened list.now ticks of_ticks))
    (accepted-last (flat_map happened_of ticks) host frame.now reply.answer a b c ticked answers)
event-grows (event.Recv host socket list) reply ticks a b c of_ticks outcomes order ticked answers =
    subst (λ (happened : List Happening). TalliesGrow (happened ++ given_by_answer host socket reply.answer) a c)
    (sym (ap (tick_happenings list.now) outcomes ∙ told_happened list.now ticks of_ticks))
    (grows_join (flat_map happened_of ticks) (given_by_answer host socket reply.answer) a b c ticked answers)
event-grows (event.Interrupt host list) reply ticks a b c of_ticks outcomes order ticked answers =
    subst (λ (happened : List Happening). TalliesGrow happened a c)
    (sym (ap (tick_happenings list.now) outcomes ∙ told_happened list.now ticks of_ticks))
    (none-more (flat_map happened_of ticks) a b c ticked answers)
event-grows (event.Reset host list) reply ticks a b c of_ticks outcomes order ticked answers =
    reset-grows host reply.answer (tick_happenings list.now reply.outcomes.list) (said (event.Reset host list) reply) a b c order
    (subst (λ (happened : List Happening). TalliesGrow happened a b)
    (sym (ap (tick_happenings list.now) outcomes ∙ told_happened list.now ticks of_ticks)) ticked) answers
event-grows (event.Join host group list) reply ticks a b c of_ticks outcomes order ticked answers =
    around-grows (joined_of host group reply.answer) (joins_quiet host group reply.answer) list.now reply.outcomes.list
    (flat_map happened_of ticks) a b c (ap (tick_happenings list.now) outcomes ∙ told_happened list.now ticks of_ticks) ticked answers
event-grows (event.Leave host group list) reply ticks a b c of_ticks outcomes order ticked answers =
    around-grows (left_by_answer host group reply.answer) (leaves_quiet host group reply.answer) list.now reply.outcomes.list
    (flat_map happened_of ticks) a b c (ap (tick_happenings list.now) outcomes ∙ told_happened list.now ticks of_ticks) ticked answers
event-grows (event.Tick one) reply ticks a b c of_ticks outcomes order ticked answers =
    subst (λ (happened : List Happening). TalliesGrow happened a c)
    (sym (ap (lone_tick_happenings one) outcomes ∙ alone one ticks of_ticks))
    (none-more (flat_map happened_of ticks) a b c ticked answers)

-- Only ticks put frames.

puts-accepted : (number host : ℕ) (frame : List ℕ) (one : FrameAnswer) → put_frames_in number (accepted_by_answer host frame one) ≡ []
puts-accepted number host frame (answer.Sent (Ok u)) = refl
puts-accepted number host frame (answer.Sent (Err error)) = refl
puts-accepted number host frame _ = refl

puts-given : (number host socket : ℕ) (one : FrameAnswer) → put_frames_in number (given_by_answer host socket one) ≡ []
puts-given number host socket (answer.Received (Ok frame)) = refl
puts-given number host socket (answer.Received (Err error)) = refl
puts-given number host socket _ = refl

around-puts : (number : ℕ) (middle : List Happening) → AreQuiet middle → (list : List Tick) (outcomes : List Numbered)
    (happened : List Happening) → tick_happenings list outcomes ≡ happened
    → put_frames_in number happened ≡ put_frames_in number (tick_happenings_around middle list outcomes)
around-puts number middle quiet list outcomes happened same =
    sym (puts_around middle (tick_happenings list outcomes) (tick_happenings_around middle list outcomes)
    (around_ticks middle list outcomes) quiet number
    ∙ ap (put_frames_in number) same)

puts-given-up : (number host : ℕ) (one : FrameAnswer) → put_frames_in number (given_up_of host one) ≡ []
puts-given-up number host (answer.Reset sending holding on_after) = refl
puts-given-up number host _ = refl

reset-puts : (number host : ℕ) (one : FrameAnswer) (ticked happened : List Happening)
    → ((happened ≡ ticked) × (given_up_of host one ≡ [])) ⊎ TellsReset host (given_up_of host one) ticked happened
    → put_frames_in number ticked ≡ put_frames_in number happened
reset-puts number host one ticked happened (inl (same, none)) = ap (put_frames_in number) (sym same)
reset-puts number host one ticked happened (inr between) =
    let of = put_frames_in number in
    let join = flat_map-append (put_frame_in number) in
    let early = between.early in
    let stopping = between.stopping in
    let resting = between.resting in
    let later = between.later in
    let up = given_up_of host one in
    ap of between.ticks ∙ join early (stopping ++ (resting ++ later))
    ∙ ap (λ (list : List KeptFrame). of early ++ list) (join stopping (resting ++ later)
    ∙ ap (λ (list : List KeptFrame). of stopping ++ list) (join resting later
    ∙ sym (join up (resting ++ Enabled host ∷ later)
    ∙ ap (λ (list : List KeptFrame). list ++ of (resting ++ Enabled host ∷ later)) (puts-given-up number host one)
    ∙ join resting (Enabled host ∷ later)))
    ∙ sym (join stopping (up ++ (resting ++ Enabled host ∷ later))))
    ∙ sym (join early (Disabled host ∷ (stopping ++ (up ++ (resting ++ Enabled host ∷ later)))))
    ∙ sym (ap of between.all)

event-puts : (number : ℕ) (one : Event) (reply : Reply) (ticks : List TickTold) → AreOfTicks one ticks
    → reply.outcomes.list ≡ map note_of ticks → IsInOrder one reply → put_frames_in number (flat_map happened_of ticks) ≡ put_frames_in
    number (said one reply)
event-puts number (event.Send host frame list) reply ticks of_ticks outcomes order =
    let of = put_frames_in number in
    let before = accepted_by_answer host frame.now reply.answer in
    sym (ap of (ap (tick_happenings list.now) outcomes ∙ told_happened list.now ticks of_ticks))
    ∙ sym (ap (λ (puts : List KeptFrame). puts ++ of (tick_happenings list.now reply.outcomes.list))
    (puts-accepted number host frame.now reply.answer))
    ∙ sym (flat_map-append (put_frame_in number) before (tick_happenings list.now reply.outcomes.list))
event-puts number (event.Recv host socket list) reply ticks of_ticks outcomes order =
    let of = put_frames_in number in
    let behind = given_by_answer host socket reply.answer in
    let ticked = tick_happenings list.now reply.outcomes.list in
    sym (ap of (ap (tick_happenings list.now) outcomes ∙ told_happened list.now ticks of_ticks))
    ∙ sym (append-nil (of ticked))
    ∙ sym (ap (λ (puts : List KeptFrame). of ticked ++ puts) (puts-given number host socket reply.answer))
    ∙ sym (flat_map-append (put_frame_in number) ticked behind)
event-puts number (event.Interrupt host list) reply ticks of_ticks outcomes order =
    sym (ap (put_frames_in number) (ap (tick_happenings list.now) outcomes ∙ told_happened list.now ticks of_ticks))
event-puts number (event.Reset host list) reply ticks of_ticks outcomes order =
    sym (ap (put_frames_in number) (ap (tick_happenings list.now) outcomes ∙ told_happened list.now ticks of_ticks))
    ∙ reset-puts number host reply.answer (tick_happenings list.now reply.outcomes.list) (said (event.Reset host list) reply) order
event-puts number (event.Join host group list) reply ticks of_ticks outcomes order =
    around-puts number (joined_of host group reply.answer) (joins_quiet host group reply.answer) list.now reply.outcomes.list
    (flat_map happened_of ticks) (ap (tick_happenings list.now) outcomes ∙ told_happened list.now ticks of_ticks)
event-puts number (event.Leave host group list) reply ticks of_ticks outcomes order =
    around-puts number (left_by_answer host group reply.answer) (leaves_quiet host group reply.answer) list.now reply.outcomes.list
    (flat_map happened_of ticks) (ap (tick_happenings list.now) outcomes ∙ told_happened list.now ticks of_ticks)
event-puts number (event.Tick one) reply ticks of_ticks outcomes order =
    sym (ap (put_frames_in number) (ap (lone_tick_happenings one) outcomes ∙ alone one ticks of_ticks))

-- The frames that sockets return are those in answers.

pub given-up-gives : (number host : ℕ) (one : FrameAnswer) → returned_in number (given_up_of host one) ≡ []
given-up-gives number host (answer.Reset sending holding on_after) = refl
given-up-gives number host _ = refl

answered-as : (number : ℕ) (one : Event) (reply : Reply)
    → returned_in number (answered one reply.answer) ≡ returned_in number (said one reply)
answered-as number (event.Send host frame list) reply =
    given-accepted number host frame.now reply.answer ∙ sym (given-said number (event.Send host frame list) reply)
answered-as number (event.Reset host list) reply =
    given-up-gives number host reply.answer ∙ sym (given-said number (event.Reset host list) reply)
answered-as number (event.Recv host socket list) reply = sym (given-said number (event.Recv host socket list) reply)
answered-as number one reply = sym (given-said number one reply)

none-returned : (more old new : List KeptFrame) → more ≡ [] → new ≡ old → FramesGrow more old new
none-returned more old new none same = same ∙ sym (append-nil old) ∙ ap (λ (list : List KeptFrame). old ++ list) (sym none)

-- The answer changes only the counts of hosts.
pub hosts-answer : (happened : List Happening) (old : Record) (was new : List Tally) → old.hosts.items ≡ was → length new ≡ old.hosts.len
    → returned_in old.number happened ≡ [] → TalliesGrow happened was new
    → NotesAnswer happened old (record old { hosts = with_items old.hosts new })
hosts-answer happened old was new was_is size none grows = record {
  number = refl;
  puts = refl;
  log = refl;
  before = λ sound. sound;
  hosts =
      subst (λ (list : List Tally). TalliesGrow happened list (with_items old.hosts new).items) (sym was_is)
      (subst (λ (list : List Tally). TalliesGrow happened was list) (sym (with_items_is old.hosts new size)) grows);
  returned = λ sound. none-returned (returned_in old.number happened) old.returned old.returned none refl;
}

pub answer-of : (one : Event) {event : Event} (given : FrameAnswer) {old new : Record} → one ≡ event
    → NotesAnswer (answered event given) old new → NotesAnswer (answered one given) old new
answer-of one given {old} {new} is noted = subst (λ (e : Event). NotesAnswer (answered e given) old new) (sym is) noted

-- The ticks of an event, paired with the outcomes in its reply, are the ticks that the observer was told.

paired-all : (ticks : List TickTold) → paired (map tick_in ticks) (map note_of ticks) ≡ ticks
paired-all [] = refl
paired-all (tick_happenings ∷ ticks) = ap (λ (later : List TickTold). tick_happenings ∷ later) (paired-all ticks)

told-ticks : (one : Event) (ticks : List TickTold) → AreOfTicks one ticks → paired (played_ticks one) (map note_of ticks) ≡ ticks
told-ticks one ticks of_ticks =
    ap (λ (played : List Tick). paired played (map note_of ticks)) (sym of_ticks) ∙ paired-all ticks

-- A line was recorded, unless memory was refused for it.

or-first : (a b : Bool) → (a || b) ≡ false → a ≡ false
or-first true b none = none
or-first false b none = refl

or-second : (a b : Bool) → (a || b) ≡ false → b ≡ false
or-second true b none = cc
or-second false b none = none

ok-holds : (result : Result (Unit {0}) AllocError) (P : Type 0) → is_err result ≡ false → OnOk result P → P
ok-holds (Ok u) P is holds = holds
ok-holds (Err error) P is holds = cc

pub line-noted : (one : Event) (given : FrameAnswer) (accesses : ℕ) (old : Record) (log : RunLog) (refused : Bool)
    (result : Result (Unit {0}) AllocError) → refused ≡ is_err result
    → OnOk result (log ≡ log_ended (place_in_run old.number old.line) one accesses given old.log)
    → NotesLine one accesses given old (record old { log = log; failed = old.failed || refused })
line-noted one given accesses old log refused result is ended = record {
  number = refl;
  hosts = refl;
  returned = refl;
  puts = refl;
  before = λ sound. or-first old.failed refused sound;
  log = λ sound. ok-holds result (log ≡ log_ended (place_in_run old.number old.line) one accesses given old.log)
      (sym is ∙ or-second old.failed refused sound) ended;
}

-- After the ticks, the line and the answer of an event are recorded, and the number has grown, the event with its reply is recorded.
pub records-reply : (one : Event) (given : FrameAnswer) (accesses : ℕ) (ticks : List TickTold) (begin ticked lined after : Record)
    (number : ℕ) → HearsTicks begin ticked ticks → AreOfTicks one ticks → number ≡ next_number ticked.number
    → NotesLine one accesses given ticked lined → NotesAnswer (answered one given) lined after
    → TellsReply RecordsReplies one (ending accesses given ticks) begin (record after { number = number })
records-reply one given accesses ticks begin ticked lined after number heard of_ticks next line answers =
    let reply : Reply = record { answer = given; accesses = accesses; outcomes = record { list = map note_of ticks; room = 0 } } in
    let new : Record = record after { number = number } in
    record {
      reply = reply;
      replies = record { answer = refl; accesses = refl; outcomes = refl };
      told = record {
        each = refl;
        recorded = λ sound order.
            let before = line.before (answers.before sound) in
            record {
              before = heard.before before;
              noted =
                  noted one reply begin new (next ∙ ap next_number heard.number)
                  (event-grows one reply ticks begin.hosts.items ticked.hosts.items new.hosts.items of_ticks refl order.0 heard.hosts
                  (subst (λ (hosts : List Tally). TalliesGrow (answered one given) hosts new.hosts.items) line.hosts answers.hosts))
                  (subst (λ (more : List KeptFrame). FramesGrow more begin.returned new.returned)
                  (ap (λ (n : ℕ). returned_in n (answered one given)) (line.number ∙ heard.number)
                  ∙ answered-as begin.number one reply)
                  (answers.returned sound
                  ∙ ap (λ (old : List KeptFrame). old ++ returned_in lined.number (answered one given)) (line.returned ∙ heard.returned)))
                  (subst (λ (puts : List KeptFrame). PutsGrow puts begin.puts new.puts)
                  (event-puts begin.number one reply ticks of_ticks refl order.0)
                  (answers.puts ∙ line.puts ∙ heard.puts before))
                  (record {
                    entries = (ticked.line, Ran one reply) ∷ [];
                    are = refl;
                    log = answers.log ∙ line.log (answers.before sound)
                        ∙ ap (λ (n : ℕ). log_ended (place_in_run n ticked.line) one accesses given ticked.log) heard.number
                        ∙ ap (log_ended (place_in_run begin.number ticked.line) one accesses given)
                        (heard.log before ∙ ap (fold log_heard begin.log) (sym (told-ticks one ticks of_ticks)));
                  });
            };
      };
    }
