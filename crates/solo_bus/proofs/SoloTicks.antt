-- Lemmas about `PlaysSoloTicks`: one tick, the loops over the ticks that wait, and what precedes an access.
use Rattle.std.proofs.Common.{length-append, length, ◌≡◌, ◌+◌, ◌<◌, ◌++◌, ◌∷◌, [], Bool, true, false, ℕ, List, Option, Some, drop, get_or}
use Rattle.std.proofs.Common.{map, min, slice_get, take, refl, sym, ap, subst, ◌∙◌, append_assoc}
use Rattle.std.proofs.lemmas.List.{append-nil, map-append, take_more}
use Rattle.std.proofs.lemmas.List.Elements.{All-append, All-cons}
use Rattle.rx_engine.specs.declared.arrival.Fate.{Fate}
use Rattle.adapter_model.specs.Outcomes.{put_by}
use Rattle.adapter_model.specs.Receiving.{IsFate}
use Rattle.adapter_model.specs.State.{IsAdapter}
use Rattle.adapter_model.specs.Steps.{Answers, ticked}
use Rattle.adapter_model.specs.declared.step.StepKind.{StepKind}
use Rattle.adapter_model.specs.declared.step.StepKind.TheVariants.{TxTake, TxPut, RxData, RxDone, EepromTick, PhyTick}
use Rattle.adapter_model.specs.Outcomes.{FrameOutcome}
use Rattle.adapter_model.specs.declared.outcome.Outcome.TheVariants.{Put}
use Rattle.eeprom.specs.Eerd.{is_pending}
use Rattle.mdic_phy.specs.Mdic.{has_work}
use Rattle.bus.specs.TickGroups.{behind_group, group_of, without_go}
use Rattle.bus.specs.Pasts.{Past}
use Rattle.bus.specs.LivelyBuses.{most_accesses}
use Rattle.solo_bus.specs.SoloBuses.{PlaysSoloTicks, Prepared, SoloState, wire_has_room, is_solo_go, lively_ticks, solo_after_arrival}
use Rattle.solo_bus.specs.SoloBuses.{solo_after_step}
use Rattle.solo_bus.specs.SoloBuses.{solo_tick_of}
use Rattle.solo_bus.specs.SoloLaws.{are_free_joins}
use Rattle.bus.specs.TrailLaws.{past_of-append, trail_joins}
use Rattle.bus.specs.Trails.{IsStep, past_of}
use Rattle.bus.specs.declared.event.Event.TheVariants.{Arrives, Steps}
use Rattle.solo_bus.specs.declared.solo_bus.SoloTick.{SoloTick}
use Rattle.solo_bus.specs.declared.solo_bus.SoloTick.TheVariants.{Arrive, Go, Step}
use Rattle.bus.proofs.Lists.{all-none}

pub plays_trans :
    (first later left left' : List SoloTick) (a b c : SoloState) → PlaysSoloTicks first left a b → PlaysSoloTicks later left' b c
    → PlaysSoloTicks (first ++ later) left' a c
plays_trans first later left left' a b c one two = record {
  events = one.events ++ two.events;
  are = All-append IsStep one.events two.events one.are two.are;
  trail = trail_joins one.events two.events a.world b.world c.world one.trail two.trail;
  played = map-append solo_tick_of one.events two.events
      ∙ ap (λ (ticks : List SoloTick). ticks ++ map solo_tick_of two.events) one.played
      ∙ ap (λ (ticks : List SoloTick). first ++ ticks) two.played;
  waiting = two.waiting;
  wire = record {
    free = are_free_joins one.events two.events (length a.wire) (length b.wire) (ap length one.wire.frames
        ∙ length-append a.wire (past_of one.events).put) one.wire.free two.wire.free;
    frames = two.wire.frames
        ∙ ap (λ (frames : List (List ℕ)). frames ++ (past_of two.events).put) one.wire.frames
        ∙ append_assoc a.wire (past_of one.events).put (past_of two.events).put
        ∙ ap (λ (frames : List (List ℕ)). a.wire ++ frames) (sym (ap (λ (past : Past). past.put) (past_of-append one.events two.events)));
  };
  lively = two.lively ∙ one.lively;
  accesses = two.accesses ∙ one.accesses;
}

front_rest : {X : Type 0} (xs : List X) (x : X) → slice_get xs 0 ≡ Some x → xs ≡ x ∷ drop 1 xs
front_rest [] x is = absurd (cc)
front_rest (y ∷ ys) x is = cc

put_alone : (kind : StepKind) (wire_free : Bool) (answer : FrameOutcome) (solo : SoloState)
    → Answers kind wire_free solo.world.memory solo.world.adapter answer → put_by answer ≡ (past_of (Steps kind wire_free answer ∷ [])).put
put_alone TxPut wire_free answer solo answers = sym (append-nil (put_by answer))
put_alone TxTake wire_free (Put frame) solo answers = absurd answers
put_alone TxTake wire_free _ solo answers = refl
put_alone RxData wire_free (Put frame) solo answers = absurd answers
put_alone RxData wire_free _ solo answers = refl
put_alone RxDone wire_free (Put frame) solo answers = absurd answers
put_alone RxDone wire_free _ solo answers = refl
put_alone EepromTick wire_free answer solo answers = ap put_by answers ∙ put_none (is_pending solo.world.adapter.eerd)
  where
    put_none : (works : Bool) → put_by (ticked works) ≡ []
    put_none true = refl
    put_none false = refl
put_alone PhyTick wire_free answer solo answers = ap put_by answers ∙ put_none (has_work solo.world.adapter.mdic solo.world.adapter.phy)
  where
    put_none : (works : Bool) → put_by (ticked works) ≡ []
    put_none true = refl
    put_none false = refl

pub plays_step :
    (a : SoloState) (kind : StepKind) (answer : FrameOutcome) (left : List SoloTick) → IsAdapter a.world.adapter
    → Answers kind (wire_has_room a) a.world.memory a.world.adapter answer
    → PlaysSoloTicks (Step kind ∷ []) left a (solo_after_step kind answer (record a { waiting = left }))
plays_step a kind answer left running answers =
    let event = Steps kind (wire_has_room a) answer in
    record {
      events = event ∷ [];
      are = All-cons IsStep event [] tt (all-none IsStep);
      trail = ((running, answers), refl);
      played = refl;
      waiting = refl;
      wire = record {
        free = (refl, tt);
        frames = ap (λ (frames : List (List ℕ)). a.wire ++ frames) (put_alone kind (wire_has_room a) answer a answers);
      };
      lively = refl;
      accesses = refl;
    }

pub plays_arrival :
    (a : SoloState) (frame : List ℕ) (fate : Fate) (left : List SoloTick) → IsAdapter a.world.adapter
    → IsFate a.world.adapter frame fate → PlaysSoloTicks (Arrive frame ∷ []) left a (solo_after_arrival fate frame
    (record a { waiting = left }))
plays_arrival a frame fate left running is =
    let event = Arrives frame fate in
    record {
      events = event ∷ [];
      are = All-cons IsStep event [] tt (all-none IsStep);
      trail = ((running, is), refl);
      played = refl;
      waiting = refl;
      wire = record { free = tt; frames = sym (append-nil a.wire) };
      lively = refl;
      accesses = refl;
    }

-- For a list of waiting ticks, a loop plays the ticks of `plays`, and those of `waits` wait afterwards. If the first tick isn't Go, it is
-- played.
pub record GoesOn (plays waits : List SoloTick → List SoloTick) : Type 0 where
  pub played : (tick : SoloTick) (later : List SoloTick) → is_solo_go tick ≡ false → plays (tick ∷ later) ≡ tick ∷ plays later
  pub left : (tick : SoloTick) (later : List SoloTick) → is_solo_go tick ≡ false → waits (tick ∷ later) ≡ waits later

-- From `a` to `s`, the loop has played `ticks`. In all, it plays these ticks, and then those that it plays of the ticks waiting in `s`.
pub record PlaysOn (plays waits : List SoloTick → List SoloTick) (a s : SoloState) : Type 0 where
  pub ticks : List SoloTick
  pub far : PlaysSoloTicks ticks s.waiting a s
  pub to_play : plays a.waiting ≡ ticks ++ plays s.waiting
  pub to_wait : waits a.waiting ≡ waits s.waiting

pub group_goes_on : GoesOn (group_of is_solo_go) (behind_group is_solo_go)
group_goes_on = record { played = played; left = left }
  where
    played : (tick : SoloTick) (later : List SoloTick) → is_solo_go tick ≡ false
        → group_of is_solo_go (tick ∷ later) ≡ tick ∷ group_of is_solo_go later
    played Go later is = absurd (cc)
    played (Step kind) later is = refl
    played (Arrive frame) later is = refl

    left : (tick : SoloTick) (later : List SoloTick) → is_solo_go tick ≡ false
        → behind_group is_solo_go (tick ∷ later) ≡ behind_group is_solo_go later
    left Go later is = absurd (cc)
    left (Step kind) later is = refl
    left (Arrive frame) later is = refl

-- The ticks that wait after a loop that plays all ticks: no tick.
abbrev pub none_left : List SoloTick → List SoloTick
none_left ticks = []

pub all_go_on : GoesOn (without_go is_solo_go) none_left
all_go_on = record { played = played; left = λ tick later is. refl }
  where
    played : (tick : SoloTick) (later : List SoloTick) → is_solo_go tick ≡ false
        → without_go is_solo_go (tick ∷ later) ≡ tick ∷ without_go is_solo_go later
    played Go later is = absurd (cc)
    played (Step kind) later is = refl
    played (Arrive frame) later is = refl

-- The loop plays one more tick, the first one that waits.
on_more :
    (plays waits : List SoloTick → List SoloTick) (a s b : SoloState) (tick : SoloTick) (left : List SoloTick) → GoesOn plays waits
    → PlaysOn plays waits a s → is_solo_go tick ≡ false → s.waiting ≡ tick ∷ left → b.waiting ≡ left
    → PlaysSoloTicks (tick ∷ []) b.waiting s b
    → PlaysOn plays waits a b
on_more plays waits a s b tick left on before isnt front behind one = record {
  ticks = before.ticks ++ tick ∷ [];
  far = plays_trans before.ticks (tick ∷ []) s.waiting b.waiting a s b before.far one;
  to_play =
      before.to_play
      ∙ ap (λ (ticks : List SoloTick). before.ticks ++ ticks) (ap plays front ∙ on.played tick left isnt
      ∙ ap (λ (ticks : List SoloTick). tick ∷ plays ticks) (sym behind))
      ∙ sym (append_assoc before.ticks (tick ∷ []) (plays b.waiting));
  to_wait = before.to_wait ∙ ap waits front ∙ on.left tick left isnt ∙ ap waits (sym behind);
}

-- The loop removes the first tick that waits, a step, and plays it.
pub step_on :
    (plays waits : List SoloTick → List SoloTick) (a s s' b : SoloState) (kind : StepKind) (answer : FrameOutcome) (next : Option SoloTick)
    (tick : SoloTick)
    → GoesOn plays waits → PlaysOn plays waits a s → next ≡ slice_get s.waiting 0 → next ≡ Some tick → tick ≡ Step kind
    → s' ≡ record s { waiting = drop 1 s.waiting } → IsAdapter s'.world.adapter
    → Answers kind (wire_has_room s') s'.world.memory s'.world.adapter answer → b ≡ solo_after_step kind answer s' → PlaysOn plays waits a b
step_on plays waits a s s' b kind answer next tick on before is some takes left running answers after =
    let front : s.waiting ≡ Step kind ∷ drop 1 s.waiting = front_rest s.waiting (Step kind) (sym is ∙ some ∙ ap Some takes) in
    let running_s : IsAdapter s.world.adapter = subst (λ (x : SoloState). IsAdapter x.world.adapter) left running in
    let answers_s : Answers kind (wire_has_room s) s.world.memory s.world.adapter answer = subst
    (λ (x : SoloState). Answers kind (wire_has_room x) x.world.memory x.world.adapter answer) left answers in
    let at : b ≡ solo_after_step kind answer (record s { waiting = drop 1 s.waiting }) = after ∙ ap (solo_after_step kind answer) left in
    subst (λ (x : SoloState). PlaysOn plays waits a x) (sym at)
    (on_more plays waits a s _ (Step kind) (drop 1 s.waiting) on before refl front refl
    (plays_step s kind answer (drop 1 s.waiting) running_s answers_s))

pub arrive_on :
    (plays waits : List SoloTick → List SoloTick) (a s s' b : SoloState) (frame bytes : List ℕ) (fate : Fate) (next : Option SoloTick)
    (tick : SoloTick)
    → GoesOn plays waits → PlaysOn plays waits a s → next ≡ slice_get s.waiting 0 → next ≡ Some tick → tick ≡ Arrive frame
    → bytes ≡ frame → s' ≡ record s { waiting = drop 1 s.waiting } → IsAdapter s'.world.adapter → IsFate s'.world.adapter bytes fate
    → b ≡ solo_after_arrival fate bytes s' → PlaysOn plays waits a b
arrive_on plays waits a s s' b frame bytes fate next tick on before is some takes same left running fates after =
    let front : s.waiting ≡ Arrive frame ∷ drop 1 s.waiting = front_rest s.waiting (Arrive frame) (sym is ∙ some ∙ ap Some takes) in
    let running_s : IsAdapter s.world.adapter = subst (λ (x : SoloState). IsAdapter x.world.adapter) left running in
    let fates_s : IsFate s.world.adapter frame fate = subst (λ (x : List ℕ). IsFate s.world.adapter x fate) same
    (subst (λ (x : SoloState). IsFate x.world.adapter bytes fate) left fates) in
    let at : b ≡ solo_after_arrival fate frame (record s { waiting = drop 1 s.waiting }) = after ∙ ap (solo_after_arrival fate bytes) left
    ∙ ap (λ (x : List ℕ). solo_after_arrival fate x (record s { waiting = drop 1 s.waiting })) same in
    subst (λ (x : SoloState). PlaysOn plays waits a x) (sym at)
    (on_more plays waits a s _ (Arrive frame) (drop 1 s.waiting) on before refl front refl
    (plays_arrival s frame fate (drop 1 s.waiting) running_s fates_s))

-- After the steps of the first `place` kinds, the step of the next kind is played.
pub kinds_on :
    (kinds : List StepKind) (place : ℕ) (other : StepKind) (a s b : SoloState) (answer : FrameOutcome) → place < length kinds
    → PlaysSoloTicks (map Step (take place kinds)) a.waiting a s → IsAdapter s.world.adapter
    → Answers (get_or kinds place other) (wire_has_room s) s.world.memory s.world.adapter answer
    → b ≡ solo_after_step (get_or kinds place other) answer s → PlaysSoloTicks (map Step (take (place + 1) kinds)) a.waiting a b
kinds_on kinds place other a s b answer inside before running answers after =
    let kind = get_or kinds place other in
    let first = map Step (take place kinds) in
    let step = plays_step s kind answer s.waiting running answers in
    let whole = plays_trans first (Step kind ∷ []) a.waiting s.waiting a s (solo_after_step kind answer s) before step in
    let more : first ++ Step kind ∷ [] ≡ map Step (take (place + 1) kinds) = sym (ap (map Step) (take_more kinds place other inside)
    ∙ map-append Step (take place kinds) (kind ∷ [])) in
    subst (λ (x : SoloState). PlaysSoloTicks (map Step (take (place + 1) kinds)) a.waiting a x) (sym after)
    (subst (λ (ticks : List SoloTick). PlaysSoloTicks ticks a.waiting a (solo_after_step kind answer s)) more
    (subst (λ (left : List SoloTick). PlaysSoloTicks (first ++ Step kind ∷ []) left a
    (solo_after_step kind answer s)) before.waiting whole))

-- The bus's own ticks, then the next group, then the count: together they are `Prepared`.
pub prepared_on :
    (a m g b : SoloState) → PlaysSoloTicks (lively_ticks a.lively) a.waiting a m
    → PlaysSoloTicks (group_of is_solo_go m.waiting) (behind_group is_solo_go m.waiting) m g
    → b ≡ record g { accesses = min (g.accesses + 1) most_accesses } → Prepared a b
prepared_on a m g b own group is =
    let group_a : PlaysSoloTicks (group_of is_solo_go a.waiting) (behind_group is_solo_go a.waiting) m g = subst
    (λ (ticks : List SoloTick). PlaysSoloTicks (group_of is_solo_go ticks) (behind_group is_solo_go ticks) m g) own.waiting group in
    let whole =
    plays_trans (lively_ticks a.lively) (group_of is_solo_go a.waiting) a.waiting (behind_group is_solo_go a.waiting) a m g own group_a in
    subst (λ (x : SoloState). Prepared a x) (sym is) (record {
      plays = record {
        events = whole.events;
        are = whole.are;
        trail = whole.trail;
        played = whole.played;
        waiting = whole.waiting;
        wire = record { free = whole.wire.free; frames = whole.wire.frames };
        lively = whole.lively;
        accesses = refl;
      };
      count = ap (λ (n : ℕ). min (n + 1) most_accesses) whole.accesses;
    })
