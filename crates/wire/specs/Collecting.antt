-- What the collector of replies stores (our choice).
use Rattle.std.proofs.Common.{◌≡◌, ◌<◌, ◌++◌, [], ℕ, List, is_some, length, true, vec_capacity, refl, sym, ap, ◌∙◌, append_assoc}
use Rattle.std.proofs.lemmas.List.{append-nil}
use Rattle.stations.specs.Outcomes.{Collects, room_of}
use Rattle.stations.specs.OutcomesLaws.{collects_join, collects_none}
use Rattle.stations.specs.ToldTicks.{ComposesTold, TickTold}
use Rattle.network_plan.specs.declared.event.Event.{Event}
use Rattle.network_plan.specs.declared.reply.Reply.{Reply}
use Rattle.wire.specs.RunObservers.{ComposesRuns}
use Rattle.wire.specs.declared.collector.Collector.{Collector}

-- The collector has room for one more reply, and memory for the frame that this reply may contain.
pub record HasPlaceForReply (now : Collector) : Type 0 where
  pub place : length now.replies.now.items < vec_capacity now.replies.now
  pub frame : is_some now.current.now.frame ≡ true

-- Both collectors append to the same list.
pub record HaveSameList (old new : Collector) : Type 0 where
  pub list : new.replies.ghost_name ≡ old.replies.ghost_name

-- The outcomes of these ticks were collected for the next reply. No reply was added, and the room for the next reply
-- was kept.
pub record CollectsTicks (old new : Collector) (ticks : List TickTold) : Type 0 where
  pub outcomes : Collects old.current.now.outcomes new.current.now.outcomes ticks
  pub same : HaveSameList old new
  pub replies : new.replies.now.items ≡ old.replies.now.items
  pub keeps_room : HasPlaceForReply old → HasPlaceForReply new

-- These replies were appended. No outcome is left for the next reply.
pub record AppendsReplies (replies : List Reply) (old new : Collector) : Type 0 where
  pub same : HaveSameList old new
  pub appended : new.replies.now.items ≡ old.replies.now.items ++ replies
  pub none_left : new.current.now.outcomes.list ≡ []

-- If no outcome was left at the beginning, these replies were appended, and no outcome is left, whatever the events
-- were.
abbrev pub CollectsReplies : Collector → Collector → List Event → List Reply → Type 0
CollectsReplies old new events replies = old.current.now.outcomes.list ≡ [] → AppendsReplies replies old new

-- The number of further outcomes for which the collector has room.
abbrev pub room_in : Collector → ℕ
room_in now = room_of now.current.now.outcomes

-- The collector is ready for the answer of an event; the event doesn't matter.
abbrev pub IsReadyToCollect : Collector → Event → Type 0
IsReadyToCollect now event = HasPlaceForReply now

same_on : (a b c : Collector) → HaveSameList a b → HaveSameList b c → HaveSameList a c
same_on a b c one two = record { list = two.list ∙ one.list }

-- Collecting outcomes obeys the law of an observer (`composes`).
pub ticks_composes : ComposesTold CollectsTicks
ticks_composes = record {
  stays = λ a. record {
    same = record { list = refl };
    outcomes = collects_none a.current.now.outcomes;
    replies = refl;
    keeps_room = λ room. room;
  };
  joins = λ a b c first later one two. record {
    same = same_on a b c one.same two.same;
    outcomes = collects_join a.current.now.outcomes b.current.now.outcomes c.current.now.outcomes first later one.outcomes two.outcomes;
    replies = two.replies ∙ one.replies;
    keeps_room = λ room. two.keeps_room (one.keeps_room room);
  };
}

-- Collecting replies obeys the law of an observer of a run (`composes_runs`).
pub replies_compose : ComposesRuns CollectsTicks CollectsReplies IsReadyToCollect
replies_compose = record {
  quiet = λ a b heard empty. record {
    same = heard.same;
    appended = heard.replies ∙ sym (append-nil a.replies.now.items);
    none_left = heard.outcomes ∙ append-nil a.current.now.outcomes.list ∙ empty;
  };
  joins = λ a b c events later replies others one two empty.
      let first = one empty in
      let then = two first.none_left in
      record {
        same = same_on a b c first.same then.same;
        appended =
            then.appended
            ∙ ap (λ (list : List Reply). list ++ others) first.appended
            ∙ append_assoc a.replies.now.items replies others;
        none_left = then.none_left;
      };
  keeps_room = λ a b event told heard room. heard.keeps_room room;
}
