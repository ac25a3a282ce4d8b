use Rattle.std.proofs.Common.{◌≡◌, ◌++◌, [], Global, List, Vec, ap, sym, take, ◌∙◌}
use Rattle.std.proofs.lemmas.Result.{IfErr-weaker, on_ok_weaker}
use Rattle.host_calls.specs.Networks.{NetworkState}
use Rattle.network_plan.specs.declared.event.Event.{Event}
use Rattle.network_plan.specs.declared.reply.Reply.{Reply}
use Rattle.wire.specs.Collecting.{CollectsReplies}
use Rattle.wire.specs.Runs.{RunTold, RunsTo}
use Rattle.wire.specs.declared.collector.Collector.{Collector}
use Rattle.wire.proofs.lan.Lan.run.Goals as goal

-- what a collector without outcomes appends to its list in a run; afterwards the list is `behind`
run-collected : (events : List Event) (old new : NetworkState) (from to : Collector) (behind : Vec Reply Global)
    → from.current.now.outcomes.list ≡ [] → (from.replies.ghost_name ≡ to.replies.ghost_name → behind ≡ to.replies.now)
    → RunTold CollectsReplies events old new from to → RunsTo old events from.replies.now.items behind.items new
run-collected events old new from to behind none is ran =
    let appends = ran.told none in
    let before = from.replies.now.items in
    record {
      replies = ran.runs.replies;
      appended =
          ap (λ (replies : Vec Reply Global). replies.items) (is (sym appends.same.list))
          ∙ appends.appended
          ∙ ap (λ (list : List Reply). before ++ list) ran.runs.appended;
      states = ran.runs.states;
      hosts = ran.runs.hosts;
      delivers = ran.runs.delivers;
    }

pub returns : goal.returns
returns c =
    let old = c.args.self.now in
    let new = c.play.new.self in
    let to = c.play.new.observer in
    let behind = c.replies-1.given in
    record {
      ok =
          on_ok_weaker c.play.result (run-collected c.args.events.now old new _ to behind.0 c.new.ensures.none behind.1)
          c.play.ensures.ok;
      stopped =
          IfErr-weaker c.play.result _ _ (λ stopped told. (
            told.0,
            run-collected (take stopped.done c.args.events.now) old new _ to behind.0 c.new.ensures.none behind.1 told.1,
          )) c.play.ensures.stopped;
    }
