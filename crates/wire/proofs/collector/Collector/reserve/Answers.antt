use Rattle.std.proofs.Common.{◌≡◌, ◌≤◌, [], ap, arith, is_some, refl, true, length, sym, vec_capacity, ◌∙◌}
use Rattle.std.proofs.lemmas.List.{append-nil}
use Rattle.std.proofs.lemmas.Result.{IfOk-from_err}
use Rattle.wire.specs.Collecting.{CollectsTicks, HasPlaceForReply, HaveSameList}
use Rattle.wire.specs.declared.collector.Collector.{Collector}
use Rattle.wire.proofs.collector.Collector.reserve.Goals as goal

-- More room changes no collected outcome or reply.
has-nothing : (old new : Collector) → HaveSameList old new → new.current.now.outcomes.list ≡ old.current.now.outcomes.list
    → new.replies.now.items ≡ old.replies.now.items → vec_capacity old.replies.now ≤ vec_capacity new.replies.now
    → (HasPlaceForReply old → is_some new.current.now.frame ≡ true) → CollectsTicks old new []
has-nothing old new list outcomes replies room frame = record {
  same = list;
  outcomes = outcomes ∙ sym (append-nil old.current.now.outcomes.list);
  replies = replies;
  keeps_room = λ had.
      let place = had.place in
      let same : length new.replies.now.items ≡ length old.replies.now.items = ap length replies in
      record { place = omega (arith, place, same, room); frame = frame had };
}

pub returns-in_err-reserve : goal.returns-in_err-reserve
returns-in_err-reserve c =
    let failed = c.from_residual in
    record {
      nothing =
          has-nothing c.args.self.now _ (record { list = refl }) refl c.reserve.ensures.items c.reserve.ensures.capacity
          (λ had. had.frame);
      reply = IfOk-from_err failed.result _ failed.ensures.0;
      ticks = IfOk-from_err failed.result _ failed.ensures.0;
    }

pub returns-in_err-reserve-2 : goal.returns-in_err-reserve-2
returns-in_err-reserve-2 c =
    let failed = c.from_residual-in_err-reserve-2 in
    record {
      nothing =
          has-nothing c.args.self.now _ (record { list = refl }) c.reserve-2.ensures.stays c.reserve.ensures.items
          c.reserve.ensures.capacity (λ had. had.frame);
      reply = IfOk-from_err failed.result _ failed.ensures.0;
      ticks = IfOk-from_err failed.result _ failed.ensures.0;
    }

pub returns-in_err-with_room : goal.returns-in_err-with_room
returns-in_err-with_room c =
    let failed = c.from_residual-in_err-with_room in
    record {
      nothing =
          has-nothing c.args.self.now _ (record { list = refl }) c.reserve-2.ensures.stays c.reserve.ensures.items
          c.reserve.ensures.capacity (λ had. had.frame);
      reply = IfOk-from_err failed.result _ failed.ensures.0;
      ticks = IfOk-from_err failed.result _ failed.ensures.0;
    }

pub returns-in_ok-with_room : goal.returns-in_ok-with_room
returns-in_ok-with_room c = record {
  nothing =
      has-nothing c.args.self.now _ (record { list = refl }) c.reserve-2.ensures.stays c.reserve.ensures.items
      c.reserve.ensures.capacity (λ had. refl);
  reply = record { place = omega (arith, c.reserve.new.self.ok.0, c.in_ok-reserve.ensures.ok); frame = refl };
  ticks = c.in_ok-reserve-2.ensures.room;
}

pub returns-else-is_none : goal.returns-else-is_none
returns-else-is_none c = record {
  nothing =
      has-nothing c.args.self.now _ (record { list = refl }) c.reserve-2.ensures.stays c.reserve.ensures.items
      c.reserve.ensures.capacity (λ had. had.frame);
  reply = record { place = omega (arith, c.reserve.new.self.ok.0, c.in_ok-reserve.ensures.ok); frame = c.if-is_none.ensures };
  ticks = c.in_ok-reserve-2.ensures.room;
}
