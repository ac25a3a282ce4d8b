use Rattle.std.proofs.Common.{false, ap, arith, length, subst, sym, ◌∙◌}
use Rattle.server_requests.specs.LinesRead.{BothKnown, IsNextLine, TakesPart}
use Rattle.server_requests.specs.Texts.{Text}
use Rattle.server_requests.specs.declared.line_reader.NextLine.{NextLine}
use Rattle.server_requests.specs.declared.line_reader.Part.{Part}
use Rattle.server_requests.proofs.ReadingLines.{Reads, empty_no, empty_yes, reads_end, reads_last, reads_more, reads_none}
use Rattle.server_requests.proofs.ReadingLines.{reads_rest}
use Rattle.server_requests.proofs.line_reader.next_line.Goals as goal

pub loop-turn-init : goal.loop-turn-init
loop-turn-init g c =
    let now = g.R.Read.remaining c.args.reader.now in
    record {
      room = omega (arith, c.clear.ensures.capacity, c.requires);
      fits = omega (arith, ap length c.clear.ensures.items);
      got = subst (λ (line : Text). BothKnown now now (Reads line false)) (sym c.clear.ensures.items) (reads_none now);
    }

pub returns-then-is_empty-clause-next : goal.returns-then-is_empty-clause-next
returns-then-is_empty-clause-next g c =
    let left = g.R.Read.remaining in
    let new = c.take_part.new.line in
    let takes = subst (λ (part : Part). BothKnown (left c.loop-turn.reader) (left c.take_part.new.reader)
    (TakesPart part c.loop-turn.line.items new.items)) c.in-Ok-None.field-0-is c.in-Ok-None.ensures.ok in
    reads_end c.loop-turn.line.items new.items c.loop-turn.is_long (left c.args.reader.now) (left c.loop-turn.reader)
    (left c.take_part.new.reader) (empty_yes _ _ (sym c.is_empty.ensures ∙ c.if-is_empty.true) (omega (arith, new.ok.0)))
    c.loop-turn.invariant.got takes

pub returns-else-is_empty-clause-next : goal.returns-else-is_empty-clause-next
returns-else-is_empty-clause-next g c =
    let left = g.R.Read.remaining in
    let new = c.take_part.new.line in
    let takes = subst (λ (part : Part). BothKnown (left c.loop-turn.reader) (left c.take_part.new.reader)
    (TakesPart part c.loop-turn.line.items new.items)) c.in-Ok-None.field-0-is c.in-Ok-None.ensures.ok in
    subst (λ (next : NextLine). IsNextLine next new.items (left c.args.reader.now) (left c.take_part.new.reader))
    (sym c.whole_or_long.ensures)
    (reads_rest c.loop-turn.line.items new.items c.loop-turn.is_long (left c.args.reader.now) (left c.loop-turn.reader)
    (left c.take_part.new.reader) (empty_no _ _ (sym c.is_empty.ensures ∙ c.if-is_empty.false) (omega (arith, new.ok.0)))
    c.loop-turn.invariant.got takes)

pub returns-in-Ok-Last-clause-next : goal.returns-in-Ok-Last-clause-next
returns-in-Ok-Last-clause-next g c =
    let left = g.R.Read.remaining in
    let new = c.take_part.new.line in
    let last = c.in-Ok-Last in
    let takes = subst (λ (part : Part). BothKnown (left c.loop-turn.reader) (left c.take_part.new.reader)
    (TakesPart part c.loop-turn.line.items new.items)) last.field-0-is last.ensures.ok in
    subst (λ (next : NextLine). IsNextLine next new.items (left c.args.reader.now) (left c.take_part.new.reader))
    (sym c.whole_or_long-in-Ok-Last.ensures)
    (reads_last c.loop-turn.line.items new.items c.loop-turn.is_long last.more (left c.args.reader.now) (left c.loop-turn.reader)
    (left c.take_part.new.reader) c.loop-turn.invariant.got takes)

pub loop-turn-preserved-in-Ok-More : goal.loop-turn-preserved-in-Ok-More
loop-turn-preserved-in-Ok-More g c =
    let left = g.R.Read.remaining in
    let mid = left c.loop-turn.reader in
    let after = left c.take_part.new.reader in
    let old = c.loop-turn.line.items in
    let new = c.take_part.new.line.items in
    let more = c.in-Ok-More in
    record {
      room = c.take_part.ensures.room;
      fits = c.take_part.ensures.fits;
      got = reads_more old new c.loop-turn.is_long more.more (left c.args.reader.now) mid after c.loop-turn.invariant.got
          (subst (λ (part : Part). BothKnown mid after (TakesPart part old new)) more.field-0-is more.ensures.ok);
    }
