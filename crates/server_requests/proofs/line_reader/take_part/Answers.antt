use Rattle.std.proofs.Common.{◌+◌, ◌<◌, ◌≤◌, length, arith, subst}
use Rattle.std.proofs.BufReadLemmas.{Consumes_shown}
use Rattle.std.specs.Io.BufRead.{FillKeeps}
use Rattle.server_requests.proofs.ReadingLines.{part_last, part_more}
use Rattle.server_requests.proofs.line_reader.take_part.Goals as goal

pub returns-then-count-held-clause-ok : goal.returns-then-count-held-clause-ok
returns-then-count-held-clause-ok g c =
    let left = g.R.Read.remaining in
    let count = c.length_before_feed-count in
    let rested = c.fill_buf.follows.lender-at-none in
    let filled = subst (FillKeeps _ (left rested) (g.R.BufRead.consumable_len rested)) c.in-Ok.is c.fill_buf.follows.holds-at-none in
    let moved = Consumes_shown _ _ _ _ c.in-Ok.held.now count.result count.ensures.bound c.in-Ok.ensures.front c.in-Ok.ensures.end
    filled.0 filled.1 c.consume.ensures.bytes in
    part_more _ _ _ _ _ _ count.ensures.before moved.0 c.push_bytes-is_long.ensures.added

pub returns-clause-ok : goal.returns-clause-ok
returns-clause-ok g c =
    let left = g.R.Read.remaining in
    let count = c.length_before_feed-count in
    let rested = c.fill_buf.follows.lender-at-none in
    let filled = subst (FillKeeps _ (left rested) (g.R.BufRead.consumable_len rested)) c.in-Ok.is c.fill_buf.follows.holds-at-none in
    let below : count.result < length c.in-Ok.held.now = omega (arith, count.ensures.bound, c.if-count-held.false) in
    let within : count.result + 1 ≤ length c.in-Ok.held.now = omega (arith, below) in
    let moved = Consumes_shown _ _ _ _ c.in-Ok.held.now (count.result + 1) within c.in-Ok.ensures.front c.in-Ok.ensures.end
    filled.0 filled.1 c.consume-2.ensures.bytes in
    part_last _ _ _ _ _ c.in-Ok.held.now count.result below (count.ensures.feed below) count.ensures.before moved.0
    c.push_bytes-is_long.ensures.added
