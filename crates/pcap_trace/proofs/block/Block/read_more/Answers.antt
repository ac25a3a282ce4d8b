use Rattle.std.proofs.Common.{◌≡◌, ◌+◌, ◌-◌, ◌∙◌, take, ap, arith, length}
use Rattle.std.specs.Vec.{with_items}
use Rattle.std.proofs.lemmas.List.{with_items_is}
use Rattle.pcap_trace.proofs.Blocks.{length_more, read_more, still_whole}
use Rattle.pcap_trace.proofs.block.Block.read_more.Goals as goal

pub returns-clause-received : goal.returns-clause-received
returns-clause-received g c =
    let k = c.self.inside.end - c.self.inside.start in
    let moved = c.copy_within.new.self in
    let new = c.read_once_after.new.bytes in
    let front : take k new ≡ take k moved.items = c.in_ok-count.ensures.front ∙ ap (take k) c.as_mut_slice.ensures.value in
    let length_is : length new
    ≡ moved.len = omega (arith, c.read_once_after.auto.bytes, ap length c.as_mut_slice.ensures.value, c.as_mut_slice.ensures.len) in
    rw (← c.self.view_is)
    (read_more c.self.inside.bytes.items moved.items new
    (with_items moved new).items c.self.inside.start c.self.inside.end c.in_ok-count.count (g.S.Source.left c.args.source.now)
    (g.S.Source.left c.read_once_after.new.source) (omega arith)
    (omega arith) c.copy_within.ensures.items front c.in_ok-count.ensures.read (with_items_is moved new length_is))

pub invariant_of-self : goal.invariant_of-self
invariant_of-self g c =
    let new = c.read_once_after.new.bytes in
    let moved = c.copy_within.new.self in
    let same : length new ≡ moved.len =
    omega (arith, c.read_once_after.auto.bytes, ap length c.as_mut_slice.ensures.value, c.as_mut_slice.ensures.len) in
    still_whole moved new (c.self.inside.end - c.self.inside.start) same (omega (arith, c.copy_within.ensures.len)) (omega arith)

pub invariant_of-self-2 : goal.invariant_of-self-2
invariant_of-self-2 g c =
    let new = c.read_once_after.new.bytes in
    let moved = c.copy_within.new.self in
    let same : length new ≡ moved.len =
    omega (arith, c.read_once_after.auto.bytes, ap length c.as_mut_slice.ensures.value, c.as_mut_slice.ensures.len) in
    let whole : moved.len ≡ 327696 = omega (arith, c.copy_within.ensures.len) in
    still_whole moved new (c.self.inside.end - c.self.inside.start + c.in_ok-count.count) same whole
    (omega (arith, c.in_ok-count.ensures.fits, c.read_once_after.auto.bytes, same, whole))

pub returns-clause-more : goal.returns-clause-more
returns-clause-more g c =
    let new = c.read_once_after.new.bytes in
    let moved = c.copy_within.new.self in
    let same : length new ≡ moved.len =
    omega (arith, c.read_once_after.auto.bytes, ap length c.as_mut_slice.ensures.value, c.as_mut_slice.ensures.len) in
    rw (← c.self.view_is)
    (length_more c.self.inside.bytes.items (with_items moved new).items c.self.inside.start c.self.inside.end c.in_ok-count.count
    (omega arith) (omega arith)
    (omega (arith, c.in_ok-count.ensures.fits, c.read_once_after.auto.bytes, ap length (with_items_is moved new same))))
