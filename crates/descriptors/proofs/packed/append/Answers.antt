use Rattle.std.proofs.Common.{◌-◌, ◌++◌, ℕ, List, length, refl, ap, ◌∙◌}
use Rattle.descriptors.proofs.Written.{bytes-appended}
use Rattle.descriptors.proofs.packed.append.Goals as goal

pub returns-clause-appended : goal.returns-clause-appended
returns-clause-appended c =
    let count = c.args.end - c.args.first in
    let frame = c.args.frame.now in
    let moved = c.make_room-begins.new.bytes in
    rw c.write_at.ensures
    (bytes-appended moved frame c.make_room-begins.result count (length frame) refl c.make_room-begins.ensures.room
    ∙ ap (λ (list : List ℕ). list ++ frame) c.make_room-begins.ensures.same)
