use Rattle.std.proofs.Common.{◌*◌, ◌/◌, ◌^◌, ℕ, ap, ◌∙◌}
use Rattle.std.specs.Prelude.{bit_and}
use Rattle.adapter.specs.Registers.{after_write}
use Rattle.receive_lane.proofs.Writes.{wrote-ring}
use Rattle.receive_lane.proofs.lane.write_ring.Goals as goal

pub returns : goal.returns
returns c =
    let state = c.args.adapter.now in
    let base = c.receive_ring-base.ensures in
    let slots = c.from.ensures ∙ c.rx.ensures.count ∙ c.requires in
    let first = c.write.ensures.state ∙ ap (λ (b : ℕ). after_write 0x2800 (bit_and b 0xFFFFFFFF) state) base in
    let second = c.write-2.ensures.state ∙ ap (λ (b : ℕ). after_write 0x2804 (b / 2 ^ 32) c.write.new.self) base
    ∙ ap (after_write 0x2804 0) first in
    let third = c.write-3.ensures.state ∙ ap (λ (n : ℕ). after_write 0x2808 (16 * n) c.write-2.new.self) slots
    ∙ ap (after_write 0x2808 128) second in
    let fourth = c.write-4.ensures.state ∙ ap (after_write 0x2810 0) third in
    c.write-5.ensures.state ∙ ap (λ (n : ℕ). after_write 0x2818 n c.write-4.new.self) c.from-2.ensures ∙ ap (after_write 0x2818 7) fourth
    ∙ wrote-ring state
