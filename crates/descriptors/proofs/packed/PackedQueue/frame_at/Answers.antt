use Rattle.std.proofs.Common.{◌≡◌, ◌<◌, ◌≤◌, ◌+◌, ◌-◌, ◌∙◌, ℕ, List, length, take, drop, sym, ap, arith}
use Rattle.std.specs.Prelude.{option_copied, slice_get, Some}
use Rattle.std.proofs.lemmas.Option.{slice_get-get_or}
use Rattle.descriptors.specs.Packed.{PackedFrames, total}
use Rattle.descriptors.proofs.Cut.{frame-at, total-more, total-part}
use Rattle.descriptors.proofs.PackedLengths.{below, copied_some}
use Rattle.descriptors.proofs.packed.PackedQueue.frame_at.Goals as goal

pub unwrap-requires : goal.unwrap-requires
unwrap-requires c =
    let within = below c.self.inside c.args.self.now c.args.index c.self.view_is c.requires in
    let here : c.loop-before.before < length c.self.inside.lengths.items = omega (arith, within, c.loop-before-test.true) in
    copied_some _ _ (c.get.ensures ∙ slice_get-get_or _ _ 0 here)

pub loop-before-preserved : goal.loop-before-preserved
loop-before-preserved c =
    let some : slice_get c.self.inside.lengths.items c.loop-before.before ≡ Some c.unwrap.result.now =
    sym c.get.ensures ∙ ap option_copied c.unwrap.ensures in
    let more = total-more c.self.inside.lengths.items c.loop-before.before c.unwrap.result.now some in
    omega (arith, more, c.loop-before.invariant, c.from-start.ensures)

pub unwrap-requires-2 : goal.unwrap-requires-2
unwrap-requires-2 c =
    let within = below c.self.inside c.args.self.now c.args.index c.self.view_is c.requires in
    copied_some _ _ (c.get-2.ensures ∙ slice_get-get_or _ _ 0 within)

begins : (first start before index : ℕ) (ns : List ℕ) → start ≡ first + total (take before ns) → index ≤ before → before ≤ index
    → start ≡ first + total (take index ns)
begins first start before index ns is last within =
    let same : before ≡ index = omega (arith, last, within) in
    is ∙ ap (λ (i : ℕ). first + total (take i ns)) same

pub slice_bounds-result-end : goal.slice_bounds-result-end
slice_bounds-result-end c =
    let queue = c.self.inside in
    let ns = queue.lengths.items in
    let some : slice_get ns c.args.index ≡ Some c.unwrap-2.result.now = sym c.get-2.ensures ∙ ap option_copied c.unwrap-2.ensures in
    omega (
      arith,
      begins queue.first c.loop-before.start c.loop-before.before c.args.index ns c.loop-before.invariant c.loop-before-test.false
          c.loop-before.auto.before-end,
      total-more ns c.args.index c.unwrap-2.result.now some,
      total-part ns (c.args.index + 1),
      c.from-length.ensures,
      c.self.invariant.end_is,
      c.self.invariant.fits,
      ap length c.as_slice.ensures.value,
    )

pub returns : goal.returns
returns c =
    let queue = c.self.inside in
    let ns = queue.lengths.items in
    let n = c.unwrap-2.result.now in
    let some : slice_get ns c.args.index ≡ Some n = sym c.get-2.ensures ∙ ap option_copied c.unwrap-2.ensures in
    let begin = begins queue.first c.loop-before.start c.loop-before.before c.args.index ns c.loop-before.invariant c.loop-before-test.false
    c.loop-before.auto.before-end in
    let long : c.loop-before.start + c.from-length.result - c.loop-before.start ≡ n = omega (arith, c.from-length.ensures) in
    ap (λ (q : PackedFrames). slice_get q.frames c.args.index) (sym c.self.view_is)
    ∙ frame-at ns queue.bytes.items queue.first c.loop-before.start c.args.index n some begin
    ∙ ap (λ (bytes : List ℕ). Some (take n (drop c.loop-before.start bytes))) (sym c.as_slice.ensures.value)
    ∙ ap (λ (k : ℕ). Some (take k (drop c.loop-before.start c.as_slice.result.now))) (sym long)
