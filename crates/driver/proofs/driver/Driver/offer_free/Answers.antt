use Rattle.std.proofs.Common.{false, ◌≡◌, ◌<◌, ◌-◌, ◌*◌, ◌++◌, ℕ, List, length, ap, subst, sym, ◌∙◌, arith}
use Rattle.dma_memory.specs.Layout.{Counts, ReceiveRing}
use Rattle.dma_memory.specs.LayoutLaws.{place-below_size}
use Rattle.adapter.proofs.Keeping.{keeps-on}
use Rattle.adapter.specs.Calls.{Ran, at, only}
use Rattle.adapter.specs.DriverState.{DriverState}
use Rattle.bring_up.specs.ClearedDescriptors.{clears_from}
use Rattle.driver.proofs.BufferQueue.{queue-split}
use Rattle.driver.proofs.FreeSlots.{offers-free}
use Rattle.driver.proofs.driver.Driver.offer_free.Goals as goal

-- At least one slot isn't staged.
pub overflow_sub-spare : goal.overflow_sub-spare
overflow_sub-spare g c =
    let receives = c.self.invariant.receives in
    omega (arith, receives.some_staged, receives.room, c.rx.ensures.count)

pub clear_descriptors-requires : goal.clear_descriptors-requires
clear_descriptors-requires g c =
    let receives = c.self.invariant.receives in
    record {
      memory =
          omega (
            arith,
            c.receive_slot.ensures,
            c.rx.ensures.count,
            receives.some_staged,
            receives.room,
            place-below_size c.args.self.now.layout ReceiveRing tt,
            ap (λ (s : DriverState). s.layout.rx) c.self.view_is,
            ap (λ (s : DriverState). s.layout.rx) c.stage_all.ensures.stages.stages.others,
            c.requires.memory,
            c.stage_all.ensures.keeps.extent,
          );
      addresses = omega (arith, c.receive_slot.ensures, c.rx.ensures.allowed.most, receives.some_staged, receives.room, c.rx.ensures.count);
    }

pub returns-clause-keeps : goal.returns-clause-keeps
returns-clause-keeps g c =
    let on = keeps-on g.B.Bus g.met.B.Bus.composes.lent_stays_on c.args.bus.now in
    on c.clear_descriptors.new.bus c.offer_all.new.bus
    (on c.stage_all.new.bus c.clear_descriptors.new.bus c.stage_all.ensures.keeps c.clear_descriptors.ensures.keeps)
    c.offer_all.ensures.keeps

pub returns-clause-offers : goal.returns-clause-offers
returns-clause-offers g c =
    let d0 = c.args.self.now in
    let staged = c.stage_all.ensures.stages in
    let n = length staged.numbers in
    let b1 = c.stage_all.new.bus in
    let b2 = c.clear_descriptors.new.bus in
    let all : length c.stage_all.new.self.staged ≡ n =
    ap (λ (s : DriverState). length s.staged) staged.stages.others
    ∙ ap (λ (list : List ℕ). length (list ++ staged.numbers)) c.requires.none_staged in
    let number : c.self.inside.staged ≡ n =
    sym (queue-split c.self.inside c.self.invariant.receives).staged ∙ ap (λ (s : DriverState). length s.staged) c.self.view_is ∙ all in
    let rx : c.rx.result ≡ d0.layout.rx =
    c.rx.ensures.count ∙ ap (λ (s : DriverState). s.layout.rx) c.self.view_is
    ∙ ap (λ (s : DriverState). s.layout.rx) staged.stages.others in
    let slot : c.receive_slot.result ≡ 16 * n = c.receive_slot.ensures ∙ ap (λ (k : ℕ). 16 * k) number in
    let rest : c.rx.result - c.self.inside.staged ≡ d0.layout.rx - n = omega (arith, rx, number) in
    let room : n < d0.layout.rx = omega (
      arith,
      c.stage_all.ensures.room,
      all,
      ap (λ (s : DriverState). s.layout.rx) staged.stages.others,
    ) in
    let Clears : DriverState → ℕ → ℕ → Type 0 = λ d first count.
    Ran g.B.Bus false (only (clears_from first count)) (at b1 d) (at b2 d) in
    offers-free g.B.Bus g.met.B.Bus.composes.joins c.args.bus.now b1 b2 c.offer_all.new.bus
    staged.numbers d0 c.stage_all.new.self c.offer_all.new.self c.requires.first c.requires.none_out c.requires.none_staged
    staged.stages c.stage_all.ensures.room c.stage_all.ensures.full c.offer_all.ensures.others c.stage_all.ensures.keeps
    c.clear_descriptors.ensures.keeps
    (λ d is oldest count same.
    let own : d.layout.rx ≡ d0.layout.rx = ap (λ (s : Counts). s.rx) same in
    subst (λ (first : ℕ). Clears d first (d0.layout.rx - n)) slot
    (subst (Clears d c.receive_slot.result) rest
    (c.clear_descriptors.ensures.spare false d n is oldest (omega (arith, count)) (omega (arith, rest, own, room)) slot)))
    c.offer_all.ensures.ran
