use Rattle.std.proofs.Common.{Bool, true, false, ◌≡◌, sym, subst, ◌∙◌, arith}
use Rattle.descriptors.specs.declared.rx_desc.RxDesc.{RxDesc}
use Rattle.rx_engine.specs.Pieces.{IsLastSize}
use Rattle.driver.specs.Looks.{IsPartSize, IsSoundPart, ends}
use Rattle.driver.proofs.look.is_sound.Goals as goal

part-sound : (d : RxDesc) (last : Bool) → ends d ≡ last → d.errors ≡ 0 → IsPartSize last d.length → IsSoundPart d
part-sound d last is none size = record { no_errors = none; size = subst (λ (end : Bool). IsPartSize end d.length) (sym is) size }

part-size : (d : RxDesc) (last : Bool) → ends d ≡ last → IsSoundPart d → IsPartSize last d.length
part-size d last is sound = subst (λ (end : Bool). IsPartSize end d.length) is sound.size

pub returns-then-descriptor-ge1 : goal.returns-then-descriptor-ge1
returns-then-descriptor-ge1 c =
    let d = c.args.descriptor.now in
    let is : ends d ≡ true = sym c.is_ended.ensures ∙ c.if-is_ended.true in (
      λ fits. part-sound d true is c.if-descriptor-ne0.false
          (record { least = c.if-descriptor-ge1.true; most = grind (arith, fits, c.from.ensures) }),
      λ sound. let size : IsLastSize 256 d.length = part-size d true is sound in grind (arith, size.most, c.from.ensures),
    )

pub returns-else-descriptor-ge1 : goal.returns-else-descriptor-ge1
returns-else-descriptor-ge1 c =
    let d = c.args.descriptor.now in
    let is : ends d ≡ true = sym c.is_ended.ensures ∙ c.if-is_ended.true in (
      λ fits. absurd (grind (arith, fits, c.if-descriptor-ge1.false)),
      λ sound.
          let size : IsLastSize 256 d.length = part-size d true is sound in
          absurd (omega (arith, size.least, c.if-descriptor-ge1.false)),
    )

pub returns-else-is_ended : goal.returns-else-is_ended
returns-else-is_ended c =
    let d = c.args.descriptor.now in
    let is : ends d ≡ false = sym c.is_ended.ensures ∙ c.if-is_ended.false in (
      λ fits. part-sound d false is c.if-descriptor-ne0.false (grind (arith, fits, c.from-else-is_ended.ensures)),
      λ sound. let size : d.length ≡ 256 = part-size d false is sound in grind (arith, size, c.from-else-is_ended.ensures),
    )
