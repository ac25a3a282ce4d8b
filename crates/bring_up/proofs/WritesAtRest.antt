-- Writes after which an adapter is still at rest. After a reset an adapter is at rest, and a read of ICR clears the recorded causes.
use Rattle.std.proofs.Common.{◌≡◌, ◌∷◌, [], ℕ, Some, refl, sym, ap, subst, ◌∙◌}
use Rattle.std.specs.List.{All}
use Rattle.std.proofs.lemmas.List.Elements.{All-cons}
use Rattle.adapter.specs.Table.{IsInTable, register_at, row_of}
use Rattle.adapter.specs.TableLaws.{register_at-there}
use Rattle.adapter.specs.World.{World, world_after_read, world_after_write}
use Rattle.adapter.specs.model_types.register.Register.{Register}
use Rattle.adapter.specs.model_types.register.Register.TheVariants.{Ctrl, Imc, Pba}
use Rattle.adapter.specs.AdaptersAtRest.{IsAtRest, IsElsewhere}
use Rattle.adapter.proofs.Lists.{all-none}
use Rattle.adapter.proofs.AdaptersAtRest.{rest_after_reset}
use Rattle.adapter.specs.Resets.{reset_world}
use Rattle.bring_up.specs.SettingSteps.{IsAside}
use Rattle.bring_up.specs.WrittenRegisters.{allocation_writes, enable_link_writes, write_at}
use Rattle.bring_up.proofs.Steps.{register-written}

pub aside-of : (register : Register) (value : ℕ) → IsInTable register → IsElsewhere (Some register)
    → All IsAside (write_at (row_of register).offset value ∷ [])
aside-of register value within elsewhere =
    All-cons IsAside (write_at (row_of register).offset value) [] (subst IsElsewhere (sym (register_at-there register within)) elsewhere)
    (all-none IsAside)

pub mask-aside : All IsAside (write_at 0x00D8 0xFFFFFFFF ∷ [])
mask-aside = aside-of Imc 0xFFFFFFFF tt tt

pub allocation-aside : (kilobytes : ℕ) → All IsAside (allocation_writes kilobytes)
allocation-aside kilobytes = aside-of Pba kilobytes tt tt

pub link-aside : All IsAside enable_link_writes
link-aside = aside-of Ctrl 0x60 tt tt

pub reset-written : (world : World) → world_after_write 0x0000 0x04000000 world ≡ reset_world world
reset-written = register-written Ctrl tt 0x04000000

pub reset-rests : (value : ℕ) (before after : World) → value ≡ 0x04000000 → after ≡ world_after_write 0x0000 value before → IsAtRest after
reset-rests value before after is written =
    subst IsAtRest (sym (written ∙ ap (λ (v : ℕ). world_after_write 0x0000 v before) is ∙ reset-written before)) (rest_after_reset before)

pub read-forgets : (world : World) → (world_after_read 0x00C0 world).adapter.causes.recorded ≡ 0
unfolding register_at
read-forgets world = refl
