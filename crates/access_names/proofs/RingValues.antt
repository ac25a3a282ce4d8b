-- The value of a register of a ring, and of RCTL, by its offset.
use Rattle.std.proofs.Common.{◌≡◌, ℕ, Option, ap, ◌∙◌}
use Rattle.adapter.specs.Registers.{answer, answer_at, answer_of}
use Rattle.adapter.specs.Rings.{ring_answer}
use Rattle.adapter.specs.State.{AdapterState}
use Rattle.adapter.specs.Table.{IsInTable, row_of}
use Rattle.adapter.specs.TableLaws.{register_at-there}
use Rattle.adapter.specs.World.{World}
use Rattle.adapter.specs.model_types.register.Register.{Register}
use Rattle.adapter.specs.model_types.register.Register.TheVariants as registers
use Rattle.adapter.specs.model_types.register.RingRegister.{RingRegister}
use Rattle.access_names.specs.Rings.{register_of, registers_of_ring}
use Rattle.access_names.specs.declared.engine_fault.Engine.{Engine}
use Rattle.access_names.specs.declared.engine_fault.Engine.TheVariants.{Transmit, Receive}

answer-there : (register : Register) (adapter : AdapterState) → IsInTable register
    → answer_at (row_of register).offset adapter ≡ answer register adapter
answer-there register adapter within =
    ap (λ (found : Option Register). answer_of found adapter) (register_at-there register within)

pub answer-ring : (offset : ℕ) (engine : Engine) (register : RingRegister) (world : World)
    → offset ≡ (row_of (register_of engine register)).offset
    → answer_at offset world.adapter ≡ ring_answer register (registers_of_ring engine world)
answer-ring offset Transmit register world is =
    ap (λ (place : ℕ). answer_at place world.adapter) is
    ∙ answer-there (registers.Transmit register) world.adapter tt
answer-ring offset Receive register world is =
    ap (λ (place : ℕ). answer_at place world.adapter) is
    ∙ answer-there (registers.Receive register) world.adapter tt

pub answer-control : (world : World) → answer_at 0x100 world.adapter ≡ world.adapter.filter.rctl
answer-control world = answer-there registers.Rctl world.adapter tt
