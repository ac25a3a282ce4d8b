-- A shift and a mask select bytes of a dword.
use Rattle.std.proofs.Common.{◌≡◌, ℕ, ◌*◌, ◌^◌, ◌/◌, bit_and}
use Rattle.std.proofs.lemmas.Nat.{and_mask}
use Rattle.registers.specs.declared.port_width.PortWidth.{PortWidth}
use Rattle.registers.specs.Bytes.{number_from, ones_of, width_size}

pub masked : (word first ones : ℕ) (width : PortWidth) → ones ≡ ones_of width
    → bit_and (word / 2 ^ (8 * first)) ones ≡ number_from first width word
masked word first ones width is = rw is (and_mask (word / 2 ^ (8 * first)) (8 * width_size width))
