-- Over a lively bus, a device with a right checksum is found if its link needs at most 2,000 ticks.
use Rattle.std.specs.Prelude.{◌*◌, ℕ, List, Result, Ok, Err, IfErr, IsOk}
use Rattle.std.proofs.Common.{refl}
use Rattle.eeprom.specs.Image.{HasRightSum}
use Rattle.adapter.specs.World.{World}
use Rattle.bring_up.specs.Device.{IsErrorOf, IsErrorOfLively}
use Rattle.bring_up.specs.EepromReading.{most_reads}
use Rattle.bring_up.specs.Link.{NeedsMoreThan}
use Rattle.bring_up.specs.declared.init_error.InitError.{InitError}
use Rattle.bring_up.specs.declared.init_error.InitError.TheVariants.{Checksum, EepromTimeout, Memory, NoLink, PhyTimeout}
use Rattle.bring_up.specs.declared.init_error.InitError.TheVariants as errors

-- No error is possible, because the condition of each error is false.
pub found-if-sound : (before : World) (accesses : ℕ) (result : Result (List ℕ) InitError)
    → IfErr result (λ error. IsErrorOf error before.adapter.image accesses) → IfErr result (λ error. IsErrorOfLively error before)
    → HasRightSum before.adapter.image → ¬ (NeedsMoreThan (2 * most_reads) before.adapter.phy.link) → IsOk result
found-if-sound before accesses (Ok image) why lively sum soon = refl
found-if-sound before accesses (Err EepromTimeout) why lively sum soon = absurd lively
found-if-sound before accesses (Err Checksum) why lively sum soon = absurd (why sum)
found-if-sound before accesses (Err PhyTimeout) why lively sum soon = absurd lively
found-if-sound before accesses (Err NoLink) why lively sum soon = absurd (soon lively.1)
found-if-sound before accesses (Err Memory) why lively sum soon = absurd why
found-if-sound before accesses (Err errors.Config) why lively sum soon = absurd why
