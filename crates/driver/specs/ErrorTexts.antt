-- The texts of errors (our choice).
use Rattle.std.specs.Prelude.{ℕ, List, codes}
use Rattle.driver.specs.declared.transmit.SendError.{SendError}
use Rattle.driver.specs.declared.transmit.SendError.TheVariants as send

-- the code and the name of the reason why a frame isn't sent
abbrev pub send_error_text : SendError → List ℕ
send_error_text send.TooShort = codes "E20 TooShort"
send_error_text send.TooLong = codes "E21 TooLong"
send_error_text send.RingFull = codes "E22 RingFull"
