-- The bytes of an access fit the place of the access.
use Rattle.std.proofs.Common.{◌≡◌, ◌-◌, ℕ, Bool, List, Option, Some, None, Ok, Err, true, false, arith, if◌then◌else◌, length, refl}
use Rattle.std.proofs.lemmas.Bool.Decides.{nat_tests}
use Rattle.registers.specs.ConfigSpace.{registers_of}
use Rattle.played_adapter.specs.Playing.{has_bytes}
use Rattle.server_requests.specs.declared.refusal.Refusal.TheVariants as refusals
use Rattle.adapter_server.specs.Sessions.{FitsPlace, is_register, overlaps_registers, place_in, place_with}
use Rattle.adapter_server.specs.declared.session.AccessPlace.{AccessPlace}
use Rattle.adapter_server.specs.declared.session.AccessPlace.TheVariants.{Memory, Register}
use Rattle.adapter_server.specs.declared.session.Session.{Session}

is_true : (register memory meets : Bool) (offset : ℕ)
    → (if register then Ok (Register offset) else if memory then Ok Memory
    else if meets then Err refusals.Register else Err refusals.Address) ≡ Ok Memory → memory ≡ true
is_true true memory meets offset e = absurd (cc)
is_true false true meets offset e = refl
is_true false false true offset e = absurd (cc)
is_true false false false offset e = absurd (cc)

is_at : (register memory meets : Bool) (offset at : ℕ)
    → (if register then Ok (Register offset) else if memory then Ok Memory
    else if meets then Err refusals.Register else Err refusals.Address) ≡ Ok (Register at) → register ≡ true
is_at true memory meets offset at e = refl
is_at false true meets offset at e = absurd (cc)
is_at false false true offset at e = absurd (cc)
is_at false false false offset at e = absurd (cc)

in_memory : (registers : Option ℕ) (memory : Bool) (address count : ℕ) → place_with registers memory address count ≡ Ok Memory
    → memory ≡ true
in_memory (Some registers) memory address count place =
    is_true (is_register registers address count) memory (overlaps_registers registers address count) (address - registers) place
in_memory None true address count place = refl
in_memory None false address count place = absurd (cc)

four_bytes : (registers : Option ℕ) (memory : Bool) (address count offset : ℕ)
    → place_with registers memory address count ≡ Ok (Register offset) → count ≡ 4
four_bytes (Some registers) memory address count offset place =
    let is = is_at (is_register registers address count) memory (overlaps_registers registers address count) (address - registers) offset
    place in
    grind (arith, nat_tests, is)
four_bytes None true address count offset place = absurd (cc)
four_bytes None false address count offset place = absurd (cc)

pub memory_place : (a : Session) (address count : ℕ) → place_in a address count ≡ Ok Memory → has_bytes a.device address count ≡ true
memory_place a address count place = in_memory (registers_of a.function) (has_bytes a.device address count) address count place

pub register_place : (a : Session) (address count offset : ℕ) → place_in a address count ≡ Ok (Register offset) → count ≡ 4
register_place a address count offset place =
    four_bytes (registers_of a.function) (has_bytes a.device address count) address count offset place

pub place_takes : (place : AccessPlace) (a : Session) (address : ℕ) (bytes : List ℕ) → place_in a address (length bytes) ≡ Ok place
    → FitsPlace place address bytes a.device
place_takes (Register offset) a address bytes at = register_place a address (length bytes) offset at
place_takes Memory a address bytes at = memory_place a address (length bytes) at
