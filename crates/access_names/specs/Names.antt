-- The names of targets. Registers have the names of chapter 13 "Register Descriptions"; the rest is our choice.
use Rattle.std.specs.Prelude.{◌==◌, ◌++◌, ℕ, [], Option, Some, None, codes, drop, false, if◌then◌else◌}
use Rattle.std.specs.Fmt.{decimal, digits}
use Rattle.adapter.specs.Table.{register_at}
use Rattle.text.specs.Words.{Text}
use Rattle.adapter.specs.model_types.register.RingRegister.{RingRegister}
use Rattle.adapter.specs.model_types.register.RingRegister.TheVariants.{BaseLow, BaseHigh, Length, Head, Tail}
use Rattle.adapter.specs.model_types.register.Register.{Register as AdapterRegister}
use Rattle.adapter.specs.model_types.register.Register.TheVariants.{Ctrl, Status, Eerd, Mdic, Vet, Icr, Ics, Ims, Imc, Rctl, Tctl}
use Rattle.adapter.specs.model_types.register.Register.TheVariants.{Pba, Receive, Transmit, Mpc, Gprc, Gptc, Rnbc, Mta, Ral, Rah, Vfta}
use Rattle.access_names.specs.declared.engine_fault.Engine.{Engine}
use Rattle.access_names.specs.declared.engine_fault.Engine.TheVariants as engines
use Rattle.access_names.specs.declared.name.TargetName.{TargetName}
use Rattle.access_names.specs.declared.target.Target.{Target}
use Rattle.access_names.specs.declared.target.Target.TheVariants.{Register, Descriptor, Memory}

-- a number in lower-case hexadecimal digits after 0x, without leading zeros
abbrev pub hexadecimal : ℕ → Text
hexadecimal number = codes "0x" ++ digits 16 false number

-- the text of a number, in brackets
abbrev pub bracketed : Text → Text
bracketed number = codes "[" ++ number ++ codes "]"

-- Registers.

-- the name of a register of a ring without its first letter, which is R for the receive ring and T for the transmit ring
abbrev pub ring_register : RingRegister → Text
ring_register BaseLow = codes "DBAL"
ring_register BaseHigh = codes "DBAH"
ring_register Length = codes "DLEN"
ring_register Head = codes "DH"
ring_register Tail = codes "DT"

-- the name of a register, or of the array that contains the register
abbrev pub manual_name : AdapterRegister → Text
manual_name Ctrl = codes "CTRL"
manual_name Status = codes "STATUS"
manual_name Eerd = codes "EERD"
manual_name Mdic = codes "MDIC"
manual_name Vet = codes "VET"
manual_name Icr = codes "ICR"
manual_name Ics = codes "ICS"
manual_name Ims = codes "IMS"
manual_name Imc = codes "IMC"
manual_name Rctl = codes "RCTL"
manual_name Tctl = codes "TCTL"
manual_name Pba = codes "PBA"
manual_name (Receive part) = codes "R" ++ ring_register part
manual_name (Transmit part) = codes "T" ++ ring_register part
manual_name Mpc = codes "MPC"
manual_name Gprc = codes "GPRC"
manual_name Gptc = codes "GPTC"
manual_name Rnbc = codes "RNBC"
manual_name (Mta word) = codes "MTA"
manual_name (Ral entry) = codes "RAL"
manual_name (Rah entry) = codes "RAH"
manual_name (Vfta word) = codes "VFTA"

-- the number of a register in its array, from 0, if the register is part of an array
abbrev pub array_index : AdapterRegister → Option ℕ
array_index (Mta word) = Some word
array_index (Ral entry) = Some entry
array_index (Rah entry) = Some entry
array_index (Vfta word) = Some word
array_index register = None

-- an index in brackets, or no text if there is no index
abbrev pub index_text : Option ℕ → Text
index_text (Some index) = bracketed (decimal index)
index_text None = []

-- The name of this register, with its index if it is in an array. If there is no register, the name is `register` and the hexadecimal
-- offset in brackets.
abbrev pub register_text : Option AdapterRegister → ℕ → Text
register_text (Some register) offset = manual_name register ++ index_text (array_index register)
register_text None offset = codes "register" ++ bracketed (hexadecimal offset)

-- Descriptors.

-- the name of an engine's ring
abbrev pub ring_text : Engine → Text
ring_text engines.Receive = codes "rx"
ring_text engines.Transmit = codes "tx"

-- + and a byte's number in its descriptor; for byte 0 no text, so byte 0 has the name of the descriptor
abbrev pub byte_text : ℕ → Text
byte_text byte = if byte == 0 then [] else codes "+" ++ decimal byte

-- the name of a target
abbrev pub target_text : Target → Text
target_text (Register offset) = register_text (register_at offset) offset
target_text (Descriptor ring index byte) = ring_text ring ++ bracketed (decimal index) ++ byte_text byte
target_text (Memory address) = hexadecimal address

-- the bytes of a name: the bytes of its buffer from `start` on
abbrev pub name_bytes : TargetName → Text
name_bytes name = drop name.start name.bytes
