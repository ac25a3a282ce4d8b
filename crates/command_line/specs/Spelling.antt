-- The texts that spell the values of options: groups, numbers and links. All of this is our choice, except the group bit, the width of a
-- VLAN identifier and the possible numbers of kilobytes.
use Rattle.std.specs.Prelude.{⊤, ◌≡◌, ◌<◌, ◌≤◌, ◌%◌, ◌^◌, ℕ, List, Some, codes, slice_index, IsBitSet}
use Rattle.text.specs.Addresses.{SpellsAddress}
use Rattle.text.specs.Numbers.{number_in, number_spelled}
use Rattle.text.specs.Words.{Text}
use Rattle.command_line.specs.declared.job.ServeLink.{ServeLink}
use Rattle.command_line.specs.declared.job.ServeLink.TheVariants.{After, Never}
use Rattle.command_line.specs.declared.job.ValueOption.{ValueOption}
use Rattle.command_line.specs.declared.job.ValueOption.TheVariants as options

-- a group address has the lowest bit of its first byte set (IEEE 802.3 3.2.3)
abbrev pub IsGroupAddress : List ℕ → Type 0
IsGroupAddress address = IsBitSet (slice_index address 0) 0

-- the text spells this group address
abbrev pub SpellsGroup : Text → List ℕ → Type 0
SpellsGroup text address = SpellsAddress text address × IsGroupAddress address

-- a number of 64 bits, in decimal digits only
abbrev pub SpellsDecimal : Text → ℕ → Type 0
SpellsDecimal text n = number_in 10 64 text ≡ Some n

-- a decimal number of 12 bits, as VLAN identifiers have (IEEE 802.1Q 9.6)
abbrev pub SpellsVlan : Text → ℕ → Type 0
SpellsVlan text n = SpellsDecimal text n × (n ≤ 4095)

-- a number of 64 bits, in decimal digits, or in hexadecimal digits after 0x
abbrev pub SpellsWord : Text → ℕ → Type 0
SpellsWord text n = number_spelled text ≡ Some n

-- a decimal count of 32 bits
abbrev pub SpellsCount : Text → ℕ → Type 0
SpellsCount text n = SpellsDecimal text n × (n < 2 ^ 32)

-- a decimal number of 16 bits: of descriptors in a ring, or of receive buffers
abbrev pub SpellsRingSize : Text → ℕ → Type 0
SpellsRingSize text n = SpellsDecimal text n × (n < 2 ^ 16)

-- the kilobytes that the receive part of a packet buffer can have (manual 13.4.16 "Packet Buffer Allocation", RXA)
abbrev pub IsKilobytes : ℕ → Type 0
IsKilobytes n = (2 ≤ n) × (n ≤ 48) × (n % 2 ≡ 0)

-- the text spells this number of kilobytes in decimal digits
abbrev pub SpellsKilobytes : Text → ℕ → Type 0
SpellsKilobytes text n = SpellsDecimal text n × IsKilobytes n

-- the ticks after which a link is up, from 1 to 65,535, or never
abbrev pub IsLink : ServeLink → Type 0
IsLink (After ticks) = (1 ≤ ticks) × (ticks ≤ 65535)
IsLink Never = ⊤

-- the text spells when a link is up: `never`, or ticks in decimal digits
abbrev pub SpellsLink : Text → ServeLink → Type 0
SpellsLink text (After ticks) = SpellsDecimal text ticks × IsLink (After ticks)
SpellsLink text Never = text ≡ codes "never"

-- the text spells this address as a value of the option: a group if the option is `--group`, any address for another option
abbrev pub SpellsAddressOf : ValueOption → Text → List ℕ → Type 0
SpellsAddressOf options.Group text address = SpellsGroup text address
SpellsAddressOf _ text address = SpellsAddress text address

-- the text spells this number as a value of the option; no text does if the option's value isn't a number
abbrev pub SpellsNumber : ValueOption → Text → ℕ → Type 0
SpellsNumber options.Vlan text n = SpellsVlan text n
SpellsNumber options.Memory text n = SpellsWord text n
SpellsNumber options.Registers text n = SpellsWord text n
SpellsNumber options.Rxa text n = SpellsKilobytes text n
SpellsNumber options.Seed text n = SpellsDecimal text n
SpellsNumber options.Missed text n = SpellsCount text n
SpellsNumber options.Rx text n = SpellsRingSize text n
SpellsNumber options.Tx text n = SpellsRingSize text n
SpellsNumber options.Buffers text n = SpellsRingSize text n
SpellsNumber options.Expect text n = SpellsDecimal text n
SpellsNumber options.Idle text n = SpellsDecimal text n
SpellsNumber options.Address text n = ⊥
SpellsNumber options.Group text n = ⊥
SpellsNumber options.Image text n = ⊥
SpellsNumber options.Link text n = ⊥
