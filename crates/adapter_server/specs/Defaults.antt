-- The default options (our choice).
use Rattle.std.specs.Prelude.{ℕ, List, [], ◌∷◌, ◌^◌}
use Rattle.eeprom.specs.Image.{image_with}
use Rattle.mdic_phy.specs.declared.phy.Link.{Link}
use Rattle.mdic_phy.specs.declared.phy.Link.TheVariants.{After}
use Rattle.adapter_server.specs.declared.options.ServeOptions.{ServeOptions}

-- the default size of memory: one mebibyte
abbrev pub default_memory : ℕ
default_memory = 2 ^ 20

-- the default address of the first register
abbrev pub default_registers : ℕ
default_registers = 0xFEB00000

-- the default Ethernet address, 02:00:00:00:00:01
abbrev pub default_address : List ℕ
default_address = 2 ∷ 0 ∷ 0 ∷ 0 ∷ 0 ∷ 1 ∷ []

-- the default setting of the link: up after one tick of the PHY
abbrev pub default_link : Link
default_link = After 1

-- the default receive part of the packet buffer, in kilobytes
abbrev pub default_kilobytes : ℕ
default_kilobytes = 48

-- the default seed of the generator
abbrev pub default_seed : ℕ
default_seed = 0

-- the default options; no packet was missed
abbrev pub default_options : ServeOptions
default_options = record {
  memory = default_memory;
  registers = default_registers;
  image = image_with default_address;
  link = default_link;
  receive_kilobytes = default_kilobytes;
  seed = default_seed;
  missed = 0;
}
