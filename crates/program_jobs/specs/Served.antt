-- The options of a server that the words of `serve` ask for (our choice).
use Rattle.std.specs.Prelude.{◌≡◌, ⊤, ℕ, List}
use Rattle.eeprom.specs.Image.{image_with}
use Rattle.command_line.specs.declared.job.ServeImage.{ServeImage}
use Rattle.command_line.specs.declared.job.ServeImage.TheVariants as images
use Rattle.command_line.specs.declared.job.ServeJob.{ServeJob}
use Rattle.command_line.specs.declared.job.ServeLink.{ServeLink}
use Rattle.command_line.specs.declared.job.ServeLink.TheVariants as asked
use Rattle.mdic_phy.specs.declared.phy.Link.{Link}
use Rattle.mdic_phy.specs.declared.phy.Link.TheVariants as links
use Rattle.adapter_server.specs.declared.options.ServeOptions.{ServeOptions}

-- the setting of the link that a job asks for
abbrev pub link_of : ServeLink → Link
link_of (asked.After ticks) = links.After ticks
link_of asked.Never = links.Never

-- The image of an address is the one that `image_with` defines. An image from a file may be any image.
abbrev pub IsImageFor : ServeImage → List ℕ → Type 0
IsImageFor (images.Address address) image = image ≡ image_with address
IsImageFor (images.File path) image = ⊤

-- the options of the server that a job asks for, with this image of the EEPROM
abbrev pub options_of : ServeJob → (image : List ℕ) → ServeOptions
options_of job image = record {
  memory = job.memory;
  registers = job.registers;
  image = image;
  link = link_of job.link;
  receive_kilobytes = job.receive_kilobytes;
  seed = job.seed;
  missed = job.missed;
}
