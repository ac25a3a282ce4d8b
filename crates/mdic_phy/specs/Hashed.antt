-- The values that MDIC and a PHY write to a hasher: their whole states (our choice).
use Rattle.std.specs.Prelude.{◌++◌, ℕ, Option, Some, None}
use Rattle.std.specs.Hash.{HashWrites, bool, u8, u16, u32}
use Rattle.mdic_phy.specs.declared.mdic.Operation.{Operation}
use Rattle.mdic_phy.specs.declared.mdic.Operation.TheVariants.{Write, Read}
use Rattle.mdic_phy.specs.declared.phy.Link.{Link}
use Rattle.mdic_phy.specs.declared.phy.Link.TheVariants.{After, Never}
use Rattle.mdic_phy.specs.declared.phy.Negotiation.{Negotiation}
use Rattle.mdic_phy.specs.declared.phy.Negotiation.TheVariants.{NotStarted, Running, Complete}
use Rattle.mdic_phy.specs.Mdic.{MdicState}
use Rattle.mdic_phy.specs.Phy.{PhyState}

-- A tag for the pending command, or 0 if no command is pending.
abbrev pub pending_tag : Option Operation → ℕ
pending_tag None = 0
pending_tag (Some Write) = 1
pending_tag (Some Read) = 2

-- What MDIC feeds: its value, and the tag of its pending command.
abbrev pub mdic_writes : MdicState → HashWrites
mdic_writes mdic = u32 mdic.value ++ u8 (pending_tag mdic.pending)

-- What the setting of a link feeds: a tag, and the number of ticks if there is one.
abbrev pub link_writes : Link → HashWrites
link_writes (After ticks) = u8 0 ++ u16 ticks
link_writes Never = u8 1

-- What negotiation feeds: a tag, and the ticks that are left if it is running.
abbrev pub negotiation_writes : Negotiation → HashWrites
negotiation_writes NotStarted = u8 0
negotiation_writes (Running ticks) = u8 1 ++ u16 ticks
negotiation_writes Complete = u8 2

-- What the PHY feeds: its whole state.
abbrev pub phy_writes : PhyState → HashWrites
phy_writes phy = bool phy.negotiation_enabled ++ bool phy.latched_low ++ link_writes phy.link ++ negotiation_writes phy.negotiation
