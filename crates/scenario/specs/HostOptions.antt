-- The options of a host, which follow its wire in any order (our choice).
use Rattle.std.specs.Prelude.{◌≡◌, ◌≤◌, Bool, true, false, List, [], ◌∷◌, All, Option, Some, None, codes, count_by, if◌then◌else◌}
use Rattle.std.specs.Option.{option_map}
use Rattle.std.specs.List.{fold}
use Rattle.std.specs.Str.{bytes_eq}
use Rattle.mdic_phy.specs.declared.phy.Link.{Link}
use Rattle.mdic_phy.specs.declared.phy.Link.TheVariants as link
use Rattle.text.specs.Numbers.{number_in}
use Rattle.text.specs.Tables.{value_in}
use Rattle.scenario.specs.Words.{Text}
use Rattle.scenario.specs.declared.host_use.HostOptions.{HostOptions}
use Rattle.scenario.specs.declared.host_use.HostUse.{HostUse}
use Rattle.scenario.specs.declared.host_use.HostUse.TheVariants as uses
use Rattle.scenario.specs.declared.host_use.OptionKind.{OptionKind}
use Rattle.scenario.specs.declared.host_use.OptionKind.TheVariants as option

-- the names of the options
abbrev pub option_kinds : List (Text × OptionKind)
option_kinds =
    (codes "rx", option.Rx)
    ∷ (codes "tx", option.Tx)
    ∷ (codes "buffers", option.Buffers)
    ∷ (codes "rxa", option.Rxa)
    ∷ (codes "link", option.Link)
    ∷ (codes "promiscuous", option.Promiscuous)
    ∷ []

-- the option with this name; None if there is no such option
unfoldable pub option_named : Text → Option OptionKind
option_named word = value_in option_kinds word

-- never, or the number of PHY ticks after which a link is up, below 2^16; None if the value spells neither
abbrev pub link_in : Text → Option Link
link_in value = if bytes_eq value (codes "never") then Some link.Never else option_map link.After (number_in 10 16 value)

-- this use if the value was read, else `Unread`
abbrev pub use_or_unread : OptionKind → Option HostUse → HostUse
use_or_unread kind (Some read) = read
use_or_unread kind None = uses.Unread kind

-- the use of an option with its value; `Unread` if the value doesn't have the form of the option's value
abbrev pub use_of : OptionKind → Text → HostUse
use_of option.Rx value = use_or_unread option.Rx (option_map uses.Rx (number_in 10 16 value))
use_of option.Tx value = use_or_unread option.Tx (option_map uses.Tx (number_in 10 16 value))
use_of option.Buffers value = use_or_unread option.Buffers (option_map uses.Buffers (number_in 10 16 value))
use_of option.Rxa value = use_or_unread option.Rxa (option_map uses.Rxa (number_in 10 8 value))
use_of option.Link value = use_or_unread option.Link (option_map uses.Link (link_in value))
use_of option.Promiscuous value = uses.Promiscuous

-- whether the option takes a value
abbrev pub takes_value : OptionKind → Bool
takes_value option.Promiscuous = false
takes_value _ = true

-- the use of an option that no value follows; `Lone` if the option takes a value
abbrev pub lone_use : OptionKind → HostUse
lone_use option.Promiscuous = uses.Promiscuous
lone_use kind = uses.Lone kind

-- whether a word that is this option, or no option (`None`), takes the next word as its value
abbrev pub follows : Option OptionKind → Bool
follows (Some kind) = takes_value kind
follows None = false

-- the use of an option with its value; `Unknown` if the word isn't an option (`None`)
abbrev pub use_with : Option OptionKind → Text → HostUse
use_with (Some kind) value = use_of kind value
use_with None value = uses.Unknown

-- the use of an option that no value follows; `Unknown` if the word isn't an option (`None`)
abbrev pub use_without : Option OptionKind → HostUse
use_without (Some kind) = lone_use kind
use_without None = uses.Unknown

-- The uses that words spell. An option that takes a value takes the next word, if there is one. Any other word is a use
-- of its own.
abbrev pub uses_in : List Text → List HostUse
uses_in [] = []
uses_in (word ∷ []) = use_without (option_named word) ∷ []
uses_in (word ∷ value ∷ words) =
    if follows (option_named word) then use_with (option_named word) value ∷ uses_in words
    else use_without (option_named word) ∷ uses_in (value ∷ words)

-- whether two options are the same
abbrev pub is_same_option : OptionKind → OptionKind → Bool
is_same_option option.Rx option.Rx = true
is_same_option option.Tx option.Tx = true
is_same_option option.Buffers option.Buffers = true
is_same_option option.Rxa option.Rxa = true
is_same_option option.Link option.Link = true
is_same_option option.Promiscuous option.Promiscuous = true
is_same_option _ _ = false

-- the option that is used; None if the word isn't an option
abbrev pub kind_of_use : HostUse → Option OptionKind
kind_of_use uses.Unknown = None
kind_of_use (uses.Lone kind) = Some kind
kind_of_use (uses.Unread kind) = Some kind
kind_of_use (uses.Rx n) = Some option.Rx
kind_of_use (uses.Tx n) = Some option.Tx
kind_of_use (uses.Buffers n) = Some option.Buffers
kind_of_use (uses.Rxa n) = Some option.Rxa
kind_of_use (uses.Link l) = Some option.Link
kind_of_use uses.Promiscuous = Some option.Promiscuous

-- whether the used option, if there is one, is this option
abbrev pub is_some_of : OptionKind → Option OptionKind → Bool
is_some_of kind (Some own) = is_same_option own kind
is_some_of kind None = false

-- whether this is a use of this option
abbrev pub is_use_of : OptionKind → HostUse → Bool
is_use_of kind one = is_some_of kind (kind_of_use one)

-- whether this isn't an option that lacks its value
abbrev pub is_whole : HostUse → Bool
is_whole (uses.Lone kind) = false
is_whole _ = true

-- whether the word is an option, and the option's value, if there is one, has the right form
abbrev pub is_read : HostUse → Bool
is_read uses.Unknown = false
is_read (uses.Unread kind) = false
is_read _ = true

-- Each option is used at most once.
pub record AreOnce (given : List HostUse) : Type 0 where
  pub rx : count_by (is_use_of option.Rx) given ≤ 1
  pub tx : count_by (is_use_of option.Tx) given ≤ 1
  pub buffers : count_by (is_use_of option.Buffers) given ≤ 1
  pub rxa : count_by (is_use_of option.Rxa) given ≤ 1
  pub link : count_by (is_use_of option.Link) given ≤ 1
  pub promiscuous : count_by (is_use_of option.Promiscuous) given ≤ 1

-- Each option that takes a value has one, and each option is used at most once.
pub record HaveValuesOnce (given : List HostUse) : Type 0 where
  pub whole : All (λ one. is_whole one ≡ true) given
  pub once : AreOnce given

-- Each use is of a known option, and the option's value, if there is one, has the right form.
pub record HaveRightForms (given : List HostUse) : Type 0 where
  pub all : All (λ one. is_read one ≡ true) given

-- the values of options that a line doesn't use
abbrev pub defaults : HostOptions
defaults = record { rx = 8; tx = 8; buffers = 16; rxa = 48; link = link.After 1; promiscuous = false }

-- these options after one more use; only a use with a value that was read, or of `promiscuous`, changes an option
abbrev pub with_use : HostOptions → HostUse → HostOptions
with_use options (uses.Rx n) = record options { rx = n }
with_use options (uses.Tx n) = record options { tx = n }
with_use options (uses.Buffers n) = record options { buffers = n }
with_use options (uses.Rxa n) = record options { rxa = n }
with_use options (uses.Link l) = record options { link = l }
with_use options uses.Promiscuous = record options { promiscuous = true }
with_use options _ = options

-- the values of the options: the defaults, changed by these uses in order
abbrev pub options_asked : List HostUse → HostOptions
options_asked given = fold with_use defaults given
