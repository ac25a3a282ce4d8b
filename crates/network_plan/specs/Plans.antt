-- When a plan is valid, and the first reason to reject a plan (our choice).
use Rattle.std.specs.Prelude.{◌≡◌, ◌≢◌, ◌≤◌, ◌-◌, ◌^◌, ◌&&◌, ◌||◌, ◌==◌, ℕ, Bool, true, List, All, Err, Ok, Result, String, count_by}
use Rattle.std.specs.Prelude.{length, nat_le}
use Rattle.std.specs.Prelude.{string_bytes, string_eq}
use Rattle.std.specs.declared.alloc.Global.{Global}
use Rattle.eeprom.specs.Image.{address_bytes}
use Rattle.mdic_phy.specs.declared.phy.Link.TheVariants.{After}
use Rattle.rx_filter.specs.Addresses.{IsIndividual}
use Rattle.bring_up.specs.Configuration.{IsValidIn}
use Rattle.network_plan.specs.declared.plan.HostPlan.{HostPlan}
use Rattle.network_plan.specs.declared.plan_error.PlanError.{PlanError}
use Rattle.network_plan.specs.declared.plan_error.PlanError.TheVariants as refused

-- the greatest number of bytes of a name
abbrev pub most_name_bytes : ℕ
most_name_bytes = 16

-- the greatest number of ends of a wire
abbrev pub most_ends : ℕ
most_ends = 8

-- the greatest number of hosts of a network
abbrev pub most_hosts : ℕ
most_hosts = 16

-- whether a byte may be in a name: a to z, 0 to 9, _ and -, in ASCII
abbrev pub is_of_name : ℕ → Bool
is_of_name byte = (nat_le 0x61 byte && nat_le byte 0x7A) || (nat_le 0x30 byte && nat_le byte 0x39) || (byte == 0x5F) || (byte == 0x2D)

-- The bytes are a valid name of a host or a wire.
pub record IsName (bytes : List ℕ) : Type 0 where
  -- at least one byte
  pub least : 1 ≤ length bytes
  -- at most 16 bytes
  pub most : length bytes ≤ most_name_bytes
  -- each byte may be in a name
  pub all : All (λ byte. is_of_name byte ≡ true) bytes

-- the number of hosts with this name
abbrev pub hosts_named : List HostPlan → String Global → ℕ
hosts_named hosts name = count_by (λ (host : HostPlan). string_eq host.name name) hosts

-- the number of hosts on this wire
abbrev pub hosts_on : List HostPlan → String Global → ℕ
hosts_on hosts wire = count_by (λ (host : HostPlan). string_eq host.wire wire) hosts

-- The names of the host and of its wire are valid, and no other host has the host's name.
pub record HasName (hosts : List HostPlan) (host : HostPlan) : Type 0 where
  -- the host's name is valid
  pub name : IsName (string_bytes host.name)
  -- the wire's name is valid
  pub wire : IsName (string_bytes host.wire)
  -- no other host has the host's name
  pub once : hosts_named hosts host.name ≡ 1

-- All names are valid, and no two hosts have the same name.
pub record HasNames (hosts : List HostPlan) : Type 0 where
  -- each host and its wire have valid names, and no other host has the host's name
  pub all : All (HasName hosts) hosts

-- A wire may have this number of ends.
pub record IsEndCount (ends : ℕ) : Type 0 where
  -- at least two
  pub least : 2 ≤ ends
  -- at most eight
  pub most : ends ≤ most_ends

-- The host's wire has 2 to 8 ends.
pub record HasWire (hosts : List HostPlan) (host : HostPlan) : Type 0 where
  -- the number of hosts on its wire is from 2 to 8
  pub ends : IsEndCount (hosts_on hosts host.wire)

-- Each wire has 2 to 8 ends.
pub record HasEnds (hosts : List HostPlan) : Type 0 where
  -- each host's wire has 2 to 8 ends
  pub all : All (HasWire hosts) hosts

-- There are 2 to 16 hosts.
pub record HasHosts (hosts : List HostPlan) : Type 0 where
  -- at least two
  pub least : 2 ≤ length hosts
  -- at most 16
  pub most : length hosts ≤ most_hosts

-- If the two hosts have the same address, they have the same name. With unique names, they are the same host.
abbrev pub HasOtherAddressOrIsSame : (host other : HostPlan) → Type 0
HasOtherAddressOrIsSame host other = address_bytes other.image ≡ address_bytes host.image → string_eq other.name host.name ≡ true

-- The host's address is an individual address, and no host with another name has the same address.
pub record HasOwnAddress (hosts : List HostPlan) (host : HostPlan) : Type 0 where
  -- the host's address isn't a group address
  pub individual : IsIndividual (address_bytes host.image)
  -- no host with another name has the same address
  pub own : All (HasOtherAddressOrIsSame host) hosts

-- Each host has an individual address that no host with another name has.
pub record HaveOwnAddresses (hosts : List HostPlan) : Type 0 where
  -- each host has an individual address that no host with another name has
  pub all : All (HasOwnAddress hosts) hosts

-- The host's configuration is valid for a memory of 2^64 - 1 bytes, and its link needs at least one PHY tick, or is
-- never up.
pub record HasConfig (host : HostPlan) : Type 0 where
  -- the rings, buffers, packet buffer, groups and VLANs of the configuration are valid for this memory
  pub config : IsValidIn host.config (2 ^ 64 - 1)
  -- the host's link needs at least one PHY tick, or is never up
  pub link : host.link ≢ After 0

-- `HasConfig` holds for each host.
pub record HasConfigs (hosts : List HostPlan) : Type 0 where
  -- each host has a valid configuration, and its link needs at least one PHY tick, or is never up
  pub all : All HasConfig hosts

-- The result of checking a plan: the first reason to reject the plan, or Ok if there is no reason.
abbrev pub IsPlanAnswer : List HostPlan → Result (Unit {0}) PlanError → Type 0
IsPlanAnswer hosts (Err refused.Name) = ¬ (HasNames hosts)
IsPlanAnswer hosts (Err refused.Ends) = HasNames hosts × (¬ (HasEnds hosts))
IsPlanAnswer hosts (Err refused.Hosts) = HasNames hosts × HasEnds hosts × (¬ (HasHosts hosts))
IsPlanAnswer hosts (Err refused.Address) = HasNames hosts × HasEnds hosts × HasHosts hosts × (¬ (HaveOwnAddresses hosts))
IsPlanAnswer hosts (Err refused.Config) =
    HasNames hosts × HasEnds hosts × HasHosts hosts × HaveOwnAddresses hosts × (¬ (HasConfigs hosts))
IsPlanAnswer hosts (Err refused.Memory) = ⊥
IsPlanAnswer hosts (Err (refused.Init host error)) = ⊥
IsPlanAnswer hosts (Ok u) = HasNames hosts × HasEnds hosts × HasHosts hosts × HaveOwnAddresses hosts × HasConfigs hosts
