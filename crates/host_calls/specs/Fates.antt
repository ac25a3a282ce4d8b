-- The right fate of a frame, by the groups in force, the receive packet buffer, and whether the receive side is enabled
-- (our choice; the filter: "3.2.1 Packet Address Filtering"; RCTL.EN: "13.4.22 Receive Control").
use Rattle.std.specs.Prelude.{⊤, ◌≡◌, ◌≢◌, ◌++◌, ℕ, Bool, true, false, IsTrue, List, [], ◌∷◌, drop}
use Rattle.std.specs.List.{Contains, flat_map}
use Rattle.descriptors.specs.Frames.{IsLegal}
use Rattle.rx_engine.specs.Arriving.{kept}
use Rattle.rx_filter.specs.GroupLists.{Removes}
use Rattle.rx_filter.specs.NumberTables.{numbers_of_groups}
use Rattle.rx_engine.specs.declared.arrival.Fate.{Fate}
use Rattle.rx_engine.specs.declared.arrival.Fate.TheVariants.{Off, Illegal, Filtered, Missed, Stored}
use Rattle.rx_filter.specs.Passing.{Passes, ReceiveFilter}
use Rattle.rx_filter.specs.Registers.{FilterRegisters, filter_of}
use Rattle.rx_engine.specs.Room.{HasRoomFor, LacksRoomFor}
use Rattle.host_calls.specs.Happenings.{Disabled, Enabled, GivenUp, Happening, Joined, Left, Moved, Reached, of_host}

-- What happens to the reception of a host. A frame arrives, or the oldest frame is moved from the receive packet buffer to memory. A group
-- is joined or left. Or a reset disables, empties or enables the receive side.
pub data Mark : Type 0 where
  -- A frame arrived, with this fate.
  Came : (frame : List ℕ) (fate : Fate) → Mark
  -- The oldest frame was moved to memory.
  Went : Mark
  -- The host joined a group.
  Joins : (group : List ℕ) → Mark
  -- The host left a group.
  Quits : (group : List ℕ) → Mark
  -- The receive side was disabled.
  SwitchedOff : Mark
  -- The receive side was enabled.
  SwitchedOn : Mark
  -- A reset dropped all frames in the receive packet buffer.
  Emptied : Mark

-- The mark of a happening at host k, as a list. The list is empty for another host, and for Accepted, Put and Given.
abbrev pub mark_by : ℕ → Happening → List Mark
mark_by k (Reached host frame fate) = of_host k host (Came frame fate ∷ [])
mark_by k (Moved host) = of_host k host (Went ∷ [])
mark_by k (Joined host group) = of_host k host (Joins group ∷ [])
mark_by k (Left host group) = of_host k host (Quits group ∷ [])
mark_by k (Disabled host) = of_host k host (SwitchedOff ∷ [])
mark_by k (Enabled host) = of_host k host (SwitchedOn ∷ [])
mark_by k (GivenUp host sending holding) = of_host k host (Emptied ∷ [])
mark_by k other = []

-- The marks of these happenings at host k, in order.
abbrev pub marks : ℕ → List Happening → List Mark
marks k happened = flat_map (mark_by k) happened

-- The state on which the fates of a host's frames depend, besides registers.
pub record Reception : Type 0 where
  -- The groups that the host has joined.
  pub groups : List (List ℕ)
  -- The frames in the receive packet buffer, the oldest first.
  pub buffered : List (List ℕ)
  -- Whether RCTL.EN is set.
  pub enabled : Bool

-- These groups and these frames in the receive packet buffer, with the receive side enabled.
abbrev pub reception : (groups buffered : List (List ℕ)) → Reception
reception groups buffered = record { groups = groups; buffered = buffered; enabled = true }

-- The filter in force: the filter of the registers, but with the numbers of the joined groups instead of MTA. The numbers
-- are computed for RCTL.MO 00.
abbrev pub in_force : FilterRegisters → (groups : List (List ℕ)) → ReceiveFilter
in_force registers groups = record (filter_of registers) { groups = λ number. Contains (numbers_of_groups groups) number }

-- The fate is the first of Off, Illegal, Filtered, Missed and Stored that applies to the frame, with this filter in
-- force. The receive packet buffer of `room` bytes contains the frames `buffered`. Off applies exactly while the
-- receive side is disabled.
abbrev pub IsRightFate : ReceiveFilter → (room : ℕ) → (enabled : Bool) → (buffered : List (List ℕ)) → List ℕ → Fate → Type 0
IsRightFate filter room false buffered frame fate = fate ≡ Off
IsRightFate filter room true buffered frame Off = ⊥
IsRightFate filter room true buffered frame Illegal = ¬ (IsLegal frame)
IsRightFate filter room true buffered frame Filtered = IsLegal frame × (¬ (Passes filter frame))
IsRightFate filter room true buffered frame Missed = IsLegal frame × Passes filter frame × LacksRoomFor room buffered frame
IsRightFate filter room true buffered frame Stored = IsLegal frame × Passes filter frame × HasRoomFor room buffered frame

-- Each fate is the right one (`IsRightFate`) for the reception when the frame arrives. The marks lead from the
-- reception `now` to the reception `final`. The oldest frame is moved only out of a buffer that isn't empty, while the
-- receive side is enabled. Only a joined group is left.
abbrev pub AreRightFates : FilterRegisters → (room : ℕ) → (now : Reception) → List Mark → (final : Reception) → Type 0
AreRightFates registers room now [] final = final ≡ now
AreRightFates registers room now (Came frame fate ∷ later) final =
    IsRightFate (in_force registers now.groups) room now.enabled now.buffered frame fate
    × AreRightFates registers room (record now { buffered = now.buffered ++ kept fate frame }) later final
AreRightFates registers room now (Went ∷ later) final =
    (now.buffered ≢ []) × IsTrue now.enabled × AreRightFates registers room (record now { buffered = drop 1 now.buffered }) later final
AreRightFates registers room now (Joins group ∷ later) final =
    AreRightFates registers room (record now { groups = now.groups ++ group ∷ [] }) later final
AreRightFates registers room now (Quits group ∷ later) final =
    (fewer : List (List ℕ)) × Removes group now.groups fewer × AreRightFates registers room (record now { groups = fewer }) later final
AreRightFates registers room now (SwitchedOff ∷ later) final = AreRightFates registers room (record now { enabled = false }) later final
AreRightFates registers room now (SwitchedOn ∷ later) final = AreRightFates registers room (record now { enabled = true }) later final
AreRightFates registers room now (Emptied ∷ later) final = AreRightFates registers room (record now { buffered = [] }) later final

-- The frames in the receive packet buffer after these marks: those at the start, followed by those stored since. Frames
-- that were moved to memory, or that a reset dropped, are no longer in the buffer.
abbrev pub buffered_after : (buffered : List (List ℕ)) → List Mark → List (List ℕ)
buffered_after buffered [] = buffered
buffered_after buffered (Came frame fate ∷ later) = buffered_after (buffered ++ kept fate frame) later
buffered_after buffered (Went ∷ later) = buffered_after (drop 1 buffered) later
buffered_after buffered (Emptied ∷ later) = buffered_after [] later
buffered_after buffered (other ∷ later) = buffered_after buffered later

-- Whether the receive side is enabled after these marks. The last mark that enabled or disabled the receive side decides; without such a
-- mark, the receive side is as at the start.
abbrev pub enabled_after : (enabled : Bool) → List Mark → Bool
enabled_after enabled [] = enabled
enabled_after enabled (SwitchedOff ∷ later) = enabled_after false later
enabled_after enabled (SwitchedOn ∷ later) = enabled_after true later
enabled_after enabled (other ∷ later) = enabled_after enabled later

-- The groups in force after these marks are `now`: those at the start, changed by each join and leave.
abbrev pub AreGroupsAfter : (groups : List (List ℕ)) → List Mark → (now : List (List ℕ)) → Type 0
AreGroupsAfter groups [] now = now ≡ groups
AreGroupsAfter groups (Joins group ∷ later) now = AreGroupsAfter (groups ++ group ∷ []) later now
AreGroupsAfter groups (Quits group ∷ later) now = (fewer : List (List ℕ)) × Removes group groups fewer × AreGroupsAfter fewer later now
AreGroupsAfter groups (other ∷ later) now = AreGroupsAfter groups later now

-- No mark is a join or a leave of a group.
abbrev pub KeepsGroups : List Mark → Type 0
KeepsGroups [] = ⊤
KeepsGroups (Joins group ∷ later) = ⊥
KeepsGroups (Quits group ∷ later) = ⊥
KeepsGroups (other ∷ later) = KeepsGroups later

-- The fate is right for a frame that arrives after the marks `before`, which begin with the reception `start`. The
-- groups in force, the frames in the buffer, and whether the receive side is enabled determine the right fate.
pub record IsRightThere (registers : FilterRegisters) (room : ℕ) (start : Reception) (before : List Mark) (frame : List ℕ) (fate : Fate)
    : Type 0 where
  pub groups : List (List ℕ)
  pub are : AreGroupsAfter start.groups before groups
  pub right : IsRightFate (in_force registers groups) room (enabled_after start.enabled before) (buffered_after start.buffered before)
      frame fate

-- Each frame's fate in the marks `all` is the right one for the marks before the frame (`IsRightThere`).
abbrev pub AreRightByList : FilterRegisters → (room : ℕ) → (start : Reception) → List Mark → Type 0
AreRightByList registers room start all =
    (before later : List Mark) (frame : List ℕ) (fate : Fate) → all ≡ before ++ Came frame fate ∷ later
    → IsRightThere registers room start before frame fate
