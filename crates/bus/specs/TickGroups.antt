-- Ticks in groups, one for each access: a group ends at the next Go, or at the end of the list. Ticks may be of any type that has a Go.
use Rattle.std.specs.Prelude.{Bool, List, [], ◌∷◌, ◌++◌, not, filter, if◌then◌else◌}
use Rattle.bus.specs.declared.event.Access.{Access}

-- The ticks of the next group, without its Go.
abbrev pub group_of : {T : Type 0} → (T → Bool) → List T → List T
group_of is_go [] = []
group_of is_go (tick ∷ later) = if is_go tick then [] else tick ∷ group_of is_go later

-- The ticks after the next group and its Go.
abbrev pub behind_group : {T : Type 0} → (T → Bool) → List T → List T
behind_group is_go [] = []
behind_group is_go (tick ∷ later) = if is_go tick then later else behind_group is_go later

-- The ticks that aren't a Go.
abbrev pub without_go : {T : Type 0} → (T → Bool) → List T → List T
without_go is_go ticks = filter (λ tick. not (is_go tick)) ticks

-- The ticks that are left after one group for each of these accesses.
abbrev pub waiting_after : {T : Type 0} → (T → Bool) → List Access → List T → List T
waiting_after is_go [] ticks = ticks
waiting_after is_go (access ∷ later) ticks = waiting_after is_go later (behind_group is_go ticks)

-- The ticks of the groups of these accesses, without their Gos.
abbrev pub groups_of : {T : Type 0} → (T → Bool) → List Access → List T → List T
groups_of is_go [] ticks = []
groups_of is_go (access ∷ later) ticks = group_of is_go ticks ++ groups_of is_go later (behind_group is_go ticks)

-- What is played in these accesses. For each access, these are the bus's own ticks, the next group, and then the access itself, as a Go.
abbrev pub played_in : {T : Type 0} → (T → Bool) → T → List T → List Access → List T → List T
played_in is_go go own [] ticks = []
played_in is_go go own (access ∷ later) ticks =
    (own ++ group_of is_go ticks) ++ go ∷ played_in is_go go own later (behind_group is_go ticks)
