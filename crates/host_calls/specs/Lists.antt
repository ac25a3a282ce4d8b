-- Lists of frames that grow at their end, and from whose end a reset removes frames (our choice). There are two such lists: the frames
-- that are due on the wire, and the frames that have come to a host.
use Rattle.std.specs.Prelude.{◌≡◌, ◌↔◌, ◌++◌, ◌∷◌, [], ℕ, List, map}
use Rattle.std.specs.List.{flat_map}
use Rattle.descriptors.specs.Frames.{padded}
use Rattle.host_calls.specs.Happenings.{GivenUp, Happening, accepted, accepted_in_one, of_host, stored_by}

-- The happenings change the list `begin` to the list `end`. Each happening appends the frames that it adds, and then removes the frames
-- that it drops from the end of the list.
abbrev pub ListGoes : (adds drops : Happening → List (List ℕ)) → (begin : List (List ℕ)) → List Happening → (end : List (List ℕ)) → Type 0
ListGoes adds drops begin [] end = end ≡ begin
ListGoes adds drops begin (one ∷ later) end =
    (middle : List (List ℕ)) × (begin ++ adds one ≡ middle ++ drops one) × ListGoes adds drops middle later end

-- The frames to be sent that a reset of host k dropped in this happening.
abbrev pub sending_in_one : ℕ → Happening → List (List ℕ)
sending_in_one k (GivenUp host sending holding) = of_host k host sending
sending_in_one k other = []

-- The held frames that a reset of host k dropped in this happening.
abbrev pub holding_in_one : ℕ → Happening → List (List ℕ)
holding_in_one k (GivenUp host sending holding) = of_host k host holding
holding_in_one k other = []

-- The frame that host k accepted in this happening, if any, padded, as a list.
abbrev pub padded_in_one : ℕ → Happening → List (List ℕ)
padded_in_one k one = map padded (accepted_in_one k one)

-- The happenings change the frames due on host k's wire from `begin` to `end`: accepted frames are appended, padded,
-- and resets remove dropped frames from the end.
abbrev pub AreDue : (k : ℕ) (begin : List (List ℕ)) → List Happening → (end : List (List ℕ)) → Type 0
AreDue k = ListGoes (padded_in_one k) (sending_in_one k)

-- The happenings change the frames that have come to host k from `begin` to `end`: stored frames are appended, and
-- resets remove dropped frames from the end.
abbrev pub HaveCome : (k : ℕ) (begin : List (List ℕ)) → List Happening → (end : List (List ℕ)) → Type 0
HaveCome k = ListGoes (stored_by k) (holding_in_one k)

-- Two consecutive changes of such a list are together one change.
abbrev pub GoesJoin : Type 0
GoesJoin =
    (adds drops : Happening → List (List ℕ)) (begin middle end : List (List ℕ)) (first later : List Happening)
    → ListGoes adds drops begin first middle → ListGoes adds drops middle later end → ListGoes adds drops begin (first ++ later) end

-- Frames before the list at the beginning are still before the list at the end: a reset removes only frames of the
-- list.
abbrev pub GoesBehind : Type 0
GoesBehind =
    (adds drops : Happening → List (List ℕ)) (front begin end : List (List ℕ)) (happened : List Happening)
    → ListGoes adds drops begin happened end → ListGoes adds drops (front ++ begin) happened (front ++ end)

-- The list `begin` and the happenings determine the list `end`.
abbrev pub GoesToOneEnd : Type 0
GoesToOneEnd =
    (adds drops : Happening → List (List ℕ)) (begin end other : List (List ℕ)) (happened : List Happening)
    → ListGoes adds drops begin happened end → ListGoes adds drops begin happened other → end ≡ other

-- If no happening drops a frame, `ListGoes` holds exactly if `end` is `begin`, followed by all frames that were added.
abbrev pub GoesWithoutDrops : Type 0
GoesWithoutDrops =
    (adds drops : Happening → List (List ℕ)) (begin end : List (List ℕ)) (happened : List Happening) → flat_map drops happened ≡ []
    → ListGoes adds drops begin happened end ↔ (end ≡ begin ++ flat_map adds happened)

-- The frames that `AreDue` adds are the accepted frames, padded.
abbrev pub AcceptedArePadded : Type 0
AcceptedArePadded = (k : ℕ) (happened : List Happening) → flat_map (padded_in_one k) happened ≡ map padded (accepted k happened)
