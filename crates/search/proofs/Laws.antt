-- The runs of a search are the list of all schedules.
use Rattle.std.proofs.Common.{◌≡◌, ◌∙◌, ◌+◌, ◌-◌, ◌++◌, ◌∷◌, [], ℕ, Bool, true, false, List, Option, None, Some, ap, arith, cond, nat_lt}
use Rattle.std.proofs.Common.{refl, suc, sym, zero}
use Rattle.std.proofs.lemmas.Bool.Decides.{nat_tests}
use Rattle.std.proofs.lemmas.List.{append-nil, append_assoc}
use Rattle.std.specs.Option.{option_map}
use Rattle.search.specs.Orders.{AllAreTried, below, ended_search, ended_at, from_next, from_run, path_after, next_path}
use Rattle.search.specs.Orders.{path_in, rest, schedules, schedules_at}
use Rattle.search.specs.Searches.{first_choice, left_of, next_choice, run_of}
use Rattle.search.specs.Tests.{Test, left_after}
use Rattle.search.specs.declared.path.Choice.{Choice}
use Rattle.search.specs.declared.path.Place.{Place}

begins_at : (test : Test) (cost depth room : ℕ) (path : List Choice) (found : Option Place)
    → ((longer : List Choice) → schedules test cost room (left_of cost depth longer) (run_of longer) ++ rest test cost longer room
    ≡ from_run test cost (ended_search test cost depth room longer))
    → schedules_at (schedules test cost room) cost (left_of cost depth path) (run_of path) found ++ rest test cost path (suc room)
    ≡ from_run test cost (ended_at (ended_search test cost depth room) cost depth (suc room) path found)
begins_at test cost depth room path None shorter = refl
begins_at test cost depth room path (Some place) shorter =
    let left : ℕ = left_of cost depth path in
    let first : Choice = first_choice cost left place in
    append_assoc (schedules test cost room (left_after cost left place.possible first.taken) (first.taken ∷ run_of path))
    (below (schedules test cost room) cost left place.possible (run_of path) (first.taken + 1) (place.possible - first.taken))
    (rest test cost path (suc room))
    ∙ shorter (first ∷ path)

pub begins_with : (test : Test) (cost depth room : ℕ) (path : List Choice)
    → schedules test cost room (left_of cost depth path) (run_of path) ++ rest test cost path room
    ≡ from_run test cost (ended_search test cost depth room path)
begins_with test cost depth zero path = refl
begins_with test cost depth (suc room) path =
    begins_at test cost depth room path (test.at (run_of path)) (begins_with test cost depth room)

next_at : (is : Bool) (room : ℕ) (choice : Choice) (path : List Choice)
    → next_path path ≡ option_map path_in (path_after path (suc room))
    → cond is (Some (next_choice choice ∷ path)) (next_path path)
    ≡ option_map path_in (cond is (Some (record { path = next_choice choice ∷ path; room = room })) (path_after path (suc room)))
next_at true room choice path shorter = refl
next_at false room choice path shorter = shorter

pub by_back : (path : List Choice) (room : ℕ) → next_path path ≡ option_map path_in (path_after path room)
by_back [] room = refl
by_back (choice ∷ path) room = next_at (nat_lt choice.taken choice.place.possible) room choice path (by_back path (suc room))

none_more : (taken possible : ℕ) → nat_lt taken possible ≡ false → possible - taken ≡ 0
none_more taken possible is = grind (arith, nat_tests, is)

one_more : (taken possible : ℕ) → nat_lt taken possible ≡ true → possible - taken ≡ suc (possible - (taken + 1))
one_more taken possible is = grind (arith, nat_tests, is)

goes_at : (is : Bool) (test : Test) (cost depth room : ℕ) (choice : Choice) (path : List Choice)
    → nat_lt choice.taken choice.place.possible ≡ is
    → rest test cost path (suc room) ≡ from_next test cost depth (path_after path (suc room))
    → rest test cost (choice ∷ path) room
    ≡ from_next test cost depth (cond is (Some (record { path = next_choice choice ∷ path; room = room })) (path_after path (suc room)))
goes_at false test cost depth room choice path is shorter =
    ap (λ n. below (schedules test cost room) cost choice.left choice.place.possible (run_of path) (choice.taken + 1) n
    ++ rest test cost path (suc room)) (none_more choice.taken choice.place.possible is)
    ∙ shorter
goes_at true test cost depth room choice path is shorter =
    let later : Choice = next_choice choice in
    ap (λ n. below (schedules test cost room) cost choice.left choice.place.possible (run_of path) (choice.taken + 1) n
    ++ rest test cost path (suc room)) (one_more choice.taken choice.place.possible is)
    ∙ append_assoc
    (schedules test cost room (left_after cost choice.left choice.place.possible later.taken) (later.taken ∷ run_of path))
    (below (schedules test cost room) cost choice.left choice.place.possible (run_of path) (later.taken + 1)
    (choice.place.possible - later.taken))
    (rest test cost path (suc room))
    ∙ begins_with test cost depth room (later ∷ path)

pub goes_on : (test : Test) (cost depth : ℕ) (path : List Choice) (room : ℕ)
    → rest test cost path room ≡ from_next test cost depth (path_after path room)
goes_on test cost depth [] room = refl
goes_on test cost depth (choice ∷ path) room =
    goes_at (nat_lt choice.taken choice.place.possible) test cost depth room choice path refl
    (goes_on test cost depth path (suc room))

pub begins : (test : Test) (cost depth room : ℕ)
    → schedules test cost room depth [] ≡ from_run test cost (ended_search test cost depth room [])
begins test cost depth room =
    sym (append-nil (schedules test cost room depth [])) ∙ begins_with test cost depth room []

pub all_are_tried : AllAreTried
all_are_tried = record { begins = begins; goes_on = goes_on; by_back = by_back }
