-- Each step of a search preserves the invariant `IsSearch`.
use Rattle.std.proofs.Common.{◌≡◌, ◌-◌, ◌<◌, ◌≤◌, ◌∷◌, ℕ, List, Some, arith, get_or, length, set, subst, sym}
use Rattle.std.proofs.Math.ListN.{length-set}
use Rattle.search.specs.Tests.{AllPass, EqualKeys, Test}
use Rattle.search.specs.Searches.{AreTried, ContinuationsPass, HasOneMore, IsKnownBy, IsSearch, IsTrueEntry}
use Rattle.search.specs.Searches.{known_of, left_of, next_choice, path_of, run_in, run_of}
use Rattle.search.specs.declared.path.Choice.{Choice}
use Rattle.search.specs.declared.path.Known.{Known}
use Rattle.search.specs.declared.path.Place.{Place}
use Rattle.search.specs.declared.search.Search.{Search}
use Rattle.search.proofs.Paths.{no_choice, split, written}
use Rattle.search.proofs.Tried.{all_known, all_tried, known_passes, next_is_tried, noted_is_true}

abbrev pub none_known : Known
none_known = record { key = record { one = 0; two = 0 }; left = 0 }

tried_by : (test : Test) (search : Search) (choices : List Choice) (table : List Known) → (search.count ≡ 0 → ⊥)
    → search.count ≤ length choices → IsSearch test search choices table
    → AreTried test search.cost search.depth
    (get_or choices (search.count - 1) no_choice ∷ path_of (search.count - 1) choices)
tried_by test search choices table some fits is =
    subst (AreTried test search.cost search.depth) (split choices search.count some fits) is.tried

below_by : (test : Test) (search : Search) (choices : List Choice) → (search.count ≡ 0 → ⊥) → search.count ≤ length choices
    → ContinuationsPass test search choices
    → AllPass test search.cost
    (left_of search.cost search.depth (get_or choices (search.count - 1) no_choice ∷ path_of (search.count - 1) choices))
    (run_of (get_or choices (search.count - 1) no_choice ∷ path_of (search.count - 1) choices))
below_by test search choices some fits all =
    subst (λ path. AllPass test search.cost (left_of search.cost search.depth path) (run_of path))
    (split choices search.count some fits) all

next_tried : (test : Test) (search : Search) (choice next : Choice) (path : List Choice)
    → choice.taken < choice.place.possible → next ≡ next_choice choice
    → AreTried test search.cost search.depth (choice ∷ path)
    → AllPass test search.cost (left_of search.cost search.depth (choice ∷ path)) (run_of (choice ∷ path))
    → AreTried test search.cost search.depth (next ∷ path)
next_tried test search choice next path less is tried all =
    subst (λ here. AreTried test search.cost search.depth (here ∷ path)) (sym is)
    (next_is_tried test search.cost choice (run_of path) tried.0 less all, tried.1, tried.2)

-- If the newest choice isn't the last one at its place, the search preserves its invariant when this choice takes its next number.
pub another : (test : Test) (search : Search) (choices : List Choice) (table : List Known) (next : Choice)
    → (search.count ≡ 0 → ⊥) → search.count ≤ length choices
    → (get_or choices (search.count - 1) no_choice).taken < (get_or choices (search.count - 1) no_choice).place.possible
    → next ≡ next_choice (get_or choices (search.count - 1) no_choice)
    → IsSearch test search choices table → ContinuationsPass test search choices
    → IsSearch test search (set choices (search.count - 1) next) table
another test search choices table next some fits less is holds all = record {
  fits = omega (arith, fits, length-set choices (search.count - 1) next);
  tried =
      subst (AreTried test search.cost search.depth) (sym (written choices search.count next some fits))
      (next_tried test search (get_or choices (search.count - 1) no_choice) next (path_of (search.count - 1) choices) less is
      (tried_by test search choices table some fits holds) (below_by test search choices some fits all));
  known = holds.known;
  none_failed = holds.none_failed;
}

-- If the newest choice is the last one at its place, all schedules that begin with the path without this choice pass.
pub removed_passes : (test : Test) (search : Search) (choices : List Choice) (table : List Known)
    → (search.count ≡ 0 → ⊥) → search.count ≤ length choices
    → (get_or choices (search.count - 1) no_choice).place.possible ≤ (get_or choices (search.count - 1) no_choice).taken
    → IsSearch test search choices table → ContinuationsPass test search choices
    → AllPass test search.cost (get_or choices (search.count - 1) no_choice).left (run_of (path_of (search.count - 1) choices))
removed_passes test search choices table some fits last holds all =
    all_tried test search.cost (get_or choices (search.count - 1) no_choice) (run_of (path_of (search.count - 1) choices))
    (tried_by test search choices table some fits holds).0 last (below_by test search choices some fits all)

pub removed_below : (test : Test) (search : Search) (choices : List Choice) (table : List Known)
    → (search.count ≡ 0 → ⊥) → search.count ≤ length choices
    → (get_or choices (search.count - 1) no_choice).place.possible ≤ (get_or choices (search.count - 1) no_choice).taken
    → IsSearch test search choices table → ContinuationsPass test search choices
    → ContinuationsPass test (record search { count = search.count - 1 }) choices
removed_below test search choices table some fits last holds all =
    subst (λ left. AllPass test search.cost left (run_of (path_of (search.count - 1) choices)))
    (tried_by test search choices table some fits holds).1 (removed_passes test search choices table some fits last holds all)

pub removed : (test : Test) (search : Search) (choices : List Choice) (table new : List Known)
    → (search.count ≡ 0 → ⊥) → search.count ≤ length choices
    → (get_or choices (search.count - 1) no_choice).place.possible ≤ (get_or choices (search.count - 1) no_choice).taken
    → HasOneMore table (known_of (get_or choices (search.count - 1) no_choice).place.key
    (get_or choices (search.count - 1) no_choice).left) new
    → IsSearch test search choices table → EqualKeys test → ContinuationsPass test search choices
    → IsSearch test (record search { count = search.count - 1 }) choices new
removed test search choices table new some fits last more holds equal all =
    let choice : Choice = get_or choices (search.count - 1) no_choice in
    let tried = tried_by test search choices table some fits holds in
    record {
      fits = omega (arith, fits);
      tried = tried.2;
      known =
          all_known test search.cost table (known_of choice.place.key choice.left) new holds.known
          (noted_is_true test search.cost choice.left choice.place (run_of (path_of (search.count - 1) choices)) equal
          tried.0.place (removed_passes test search choices table some fits last holds all)) more;
      none_failed = holds.none_failed;
    }

pub known : (test : Test) (search : Search) (choices : List Choice) (table : List Known) (place : Place) (entry : Known) (left : ℕ)
    → IsTrueEntry test search.cost entry → IsKnownBy entry place.key left
    → left ≡ left_of search.cost search.depth (path_of search.count choices)
    → test.at (run_in search choices) ≡ Some place → ContinuationsPass test search choices
known test search choices table place entry left is_true is_known is here =
    subst (λ most. AllPass test search.cost most (run_in search choices)) is
    (known_passes test search.cost left entry place (run_in search choices) is_true is_known here)
