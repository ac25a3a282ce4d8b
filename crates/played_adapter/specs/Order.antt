-- Things that happen in order, and what an observer is told about them (our choice).
use Rattle.std.specs.Prelude.{◌≡◌, ◌++◌, ℕ, List, [], ◌∷◌, replicate}

-- From a state to itself, an observer is told nothing. What it is told in consecutive intervals is, joined, what it is told in the whole
-- interval.
pub record ComposesHeard {O T : Type 0} (heard : O → O → List T → Type 0) : Type 0 where
  -- From a state to itself, nothing was told.
  pub stays : (a : O) → heard a a []
  -- What was told in two consecutive intervals was told in the joined interval.
  pub joins : (a b c : O) (first later : List T) → heard a b first → heard b c later → heard a c (first ++ later)

-- A list with this property was told between two states of an observer.
pub record Tells {O T : Type 0} (heard : O → O → List T → Type 0) (before after : O) (Holds : List T → Type 0) : Type 0 where
  -- the list that was told
  pub told : List T
  -- this list has the property
  pub holds : Holds told
  -- this list was told between these two states
  pub hears : heard before after told

-- One thing happens, and then another. The lists told about them are joined.
pub record Joins {S T : Type 0} (First Later : S → List T → Type 0) (told : List T) : Type 0 where
  -- the state between them
  pub middle : S
  -- what is told about the first thing
  pub first : List T
  -- what is told about the second thing
  pub rest : List T
  -- the first thing happens
  pub happens : First middle first
  -- then the second thing happens
  pub goes_on : Later middle rest
  -- both are told, in this order
  pub told_is : told ≡ first ++ rest

-- Something happens for each item of a list in order, each in the state after the items before it.
abbrev pub InOrder : {X S T : Type 0} → (X → S → S → List T → Type 0) → List X → S → S → List T → Type 0
InOrder Happens [] a b told = (b ≡ a) × (told ≡ [])
InOrder Happens (x ∷ later) a c told = Joins (λ b first. Happens x a b first) (λ b rest. InOrder Happens later b c rest) told

-- The same thing happens `count` times.
abbrev pub Times : {S T : Type 0} → (S → S → List T → Type 0) → ℕ → S → S → List T → Type 0
Times Happens count a b told = InOrder (λ (turn : ℕ). Happens) (replicate count 0) a b told
