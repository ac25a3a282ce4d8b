-- Lemmas: the ticks played in some accesses, followed by those played in later accesses, are the ticks played in all of them.
use Rattle.std.proofs.Common.{◌≡◌, ◌+◌, ◌++◌, ◌∷◌, [], Bool, true, false, ℕ, List, length, refl, sym, ap, ◌∙◌, append_assoc, arith}
use Rattle.std.proofs.Common.{if◌then◌else◌, sum_by, suc}
use Rattle.std.proofs.lemmas.List.Sums.{sum_by-append, sum_by-cons}
use Rattle.bus.specs.TickGroups.{behind_group, group_of, groups_of, played_in, waiting_after}
use Rattle.bus.specs.declared.event.Access.{Access}

pub waiting_joins :
    {T : Type 0} (is_go : T → Bool) (first later : List Access) (ticks : List T)
    → waiting_after is_go (first ++ later) ticks ≡ waiting_after is_go later (waiting_after is_go first ticks)
waiting_joins is_go [] later ticks = refl
waiting_joins is_go (access ∷ first) later ticks = waiting_joins is_go first later (behind_group is_go ticks)

pub played_joins :
    {T : Type 0} (is_go : T → Bool) (go : T) (own : List T) (first later : List Access) (ticks : List T)
    → played_in is_go go own (first ++ later) ticks ≡ played_in is_go go own first ticks
    ++ played_in is_go go own later (waiting_after is_go first ticks)
played_joins is_go go own [] later ticks = refl
played_joins {T} is_go go own (access ∷ first) later ticks =
    let rest = behind_group is_go ticks in
    let before = own ++ group_of is_go ticks in
    let behind = played_in is_go go own first rest in
    ap (λ (played : List T). before ++ go ∷ played) (played_joins is_go go own first later rest)
    ∙ sym (append_assoc before (go ∷ behind) (played_in is_go go own later (waiting_after is_go first rest)))

-- Let a Go count 0. Then what is played counts as much as the bus's own ticks, the next group and what is played later together.
counts_more :
    {T : Type 0} (is_go : T → Bool) (go : T) (own : List T) (count : T → ℕ) (access : Access) (later : List Access) (ticks : List T)
    → count go ≡ 0
    → sum_by count (played_in is_go go own (access ∷ later) ticks)
    ≡ sum_by count own + sum_by count (group_of is_go ticks) + sum_by count (played_in is_go go own later (behind_group is_go ticks))
counts_more is_go go own count access later ticks none =
    let group = group_of is_go ticks in
    let behind = played_in is_go go own later (behind_group is_go ticks) in
    omega (arith, none, sum_by-append count (own ++ group) (go ∷ behind), sum_by-append count own group, sum_by-cons count go behind)

once_more : (once : Bool) (n : ℕ) → (if once then suc n else 0) ≡ (if once then 1 else 0) + (if once then n else 0)
once_more true n = omega arith
once_more false n = refl

-- Let a Go count 0, and the bus's own ticks count 1 if `once` is true, and 0 otherwise. Then what is played counts as much as the groups of
-- ticks, plus 1 for each access if `once` is true.
pub played_counts :
    {T : Type 0} (is_go : T → Bool) (go : T) (own : List T) (count : T → ℕ) (once : Bool) (accesses : List Access) (ticks : List T)
    → count go ≡ 0 → sum_by count own ≡ (if once then 1 else 0)
    → sum_by count (played_in is_go go own accesses ticks)
    ≡ (if once then length accesses else 0) + sum_by count (groups_of is_go accesses ticks)
played_counts is_go go own count true [] ticks none each = refl
played_counts is_go go own count false [] ticks none each = refl
played_counts is_go go own count once (access ∷ later) ticks none each =
    let rest = behind_group is_go ticks in
    omega (
      arith,
      each,
      once_more once (length later),
      counts_more is_go go own count access later ticks none,
      played_counts is_go go own count once later rest none each,
      sum_by-append count (group_of is_go ticks) (groups_of is_go later rest),
    )
