-- Each frame of a trace has one fate.
use Rattle.std.proofs.Common.{◌≡◌, ◌∷◌, [], ℕ, List, Option, Some, None, refl, arith}
use Rattle.pcap_bench.specs.Passing.{Fate, Filter, HaveFates, IsFateBy, WritesKept, filtered, illegal, kept}
use Rattle.pcap_bench.specs.declared.counts.PassCounts.{PassCounts}
use Rattle.pcap_trace.specs.declared.unit.Unit.{Unit}

one_fate : (keeps : Filter) (frame : List ℕ) (a b : Fate) → IsFateBy keeps frame a → IsFateBy keeps frame b → a ≡ b
one_fate keeps frame illegal illegal p q = refl
one_fate keeps frame illegal filtered p q = absurd (cc (p, q.0))
one_fate keeps frame illegal kept p q = absurd (cc (p, q.0))
one_fate keeps frame filtered illegal p q = absurd (cc (p.0, q))
one_fate keeps frame filtered filtered p q = refl
one_fate keeps frame filtered kept p q = absurd (p.1 q.1)
one_fate keeps frame kept illegal p q = absurd (cc (p.0, q))
one_fate keeps frame kept filtered p q = absurd (q.1 p.1)
one_fate keeps frame kept kept p q = refl

fates_are_one : (keeps : Filter) (frames : List (List ℕ)) (a b : List Fate) → HaveFates keeps frames a → HaveFates keeps frames b → a ≡ b
fates_are_one keeps [] [] [] p q = refl
fates_are_one keeps [] [] (y ∷ ys) p q = absurd q
fates_are_one keeps [] (x ∷ xs) b p q = absurd p
fates_are_one keeps (frame ∷ later) [] b p q = absurd p
fates_are_one keeps (frame ∷ later) (x ∷ xs) [] p q = absurd q
fates_are_one keeps (frame ∷ later) (x ∷ xs) (y ∷ ys) p q =
    let first = one_fate keeps frame x y p.0 q.0 in
    let rest = fates_are_one keeps later xs ys p.1 q.1 in
    cc (first, rest)

pub counts_are_one : (unit : Unit) (keeps : Filter) (frames : List (List ℕ)) (counts others : PassCounts)
    (before after before' after' : Option (List ℕ)) → WritesKept unit keeps frames counts before after
    → WritesKept unit keeps frames others before' after' → counts ≡ others
counts_are_one unit keeps frames counts others before after before' after' p q =
    let fates = fates_are_one keeps frames p.fates q.fates p.right q.right in
    grind (arith, fates, p.read_is, q.read_is, p.illegal_is, q.illegal_is, p.filtered_is, q.filtered_is, p.written_is, q.written_is)

pub written_is_one : (unit : Unit) (keeps : Filter) (frames : List (List ℕ)) (counts others : PassCounts) (bytes : List ℕ)
    (after after' : Option (List ℕ)) → WritesKept unit keeps frames counts (Some bytes) after
    → WritesKept unit keeps frames others (Some bytes) after' → after ≡ after'
written_is_one unit keeps frames counts others bytes None after' p q = absurd p.went
written_is_one unit keeps frames counts others bytes (Some xs) None p q = absurd q.went
written_is_one unit keeps frames counts others bytes (Some xs) (Some ys) p q =
    let fates = fates_are_one keeps frames p.fates q.fates p.right q.right in
    grind (arith, fates, p.went, q.went)
