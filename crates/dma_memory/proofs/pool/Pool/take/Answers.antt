use Rattle.std.proofs.Common.{◌≡◌, ◌<◌, ◌++◌, ◌∷◌, [], ℕ, List, Option, Some, None, IfSome, arith}
use Rattle.std.specs.Option.{option_to_list}
use Rattle.dma_memory.specs.Owners.{copies, HasNoSecondOwner, HaveSameNumbers}
use Rattle.dma_memory.specs.OwnersLaws.{copies-cons, copies-push, known_from_taken, out_from_taken}
use Rattle.dma_memory.proofs.pool.Pool.take.Goals as goal

last_is_taken : (number : ℕ) (xs : List ℕ) → HaveSameNumbers (xs ++ number ∷ []) (number ∷ xs)
last_is_taken number xs k = omega (arith, copies-push k number xs, copies-cons k number xs)

known : (n : ℕ) (xs : List ℕ) (last : Option ℕ) → HasNoSecondOwner n (xs ++ option_to_list last) → IfSome last (λ number. number < n)
known n xs None once = tt
known n xs (Some number) once = known_from_taken n number (xs ++ number ∷ []) xs once (last_is_taken number xs)

out : (n : ℕ) (xs : List ℕ) (last : Option ℕ) → HasNoSecondOwner n (xs ++ option_to_list last)
    → IfSome last (λ number. copies number xs ≡ 0)
out n xs None once = tt
out n xs (Some number) once = out_from_taken n number (xs ++ number ∷ []) xs once (last_is_taken number xs)

pub returns-clause-known : goal.returns-clause-known
returns-clause-known c =
    let once = rw c.pop.ensures.items at c.self.invariant.once in
    rw (← c.self.view_is) (known c.self.inside.buffers c.pop.new.self.items c.pop.result once)

pub returns-clause-out : goal.returns-clause-out
returns-clause-out c =
    let once = rw c.pop.ensures.items at c.self.invariant.once in
    out c.self.inside.buffers c.pop.new.self.items c.pop.result once
