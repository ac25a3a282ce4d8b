-- Lemmas about the numbers in two equal pools after the same call of `give` or of `take`.
use Rattle.std.proofs.Common.{◌≡◌, ◌∷◌, ℕ, List, Option, Some, None, IfSome, IfNone, sym, ap, subst, ◌∙◌, arith}
use Rattle.dma_memory.specs.Numbers.{Numbers}
use Rattle.dma_memory.specs.Owners.{HaveSameNumbers, copies}
use Rattle.dma_memory.specs.OwnersLaws.{copies-cons}

given_twice : (old left others : List ℕ) → HaveSameNumbers old left → HaveSameNumbers old others → HaveSameNumbers left others
given_twice old left others given given' k = sym (given k) ∙ given' k

pub given_to_both : (one other : Numbers) (number another : ℕ) (left others : List ℕ) → one ≡ other → number ≡ another
    → HaveSameNumbers (number ∷ one.free) left → HaveSameNumbers (another ∷ other.free) others → HaveSameNumbers left others
given_to_both one other number another left others same same_number given given' =
    let given : HaveSameNumbers (number ∷ other.free) left =
    subst (λ (pool : Numbers). HaveSameNumbers (number ∷ pool.free) left) same given in
    let given : HaveSameNumbers (another ∷ other.free) left =
    subst (λ (n : ℕ). HaveSameNumbers (n ∷ other.free) left) same_number given in
    given_twice (another ∷ other.free) left others given given'

taken_twice : (old left others : List ℕ) (number : ℕ) → HaveSameNumbers old (number ∷ left) → HaveSameNumbers old (number ∷ others)
    → HaveSameNumbers left others
taken_twice old left others number taken taken' k =
    omega (arith, taken k, taken' k, copies-cons k number left, copies-cons k number others)

taken_from_one : (old left others : Numbers) (number : Option ℕ)
    → IfSome number (λ number. HaveSameNumbers old.free (number ∷ left.free)) → IfNone number (left ≡ old)
    → IfSome number (λ number. HaveSameNumbers old.free (number ∷ others.free)) → IfNone number (others ≡ old)
    → HaveSameNumbers left.free others.free
taken_from_one old left others None taken stays taken' stays' k =
    ap (λ (pool : Numbers). copies k pool.free) (stays ∙ sym stays')
taken_from_one old left others (Some number) taken stays taken' stays' k =
    taken_twice old.free left.free others.free number taken taken' k

-- Both pools contain the earlier numbers without the number that was taken, if there was one.
pub taken_from_both : (one other left others : Numbers) (number another : Option ℕ) → one ≡ other → number ≡ another
    → IfSome number (λ number. HaveSameNumbers one.free (number ∷ left.free)) → IfNone number (left ≡ one)
    → IfSome another (λ number. HaveSameNumbers other.free (number ∷ others.free)) → IfNone another (others ≡ other)
    → HaveSameNumbers left.free others.free
taken_from_both one other left others number another same same_number taken stays taken' stays' =
    let taken' = subst (λ (n : Option ℕ). IfSome n (λ number. HaveSameNumbers other.free (number ∷ others.free))) (sym same_number) taken'
    in
    let stays' = subst (λ (n : Option ℕ). IfNone n (others ≡ other)) (sym same_number) stays' in
    let taken' = subst (λ (pool : Numbers). IfSome number (λ number. HaveSameNumbers pool.free (number ∷ others.free))) (sym same) taken' in
    let stays' = subst (λ (pool : Numbers). IfNone number (others ≡ pool)) (sym same) stays' in
    taken_from_one one left others number taken stays taken' stays'
