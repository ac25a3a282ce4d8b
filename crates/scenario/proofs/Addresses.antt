-- The one address that a text spells.
use Rattle.std.proofs.Common.{◌≡◌, ℕ, List, [], ◌∷◌, Option, Some, None, IfSome, IfNone, lit<, refl, subst, arith}
use Rattle.std.specs.Option.{SomeIff}
use Rattle.text.specs.Addresses.{SpellsAddress}
use Rattle.scenario.specs.Spellings.{IsAddressText, address_in}

six : {a b c d e f a' b' c' d' e' f' : ℕ} → a ≡ a' → b ≡ b' → c ≡ c' → d ≡ d' → e ≡ e' → f ≡ f'
    → (a ∷ b ∷ c ∷ d ∷ e ∷ f ∷ []) ≡ (a' ∷ b' ∷ c' ∷ d' ∷ e' ∷ f' ∷ [])
six p q r s t u = rw (p, q, r, s, t, u) refl

pub same-address : (text address : List ℕ) → SpellsAddress text address → address ≡ address_in text
same-address text (a ∷ b ∷ c ∷ d ∷ e ∷ f ∷ []) spelled =
    let first = (spelled.pairs 0 (lit< tt)).value in
    let second = (spelled.pairs 1 (lit< tt)).value in
    let third = (spelled.pairs 2 (lit< tt)).value in
    let fourth = (spelled.pairs 3 (lit< tt)).value in
    let fifth = (spelled.pairs 4 (lit< tt)).value in
    let sixth = (spelled.pairs 5 (lit< tt)).value in
    six first second third fourth fifth sixth
same-address text _ spelled = absurd (omega (arith, spelled.bytes))

pub some-address : (found : Option (List ℕ)) (text : List ℕ) → IfSome found (SpellsAddress text)
    → IfNone found ((address : List ℕ) → ¬ SpellsAddress text address) → SomeIff found (IsAddressText text) (address_in text)
some-address (Some address) text spelled none =
    let same = same-address text address spelled in
    (subst (λ (bytes : List ℕ). SpellsAddress text bytes) same spelled, same)
some-address None text spelled none = none (address_in text)
