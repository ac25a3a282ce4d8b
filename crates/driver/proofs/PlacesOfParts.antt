-- The array of `Parts`: the pieces, and then empty places.
use Rattle.std.proofs.Common.{true, false, ◌<◌, ◌≡◌, ◌≤◌, ◌+◌, ◌-◌, ◌++◌, ◌∷◌, [], ℕ, zero}
use Rattle.std.proofs.Common.{suc, List, Option, Some, None, length, length-append, replicate, set, get_or, refl, sym, ap}
use Rattle.std.proofs.Common.{◌∙◌, arith}
use Rattle.std.specs.Option.{IfNone, IfSome, is_some}
use Rattle.driver.specs.Parts.{parts_in, filled, IsFilled}
use Rattle.driver.specs.declared.parts.Part.{Part}
use Rattle.driver.specs.declared.parts.Parts.TheInside.{Inside}

parts_in-none : (k : ℕ) → parts_in (replicate k None) ≡ []
parts_in-none zero = refl
parts_in-none (suc k) = parts_in-none k

pub parts_in-filled : (parts : List Part) (k : ℕ) → parts_in (filled parts k) ≡ parts
parts_in-filled [] k = parts_in-none k
parts_in-filled (part ∷ parts) k = ap (λ (later : List Part). part ∷ later) (parts_in-filled parts k)

filled-push : (parts : List Part) (part : Part) (n j : ℕ) → length parts ≡ n
    → set (filled parts (suc j)) n (Some part) ≡ filled (parts ++ part ∷ []) j
filled-push [] part zero j is = refl
filled-push [] part (suc n) j is = absurd (omega (arith, is))
filled-push (first ∷ parts) part zero j is = absurd (omega (arith, is))
filled-push (first ∷ parts) part (suc n) j is =
    ap (λ (later : List (Option Part)). Some first ∷ later) (filled-push parts part n j (omega (arith, is)))

filled-pop : (parts : List Part) (part : Part) (n j : ℕ) → length parts ≡ n
    → set (filled (parts ++ part ∷ []) j) n None ≡ filled parts (suc j)
filled-pop [] part zero j is = refl
filled-pop [] part (suc n) j is = absurd (omega (arith, is))
filled-pop (first ∷ parts) part zero j is = absurd (omega (arith, is))
filled-pop (first ∷ parts) part (suc n) j is =
    ap (λ (later : List (Option Part)). Some first ∷ later) (filled-pop parts part n j (omega (arith, is)))

filled-last : (parts : List Part) (part : Part) (n j : ℕ) (d : Option Part) → length parts ≡ n
    → get_or (filled (parts ++ part ∷ []) j) n d ≡ Some part
filled-last [] part zero j d is = refl
filled-last [] part (suc n) j d is = absurd (omega (arith, is))
filled-last (first ∷ parts) part zero j d is = absurd (omega (arith, is))
filled-last (first ∷ parts) part (suc n) j d is = filled-last parts part n j d (omega (arith, is))

-- The list consists of n pieces, and then a last piece.
pub record HasLast (parts : List Part) (n : ℕ) : Type 0 where
  pub front : List Part
  pub last : Part
  pub is : parts ≡ front ++ last ∷ []
  pub count : length front ≡ n

has_last : (parts : List Part) (n : ℕ) → length parts ≡ suc n → HasLast parts n
has_last [] n is = absurd (omega (arith, is))
has_last (part ∷ []) n is = record { front = []; last = part; is = refl; count = omega (arith, is) }
has_last (part ∷ second ∷ parts) zero is = absurd (omega (arith, is))
has_last (part ∷ second ∷ parts) (suc n) is =
    let rest = has_last (second ∷ parts) n (omega (arith, is)) in
    record {
      front = part ∷ rest.front;
      last = rest.last;
      is = ap (λ (later : List Part). part ∷ later) rest.is;
      count = omega (arith, rest.count);
    }

filled-is : (parts : List Part) (places : List (Option Part)) (count : ℕ) → places ≡ filled parts (6 - count) → length parts ≡ count
    → count ≤ 6 → IsFilled (record { places = places; count = count })
filled-is parts places count is long most =
    let there : parts_in places ≡ parts = ap parts_in is ∙ parts_in-filled parts (6 - count) in
    record {
      places = is ∙ ap (λ (list : List Part). filled list (6 - count)) (sym there);
      count = ap length there ∙ long;
      most = most;
    }

pub record Pushed (inside : Inside) (part : Part) (places : List (Option Part)) : Type 0 where
  pub filled_still : IsFilled (record { places = places; count = inside.count + 1 })
  pub parts : parts_in places ≡ parts_in inside.places ++ part ∷ []

pub pushed : (inside : Inside) (part : Part) → IsFilled inside → inside.count ≤ 5
    → Pushed inside part (set inside.places inside.count (Some part))
pushed inside part filling room =
    let parts = parts_in inside.places in
    let n = inside.count in
    let one : 6 - n ≡ suc (6 - (n + 1)) = omega (arith, room) in
    let is : set inside.places n (Some part) ≡ filled (parts ++ part ∷ []) (6 - (n + 1)) =
    ap (λ (list : List (Option Part)). set list n (Some part)) filling.places
    ∙ ap (λ (k : ℕ). set (filled parts k) n (Some part)) one
    ∙ filled-push parts part n (6 - (n + 1)) filling.count in
    record {
      filled_still = filled-is (parts ++ part ∷ []) _ (n + 1) is
          (omega (arith, length-append parts (part ∷ []), filling.count)) (omega (arith, room));
      parts = ap parts_in is ∙ parts_in-filled (parts ++ part ∷ []) (6 - (n + 1));
    }

pub record Popped (inside : Inside) (n : ℕ) (places : List (Option Part)) : Type 0 where
  pub filled_still : IsFilled (record { places = places; count = n })
  pub last : Part
  pub stood : (d : Option Part) → get_or inside.places n d ≡ Some last
  pub parts : parts_in inside.places ≡ parts_in places ++ last ∷ []

pub popped : (inside : Inside) (n : ℕ) → IsFilled inside → inside.count ≡ n + 1 → Popped inside n (set inside.places n None)
popped inside n filling some =
    let parts = parts_in inside.places in
    let split = has_last parts n (omega (arith, filling.count, some)) in
    let k = 6 - inside.count in
    let more : suc k ≡ 6 - n = omega (arith, some, filling.most) in
    let places : inside.places ≡ filled (split.front ++ split.last ∷ []) k = filling.places
    ∙ ap (λ (list : List Part). filled list k) split.is in
    let is : set inside.places n None ≡ filled split.front (6 - n) =
    ap (λ (list : List (Option Part)). set list n None) places ∙ filled-pop split.front split.last n k split.count
    ∙ ap (filled split.front) more in
    record {
      filled_still = filled-is split.front _ n is split.count (omega (arith, some, filling.most));
      last = split.last;
      stood = λ d. ap (λ (list : List (Option Part)). get_or list n d) places ∙ filled-last split.front split.last n k d split.count;
      parts = split.is ∙ ap (λ (list : List Part). list ++ split.last ∷ []) (sym (ap parts_in is ∙ parts_in-filled split.front (6 - n)));
    }

-- The result of `pop`.
pub pop-last : (inside : Inside) (n : ℕ) (entry : List Part) (result new d : Option Part) → IsFilled inside → inside.count ≡ n + 1
    → parts_in inside.places ≡ entry → result ≡ get_or inside.places n d → new ≡ None
    → IfSome result (λ part. entry ≡ parts_in (set inside.places n new) ++ part ∷ [])
pop-last inside n entry result new d filling some shown value after =
    let gone = popped inside n filling some in
    let last : result ≡ Some gone.last = value ∙ gone.stood d in
    rw (last, after) (sym shown ∙ gone.parts)

pub pop-none : (inside : Inside) (n : ℕ) (entry : List Part) (result d : Option Part) → IsFilled inside → inside.count ≡ n + 1
    → result ≡ get_or inside.places n d → IfNone result (entry ≡ [])
pop-none inside n entry result d filling some value =
    let gone = popped inside n filling some in
    let last : result ≡ Some gone.last = value ∙ gone.stood d in
    rw last tt

-- The result of `get`.

filled-some : (parts : List Part) (index k : ℕ) (d : Option Part) → index < length parts → is_some (get_or (filled parts k) index d) ≡ true
filled-some [] index k d below = absurd (omega (arith, below))
filled-some (part ∷ parts) zero k d below = refl
filled-some (part ∷ parts) (suc index) k d below = filled-some parts index k d (omega (arith, below))

pub get-none : {A : Type 0} (inside : Inside) (index : ℕ) (result : Option A) (d : Option Part) (P : Type 0) → IsFilled inside
    → index < inside.count → is_some result ≡ is_some (get_or inside.places index d) → IfNone result P
get-none inside index None d P filling below is =
    let some : false ≡ true = is ∙ ap (λ (list : List (Option Part)). is_some (get_or list index d)) filling.places
    ∙ filled-some (parts_in inside.places) index (6 - inside.count) d (omega (arith, below, filling.count)) in
    absurd (cc)
get-none inside index (Some it) d P filling below is = tt
