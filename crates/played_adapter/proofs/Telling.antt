-- What is told in order.
use Rattle.std.proofs.Common.{◌≡◌, ◌+◌, ◌++◌, ◌∙◌, ℕ, List, [], ◌∷◌, append_assoc, replicate, refl, subst, sym, ap}
use Rattle.std.proofs.lemmas.List.{append-nil, replicate_more}
use Rattle.played_adapter.specs.Order.{ComposesHeard, InOrder, Joins, Tells, Times}

pub tells_so : {O T : Type 0} (heard : O → O → List T → Type 0) (P Q : List T → Type 0) (before after : O)
    → ((told : List T) → P told → Q told) → Tells heard before after P → Tells heard before after Q
tells_so heard P Q before after so tells = record { told = tells.told; holds = so tells.told tells.holds; hears = tells.hears }

pub tells_both : {O S T : Type 0} (heard : O → O → List T → Type 0) → ComposesHeard heard → (First Later : S → List T → Type 0) (middle : S)
    (before now after : O) → Tells heard before now (First middle) → Tells heard now after (Later middle)
    → Tells heard before after (Joins First Later)
tells_both heard laws First Later middle before now after one two = record {
  told = one.told ++ two.told;
  holds = record { middle = middle; first = one.told; rest = two.told; happens = one.holds; goes_on = two.holds; told_is = refl };
  hears = laws.joins before now after one.told two.told one.hears two.hears;
}

module _ {X S T : Type 0} (Happens : X → S → S → List T → Type 0) where
  in_order_joined : (xs ys : List X) (a b c : S) (first rest : List T) → InOrder Happens xs a b first → InOrder Happens ys b c rest
      → InOrder Happens (xs ++ ys) a c (first ++ rest)
  in_order_joined [] ys a b c first rest so_far next =
      subst (λ (s : S). InOrder Happens ys s c (first ++ rest)) so_far.0
      (subst (λ (t : List T). InOrder Happens ys b c (t ++ rest)) (sym so_far.1) next)
  in_order_joined (x ∷ later) ys a b c first rest so_far next = record {
    middle = so_far.middle;
    first = so_far.first;
    rest = so_far.rest ++ rest;
    happens = so_far.happens;
    goes_on = in_order_joined later ys so_far.middle b c so_far.rest rest so_far.goes_on next;
    told_is = ap (λ (t : List T). t ++ rest) so_far.told_is ∙ append_assoc so_far.first so_far.rest rest;
  }

  in_order_one : (x : X) (a b : S) (told : List T) → Happens x a b told → InOrder Happens (x ∷ []) a b told
  in_order_one x a b told happens = record {
    middle = b;
    first = told;
    rest = [];
    happens = happens;
    goes_on = (refl, refl);
    told_is = sym (append-nil told);
  }

  pub in_order_more : (xs : List X) (x : X) (a b c : S) (told rest : List T) → InOrder Happens xs a b told → Happens x b c rest
      → InOrder Happens (xs ++ x ∷ []) a c (told ++ rest)
  in_order_more xs x a b c told rest so_far next = in_order_joined xs (x ∷ []) a b c told rest so_far (in_order_one x b c rest next)

  pub in_order_keeps : (size : S → ℕ) → ((x : X) (a b : S) (told : List T) → Happens x a b told → size b ≡ size a) → (xs : List X)
      (a b : S) (told : List T) → InOrder Happens xs a b told → size b ≡ size a
  in_order_keeps size keeps [] a b told all = ap size all.0
  in_order_keeps size keeps (x ∷ later) a b told all =
      in_order_keeps size keeps later all.middle b all.rest all.goes_on ∙ keeps x a all.middle all.first all.happens

  module _ {O : Type 0} (heard : O → O → List T → Type 0) (laws : ComposesHeard heard) where
    pub tells_none : (a : S) (before : O) → Tells heard before before (InOrder Happens [] a a)
    tells_none a before = record { told = []; holds = (refl, refl); hears = laws.stays before }

    pub tells_joined : (xs ys : List X) (a b c : S) (before now after : O) → Tells heard before now (InOrder Happens xs a b)
        → Tells heard now after (InOrder Happens ys b c) → Tells heard before after (InOrder Happens (xs ++ ys) a c)
    tells_joined xs ys a b c before now after so_far next = record {
      told = so_far.told ++ next.told;
      holds = in_order_joined xs ys a b c so_far.told next.told so_far.holds next.holds;
      hears = laws.joins before now after so_far.told next.told so_far.hears next.hears;
    }

    pub tells_one : (x : X) (a b : S) (before after : O) → Tells heard before after (Happens x a b)
        → Tells heard before after (InOrder Happens (x ∷ []) a b)
    tells_one x a b before after one =
        record { told = one.told; holds = in_order_one x a b one.told one.holds; hears = one.hears }

    pub tells_more : (xs : List X) (x : X) (a b c : S) (before now after : O) → Tells heard before now (InOrder Happens xs a b)
        → Tells heard now after (Happens x b c) → Tells heard before after (InOrder Happens (xs ++ x ∷ []) a c)
    tells_more xs x a b c before now after so_far next =
        tells_joined xs (x ∷ []) a b c before now after so_far (tells_one x b c now after next)

pub times_more : {S T O : Type 0} (Happens : S → S → List T → Type 0) (heard : O → O → List T → Type 0) → ComposesHeard heard → (count : ℕ)
    (a b c : S) (before now after : O) → Tells heard before now (Times Happens count a b) → Tells heard now after (Happens b c)
    → Tells heard before after (Times Happens (count + 1) a c)
times_more Happens heard laws count a b c before now after so_far next =
    subst (λ (turns : List ℕ). Tells heard before after (InOrder (λ (turn : ℕ). Happens) turns a c)) (replicate_more count 0)
    (tells_more (λ (turn : ℕ). Happens) heard laws (replicate count 0) 0 a b c before now after so_far next)
