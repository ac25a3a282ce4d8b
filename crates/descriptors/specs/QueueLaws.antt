-- Lemmas about queues of a fixed capacity and about what items feed to a hasher. Other crates use these lemmas, too.
use Rattle.std.proofs.Common.{◌≡◌, ◌<◌, ◌+◌, ◌-◌, ◌++◌, ◌∷◌, [], ℕ, List, length, drop, take, get_or, flat_map, fold, ap, ◌∙◌, arith}
use Rattle.std.proofs.lemmas.List.{length-append, take_more}
use Rattle.std.proofs.lemmas.List.Sums.{fold-append}
use Rattle.std.proofs.lemmas.Grind.{flat_map-append}
use Rattle.std.specs.Hash.{HashWrites}
use Rattle.circular_buffer.specs.Buffer.{keep_last}

-- If fewer than `capacity` items are in a list, the last `capacity` items after one more is added are all items.
pub keep_last-room : {A : Type 0} (items : List A) (capacity : ℕ) (item : A) → length items < capacity
    → keep_last capacity (items ++ item ∷ []) ≡ items ++ item ∷ []
keep_last-room items capacity item room =
    let none : length (items ++ item ∷ []) - capacity ≡ 0 = omega (arith, length-append items (item ∷ [])) in
    ap (λ (n : ℕ). drop n (items ++ item ∷ [])) none

-- The writes of one more item follow the writes of the items before it.
pub fed-more : {S A : Type 0} (write : S → List ℕ → S) (writes : A → HashWrites) (s : S) (items : List A) (i : ℕ) (item : A)
    → i < length items → get_or items i item ≡ item
    → fold write s (flat_map writes (take (i + 1) items)) ≡ fold write (fold write s (flat_map writes (take i items))) (writes item)
fed-more write writes s items i item below here =
    let one_more = take_more items i item below ∙ ap (λ x. take i items ++ x ∷ []) here in
    let all = ap (flat_map writes) one_more ∙ flat_map-append writes (take i items) (item ∷ []) in
    ap (fold write s) all ∙ fold-append write s (flat_map writes (take i items)) (writes item ++ [])
    ∙ fold-append write (fold write s (flat_map writes (take i items))) (writes item) []
