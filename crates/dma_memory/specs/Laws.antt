-- Lemmas about ranges of bytes: which are inside a memory, their lengths and parts, and what a store changes.
use Rattle.std.proofs.Common.{◌≡◌, ◌≤◌, ◌<◌, ◌+◌, ◌-◌, inl, inr, ◌++◌, ◌∷◌, [], ℕ, zero, suc, List, length, take, drop, replicate, refl}
use Rattle.std.proofs.Common.{sym, ap, ◌∙◌, append_assoc, arith}
use Rattle.std.proofs.lemmas.List.{length-append, length-take-le, length-drop, length-replicate, take-replicate, drop-replicate}
use Rattle.std.proofs.lemmas.List.{take-append-drop, take-append-le, drop-append-le, take_at, drop_at, drop-drop}
use Rattle.std.proofs.Math.Seq.{take-add}
use Rattle.dma_memory.specs.HostMemory.{bytes_at, with_bytes, LiesIn}
use Rattle.dma_memory.specs.Areas.{area_at, AreApart}

-- A store of no bytes doesn't change memory, whatever the address.
pub with_bytes-none : (memory : List ℕ) (address : ℕ) → with_bytes memory address [] ≡ memory
with_bytes-none memory address =
    let none : address + 0 ≡ address = omega arith in
    append_assoc (take address memory) [] (drop (address + 0) memory) ∙ ap (λ (end : ℕ). take address memory ++ drop end memory) none
    ∙ take-append-drop address memory

bytes_at-front : (front rest : List ℕ) (address n : ℕ) → address + n ≤ length front
    → bytes_at (front ++ rest) address n ≡ bytes_at front address n
bytes_at-front front rest address n fits =
    ap (take n) (drop-append-le address front rest (omega arith))
    ∙ take-append-le n (drop address front) rest (omega (arith, length-drop address front))

bytes_at-rest : (front rest : List ℕ) (address n : ℕ) → length front ≤ address
    → bytes_at (front ++ rest) address n ≡ bytes_at rest (address - length front) n
bytes_at-rest front rest address n past =
    let k : address ≡ length front + (address - length front) = omega arith in
    ap (λ (i : ℕ). take n (drop i (front ++ rest))) k
    ∙ ap (take n) (sym (drop-drop (address - length front) (length front) (front ++ rest))
    ∙ ap (drop (address - length front)) (drop_at front rest (length front) refl))

-- A store inside memory doesn't change the size of memory.
pub length-with_bytes : (memory bytes : List ℕ) (address : ℕ) → LiesIn memory address (length bytes)
    → length (with_bytes memory address bytes) ≡ length memory
length-with_bytes memory [] address fits = ap length (with_bytes-none memory address)
length-with_bytes memory (x ∷ xs) address fits =
    let bytes = x ∷ xs in
    omega (
      arith,
      length-append (take address memory ++ bytes) (drop (address + length bytes) memory),
      length-append
          (take address memory) bytes,
      length-take-le address memory (omega arith),
      length-drop (address + length bytes) memory,
    )

-- A load at the address of a store returns the bytes that were stored.
pub bytes_at-stored : (memory bytes : List ℕ) (address : ℕ) → LiesIn memory address (length bytes)
    → bytes_at (with_bytes memory address bytes) address (length bytes) ≡ bytes
bytes_at-stored memory [] address fits = refl
bytes_at-stored memory (x ∷ xs) address fits =
    let bytes = x ∷ xs in
    ap (λ (m : List ℕ). take (length bytes) (drop address m))
    (append_assoc (take address memory) bytes (drop (address + length bytes) memory))
    ∙ ap (take (length bytes))
    (drop_at (take address memory) (bytes ++ drop (address + length bytes) memory) address
    (length-take-le address memory (omega arith)))
    ∙ take_at bytes (drop (address + length bytes) memory) (length bytes) refl

-- A store doesn't change the bytes before its address.
pub bytes_at-before : (memory bytes : List ℕ) (address i n : ℕ) → LiesIn memory address (length bytes) → i + n ≤ address
    → bytes_at (with_bytes memory address bytes) i n ≡ bytes_at memory i n
bytes_at-before memory [] address i n fits before = ap (λ (m : List ℕ). bytes_at m i n) (with_bytes-none memory address)
bytes_at-before memory (x ∷ xs) address i n fits before =
    let bytes = x ∷ xs in
    let len = length-take-le address memory (omega arith) in
    ap (λ (m : List ℕ). bytes_at m i n) (append_assoc (take address memory) bytes (drop (address + length bytes) memory))
    ∙ bytes_at-front (take address memory) (bytes ++ drop (address + length bytes) memory) i n (omega (arith, len))
    ∙ sym (bytes_at-front (take address memory) (drop address memory) i n (omega (arith, len)))
    ∙ ap (λ (m : List ℕ). bytes_at m i n) (take-append-drop address memory)

-- A store doesn't change the bytes after the last stored byte.
pub bytes_at-after : (memory bytes : List ℕ) (address i n : ℕ) → LiesIn memory address (length bytes) → address + length bytes ≤ i
    → bytes_at (with_bytes memory address bytes) i n ≡ bytes_at memory i n
bytes_at-after memory [] address i n fits after = ap (λ (m : List ℕ). bytes_at m i n) (with_bytes-none memory address)
bytes_at-after memory (x ∷ xs) address i n fits after =
    let bytes = x ∷ xs in
    let len : length (take address memory ++ bytes)
    ≡ address + length bytes = omega (arith, length-append (take address memory) bytes, length-take-le address memory (omega arith)) in
    let k : address + length bytes + (i - length (take address memory ++ bytes)) ≡ i = omega (arith, len) in
    bytes_at-rest (take address memory ++ bytes) (drop (address + length bytes) memory) i n (omega (arith, len))
    ∙ ap (take n) (drop-drop (i - length (take address memory ++ bytes)) (address + length bytes) memory)
    ∙ ap (λ (j : ℕ). take n (drop j memory)) k

-- A store doesn't change bytes that are apart from the stored bytes.
pub bytes_at-elsewhere : (memory bytes : List ℕ) (address i n : ℕ) → LiesIn memory address (length bytes)
    → AreApart (area_at address (length bytes)) (area_at i n) → bytes_at (with_bytes memory address bytes) i n ≡ bytes_at memory i n
bytes_at-elsewhere memory bytes address i n fits (inl after) = bytes_at-after memory bytes address i n fits after
bytes_at-elsewhere memory bytes address i n fits (inr before) = bytes_at-before memory bytes address i n fits before

adjacent : (memory first second : List ℕ) (address : ℕ) → address ≤ length memory
    → with_bytes (with_bytes memory address first) (address + length first) second ≡ with_bytes memory address (first ++ second)
adjacent memory first second address fits =
    let front = take address memory ++ first in
    let rest = drop (address + length first) memory in
    let len : length front
    ≡ address + length first = omega (arith, length-append (take address memory) first, length-take-le address memory fits) in
    let kept : take (address + length first) (front ++ rest) ≡ front = take_at front rest (address + length first) len in
    let behind : drop (address + length first + length second) (front ++ rest) ≡ drop (length second) rest =
    ap (λ (i : ℕ). drop i (front ++ rest)) (omega arith) ∙ sym (drop-drop (length second) (address + length first) (front ++ rest))
    ∙ ap (drop (length second)) (drop_at front rest (address + length first) len) in
    let both : drop (length second) rest ≡ drop (address + length (first ++ second)) memory =
    drop-drop (length second) (address + length first) memory ∙ ap (λ (i : ℕ). drop i memory) (omega (arith, length-append first second)) in
    rw (kept, behind, both, append_assoc (take address memory) first second) refl

-- Inside memory, two stores to adjacent ranges have the same result as one store of the joined bytes.
pub with_bytes-adjacent : (memory first second : List ℕ) (address : ℕ) → LiesIn memory address (length (first ++ second))
    → with_bytes (with_bytes memory address first) (address + length first) second ≡ with_bytes memory address (first ++ second)
with_bytes-adjacent memory [] second address fits =
    let none : address + 0 ≡ address = omega arith in
    ap (λ (start : ℕ). with_bytes (with_bytes memory address []) start second) none
    ∙ ap (λ (m : List ℕ). with_bytes m address second) (with_bytes-none memory address)
with_bytes-adjacent memory (x ∷ xs) second address fits = adjacent memory (x ∷ xs) second address (omega arith)

-- A range of n bytes inside memory has n bytes.
pub length-bytes_at : (memory : List ℕ) (address n : ℕ) → LiesIn memory address n → length (bytes_at memory address n) ≡ n
length-bytes_at memory address n fits = length-take-le n (drop address memory) (omega (arith, length-drop address memory))

-- Each range of bytes of a memory of zeros contains only zeros.
pub bytes_at-zeros : (size address n : ℕ) → LiesIn (replicate size 0) address n → bytes_at (replicate size 0) address n ≡ replicate n 0
bytes_at-zeros size address n fits =
    ap (take n) (drop-replicate address size 0) ∙ take-replicate n (size - address) 0 (omega (arith, length-replicate {A = ℕ} size 0))

-- A range of n + k bytes is its first n bytes, followed by its other k bytes.
pub bytes_at-parts : (memory : List ℕ) (address n k : ℕ)
    → bytes_at memory address (n + k) ≡ bytes_at memory address n ++ bytes_at memory (address + n) k
bytes_at-parts memory address n k = take-add n k (drop address memory)
    ∙ ap (λ (xs : List ℕ). bytes_at memory address n ++ take k xs) (drop-drop n address memory)

-- A range of bytes is inside a memory if and only if each of its bytes is.
pub LiesIn-each : (memory : List ℕ) (address n : ℕ) → LiesIn memory address n → (i : ℕ) → i < n → address + i < length memory
LiesIn-each memory address n lies i below = omega arith

pub LiesIn-from_each : (memory : List ℕ) (address n : ℕ) → ((i : ℕ) → i < n → address + i < length memory) → LiesIn memory address n
LiesIn-from_each memory address zero each = omega arith
LiesIn-from_each memory address (suc n) each =
    let last = each n (omega arith) in
    omega arith
