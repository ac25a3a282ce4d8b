-- The contents of an EEPROM, as the list of its words.
use Rattle.std.specs.Prelude.{◌≡◌, ℕ, ◌+◌, ◌-◌, ◌*◌, ◌/◌, ◌%◌, List, [], ◌∷◌, ◌++◌, sum, replicate, slice_index, nat_lt, if◌then◌else◌}

-- Word k of an Ethernet address: two bytes in each word, the earlier byte in the low half (manual, "EEPROM Interface": "Ethernet Address
-- (Words 00h-02h)").
abbrev pub address_word : List ℕ → ℕ → ℕ
address_word address k = slice_index address (2 * k) + 256 * slice_index address (2 * k + 1)

-- The six bytes of the Ethernet address in words 0 to 2, the low byte of each word first (manual, "Ethernet Address (Words 00h-02h)").
abbrev pub address_bytes : List ℕ → List ℕ
address_bytes words =
    let low : ℕ → ℕ = λ k. slice_index words k % 256 in
    let high : ℕ → ℕ = λ k. slice_index words k / 256 in
    low 0 ∷ high 0 ∷ low 1 ∷ high 1 ∷ low 2 ∷ high 2 ∷ []

-- The words add up to BABAh, modulo 2 to the 16 (manual, "EEPROM Interface": "Checksum Word (3Fh)").
abbrev pub HasRightSum : List ℕ → Type 0
HasRightSum words = sum words % 65536 ≡ 0xBABA

-- The checksum word of an image that begins with these three words, if the other 60 words are 0 (our choice).
abbrev pub checksum_word : ℕ → ℕ → ℕ → ℕ
checksum_word first second third = (0xBABA + 3 * 65536 - first - second - third) % 65536

-- The image of an address: the three words of the address, 60 words of 0, and the checksum word (our choice).
abbrev pub image_with : List ℕ → List ℕ
image_with address =
    let word : ℕ → ℕ = address_word address in
    (word 0 ∷ word 1 ∷ word 2 ∷ []) ++ replicate 60 0 ++ checksum_word (word 0) (word 1) (word 2) ∷ []

-- The word at an address below 64. A read at any other address returns FFFFh (our choice).
abbrev pub word_at : List ℕ → ℕ → ℕ
word_at words address = if nat_lt address 64 then slice_index words address else 0xFFFF
