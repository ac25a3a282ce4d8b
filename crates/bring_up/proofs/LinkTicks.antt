-- The countdown of a PHY after the start of its negotiation, and its status.
use Rattle.std.proofs.Common.{◌≡◌, ◌<◌, ◌≢◌, ◌≤◌, ◌+◌, ◌-◌, ◌*◌, ◌⊎◌, ℕ, zero, suc, Bool, true, false, cond, None, bit_and, inl, inr, refl}
use Rattle.std.proofs.Common.{sym, ap, subst, ◌∙◌, arith, nat_le}
use Rattle.std.specs.Bool.{⊤}
use Rattle.std.specs.Fn.{iterate}
use Rattle.std.proofs.lemmas.Bool.{false≢true, true≢false}
use Rattle.std.proofs.lemmas.Bool.Decides.{nat_tests}
use Rattle.mdic_phy.specs.declared.phy.Link.{Link}
use Rattle.mdic_phy.specs.declared.phy.Link.TheVariants.{After, Never}
use Rattle.mdic_phy.specs.declared.phy.Negotiation.{Negotiation}
use Rattle.mdic_phy.specs.declared.phy.Negotiation.TheVariants.{NotStarted, Running, Complete}
use Rattle.mdic_phy.specs.Mdic.{MdicState}
use Rattle.mdic_phy.specs.Phy.{PhyState, after_tick, counted_down, is_complete, link_is_up}
use Rattle.registers.specs.Bits.{HasBit, Meet}
use Rattle.adapter.specs.State.{AdapterState}
use Rattle.adapter.specs.World.{World}
use Rattle.adapter.specs.Law.{Management, management_of}
use Rattle.adapter.specs.Link.{HasLink}
use Rattle.bring_up.specs.Link.{EndsCommand, IsNegotiating, NeedsMoreThan, restart_word, started, status_word}
use Rattle.bring_up.proofs.MdicAndPhy.{shown_status, ticks-none}

link-iterate : (n : ℕ) (phy : PhyState) → (iterate after_tick n phy).link ≡ phy.link
link-iterate zero phy = refl
link-iterate (suc n) phy = link-iterate n (after_tick phy)

latch-iterate : (n : ℕ) (phy : PhyState) → (iterate after_tick n phy).latched_low ≡ phy.latched_low
latch-iterate zero phy = refl
latch-iterate (suc n) phy = latch-iterate n (after_tick phy)

-- A link that is up remains up

complete-stays : (negotiation : Negotiation) → is_complete negotiation ≡ true → is_complete (counted_down negotiation) ≡ true
complete-stays NotStarted up = up
complete-stays (Running left) up = absurd (false≢true up)
complete-stays Complete up = refl

pub up-iterate : (n : ℕ) (phy : PhyState) → link_is_up phy ≡ true → link_is_up (iterate after_tick n phy) ≡ true
up-iterate zero phy up = up
up-iterate (suc n) phy up = up-iterate n (after_tick phy) (complete-stays phy.negotiation up)

-- Negotiation after its start

pub negotiating : (lively : Type 0) (all : ℕ) (a : Management) (adapter : AdapterState) (answer : ℕ)
    → EndsCommand lively restart_word all a (management_of adapter) answer
    → (begun : IsNegotiating adapter) × (begun.ticks < all)
negotiating lively all a adapter answer ends =
    let link : adapter.phy.link ≡ ends.phy.link = ap (λ (p : PhyState). p.link) ends.leaves
    ∙ link-iterate ends.ticks.later (started ends.phy.link) in
    let begun : IsNegotiating adapter = record {
      ticks = ends.ticks.later;
      phy = ends.leaves ∙ ap (λ (l : Link). iterate after_tick ends.ticks.later (started l)) (sym link);
      no_command = ap (λ (l : MdicState). l.pending) ends.mdic;
    } in
    let all_are = ends.ticks.all_are in
    (begun, omega arith)

-- A negotiation can be in this state at least this number of ticks after its start.
abbrev pub CountedFor : ℕ → Link → Negotiation → Type 0
CountedFor ticks Never negotiation = ⊤
CountedFor ticks (After d) NotStarted = ⊥
CountedFor ticks (After d) (Running left) = (left + ticks ≤ d) × (1 ≤ ticks → 1 ≤ left)
CountedFor ticks (After d) Complete = ⊤

abbrev pub HasCounted : ℕ → PhyState → Type 0
HasCounted ticks phy = CountedFor ticks phy.link phy.negotiation

counted-less : (few many : ℕ) (link : Link) (negotiation : Negotiation) → few ≤ many → CountedFor many link negotiation
    → CountedFor few link negotiation
counted-less few many Never negotiation less has = tt
counted-less few many (After d) NotStarted less has = has
counted-less few many (After d) (Running left) less has = (let so = has.0 in omega arith, λ some. has.1 (omega arith))
counted-less few many (After d) Complete less has = tt

counted-tick : (ticks : ℕ) (link : Link) (negotiation : Negotiation) → CountedFor ticks link negotiation
    → CountedFor (ticks + 1) link (counted_down negotiation)
counted-tick ticks Never negotiation has = tt
counted-tick ticks (After d) NotStarted has = has
counted-tick ticks (After d) (Running left) has = by_test (nat_le left 1) refl
  where
    by_test : (last : Bool) → nat_le left 1 ≡ last → CountedFor (ticks + 1) (After d) (cond last Complete (Running (left - 1)))
    by_test true is = tt
    by_test false is =
        let so = has.0 in
        let more : 2 ≤ left = grind (arith, nat_tests) in
        (omega arith, λ some. omega arith)
counted-tick ticks (After d) Complete has = tt

pub counted-ticks : (n few ticks : ℕ) (phy : PhyState) → few ≤ ticks + n → HasCounted ticks phy → HasCounted few (iterate after_tick n phy)
counted-ticks zero few ticks phy less has = counted-less few ticks phy.link phy.negotiation (omega arith) has
counted-ticks (suc n) few ticks phy less has = counted-ticks n few (ticks + 1) (after_tick phy) (omega arith)
    (counted-tick ticks phy.link phy.negotiation has)

counted-at_start : (link : Link) → HasCounted 0 (started link)
counted-at_start Never = tt
counted-at_start (After d) = (omega arith, λ some. absurd (omega arith))

pub has_counted : (adapter : AdapterState) → IsNegotiating adapter → HasCounted 0 adapter.phy
has_counted adapter begun =
    subst (HasCounted 0) (sym begun.phy)
    (counted-ticks begun.ticks 0 0 (started adapter.phy.link) (omega arith) (counted-at_start adapter.phy.link))

down-needs : (ticks : ℕ) (link : Link) (negotiation : Negotiation) → 1 ≤ ticks → CountedFor ticks link negotiation
    → is_complete negotiation ≡ false → NeedsMoreThan ticks link
down-needs ticks Never negotiation some has down = tt
down-needs ticks (After d) NotStarted some has down = absurd has
down-needs ticks (After d) (Running left) some has down =
    let so = has.0 in
    let left_some = has.1 some in
    omega arith
down-needs ticks (After d) Complete some has down = absurd (true≢false down)

-- What a read of the status shows

-- bits 5 and 2 aren't both set
abbrev pub NotBoth : ℕ → Type 0
NotBoth answer = (bit_and answer 0x20 ≡ 0) ⊎ (bit_and answer 0x04 ≡ 0)

pub not-both : (answer : ℕ) → ¬ (Meet answer 0x20 × Meet answer 0x04) → NotBoth answer
not-both answer none = by_cases (bit_and answer 0x20) (bit_and answer 0x04) none
  where
    by_cases : (a b : ℕ) → ¬ ((0 < a) × (0 < b)) → (a ≡ 0) ⊎ (b ≡ 0)
    by_cases zero b none = inl refl
    by_cases (suc a) zero none = inr refl
    by_cases (suc a) (suc b) none = absurd (none (omega arith, omega arith))

shows-up : (up latched : Bool) → bit_and (shown_status up latched) 0x04 ≢ 0 → up ≡ true
shows-up true latched set = refl
shows-up false latched set = absurd (set refl)

shows-down : (up latched : Bool) → latched ≡ false → NotBoth (shown_status up latched) → up ≡ false
shows-down true true free down = absurd (true≢false free)
shows-down true false free down = elim down [
  | inl none ↦ absurd (omega arith)
  | inr none ↦ absurd (omega arith)
]
shows-down false latched free down = refl

both-bits : (up latched : Bool) → bit_and (shown_status up latched) 0x04 ≢ 0 → HasBit (shown_status up latched) 5
    × HasBit (shown_status up latched) 2
both-bits true true set = absurd (set refl)
both-bits true false set = (refl, refl)
both-bits false latched set = absurd (set refl)

abbrev HasBoth : ℕ → Type 0
HasBoth value = HasBit value 5 × HasBit value 2

pub seen-of : (lively : Type 0) (all : ℕ) (a b : Management) (answer : ℕ) → EndsCommand lively status_word all a b answer
    → bit_and answer 0x04 ≢ 0 → HasBit b.mdic.value 5 × HasBit b.mdic.value 2
seen-of lively all a b answer ends set =
    let at = ends.phy in
    let value : b.mdic.value ≡ answer = ap (λ (l : MdicState). l.value) ends.mdic in
    let both = both-bits (link_is_up at) at.latched_low (λ unset. set (ap (λ (v : ℕ). bit_and v 0x04) ends.answers ∙ unset)) in
    subst HasBoth (sym (value ∙ ends.answers)) both

pub up-of : (lively : Type 0) (all : ℕ) (a : Management) (world : World) (answer : ℕ)
    → EndsCommand lively status_word all a (management_of world.adapter) answer → bit_and answer 0x04 ≢ 0 → HasLink world
up-of lively all a world answer ends set =
    let at = ends.phy in
    let up : link_is_up at
    ≡ true = shows-up (link_is_up at) at.latched_low (λ unset. set (ap (λ (v : ℕ). bit_and v 0x04) ends.answers ∙ unset)) in
    record {
      up = ap link_is_up ends.leaves ∙ up-iterate ends.ticks.later (record at { latched_low = false }) up;
      no_command = ap (λ (l : MdicState). l.pending) ends.mdic;
    }

-- Rounds of the wait

-- At least this number of rounds after negotiation started: two ticks in each round. The latch is clear after the first round. After the
-- second round, the link needs more ticks than those of all rounds.
pub record Rounds (rounds : ℕ) (management : Management) : Type 0 where
  pub no_command : management.mdic.pending ≡ None
  pub counted : HasCounted (2 * rounds) management.phy
  pub latch : 1 ≤ rounds → management.phy.latched_low ≡ false
  pub needs : 2 ≤ rounds → NeedsMoreThan (2 * rounds) management.phy.link

pub no-rounds : (adapter : AdapterState) → IsNegotiating adapter → Rounds 0 (management_of adapter)
no-rounds adapter begun = record {
  no_command = begun.no_command;
  counted = has_counted adapter begun;
  latch = λ some. absurd (omega arith);
  needs = λ some. absurd (omega arith);
}

pub one-round : (lively : Type 0) (all : ℕ) (a b : Management) (rounds answer : ℕ) → lively → EndsCommand lively status_word all a b answer
    → NotBoth answer → Rounds rounds a → Rounds (rounds + 1) b
one-round lively all a b rounds answer alive ends down before =
    let at = ends.phy in
    let ticked = ends.ticks.some alive in
    let is : at ≡ after_tick (iterate after_tick ends.ticks.before a.phy) = ends.counted
    ∙ ap after_tick (ticks-none ends.ticks.before a before.no_command) in
    let link : at.link ≡ a.phy.link = ap (λ (p : PhyState). p.link) is ∙ link-iterate ends.ticks.before a.phy in
    let at_latch : at.latched_low ≡ a.phy.latched_low = ap (λ (p : PhyState). p.latched_low) is ∙ latch-iterate ends.ticks.before a.phy in
    let has_ticked : HasCounted (2 * rounds + ends.ticks.before) (iterate after_tick ends.ticks.before a.phy) =
    counted-ticks ends.ticks.before (2 * rounds + ends.ticks.before) (2 * rounds) a.phy (omega arith) before.counted in
    let here : HasCounted (2 * (rounds + 1)) at = subst (HasCounted (2 * (rounds + 1))) (sym is)
    (counted-ticks 1 (2 * (rounds + 1)) (2 * rounds + ends.ticks.before) (iterate after_tick ends.ticks.before a.phy) (omega arith)
    has_ticked) in
    let after : PhyState = record at { latched_low = false } in
    record {
      no_command = ap (λ (l : MdicState). l.pending) ends.mdic;
      counted = subst (HasCounted (2 * (rounds + 1))) (sym ends.leaves)
          (counted-ticks ends.ticks.later (2 * (rounds + 1)) (2 * (rounds + 1)) after (omega arith) here);
      latch = λ some. ap (λ (p : PhyState). p.latched_low) ends.leaves ∙ latch-iterate ends.ticks.later after;
      needs = λ some.
          let free : at.latched_low ≡ false = at_latch ∙ before.latch (omega arith) in
          let shown : NotBoth (shown_status (link_is_up at) at.latched_low) = subst NotBoth ends.answers down in
          let needs = down-needs (2 * (rounds + 1)) at.link at.negotiation (omega arith) here
          (shows-down (link_is_up at) at.latched_low free shown) in
          subst (NeedsMoreThan (2 * (rounds + 1)))
          (sym (ap (λ (p : PhyState). p.link) ends.leaves ∙ link-iterate ends.ticks.later after)) needs;
    }
