-- MDIC and the PHY after ticks and commands.
use Rattle.std.proofs.Common.{◌≡◌, ◌+◌, ◌≢◌, ◌≤◌, ◌||◌, ℕ, zero, suc, Bool, true, false, cond, Option, None, bit_and, inl, inr, refl, sym}
use Rattle.std.proofs.Common.{ap, subst, ◌∙◌, arith}
use Rattle.std.specs.Fn.{iterate}
use Rattle.mdic_phy.specs.declared.mdic.Operation.{Operation}
use Rattle.mdic_phy.specs.declared.phy.Negotiation.{Negotiation}
use Rattle.mdic_phy.specs.declared.phy.Negotiation.TheVariants.{NotStarted, Running, Complete}
use Rattle.mdic_phy.specs.Mdic.{MdicState, mdic_after_write, ended, kept_bits, operation_of, phy_ended, with_data, with_ready}
use Rattle.mdic_phy.specs.Phy.{PhyState, after_tick, is_counting, link_is_up}
use Rattle.adapter.specs.Law.{Management, phy_ticked}
use Rattle.bring_up.specs.Link.{EndsCommand, IsCommand, restart_word, status_word}

-- Without a pending command, a tick changes only the PHY

abbrev pub quiet : ℕ → PhyState → Management
quiet value phy = record { mdic = record { value = value; pending = None }; phy = phy }

tick-quiet : (value : ℕ) (phy : PhyState) → phy_ticked (quiet value phy) ≡ quiet value (after_tick phy)
tick-quiet value phy = by_case phy.negotiation
  where
    by_case : (negotiation : Negotiation)
        → phy_ticked (quiet value (record phy { negotiation = negotiation }))
        ≡ quiet value (after_tick (record phy { negotiation = negotiation }))
    by_case NotStarted = refl
    by_case (Running left) = refl
    by_case Complete = refl

pub ticks-quiet : (n value : ℕ) (phy : PhyState) → iterate phy_ticked n (quiet value phy) ≡ quiet value (iterate after_tick n phy)
ticks-quiet zero value phy = refl
ticks-quiet (suc n) value phy = ap (iterate phy_ticked n) (tick-quiet value phy) ∙ ticks-quiet n value (after_tick phy)

quiet-of : (management : Management) → management.mdic.pending ≡ None → management ≡ quiet management.mdic.value management.phy
quiet-of management none = ap
    (λ (pending : Option Operation).
    (let same : Management =
    record { mdic = record { value = management.mdic.value; pending = pending }; phy = management.phy } in same)) none

pub ticks-none : (n : ℕ) (management : Management) → management.mdic.pending ≡ None → (iterate phy_ticked n management).phy
    ≡ iterate after_tick n management.phy
ticks-none n management none =
    ap (λ (l : Management). (iterate phy_ticked n l).phy) (quiet-of management none)
    ∙ ap (λ (l : Management). l.phy) (ticks-quiet n management.mdic.value management.phy)

-- A command that was written

abbrev pub commanded : ℕ → Management → Management
commanded words management = record { mdic = mdic_after_write words; phy = management.phy }

by_command : (P : ℕ → Type 0) (words : ℕ) → IsCommand words → P restart_word → P status_word → P words
by_command P words command restart status = elim command [
  | inl is ↦ subst P (sym is) restart
  | inr is ↦ subst P (sym is) status
]

works : (counts : Bool) (a b : Management) → cond (counts || true) a b ≡ a
works true a b = refl
works false a b = refl

-- The next tick ends the command.
abbrev Ended : Management → ℕ → Type 0
Ended management words = phy_ticked (commanded words management)
    ≡ quiet (ended (operation_of words) (kept_bits words) (after_tick management.phy))
    (phy_ended (operation_of words) (kept_bits words) (after_tick management.phy))

tick-ends : (words : ℕ) → IsCommand words → (management : Management) → Ended management words
tick-ends words command management =
    by_command (Ended management) words command (works (is_counting management.phy) _ _) (works (is_counting management.phy) _ _)

pub ticks-end : (words n : ℕ) → IsCommand words → (management : Management)
    → iterate phy_ticked (suc n) (commanded words management)
    ≡ quiet (ended (operation_of words) (kept_bits words) (after_tick management.phy))
    (iterate after_tick n (phy_ended (operation_of words) (kept_bits words) (after_tick management.phy)))
ticks-end words n command management =
    ap (iterate phy_ticked n) (tick-ends words command management)
    ∙ ticks-quiet n (ended (operation_of words) (kept_bits words) (after_tick management.phy))
    (phy_ended (operation_of words) (kept_bits words) (after_tick management.phy))

-- What MDIC shows after a command

abbrev pub ready_bit : ℕ
ready_bit = 0x1000_0000

abbrev pub error_bit : ℕ
error_bit = 0x4000_0000

-- the status that a read shows, by the link and its latch
abbrev pub shown_status : Bool → Bool → ℕ
shown_status up latched = with_ready (with_data (cond up (cond latched 0x20 0x24) 0) status_word)

not-ready-yet : (words : ℕ) → IsCommand words → bit_and (kept_bits words) ready_bit ≡ 0
not-ready-yet words command = by_command (λ w. bit_and (kept_bits w) ready_bit ≡ 0) words command refl refl

status-bit : (bit want : ℕ) → bit_and (shown_status true true) bit ≡ want → bit_and (shown_status true false) bit ≡ want
    → bit_and (shown_status false false) bit ≡ want
    → (up latched : Bool) → bit_and (shown_status up latched) bit ≡ want
status-bit bit want one two three true true = one
status-bit bit want one two three true false = two
status-bit bit want one two three false latched = three

ready-then : (words : ℕ) → IsCommand words → (s : PhyState) → bit_and (ended (operation_of words) (kept_bits words) s) ready_bit ≡ ready_bit
ready-then words command s =
    by_command (λ w. bit_and (ended (operation_of w) (kept_bits w) s) ready_bit ≡ ready_bit) words command refl
    (status-bit ready_bit ready_bit refl refl refl (link_is_up s) s.latched_low)

pub right-then : (words : ℕ) → IsCommand words → (s : PhyState) → bit_and (ended (operation_of words) (kept_bits words) s) error_bit ≡ 0
right-then words command s =
    by_command (λ w. bit_and (ended (operation_of w) (kept_bits w) s) error_bit ≡ 0) words command refl
    (status-bit error_bit 0 refl refl refl (link_is_up s) s.latched_low)

-- If MDIC doesn't show R, no tick was played since the command; if MDIC shows R, the command has ended.

pub not-ended : (words n : ℕ) → IsCommand words → (a b : Management) → b ≡ iterate phy_ticked n (commanded words a)
    → bit_and b.mdic.value ready_bit ≡ 0 → n ≡ 0
not-ended words zero command a b is unset = refl
not-ended words (suc n) command a b is unset =
    let shown : b.mdic.value ≡ ended (operation_of words) (kept_bits words) (after_tick a.phy) = ap (λ (l : Management). l.mdic.value) (is
    ∙ ticks-end words n command a) in
    let both : ready_bit ≡ 0 = sym (ready-then words command (after_tick a.phy)) ∙ ap (λ (v : ℕ). bit_and v ready_bit) (sym shown)
    ∙ unset in
    absurd (omega arith)

pub ends-of : (lively : Type 0) (words n ticks all : ℕ) → ticks + n ≡ all → IsCommand words → (a b : Management) → (lively → 1 ≤ ticks)
    → b ≡ iterate phy_ticked n (commanded words (iterate phy_ticked ticks a))
    → bit_and b.mdic.value ready_bit ≢ 0 → EndsCommand lively words all a b b.mdic.value
ends-of lively words zero ticks all total command a b ticked is set =
    absurd (set (ap (λ (l : Management). bit_and l.mdic.value ready_bit) is ∙ not-ready-yet words command))
ends-of lively words (suc n) ticks all total command a b ticked is set =
    let middle : Management = iterate phy_ticked ticks a in
    let end = is ∙ ticks-end words n command middle in
    let value = ap (λ (l : Management). l.mdic.value) end in
    record {
      ticks = record { before = ticks; later = n; all_are = omega arith; some = ticked };
      phy = after_tick middle.phy;
      counted = refl;
      answers = value;
      mdic = ap (λ (l : Management). l.mdic) end
          ∙ ap (λ (v : ℕ). (let m : MdicState = record { value = v; pending = None } in m)) (sym value);
      leaves = ap (λ (l : Management). l.phy) end;
    }
