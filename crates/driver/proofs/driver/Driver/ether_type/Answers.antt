use Rattle.std.proofs.Common.{◌≡◌, ◌≤◌, ◌<◌, ◌+◌, ◌++◌, ◌∷◌, [], ◌∙◌}
use Rattle.std.proofs.Common.{ℕ, List, length, take, drop, slice_index, sym, ap, subst, refl, arith}
use Rattle.std.proofs.lemmas.List.{get_or-drop, get_or-take}
use Rattle.std.specs.List.{All}
use Rattle.std.specs.Prelude.{slice_index_or}
use Rattle.dma_memory.specs.Layout.{Counts}
use Rattle.adapter.specs.bus_types.event.Access.{Access}
use Rattle.adapter.specs.bus_types.event.Access.TheVariants.{Loads}
use Rattle.adapter.proofs.Lists.{all-head}
use Rattle.adapter.proofs.DriverAccesses.{ran_by-stays}
use Rattle.adapter.proofs.ReceiveAccesses.{frame-read, ran_by-reads}
use Rattle.adapter.specs.Calls.{Ran, at, ether_type_load, only}
use Rattle.adapter.specs.DriverState.{buffer_at, holding}
use Rattle.driver.specs.Parts.{buffers_in}
use Rattle.driver.specs.declared.parts.Part.{Part}
use Rattle.driver.proofs.driver.Driver.ether_type.Given.{Over}
use Rattle.driver.proofs.driver.Driver.ether_type.Goals as goal

-- The load is from the buffer of the first piece.

first-load : (counts : Counts) (parts : List Part) (part : Part) → 0 < length parts → part ≡ slice_index_or parts 0 part
    → Loads (buffer_at counts part.buffer + 12) 2 ∷ [] ≡ ether_type_load counts (buffers_in parts)
first-load counts [] part some is = absurd (omega (arith, some))
first-load counts (one ∷ later) part some is = ap (λ (p : Part). Loads (buffer_at counts p.buffer + 12) 2 ∷ []) is

no-load : (counts : Counts) (parts : List Part) → length parts ≤ 0 → ether_type_load counts (buffers_in parts) ≡ []
no-load counts [] none = refl
no-load counts (one ∷ later) none = absurd (omega (arith, none))

first-known : (P : ℕ → Type 0) (parts : List Part) (part : Part) → 0 < length parts → part ≡ slice_index_or parts 0 part
    → All P (buffers_in parts) → P part.buffer
first-known P [] part some is known = absurd (omega (arith, some))
first-known P (one ∷ later) part some is known = subst (λ (p : Part). P p.buffer) (sym is) (all-head P one.buffer (buffers_in later) known)

-- There is no piece.

pub returns-in_default-clause-ran : goal.returns-in_default-clause-ran
returns-in_default-clause-ran g c up held is =
    let d = holding held c.args.self.now in
    let bus = c.args.bus.now in
    subst (λ (list : List Access). Ran g.B.Bus up (only list) (at bus d) (at bus d))
    (sym (no-load d.layout c.args.parts.now c.in_default.ensures.none))
    (ran_by-stays g.B.Bus g.met.B.Bus.composes.stays bus d is.ready)

pub returns-in_default-clause-shows : goal.returns-in_default-clause-shows
returns-in_default-clause-shows g c up held later first is same long = absurd (omega (arith, c.in_default.ensures.none, ap length same))

-- There is a first piece.

pub receive_buffer-requires : goal.receive_buffer-requires
receive_buffer-requires g c =
    let known = rw (← c.self.view_is) at c.requires.known in
    let some = c.in-Some.ensures in
    omega (
      arith,
      c.number.ensures,
      first-known (λ (number : ℕ). number < c.self.inside.layout.buffers) c.args.parts.now c.in-Some.first.now some.some some.part known,
    )

place_is : (g : Over) (c : goal.After-from_be_bytes g)
    → c.receive_buffer.result + 12 ≡ buffer_at c.args.self.now.layout c.in-Some.first.now.buffer + 12
place_is g c = rw (← c.self.view_is) (ap (λ (start : ℕ). start + 12) c.receive_buffer.ensures.start
    ∙ ap (λ (number : ℕ). buffer_at c.self.inside.layout number + 12) c.number.ensures)

pub returns-clause-ran : goal.returns-clause-ran
returns-clause-ran g c up held is =
    let d = holding held c.args.self.now in
    let some = c.in-Some.ensures in
    subst (λ (list : List Access). Ran g.B.Bus up (only list) (at c.args.bus.now d) (at c.load.new.self d))
    (ap (λ (place : ℕ). Loads place 2 ∷ []) (place_is g c)
    ∙ first-load d.layout c.args.parts.now c.in-Some.first.now some.some some.part)
    (ran_by-reads g.B.Bus c.args.bus.now c.load.new.self d
    (c.receive_buffer.result + 12) 2 c.load.new.into (c.load.ensures.acts is.honest) is.ready)

pub returns-clause-shows : goal.returns-clause-shows
returns-clause-shows g c up held later first is same long =
    let d = holding (held ++ first ∷ later) c.args.self.now in
    let part = c.in-Some.first.now in
    let found = c.in-Some.ensures.part ∙ ap (λ (list : List Part). slice_index_or list 0 part) (sym same) in
    let number : part.buffer ≡ first.number = ap (λ (p : Part). p.buffer) found in
    let two : c.load.new.into ≡ take 2 (drop 12 first.bytes) =
    frame-read g.B.Bus c.args.bus.now c.load.new.self d held later first
    (c.receive_buffer.result + 12) 12 2 c.load.new.into (c.load.ensures.acts is.honest) is.ready refl
    (place_is g c ∙ ap (λ (buffer : ℕ). buffer_at c.args.self.now.layout buffer + 12) number) (omega (arith, long)) in
    let byte : (i : ℕ) → i < 2 → slice_index c.load.new.into i ≡ slice_index first.bytes (12 + i) = λ i below.
    ap (λ (list : List ℕ). slice_index list i) two ∙ get_or-take 2 (drop 12 first.bytes) i 0 below ∙ get_or-drop 12 first.bytes i 0 in
    omega (arith, c.from_be_bytes.ensures, byte 0 (omega arith), byte 1 (omega arith))
