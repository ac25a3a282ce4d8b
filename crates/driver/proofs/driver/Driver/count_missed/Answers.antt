use Rattle.std.proofs.Common.{refl, Bool, ◌&&◌, ◌≡◌, ◌<◌, ◌-◌, ◌+◌, ◌^◌, ◌∷◌, [], ℕ, min, sym, ap, subst, ◌∙◌, arith}
use Rattle.adapter.specs.bus_types.event.Access.TheVariants.{Reads}
use Rattle.adapter.proofs.RegisterAccesses.{ran_by-misses}
use Rattle.adapter.specs.DriverState.{DriverState, holding}
use Rattle.driver.specs.InsideDriver.{driver_state_of}
use Rattle.driver.proofs.driver.Driver.count_missed.Given.{Over}
use Rattle.driver.proofs.driver.Driver.count_missed.Goals as goal
use Rattle.driver.proofs.driver.Driver.count_missed.Goals.{then-self, else-self}
use Rattle.adapter.specs.Table.{register_at}
use Rattle.adapter.specs.World.{World, world_after_read}
use Rattle.rx_filter.specs.Registers.{FilterRegisters}
use Rattle.adapter.specs.Calls.{Ran, adds_exactly, at, only, missed_added}

is_exact : (g : Over) (c : goal.After-self-2-1 g)
    → c.if-self.self ≡ (c.self.inside.exact && adds_exactly c.self.inside.missed c.read-value.result)
is_exact g c =
    let both : Bool → Bool = λ exact. exact && adds_exactly c.self.inside.missed c.read-value.result in
    elim c.if-self.branch [
      | then-self w ↦ w.self-is ∙ w.adds_exactly-self-inside.ensures ∙ ap both (sym w.if-self.true)
      | else-self w ↦ w.self-is ∙ w.if-self.false ∙ ap both (sym w.if-self.false)
    ]

left : (g : Over) (c : goal.After-self-2-1 g)
    → driver_state_of (record c.self.inside { missed = c.saturating_add-self-inside.result; exact = c.if-self.self })
    ≡ missed_added c.read-value.result (driver_state_of c.self.inside)
left g c =
    let shape : ℕ → Bool → DriverState = λ missed exact. record (driver_state_of c.self.inside) { missed = missed; exact = exact } in
    let sum : c.saturating_add-self-inside.result
    ≡ min (c.self.inside.missed + c.read-value.result) (2 ^ 64 - 1) = omega
    (arith, c.saturating_add-self-inside.ensures, c.from.ensures) in
    ap (λ (missed : ℕ). shape missed c.if-self.self) sum
    ∙ ap (shape (min (c.self.inside.missed + c.read-value.result) (2 ^ 64 - 1))) (is_exact g c)

pub returns-clause-others : goal.returns-clause-others
returns-clause-others g c = rw (← c.self.view_is) (left g c)

pub returns-clause-ran : goal.returns-clause-ran
returns-clause-ran g c = rw (← c.self.view_is) (λ up held is.
    let d = holding held (driver_state_of c.self.inside) in
    let new = c.read-value.new.self in
    let below : c.self.inside.missed < 2 ^ 64 = omega arith in
    subst (λ (s : DriverState). Ran g.B.Bus up (only (Reads 0x4010 c.read-value.result ∷ [])) (at c.args.bus.now d)
    (at new (holding held s))) (sym (left g c))
    (ran_by-misses g.B.Bus c.args.bus.now new d c.read-value.result below
    (c.read-value.ensures.acts is.honest) is.ready))

read-clears : (world : World) → (world_after_read 0x4010 world).adapter.missed_packets ≡ 0
unfolding register_at
read-clears world = refl

read-leaves : (world : World) → (world_after_read 0x4010 world).adapter.filter.rctl ≡ world.adapter.filter.rctl
unfolding register_at
read-leaves world = refl

pub returns-clause-cleared : goal.returns-clause-cleared
returns-clause-cleared g c honest =
    let acts = c.read-value.ensures.acts honest in
    ap (λ (w : World). w.adapter.missed_packets) acts.effect_is.1 ∙ read-clears acts.middle

pub returns-clause-settings : goal.returns-clause-settings
returns-clause-settings g c honest =
    let acts = c.read-value.ensures.acts honest in
    ap (λ (w : World). w.adapter.filter.rctl) acts.effect_is.1 ∙ read-leaves acts.middle
    ∙ ap (λ (f : FilterRegisters). f.rctl) acts.before.steady.registers.filter
