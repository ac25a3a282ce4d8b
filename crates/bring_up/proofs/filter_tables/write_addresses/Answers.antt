use Rattle.std.proofs.Common.{◌≡◌, ◌+◌, ◌-◌, ◌++◌, add-one, ℕ, List, sym, ap, subst, ◌∙◌, arith}
use Rattle.adapter.proofs.Keeping.{keeps-here, keeps-on}
use Rattle.adapter.specs.Settings.{Write}
use Rattle.rx_filter.specs.Addresses.{high_word, low_word}
use Rattle.bring_up.specs.FilterTables.{empty_entries, entry_writes}
use Rattle.bring_up.specs.SettingSteps.{SetsOnly}
use Rattle.bring_up.proofs.Steps.{only-join, only-nothing}
use Rattle.bring_up.proofs.Tables.{entries-push}
use Rattle.bring_up.proofs.filter_tables.write_addresses.Goals as goal

pub loop-entry-init : goal.loop-entry-init
loop-entry-init g c = record {
  keeps = keeps-here g.B.Bus g.met.B.Bus.composes.lent_stays_here c.write_address.new.bus;
  sets = λ honest. only-nothing g.B.Bus g.met.B.Bus.composes.stays c.write_address.new.bus;
}

pub loop-entry-preserved : goal.loop-entry-preserved
loop-entry-preserved g c =
    let here = c.loop-entry in
    let step = c.write_address-in-loop-entry in
    record {
      keeps = keeps-on g.B.Bus g.met.B.Bus.composes.lent_stays_on c.write_address.new.bus here.bus step.new.bus here.invariant.keeps
          step.ensures.keeps;
      sets = λ honest.
          let k = here.entry - 1 in
          let count : here.entry + 1 - 1 ≡ k + 1 = omega (arith, here.auto.entry) in
          let index : 1 + k ≡ here.entry = omega (arith, here.auto.entry) in
          let more : empty_entries 1 k ++ entry_writes here.entry 0 0 ≡ empty_entries 1 (here.entry + 1 - 1) =
          ap (λ (n : ℕ). empty_entries 1 k ++ entry_writes n 0 0) (sym index) ∙ sym (entries-push 1 k)
          ∙ ap (empty_entries 1) (sym (count ∙ add-one k)) in
          subst (λ (writes : List Write). SetsOnly g.B.Bus writes c.write_address.new.bus step.new.bus) more
          (only-join g.B.Bus g.met.B.Bus.composes.joins c.write_address.new.bus here.bus step.new.bus (empty_entries 1 k)
          (entry_writes here.entry 0 0)
          (here.invariant.sets honest) (step.ensures.sets (here.invariant.keeps.honest honest)));
    }

pub returns-clause-sets : goal.returns-clause-sets
returns-clause-sets g c honest =
    let start = c.args.bus.now in
    let first = c.write_address in
    let low = c.of.ensures.low in
    let high = c.of.ensures.high in
    let one : SetsOnly g.B.Bus
    (entry_writes 0 (low_word c.args.address.now) (high_word c.args.address.now + 2147483648)) start first.new.bus =
    subst (λ (h : ℕ). SetsOnly g.B.Bus (entry_writes 0 (low_word c.args.address.now) h) start first.new.bus) high
    (subst (λ (l : ℕ). SetsOnly g.B.Bus (entry_writes 0 l c.of.result.high) start first.new.bus) low
    (first.ensures.sets honest)) in
    let last : c.loop-entry.entry - 1 ≡ 15 = omega (arith, c.loop-entry.auto, c.loop-entry-test.false) in
    let rest : SetsOnly g.B.Bus (empty_entries 1 15) first.new.bus c.loop-entry.bus =
    subst (λ (n : ℕ). SetsOnly g.B.Bus (empty_entries 1 n) first.new.bus c.loop-entry.bus) last
    (c.loop-entry.invariant.sets (first.ensures.keeps.honest honest)) in
    only-join g.B.Bus g.met.B.Bus.composes.joins start first.new.bus c.loop-entry.bus _ (empty_entries 1 15) one rest
