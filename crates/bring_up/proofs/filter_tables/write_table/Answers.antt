use Rattle.std.proofs.Common.{◌≡◌, ◌<◌, ◌+◌, ◌*◌, ◌++◌, ◌∷◌, [], ℕ, List, get_or, length, take, refl, sym, ap, subst, ◌∙◌, arith}
use Rattle.std.proofs.lemmas.List.{length-take-le}
use Rattle.adapter.proofs.Keeping.{keeps-here, keeps-on}
use Rattle.adapter.specs.Settings.{Write}
use Rattle.bring_up.specs.FilterTables.{table_writes}
use Rattle.bring_up.specs.SettingSteps.{SetsOnly}
use Rattle.bring_up.specs.WrittenRegisters.{write_at}
use Rattle.bring_up.proofs.Steps.{only-join, only-nothing, only-write}
use Rattle.bring_up.proofs.Tables.{table-push, take-all, take-more}
use Rattle.bring_up.proofs.filter_tables.write_table.Goals as goal

pub loop-word-init : goal.loop-word-init
loop-word-init g c = record {
  offset = omega arith;
  keeps = keeps-here g.B.Bus g.met.B.Bus.composes.lent_stays_here c.args.bus.now;
  sets = λ honest. only-nothing g.B.Bus g.met.B.Bus.composes.stays c.args.bus.now;
}

more : (first index : ℕ) (words : List ℕ) → index < length words
    → table_writes first (take index words) ++ write_at (first + 4 * index) (get_or words index 0) ∷ []
    ≡ table_writes first (take (index + 1) words)
more first index words below =
    let so_far : length (take index words) ≡ index = length-take-le index words (omega (arith, below)) in
    sym (ap (λ (n : ℕ). table_writes first (take index words) ++ write_at (first + 4 * n) (get_or words index 0) ∷ []) so_far)
    ∙ sym (table-push first (get_or words index 0) (take index words))
    ∙ ap (table_writes first) (take-more words index 0 below)

pub loop-word-preserved : goal.loop-word-preserved
loop-word-preserved g c =
    let here = c.loop-word in
    let kept = here.invariant in
    let start = c.args.bus.now in
    record {
      offset = omega (arith, kept.offset);
      keeps = keeps-on g.B.Bus g.met.B.Bus.composes.lent_stays_on start here.bus c.write.new.self kept.keeps c.write.ensures.keeps;
      sets = λ honest.
          subst (λ (writes : List Write). SetsOnly g.B.Bus writes start c.write.new.self)
          (more c.args.first here.word-index c.args.words.now (omega (arith, c.loop-word-test.true, c.told-words)))
          (only-join g.B.Bus g.met.B.Bus.composes.joins start here.bus c.write.new.self _ (_ ∷ []) (kept.sets honest)
          (only-write kept.offset refl (c.write.ensures.acts (kept.keeps.honest honest))));
    }

pub returns-clause-sets : goal.returns-clause-sets
returns-clause-sets g c honest =
    let here = c.loop-word in
    subst (λ (words : List ℕ). SetsOnly g.B.Bus (table_writes c.args.first words) c.args.bus.now here.bus)
    (take-all c.args.words.now (omega (arith, here.auto, c.loop-word-test.false, c.told-words))) (here.invariant.sets honest)
