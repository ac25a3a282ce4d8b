use Rattle.std.proofs.Common.{◌≡◌, ◌/◌, ℕ, ap, ◌∙◌}
use Rattle.std.specs.Prelude.{slice_index}
use Rattle.rx_filter.specs.NumberTables.{numbers_of_groups}
use Rattle.bring_up.specs.Groups.{word_of}
use Rattle.bring_up.proofs.Numbers.{word-of-table, word_below}
use Rattle.bring_up.proofs.groups.write_word.Goals as goal

pub returns-clause-rewrites : goal.returns-clause-rewrites
returns-clause-rewrites g c up d is_ready =
    let group = c.args.group.now in
    let w = word_of group in
    let is : c.of-word.result.word ≡ w = c.of-word.ensures.word ∙ ap (λ (n : ℕ). n / 32) c.hash_of.ensures in
    record {
      value = slice_index c.group_table-table.result w;
      bits = word-of-table c.group_table-table.result (numbers_of_groups c.args.groups.now) w (word_below group)
          c.group_table-table.ensures;
      fits = rw (c.from.ensures, is) at c.set_word.ensures.fits;
      table = rw (c.from.ensures, is) at (c.set_word.ensures.table is_ready.honest);
      ran = rw (c.from.ensures, is) at (c.set_word.ensures.runs up d is_ready);
    }
