use Rattle.std.proofs.Common.{refl}
use Rattle.nic82540em.specs.Calls.{LoadAnswered}
use Rattle.nic82540em.specs.declared.watched.WatchedAdapter.{WatchedAdapter}
use Rattle.played_adapter.specs.Playing.{AnswersLoad}
use Rattle.nic82540em.proofs.Pacing.{on_held, plain}
use Rattle.nic82540em.proofs.accesses.nic82540em_load.Goals as goal

pub returns-then-is_plain : goal.returns-then-is_plain
returns-then-is_plain c =
    let a = c.adapter-adapter.result.now in
    let b : WatchedAdapter = record a { player = c.load.new.self } in
    record {
      done = on_held (LoadAnswered c.args.address c.args.into.now c.load.new.into c.load.result) _
          c.args.nic.now a b c.adapter-adapter.ensures.value c.requires.sound c.if-nic.true
          (plain _ _ _ _ c.load.result _ _ (AnswersLoad c.args.address c.args.into.now c.load.new.into c.load.result)
          a b (c.is_plain.ensures c.if-is_plain.true) c.load.ensures refl refl);
    }
