use Rattle.std.proofs.Common.{refl}
use Rattle.nic82540em.specs.Calls.{StoreAnswered}
use Rattle.nic82540em.specs.declared.watched.WatchedAdapter.{WatchedAdapter}
use Rattle.played_adapter.specs.Playing.{AnswersStore}
use Rattle.nic82540em.proofs.Pacing.{on_held, plain}
use Rattle.nic82540em.proofs.accesses.nic82540em_store.Goals as goal

pub returns-then-is_plain : goal.returns-then-is_plain
returns-then-is_plain c =
    let a = c.adapter-adapter.result.now in
    let b : WatchedAdapter = record a { player = c.store.new.self } in
    record {
      done = on_held (StoreAnswered c.args.address c.args.bytes.now c.store.result) _
          c.args.nic.now a b c.adapter-adapter.ensures.value c.requires.sound c.if-nic.true
          (plain _ _ _ _ c.store.result _ _ (AnswersStore c.args.address c.args.bytes.now c.store.result)
          a b (c.is_plain.ensures c.if-is_plain.true) c.store.ensures refl refl);
    }
