use Rattle.std.proofs.Common.{refl, true}
use Rattle.adapter.specs.bus_types.event.Access.TheVariants.{Reads}
use Rattle.nic82540em.specs.Calls.{AccessAnswered}
use Rattle.nic82540em.specs.declared.watched.WatchedAdapter.{WatchedAdapter}
use Rattle.played_adapter.specs.Playing.{Accessed}
use Rattle.nic82540em.proofs.Pacing.{on_held, plain}
use Rattle.nic82540em.proofs.accesses.nic82540em_read.Goals as goal

pub returns-then-is_plain : goal.returns-then-is_plain
returns-then-is_plain c =
    let a = c.adapter-adapter.result.now in
    let b : WatchedAdapter = record a { player = c.read.new.self } in
    record {
      done = on_held (AccessAnswered (Reads c.args.offset c.read.result)) _
          c.args.nic.now a b c.adapter-adapter.ensures.value c.requires.sound c.if-nic.true
          (plain _ _ _ _ true _ _ (Accessed (Reads c.args.offset c.read.result))
          a b (c.is_plain.ensures c.if-is_plain.true) c.read.ensures refl refl);
    }
