use Rattle.std.proofs.Common.{◌&&◌, nat_lt, refl, true}
use Rattle.played_adapter.specs.Playing.{Arrives}
use Rattle.nic82540em.specs.Calls.{AnswersArrival}
use Rattle.nic82540em.specs.declared.watched.WatchedAdapter.{WatchedAdapter}
use Rattle.nic82540em.proofs.Pacing.{followed, on_held}
use Rattle.nic82540em.proofs.playing.nic82540em_arrive.Goals as goal

pub returns-then-nic : goal.returns-then-nic
returns-then-nic c =
    let a = c.adapter-adapter.result.now in
    let arrived : WatchedAdapter = record a { player = c.arrive-fate.new.self; events = c.arrive-fate.new.observer } in
    let b = c.follow.new.watched in
    record {
      done = on_held (AnswersArrival c.args.frame.now c.fate_number.result) _ c.args.nic.now a b c.adapter-adapter.ensures.value
          c.requires.sound c.if-nic.true
          (record {
            fate = c.arrive-fate.result;
            number_is = c.fate_number.ensures;
            arrives = followed (true && nat_lt 0 a.player.pace) (Arrives c.args.frame.now c.arrive-fate.result) a arrived b
                c.arrive-fate.ensures refl c.follow.ensures;
          });
    }
