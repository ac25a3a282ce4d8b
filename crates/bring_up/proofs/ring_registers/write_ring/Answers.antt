use Rattle.bring_up.proofs.ring_registers.write_ring.Goals as goal

pub returns-clause-writes : goal.returns-clause-writes
returns-clause-writes g c honest =
    let h1 = c.write.ensures.keeps.honest honest in
    let h2 = c.write-2.ensures.keeps.honest h1 in
    let h3 = c.write-3.ensures.keeps.honest h2 in
    record {
      b1 = c.write.new.self;
      b2 = c.write-2.new.self;
      b3 = c.write-3.new.self;
      b4 = c.write-4.new.self;
      base_low = rw c.low_word.ensures at (c.write.ensures.acts honest);
      base_high = rw c.high_word.ensures at (c.write-2.ensures.acts h1);
      length = c.write-3.ensures.acts h2;
      head = c.write-4.ensures.acts h3;
      tail = c.write-5.ensures.acts (c.write-4.ensures.keeps.honest h3);
    }
