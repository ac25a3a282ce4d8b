use Rattle.std.proofs.Common.{◌≡◌, false, rules}
use Rattle.adapter_server.proofs.Lines.{alive_only, masked}
use Rattle.adapter_server.proofs.line_server.LineServer.can.Goals as goal

pub returns : goal.returns
returns c =
    let alive : c.args.self.now.dead ≡ false = search rules in
    record {
      dead = λ dead. absurd (alive_only c.args.self.now.dead alive dead);
      mask_of = λ is. rw (← c.self.view_is)
          (masked c.self.inside.server.session.device c.bit_of-take.result c.bit_of-put.result c.bit_of-data.result c.bit_of-done.result
          c.bit_of-eeprom.result c.bit_of-phy.result c.bit_of-arrival.result c.bit_of-take.ensures.bit c.bit_of-put.ensures.bit
          c.bit_of-data.ensures.bit c.bit_of-done.ensures.bit c.bit_of-eeprom.ensures.bit c.bit_of-phy.ensures.bit
          c.bit_of-arrival.ensures.bit);
    }
