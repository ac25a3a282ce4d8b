use Rattle.nic82540em.proofs.Works.{possible}
use Rattle.nic82540em.proofs.possible.possible.Goals as goal

pub returns : goal.returns
returns c =
    possible c.args.watched.now c.bit_of-take.result c.bit_of-put.result c.bit_of-data.result c.bit_of-done.result c.bit_of-eeprom.result
    c.bit_of-phy.result c.bit_of-take.ensures.bit c.bit_of-put.ensures.bit c.bit_of-data.ensures.bit c.bit_of-done.ensures.bit
    c.bit_of-eeprom.ensures.bit c.bit_of-phy.ensures.bit
