use Rattle.std.proofs.Common.{length}
use Rattle.network_plants.proofs.SoundDevices.{found-if-sound}
use Rattle.network_plants.proofs.consequences.sound_devices_are_found.Goals as goal

pub returns : goal.returns
returns g c = record {
  found = λ lively honest sum soon.
      let finds = c.find_device.ensures.finds honest in
      found-if-sound (g.B.Bus.world c.args.bus.now) (length finds.past.accesses) c.find_device.result finds.why (finds.why_lively lively)
      sum soon;
}
