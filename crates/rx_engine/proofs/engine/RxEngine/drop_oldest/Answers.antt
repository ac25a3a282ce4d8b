use Rattle.std.proofs.Common.{◌≡◌, ◌≢◌, [], length, sym, ap, ◌∙◌, arith}
use Rattle.rx_engine.specs.Receiver.{Receiver, oldest}
use Rattle.rx_engine.specs.Room.{cost, cost_of_length}
use Rattle.rx_engine.specs.RoomLaws.{legal_later, occupied_oldest}
use Rattle.rx_engine.proofs.engine.RxEngine.drop_oldest.Goals as goal

pub invariant_of-self : goal.invariant_of-self
invariant_of-self c =
    let frames = c.self.inside.buffer.frames in
    let keeps = c.self.invariant.keeps in
    let same : frames ≡ c.args.self.now.buffer = ap (λ (r : Receiver). r.buffer) c.self.view_is in
    let some : frames ≢ [] = λ none. c.requires.some (sym same ∙ none) in
    let free = occupied_oldest frames some in
    let size : c.from.result ≡ length (oldest frames) =
    c.from.ensures ∙ c.requires.size ∙ ap (λ buffer. length (oldest buffer)) (sym same) in
    let freed : c.cost.result ≡ cost (oldest frames) = c.cost.ensures ∙ ap cost_of_length size in
    rw c.pop.ensures (record {
      capacity = c.self.invariant.capacity;
      bytes = c.self.invariant.bytes;
      occupied = omega (arith, free, freed, c.self.invariant.occupied);
      keeps = record {
        room = omega (arith, free, keeps.room);
        frames = legal_later frames keeps.frames;
        begun = omega arith;
        least = keeps.least;
        most = keeps.most;
      };
    })
