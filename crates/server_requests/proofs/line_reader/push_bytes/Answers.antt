use Rattle.std.proofs.Common.{◌≡◌, ◌++◌, rules, arith, take}
use Rattle.server_requests.proofs.ReadingLines.{adds_front}
use Rattle.server_requests.proofs.line_reader.push_bytes.Goals as goal

pub returns-clause-added : goal.returns-clause-added
returns-clause-added c =
    let old = c.args.line.now.items in
    let items : c.extend_from_slice.new.self.items ≡ old ++ take c.min.result c.args.bytes.now = search rules in
    adds_front old _ _ _ _ c.requires.fits (omega (arith, c.len-room.ensures)) c.min.ensures items
