use Rattle.std.proofs.Common.{◌≡◌, drop, length, min, arith}
use Rattle.std.proofs.lemmas.List.{length-take, length-append, length-drop}
use Rattle.pcap_trace.proofs.FirstOf.{consumes, ends}
use Rattle.pcap_trace.proofs.files.ReaderSourceSource.read.Goals as goal

pub returns-in-Ok-clause-bytes : goal.returns-in-Ok-clause-bytes
returns-in-Ok-clause-bytes g c =
    let limit = c.args.self.now.limit in
    let after = g.R.Read.remaining c.read.new.self in
    let len : length c.read.new.buf
    ≡ min (length c.args.into.now) limit = omega (arith, c.read.auto.buf, length-take c.min-room.result c.args.into.now) in (
      consumes (g.R.Read.remaining c.args.self.now.reader) after limit c.in-Ok.count c.read.new.buf
          (drop c.min-room.result c.args.into.now) c.in-Ok.ensures.bound.0
          (omega (arith, len, c.in-Ok.ensures.bound.0)) c.in-Ok.ensures.bytes.0,
      λ none room. ends after limit c.in-Ok.count c.read.new.buf c.args.into.now len c.in-Ok.ensures.bytes.1 none
          (omega (
            arith,
            room,
            length-append c.read.new.buf
                (drop c.min-room.result c.args.into.now),
            length-drop c.min-room.result c.args.into.now,
            len,
          )),
    )
