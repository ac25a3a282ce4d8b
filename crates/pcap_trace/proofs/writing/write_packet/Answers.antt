use Rattle.std.proofs.Common.{◌≡◌, ◌++◌, ℕ, List, length, ap, subst, ◌∙◌}
use Rattle.std.specs.Io.KnownBytes.{Appends}
use Rattle.std.proofs.lemmas.Result.{err_from_is_err_and, on_err_weaker}
use Rattle.pcap_trace.specs.Devices.{AppendsFront}
use Rattle.pcap_trace.specs.Format.{packet_header}
use Rattle.pcap_trace.proofs.Sent.{AppendsFront-longer, AppendsFront-then}
use Rattle.pcap_trace.proofs.writing.write_packet.Goals as goal

pub returns-in_err-write_all-clause-err : goal.returns-in_err-write_all-clause-err
returns-in_err-write_all-clause-err g c =
    let p = err_from_is_err_and c.from_residual.result c.from_residual.ensures.1 in
    let a = g.W.Sink.taken c.args.sink.now in
    let b = g.W.Sink.taken c.write_all.new.sink in
    let frame = c.args.packet.now.1 in
    let header : c.packet_header.result ≡ packet_header c.args.unit c.args.packet.now.0 (length frame) = c.packet_header.ensures
    ∙ ap (packet_header c.args.unit c.args.packet.now.0) c.len.ensures.value in
    rw p.1 (subst (λ (h : List ℕ). AppendsFront a b (h ++ frame)) header
    (AppendsFront-longer a b c.packet_header.result frame c.in_err-write_all.ensures.err))

pub returns-clause-err : goal.returns-clause-err
returns-clause-err g c =
    let a = g.W.Sink.taken c.args.sink.now in
    let b = g.W.Sink.taken c.write_all.new.sink in
    let d = g.W.Sink.taken c.write_all-2.new.sink in
    let frame = c.args.packet.now.1 in
    let header : c.packet_header.result ≡ packet_header c.args.unit c.args.packet.now.0 (length frame) = c.packet_header.ensures
    ∙ ap (packet_header c.args.unit c.args.packet.now.0) c.len.ensures.value in
    let sent : Appends a b (packet_header c.args.unit c.args.packet.now.0 (length frame)) = subst (Appends a b) header
    c.in_ok-write_all.ensures.ok in
    on_err_weaker c.write_all-2.result
    (λ (part : AppendsFront b d c.as_slice.result.now). subst
    (λ (t : List ℕ). AppendsFront a d (packet_header c.args.unit c.args.packet.now.0 (length frame) ++ t)) c.as_slice.ensures.value
    (AppendsFront-then a b d (packet_header c.args.unit c.args.packet.now.0 (length frame)) c.as_slice.result.now sent part))
    c.write_all-2.ensures.err
