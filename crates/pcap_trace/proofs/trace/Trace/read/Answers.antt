use Rattle.std.proofs.Common.{refl}
use Rattle.std.proofs.lemmas.Result.{err_from_is_err_and}
use Rattle.pcap_trace.proofs.Answering.{only_from_fits, silent_fits}
use Rattle.pcap_trace.proofs.Uses.{uses_none}
use Rattle.pcap_trace.proofs.trace.Trace.read.Goals as goal

pub returns-clause-only : goal.returns-clause-only
returns-clause-only g c = only_from_fits (g.S.Source.left c.args.source.now) c.read_through.result c.read_through.ensures.fits

pub returns-in_err-block-clause-fits : goal.returns-in_err-block-clause-fits
returns-in_err-block-clause-fits g c =
    let p = err_from_is_err_and c.from_residual.result c.from_residual.ensures.1 in
    silent_fits (g.S.Source.left c.args.source.now) c.from_residual.result (rw (p.1, p.2) refl)

pub returns-in_err-block-clause-only : goal.returns-in_err-block-clause-only
returns-in_err-block-clause-only g c = only_from_fits (g.S.Source.left c.args.source.now) c.from_residual.result
    (returns-in_err-block-clause-fits g c)

pub returns-in_err-block-clause-failure : goal.returns-in_err-block-clause-failure
returns-in_err-block-clause-failure g c =
    let p = err_from_is_err_and c.from_residual.result c.from_residual.ensures.1 in
    rw (p.1, p.2) refl

pub returns-in_err-block-clause-end : goal.returns-in_err-block-clause-end
returns-in_err-block-clause-end g c =
    let p = err_from_is_err_and c.from_residual.result c.from_residual.ensures.1 in
    rw p.1 tt

pub returns-in_err-block-clause-used : goal.returns-in_err-block-clause-used
returns-in_err-block-clause-used g c = uses_none (g.S.Source.left c.args.source.now)
