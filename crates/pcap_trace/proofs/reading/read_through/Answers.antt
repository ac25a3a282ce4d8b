use Rattle.std.proofs.Common.{◌≡◌, List, ℕ, [], None, ap, refl, subst, sym, ◌∙◌}
use Rattle.std.proofs.lemmas.Result.{err_from_is_err_and}
use Rattle.pcap_trace.specs.declared.trace.Trace.{Trace}
use Rattle.pcap_trace.specs.Devices.{Receives}
use Rattle.pcap_trace.specs.Format.{number_order}
use Rattle.pcap_trace.specs.Reading.{header_fault, IsHeaderFault}
use Rattle.pcap_trace.proofs.Answering.{fits_fault, fits_body, passed_long, silent_fits, told_header}
use Rattle.pcap_trace.proofs.Uses.{uses_joined}
use Rattle.pcap_trace.proofs.reading.read_through.Goals as goal

-- the first read

pub returns-in_err-fill-clause-fits : goal.returns-in_err-fill-clause-fits
returns-in_err-fill-clause-fits g c =
    let p = err_from_is_err_and c.from_residual.result c.from_residual.ensures.1 in
    silent_fits (g.S.Source.left c.args.source.now) c.from_residual.result (rw (p.1, p.2) refl)

-- the file header

pub returns-in_err-order-clause-fits : goal.returns-in_err-order-clause-fits
returns-in_err-order-clause-fits g c =
    let p = err_from_is_err_and c.from_residual-in_err-order.result c.from_residual-in_err-order.ensures.1 in
    let before = g.S.Source.left c.args.source.now in
    let left = g.S.Source.left c.fill.new.source in
    let held = c.fill.new.self in
    let received : Receives [] held before left = subst (λ (old : List ℕ). Receives old held before left) c.requires.empty
    c.in_ok-fill.ensures.received in
    let fault : IsHeaderFault held c.in_err-order.field-0.0 = subst
    (λ (xs : List ℕ). IsHeaderFault xs c.in_err-order.field-0.0) c.held.ensures c.in_err-order.ensures.fault in
    rw (p.1, p.2) (fits_fault before left held c.in_err-order.field-0.0 received c.in_ok-fill.ensures.filled fault)

pub returns-in_err-order-clause-failure : goal.returns-in_err-order-clause-failure
returns-in_err-order-clause-failure g c =
    let p = err_from_is_err_and c.from_residual-in_err-order.result c.from_residual-in_err-order.ensures.1 in
    rw (p.1, p.2, c.in_ok-fill.ensures.failures)
    (told_header Trace c.held.result.now c.in_err-order.field-0.0 (g.S.Source.failures c.args.source.now) c.in_err-order.ensures.fault)

pub skip-requires : goal.skip-requires
skip-requires g c = passed_long c.in_ok-order.order c.fill.new.self (rw c.held.ensures at c.in_ok-order.ensures.ok)

-- the packets

pub returns-clause-fits : goal.returns-clause-fits
returns-clause-fits g c =
    let before = g.S.Source.left c.args.source.now in
    let left = g.S.Source.left c.fill.new.source in
    let held = c.fill.new.self in
    let received : Receives [] held before left = subst (λ (old : List ℕ). Receives old held before left) c.requires.empty
    c.in_ok-fill.ensures.received in
    let order = c.in_ok-order.order in
    let passed : header_fault (number_order order) held ≡ None =
    ap (header_fault (number_order order)) (sym c.held.ensures) ∙ c.in_ok-order.ensures.ok in
    fits_body order before left held c.read_body_in.result received c.in_ok-fill.ensures.filled passed
    (rw c.skip.ensures.rest at c.read_body_in.ensures.ok) (rw c.skip.ensures.rest at c.read_body_in.ensures.fault)

pub returns-clause-used : goal.returns-clause-used
returns-clause-used g c = uses_joined c.in_ok-fill.ensures.used c.read_body_in.ensures.used
