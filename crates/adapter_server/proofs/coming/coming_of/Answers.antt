use Rattle.std.proofs.Common.{◌≤◌, ◌∙◌, ap, arith, length, sym}
use Rattle.std.proofs.Common.{Option}
use Rattle.std.specs.Option.{option_map}
use Rattle.server_requests.specs.Lines.{most_line_bytes}
use Rattle.adapter_server.specs.Comings.{Comes, Met, coming_value, met_comes, task_comes}
use Rattle.adapter_server.proofs.Lines.{comes_asked, if_ok_so}
use Rattle.adapter_server.proofs.coming.coming_of.Goals as goal

pub returns-in-Some : goal.returns-in-Some
returns-in-Some c =
    let line = c.args.line.now in
    let session = c.args.session.now in
    let short : length line ≤ most_line_bytes = omega (arith, c.if-line-gt-MOST_LINE_BYTES.false) in
    if_ok_so c.coming.result _ _
    (λ coming same. comes_asked line c.in-Ok.request session (option_map coming_value coming) short c.in-Ok.ensures
    (same ∙ ap (λ (met : Option Met). met_comes met session) c.in-Some.ensures))
    c.coming.ensures

pub returns-in-Ok : goal.returns-in-Ok
returns-in-Ok c =
    let line = c.args.line.now in
    let session = c.args.session.now in
    let short : length line ≤ most_line_bytes = omega (arith, c.if-line-gt-MOST_LINE_BYTES.false) in
    comes_asked line c.in-Ok.request session _ short c.in-Ok.ensures
    (sym (ap (λ (met : Option Met). met_comes met session) c.in-None.ensures))
