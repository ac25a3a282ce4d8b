use Rattle.std.proofs.Common.{◌∙◌, ap, arith, take}
use Rattle.std.proofs.lemmas.Str.{IsCharBoundary-after_ascii}
use Rattle.std.specs.List.{position}
use Rattle.server_requests.specs.Words.{is_blank}
use Rattle.server_requests.proofs.Cutting.{blank_at, boundary_at, cut_as, cut_none, place_within}
use Rattle.server_requests.proofs.words.cut.Goals as goal

pub range-requires-clause-end_boundary : goal.range-requires-clause-end_boundary
range-requires-clause-end_boundary c =
    boundary_at c.args.line.now c.in-Some.end (c.in-Some.ensures ∙ ap (position is_blank) c.as_bytes.ensures.value)

pub range_from-requires : goal.range_from-requires
range_from-requires c =
    let line = c.args.line.now in
    let found = c.in-Some.ensures ∙ ap (position is_blank) c.as_bytes.ensures.value in
    λ some. IsCharBoundary-after_ascii line c.in-Some.end c.utf8.line (place_within line c.in-Some.end found)
    (blank_at line c.in-Some.end found)

pub returns-in-Some-clause-parts : goal.returns-in-Some-clause-parts
returns-in-Some-clause-parts c =
    cut_as c.args.line.now c.range.result.now c.range_from.result.now c.in-Some.end
    (c.in-Some.ensures ∙ ap (position is_blank) c.as_bytes.ensures.value)
    (c.range.ensures.value ∙ ap (λ n. take n c.args.line.now) (omega arith)) c.range_from.ensures.value

pub returns-in-None-clause-parts : goal.returns-in-None-clause-parts
returns-in-None-clause-parts c = cut_none c.args.line.now (c.in-None.ensures ∙ ap (position is_blank) c.as_bytes.ensures.value)
