use Rattle.std.proofs.Common.{◌≢◌, rules}
use Rattle.std.proofs.lemmas.List.Elements.{All-more}
use Rattle.server_requests.proofs.line_reader.length_before_feed.Goals as goal

pub loop-count-preserved : goal.loop-count-preserved
loop-count-preserved c = (search rules, All-more (λ x. x ≢ 10) _ _ 0 (search rules) c.loop-count.invariant.1 (search rules))
