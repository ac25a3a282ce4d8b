use Rattle.search.proofs.Generating.{made}
use Rattle.search.proofs.generator.start.Goals as goal

pub returns : goal.returns
returns c =
    made c.args.seed c.args.number c.next_u64_via_u32-state.result c.next_u64_via_u32-stream.result c.state.result
    c.stream.result c.seed_from_u64-runs.result c.advance.new.self c.next_u64_via_u32-state.new.rng
    c.next_u64_via_u32-stream.new.rng c.new-own.result c.seed_from_u64-runs.ensures c.advance.ensures
    c.next_u64_via_u32-state.ensures c.next_u64_via_u32-stream.ensures c.new-own.ensures c.state.ensures c.stream.ensures
