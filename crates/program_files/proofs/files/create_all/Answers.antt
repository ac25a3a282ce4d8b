use Rattle.std.proofs.Common.{◌≡◌, ◌∙◌, ◌+◌, ◌++◌, ◌∷◌, [], ℕ, List, ap, length, subst, sym}
use Rattle.std.proofs.Math.Nat.{le_antisymm}
use Rattle.std.proofs.lemmas.List.{length-append}
use Rattle.std.proofs.lemmas.List.Elements.{All-push}
use Rattle.std.specs.Prelude.{All}
use Rattle.pcap_trace.specs.declared.files.WriterSink.{WriterSink}
use Rattle.program_files.proofs.files.create_all.Goals as goal

one_more : {F : Type 0} (sinks more : List (WriterSink F)) (sink : WriterSink F) → more ≡ sinks ++ sink ∷ []
    → All (λ (one : WriterSink F). one.failures ≡ 0) sinks → sink.failures ≡ 0
    → All (λ (one : WriterSink F). one.failures ≡ 0) more
one_more {F} sinks more sink grown so_far new =
    let P : WriterSink F → Type 0 = λ one. one.failures ≡ 0 in
    subst (All P) (sym grown) (All-push P sinks sink so_far new)

pub loop-name-preserved : goal.loop-name-preserved
loop-name-preserved g c = record {
  count = ap length c.in_ok-push.ensures.items ∙ length-append _ _ ∙ ap (λ (n : ℕ). n + 1) c.loop-name.invariant.count;
  countable = one_more _ _ _ c.in_ok-push.ensures.items c.loop-name.invariant.countable c.in_ok-create_in.ensures;
}

pub returns-clause-count : goal.returns-clause-count
returns-clause-count g c = c.loop-name.invariant.count ∙ le_antisymm c.loop-name.auto.name-index-end c.loop-name-test.false

pub returns-clause-countable : goal.returns-clause-countable
returns-clause-countable g c = c.loop-name.invariant.countable
