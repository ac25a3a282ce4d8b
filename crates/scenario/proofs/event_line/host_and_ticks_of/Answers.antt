use Rattle.std.proofs.Common.{◌≡◌, ◌∙◌, ℕ, Option, is_some, true, unwrap_or, ap, subst, sym}
use Rattle.std.proofs.lemmas.Bool.{false≢true}
use Rattle.std.proofs.lemmas.Result.{err_from_is_err_and}
use Rattle.scenario.specs.Answers.{IsFaultyCall}
use Rattle.scenario.specs.Meanings.{are_ticks, are_ticks_of}
use Rattle.scenario.specs.SoFar.{hosts_of}
use Rattle.scenario.specs.Stops.{IfFault}
use Rattle.scenario.specs.Words.{texts}
use Rattle.scenario.specs.declared.refusal.Fault.{Fault}
use Rattle.scenario.specs.declared.refusal.Fault.TheVariants as fault
use Rattle.scenario.specs.declared.refusal.Stop.{Stop}
use Rattle.scenario.proofs.LineFacts.{each-fault}
use Rattle.scenario.proofs.event_line.host_and_ticks_of.Goals as goal

pub returns-in_default-clause-err : goal.returns-in_default-clause-err
returns-in_default-clause-err c = (
  sym c.are_ticks.ensures ∙ c.if-not-are_ticks.false,
  λ known. false≢true (sym (ap is_some (sym c.host_named.ensures.place ∙ c.in_default.is)) ∙ known.host),
)

pub returns-in_err-ticks-clause-err : goal.returns-in_err-ticks-clause-err
returns-in_err-ticks-clause-err c =
    let p = err_from_is_err_and c.from_residual.result c.from_residual.ensures.1 in
    let hosts = hosts_of c.args.hosts.now in
    let name = c.args.name.now in
    let ticks = texts c.args.ticks.now in
    let spelled : are_ticks ticks ≡ true = sym c.are_ticks.ensures ∙ c.if-not-are_ticks.false in
    rw p.1 (subst (λ (stop : Stop). IfFault stop (IsFaultyCall hosts name ticks)) (sym p.2)
    (each-fault c.in_err-ticks.field-0.0 (λ (f : Fault). (f ≡ fault.Name) × (¬ (are_ticks_of hosts ticks ≡ true)))
    (IsFaultyCall hosts name ticks)
    (λ f h. subst (IsFaultyCall hosts name ticks) (sym h.0) (spelled, λ known. h.1 known.inside)) c.in_err-ticks.ensures.err))

pub returns-clause-ok : goal.returns-clause-ok
returns-clause-ok c = record {
  spelled = sym c.are_ticks.ensures ∙ c.if-not-are_ticks.false;
  known = record {
    host = ap is_some (sym c.host_named.ensures.place ∙ c.in-Some.is);
    inside = c.in_ok-ticks.ensures.ok.known;
  };
  host = ap (λ (one : Option ℕ). unwrap_or one 0) (sym c.in-Some.is ∙ c.host_named.ensures.place);
  inside = c.in_ok-ticks.ensures.ok.spelled;
}
