use Rattle.std.proofs.Common.{◌≤◌, ap, is_some, length, refl, subst, sym}
use Rattle.host_calls.specs.Networks.{NetworkState}
use Rattle.wire.specs.Equations.{NetworkStands}
use Rattle.wire.proofs.Draining.{no-host}
use Rattle.wire.proofs.lan.Lan.counts.Goals as goal

pub returns-in_err-found : goal.returns-in_err-found
returns-in_err-found c =
    let now = c.args.self.now in
    let past = subst (λ (n : NetworkState). length n.hosts ≤ c.args.host) c.self.view_is (c.in_err-found.ensures.none.0 refl) in
    record {
      none = (λ none. past, λ absent. ap is_some c.from_residual.ensures);
      counts = λ state is. no-host now c.args.host state past is;
      stands = subst NetworkStands c.self.view_is c.self.invariant;
    }

pub returns-clause-none : goal.returns-clause-none
returns-clause-none c = (
  λ none. absurd (cc none),
  λ past. c.in_ok-found.ensures.none.1 (subst (λ (n : NetworkState). length n.hosts ≤ c.args.host) (sym c.self.view_is) past),
)

pub returns-clause-stands : goal.returns-clause-stands
returns-clause-stands c = subst NetworkStands c.self.view_is c.self.invariant
