use Rattle.std.proofs.Common.{◌≡◌, ◌∙◌, Option, ap, rules}
use Rattle.step_schedules.specs.Agendas.{AgendaState}
use Rattle.played_adapter.specs.declared.player.PlayedAdapter.{PlayedAdapter}
use Rattle.server_output.specs.declared.kept.Kept.{Kept}
use Rattle.adapter_server.proofs.session.Session.copy.Goals as goal

pub returns : goal.returns
returns c =
    let a = c.args.self.now in
    let agenda = c.in_ok-clone.field-0 in
    let kept = c.in_ok-clone-2.field-0 in
    let device = c.in_ok-copy.field-0 in
    let same : agenda ≡ a.agenda = search rules in
    record {
      address = device.address;
      same = ap (λ (s : Option AgendaState). record a { device = device; kept = kept; agenda = s }) same
          ∙ ap (λ (k : Kept). record a { device = device; kept = k }) c.in_ok-clone-2.ensures.cases
          ∙ ap (λ (d : PlayedAdapter). record a { device = d }) c.in_ok-copy.ensures.same;
    }
