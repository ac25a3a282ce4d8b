use Rattle.std.proofs.Common.{Bool, Some, ℕ, ap, false, length, map, refl, replicate, subst, sym, ◌≡◌, ◌∙◌}
use Rattle.run_record.specs.EventLines.{LogState}
use Rattle.run_record.specs.EventLogView.{plan_name}
use Rattle.run_record.specs.Recording.{IsNewRecord}
use Rattle.run_record.specs.RunLogs.{new_log, no_refusals}
use Rattle.run_record.specs.Tallies.{no_tally}
use Rattle.run_record.specs.declared.run_log.Refusals.{Refusals}
use Rattle.run_record.specs.declared.tally.Tally.{Tally}
use Rattle.run_record.proofs.record.Record.new.Goals.{in-true+in_ok-new-in-true, in-false, in-0, in_default}
use Rattle.run_record.proofs.record.Record.new.Goals as goal

refusals-none : (counts : Refusals) → (counts.sends ≡ 0) × ((counts.groups ≡ 0) × (counts.sockets ≡ 0)) → counts ≡ no_refusals
refusals-none counts are = are-none counts.sends counts.groups counts.sockets are.0 are.1.0 are.1.1
  where
    are-none : (a b c : ℕ) → a ≡ 0 → b ≡ 0 → c ≡ 0 → record { sends = a; groups = b; sockets = c } ≡ no_refusals
    are-none a b c one two three = cc

tally-none : (tally : Tally) → (tally.accepted ≡ 0) × ((tally.put ≡ 0) × ((tally.reached ≡ 0) × ((tally.stored ≡ 0)
    × ((tally.given ≡ 0) × ((tally.sending ≡ 0) × ((tally.holding ≡ 0) × ((tally.off ≡ 0) × (tally.is_reset ≡ false))))))))
    → tally ≡ no_tally
tally-none tally are =
    are-none tally.accepted tally.put tally.reached tally.stored tally.given tally.sending tally.holding tally.off tally.is_reset are.0
    are.1.0 are.1.1.0 are.1.1.1.0 are.1.1.1.1.0 are.1.1.1.1.1.0 are.1.1.1.1.1.1.0 are.1.1.1.1.1.1.1.0 are.1.1.1.1.1.1.1.1
  where
    are-none : (a b c d e f g h : ℕ) (r : Bool) → a ≡ 0 → b ≡ 0 → c ≡ 0 → d ≡ 0 → e ≡ 0 → f ≡ 0 → g ≡ 0 → h ≡ 0 → r ≡ false
        → record { accepted = a; put = b; reached = c; stored = d; given = e; sending = f; holding = g; off = h; is_reset = r } ≡ no_tally
    are-none a b c d e f g h r one two three four five six seven eight nine = cc

pub returns-clause-log : goal.returns-clause-log
returns-clause-log c =
    let names = map plan_name c.args.plans.now in
    let none = refusals-none c.default-2.result c.default-2.ensures in
    ap (λ counts. record { refusals = counts; lines = c.if-events.lines }) none
    ∙ elim c.if-events.branch [
      | in-true+in_ok-new-in-true w ↦
          ap (λ lines. record { refusals = no_refusals; lines = lines }) (w.lines-is
          ∙ ap (λ (log : LogState). Some log) w.in_ok-new-in-true.ensures) ∙ ap (new_log names) (sym w.in-true.is)
      | in-false w ↦ ap (λ lines. record { refusals = no_refusals; lines = lines }) w.lines-is ∙ ap (new_log names) (sym w.in-false.is)
    ]

pub returns-clause-puts : goal.returns-clause-puts
returns-clause-puts c =
    elim c.match-wires.branch [
      | in-0 w ↦ subst (IsNewRecord c.args.wires) (sym w.result-is) w.in-0.is
      | in_default w ↦ subst (IsNewRecord c.args.wires) (sym w.result-is) w.new-in_default.ensures
    ]

pub returns-clause-number : goal.returns-clause-number
returns-clause-number c = refl

pub returns-clause-hosts : goal.returns-clause-hosts
returns-clause-hosts c =
    c.in_ok-hosts.ensures.items_if_clones_equal (λ y same. same)
    ∙ ap (replicate (length c.args.plans.now)) (tally-none c.default.result c.default.ensures)

pub returns-clause-returned : goal.returns-clause-returned
returns-clause-returned c = c.new-2.ensures
