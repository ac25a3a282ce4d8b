use Rattle.std.proofs.Common.{◌≡◌, ◌++◌, ◌∷◌, [], List, ap, refl, subst}
use Rattle.std.specs.Borrow.{Bor}
use Rattle.std.specs.Prelude.{Err, Ok, OnOk, Result, ℕ}
use Rattle.std.specs.Result.{result_and}
use Rattle.played_adapter.specs.declared.player.PlayedAdapter.{PlayedAdapter}
use Rattle.server_output.specs.Texts.{number_line, ok_line, word_line}
use Rattle.server_output.specs.declared.answers.Answer.TheVariants.{Done}
use Rattle.adapter_server.specs.Tasks.{PlaysTo, ReadsFrom}
use Rattle.adapter_server.specs.declared.session.AccessPlace.TheVariants.{Memory, Register}
use Rattle.adapter_server.specs.declared.task.Task.TheVariants as tasks
use Rattle.played_adapter.proofs.Telling.{tells_so}
use Rattle.adapter_server.proofs.task.Task.play.Goals as goal

offers : {E : Type 0} (pushed : Result (Unit {0}) E) (frame : Bor (List ℕ)) (wanted : ℕ) (a : PlayedAdapter) (offered : List (List ℕ))
    → OnOk pushed (offered ≡ a.offered ++ frame.now ∷ [])
    → PlaysTo (tasks.Offer frame) (result_and pushed (Ok Done)) wanted a (record a { offered = offered }) []
offers (Ok value) frame wanted a offered is = (refl, ap (λ (o : List (List ℕ)). record a { offered = o }) is, refl)
offers (Err error) frame wanted a offered is = (ok_line, record a { offered = a.offered ++ frame.now ∷ [] }, (refl, refl, refl))

pub read_from-requires : goal.read_from-requires
read_from-requires g c = (rw c.in-Read.is at c.requires).1

pub register_value-requires : goal.register_value-requires
register_value-requires g c =
    let arm = c.in-Write-Register-default-default in
    let place : arm.field-0 ≡ Register arm.offset = rw arm.is at arm.field-0-is in
    rw (arm.is, place) at c.requires

pub serve_store-requires : goal.serve_store-requires
serve_store-requires g c =
    let arm = c.in-Write-Memory-default-default in
    let place : arm.field-0 ≡ Memory = rw arm.is at arm.field-0-is in
    rw (arm.is, place) at c.requires

pub returns-in-Read-clause-plays : goal.returns-in-Read-clause-plays
returns-in-Read-clause-plays g c =
    let tells = c.read_from.ensures in
    let fits = rw c.in-Read.is at c.requires in
    rw c.in-Read.is (record {
      told = tells.told;
      holds = (
        c.read_from.new.into,
        refl,
        subst (λ (size : ℕ). ReadsFrom c.in-Read.place c.in-Read.address size c.read_from.new.into c.args.device.now
            c.read_from.new.device tells.told) fits.0 tells.holds,
      );
      hears = tells.hears;
    })

pub returns-in-Write-Register-default-default-clause-plays : goal.returns-in-Write-Register-default-default-clause-plays
returns-in-Write-Register-default-default-clause-plays g c =
    let arm = c.in-Write-Register-default-default in
    let place : arm.field-0 ≡ Register arm.offset = rw arm.is at arm.field-0-is in
    rw (arm.is, place)
    (tells_so g.O.Observer.heard _ _ _ _ (λ told plays. (refl, plays)) (rw c.register_value.ensures at c.serve_write.ensures))

pub returns-in-Write-Memory-default-default-clause-plays : goal.returns-in-Write-Memory-default-default-clause-plays
returns-in-Write-Memory-default-default-clause-plays g c =
    let arm = c.in-Write-Memory-default-default in
    let place : arm.field-0 ≡ Memory = rw arm.is at arm.field-0-is in
    rw (arm.is, place)
    (tells_so g.O.Observer.heard _ _ _ _ (λ told plays. (refl, plays)) c.serve_store.ensures)

pub returns-in-Step-clause-plays : goal.returns-in-Step-clause-plays
returns-in-Step-clause-plays g c =
    rw c.in-Step.is (tells_so g.O.Observer.heard _ _ _ _ (λ told plays. (c.step-outcome.result, ap word_line c.outcome_word.ensures, plays))
    c.step-outcome.ensures)

pub returns-in-Arrive-clause-plays : goal.returns-in-Arrive-clause-plays
returns-in-Arrive-clause-plays g c =
    rw c.in-Arrive.is (tells_so g.O.Observer.heard _ _ _ _
    (λ told plays. (c.serve_arrival-fate.result, ap word_line c.fate_word.ensures, plays))
    c.serve_arrival-fate.ensures)

pub returns-in-Settle-clause-plays : goal.returns-in-Settle-clause-plays
returns-in-Settle-clause-plays g c =
    rw c.in-Settle.is (tells_so g.O.Observer.heard _ _ _ _ (λ told plays. (c.serve_settle.result, refl, plays)) c.serve_settle.ensures)

pub returns-in-Offer-clause-plays : goal.returns-in-Offer-clause-plays
returns-in-Offer-clause-plays g c =
    rw (c.in-Offer.is, c.and.ensures) (record {
      told = [];
      holds = offers c.push.result c.in-Offer.frame c.args.wanted c.args.device.now c.push.new.self c.push.ensures.ok;
      hears = g.met.O.Observer.composes.stays c.args.observer.now;
    })

pub returns-in-Choose-clause-plays : goal.returns-in-Choose-clause-plays
returns-in-Choose-clause-plays g c =
    rw c.in-Choose.is (tells_so g.O.Observer.heard _ _ _ _
    (λ told plays. (c.serve_choose-number.result, ap number_line c.from.ensures, plays))
    c.serve_choose-number.ensures.tells)

pub returns-in-SetClock-clause-plays : goal.returns-in-SetClock-clause-plays
returns-in-SetClock-clause-plays g c =
    rw c.in-SetClock.is (tells_so g.O.Observer.heard _ _ _ _ (λ told plays. (c.serve_settle-moved.result, refl, plays))
    c.serve_settle-moved.ensures)
