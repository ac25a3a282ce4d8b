-- What a line server could play, and what a line is in a schedule.
use Rattle.std.proofs.Common.{◌≡◌, ◌<◌, ◌≤◌, ◌+◌, ◌^◌, ◌∙◌, ℕ, Bool, false, true, None, Option, ap, arith, length, refl, sym}
use Rattle.std.specs.Prelude.{Err, IfOk, Ok, Result}
use Rattle.adapter.specs.model_types.step.StepKind.TheVariants.{EepromTick, PhyTick, RxData, RxDone, TxPut, TxTake}
use Rattle.played_adapter.proofs.EachKind.{for_each, for_kind}
use Rattle.played_adapter.specs.declared.choices.Choice.TheVariants.{Arrival, Step}
use Rattle.played_adapter.specs.declared.player.PlayedAdapter.{PlayedAdapter}
use Rattle.server_output.specs.Texts.{Text}
use Rattle.server_requests.specs.Lines.{most_line_bytes}
use Rattle.server_requests.specs.Reading.{IsRequestRead}
use Rattle.server_requests.specs.declared.refusal.Refusal.{Refusal}
use Rattle.server_requests.specs.declared.refusal.Refusal.TheVariants as refusals
use Rattle.server_requests.specs.declared.request.Request.{Request}
use Rattle.adapter_server.specs.Answers.{CanDo}
use Rattle.adapter_server.specs.Comings.{Comes, ComingValue, asked_comes, met_comes, request_met}
use Rattle.adapter_server.specs.LineServers.{BitOf, MaskOf}
use Rattle.adapter_server.specs.declared.session.Session.{Session}
use Rattle.adapter_server.proofs.ReadRequests.{not_both}

pub masked : (device : PlayedAdapter) (n0 n1 n2 n3 n4 n5 n6 : ℕ) → BitOf (Step TxTake) 1 n0 device → BitOf (Step TxPut) 2 n1 device
    → BitOf (Step RxData) 4 n2 device → BitOf (Step RxDone) 8 n3 device → BitOf (Step EepromTick) 16 n4 device
    → BitOf (Step PhyTick) 32 n5 device → BitOf Arrival (2 ^ 31) n6 device
    → MaskOf (n0 + n1 + n2 + n3 + n4 + n5 + n6) device
masked device n0 n1 n2 n3 n4 n5 n6 take put moves done eeprom phy arrival = record {
  can = for_kind take.can put.can moves.can done.can eeprom.can phy.can;
  each = for_each (λ kind can. CanDo kind can device) take.can put.can moves.can done.can eeprom.can phy.can take.can_choose put.can_choose
      moves.can_choose done.can_choose eeprom.can_choose phy.can_choose;
  mask_is = rw (
    take.answer_is,
    put.answer_is,
    moves.answer_is,
    done.answer_is,
    eeprom.answer_is,
    phy.answer_is,
    arrival.answer_is,
    arrival.can_choose,
  ) refl;
}

pub alive_only : (dead : Bool) → dead ≡ false → dead ≡ true → ⊥
alive_only false alive is = cc
alive_only true alive is = cc

pub if_ok_so : {T E : Type 0} (result : Result T E) (P Q : T → Type 0) → ((value : T) → P value → Q value) → IfOk result P → IfOk result Q
if_ok_so (Ok value) P Q so holds = so value holds
if_ok_so (Err error) P Q so holds = tt

-- A line whose request was read is, in a schedule, what its request is.
pub comes_asked : (line : Text) (request : Request) (session : Session) (comes : Option ComingValue) → length line ≤ most_line_bytes
    → IsRequestRead line (Ok request) → comes ≡ met_comes (request_met request session) session → Comes line session comes
comes_asked line request session comes short read same = record {
  long = λ long. absurd (omega (arith, short, long));
  asked = λ is_short is. same ∙ sym (ap (λ (asked : Result Request Refusal). asked_comes asked session) (read.text is));
  other = λ is. absurd (not_both request refusals.Text (read.other is));
}
