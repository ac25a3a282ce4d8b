-- If reading a line returned its request or its refusal, what follows from it answers the line.
use Rattle.std.proofs.Common.{◌≡◌, Ok, Err, Result, subst, sym}
use Rattle.adapter_server.specs.Answers.{AnswersLine, AnswersTo, Does, Refuses}
use Rattle.server_requests.specs.Reading.{IsRequestRead}
use Rattle.server_output.specs.Texts.{Text}
use Rattle.server_requests.specs.declared.refusal.Refusal.{Refusal}
use Rattle.server_requests.specs.declared.refusal.Refusal.TheVariants as refusals
use Rattle.server_requests.specs.declared.refusal.Stop.TheVariants.{Refused}
use Rattle.server_requests.specs.declared.request.Request.{Request}
use Rattle.adapter_server.specs.declared.snapshot.Server.{Server}

abbrev refused : Refusal → Result Request Refusal
refused refusal = Err refusal

pub not_both : (request : Request) (refusal : Refusal) → refused refusal ≡ Ok request → ⊥
not_both request refusal e = cc

same_refusal : (one two : Refusal) → refused one ≡ refused two → one ≡ two
same_refusal one two e = cc

pub answers_read : (line : Text) (request : Request) (a b : Server) (text : Text) → IsRequestRead line (Ok request)
    → Does request line a b text
    → AnswersLine line a b text
answers_read line request a b text read obeys = record {
  asked = λ is. subst (λ (asked : Result Request Refusal). AnswersTo asked line a b text) (sym (read.text is)) obeys;
  other = λ is. absurd (not_both request refusals.Text (read.other is));
}

pub answers_refused : (line : Text) (refusal : Refusal) (a b : Server) (text : Text) → IsRequestRead line (Err (Refused refusal))
    → Refuses refusal a b text → AnswersLine line a b text
answers_refused line refusal a b text read refuses = record {
  asked = λ is. subst (λ (asked : Result Request Refusal). AnswersTo asked line a b text) (sym (read.text is)) refuses;
  other = λ is. subst (λ (one : Refusal). Refuses one a b text) (sym (same_refusal refusals.Text refusal (read.other is))) refuses;
}
