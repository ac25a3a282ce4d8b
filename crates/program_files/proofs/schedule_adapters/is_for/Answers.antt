use Rattle.std.proofs.Common.{◌∙◌, ap}
use Rattle.text.specs.Words.{texts}
use Rattle.program_files.proofs.Answering.{asked_answer, refused_answer}
use Rattle.program_files.proofs.schedule_adapters.is_for.Goals as goal

pub returns-in-Ok : goal.returns-in-Ok
returns-in-Ok c =
    asked_answer _ _ c.in-Ok.asked c.args.job.now _ (ap texts c.as_slice.ensures.value ∙ c.in_ok-words.ensures)
    c.in-Ok.ensures.job c.has_adapter_of.ensures

pub returns : goal.returns
returns c =
    refused_answer _ _ c.args.job.now c.in-Err.error c.answer_to.result (ap texts c.as_slice.ensures.value ∙ c.in_ok-words.ensures)
    c.in-Err.ensures.words c.in-Err.ensures.value c.in-Err.ensures.unicode c.answer_to.ensures
