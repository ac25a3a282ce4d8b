-- The error that `serve` returns, by the error of an answer (our choice).
use Rattle.server_output.specs.declared.answer_error.AnswerError.{AnswerError}
use Rattle.server_output.specs.declared.answer_error.AnswerError.TheVariants as causes
use Rattle.adapter_server.specs.declared.serve_error.ServeError.{ServeError}
use Rattle.adapter_server.specs.declared.serve_error.ServeError.TheVariants.{Memory, Write}

-- the error of `serve` that has the same name as this error of an answer
abbrev pub ended_by : AnswerError → ServeError
ended_by causes.Memory = Memory
ended_by causes.Write = Write
