-- The answer to words that ask for a job, and to words that are refused.
use Rattle.std.proofs.Common.{◌≡◌, ◌≢◌, ◌↔◌, Bool, true, false, true≢false, IsTrue, IfOk, List, [], ◌∷◌, Result, Ok, Err, inl, inr, refl}
use Rattle.std.proofs.Common.{subst, sym}
use Rattle.std.specs.declared.alloc.AllocError.{AllocError}
use Rattle.clap.specs.Kinds.{IsAmong, Kinds}
use Rattle.clap.specs.Words.{Text}
use Rattle.clap.specs.declared.error.kind.ErrorKind.{ErrorKind}
use Rattle.command_line.specs.Errors.{IfValue, IfWords, IsRefusalOf}
use Rattle.command_line.specs.Jobs.{IsAskedBy, IsRefusedIn}
use Rattle.command_line.specs.declared.error.LineError.{LineError}
use Rattle.command_line.specs.declared.error.LineError.TheVariants.{Words, Value, NotUnicode, Memory}
use Rattle.command_line.specs.declared.job.Job.{Job}
use Rattle.command_line.specs.declared.job.ServeJob.{ServeJob}
use Rattle.program_files.specs.Adapters.{HasAdapterOf, IsSameAdapterAnswer}

asked_so : (words : List Text) (asked : Job) (job : ServeJob) (answer : Bool) → IsAskedBy words asked
    → IsTrue answer ↔ HasAdapterOf job asked → IsSameAdapterAnswer words job answer
asked_so words asked job true is_asked same = (asked, is_asked, same.0 refl)
asked_so words asked job false is_asked same = inr (inr (asked, is_asked, λ has. absurd (true≢false (sym (same.1 has)))))

pub asked_answer : (given words : List Text) (asked : Job) (job : ServeJob) (answer : Bool) → given ≡ words
    → IsAskedBy given asked → IsTrue answer ↔ HasAdapterOf job asked → IsSameAdapterAnswer words job answer
asked_answer given words asked job answer are is_asked same =
    let P : List Text → Type 0 = λ these. IsSameAdapterAnswer these job answer in
    subst P are (asked_so given asked job answer is_asked same)

some_among : (kind : ErrorKind) (kinds : Kinds) → IsAmong kind kinds → kinds ≢ []
some_among kind [] among empty = among
some_among kind (first ∷ rest) among empty = absurd (cc)

answer_no : (words : List Text) (job : ServeJob) (error : LineError) → IfWords error (IsRefusalOf words)
    → IfValue error (IsRefusedIn words) → error ≢ NotUnicode → error ≢ Memory → IsSameAdapterAnswer words job false
answer_no words job (Words error) refusal value unicode memory = inl (some_among _ _ refusal)
answer_no words job (Value invalid) refusal value unicode memory = inr (inl (invalid, value))
answer_no words job NotUnicode refusal value unicode memory = absurd (unicode refl)
answer_no words job Memory refusal value unicode memory = absurd (memory refl)

refused_so : (words : List Text) (job : ServeJob) (error : LineError) (answered : Result Bool AllocError)
    → IfWords error (IsRefusalOf words) → IfValue error (IsRefusedIn words) → error ≢ NotUnicode
    → IfOk answered (λ answer. (answer ≡ false) × (error ≢ Memory)) → IfOk answered (IsSameAdapterAnswer words job)
refused_so words job error (Ok false) refusal value unicode told = answer_no words job error refusal value unicode told.1
refused_so words job error (Ok true) refusal value unicode told = absurd (true≢false told.0)
refused_so words job error (Err failed) refusal value unicode told = tt

pub refused_answer : (given words : List Text) (job : ServeJob) (error : LineError) (answered : Result Bool AllocError)
    → given ≡ words → IfWords error (IsRefusalOf given) → IfValue error (IsRefusedIn given) → error ≢ NotUnicode
    → IfOk answered (λ answer. (answer ≡ false) × (error ≢ Memory)) → IfOk answered (IsSameAdapterAnswer words job)
refused_answer given words job error answered are refusal value unicode told =
    let P : List Text → Type 0 = λ these. IfOk answered (IsSameAdapterAnswer these job) in
    subst P are (refused_so given job error answered refusal value unicode told)
