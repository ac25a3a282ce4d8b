-- Whether options of `serve` define the adapter of a job (our choice).
use Rattle.std.specs.Prelude.{◌≡◌, ◌⊎◌, ◌∷◌, [], Bool, true, false, List, codes}
use Rattle.clap.specs.Words.{Text}
use Rattle.command_line.specs.Jobs.{IsAskedBy, IsRefusedIn}
use Rattle.command_line.specs.Shape.{refusals}
use Rattle.command_line.specs.declared.error.InvalidValue.{InvalidValue}
use Rattle.command_line.specs.declared.job.Job.{Job}
use Rattle.command_line.specs.declared.job.Job.TheVariants.{Drive, Pass, Run, Show, Serve}
use Rattle.command_line.specs.declared.job.ServeImage.{ServeImage}
use Rattle.command_line.specs.declared.job.ServeImage.TheVariants.{Address, File}
use Rattle.command_line.specs.declared.job.ServeJob.{ServeJob}

-- the words of the program that run `serve` with these options
abbrev pub serve_words : List Text → List Text
serve_words options = codes "nicbench" ∷ codes "serve" ∷ options

-- Both images are of the same address, or of files with the same path.
abbrev pub AreSameImage : ServeImage → ServeImage → Type 0
AreSameImage (Address address) (Address other) = address ≡ other
AreSameImage (File path) (File other) = path.now ≡ other.now
AreSameImage _ _ = ⊥

-- Two jobs have the same adapter: all options are the same, but the seed and the files of schedules may differ.
pub record HaveSameAdapter (job other : ServeJob) : Type 0 where
  pub memory : job.memory ≡ other.memory
  pub registers : job.registers ≡ other.registers
  pub image : AreSameImage job.image other.image
  pub link : job.link ≡ other.link
  pub kilobytes : job.receive_kilobytes ≡ other.receive_kilobytes
  pub missed : job.missed ≡ other.missed

-- The second job is one of `serve`, and has the adapter of the first job.
abbrev pub HasAdapterOf : ServeJob → Job → Type 0
HasAdapterOf job (Serve asked) = HaveSameAdapter asked job
HasAdapterOf job (Pass asked) = ⊥
HasAdapterOf job (Run asked) = ⊥
HasAdapterOf job (Show asked) = ⊥
HasAdapterOf job (Drive asked) = ⊥

-- The result is true only if the words define the adapter of the job. It is false only if the words or a value in them are invalid, or if
-- the words define another adapter, or a job of another subcommand.
abbrev pub IsSameAdapterAnswer : List Text → ServeJob → Bool → Type 0
IsSameAdapterAnswer words job true = (asked : Job) × IsAskedBy words asked × HasAdapterOf job asked
IsSameAdapterAnswer words job false =
    ¬ (refusals words ≡ [])
    ⊎ (((value : InvalidValue) × IsRefusedIn words value)
    ⊎ ((asked : Job) × IsAskedBy words asked × ¬ HasAdapterOf job asked))
