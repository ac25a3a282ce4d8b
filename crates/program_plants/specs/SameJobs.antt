-- Jobs with the same values, whatever the addresses of their texts in memory are.
use Rattle.std.specs.Prelude.{◌≡◌, List, Option, ℕ}
use Rattle.std.specs.Borrow.{Bor}
use Rattle.std.specs.Option.{option_map}
use Rattle.command_line.specs.declared.job.DriveJob.{DriveJob}
use Rattle.command_line.specs.declared.job.Job.{Job}
use Rattle.command_line.specs.declared.job.Job.TheVariants.{Drive, Pass, Run, Show, Serve}
use Rattle.command_line.specs.declared.job.PassJob.{PassJob}
use Rattle.command_line.specs.declared.job.RunJob.{RunJob}
use Rattle.command_line.specs.declared.job.ServeJob.{ServeJob}
use Rattle.program_files.specs.Adapters.{HaveSameAdapter}

abbrev pub AreSameTexts : Option (Bor (List ℕ)) → Option (Bor (List ℕ)) → Type 0
AreSameTexts a b = option_map (λ (text : Bor (List ℕ)). text.now) a ≡ option_map (λ (text : Bor (List ℕ)). text.now) b

pub record AreSamePasses (a b : PassJob) : Type 0 where
  pub filter : a.filter ≡ b.filter
  pub input : a.input.now ≡ b.input.now
  pub output : a.output.now ≡ b.output.now
  pub nanos : a.nanos ≡ b.nanos

pub record AreSameRuns (a b : RunJob) : Type 0 where
  pub scenario : a.scenario.now ≡ b.scenario.now
  pub directory : a.directory.now ≡ b.directory.now
  pub wires : a.wires ≡ b.wires
  pub nanos : a.nanos ≡ b.nanos
  pub events : AreSameTexts a.events b.events

pub record AreSameServes (a b : ServeJob) : Type 0 where
  pub adapter : HaveSameAdapter a b
  pub seed : a.seed ≡ b.seed
  pub schedule : AreSameTexts a.schedule b.schedule
  pub «record» : AreSameTexts a.«record» b.«record»

pub record AreSameDrives (a b : DriveJob) : Type 0 where
  pub registers : a.registers ≡ b.registers
  pub memory : a.memory ≡ b.memory
  pub rx : a.rx ≡ b.rx
  pub tx : a.tx ≡ b.tx
  pub buffers : a.buffers ≡ b.buffers
  pub expect : a.expect ≡ b.expect
  pub idle : a.idle ≡ b.idle
  pub send : a.send.now ≡ b.send.now
  pub receive : a.receive.now ≡ b.receive.now

-- Both jobs are of the same subcommand, with the same values.
abbrev pub AreSameJobs : Job → Job → Type 0
AreSameJobs (Pass a) (Pass b) = AreSamePasses a b
AreSameJobs (Run a) (Run b) = AreSameRuns a b
AreSameJobs (Show a) (Show b) = a.trace.now ≡ b.trace.now
AreSameJobs (Serve a) (Serve b) = AreSameServes a b
AreSameJobs (Drive a) (Drive b) = AreSameDrives a b
AreSameJobs _ _ = ⊥
