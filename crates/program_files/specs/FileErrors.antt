-- The errors of inputs and outputs, and the exit status of a program that such an error ends (our choice): 4 if memory was refused; 3 if a file
-- or a stream can't be opened, read or written, or is too long; 1 for an invalid trace, and for a schedule that can't be played.
use Rattle.std.specs.Prelude.{ℕ}
use Rattle.pcap_trace.specs.Statuses.{read_status}
use Rattle.program_files.specs.declared.file_error.FileError.{FileError}
use Rattle.program_files.specs.declared.file_error.FileError.TheVariants as files
use Rattle.step_schedules.specs.declared.schedule_error.ScheduleError.{ScheduleError}
use Rattle.step_schedules.specs.declared.schedule_error.ScheduleError.TheVariants as schedules

abbrev pub file_status : FileError → ℕ
file_status (files.Open path) = 3
file_status (files.Input error path) = read_status error
file_status files.TraceMemory = 4
file_status files.Pipe = 3
file_status (files.Schedule error) = 1
file_status files.OtherOptions = 1
file_status files.Write = 3
file_status files.Memory = 4

-- the error of a text that isn't a schedule
abbrev pub refused_schedule : ScheduleError → FileError
refused_schedule (schedules.Line line fault) = files.Schedule (schedules.Line line fault)
refused_schedule schedules.Text = files.Schedule schedules.Text
refused_schedule schedules.Memory = files.Memory
