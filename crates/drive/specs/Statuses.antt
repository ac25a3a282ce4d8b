-- The exit status of a program that an error of a drive ends (our choice): 4 if memory was refused; 3 if a file or a stream can't be read or
-- written; 1 for an invalid answer, and for an adapter that couldn't be initialized.
use Rattle.std.specs.Prelude.{ℕ}
use Rattle.drive.specs.declared.bus_fault.BusFault.{BusFault}
use Rattle.drive.specs.declared.bus_fault.BusFault.TheVariants as bus
use Rattle.drive.specs.declared.drive_error.DriveError.{DriveError}
use Rattle.drive.specs.declared.drive_error.DriveError.TheVariants as drive

abbrev pub bus_status : BusFault → ℕ
bus_status bus.Memory = 4
bus_status bus.Answer = 1
bus_status bus.Read = 3
bus_status bus.Write = 3

abbrev pub drive_status : DriveError → ℕ
drive_status drive.Memory = 4
drive_status (drive.Init reason) = 1
drive_status (drive.Bus fault) = bus_status fault
drive_status drive.Write = 3
