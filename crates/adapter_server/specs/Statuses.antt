-- The exit status of a program that an error of a server ends (our choice): 4 if memory was refused, and 3 if a stream can't be read or
-- written.
use Rattle.std.specs.Prelude.{ℕ}
use Rattle.adapter_server.specs.declared.serve_error.ServeError.{ServeError}
use Rattle.adapter_server.specs.declared.serve_error.ServeError.TheVariants as errors

abbrev pub serve_status : ServeError → ℕ
serve_status errors.Memory = 4
serve_status errors.Read = 3
serve_status errors.Write = 3
