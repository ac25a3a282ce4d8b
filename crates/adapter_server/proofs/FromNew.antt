-- Facts about a new server, whose memory has some address.
use Rattle.std.proofs.Common.{◌≡◌, ◌∙◌, ℕ, List, Option, Some, None, ap, subst, sym}
use Rattle.std.specs.Prelude.{Err, IfErr, IfSome, IsErrAnd, Ok, Result}
use Rattle.played_adapter.specs.declared.player.PlayedAdapter.{PlayedAdapter}
use Rattle.step_schedules.specs.declared.player.Player.{Player}
use Rattle.adapter_server.specs.NewSessions.{new_device, new_session}
use Rattle.adapter_server.specs.Serving.{FromNew, new_server, server_with}
use Rattle.adapter_server.specs.declared.options.ServeOptions.{ServeOptions}
use Rattle.adapter_server.specs.declared.serve_error.ServeError.{ServeError}
use Rattle.adapter_server.specs.declared.serve_error.ServeError.TheVariants as errors
use Rattle.adapter_server.specs.declared.snapshot.Server.{Server}

pub from_new : (options : ServeOptions) (player : Option Player) (server : Server) (bytes : Option (List ℕ))
    (Holds : List ℕ → Server → Type 0) → server ≡ new_server options player server.session.device.address
    → IfSome bytes (λ all. Holds all server) → IfSome bytes (λ all. FromNew options player (Holds all))
from_new options player server None Holds new holds = tt
from_new options player server (Some all) Holds new holds = (server.session.device.address, subst (Holds all) new holds)

pub new_with : (options : ServeOptions) (player : Option Player) (device : PlayedAdapter) (server : Server)
    → device ≡ new_device options device.address → server ≡ server_with device options player
    → server ≡ new_server options player server.session.device.address
new_with options player device server is made =
    subst (λ (s : Server). s ≡ new_server options player s.session.device.address) (sym made)
    (ap (λ (d : PlayedAdapter). record { session = record (new_session options player device.address) { device = d }; saved = None }) is)

pub from_any : (options : ServeOptions) (player : Option Player) (bytes : Option (List ℕ)) (Holds : List ℕ → Server → Type 0)
    → IfSome bytes (λ all. Holds all (new_server options player None)) → IfSome bytes (λ all. FromNew options player (Holds all))
from_any options player None Holds holds = tt
from_any options player (Some all) Holds holds = (None, holds)

pub read_from : {T : Type 0} (result : Result T ServeError) (error : ServeError) (P : Type 0) → IsErrAnd result (λ e. e ≡ error)
    → (error ≡ errors.Read → P) → IfErr result (λ e. e ≡ errors.Read → P)
read_from (Ok value) error P same holds = absurd same
read_from (Err e) error P same holds = λ is. holds (sym same ∙ is)
