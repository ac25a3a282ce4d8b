-- The wires of hosts (our choice).
use Rattle.std.specs.Prelude.{◌++◌, ◌∷◌, [], ℕ, List, if◌then◌else◌}
use Rattle.std.specs.List.{fold, list_any}
use Rattle.std.specs.Str.{bytes_eq}
use Rattle.scenario.specs.SoFar.{Host}

-- these names, followed by the name of the host's wire, unless this name is among them
abbrev pub with_wire_of : List (List ℕ) → Host → List (List ℕ)
with_wire_of names host = if list_any (λ (name : List ℕ). bytes_eq name host.wire) names then names else names ++ host.wire ∷ []

-- the names of these hosts' wires: each name once, in the order in which the names first occur
abbrev pub wire_names : List Host → List (List ℕ)
wire_names hosts = fold with_wire_of [] hosts
