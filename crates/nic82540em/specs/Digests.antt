-- A digest of an adapter's state (our choice).
use Rattle.std.specs.Prelude.{◌++◌, ℕ, fold}
use Rattle.std.specs.Hash.{HashWrites, u64}
use Rattle.std.specs.Hash.FoldHasher as folding
use Rattle.adapter.specs.Hashed.{adapter_writes}
use Rattle.adapter.specs.State.{AdapterState}

-- the words that are hashed: a seed, and then those of the adapter: its registers, its PHY, its frames in order, and its work in progress
abbrev pub state_writes : ℕ → AdapterState → HashWrites
state_writes seed adapter = u64 seed ++ adapter_writes adapter

-- the digest of these words that the standard library's FoldHasher computes
unfoldable pub state_digest_of : ℕ → AdapterState → ℕ
state_digest_of seed adapter = folding.finish (fold folding.write folding.initial (state_writes seed adapter))
