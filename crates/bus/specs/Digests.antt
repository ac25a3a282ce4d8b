-- The digest of an adapter and its host's memory (our choice).
use Rattle.std.specs.Prelude.{◌++◌, ◌∷◌, [], ℕ, fold}
use Rattle.std.specs.Hash.{HashWrites}
use Rattle.std.specs.Hash.DefaultHasher as sip
use Rattle.adapter_model.specs.Hashed.{adapter_writes}
use Rattle.adapter_model.specs.World.{World}

-- What the adapter writes to a hasher, followed by the bytes of memory.
abbrev pub world_writes : World → HashWrites
world_writes world = adapter_writes world.adapter ++ world.memory ∷ []

-- SipHash-1-3 of these bytes, with both keys 0.
unfoldable pub digest_of : World → ℕ
digest_of world = sip.finish (fold sip.write sip.initial (world_writes world))
