-- What the program goes by: its own digests, and its own verdicts on signatures.
use Rattle.std.specs.Prelude.{ℕ, Option, Some, List, [], ◌++◌, bytes_eq}
use Rattle.sha1.specs.Sha1.{sha1}
use Rattle.sha2.specs.Sha256.{sha256}
use Rattle.example_validator.specs.certs_basics.HandedIn.{Digests}
use Rattle.example_validator.specs.certs_basics.Verdicts.{Verdicts}
use Rattle.example_validator.specs.rpki_rules.World.{World, world_of}
use Rattle.example_validator.specs.rpki_validator.Bundle.{BundleValue}
use Rattle.example_validator.specs.rpki_validator.Run.{Prints}

abbrev pub own_digests : Digests
own_digests = record { sha256 = sha256; sha1 = sha1 }

abbrev pub own_verdicts : Verdicts
own_verdicts key has_null message signature =
    bytes_eq (sha256 (key.bits.octets ++ message)) signature

-- What a bundle is by these.
abbrev pub own_world : BundleValue → World
own_world = world_of own_digests own_verdicts

-- A run over the octets writes this text, whatever is left of them.
abbrev pub IsOutputOf : List ℕ → List ℕ → Type 0
IsOutputOf octets text =
    (rest : Option (List ℕ)) × Prints own_digests (Some octets) rest (Some []) (Some text)
