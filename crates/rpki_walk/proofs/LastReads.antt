-- The last certificate of an accepted chain is what the object at its lookup key reads as.
use Rattle.std.proofs.Common.{ℕ, List, [], ◌∷◌}
use Rattle.rpki_rules.specs.Locators.{https_first}
use Rattle.rpki_rules.specs.World.{World}
use Rattle.rpki_rules.specs.Points.{Link}
use Rattle.rpki_rules.specs.Chains.{last_of, CertAt, Accepted}
use Rattle.rpki_rules.proofs.Readings.{first_held}

pub reads_last : (w : World) (name : List ℕ) (a : Link) (cs : List Link) → Accepted w name a cs → CertAt w (last_of a cs).uri (last_of a cs).cert
reads_last w name a [] acc = let d = acc.descends in record { octets = d.octets; held = first_held w (https_first d.uris) a.uri d.octets d.held; reads = d.cert }
reads_last w name a (c ∷ cs) acc = let d = acc.descends in d.3.file.reads
