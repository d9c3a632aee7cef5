-- The programs' digest functions (FIPS 180-4).
use Rattle.certs_key.specs.certs_basics.HandedIn.{Digests}
use Rattle.sha1.specs.Sha1.{sha1}
use Rattle.sha2.specs.Sha256.{sha256}

abbrev pub fips : Digests
fips = record { sha256 = sha256; sha1 = sha1 }
