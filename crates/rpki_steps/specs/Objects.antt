-- What objects attest, by what is held (RFC 9582 5, draft-ietf-sidrops-aspa-profile 4).
use Rattle.std.specs.Prelude.{◌++◌, List, map}
use Rattle.rpki_rules.specs.Attests.{Payload}
use Rattle.rpki_rules.specs.Reasons.{kinds}
use Rattle.rpki_rules.specs.FileReasons.{ObjectTest, ObjectClaim, cover_tests}

-- The tests of an object that look at what is held: the claim of its certificate, kind by kind, and that what it attests is
-- held with that.
abbrev pub held_tests : Payload → List ObjectTest
held_tests x = map ObjectClaim kinds ++ cover_tests x
