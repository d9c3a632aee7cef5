-- Extensions of file names (RFC 6481 2.2, 7.2, draft-ietf-sidrops-aspa-profile).
use Rattle.std.specs.Prelude.{◌≡◌, ℕ, List}
use Rattle.rpki_rules.specs.Chains.{HasExtension, asa, cer, roa}
use Rattle.rpki_standing.specs.declared.payloads.names.Extension.{Extension}
use Rattle.rpki_standing.specs.declared.payloads.names.Extension.TheVariants as extension

-- The letters of an extension, in lower case.
abbrev pub letters : Extension → List ℕ
letters extension.Cer = cer
letters extension.Roa = roa
letters extension.Asa = asa

-- A name has one extension at most of the three.
abbrev pub OneExtension : Type 0
OneExtension =
    (uri : List ℕ) (a b : Extension) → HasExtension (letters a) uri → HasExtension (letters b) uri
    → a ≡ b
