-- With what a signed object begins, up to its content: what lack of memory shows of octets that are read as one, since
-- nothing before the content takes memory (RFC 5652 3, 5.1).
use Rattle.std.specs.Prelude.{true}
use Rattle.objects_cms.specs.bcder_tree.Tags.{TagValue, context, sequence_tag}
use Rattle.objects_cms.specs.bcder_content.declared.ending.Span.{Span}
use Rattle.objects_cms.specs.bcder_content.Contents.{ValuesLeft}
use Rattle.objects_cms.specs.bcder_content.Exact.{Gives}
use Rattle.objects_cms.specs.bcder_content.ClosureReads.{Enters}
use Rattle.objects_cms.specs.objects_payload.Identifiers as id
use Rattle.objects_cms.specs.objects_payload.ObjectText.{AreDigestAlgorithms, IsThree}

-- A constructed value of that tag is in front, and its content begins with P.
pub record Opens (tag : TagValue) (P : ValuesLeft → Type 0) (old : ValuesLeft) : Type 0 where
  pub span : Span
  pub inner : ValuesLeft
  pub enters : Enters old true tag span inner
  pub begins : P inner

-- The version and the digest algorithms of SignedData are in front (RFC 5652 5.1).
pub record BeginsSigned (v : ValuesLeft) : Type 0 where
  pub versioned : ValuesLeft
  pub behind : ValuesLeft
  pub version : Gives IsThree v tt versioned
  pub algorithms : Gives AreDigestAlgorithms versioned (tt, tt) behind

-- The content of [0] EXPLICIT SignedData.
abbrev pub BeginsData : ValuesLeft → Type 0
BeginsData = Opens sequence_tag BeginsSigned

-- The identifier of signed data is in front, and then [0] (RFC 5652 3).
pub record BeginsInfo (v : ValuesLeft) : Type 0 where
  pub behind : ValuesLeft
  pub identifier : Gives (id.TheOid id.signed_data) v tt behind
  pub signed : Opens (context 0) BeginsData behind

-- A signed object begins here, up to its content.
abbrev pub BeginsObject : ValuesLeft → Type 0
BeginsObject = Opens sequence_tag BeginsInfo
