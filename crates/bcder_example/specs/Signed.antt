-- Signed structures: the octets that are signed are kept as they stand, and read.
use Rattle.std.specs.Prelude.{ℕ, List}
use Rattle.bcder_example.specs.bcder_tree.Tags.{TagValue, universal, oid_tag, sequence_tag}
use Rattle.bcder_example.specs.bcder_octets.Bits.{BitsValue}
use Rattle.bcder_example.specs.bcder_content.Kept.{CapturedValue}
use Rattle.bcder_example.specs.bcder_values.Forms.{Form, Forms, both, explicit, last, wrapped}
use Rattle.bcder_example.specs.bcder_values.KeptForms.{kept}
use Rattle.bcder.specs.Kinds.{bits, bits_at, natural, octets, oid, oid_at}
use Rattle.bcder_example.specs.declared.signed.Body.{Body}
use Rattle.bcder_example.specs.declared.signed.Signed.{Signed}

-- Body ::= SEQUENCE { serial INTEGER (0..MAX), note OCTET STRING }
abbrev pub BodyFields : Type 0
BodyFields = ℕ × (List ℕ × Unit {0})

abbrev pub body_fields : Body → BodyFields
body_fields b = (b.serial, (b.note, tt))

abbrev pub body_content : Forms BodyFields
body_content = both natural (last octets)

abbrev pub body : Form BodyFields
body = wrapped sequence_tag body_content

-- Algorithm ::= SEQUENCE { id OBJECT IDENTIFIER }
abbrev pub algorithm : Form (List ℕ)
algorithm = explicit sequence_tag oid

-- Signed ::= SEQUENCE { body Body, algorithm Algorithm, signature BIT STRING }
abbrev pub Fields : Type 0
Fields = (CapturedValue × BodyFields) × (List ℕ × (BitsValue × Unit {0}))

abbrev pub kept_body : CapturedValue × Body → CapturedValue × BodyFields
kept_body p = (p.0, body_fields p.1)

abbrev pub signed_fields : Signed → Fields
signed_fields s = (kept_body (s.octets, s.body), (s.algorithm.0, (s.signature, tt)))

abbrev pub signed_content : Forms Fields
signed_content = both (kept body) (both algorithm (last bits))

abbrev pub signed : Form Fields
signed = wrapped sequence_tag signed_content

-- The only value of a content.
abbrev pub only : List ℕ → List ℕ × Unit {0}
only x = (x, tt)

abbrev pub algorithm_content : Forms (List ℕ × Unit {0})
algorithm_content = last oid

-- The tags of encoders, and what they lend.
abbrev pub Lent : Type 0
Lent = (TagValue × (TagValue × (TagValue × TagValue))) × Fields

abbrev pub lent : Lent → Form Fields
lent l = wrapped l.0.0 (both (kept body) (both (explicit l.0.1.0 (oid_at l.0.1.1.0))
    (last (bits_at l.0.1.1.1))))

abbrev pub lends : TagValue → CapturedValue × BodyFields → TagValue → TagValue × List ℕ → TagValue
    × BitsValue → Lent
lends t k a i b = ((t, (a, (i.0, b.0))), (k, (i.1, (b.1, tt))))

abbrev pub signed_lends : Signed → Lent
signed_lends s = lends sequence_tag (kept_body (s.octets, s.body)) sequence_tag
    (oid_tag, s.algorithm.0) (universal 3, s.signature)
