-- Notices: SEQUENCE { id OBJECT IDENTIFIER, serial INTEGER (0..MAX), flags BIT STRING, note OCTET STRING }.
use Rattle.std.specs.Prelude.{ℕ, List}
use Rattle.bcder_example.specs.bcder_tree.Tags.{TagValue, universal, integer_tag, octet_string_tag, oid_tag, sequence_tag}
use Rattle.bcder_example.specs.bcder_octets.Bits.{BitsValue}
use Rattle.bcder_example.specs.declared.notice.Notice.{Notice}
use Rattle.bcder_example.specs.bcder_values.Forms.{Form, Forms, both, last, wrapped}
use Rattle.bcder.specs.Kinds.{oid, natural, bits, octets, oid_at, natural_at, bits_at, octets_at}

-- The octets of the identifier, the number, the bits, and the octets of the note.
abbrev pub Fields : Type 0
Fields = List ℕ × (ℕ × (BitsValue × (List ℕ × Unit {0})))

abbrev pub notice_fields : Notice → Fields
notice_fields n = (n.id.0, (n.serial, (n.flags, (n.note, tt))))

abbrev pub notice_body : Forms Fields
notice_body = both oid (both natural (both bits (last octets)))

abbrev pub notice : Form Fields
notice = wrapped sequence_tag notice_body

-- The tags of encoders, and what they lend.
abbrev pub Lent : Type 0
Lent = (TagValue × (TagValue × (TagValue × (TagValue × TagValue)))) × Fields

abbrev pub lent : Lent → Form Fields
lent l = wrapped l.0.0 (both (oid_at l.0.1.0) (both (natural_at l.0.1.1.0)
    (both (bits_at l.0.1.1.1.0) (last (octets_at l.0.1.1.1.1)))))

abbrev pub lends : TagValue → TagValue × List ℕ → TagValue × ℕ → TagValue × BitsValue → TagValue
    × List ℕ → Lent
lends t a b d e = ((t, (a.0, (b.0, (d.0, e.0)))), (a.1, (b.1, (d.1, (e.1, tt)))))

abbrev pub notice_lends : Notice → Lent
notice_lends n = lends sequence_tag (oid_tag, n.id.0) (integer_tag, n.serial)
    (universal 3, n.flags) (octet_string_tag, n.note)
