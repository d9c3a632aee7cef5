-- Entries of revocation lists: what is written of one.
use Rattle.std.proofs.Common.{◌≡◌, ℕ, ◌<◌, ◌^◌, List, refl, sym, ap, ◌∙◌, subst}
use Rattle.certs_x509.specs.bcder_tree.declared.mode.Mode.{Mode}
use Rattle.certs_x509.specs.bcder_tree.Tags.{TagValue, integer_tag, sequence_tag}
use Rattle.certs_x509.specs.bcder_tree.Tree.{Tree, Trees, primitive, constructed, none}
use Rattle.certs_x509.specs.bcder_primitive.Values.{AnyOctets}
use Rattle.certs_x509.specs.bcder_content.Grammar.{End, Then}
use Rattle.certs_x509.specs.bcder_number.Integers.{IsNatural}
use Rattle.certs_x509.specs.bcder_primitive.Encoded.{AreBoth, IsPlain, SpellsSome, joined}
use Rattle.certs_x509.specs.bcder_values.Laws.{both_spelled}
use Rattle.certs_x509.specs.bcder_values.Plains.{plain_spelled}
use Rattle.certs_x509.specs.bcder_values.Wraps.{wrapped_spelled}
use Rattle.certs_x509.specs.certs_basics.Basics.{IsSerial}
use Rattle.certs_x509.specs.certs_basics.Forms.{IsTime, WritesTime}
use Rattle.certs_extension.specs.CrlText.{IsRevoked, RevokedValue}
use Rattle.certs_x509.proofs.of_certs_basics.Meanings.{written_time}
use Rattle.certs_x509.specs.Entries.{entry_fields}
use Rattle.certs_x509.specs.Written.{WritesEntry}

-- The fields that were written.
fields : (e : RevokedValue) (tag : TagValue) (content : List ℕ) (ts : Trees) → e.serial < 2 ^ 160 → WritesTime e.time (primitive tag content)
    → AreBoth (IsPlain integer_tag (λ octets. IsNatural octets e.serial)) (IsPlain tag (λ octets. AnyOctets octets content)) ts
    → Then IsSerial (Then IsTime End) ts (entry_fields e)
fields e tag content ts small w b =
    let s = b.is_first in
    let t = b.is_second in
    let same : primitive tag t.content ≡ primitive tag content = ap (primitive tag) t.is.same in
    record {
      first = primitive integer_tag s.content;
      others = b.second;
      whole = b.whole ∙ ap (λ (l : Trees). joined l b.second) s.whole;
      is = record { is = record { content = s.content; whole = refl; is = s.is }; meets = small };
      rest = record {
        first = primitive tag t.content;
        others = none;
        whole = t.whole;
        is = subst (λ (u : Tree). IsTime u e.time) (sym same) (written_time e.time (primitive tag content) w);
        rest = record { ended = refl };
      };
    }

pub entry_spelled : (e : RevokedValue) (tag : TagValue) (content : List ℕ) (m : Mode) (text : List ℕ) → e.serial < 2 ^ 160 → WritesTime e.time (primitive tag content)
    → WritesEntry e tag content m text → SpellsSome m (λ ts. Then IsRevoked End ts (e, tt)) text
entry_spelled e tag content m text small w h =
    let spells = wrapped_spelled m (both_spelled m (plain_spelled m) (plain_spelled m)) text h in
    record {
      trees = spells.trees;
      is = record {
        first = constructed sequence_tag spells.is.values;
        others = none;
        whole = spells.is.whole;
        is = record { x = entry_fields e; is = record { values = spells.is.values; whole = refl; is = fields e tag content spells.is.values small w spells.is.is }; means = refl };
        rest = record { ended = refl };
      };
      spelled = spells.spelled;
    }
