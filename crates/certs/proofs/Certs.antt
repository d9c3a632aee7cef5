-- What is written of a certificate that is built is read again as this certificate (RFC 5280 4.1.1).
use Rattle.std.proofs.Common.{◌≡◌, ◌⊎◌, inl, inr, [], refl, sym, ap, subst, append-nil}
use Rattle.certs.specs.bcder_tree.declared.mode.Mode.TheVariants.{Ber, Der}
use Rattle.certs.specs.bcder_tree.Tags.{sequence_tag}
use Rattle.certs.specs.bcder_tree.Tree.{SpellsAll, Trees, constructed}
use Rattle.certs.specs.bcder_octets.Bits.{BitsValue}
use Rattle.certs.specs.bcder_octets.BitContents.{IsBitString, IsPadded, bit_string_tag, padded_in}
use Rattle.certs.specs.bcder_content.Grammar.{OctetsOf}
use Rattle.certs.specs.bcder_content.Kept.{CapturedValue}
use Rattle.certs.specs.bcder_content.Texts.{SpellsOf}
use Rattle.certs.specs.bcder_content.Words.{Kept}
use Rattle.certs.specs.bcder.Kinds.{bits}
use Rattle.certs.specs.bcder_values.Captures.{CapturedTrees}
use Rattle.certs.specs.bcder_values.Forms.{Alone}
use Rattle.certs.specs.certs_basics.Keys.{KeyValue}
use Rattle.certs.specs.certs_key.Cleared.{key_again}
use Rattle.certs.specs.certs_x509.Signed.{SignedDataValue, signed, signed_fields}
use Rattle.certs.specs.certs_extension.Cert.{TbsValue}
use Rattle.certs.specs.certs_extension.CertText.{IsCert, IsTbs}
use Rattle.certs.specs.certs_extension.Spellings.{CertIsSpelled}
use Rattle.certs.specs.Laws.{BuiltIsRead, BuiltIsSpelled, FieldsStay, ReadIsBuilt, as_read, fields_again}
use Rattle.certs.proofs.Ext.{one_of_all}
use Rattle.certs.proofs.of_certs_key.Padded.{padded_same}
use Rattle.certs.proofs.ValuesRead.{ResourcesAreRead}
use Rattle.certs.proofs.Whole.{algorithm_read, fields_are_read, last_read, only_tree, then_read}

-- What was signed, which is kept in DER, is one value: the fields.
message_read : (kept : CapturedValue) (c : TbsValue) → SpellsOf Der (IsTbs Der) kept.octets c → (ts : Trees) → CapturedTrees kept Der ts
    → Alone (Kept Der (IsTbs Der)) (kept.octets, c) ts
message_read kept c fields ts p = at p.stands
  where
    at : (Der ≡ Ber) ⊎ (kept.mode ≡ Der) → Alone (Kept Der (IsTbs Der)) (kept.octets, c) ts
    at (inl e) = let t : Der ≡ Ber = e in absurd cc
    at (inr e) =
        let written : SpellsAll Der ts kept.octets = subst (λ m. SpellsAll m ts kept.octets) e p.spelled in
        record {
          tree = fields.tree;
          alone = only_tree ts fields.tree kept.octets written fields.spelled;
          is = record { spelled = fields.spelled; is = fields.is };
        }

-- The signature's bits.
signature_read : (v : BitsValue) (ts : Trees) → bits.trees v Der ts → Alone (OctetsOf bit_string_tag (IsBitString Der)) (padded_in Der v) ts
signature_read v ts p =
    let a = bits.is_read tt v Der ts tt p in
    record { tree = a.tree; alone = a.alone; is = a.is }

cert_read : (s : SignedDataValue) (c : TbsValue) → SpellsOf Der (IsTbs Der) s.message.octets c → (ts : Trees) → signed.trees (signed_fields s) Der ts
    → Alone (IsCert Der) (as_read s c) ts
cert_read s c fields ts p =
    let message = p.is in
    let algorithm = message.is_second in
    let first = message_read s.message c fields message.first message.is_first in
    let second = algorithm_read s.signature.algorithm algorithm.first algorithm.is_first in
    let last = signature_read s.signature.bits algorithm.second algorithm.is_second in
    record {
      tree = constructed sequence_tag p.values;
      alone = p.whole;
      is = record {
        x = ((s.message.octets, c), (s.signature.algorithm, (padded_in Der s.signature.bits, tt)));
        is = record { values = p.values; whole = refl; is = then_read message.second first (then_read algorithm.second second (last_read last) algorithm.whole) message.whole };
        means = refl;
      };
    }

pub built_is_spelled : ResourcesAreRead → CertIsSpelled → BuiltIsSpelled
built_is_spelled reads spelled s c text lawful readable built =
    let w = signed.spelled (signed_fields s) Der text built.written in
    let fields = fields_are_read reads c s.message.octets lawful readable built.message in
    let a = cert_read s (fields_again c) fields w.trees w.is in
    let one = one_of_all text a.alone w.spelled in
    (spelled a.tree text (as_read s (fields_again c)) one).0 a.is

pub built_is_read : ResourcesAreRead → CertIsSpelled → BuiltIsRead
built_is_read reads spelled s c text lawful readable built =
    record { text = text; rest = []; whole = sym (append-nil text); is = built_is_spelled reads spelled s c text lawful readable built }

-- It is the certificate that was built, where the unused bits of the signature are zero.
pub read_is_built : ReadIsBuilt
read_is_built s c mode padded =
    let v = s.signature.bits in
    let same : (padded_in Der v).octets ≡ v.octets = ap (λ (b : BitsValue). b.octets) (padded_same v padded) in
    λ i. record {
      signed = record { message = s.message.octets; has_null = s.signature.algorithm; signature = same i; unused = v.unused; mode = sym mode i };
      tbs = c;
    }

-- The fields are the same, where the key is the same again.
pub fields_stay : ((k : KeyValue) → IsPadded Der k.bits → key_again Der k ≡ k) → FieldsStay
fields_stay stays c p = ap (λ (k : KeyValue). record c { key = k }) (stays c.key p)
