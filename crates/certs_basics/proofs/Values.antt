-- The values of names, keys and algorithms are read in one way.
use Rattle.std.proofs.Common.{◌≡◌, List, refl, sym, ap, ◌∙◌, subst}
use Rattle.std.specs.Prelude.{pos, unsigned_abs}
use Rattle.certs_basics.specs.bcder_tree.declared.mode.Mode.{Mode}
use Rattle.certs_basics.specs.bcder_tree.Tags.{TagValue, oid_tag}
use Rattle.certs_basics.specs.bcder_tree.Tree.{Tree, Trees}
use Rattle.certs_basics.specs.bcder_tree.Strings.{IsString}
use Rattle.certs_basics.specs.bcder_content.Grammar.{OctetsOf, Then, End, One, OneAll, OneOctets}
use Rattle.certs_basics.specs.bcder_content.Words.{Gathers, ThenBy}
use Rattle.certs_basics.proofs.of_bcder_content.Unique.{octets_one, octets_tagged, such_one, inside_one, then_one, opt_one, many_one, end_one, as_one, same_trees}
use Rattle.certs_basics.proofs.of_bcder_content.Simple.{itself_one, unit_one}
use Rattle.certs_basics.proofs.of_bcder_octets.Meaning.{one_string}
use Rattle.certs_basics.specs.bcder_number.Contents.{one_number}
use Rattle.certs_basics.specs.bcder_number.Integers.{IsNatural}
use Rattle.certs_basics.specs.bcder.Identifiers.{IsOid}
use Rattle.certs_basics.proofs.of_bcder.Read.{oid_one}
use Rattle.certs_basics.proofs.of_bcder_octets.BitReadings.{bit_string_one}
use Rattle.certs_basics.specs.declared.PublicKeyFormat.{PublicKeyFormat}
use Rattle.certs_basics.specs.declared.PublicKeyFormat.TheVariants.{Rsa, Ecdsa}
use Rattle.certs_basics.specs.Basics.{IsSerial, OptNull, IsAlgorithm, IsKeyIdentifier}
use Rattle.certs_basics.specs.bcder_octets.Bits.{BitsValue}
use Rattle.certs_basics.specs.bcder_octets.BitContents.{IsBitString, bit_string_tag}
use Rattle.certs_basics.specs.Keys.{KeyValue, kind_of, IsFormatBody, IsFormat, IsKeyBody, IsKey}
use Rattle.certs_basics.specs.Names.{IsAttribute, IsName}

-- Words of grammars.

pub gathers_one : {A S : Type 0} {Q : Tree → A → Type 0} {R : List A → S → Type 0} → One Q → ((xs : List A) (y z : S) → R xs y → R xs z → y ≡ z) → OneAll (Gathers Q R)
gathers_one {A} {S} {Q} {R} o r = record { one = λ ts y z p q. r q.xs y z (subst (λ (xs : List A). R xs y) ((many_one o).one ts p.xs q.xs p.are q.are) p.says) q.says }

pub then_by_one : {A B : Type 0} {Q : Tree → A → Type 0} {R : A → Trees → B → Type 0} → One Q → ((x : A) → OneAll (R x)) → OneAll (ThenBy Q R)
then_by_one {A} {B} {Q} {R} o r = record { one = at }
  where
    at : (ts : Trees) (x y : A × B) → ThenBy Q R ts x → ThenBy Q R ts y → x ≡ y
    at ts x y p q =
        let e = same_trees (sym p.whole ∙ q.whole) in
        let f : x.0 ≡ y.0 = o.one q.first x.0 y.0 (subst (λ (t : Tree). Q t x.0) e.0 p.is) q.is in
        let rest : R y.0 q.others x.1 = subst (λ (us : Trees). R y.0 us x.1) e.1 (subst (λ (z : A). R z p.others x.1) f p.rest) in
        let g : x.1 ≡ y.1 = (r y.0).one q.others x.1 y.1 rest q.rest in
        ap (λ (z : A). (z, x.1)) f ∙ ap (λ (z : B). (y.0, z)) g

-- Simple values.

pub natural_one : OneOctets IsNatural
natural_one = record { one = λ content x y p q. ap unsigned_abs (one_number content (pos x) (pos y) p q) }

pub string_one : (m : Mode) (tag : TagValue) → One (IsString m tag)
string_one m tag = record { one = λ t x y p q. one_string m tag t x y p q }

pub serial_one : One IsSerial
serial_one = such_one (octets_one natural_one)

pub opt_null_one : OneAll OptNull
opt_null_one = opt_one (octets_tagged _ _) (octets_one unit_one) end_one

pub algorithm_one : One IsAlgorithm
algorithm_one = as_one (inside_one (then_one (octets_one unit_one) opt_null_one))

pub key_identifier_one : (m : Mode) (tag : TagValue) → One (IsKeyIdentifier m tag)
key_identifier_one m tag = such_one (string_one m tag)

-- Names and keys.

attribute_one : One IsAttribute
attribute_one = as_one (inside_one (then_one (octets_one oid_one) (then_one itself_one end_one)))

pub name_one : One IsName
name_one = as_one (inside_one (many_one (inside_one (many_one attribute_one))))

pub format_one : One IsFormat
format_one = inside_one (record { one = at })
  where
    same : (x y : PublicKeyFormat) → kind_of x ≡ kind_of y → x ≡ y
    same Rsa Rsa e = refl
    same Ecdsa Ecdsa e = refl
    same Rsa Ecdsa e = absurd cc
    same Ecdsa Rsa e = absurd cc

    at : (ts : Trees) (x y : PublicKeyFormat) → IsFormatBody ts x → IsFormatBody ts y → x ≡ y
    at ts x y p q =
        let e = same_trees (sym p.are.whole ∙ q.are.whole) in
        same x y ((octets_one oid_one).one q.are.first (kind_of x) (kind_of y) (subst (λ (t : Tree). OctetsOf oid_tag IsOid t (kind_of x)) e.0 p.are.is) q.are.is)

pub key_one : {m : Mode} → One (IsKey m)
key_one {m} = inside_one (record { one = at })
  where
    fields : OneAll (Then IsFormat (Then (OctetsOf bit_string_tag (IsBitString m)) End))
    fields = then_one format_one (then_one (octets_one bit_string_one) end_one)

    as_key : PublicKeyFormat × (BitsValue × Unit {0}) → KeyValue
    as_key f = record { format = f.0; bits = f.1.0 }

    at : (ts : Trees) (x y : KeyValue) → IsKeyBody m ts x → IsKeyBody m ts y → x ≡ y
    at ts x y p q = ap as_key (fields.one ts (x.format, (x.bits, tt)) (y.format, (y.bits, tt)) p.are q.are)
