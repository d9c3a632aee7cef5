-- What is written of a certificate's fields is read again as these fields.
use Rattle.std.proofs.Common.{◌≡◌, ◌⊎◌, inl, inr, ℕ, ◌^◌, Bool, true, false, List, refl, ap, ◌∙◌, subst}
use Rattle.certs.specs.bcder_tree.declared.mode.Mode.TheVariants.{Ber, Der}
use Rattle.certs.specs.bcder_tree.Front.{Fields}
use Rattle.certs.specs.bcder_tree.Tags.{context, sequence_tag}
use Rattle.certs.specs.bcder_tree.Tree.{Spells, SpellsAll, Tree, Trees, constructed, more, none, primitive}
use Rattle.certs.specs.bcder_content.Grammar.{End, Inside, Then}
use Rattle.certs.specs.bcder_content.Kept.{CapturedValue}
use Rattle.certs.specs.bcder_content.Words.{Gathers}
use Rattle.certs.specs.bcder.Kinds.{natural, unsigned}
use Rattle.certs.specs.bcder_values.Forms.{Alone}
use Rattle.certs.specs.bcder_values.Wraps.{one_spelled}
use Rattle.certs.specs.bcder_primitive.Encoded.{joined}
use Rattle.certs.specs.certs_key.Algorithms.{x509_algorithm}
use Rattle.certs.specs.certs_basics.Basics.{IsAlgorithm, IsSerial, IsSmallEnough}
use Rattle.certs.specs.certs_basics.Keys.{IsKey}
use Rattle.certs.specs.certs_basics.Names.{IsKeptName}
use Rattle.certs.specs.certs_key.Cleared.{key_again}
use Rattle.certs.specs.certs_key.Forms as keys
use Rattle.certs.specs.certs_extension.Cert.{TbsValue}
use Rattle.certs.specs.certs_extension.CertText.{HasExtensions, IsTbs, IsVersion}
use Rattle.certs.specs.certs_extension.Extensions.{Extension, IsExtension}
use Rattle.certs.specs.certs_basics.Forms.{IsTime, IsValidity, WritesTime}
use Rattle.certs.proofs.of_certs_key.Written.{algorithm_sound}
use Rattle.certs_cert.proofs.of_bcder_tree.Trees.{one_fields}
use Rattle.certs.proofs.of_certs_basics.Meanings.{written_time}
use Rattle.certs.specs.certs_basics.Identifiers.{sha256_with_rsa}
use Rattle.certs.specs.Fields as fields
use Rattle.certs.specs.Fields.{PlainTrees}
use Rattle.certs.specs.Outputs.{IsReadAs, inside}
use Rattle.certs_name.specs.Named.{IsNamed}
use Rattle.certs.specs.Laws.{FieldsAreRead, IsLawful, IsReadable, fields_again}
use Rattle.certs.specs.Tbs.{extensions, tbs}
use Rattle.certs.proofs.Ext.{one_of_all}
use Rattle.certs.proofs.Extensions.{extensions_read}
use Rattle.certs.proofs.ValuesRead.{ResourcesAreRead}

-- A value in front of others.
pub then_read : {A B : Type 0} {Q : Tree → A → Type 0} {R : Trees → B → Type 0} {x : A} {y : B} {a ts : Trees} (b : Trees) → Alone Q x a → R b y → ts ≡ joined a b → Then Q R ts (x, y)
then_read b first behind e = record {
  first = first.tree;
  others = b;
  whole = e ∙ ap (λ (us : Trees). joined us b) first.alone;
  is = first.is;
  rest = behind;
}

pub last_read : {A : Type 0} {Q : Tree → A → Type 0} {x : A} {ts : Trees} → Alone Q x ts → Then Q End ts (x, tt)
last_read a = record { first = a.tree; others = none; whole = a.alone; is = a.is; rest = record { ended = refl } }

version_read : IsReadAs (Inside (context 0) (Then (IsVersion 2) End)) (tt, tt) (inside (context 0) (fields.version 2))
version_read ts p =
    let a = (unsigned (2 ^ 8)).is_read tt 2 Der p.values tt p.is in
    record {
      tree = constructed (context 0) p.values;
      alone = p.whole;
      is = record {
        values = p.values;
        whole = refl;
        is = record {
          first = a.tree;
          others = none;
          whole = a.alone;
          is = record { content = a.is.content; whole = a.is.whole; is = record { is = a.is.is } };
          rest = record { ended = refl };
        };
      };
    }

serial_read : (n : ℕ) → IsSmallEnough n → IsReadAs IsSerial n (fields.serial n)
serial_read n small ts p =
    let a = natural.is_read tt n Der ts tt p in
    record { tree = a.tree; alone = a.alone; is = record { is = a.is; meets = small } }

pub algorithm_read : (b : Bool) → IsReadAs IsAlgorithm b (fields.algorithm b)
algorithm_read true ts p = x509_algorithm.is_read (algorithm_sound sha256_with_rsa) true Der ts (tt, tt) p
algorithm_read false ts p = x509_algorithm.is_read (algorithm_sound sha256_with_rsa) false Der ts (tt, tt) p

-- Octets of all values and of one.
pub only_tree : (ts : Trees) (t : Tree) (text : List ℕ) → SpellsAll Der ts text → Spells Der t text → ts ≡ more t none
only_tree ts t text p q =
    let left : Fields Der text ts = record { spelled = p } in
    let right : Fields Der text (more t none) = record { spelled = one_spelled Der t text q } in
    one_fields left right

-- A name that is kept in DER is one value.
name_read : (name : CapturedValue) → IsNamed name → IsReadAs (IsKeptName Der) name (fields.name name)
name_read name says ts p = at p.stands
  where
    at : (Der ≡ Ber) ⊎ (name.mode ≡ Der) → Alone (IsKeptName Der) name ts
    at (inl e) = let t : Der ≡ Ber = e in absurd cc
    at (inr e) =
        let n = says.says in
        let spelled : Spells Der n.tree name.octets = subst (λ m. Spells m n.tree name.octets) e n.spelled in
        let written : SpellsAll Der ts name.octets = subst (λ m. SpellsAll m ts name.octets) e p.spelled in
        record {
          tree = n.tree;
          alone = only_tree ts n.tree name.octets written spelled;
          is = record { mode = e; spelled = spelled; all = says.all; is = n.is };
        }

time_read : (seconds : ℕ) → IsReadAs IsTime seconds (fields.time seconds)
time_read seconds ts p = at p.tree p.tells p.is
  where
    at : (t : Tree) → WritesTime seconds t → PlainTrees t ts → Alone IsTime seconds ts
    at (primitive tag content) w q = record {
      tree = primitive tag content;
      alone = q.whole ∙ ap (λ (c : List ℕ). more (primitive tag c) none) q.is.same;
      is = written_time seconds (primitive tag content) w;
    }
    at (constructed tag values) w q = absurd q

validity_read : (a b : ℕ) → IsReadAs IsValidity (a, (b, tt)) (fields.validity (record { not_before = a; not_after = b }))
validity_read a b ts p =
    let first = time_read a p.is.first p.is.is_first in
    let second = time_read b p.is.second p.is.is_second in
    record {
      tree = constructed sequence_tag p.values;
      alone = p.whole;
      is = record { values = p.values; whole = refl; is = then_read p.is.second first (last_read second) p.is.whole };
    }

key_read : (c : TbsValue) → IsLawful c → IsReadAs (IsKey Der) (key_again Der c.key) (fields.public_key c.key)
key_read c lawful ts p = keys.key.is_read tt c.key Der ts lawful.key p

-- The list of extensions, in its tags.
abbrev the_list : List Extension → List Extension → Type 0
the_list all same = all ≡ same

abbrev IsListed : Tree → List Extension × Unit {0} → Type 0
IsListed = Inside (context 3) (Then (Inside sequence_tag (Gathers (IsExtension Der) the_list)) End)

record ReadsList (c : TbsValue) (ts : Trees) : Type 0 where
  all : List Extension
  read : Alone IsListed (all, tt) ts
  has : HasExtensions all c

list_read : ResourcesAreRead → (c : TbsValue) → IsLawful c → IsReadable c → (ts : Trees) → (inside (context 3) (inside sequence_tag (extensions c))).trees Der ts → ReadsList c ts
list_read reads c lawful readable ts p =
    let r = extensions_read reads c lawful readable p.is.values p.is.is in
    record {
      all = r.all;
      read = record {
        tree = constructed (context 3) p.values;
        alone = p.whole;
        is = record {
          values = p.values;
          whole = refl;
          is = record {
            first = constructed sequence_tag p.is.values;
            others = none;
            whole = p.is.whole;
            is = record { values = p.is.values; whole = refl; is = record { xs = r.all; are = record { cases = r.many }; says = refl } };
            rest = record { ended = refl };
          };
        };
      };
      has = r.has;
    }

-- The extensions don't tell of the key.
has_again : (all : List Extension) (c : TbsValue) → HasExtensions all c → HasExtensions all (fields_again c)
has_again all c h = record {
  skipped = h.skipped;
  basic_constraints = h.basic_constraints;
  subject_key_identifier = h.subject_key_identifier;
  authority_key_identifier = h.authority_key_identifier;
  key_usage = h.key_usage;
  extended_key_usage = h.extended_key_usage;
  crl_distribution = h.crl_distribution;
  authority_access = h.authority_access;
  subject_access = h.subject_access;
  policies = h.policies;
  resources = record {
    ip = h.resources.ip;
    asn = h.resources.asn;
    no_other_ip = h.resources.no_other_ip;
    no_other_asn = h.resources.no_other_asn;
    some = h.resources.some;
  };
}

tbs_read : ResourcesAreRead → (c : TbsValue) → IsLawful c → IsReadable c → IsReadAs (IsTbs Der) (fields_again c) (tbs c)
tbs_read reads c lawful readable ts p =
    let version = p.is in
    let serial = version.is_second in
    let algorithm = serial.is_second in
    let issuer = algorithm.is_second in
    let validity = issuer.is_second in
    let subject = validity.is_second in
    let key = subject.is_second in
    let list = list_read reads c lawful readable key.second key.is_second in
    let body =
    then_read version.second (version_read version.first version.is_first)
    (then_read serial.second (serial_read c.serial lawful.serial serial.first serial.is_first)
    (then_read algorithm.second (algorithm_read c.has_null algorithm.first algorithm.is_first)
    (then_read issuer.second (name_read c.issuer lawful.issuer issuer.first issuer.is_first)
    (then_read validity.second (validity_read c.not_before c.not_after validity.first validity.is_first)
    (then_read subject.second (name_read c.subject lawful.subject subject.first subject.is_first)
    (then_read key.second (key_read c lawful key.first key.is_first)
    (last_read list.read)
    key.whole) subject.whole) validity.whole) issuer.whole) algorithm.whole) serial.whole) version.whole in
    record {
      tree = constructed sequence_tag p.values;
      alone = p.whole;
      is = record {
        fields = ((tt, tt), (c.serial, (c.has_null, (c.issuer, ((c.not_before, (c.not_after, tt)), (c.subject, (key_again Der c.key, ((list.all, tt), tt))))))));
        is = record { values = p.values; whole = refl; is = body };
        says = record { serial = refl; has_null = refl; issuer = refl; not_before = refl; not_after = refl; subject = refl; key = refl; extensions = has_again list.all c list.has };
      };
    }

pub fields_are_read : ResourcesAreRead → FieldsAreRead
fields_are_read reads c text lawful readable w =
    let s = (tbs c).spelled Der text w in
    let a = tbs_read reads c lawful readable s.trees s.is in
    record { tree = a.tree; is = a.is; spelled = one_of_all text a.alone s.spelled }
