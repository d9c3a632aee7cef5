-- What is written of a revocation list is read again as that list.
use Rattle.std.proofs.Common.{◌≡◌, ◌≢◌, ℕ, ◌^◌, Bool, true, false, List, [], ◌∷◌, ◌++◌, Some, None, Ok, inl, inr, refl, sym, ap, ◌∙◌, subst, arith, append-nil}
use Rattle.certs_crl.specs.bcder_tree.declared.mode.Mode.{Mode}
use Rattle.certs_crl.specs.bcder_tree.declared.mode.Mode.TheVariants.{Ber, Cer, Der}
use Rattle.certs_crl.specs.bcder_tree.Front.{Front}
use Rattle.certs_crl.specs.bcder_tree.Strings.{IsString, octet_string_tag}
use Rattle.certs_crl.specs.bcder_tree.Tags.{TagValue, context, boolean_tag, integer_tag, oid_tag, sequence_tag}
use Rattle.certs_crl.specs.bcder_tree.Tree.{Spells, SpellsAll, Tree, Trees, constructed, more, none, primitive}
use Rattle.certs_name.proofs.of_bcder_tree.Fronts.{front_whole}
use Rattle.certs_x509.proofs.of_bcder_tree.Trees.{one_fields, one_tree}
use Rattle.certs_crl.specs.bcder_content.Contents.{tag_of}
use Rattle.certs_crl.specs.bcder_content.Grammar.{Any, End, Inside, Many, Then, Without}
use Rattle.certs_crl.specs.bcder_content.Kept.{CapturedValue}
use Rattle.certs_crl.specs.bcder_content.Texts.{ReadsFront}
use Rattle.certs_crl.proofs.of_bcder_content.Fronts.{front_reads}
use Rattle.certs_crl.proofs.of_bcder_content.Keeping.{front_all}
use Rattle.certs_x509.proofs.of_bcder_content.Unique.{same_trees}
use Rattle.certs_x509.specs.bcder_primitive.Encoded.{AreBoth, SpellsSome, WritesBoth, WritesPlain, WritesWrapped, joined}
use Rattle.certs_x509.specs.bcder_primitive.Integers.{WritesUnsigned}
use Rattle.certs_x509.specs.bcder_values.Captures.{CapturedText, captured_spelled}
use Rattle.certs_x509.specs.bcder_values.Choices.{nothing_spelled}
use Rattle.certs_x509.specs.bcder_values.Forms.{Alone, written_again}
use Rattle.certs_x509.specs.bcder_values.KeptForms.{KeepsOne}
use Rattle.certs_x509.specs.bcder_values.Laws.{both_spelled}
use Rattle.certs_x509.specs.bcder_values.Plains.{plain_spelled}
use Rattle.certs_x509.specs.bcder_values.Wraps.{one_spelled, wrapped_spelled}
use Rattle.bcder.specs.bcder_octets.Segments.{WritesString}
use Rattle.bcder.specs.bcder_octets.Wrapping.{around_spelled}
use Rattle.bcder.specs.Kinds.{octets_at}
use Rattle.certs_x509.specs.bcder.Identifiers.{IsIdentifier}
use Rattle.certs_crl.specs.certs_basics.Basics.{IsAlgorithm, IsKeyIdentifier, IsSerial, IsTwentyLong}
use Rattle.certs_crl.specs.certs_basics.Identifiers as id
use Rattle.certs_crl.specs.certs_basics.Names.{IsKeptName}
use Rattle.certs_crl.specs.certs_basics.Forms.{IsTime}
use Rattle.certs_crl.specs.certs_basics.Identifiers.{sha256_with_rsa}
use Rattle.certs_key.specs.Algorithms.{x509_algorithm}
use Rattle.certs_key.proofs.Written.{algorithm_spelled}
use Rattle.certs_x509.specs.EntryForms.{WritesMoment, moment, serial}
use Rattle.certs_x509.specs.Listed.{SpellsEntries}
use Rattle.certs_x509.specs.certs_extension.Cert.{SignedValue}
use Rattle.certs_x509.specs.certs_extension.CertText.{IsVersion}
use Rattle.certs_x509.specs.certs_extension.CrlText.{AreRevoked, CrlText, CrlValue, IsCrl, IsRevoked, IsTbsList, RevokedValue, TbsListValue, entries}
use Rattle.certs_x509.specs.certs_extension.Extensions.{Extension, IsAuthorityKeyIdentifier, IsExtension}
use Rattle.certs_x509.specs.certs_extension.Spellings.{CrlIsSpelled}
use Rattle.certs_x509.specs.bcder_octets.BitContents.{padded_in}
use Rattle.certs_x509.specs.Signed.{SignedDataValue, kept_message, signed, signed_fields}
use Rattle.certs_x509.proofs.Again.{signed_lawful, signed_sound}
use Rattle.certs_crl.specs.Reading.{IsPair, IsPaired, IsReadBody, IsTail, Pair, ReadFields, SaysBoth, SaysRead, TailFields, list_of}
use Rattle.certs_crl.specs.Written.{WritesCrl, WritesCrlNumber, WritesEntries, WritesExtension, WritesKey, WritesListExtensions, WritesName, WritesRevoked, WritesTbsList, padded_again, read_in}
use Rattle.certs_crl.proofs.Listed.{read_tbs}
use Rattle.certs_crl.proofs.Pairs.{both_in_order}

-- Words: a value alone, and values in one.

end_spelled : {A : Type 0} (m : Mode) {Q : Tree → A → Type 0} {x : A} {P : List ℕ → Type 0} → ((text : List ℕ) → P text → SpellsSome m (Alone Q x) text)
    → (text : List ℕ) → P text → SpellsSome m (λ ts. Then Q End ts (x, tt)) text
end_spelled m f text w =
    let s = f text w in
    record { trees = s.trees; is = record { first = s.is.tree; others = none; whole = s.is.alone; is = s.is.is; rest = record { ended = refl } }; spelled = s.spelled }

inside_spelled : {A : Type 0} (m : Mode) {tag : TagValue} {R : Trees → A → Type 0} {x : A} {P : List ℕ → Type 0} → ((text : List ℕ) → P text → SpellsSome m (λ ts. R ts x) text)
    → (text : List ℕ) → WritesWrapped m tag P text → SpellsSome m (Alone (Inside tag R) x) text
inside_spelled m {tag} f text w =
    let s = wrapped_spelled m f text w in
    record {
      trees = s.trees;
      is = record { tree = constructed tag s.is.values; alone = s.is.whole; is = record { values = s.is.values; whole = refl; is = s.is.is } };
      spelled = s.spelled;
    }

-- The first of two is one value, as the other says.
only_of : {A : Type 0} (m : Mode) {Q : Tree → A → Type 0} {x : A} {text : List ℕ} → SpellsSome m (λ ts. Then Q End ts (x, tt)) text → SpellsSome m (Alone Q x) text
only_of m {Q} s = record {
  trees = s.trees;
  is = record { tree = s.is.first; alone = s.is.whole ∙ ap (more s.is.first) s.is.rest.ended; is = s.is.is };
  spelled = s.spelled;
}

-- The octets of a value that is alone.
only_spelled : (m : Mode) (t : Tree) (text : List ℕ) → SpellsAll m (more t none) text → Spells m t text
only_spelled m t text h =
    let front : Front m text t [] = record { text = h.0; spelled = h.2; whole = h.4 ∙ ap (λ (v : List ℕ). h.0 ++ v) h.3 } in
    front_whole front

-- Octets that spell one value alone have it in front.
front_of : {A : Type 0} {Q : Tree → A → Type 0} {x : A} {text : List ℕ} → SpellsSome Der (Alone Q x) text → ReadsFront Q text x
front_of {text = text} s =
    let all = subst (λ (ts : Trees). SpellsAll Der ts text) s.is.alone s.spelled in
    front_reads (s.is.tree, [], front_all (only_spelled Der s.is.tree text all), s.is.is)

-- The fields.

version_spelled : (m : Mode) (text : List ℕ) → WritesPlain m integer_tag (WritesUnsigned (2 ^ 8) 1) text → SpellsSome m (Alone (IsVersion 1) tt) text
version_spelled m text w =
    let s = plain_spelled m text w in
    record {
      trees = s.trees;
      is = record { tree = primitive integer_tag s.is.content; alone = s.is.whole; is = record { content = s.is.content; whole = refl; is = record { is = s.is.is.is } } };
      spelled = s.spelled;
    }

-- One value whose octets were kept, written in a mode in which they stand.
name_spelled : (c : CapturedValue) (m : Mode) (text : List ℕ) → WritesName c m text → SpellsSome m (Alone (IsKeptName m) (record { mode = m; octets = c.octets })) text
name_spelled c m text w =
    let t = w.named.says.tree in
    let s = captured_spelled c m text w.kept in
    let same : s.trees ≡ more t none = one_fields {m = c.mode} {p = c.mode} (record { spelled = s.is.spelled }) (record { spelled = one_spelled c.mode t c.octets w.named.says.spelled }) in
    let kept = subst (λ (o : List ℕ). Spells m t o) w.kept.whole (only_spelled m t text (subst (λ (ts : Trees). SpellsAll m ts text) same s.spelled)) in
    record {
      trees = s.trees;
      is = record { tree = t; alone = same; is = record { mode = refl; spelled = kept; all = w.named.all; is = w.named.says.is } };
      spelled = s.spelled;
    }

algorithm_is : (b : Bool) (m : Mode) (text : List ℕ) → x509_algorithm.writes b m text → SpellsSome m (Alone IsAlgorithm b) text
algorithm_is b m text w = only_of m (algorithm_spelled sha256_with_rsa b m text w)

moment_is : (n : ℕ) (m : Mode) (text : List ℕ) → WritesMoment n m text → SpellsSome m (Alone IsTime n) text
moment_is n m text w = only_of m (written_again moment tt n m text tt w)

-- The octets that are kept spell these entries.
entries_spelled : (all : List RevokedValue) (c : CapturedValue) (m : Mode) (text : List ℕ) → SpellsEntries c all → CapturedText c m text → SpellsSome m (λ ts. Many IsRevoked ts all) text
entries_spelled all c m text p w =
    let s = captured_spelled c m text w in
    let same : p.trees ≡ s.trees = one_fields {m = c.mode} {p = c.mode} (record { spelled = p.spelled }) (record { spelled = s.is.spelled }) in
    record { trees = s.trees; is = subst (λ (ts : Trees). Many IsRevoked ts all) same p.is; spelled = s.spelled }

revoked_spelled : (all : List RevokedValue) (m : Mode) (text : List ℕ) → WritesEntries all m text → SpellsSome m (Alone AreRevoked all) text
revoked_spelled all m text w = inside_spelled m (λ o h. entries_spelled all w.octets m o w.spelled h) text w.kept

-- The extensions.

string_at : (m : Mode) (tag : TagValue) (content : List ℕ) → m ≢ Cer → IsString m tag (primitive tag content) content
string_at Ber tag content n = (refl, refl)
string_at Cer tag content n = absurd (n refl)
string_at Der tag content n = refl

-- An extension of that kind, not critical, whose octets are of P.
record HasExtension (m : Mode) (kind : List ℕ) (P : List ℕ → Type 0) (ts : Trees) : Type 0 where
  octets : List ℕ
  is : P octets
  alone : Alone (IsExtension m) (record { kind = kind; critical = false; octets = octets }) ts

-- No BOOLEAN stands in front of an OCTET STRING.
no_truth : {content : List ℕ} {us : Trees} → Without boolean_tag (more (primitive octet_string_tag content) us)
no_truth {content} {us} = record { unlike = λ t vs e same. let tags : octet_string_tag ≡ tag_of t = ap tag_of (same_trees e).0 in let wrong : 4 ≡ 1 = ap (λ (z : TagValue). z.number) (tags ∙ same) in absurd (omega arith) }

extension_spelled : (kind : List ℕ) → IsIdentifier kind → (P : List ℕ → Type 0) (m : Mode) (text : List ℕ) → WritesExtension m kind P text → SpellsSome m (HasExtension m kind P) text
extension_spelled kind known P m text w =
    let s = wrapped_spelled m (both_spelled m (plain_spelled m) (around_spelled m)) text w in
    let b = s.is.is in
    let string = b.is_second in
    let octets = string.plain.content in
    let behind : b.second ≡ more (primitive octet_string_tag octets) none = string.plain.whole in
    record {
      trees = s.trees;
      is = record {
        octets = octets;
        is = string.plain.is;
        alone = record {
          tree = constructed sequence_tag s.is.values;
          alone = s.is.whole;
          is = record {
            x = (kind, (false, (octets, tt)));
            is = record {
              values = s.is.values;
              whole = refl;
              is = record {
                first = primitive oid_tag b.is_first.content;
                others = b.second;
                whole = b.whole ∙ ap (λ (l : Trees). joined l b.second) b.is_first.whole;
                is = record { content = b.is_first.content; whole = refl; is = record { same = b.is_first.is.same; is = subst IsIdentifier (sym b.is_first.is.same) known } };
                rest = record {
                  cases = inl (
                    subst (Without boolean_tag) (sym behind) no_truth,
                    refl,
                    record { first = primitive octet_string_tag octets; others = none; whole = behind; is = string_at m octet_string_tag octets string.not_cer; rest = record { ended = refl } },
                  );
                };
              };
            };
            means = refl;
          };
        };
      };
      spelled = s.spelled;
    }

-- An extension that isn't critical, by its identifier and its octets.
abbrev extension_of : List ℕ → List ℕ → Extension
extension_of kind octets = record { kind = kind; critical = false; octets = octets }

record HasBoth (m : Mode) (P V : List ℕ → Type 0) (ts : Trees) : Type 0 where
  first : List ℕ
  second : List ℕ
  is_first : P first
  is_second : V second
  pair : IsPair m ts (extension_of id.authority_key_identifier first, (extension_of id.crl_number second, tt))

both_extensions : (m : Mode) (P V : List ℕ → Type 0) (text : List ℕ)
    → WritesBoth (WritesExtension m id.authority_key_identifier P) (WritesExtension m id.crl_number V) text → SpellsSome m (HasBoth m P V) text
both_extensions m P V text w =
    let s = both_spelled m (extension_spelled id.authority_key_identifier key_known P m) (extension_spelled id.crl_number number_known V m) text w in
    let a = s.is.is_first in
    let b = s.is.is_second in
    record {
      trees = s.trees;
      is = record {
        first = a.octets;
        second = b.octets;
        is_first = a.is;
        is_second = b.is;
        pair = record {
          first = a.alone.tree;
          others = s.is.second;
          whole = s.is.whole ∙ ap (λ (l : Trees). joined l s.is.second) a.alone.alone;
          is = record { is = a.alone.is; meets = inl refl };
          rest = record { first = b.alone.tree; others = none; whole = b.alone.alone; is = record { is = b.alone.is; meets = inr refl }; rest = record { ended = refl } };
        };
      };
      spelled = s.spelled;
    }
  where
    key_known : IsIdentifier id.authority_key_identifier
    key_known = record { front = 85 ∷ 29 ∷ []; last = 35; whole = refl; ends = omega arith }

    number_known : IsIdentifier id.crl_number
    number_known = record { front = 85 ∷ 29 ∷ []; last = 20; whole = refl; ends = omega arith }

-- What they say.
key_front : (key text : List ℕ) → IsTwentyLong key → WritesKey key text → ReadsFront IsAuthorityKeyIdentifier text key
key_front key text long w =
    let string : (o : List ℕ) → WritesString Der (context 0) key o → SpellsSome Der (Alone (IsKeyIdentifier Der (context 0)) key) o =
    λ o h. let s = (octets_at (context 0)).spelled key Der o h in
    let a = (octets_at (context 0)).is_read tt key Der s.trees tt s.is in
    record { trees = s.trees; is = record { tree = a.tree; alone = a.alone; is = record { is = a.is; meets = long } }; spelled = s.spelled } in
    let s = inside_spelled Der (end_spelled Der string) text w in
    front_of (record { trees = s.trees; is = record { tree = s.is.tree; alone = s.is.alone; is = record { x = (key, tt); is = s.is.is; means = refl } }; spelled = s.spelled })

number_front : (number : ℕ) (text : List ℕ) → WritesCrlNumber number text → ReadsFront IsSerial text number
number_front number text w = front_of (only_of Der (written_again serial tt number Der text tt w))

-- The values after the updates: entries, if there are any, and both extensions.
record HasTail (c : TbsListValue) (m : Mode) (ts : Trees) : Type 0 where
  fields : TailFields
  is : IsTail m ts fields
  revoked : c.revoked ≡ entries fields.0
  says : SaysBoth (list_of fields.1.0.0) c.authority_key_identifier c.number

-- The extensions alone.
record HasLast (c : TbsListValue) (m : Mode) (ts : Trees) : Type 0 where
  pair : Pair
  is : Then (Inside (context 0) (IsPaired m)) End ts ((pair, tt), tt)
  says : SaysBoth (list_of pair) c.authority_key_identifier c.number

last_spelled : (c : TbsListValue) → IsTwentyLong c.authority_key_identifier → (m : Mode) (text : List ℕ) → WritesListExtensions c.authority_key_identifier c.number m text
    → SpellsSome m (HasLast c m) text
last_spelled c long m text w =
    let s = wrapped_spelled m (wrapped_spelled m (both_extensions m (WritesKey c.authority_key_identifier) (WritesCrlNumber c.number))) text w in
    let inner = s.is.is in
    let b = inner.is in
    let key = extension_of id.authority_key_identifier b.first in
    let number = extension_of id.crl_number b.second in
    record {
      trees = s.trees;
      is = record {
        pair = (key, (number, tt));
        is = record {
          first = constructed (context 0) s.is.values;
          others = none;
          whole = s.is.whole;
          is = record {
            values = s.is.values;
            whole = refl;
            is = record {
              first = constructed sequence_tag inner.values;
              others = none;
              whole = inner.whole;
              is = record { values = inner.values; whole = refl; is = b.pair };
              rest = record { ended = refl };
            };
          };
          rest = record { ended = refl };
        };
        says = both_in_order {E = Unit {0}} key number (Ok (c.authority_key_identifier, c.number)) (refl, refl)
            (record { key_is = key_front c.authority_key_identifier b.first long b.is_first; number_is = number_front c.number b.second b.is_second });
      };
      spelled = s.spelled;
    }

-- No list of entries stands in front of [0].
no_list : {values us : Trees} → Without sequence_tag (more (constructed (context 0) values) us)
no_list {values} {us} = record { unlike = λ t vs e same. let tags : context 0 ≡ tag_of t = ap tag_of (same_trees e).0 in let wrong : 0 ≡ 16 = ap (λ (z : TagValue). z.number) (tags ∙ same) in absurd (omega arith) }

no_entries_tail : (c : TbsListValue) (m : Mode) {ts us vs : Trees} → c.revoked ≡ [] → us ≡ none → ts ≡ joined us vs → HasLast c m vs → HasTail c m ts
no_entries_tail c m {ts} {us} {vs} none_there e whole l =
    let same : ts ≡ vs = whole ∙ ap (λ (z : Trees). joined z vs) e in
    let first : vs ≡ more (constructed (context 0) l.is.is.values) l.is.others = l.is.whole ∙ ap (λ (t : Tree). more t l.is.others) l.is.is.whole in
    record {
      fields = (None, ((l.pair, tt), tt));
      is = subst (λ (z : Trees). IsTail m z (None, ((l.pair, tt), tt))) (sym same)
          (record { cases = (subst (Without sequence_tag) (sym first) no_list, l.is) });
      revoked = none_there;
      says = l.says;
    }

entries_tail : (c : TbsListValue) (m : Mode) {ts us vs : Trees} → Alone AreRevoked c.revoked us → ts ≡ joined us vs → HasLast c m vs → HasTail c m ts
entries_tail c m {ts} {us} {vs} a whole l = record {
  fields = (Some c.revoked, ((l.pair, tt), tt));
  is = record {
    cases = record {
      first = a.tree;
      others = vs;
      whole = whole ∙ ap (λ (z : Trees). joined z vs) a.alone;
      is = a.is;
      rest = l.is;
    };
  };
  revoked = refl;
  says = l.says;
}

tail_spelled : (c : TbsListValue) → IsTwentyLong c.authority_key_identifier → (m : Mode) (text : List ℕ)
    → WritesBoth (WritesRevoked c.revoked m) (WritesListExtensions c.authority_key_identifier c.number m) text → SpellsSome m (HasTail c m) text
tail_spelled c long m text w = elim w.is_first [
  | inl none_there ↦
      let s = both_spelled m (nothing_spelled m) (last_spelled c long m) text (record { first = w.first; second = w.second; is_first = none_there.1; is_second = w.is_second; whole = w.whole }) in
      record { trees = s.trees; is = no_entries_tail c m none_there.0 s.is.is_first s.is.whole s.is.is_second; spelled = s.spelled }
  | inr some ↦
      let s = both_spelled m (revoked_spelled c.revoked m) (last_spelled c long m) text (record { first = w.first; second = w.second; is_first = some; is_second = w.is_second; whole = w.whole }) in
      record { trees = s.trees; is = entries_tail c m s.is.is_first s.is.whole s.is.is_second; spelled = s.spelled }
]

-- All fields.
pub list_spelled : (c : TbsListValue) (m : Mode) (text : List ℕ) → WritesTbsList c m text → SpellsSome m (λ ts. Then (IsTbsList m) End ts (read_in m c, tt)) text
list_spelled c m text w =
    let fields = wrapped_spelled m
    (both_spelled m (version_spelled m)
    (both_spelled m (algorithm_is c.has_null m)
    (both_spelled m (name_spelled c.issuer m)
    (both_spelled m (moment_is c.this_update m)
    (both_spelled m (moment_is c.next_update m)
    (tail_spelled c w.long m)))))) text w.fields in
    let version = fields.is.is in
    let algorithm = version.is_second in
    let issuer = algorithm.is_second in
    let this_update = issuer.is_second in
    let next_update = this_update.is_second in
    let tail = next_update.is_second in
    let all : ReadFields = (tt, (c.has_null, (record { mode = m; octets = c.issuer.octets }, (c.this_update, (c.next_update, tail.fields))))) in
    let body : IsReadBody m fields.is.values all =
    then_of version (then_of algorithm (then_of issuer (then_of this_update (then_of next_update tail.is)))) in
    let says : SaysRead all (read_in m c) = record {
      has_null = refl;
      issuer = refl;
      this_update = refl;
      next_update = refl;
      revoked = tail.revoked;
      extensions = tail.says;
    } in
    record {
      trees = fields.trees;
      is = record {
        first = constructed sequence_tag fields.is.values;
        others = none;
        whole = fields.is.whole;
        is = read_tbs (record { values = fields.is.values; whole = refl; is = body }) says;
        rest = record { ended = refl };
      };
      spelled = fields.spelled;
    }
  where
    then_of : {A B : Type 0} {Q : Tree → A → Type 0} {R : Trees → B → Type 0} {T : Trees → Type 0} {x : A} {y : B} {ts : Trees} → (b : AreBoth (Alone Q x) T ts) → R b.second y → Then Q R ts (x, y)
    then_of b r = record { first = b.is_first.tree; others = b.second; whole = b.whole ∙ ap (λ (l : Trees). joined l b.second) b.is_first.alone; is = b.is_first.is; rest = r }

-- A list that was built.

-- The message alone.
message_whole : (c : TbsListValue) (octets : List ℕ) → WritesTbsList c Der octets → (t : Tree) × Spells Der t octets × IsTbsList Der t (read_in Der c)
message_whole c octets w =
    let s = only_of Der (list_spelled c Der octets w) in
    (s.is.tree, only_spelled Der s.is.tree octets (subst (λ (ts : Trees). SpellsAll Der ts octets) s.is.alone s.spelled), s.is.is)

-- A name that is written in DER stands in it.
in_der : (c : TbsListValue) (octets : List ℕ) → WritesTbsList c Der octets → read_in Der c ≡ c
in_der c octets w =
    let name = w.fields.is.is_second.is_second.is_first in
    elim name.kept.stands [
      | inl ber ↦ let wrong : Der ≡ Ber = ber in absurd cc
      | inr same ↦ ap (λ (k : Mode). record c { issuer = record { mode = k; octets = c.issuer.octets } }) (sym same)
    ]

-- The octets of any value are those of one.
any_kept : (s : SignedDataValue) (t : Tree) → Spells Der t s.message.octets → s.message.mode ≡ Der → KeepsOne (λ m. Any) (kept_message s.message)
any_kept s t text e m stands =
    let octets = s.message.octets in
    let own = one_spelled s.message.mode t octets (subst (λ (k : Mode). Spells k t octets) (sym e) text) in
    let w : CapturedText s.message m octets = record { stands = stands; values = record { trees = more t none; spelled = own }; whole = refl } in
    let r = captured_spelled s.message m octets w in
    let same : r.trees ≡ more t none = one_fields {m = s.message.mode} {p = s.message.mode} (record { spelled = r.is.spelled }) (record { spelled = own }) in
    record { tree = t; spelled = only_spelled m t octets (subst (λ (ts : Trees). SpellsAll m ts octets) same r.spelled); is = record { any = tt } }

only_tree : (octets : List ℕ) {t u : Tree} → Spells Der t octets → Spells Der u octets → t ≡ u
only_tree octets {t} {u} p q = (one_tree t u (front_all p) (front_all q)).0

algorithm_again : (b : Bool) → x509_algorithm.again Der b ≡ b
algorithm_again true = refl
algorithm_again false = refl

pub built_again : CrlIsSpelled → (c : CrlValue) (text : List ℕ) → WritesTbsList c.tbs Der c.signed.message → c.tbs.has_null ≡ c.signed.has_null → (w : WritesCrl c Der text)
    → CrlText text (padded_again c w.value)
unfolding only_of
built_again law c text fields agree w =
    let s = w.value in
    let octets : s.message.octets ≡ c.signed.message = ap (λ (z : SignedValue). z.message) w.same in
    let null : s.signature.algorithm ≡ c.signed.has_null = ap (λ (z : SignedValue). z.has_null) w.same in
    let unused : s.signature.bits.unused ≡ c.signed.unused = ap (λ (z : SignedValue). z.unused) w.same in
    let message = message_whole c.tbs s.message.octets (subst (λ (o : List ℕ). WritesTbsList c.tbs Der o) (sym octets) fields) in
    let tbs : IsTbsList Der message.0 c.tbs = subst (λ (z : TbsListValue). IsTbsList Der message.0 z) (in_der c.tbs c.signed.message fields) message.2 in
    let stands = w.text_is.is.is_first.stands in
    let mode : s.message.mode ≡ Der = elim stands [
      | inl ber ↦ let wrong : Der ≡ Ber = ber in absurd cc
      | inr same ↦ same
    ] in
    let der : c.signed.mode ≡ Der = sym (ap (λ (z : SignedValue). z.mode) w.same) ∙ mode in
    let again = written_again signed signed_sound (signed_fields s) Der text (signed_lawful s (any_kept s message.0 message.1 mode)) w.text_is in
    let value = again.is.is in
    let i = value.is in
    let same : message.0 ≡ i.first = only_tree s.message.octets message.1 i.is.kept.spelled in
    let made : CrlValue = padded_again c s in
    let is : IsCrl Der again.is.first made = record {
      is = record {
        x = ((s.message.octets, c.tbs), (s.signature.algorithm, (padded_in Der s.signature.bits, tt)));
        is = record {
          values = value.values;
          whole = value.whole;
          is = record {
            first = i.first;
            others = i.others;
            whole = i.whole;
            is = record { spelled = i.is.kept.spelled; is = subst (λ (t : Tree). IsTbsList Der t c.tbs) same tbs };
            rest = record {
              first = i.rest.first;
              others = i.rest.others;
              whole = i.rest.whole;
              is = subst (λ (b : Bool). IsAlgorithm i.rest.first b) (algorithm_again s.signature.algorithm) i.rest.is;
              rest = i.rest.rest;
            };
          };
        };
        means = λ k. record {
          signed = record {
            message = sym octets k;
            has_null = sym null k;
            signature = (padded_in Der s.signature.bits).octets;
            unused = sym unused k;
            mode = der k;
          };
          tbs = c.tbs;
          caches = false;
        };
      };
      agree = agree;
    } in
    let alone = only_of Der again in
    let spelled = only_spelled Der again.is.first text (subst (λ (ts : Trees). SpellsAll Der ts text) alone.is.alone alone.spelled) in
    record { text = text; rest = []; whole = sym (append-nil text); is = (law again.is.first text made spelled).0 is }
