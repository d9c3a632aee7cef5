-- What is written of the value of an extension is read again as that value (RFC 6487 4.8, RFC 3779).
use Rattle.std.proofs.Common.{◌≡◌, ◌≢◌, inl, ℕ, Bool, false, List, [], ◌∷◌, map, refl, sym, ap, ◌∙◌, subst, arith}
use Rattle.std.proofs.lemmas.List.Elements.{All-weaker}
use Rattle.certs.specs.bcder_tree.declared.mode.Mode.{Mode}
use Rattle.certs.specs.bcder_tree.declared.mode.Mode.TheVariants.{Der}
use Rattle.certs.specs.bcder_tree.Strings.{IsIa5}
use Rattle.certs.specs.bcder_tree.Tags.{TagValue, context, boolean_tag, octet_string_tag, sequence_tag}
use Rattle.certs.specs.bcder_tree.Tree.{Tree, Trees, constructed, none}
use Rattle.certs.specs.bcder_octets.Bits.{BitsValue}
use Rattle.certs.specs.bcder_octets.BitContents.{IsBitString}
use Rattle.certs.specs.bcder_content.Grammar.{As, End, Inside, Then}
use Rattle.certs.specs.bcder.Identifiers.{IsIdentifier}
use Rattle.certs.specs.bcder.Kinds.{boolean, octets_at, oid}
use Rattle.certs.specs.bcder_values.Forms.{Alone, Form, mapped, wrapped}
use Rattle.certs.specs.bcder_values.ListForms.{LawfulAll, items}
use Rattle.certs.specs.bcder_values.OptionalForms.{last_default}
use Rattle.certs.specs.bcder_primitive.Encoded.{joined}
use Rattle.certs.specs.certs_extension.Grammars.{HaveOneRsync, IsIssuer, IsName}
use Rattle.certs.specs.certs_basics.Basics.{IsTwentyLong}
use Rattle.certs.specs.certs_basics.Identifiers as id
use Rattle.certs.specs.certs_extension.Extensions.{IsAuthorityAccess, IsAuthorityKeyIdentifier, IsBasicConstraints, IsCrlDistribution, IsExtendedKeyUsage, IsKeyUsage, IsPolicies, IsSubjectKeyIdentifier, UsageBits}
use Rattle.certs.specs.certs_extension.declared.forms.KeyUsage.{KeyUsage}
use Rattle.certs.specs.certs_extension.declared.forms.KeyUsage.TheVariants.{Ca, Ee}
use Rattle.certs_basics.specs.Uris.{IsRsync, IsUri, IsUriOctet}
use Rattle.certs_basics.proofs.PathUris.{IsUri-plain}
use Rattle.certs_basics.proofs.of_bcder.Ascii.{ascii_text}
use Rattle.certs_basics.proofs.of_bcder_octets.Written.{written_string}
use Rattle.certs.specs.resources_as.Encodings.{IsAsResources}
use Rattle.certs.specs.resources_as.Written.{AreAsResources, HasMaximal, MeansJust}
use Rattle.certs.specs.resources_chain.Claims.{Choice}
use Rattle.certs.specs.resources_chain.declared.choice.ResourcesChoice.TheVariants.{Missing}
use Rattle.certs.specs.resources_chain.declared.claims.Overclaim.{Overclaim}
use Rattle.certs.specs.resources_chain.declared.claims.Overclaim.TheVariants.{Refuse, Trim}
use Rattle.certs.specs.resources_ip.Encodings.{IsIpAddrBlocks}
use Rattle.certs.specs.resources_ip.Written.{FitsChoice}
use Rattle.certs.specs.resources_ip.WrittenFamilies.{FamiliesTrees, ReadsFamilies, both}
use Rattle.certs.specs.resources_ip_prefix.declared.addr.AddressFamily.TheVariants.{Ipv4, Ipv6}
use Rattle.certs.specs.resources_as.Identifiers.{policy_octets}
use Rattle.certs.specs.certs_extension.Usages.{usage_octets}
use Rattle.certs.specs.Outputs.{IsReadAs, Output, inside}
use Rattle.certs.specs.Values as values
use Rattle.certs.specs.Values.{shown}
use Rattle.certs.proofs.Ext.{told, shown_lawful}

-- A value alone in a constructed one.
pub alone_in : {A : Type 0} {Q : Tree → A → Type 0} {x : A} (tag : TagValue) (o : Output) → IsReadAs Q x o → IsReadAs (As (Inside tag (Then Q End)) (λ (z : A × Unit {0}). z.0)) x (inside tag o)
alone_in {x = x} tag o reads ts p =
    let a = reads p.values p.is in
    record {
      tree = constructed tag p.values;
      alone = p.whole;
      is = record {
        x = (x, tt);
        is = record { values = p.values; whole = refl; is = record { first = a.tree; others = none; whole = a.alone; is = a.is; rest = record { ended = refl } } };
        means = refl;
      };
    }

abbrev constraints : Form Bool
constraints = mapped (λ (z : Bool × Unit {0}). z.0) (λ (x : Bool). (x, tt)) (wrapped sequence_tag (last_default boolean_tag boolean false shown))

pub constraints_read : (ca : Bool) → IsReadAs IsBasicConstraints ca (values.basic_constraints ca)
constraints_read ca ts p = constraints.is_read (record { is = λ t e. e; behind = λ e. e }, (record { shows = told; same = λ m. refl }, tt)) ca Der ts (shown_lawful ca) p

-- Identifiers of keys.
string_read : (tag : TagValue) (octets : List ℕ) (ts : Trees) → (octets_at tag).trees octets Der ts → Alone ((octets_at tag).reads Der) octets ts
string_read tag octets ts p = (octets_at tag).is_read tt octets Der ts tt p

pub subject_key_read : (octets : List ℕ) → IsTwentyLong octets → IsReadAs IsSubjectKeyIdentifier octets (values.subject_key octets)
subject_key_read octets long ts p =
    let a = string_read octet_string_tag octets ts p in
    record { tree = a.tree; alone = a.alone; is = record { is = a.is; meets = long } }

pub authority_key_read : (octets : List ℕ) → IsTwentyLong octets → IsReadAs IsAuthorityKeyIdentifier octets (values.authority_key octets)
authority_key_read octets long ts p =
    let a = string_read (context 0) octets p.values p.is in
    record {
      tree = constructed sequence_tag p.values;
      alone = p.whole;
      is = record {
        x = (octets, tt);
        is = record {
          values = p.values;
          whole = refl;
          is = record { first = a.tree; others = none; whole = a.alone; is = record { is = a.is; meets = long }; rest = record { ended = refl } };
        };
        means = refl;
      };
    }

-- Key usage.
abbrev bits_of : KeyUsage → BitsValue
bits_of Ca = record { unused = 1; octets = 6 ∷ [] }
bits_of Ee = record { unused = 7; octets = 128 ∷ [] }

usage_is : (u : KeyUsage) → IsBitString Der (usage_octets u) (bits_of u)
usage_is Ca = record { whole = refl; lawful = record { few = omega arith; none = λ e. cc }; padded = refl; short = tt }
usage_is Ee = record { whole = refl; lawful = record { few = omega arith; none = λ e. cc }; padded = refl; short = tt }

usage_says : (u : KeyUsage) → UsageBits (bits_of u) u
usage_says Ca = refl
usage_says Ee = refl

pub usage_read : (u : KeyUsage) → IsReadAs IsKeyUsage u (values.key_usage u)
usage_read u ts p = record {
  tree = _;
  alone = p.whole;
  is = record {
    x = bits_of u;
    is = record { content = p.content; whole = refl; is = subst (λ (o : List ℕ). IsBitString Der o (bits_of u)) (sym p.is.same) (usage_is u) };
    means = usage_says u;
  };
}

-- Extended key usage.
map_same : (xs : List (List ℕ)) → map (λ (x : List ℕ). x) xs ≡ xs
map_same [] = refl
map_same (x ∷ xs) = ap (λ ys. x ∷ ys) (map_same xs)

abbrev all_oids : Form (List (List ℕ))
all_oids = wrapped sequence_tag (items oid)

pub purposes_read : (xs : List (List ℕ)) → xs ≢ [] → LawfulAll IsIdentifier xs → IsReadAs IsExtendedKeyUsage xs (values.purposes xs)
purposes_read xs some lawful ts p =
    let a = all_oids.is_read tt xs Der ts lawful p in
    let is = subst (λ (ys : List (List ℕ)). all_oids.reads Der a.tree ys) (map_same xs) a.is in
    record { tree = a.tree; alone = a.alone; is = record { values = is.values; whole = is.whole; is = record { xs = xs; are = is.is; says = (refl, some) } } }

-- URIs.
pub name_read : (uri : List ℕ) → IsUri uri → IsReadAs (IsName Der) uri (values.uri_name uri)
name_read uri is ts p =
    let w = written_string Der (context 6) uri ts p in
    let all = All-weaker IsUriOctet IsIa5 (λ n h. omega (arith, h.1)) uri (IsUri-plain uri is) in
    record { tree = w.tree; alone = w.alone; is = record { is = w.is; meets = (ascii_text IsIa5 uri).1 all } }

names_read : (uri : List ℕ) → IsRsync uri → (ts : Trees) → (values.uri_name uri).trees Der ts → HaveOneRsync Der ts uri
names_read uri is ts p =
    let a = name_read uri (inl is) ts p in
    record {
      xs = uri ∷ [];
      are = record { cases = (a.tree, none, a.alone, a.is, refl) };
      says = record { before = []; behind = []; whole = refl; readable = is; none_before = tt; none_behind = tt };
    }

full_read : (uri : List ℕ) → IsRsync uri → IsReadAs (Inside (context 0) (HaveOneRsync Der)) uri (inside (context 0) (values.uri_name uri))
full_read uri is ts p = record { tree = constructed (context 0) p.values; alone = p.whole; is = record { values = p.values; whole = refl; is = names_read uri is p.values p.is } }

pub crl_read : (uri : List ℕ) → IsRsync uri → IsReadAs IsCrlDistribution uri (values.crl uri)
crl_read uri is =
    let full = inside (context 0) (values.uri_name uri) in
    let point = inside (context 0) full in
    alone_in sequence_tag (inside sequence_tag point)
    (alone_in sequence_tag point (alone_in (context 0) full (full_read uri is)))

issuer_identifies : IsIdentifier id.ca_issuers
issuer_identifies = record { front = 43 ∷ 6 ∷ 1 ∷ 5 ∷ 5 ∷ 7 ∷ 48 ∷ []; last = 2; whole = refl; ends = omega arith }

one_issuer : (uri : List ℕ) → IsRsync uri → IsReadAs (IsIssuer Der) uri (values.location (record { method = id.ca_issuers; uri = uri }))
one_issuer uri is ts p =
    let method = p.is.is_first in
    record {
      tree = constructed sequence_tag p.values;
      alone = p.whole;
      is = record {
        x = (tt, uri);
        is = record {
          values = p.values;
          whole = refl;
          is = record {
            first = _;
            others = p.is.second;
            whole = p.is.whole ∙ ap (λ (us : Trees). joined us p.is.second) method.whole;
            is = record { content = method.content; whole = refl; is = record { same = method.is.same } };
            rest = names_read uri is p.is.second p.is.is_second;
          };
        };
        means = refl;
      };
    }

pub issuer_read : (uri : List ℕ) → IsRsync uri → IsReadAs IsAuthorityAccess uri (values.issuer_access uri)
issuer_read uri is = alone_in sequence_tag (values.location (record { method = id.ca_issuers; uri = uri })) (one_issuer uri is)

-- Policies.
policy_identifies : (p : Overclaim) → IsIdentifier (policy_octets p)
policy_identifies Refuse = record { front = 43 ∷ 6 ∷ 1 ∷ 5 ∷ 5 ∷ 7 ∷ 14 ∷ []; last = 2; whole = refl; ends = omega arith }
policy_identifies Trim = record { front = 43 ∷ 6 ∷ 1 ∷ 5 ∷ 5 ∷ 7 ∷ 14 ∷ []; last = 3; whole = refl; ends = omega arith }

pub policies_read : (policy : Overclaim) → IsReadAs IsPolicies policy (values.policies policy)
policies_read policy ts p =
    let inner = p.is in
    let a = oid.is_read tt (policy_octets policy) Der inner.values (policy_identifies policy) inner.is in
    record {
      tree = constructed sequence_tag p.values;
      alone = p.whole;
      is = record {
        x = (policy, tt);
        is = record {
          values = p.values;
          whole = refl;
          is = record {
            first = constructed sequence_tag inner.values;
            others = none;
            whole = inner.whole;
            is = record {
              x = (policy, tt);
              is = record {
                values = inner.values;
                whole = refl;
                is = record { first = a.tree; others = none; whole = a.alone; is = record { x = policy_octets policy; is = a.is; means = refl }; rest = record { any = tt } };
              };
              means = refl;
            };
            rest = record { ended = refl };
          };
        };
        means = refl;
      };
    }

-- What is written of resources is read again as the same: of both families of addresses (RFC 3779 2.2.3), and of AS numbers
-- (3.2.3).
abbrev pub FamiliesAreRead : Type 0
FamiliesAreRead =
    (m : Mode) (v4 v6 : Choice) (ts : Trees) → FitsChoice Ipv4 v4 → FitsChoice Ipv6 v6 → ¬ ((v4 ≡ Missing) × (v6 ≡ Missing)) → FamiliesTrees m (both v4 v6) ts → ReadsFamilies m (both v4 v6) ts

abbrev pub NumbersAreRead : Type 0
NumbersAreRead = (choice : Choice) (ts : Trees) → HasMaximal choice → choice ≢ Missing → AreAsResources choice ts → MeansJust choice ts

pub record ResourcesAreRead : Type 0 where
  pub families : FamiliesAreRead
  pub numbers : NumbersAreRead

pub addresses_read : FamiliesAreRead → (v4 v6 : Choice) → FitsChoice Ipv4 v4 → FitsChoice Ipv6 v6 → ¬ ((v4 ≡ Missing) × (v6 ≡ Missing)) → IsReadAs (IsIpAddrBlocks Der) (both v4 v6) (values.addresses (both v4 v6))
addresses_read families v4 v6 fit_v4 fit_v6 some ts p =
    let a = families Der v4 v6 ts fit_v4 fit_v6 some p in
    record { tree = a.tree; alone = a.alone; is = a.is }

pub asns_read : NumbersAreRead → (choice : Choice) → HasMaximal choice → choice ≢ Missing → IsReadAs IsAsResources choice (values.asns choice)
asns_read numbers choice maximal there ts p =
    let a = numbers choice ts maximal there p in
    record { tree = a.tree; alone = a.whole; is = a.is }
