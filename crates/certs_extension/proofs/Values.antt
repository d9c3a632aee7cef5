-- The values in certificates and revocation lists are read in one way.
use Rattle.std.proofs.Common.{◌≡◌, ℕ, ◌+◌, ◌%◌, ◌/◌, List, [], ◌∷◌, ◌++◌, Option, Some, None, refl, sym, ap, ◌∙◌, arith}
use Rattle.certs_extension.specs.bcder_tree.declared.mode.Mode.{Mode}
use Rattle.certs_extension.specs.bcder_tree.declared.mode.Mode.TheVariants.{Der}
use Rattle.certs_extension.specs.bcder_tree.Tags.{context}
use Rattle.certs_extension.specs.bcder_tree.Tree.{Tree}
use Rattle.certs_extension.specs.bcder_tree.Strings.{octet_string_tag}
use Rattle.certs_extension.specs.bcder_content.Grammar.{One, OneOctets}
use Rattle.certs_extension.proofs.of_bcder_content.Unique.{octets_one, octets_tagged, inside_one, then_one, default_one, end_one, rest_one, as_one, one_of_one}
use Rattle.certs_extension.proofs.of_bcder_content.Choices.{universal_apart}
use Rattle.certs_extension.proofs.of_bcder.Read.{oid_one}
use Rattle.certs_extension.specs.bcder_octets.Bits.{BitsValue}
use Rattle.certs_extension.proofs.of_bcder_octets.BitReadings.{bit_string_one}
use Rattle.certs_extension.specs.resources_chain.declared.claims.Overclaim.{Overclaim}
use Rattle.certs_extension.specs.resources_chain.declared.claims.Overclaim.TheVariants.{Refuse, Trim}
use Rattle.certs_extension.specs.resources_as.Identifiers.{policy_octets}
use Rattle.certs_basics.specs.Times.{Civil, IsReal, IsMoment, digits, moment_text, seconds_of}
use Rattle.certs_basics.proofs.Moments.{one_civil, one_moment}
use Rattle.certs_extension.specs.declared.forms.KeyUsage.{KeyUsage}
use Rattle.certs_extension.specs.declared.forms.KeyUsage.TheVariants.{Ca, Ee}
use Rattle.certs_extension.specs.bcder_content.Texts.{ReadsFront}
use Rattle.certs_basics.specs.Forms.{IsShortYear, IsShortMoment, IsTime, IsValidity, short_text}
use Rattle.certs_extension.specs.Extensions.{Extension, IsExtension, Need, IsOptional, Only, IsBasicConstraints, IsSubjectKeyIdentifier, IsAuthorityKeyIdentifier, UsageBits, IsKeyUsage, IsExtendedKeyUsage, IsCrlDistribution, IsAuthorityAccess, IsPolicies}
use Rattle.certs_extension.specs.CertAccess.{IsSubjectAccess}
use Rattle.certs_extension.proofs.Ones.{distribution_one, authority_one, subject_access_one as access_one}
use Rattle.certs_extension.proofs.of_bcder_content.Meaning.{means_one}
use Rattle.certs_extension.proofs.of_bcder_content.Simple.{boolean_one}
use Rattle.certs_extension.proofs.of_certs_basics.Values.{gathers_one, string_one, key_identifier_one}
use Rattle.certs_extension.proofs.of_bcder_content.Fronts.{spells_one, in_front_one}

-- A value alone in a SEQUENCE.
pub only_one : {A : Type 0} {Q : Tree → A → Type 0} → One Q → One (Only Q)
only_one o = as_one (inside_one (then_one o end_one))

-- Times.

short_one : OneOctets IsShortMoment
short_one = record { one = λ content x y p q. p.seconds_are ∙ ap seconds_of (same p.civil q.civil p.real q.real p.year q.year (sym p.text_is ∙ q.text_is)) ∙ sym q.seconds_are }
  where
    same : (a b : Civil) → IsReal a → IsReal b → IsShortYear a.year → IsShortYear b.year → short_text a ≡ short_text b → a ≡ b
    same a b r s f g e =
        let tens : 48 + a.year % 100 / 10 % 10 ≡ 48 + b.year % 100 / 10 % 10 = cc in
        let ones : 48 + a.year % 100 % 10 ≡ 48 + b.year % 100 % 10 = cc in
        let year : a.year ≡ b.year = omega arith in
        let behind : digits 2 a.month ++ digits 2 a.day ++ digits 2 a.hour ++ digits 2 a.minute ++ digits 2 a.second ++ 90 ∷ [] ≡ digits 2 b.month ++ digits 2 b.day ++ digits 2 b.hour ++ digits 2 b.minute ++ digits 2 b.second ++ 90 ∷ [] = cc in
        let texts : moment_text a ≡ moment_text b = ap (λ (n : ℕ). digits 4 n ++ digits 2 a.month ++ digits 2 a.day ++ digits 2 a.hour ++ digits 2 a.minute ++ digits 2 a.second ++ 90 ∷ []) year ∙ ap (λ (v : List ℕ). digits 4 b.year ++ v) behind in
        one_civil (moment_text a) a b r s refl texts

moment_one : OneOctets IsMoment
moment_one = record { one = λ content x y p q. one_moment content x y p q }

pub time_one : One IsTime
time_one = one_of_one (octets_tagged _ _) (octets_tagged _ _) (universal_apart (λ e. omega arith)) (octets_one short_one) (octets_one moment_one)

pub validity_one : One IsValidity
validity_one = inside_one (then_one time_one (then_one time_one end_one))

-- Extensions.

pub extension_one : {m : Mode} → One (IsExtension m)
extension_one {m} = as_one (inside_one (then_one (octets_one oid_one) (default_one (octets_tagged _ _) (octets_one (boolean_one _)) (then_one (string_one m octet_string_tag) end_one))))

pub reads_one : {A : Type 0} {Q : Tree → A → Type 0} → One Q → (octets : List ℕ) (x y : A) → ReadsFront Q octets x → ReadsFront Q octets y → x ≡ y
reads_one o = in_front_one (spells_one o)

pub optional_one : {A : Type 0} {Q : Tree → A → Type 0} (need : Need) → One Q → (es : List Extension) (x y : Option A) → IsOptional need Q es x → IsOptional need Q es y → x ≡ y
optional_one need o [] None None p q = refl
optional_one need o [] None (Some y) p q = absurd q
optional_one need o [] (Some x) y p q = absurd p
optional_one need o (e ∷ []) None y p q = absurd p
optional_one need o (e ∷ []) (Some x) None p q = absurd q
optional_one need o (e ∷ []) (Some x) (Some y) p q = ap (λ z. Some z) (reads_one o e.octets x y p.1 q.1)
optional_one need o (e ∷ f ∷ es) x y p q = absurd p

pub same_some : {A : Type 0} {x y : A} → Some x ≡ Some y → x ≡ y
same_some e = cc

pub basic_one : One IsBasicConstraints
basic_one = as_one (inside_one (default_one (octets_tagged _ _) (octets_one (boolean_one _)) end_one))

pub subject_key_one : One IsSubjectKeyIdentifier
subject_key_one = key_identifier_one Der octet_string_tag

pub authority_key_one : One IsAuthorityKeyIdentifier
authority_key_one = only_one (key_identifier_one Der (context 0))

pub usage_one : One IsKeyUsage
usage_one = means_one (octets_one bit_string_one) same
  where
    same : (v : BitsValue) (x y : KeyUsage) → UsageBits v x → UsageBits v y → x ≡ y
    same v Ca Ca p q = refl
    same v Ee Ee p q = refl
    same v Ca Ee p q = let e : 1 ≡ 7 = ap (λ (w : BitsValue). w.unused) (sym p ∙ q) in absurd (omega (arith, e))
    same v Ee Ca p q = let e : 1 ≡ 7 = ap (λ (w : BitsValue). w.unused) (sym q ∙ p) in absurd (omega (arith, e))

pub purposes_one : One IsExtendedKeyUsage
purposes_one = inside_one (gathers_one (octets_one oid_one) (λ xs y z p q. sym p.0 ∙ q.0))

pub crl_distribution_one : One IsCrlDistribution
crl_distribution_one = distribution_one Der

pub authority_access_one : One IsAuthorityAccess
authority_access_one = authority_one Der

pub policies_one : One IsPolicies
policies_one = only_one (as_one (inside_one (then_one (means_one (octets_one oid_one) (λ octets x y p q. same x y (sym p ∙ q))) rest_one)))
  where
    same : (x y : Overclaim) → policy_octets x ≡ policy_octets y → x ≡ y
    same Refuse Refuse e = refl
    same Trim Trim e = refl
    same Refuse Trim e = absurd cc
    same Trim Refuse e = absurd cc

pub subject_access_one : One IsSubjectAccess
subject_access_one = access_one Der
