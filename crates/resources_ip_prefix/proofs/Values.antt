-- What is read of families and of addresses: the values that strings tell, and those that tell none.
use Rattle.std.proofs.Common.{◌≡◌, ◌↔◌, Bool, false, IsTrue, List, ℕ, Result, Ok, Err, subst}
use Rattle.std.specs.Result.{IsErr, IsErrAnd}
use Rattle.resources_ip_prefix.specs.bcder_tree.declared.mode.Mode.{Mode}
use Rattle.resources_ip_prefix.specs.bcder_tree.Tags.{TagValue}
use Rattle.resources_ip_prefix.specs.bcder_tree.Strings.{IsString}
use Rattle.resources_ip_prefix.specs.bcder_source.declared.error.DecodeError.{DecodeError}
use Rattle.resources_ip_prefix.specs.bcder_content.declared.content.Content.{Content}
use Rattle.resources_ip_prefix.specs.bcder_content.Here.{here}
use Rattle.resources_ip_prefix.specs.bcder_content.Tagged.{ReadsTagged}
use Rattle.resources_ip_prefix.proofs.of_bcder_content.Tagged.{HasTag}
use Rattle.resources_ip_prefix.proofs.of_bcder_content.Within.{Within, content_gives, content_stop, content_unfit}
use Rattle.resources_ip_prefix.proofs.of_bcder_octets.Cuts.{not_so}
use Rattle.resources_ip_prefix.proofs.of_bcder_octets.Meaning.{one_string}
use Rattle.resources_ip_prefix.proofs.of_bcder_octets.Strings.{string_tagged}
use Rattle.resources_ip_prefix.specs.declared.addr.AddressFamily.{AddressFamily}
use Rattle.resources_ip_prefix.specs.declared.addr.AddressFamily.TheVariants.{Ipv4, Ipv6}
use Rattle.resources_ip_prefix.specs.Encodings.{IsFamilyIn, family_octets}

-- Families.

family_within : (m : Mode) (tag : TagValue) → Within (IsFamilyIn m tag) (IsString m tag)
family_within m tag t family p = (family_octets family, p.is)

pub family_stop : {S E : Type 0} {rest : S → List ℕ} {old new : Content S} (r : Result AddressFamily (DecodeError E)) (e : DecodeError E) → IsErr r × IsErrAnd r (λ x. x ≡ e) → ReadsTagged {A = List ℕ} rest (λ x. x) IsString old (Err e) new → ReadsTagged rest (λ f. f) IsFamilyIn old r new
family_stop {rest = rest} {old} {new} r e a g =
    let v = here rest old.values.now in
    record { same = g.same; reads = λ tag. content_stop (λ (x : List ℕ). x) (λ f. f) (IsString v.mode tag) (IsFamilyIn v.mode tag) old.values.now.constructed tag v (here rest new.values.now) r e a (family_within v.mode tag) (g.reads tag) }

pub family_given : {S E : Type 0} {rest : S → List ℕ} {old new : Content S} {octets : List ℕ} {family : AddressFamily} → ReadsTagged {A = List ℕ} {E = E} rest (λ x. x) IsString old (Ok octets) new → octets ≡ family_octets family → ReadsTagged {E = E} rest (λ f. f) IsFamilyIn old (Ok family) new
family_given {E = E} {rest = rest} {old} {new} g e =
    let v = here rest old.values.now in
    record { same = g.same; reads = λ tag. content_gives E (λ (x : List ℕ). x) (λ f. f) (IsString v.mode tag) (IsFamilyIn v.mode tag) old.values.now.constructed tag v (here rest new.values.now) (λ t s. record { is = subst (λ (o : List ℕ). IsString v.mode tag t o) e s }) (family_within v.mode tag) (g.reads tag) }

pub family_unfit : {S E : Type 0} {rest : S → List ℕ} {old new : Content S} {octets : List ℕ} (e : DecodeError E) → ReadsTagged {A = List ℕ} {E = E} rest (λ x. x) IsString old (Ok octets) new → ((family : AddressFamily) → octets ≡ family_octets family → ⊥) → ReadsTagged {E = E} rest (λ (f : AddressFamily). f) IsFamilyIn old (Err e) new
family_unfit {rest = rest} {old} {new} {octets} e g none =
    let v = here rest old.values.now in
    record { same = g.same; reads = λ tag. content_unfit (λ (x : List ℕ). x) (λ f. f) (IsString v.mode tag) (IsFamilyIn v.mode tag) old.values.now.constructed tag v (here rest new.values.now) (here rest new.values.now) e (λ t family p s. none family (one_string v.mode tag t octets (family_octets family) s p.is)) (family_within v.mode tag) (g.reads tag) }

pub family_has_tag : HasTag IsFamilyIn
family_has_tag = record { has = λ m tag t family p. string_tagged.has m tag t (family_octets family) p.is }

-- Octets that are neither of the two.
pub family_neither : {a b : Bool} {octets : List ℕ} → IsTrue a ↔ (octets ≡ family_octets Ipv4) → a ≡ false → IsTrue b ↔ (octets ≡ family_octets Ipv6) → b ≡ false → (family : AddressFamily) → octets ≡ family_octets family → ⊥
family_neither first isnt second neither Ipv4 e = not_so first isnt e
family_neither first isnt second neither Ipv6 e = not_so second neither e
