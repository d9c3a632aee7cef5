-- What reading contents rests on.
use Rattle.std.proofs.Common.{◌≡◌, ℕ, List, Option, Some, None, Result, Ok, Err}
use Rattle.std.specs.Result.{IsErr, IsErrAnd}
use Rattle.objects_payload.specs.bcder_tree.declared.mode.Mode.{Mode}
use Rattle.objects_payload.specs.bcder_tree.declared.mode.Mode.TheVariants.{Der}
use Rattle.objects_payload.specs.bcder_tree.Tags.{context, sequence_tag}
use Rattle.objects_payload.specs.bcder_tree.Tree.{Tree, Trees}
use Rattle.objects_payload.specs.bcder_source.Errors.{OnContent}
use Rattle.objects_payload.specs.bcder_source.declared.error.DecodeError.{DecodeError}
use Rattle.objects_payload.specs.bcder_content.Contents.{ValuesLeft}
use Rattle.objects_payload.specs.bcder_content.Exact.{DecodesAs, GivesAll, LacksAll}
use Rattle.objects_payload.specs.bcder_content.Grammar.{End, Inside, OptCases, Then}
use Rattle.objects_payload.specs.bcder_content.InMode.{ReadsFields}
use Rattle.objects_payload.proofs.of_bcder_content.Taking.{weaker}
use Rattle.objects_payload.proofs.of_bcder_content.Within.{AllWithin, all_gives, all_stop}
use Rattle.objects_payload.specs.resources_asn.Encodings.{IsAsId}
use Rattle.objects_payload.specs.Contents.{IsVersion}
use Rattle.objects_payload.specs.Roas.{AreRoaFamilies, Fields, IsRoa, Roa, RoaAddress, roa_of}
use Rattle.objects_payload.specs.resources_ip_prefix.declared.addr.AddressFamily.TheVariants.{Ipv4, Ipv6}
use Rattle.objects_payload.specs.Addresses.{AllOf}
use Rattle.objects_payload.specs.RoaContents.{AreRoa, AreRoaFields, IsRoaIn}
use Rattle.objects_payload.specs.Families.{AreFamilies}
use Rattle.objects_payload.proofs.FamilyLemmas.{families_all, families_in_der, families_of_der}

-- What the fields say.

roa_within : (m : Mode) → AllWithin (AreRoa m) (AreRoaFields m)
roa_within m ts r p = (p.fields, p.are)

pub roa_stop : {C E : Type 0} (f : C → Roa) (v w : ValuesLeft) (r : Result C (DecodeError E)) (e : DecodeError E) → IsErr r × IsErrAnd r (λ x. x ≡ e)
    → OnContent e (LacksAll (AreRoaFields v.mode) v) → ReadsFields f AreRoa v r w
roa_stop f v w r e a l = record { reads = all_stop f (AreRoa v.mode) (AreRoaFields v.mode) v w r e a (roa_within v.mode) l }

pub roa_given : {C E : Type 0} (f : C → Roa) (x : C) (fields : Fields) {v w : ValuesLeft} → GivesAll (AreRoaFields v.mode) v fields w → f x ≡ roa_of fields
    → ReadsFields {E = E} f AreRoa v (Ok x) w
roa_given f x fields {v} g e = record {
  reads = all_gives (AreRoa v.mode) (AreRoaFields v.mode) (λ ts are. record { fields = fields; are = are; means = e }) (roa_within v.mode) g;
}

-- What stands after the version.
abbrev Behind : Type 0
Behind = ℕ × ((List RoaAddress × List RoaAddress) × Unit {0})

abbrev Rest : Mode → Trees → Behind → Type 0
Rest m = Then IsAsId (Then (Inside sequence_tag (AreFamilies m)) End)

abbrev RoaRest : Trees → Behind → Type 0
RoaRest = Then IsAsId (Then (Inside sequence_tag AreRoaFamilies) End)

-- The addresses of each family are addresses of it.
rest_all : (m : Mode) (ts : Trees) (r : Behind) → Rest m ts r → AllOf Ipv4 r.1.0.0 × AllOf Ipv6 r.1.0.1
rest_all m ts r p = families_all m p.rest.is.values r.1.0 p.rest.is.is

cases_all : (m : Mode) (ts : Trees) (o : Option (Unit {0} × Unit {0})) (r : Behind) → OptCases (context 0) (IsVersion 0) (Rest m) ts o r
    → AllOf Ipv4 r.1.0.0 × AllOf Ipv6 r.1.0.1
cases_all m ts None r p = rest_all m ts r p.1
cases_all m ts (Some x) r p = rest_all m p.others r p.rest

pub fields_all : (m : Mode) (ts : Trees) (f : Fields) → AreRoaFields m ts f → AllOf Ipv4 f.1.1.0.0 × AllOf Ipv6 f.1.1.0.1
fields_all m ts f p = cases_all m ts f.0 f.1 p.cases

-- In DER these are the contents of route origin attestations.
rest_as : {F G : Trees → List RoaAddress × List RoaAddress → Type 0} → ((ts : Trees) (x : List RoaAddress × List RoaAddress) → F ts x → G ts x)
    → (ts : Trees) (r : Behind) → Then IsAsId (Then (Inside sequence_tag F) End) ts r → Then IsAsId (Then (Inside sequence_tag G) End) ts r
rest_as means ts r p = record {
  first = p.first;
  others = p.others;
  whole = p.whole;
  is = p.is;
  rest = record {
    first = p.rest.first;
    others = p.rest.others;
    whole = p.rest.whole;
    is = record { values = p.rest.is.values; whole = p.rest.is.whole; is = means p.rest.is.values r.1.0 p.rest.is.is };
    rest = p.rest.rest;
  };
}

cases_as : {R S : Trees → Behind → Type 0} → ((ts : Trees) (r : Behind) → R ts r → S ts r)
    → (ts : Trees) (o : Option (Unit {0} × Unit {0})) (r : Behind) → OptCases (context 0) (IsVersion 0) R ts o r → OptCases (context 0) (IsVersion 0) S ts o r
cases_as means ts None r p = (p.0, means ts r p.1)
cases_as means ts (Some x) r p = record { first = p.first; others = p.others; whole = p.whole; is = p.is; rest = means p.others r p.rest }

pub roa_in_der : (t : Tree) (r : Roa) → IsRoaIn Der t r → IsRoa t r
roa_in_der t r p = record {
  x = p.is.fields;
  is = record { values = p.values; whole = p.whole; is = record { cases = cases_as {R = Rest Der} {S = RoaRest} (rest_as families_in_der) p.values p.is.fields.0 p.is.fields.1 p.is.are.cases } };
  means = p.is.means;
}

pub roa_of_der : (t : Tree) (r : Roa) → IsRoa t r → IsRoaIn Der t r
roa_of_der t r p = record {
  values = p.is.values;
  whole = p.is.whole;
  is = record { fields = p.x; are = record { cases = cases_as {R = RoaRest} {S = Rest Der} (rest_as families_of_der) p.is.values p.x.0 p.x.1 p.is.is.cases }; means = p.means };
}

-- Octets that are decoded in DER are read as such a content.
pub decodes_roa : {C E : Type 0} (f : C → Roa) (o : List ℕ) (r : Result C (DecodeError E)) → DecodesAs f Der (IsRoaIn Der) o r → DecodesAs f Der IsRoa o r
decodes_roa f o (Ok x) h = (h.0, h.1, h.2, roa_in_der h.0 (f x) h.3)
decodes_roa f o (Err e) h = weaker e (λ l t x rest p front. l t x rest (roa_of_der t x p) front) h
