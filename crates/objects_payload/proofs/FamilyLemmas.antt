-- What reading families rests on.
use Rattle.std.proofs.Common.{◌≡◌, List, [], Option, Some, None, Result, Ok, Err, false, inl, inr, sym, ap, ◌∙◌, subst}
use Rattle.std.specs.Result.{IsErr, IsErrAnd}
use Rattle.objects_payload.specs.bcder_tree.declared.mode.Mode.{Mode}
use Rattle.objects_payload.specs.bcder_tree.declared.mode.Mode.TheVariants.{Der}
use Rattle.objects_payload.specs.bcder_tree.Tags.{sequence_tag}
use Rattle.objects_payload.specs.bcder_tree.Tree.{Tree, Trees}
use Rattle.objects_payload.specs.bcder_source.Errors.{OnContent}
use Rattle.objects_payload.specs.bcder_source.declared.error.DecodeError.{DecodeError}
use Rattle.objects_payload.specs.bcder_content.Contents.{ValuesLeft}
use Rattle.objects_payload.specs.bcder_content.Exact.{GivesAll, LacksAll}
use Rattle.objects_payload.specs.bcder_content.Grammar.{End, Inside, One, OneAll, OptCases, Then}
use Rattle.objects_payload.specs.bcder_content.InMode.{ReadsFields}
use Rattle.objects_payload.specs.bcder_content.Words.{ThenBy}
use Rattle.objects_payload.proofs.of_bcder_content.Choosing.{told_by}
use Rattle.objects_payload.proofs.of_bcder_content.InMode.{Fields, begin}
use Rattle.objects_payload.proofs.of_bcder_content.Taking.{on_content}
use Rattle.objects_payload.proofs.of_bcder_content.Unique.{as_one, end_one, inside_one, inside_tagged, many_one, octets_one, octets_tagged, opt_one, same_trees, such_one, then_one, unsigned_one}
use Rattle.objects_payload.proofs.of_bcder_content.Within.{AllWithin, all_gives, all_stop, all_unfit}
use Rattle.objects_payload.specs.resources_ip_prefix.declared.addr.AddressFamily.{AddressFamily}
use Rattle.objects_payload.specs.resources_ip_prefix.declared.addr.AddressFamily.TheVariants.{Ipv4, Ipv6}
use Rattle.objects_payload.specs.resources_ip_prefix.Encodings.{IsFamily}
use Rattle.objects_payload.specs.resources_ip_prefix.Meanings.{address_one, family_one}
use Rattle.objects_payload.specs.Roas.{AreOf, AreRoaFamilies, FamilyAddresses, FamilyPair, IsRoaFamily, RoaAddress}
use Rattle.objects_payload.specs.declared.roa.families.Families.{Families}
use Rattle.objects_payload.specs.Addresses.{AllOf, AreAddresses, IsAddressOf}
use Rattle.objects_payload.specs.Families.{AreFamilies, AreFamilyIn, ArePair, IsFamilyOf, both_families}
use Rattle.objects_payload.proofs.AddressLemmas.{addresses_of_family}

-- The fields of a family: the first says what the second is of.
abbrev pub FieldsBy : Mode → Trees → AddressFamily × (List RoaAddress × Unit {0}) → Type 0
FieldsBy m = ThenBy (IsFamily m) (λ family. Then (Inside sequence_tag (AreAddresses family m)) End)

abbrev pub family_of : AddressFamily × (List RoaAddress × Unit {0}) → FamilyAddresses
family_of f = record { family = f.0; addresses = f.1.0 }

fields_are : (m : Mode) (ts : Trees) (f : AddressFamily × (List RoaAddress × Unit {0})) → FieldsBy m ts f → AreFamilyIn m ts (family_of f)
fields_are m ts f p = record { are = record { first = p.first; others = p.others; whole = p.whole; is = p.is; rest = p.rest } }

fields_by : (m : Mode) (ts : Trees) (x : FamilyAddresses) → AreFamilyIn m ts x → (f : AddressFamily × (List RoaAddress × Unit {0})) × FieldsBy m ts f
fields_by m ts x p = ((x.family, (x.addresses, tt)), record { first = p.are.first; others = p.are.others; whole = p.are.whole; is = p.are.is; rest = p.are.rest })

-- Nothing was read of a family yet.
pub begin_family : {v : ValuesLeft} → Fields AreFamilyIn FieldsBy family_of v v false
begin_family = told_by family_of begin fields_are fields_by

-- A family is read in one way.
pub address_is_one : {m : Mode} (family : AddressFamily) → One (IsAddressOf family m)
address_is_one family = such_one (as_one (inside_one (then_one (address_one family) (opt_one (octets_tagged _ _) (octets_one unsigned_one) end_one))))

family_fields_one : {m : Mode} → OneAll (AreFamilyIn m)
family_fields_one {m} = record { one = at }
  where
    fields : (family : AddressFamily) → OneAll (Then (IsFamily m) (Then (Inside sequence_tag (AreAddresses family m)) End))
    fields family = then_one family_one (then_one (inside_one (many_one (address_is_one family))) end_one)

    at : (ts : Trees) (x y : FamilyAddresses) → AreFamilyIn m ts x → AreFamilyIn m ts y → x ≡ y
    at ts x y p q =
        let e = same_trees (sym p.are.whole ∙ q.are.whole) in
        let family : x.family ≡ y.family = family_one.one q.are.first x.family y.family (subst (λ (t : Tree). IsFamily m t x.family) e.0 p.are.is) q.are.is in
        let moved = subst (λ (f : AddressFamily). Then (IsFamily m) (Then (Inside sequence_tag (AreAddresses f m)) End) ts (f, (x.addresses, tt))) family p.are in
        let same = (fields y.family).one ts (y.family, (x.addresses, tt)) (y.family, (y.addresses, tt)) moved q.are in
        let addresses : x.addresses ≡ y.addresses = ap (λ (z : AddressFamily × (List RoaAddress × Unit {0})). z.1.0) same in
        λ i. record { family = family i; addresses = addresses i }

pair_one : {m : Mode} → OneAll (ArePair m)
pair_one = then_one (inside_one family_fields_one) (opt_one (inside_tagged _ _) (inside_one family_fields_one) end_one)

-- Families that are tested together.

families_within : (m : Mode) → AllWithin (AreFamilies m) (ArePair m)
families_within m ts x p = (p.families, p.are)

pub families_stop : {E : Type 0} (v w : ValuesLeft) (r : Result Families (DecodeError E)) (e : DecodeError E) → IsErr r × IsErrAnd r (λ x. x ≡ e)
    → OnContent e (LacksAll (ArePair v.mode) v) → ReadsFields both_families AreFamilies v r w
families_stop v w r e a l = record { reads = all_stop both_families (AreFamilies v.mode) (ArePair v.mode) v w r e a (families_within v.mode) l }

pub families_given : {E : Type 0} (p : FamilyPair) (f : Families) {v w : ValuesLeft} → GivesAll (ArePair v.mode) v p w → AreOf p.0 p.1.0 f.v4 f.v6
    → ReadsFields {E = E} both_families AreFamilies v (Ok f) w
families_given p f {v} g h = record {
  reads = all_gives (AreFamilies v.mode) (ArePair v.mode) (λ ts are. record { families = p; are = are; of = h }) (families_within v.mode) g;
}

pub families_unfit : {E : Type 0} (p : FamilyPair) (e : DecodeError E) {v w u : ValuesLeft} → GivesAll (ArePair v.mode) v p w
    → ((v4 v6 : List RoaAddress) → AreOf p.0 p.1.0 v4 v6 → ⊥) → ReadsFields both_families AreFamilies v (Err e) u
families_unfit p e {v} g none = record {
  reads = on_content e (all_unfit (AreFamilies v.mode) (ArePair v.mode) (λ ts x q are.
      let same = pair_one.one ts q.families p q.are are in
      none x.0 x.1 (subst (λ (z : FamilyPair). AreOf z.0 z.1.0 x.0 x.1) same q.of)) (families_within v.mode) g);
}

-- The addresses of each family are addresses of it.
family_all : (m : Mode) (t : Tree) (x : FamilyAddresses) → IsFamilyOf m t x → AllOf x.family x.addresses
family_all m t x p = addresses_of_family m x.family p.is.are.rest.is.values x.addresses p.is.are.rest.is.is

all_as : (family other : AddressFamily) (xs ys : List RoaAddress) → family ≡ other → ys ≡ xs → AllOf family xs → AllOf other ys
all_as family other xs ys e f h = subst (λ (z : AddressFamily). AllOf z ys) e (subst (λ (zs : List RoaAddress). AllOf family zs) (sym f) h)

none_of : (family : AddressFamily) {ys : List RoaAddress} → ys ≡ [] → AllOf family ys
none_of family f = subst (λ (zs : List RoaAddress). AllOf family zs) (sym f) tt

of_families : (m : Mode) (ts : Trees) (x : FamilyAddresses) (o : Option FamilyAddresses) (v4 v6 : List RoaAddress) → AllOf x.family x.addresses
    → OptCases sequence_tag (IsFamilyOf m) End ts o tt → AreOf x o v4 v6 → AllOf Ipv4 v4 × AllOf Ipv6 v6
of_families m ts x None v4 v6 h r (inl p) = (all_as x.family Ipv4 x.addresses v4 p.0 p.1 h, none_of Ipv6 p.2)
of_families m ts x None v4 v6 h r (inr p) = (none_of Ipv4 p.1, all_as x.family Ipv6 x.addresses v6 p.0 p.2 h)
of_families m ts x (Some y) v4 v6 h r (inl p) = (all_as x.family Ipv4 x.addresses v4 p.0 p.2 h, all_as y.family Ipv6 y.addresses v6 p.1 p.3 (family_all m r.first y r.is))
of_families m ts x (Some y) v4 v6 h r (inr p) = (all_as y.family Ipv4 y.addresses v4 p.1 p.2 (family_all m r.first y r.is), all_as x.family Ipv6 x.addresses v6 p.0 p.3 h)

pub families_all : (m : Mode) (ts : Trees) (x : List RoaAddress × List RoaAddress) → AreFamilies m ts x → AllOf Ipv4 x.0 × AllOf Ipv6 x.1
families_all m ts x p =
    of_families m p.are.others p.families.0 p.families.1.0 x.0 x.1 (family_all m p.are.first p.families.0 p.are.is) p.are.rest.cases p.of

-- In DER these are the families of a route origin attestation.
family_in_der : {t : Tree} {x : FamilyAddresses} → IsFamilyOf Der t x → IsRoaFamily t x
family_in_der p = record { values = p.values; whole = p.whole; is = record { are = p.is.are } }

family_of_der : {t : Tree} {x : FamilyAddresses} → IsRoaFamily t x → IsFamilyOf Der t x
family_of_der p = record { values = p.values; whole = p.whole; is = record { are = p.is.are } }

opt_in_der : (ts : Trees) (o : Option FamilyAddresses) → OptCases sequence_tag (IsFamilyOf Der) End ts o tt → OptCases sequence_tag IsRoaFamily End ts o tt
opt_in_der ts None p = p
opt_in_der ts (Some x) p = record { first = p.first; others = p.others; whole = p.whole; is = family_in_der p.is; rest = p.rest }

opt_of_der : (ts : Trees) (o : Option FamilyAddresses) → OptCases sequence_tag IsRoaFamily End ts o tt → OptCases sequence_tag (IsFamilyOf Der) End ts o tt
opt_of_der ts None p = p
opt_of_der ts (Some x) p = record { first = p.first; others = p.others; whole = p.whole; is = family_of_der p.is; rest = p.rest }

pub families_in_der : (ts : Trees) (x : List RoaAddress × List RoaAddress) → AreFamilies Der ts x → AreRoaFamilies ts x
families_in_der ts x p = record {
  families = p.families;
  are = record {
    first = p.are.first;
    others = p.are.others;
    whole = p.are.whole;
    is = family_in_der p.are.is;
    rest = record { cases = opt_in_der p.are.others p.families.1.0 p.are.rest.cases };
  };
  of = p.of;
}

pub families_of_der : (ts : Trees) (x : List RoaAddress × List RoaAddress) → AreRoaFamilies ts x → AreFamilies Der ts x
families_of_der ts x p = record {
  families = p.families;
  are = record {
    first = p.are.first;
    others = p.are.others;
    whole = p.are.whole;
    is = family_of_der p.are.is;
    rest = record { cases = opt_of_der p.are.others p.families.1.0 p.are.rest.cases };
  };
  of = p.of;
}
