-- What reading stated resources rests on: their parts, which are tested together.
use Rattle.std.proofs.Common.{◌≡◌, ◌≢◌, true, false, Bool, List, Option, Some, None, Result, Ok, Err, ap, sym, ◌∙◌, subst}
use Rattle.std.specs.Prelude.{◌↔◌, IsTrue}
use Rattle.std.specs.Result.{IsErr, IsErrAnd}
use Rattle.objects_cms.proofs.of_bcder_content.Taking.{on_content}
use Rattle.objects_cms.proofs.of_bcder_content.Unique.{as_one, end_one, inside_one, inside_tagged, opt_one, such_one, then_one}
use Rattle.objects_cms.proofs.of_bcder_content.Within.{AllWithin, all_gives, all_stop, all_unfit}
use Rattle.objects_cms.specs.bcder_content.Contents.{ValuesLeft}
use Rattle.objects_cms.specs.bcder_content.Exact.{GivesAll, LacksAll}
use Rattle.objects_cms.specs.bcder_content.Grammar.{End, Inside, One, OneAll, Opt, OptCases, Then}
use Rattle.objects_cms.specs.bcder_content.InMode.{ReadsFields}
use Rattle.objects_cms.specs.bcder_source.Errors.{OnContent}
use Rattle.objects_cms.specs.bcder_source.declared.error.DecodeError.{DecodeError}
use Rattle.objects_cms.specs.bcder_tree.declared.mode.Mode.{Mode}
use Rattle.objects_cms.specs.bcder_tree.Tags.{context}
use Rattle.objects_cms.specs.bcder_tree.Tree.{Tree, Trees}
use Rattle.resources_ip.specs.resources_chain.Sets.{Run}
use Rattle.resources_ip.specs.resources_chain.declared.choice.ResourcesChoice.TheVariants.{Inherit}
use Rattle.resources_as.specs.Meanings.{set_one}
use Rattle.resources_ip.specs.Encodings.{FamilyChoices, IsIpAddrBlocks}
use Rattle.resources_ip.specs.Meanings.{one_of_families}
use Rattle.objects_valid.specs.declared.stated.AsForm.{AsForm}
use Rattle.objects_valid.specs.declared.stated.AsForm.TheVariants.{Identifiers, BlocksAlone}
use Rattle.objects_valid.specs.Stated.{AreListed, AreParts, AreStated, AreStatedFamilies, IsAsPart, IsStated, Parts, SaysSome, Stated, asn_of, families_of, stated_of}

-- What a test decides isn't so where it says no.
pub said_no : {b : Bool} {P : Type 0} → (IsTrue b ↔ P) → b ≡ false → P → ⊥
said_no told turned p = let e : true ≡ false = sym (told.1 p) ∙ turned in absurd cc

-- A value is of both families in one way.
pub families_one : (m : Mode) → One (IsIpAddrBlocks m)
families_one m = record { one = one_of_families m }

as_part_one : (form : AsForm) → One (IsAsPart form)
as_part_one Identifiers = as_one (inside_one (then_one (inside_one (then_one set_one end_one)) end_one))
as_part_one BlocksAlone = set_one

-- The parts are read in one way.
parts_one : (form : AsForm) (m : Mode) → OneAll (AreParts form m)
parts_one form m =
    opt_one (inside_tagged _ _) (inside_one (then_one (as_part_one form) end_one))
    (opt_one (inside_tagged _ _) (inside_one (then_one (such_one (families_one m)) end_one)) end_one)

same_parts : (form : AsForm) (m : Mode) (ts : Trees) (p q : Parts) → AreParts form m ts p → AreParts form m ts q → p ≡ q
same_parts form m = (parts_one form m).one

-- What is stated is read in one way.
stated_all : (form : AsForm) (m : Mode) → OneAll (AreStated form m)
stated_all form m = record {
  one = λ ts x y p q. p.says ∙ (λ i. stated_of (same_parts form m ts p.parts q.parts p.are q.are i)) ∙ sym q.says;
}

pub stated_one : (form : AsForm) (m : Mode) → One (IsStated form m)
stated_one form m = inside_one (stated_all form m)

-- Parts that are tested together.

stated_within : (form : AsForm) (m : Mode) → AllWithin (AreStated form m) (AreParts form m)
stated_within form m ts x p = (p.parts, p.are)

pub stated_stop : {E : Type 0} (form : AsForm) (v w : ValuesLeft) (r : Result Stated (DecodeError E)) (e : DecodeError E) → IsErr r × IsErrAnd r (λ x. x ≡ e)
    → OnContent e (LacksAll (AreParts form v.mode) v) → ReadsFields (λ s. s) (AreStated form) v r w
stated_stop form v w r e a l = record { reads = all_stop (λ (s : Stated). s) (AreStated form v.mode) (AreParts form v.mode) v w r e a (stated_within form v.mode) l }

pub stated_given : {E : Type 0} (form : AsForm) (p : Parts) {s : Stated} {v w : ValuesLeft} → GivesAll (AreParts form v.mode) v p w → SaysSome p → s ≡ stated_of p
    → ReadsFields {E = E} (λ s. s) (AreStated form) v (Ok s) w
stated_given form p {s} {v} g some says = record {
  reads = all_gives (AreStated form v.mode) (AreParts form v.mode) (λ ts are. record { parts = p; are = are; some = some; says = says }) (stated_within form v.mode) g;
}

pub stated_unfit : {E : Type 0} (form : AsForm) (p : Parts) (e : DecodeError E) {v w u : ValuesLeft} → GivesAll (AreParts form v.mode) v p w
    → (SaysSome p → ⊥) → ReadsFields (λ s. s) (AreStated form) v (Err e) u
stated_unfit form p e {v} g none = record {
  reads = on_content e (all_unfit (AreStated form v.mode) (AreParts form v.mode) (λ ts x q are.
      none (subst SaysSome (same_parts form v.mode ts q.parts p q.are are) q.some)) (stated_within form v.mode) g);
}

-- Nothing that is stated is inherited.

listed_in : (m : Mode) (ts : Trees) (o : Option (FamilyChoices × Unit {0})) → OptCases (context 1) (Inside (context 1) (Then (AreStatedFamilies m) End)) End ts o tt → AreListed (families_of o)
listed_in m ts None p = (λ e. absurd cc, λ e. absurd cc)
listed_in m ts (Some x) p = p.is.is.is.meets

families_listed : (form : AsForm) (m : Mode) (ts : Trees) (asn : Option (List Run × Unit {0})) (behind : Option (FamilyChoices × Unit {0}) × Unit {0})
    → OptCases (context 0) (Inside (context 0) (Then (IsAsPart form) End)) (Opt (context 1) (Inside (context 1) (Then (AreStatedFamilies m) End)) End) ts asn behind
    → AreListed (families_of behind.0)
families_listed form m ts None behind p = listed_in m ts behind.0 p.1.cases
families_listed form m ts (Some x) behind p = listed_in m p.others behind.0 p.rest.cases

parts_listed : (form : AsForm) (m : Mode) (t : Tree) (s : Stated) (p : IsStated form m t s) → AreListed (families_of p.is.parts.1.0)
parts_listed form m t s p = families_listed form m p.values p.is.parts.0 p.is.parts.1 p.is.are.cases

asn_listed : (o : Option (List Run × Unit {0})) → asn_of o ≢ Inherit
asn_listed None e = absurd cc
asn_listed (Some x) e = absurd cc

pub own_asn : (form : AsForm) (m : Mode) (t : Tree) (s : Stated) → IsStated form m t s → s.asn ≢ Inherit
own_asn form m t s p e = asn_listed p.is.parts.0 (sym (ap (λ (z : Stated). z.asn) p.is.says) ∙ e)

pub own_v4 : (form : AsForm) (m : Mode) (t : Tree) (s : Stated) → IsStated form m t s → s.v4 ≢ Inherit
own_v4 form m t s p e = (parts_listed form m t s p).0 (sym (ap (λ (z : Stated). z.v4) p.is.says) ∙ e)

pub own_v6 : (form : AsForm) (m : Mode) (t : Tree) (s : Stated) → IsStated form m t s → s.v6 ≢ Inherit
own_v6 form m t s p e = (parts_listed form m t s p).1 (sym (ap (λ (z : Stated). z.v6) p.is.says) ∙ e)
