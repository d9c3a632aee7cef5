-- What is read of families fits them, and says something of one at least.
use Rattle.std.proofs.Common.{◌≡◌, ◌≢◌, List, [], ◌∷◌, Result, Ok, Err, inl, inr, if◌then◌else◌, refl, sym, ◌∙◌, subst}
use Rattle.std.specs.Prelude.{IfOk}
use Rattle.resources_ip.specs.bcder_tree.declared.mode.Mode.{Mode}
use Rattle.resources_ip.specs.bcder_tree.Tree.{Tree, Trees}
use Rattle.resources_ip.specs.bcder_source.declared.error.DecodeError.{DecodeError}
use Rattle.resources_ip.specs.bcder_content.Contents.{ValuesLeft}
use Rattle.resources_ip.specs.bcder_content.Exact.{ReadsAs}
use Rattle.resources_ip.specs.bcder_content.Grammar.{ManyCases}
use Rattle.resources_ip.specs.resources_chain.Claims.{Choice, HasMaximal}
use Rattle.resources_ip.specs.resources_chain.Choices.{listed, IsChoiceOf}
use Rattle.resources_ip.specs.resources_chain.Sets.{Run}
use Rattle.resources_ip.specs.resources_chain.declared.choice.ResourcesChoice.TheVariants.{Missing, Inherit, Blocks}
use Rattle.resources_ip.specs.resources_ip_prefix.declared.addr.AddressFamily.{AddressFamily}
use Rattle.resources_ip.specs.resources_ip_prefix.declared.addr.AddressFamily.TheVariants.{Ipv4, Ipv6}
use Rattle.resources_ip_block.specs.BlockEncodings.{IsBlock}
use Rattle.resources_ip_block.proofs.WholeBlocks.{v4_block}
use Rattle.resources_ip.specs.Encodings.{FamilyChoice, FamilyChoices, IsBlockList, IsIpAddrBlocks, IsIpChoice, IsIpFamily, choice_of, choices_of, is_same}
use Rattle.resources_ip.specs.Reading.{family_choices}
use Rattle.resources_ip.specs.WholeSets.{AreWhole, ListsWhole}
use Rattle.resources_ip.specs.Written.{FitsChoice, FitsSet}
use Rattle.resources_ip.specs.declared.resources.IpFamilies.{IpFamilies}
use Rattle.resources_ip.proofs.WideSets.{fits_whole}
use Rattle.resources_ip.proofs.WholeLemmas.{whole_run, whole_set}

-- A list and a choice fit their family.
whole_list : (m : Mode) (ts : Trees) (runs : List Run) → ManyCases (IsBlock m Ipv4) ts runs → AreWhole runs
whole_list m ts [] p a b e h = h
whole_list m ts (r ∷ runs) p a b e (inl h) = inl (whole_run r (v4_block m p.0 r p.3) a b e h)
whole_list m ts (r ∷ runs) p a b e (inr h) = inr (whole_list m p.1 runs p.4 a b e h)

list_fits : (m : Mode) (family : AddressFamily) (t : Tree) (set : List Run) → IsBlockList m family t set → FitsSet family set
list_fits m Ipv4 t set p = (p.is.union.maximal, whole_set p.is.runs set (whole_list m p.values p.is.runs p.is.are.cases) p.is.union)
list_fits m Ipv6 t set p = p.is.union.maximal

pub choice_fits : (m : Mode) (family : AddressFamily) (t : Tree) (choice : Choice) → IsIpChoice m family t choice → FitsChoice family choice
choice_fits m family t choice p = elim p.cases [
  | inl q ↦ subst (λ (c : Choice). FitsChoice family c) (sym q.means) tt
  | inr q ↦ subst (λ (c : Choice). FitsChoice family c) (sym q.means) (list_fits m family t q.x q.is)
]

inherit_is_said : (choice : Choice) → choice ≡ Inherit → choice ≢ Missing
inherit_is_said choice p e = let q : ◌≡◌ {A = Choice} Inherit Missing = sym p ∙ e in cc

blocks_are_said : (choice : Choice) (runs : List Run) → choice ≡ Blocks runs → choice ≢ Missing
blocks_are_said choice runs p e = let q : ◌≡◌ {A = Choice} (Blocks runs) Missing = sym p ∙ e in cc

choice_said : (m : Mode) (family : AddressFamily) (t : Tree) (choice : Choice) → IsIpChoice m family t choice → choice ≢ Missing
choice_said m family t choice p = elim p.cases [
  | inl q ↦ inherit_is_said choice q.means
  | inr q ↦ blocks_are_said choice q.x q.means
]

-- So does what a list of families says of each.
either_fits : (f family : AddressFamily) (choice others : Choice) → FitsChoice f choice → FitsChoice family others → FitsChoice family (if is_same f family then choice else others)
either_fits Ipv4 Ipv4 choice others p q = p
either_fits Ipv4 Ipv6 choice others p q = q
either_fits Ipv6 Ipv4 choice others p q = q
either_fits Ipv6 Ipv6 choice others p q = p

each_fits : (m : Mode) (ts : Trees) (families : List FamilyChoice) → ManyCases (IsIpFamily m) ts families → (family : AddressFamily) → FitsChoice family (choice_of family families)
each_fits m ts [] p family = tt
each_fits m ts (x ∷ xs) p family =
    let fields = p.3.is.are in
    either_fits x.family family x.choice (choice_of family xs) (choice_fits m x.family fields.rest.first x.choice fields.rest.is) (each_fits m p.1 xs p.4 family)

either_said : (f : AddressFamily) (choice a b : Choice) → choice ≢ Missing → ¬ (((if is_same f Ipv4 then choice else a) ≡ Missing) × ((if is_same f Ipv6 then choice else b) ≡ Missing))
either_said Ipv4 choice a b there e = there e.0
either_said Ipv6 choice a b there e = there e.1

any_said : (m : Mode) (ts : Trees) (families : List FamilyChoice) → ManyCases (IsIpFamily m) ts families → families ≢ [] → ¬ ((choice_of Ipv4 families ≡ Missing) × (choice_of Ipv6 families ≡ Missing))
any_said m ts [] p some = absurd (some refl)
any_said m ts (x ∷ xs) p some =
    let fields = p.3.is.are in
    either_said x.family x.choice (choice_of Ipv4 xs) (choice_of Ipv6 xs) (choice_said m x.family fields.rest.first x.choice fields.rest.is)

abbrev Fit : FamilyChoices → Type 0
Fit x = FitsChoice Ipv4 x.v4 × FitsChoice Ipv6 x.v6 × ¬ ((x.v4 ≡ Missing) × (x.v6 ≡ Missing))

pub families_fit : (m : Mode) (t : Tree) (x : FamilyChoices) → IsIpAddrBlocks m t x → FitsChoice Ipv4 x.v4 × FitsChoice Ipv6 x.v6 × ¬ ((x.v4 ≡ Missing) × (x.v6 ≡ Missing))
families_fit m t x p =
    let list = p.is in
    let fit : Fit (choices_of list.families) = (each_fits m p.values list.families list.are.cases Ipv4, each_fits m p.values list.families list.are.cases Ipv6, any_said m p.values list.families list.are.cases list.some) in
    subst Fit (sym list.says) fit

-- A choice by maximal runs fits IPv6, and IPv4 where it lists whole addresses.
pub fits_v6 : (choice : Choice) → HasMaximal choice → FitsChoice Ipv6 choice
fits_v6 Missing p = tt
fits_v6 Inherit p = tt
fits_v6 (Blocks runs) p = p

pub fits_v4 : (choice : Choice) → HasMaximal choice → ListsWhole choice → FitsChoice Ipv4 choice
fits_v4 Missing p w = tt
fits_v4 Inherit p w = tt
fits_v4 (Blocks runs) p w = (p, w)

-- So does what is made of blocks that came, where they are over whole addresses.
pub chosen_fits : (came made : Choice) → IsChoiceOf came made → AreWhole (listed came) → FitsChoice Ipv4 made
chosen_fits Missing made e w = subst (λ (c : Choice). FitsChoice Ipv4 c) (sym e) tt
chosen_fits Inherit made e w = subst (λ (c : Choice). FitsChoice Ipv4 c) (sym e) tt
chosen_fits (Blocks runs) made (set, e, is) w = subst (λ (c : Choice). FitsChoice Ipv4 c) (sym e) (is.maximal, whole_set runs set w is)

-- What a reader gives fits what it was read as.
pub given_list : {E : Type 0} (m : Mode) (family : AddressFamily) (v w : ValuesLeft) (r : Result (List Run) (DecodeError E)) → ReadsAs (λ b. b) (IsBlockList m family) v r w → IfOk r (FitsSet family)
given_list m family v w (Ok runs) g = list_fits m family g.tree runs g.is
given_list m family v w (Err e) g = tt

pub given_v4 : {E : Type 0} (m : Mode) (v w : ValuesLeft) (r : Result IpFamilies (DecodeError E)) → ReadsAs family_choices (IsIpAddrBlocks m) v r w → IfOk r (λ x. FitsChoice Ipv4 x.v4)
given_v4 m v w (Ok x) g = (families_fit m g.tree (family_choices x) g.is).0
given_v4 m v w (Err e) g = tt

pub given_v6 : {E : Type 0} (m : Mode) (v w : ValuesLeft) (r : Result IpFamilies (DecodeError E)) → ReadsAs family_choices (IsIpAddrBlocks m) v r w → IfOk r (λ x. FitsChoice Ipv6 x.v6)
given_v6 m v w (Ok x) g = (families_fit m g.tree (family_choices x) g.is).1
given_v6 m v w (Err e) g = tt

-- And where it is IPv4, it lists whole addresses.
pub given_whole_v4 : {E : Type 0} (r : Result IpFamilies E) → IfOk r (λ x. FitsChoice Ipv4 x.v4) → IfOk r (λ x. ListsWhole x.v4)
given_whole_v4 (Ok x) f = fits_whole x.v4 f
given_whole_v4 (Err e) f = tt
