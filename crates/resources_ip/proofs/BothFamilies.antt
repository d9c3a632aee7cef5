-- What is written of both families: by the encoders of their parts, and read again as the same.
use Rattle.std.proofs.Common.{◌≡◌, ◌≢◌, ℕ, Bool, true, List, [], ◌∷◌, refl, sym, ap, ◌∙◌, subst}
use Rattle.resources_ip.specs.bcder_tree.declared.mode.Mode.{Mode}
use Rattle.resources_ip.specs.bcder_tree.Strings.{octet_string_tag}
use Rattle.resources_ip.specs.bcder_tree.Tags.{TagValue, sequence_tag}
use Rattle.resources_ip.specs.bcder_tree.Tree.{Tree, Trees, constructed, none, more}
use Rattle.resources_ip.specs.bcder_content.Grammar.{ManyCases}
use Rattle.resources_ip.proofs.of_bcder_octets.Written.{written_string}
use Rattle.resources_ip.specs.bcder_octets.Segments.{StringTrees, WritesString}
use Rattle.resources_ip.specs.bcder_primitive.Encoded.{AreBoth, IsWrapped, WritesBoth, WritesWrapped, joined}
use Rattle.resources_ip.specs.resources_chain.Claims.{Choice}
use Rattle.resources_ip.specs.resources_chain.declared.choice.ResourcesChoice.TheVariants.{Missing, Inherit, Blocks}
use Rattle.resources_ip.specs.resources_ip_prefix.declared.addr.AddressFamily.{AddressFamily}
use Rattle.resources_ip.specs.resources_ip_prefix.declared.addr.AddressFamily.TheVariants.{Ipv4, Ipv6}
use Rattle.resources_ip.specs.resources_ip_prefix.Encodings.{family_octets}
use Rattle.resources_ip.specs.Encodings.{EachOnce, FamilyChoice, FamilyChoices, IsIpFamily, choices_of}
use Rattle.resources_ip.specs.Written.{AreIpResources, FitsChoice, WritesIpResources}
use Rattle.resources_ip.specs.WrittenFamilies.{FamiliesTrees, FamilyTrees, ReadsFamilies, TextIf, TreesIf, WritesFamilies, WritesFamily, both, is_said, says_any}
use Rattle.resources_ip.proofs.Again.{choice_again}

-- What is so of values and texts is so of them under a condition that holds.
where_so : (F : (Trees → Type 0) → (List ℕ → Type 0) → Type 0) {b : Bool} {T : Trees → Type 0} {P : List ℕ → Type 0} → b ≡ true → F T P → F (TreesIf b T) (TextIf b P)
where_so F {T = T} {P} e p = subst (λ (c : Bool). F (TreesIf c T) (TextIf c P)) (sym e) p

-- What is so of the encoders of a family's fields, by their tags and what they lend, is so of the family.
abbrev Fields : ((Trees → Type 0) → (List ℕ → Type 0) → Type 0) → Mode → TagValue → TagValue → List ℕ → Choice → Type 0
Fields F m t tag octets choice = F (IsWrapped t (AreBoth (StringTrees m tag octets) (AreIpResources m choice))) (WritesWrapped m t (WritesBoth (WritesString m tag octets) (WritesIpResources m choice)))

pub of_fields : (F : (Trees → Type 0) → (List ℕ → Type 0) → Type 0) (m : Mode) (family : AddressFamily) (choice : Choice) {t tag : TagValue} {octets : List ℕ} {lent : Choice}
    → is_said choice ≡ true → t ≡ sequence_tag → (tag ≡ octet_string_tag) × (octets ≡ family_octets family) → lent ≡ choice → Fields F m t tag octets lent → F (FamilyTrees m family choice) (WritesFamily m family choice)
of_fields F m family choice {t} {tag} {octets} {lent} so e f g p =
    let a : Fields F m sequence_tag tag octets lent = subst (λ (u : TagValue). Fields F m u tag octets lent) e p in
    let b : Fields F m sequence_tag octet_string_tag octets lent = subst (λ (u : TagValue). Fields F m sequence_tag u octets lent) f.0 a in
    let c : Fields F m sequence_tag octet_string_tag (family_octets family) lent = subst (λ (v : List ℕ). Fields F m sequence_tag octet_string_tag v lent) f.1 b in
    let d : Fields F m sequence_tag octet_string_tag (family_octets family) choice = subst (λ (x : Choice). Fields F m sequence_tag octet_string_tag (family_octets family) x) g c in
    where_so F so d

-- A list of two families, by the trees and the text of both.
abbrev Parts : ((Trees → Type 0) → (List ℕ → Type 0) → Type 0) → Mode → TagValue → FamilyChoice → FamilyChoice → Type 0
Parts F m t x y = F (IsWrapped t (AreBoth (FamilyTrees m x.family x.choice) (FamilyTrees m y.family y.choice))) (WritesWrapped m t (WritesBoth (WritesFamily m x.family x.choice) (WritesFamily m y.family y.choice)))

abbrev of : AddressFamily → Choice → FamilyChoice
of family choice = record { family = family; choice = choice }

same_part : {f g : AddressFamily} {c d : Choice} → (f ≡ g) × (c ≡ d) → of f c ≡ of g d
same_part {g = g} {c} e = ap (λ (h : AddressFamily). of h c) e.0 ∙ ap (of g) e.1

pub of_parts : (F : (Trees → Type 0) → (List ℕ → Type 0) → Type 0) (m : Mode) (v4 v6 : Choice) {t : TagValue} {f g : AddressFamily} {c d : Choice}
    → says_any (both v4 v6) ≡ true → t ≡ sequence_tag → (f ≡ Ipv4) × (c ≡ v4) → (g ≡ Ipv6) × (d ≡ v6) → Parts F m t (of f c) (of g d) → F (FamiliesTrees m (both v4 v6)) (WritesFamilies m (both v4 v6))
of_parts F m v4 v6 {t} {f} {g} {c} {d} so e first second p =
    let a : Parts F m sequence_tag (of f c) (of g d) = subst (λ (u : TagValue). Parts F m u (of f c) (of g d)) e p in
    let b : Parts F m sequence_tag (of Ipv4 v4) (of g d) = subst (λ (x : FamilyChoice). Parts F m sequence_tag x (of g d)) (same_part first) a in
    let q : Parts F m sequence_tag (of Ipv4 v4) (of Ipv6 v6) = subst (λ (x : FamilyChoice). Parts F m sequence_tag (of Ipv4 v4) x) (same_part second) b in
    where_so F so q

-- A family of which something is said is one value, which is read as the same.
pub record ReadsFamily (m : Mode) (x : FamilyChoice) (ts : Trees) : Type 0 where
  pub tree : Tree
  pub alone : ts ≡ more tree none
  pub is : IsIpFamily m tree x

fields_again : (m : Mode) (family : AddressFamily) (choice : Choice) (ts : Trees) → FitsChoice family choice → choice ≢ Missing
    → IsWrapped sequence_tag (AreBoth (StringTrees m octet_string_tag (family_octets family)) (AreIpResources m choice)) ts → ReadsFamily m (of family choice) ts
fields_again m family choice ts fits there p =
    let number = written_string m octet_string_tag (family_octets family) p.is.first p.is.is_first in
    let said = choice_again m family choice p.is.second fits there p.is.is_second in
    let values : p.values ≡ more number.tree (more said.tree none) = p.is.whole ∙ ap (λ (us : Trees). joined us p.is.second) number.alone ∙ ap (λ (us : Trees). more number.tree us) said.alone in
    record {
      tree = constructed sequence_tag p.values;
      alone = p.whole;
      is = record {
        values = p.values;
        whole = refl;
        is = record {
          are = record {
            first = number.tree;
            others = more said.tree none;
            whole = values;
            is = record { is = number.is };
            rest = record { first = said.tree; others = none; whole = refl; is = said.is; rest = record { ended = refl } };
          };
        };
      };
    }

-- The families of which something is said.
abbrev listed : AddressFamily → Choice → List FamilyChoice → List FamilyChoice
listed family Missing xs = xs
listed family Inherit xs = of family Inherit ∷ xs
listed family (Blocks runs) xs = of family (Blocks runs) ∷ xs

said_again : (m : Mode) (family : AddressFamily) (choice : Choice) (ts us : Trees) (xs : List FamilyChoice) → FitsChoice family choice → choice ≢ Missing
    → IsWrapped sequence_tag (AreBoth (StringTrees m octet_string_tag (family_octets family)) (AreIpResources m choice)) ts → ManyCases (IsIpFamily m) us xs → ManyCases (IsIpFamily m) (joined ts us) (of family choice ∷ xs)
said_again m family choice ts us xs fits there p behind =
    let read = fields_again m family choice ts fits there p in
    (read.tree, us, ap (λ (vs : Trees). joined vs us) read.alone, read.is, behind)

family_again : (m : Mode) (family : AddressFamily) (choice : Choice) (ts us : Trees) (xs : List FamilyChoice) → FitsChoice family choice → FamilyTrees m family choice ts → ManyCases (IsIpFamily m) us xs → ManyCases (IsIpFamily m) (joined ts us) (listed family choice xs)
family_again m family Missing ts us xs fits p behind = subst (λ (vs : Trees). ManyCases (IsIpFamily m) (joined vs us) xs) (sym p) behind
family_again m family Inherit ts us xs fits p behind = said_again m family Inherit ts us xs fits (λ e. cc) p behind
family_again m family (Blocks runs) ts us xs fits p behind = said_again m family (Blocks runs) ts us xs fits (λ e. cc) p behind

joined_none : (ts : Trees) → joined ts none ≡ ts
joined_none none = refl
joined_none (more t ts) = ap (more t) (joined_none ts)

-- A list of one family or of two, each once, that says these choices.
record Tells (x : FamilyChoices) (xs : List FamilyChoice) : Type 0 where
  pub some : xs ≢ []
  pub once : EachOnce xs
  pub says : x ≡ choices_of xs

only_v4 : (choice : Choice) → Tells (both choice Missing) (of Ipv4 choice ∷ [])
only_v4 choice = record { some = λ e. cc; once = (tt, tt); says = refl }

only_v6 : (choice : Choice) → Tells (both Missing choice) (of Ipv6 choice ∷ [])
only_v6 choice = record { some = λ e. cc; once = (tt, tt); says = refl }

each : (v4 v6 : Choice) → Tells (both v4 v6) (of Ipv4 v4 ∷ of Ipv6 v6 ∷ [])
each v4 v6 = record { some = λ e. cc; once = ((λ e. cc, tt), (tt, tt)); says = refl }

tells : (v4 v6 : Choice) → ¬ ((v4 ≡ Missing) × (v6 ≡ Missing)) → Tells (both v4 v6) (listed Ipv4 v4 (listed Ipv6 v6 []))
tells Missing Missing any = absurd (any (refl, refl))
tells Missing Inherit any = only_v6 Inherit
tells Missing (Blocks runs) any = only_v6 (Blocks runs)
tells Inherit Missing any = only_v4 Inherit
tells Inherit Inherit any = each Inherit Inherit
tells Inherit (Blocks runs) any = each Inherit (Blocks runs)
tells (Blocks runs) Missing any = only_v4 (Blocks runs)
tells (Blocks runs) Inherit any = each (Blocks runs) Inherit
tells (Blocks runs) (Blocks others) any = each (Blocks runs) (Blocks others)

any_said : (v4 v6 : Choice) → ¬ ((v4 ≡ Missing) × (v6 ≡ Missing)) → says_any (both v4 v6) ≡ true
any_said Missing Missing any = absurd (any (refl, refl))
any_said Missing Inherit any = refl
any_said Missing (Blocks runs) any = refl
any_said Inherit v6 any = refl
any_said (Blocks runs) v6 any = refl

pub families_again : (m : Mode) (v4 v6 : Choice) (ts : Trees) → FitsChoice Ipv4 v4 → FitsChoice Ipv6 v6 → ¬ ((v4 ≡ Missing) × (v6 ≡ Missing)) → FamiliesTrees m (both v4 v6) ts → ReadsFamilies m (both v4 v6) ts
families_again m v4 v6 ts fit_v4 fit_v6 any p =
    let inner = AreBoth (FamilyTrees m Ipv4 v4) (FamilyTrees m Ipv6 v6) in
    let w : IsWrapped sequence_tag inner ts = subst (λ (b : Bool). TreesIf b (IsWrapped sequence_tag inner) ts) (any_said v4 v6 any) p in
    let told = tells v4 v6 any in
    let last = family_again m Ipv6 v6 w.is.second none [] fit_v6 w.is.is_second refl in
    let both_read = family_again m Ipv4 v4 w.is.first (joined w.is.second none) (listed Ipv6 v6 []) fit_v4 w.is.is_first last in
    let whole : joined w.is.first (joined w.is.second none) ≡ w.values = ap (λ (us : Trees). joined w.is.first us) (joined_none w.is.second) ∙ sym w.is.whole in
    record {
      tree = constructed sequence_tag w.values;
      alone = w.whole;
      is = record {
        values = w.values;
        whole = refl;
        is = record {
          families = listed Ipv4 v4 (listed Ipv6 v6 []);
          are = record { cases = subst (λ (us : Trees). ManyCases (IsIpFamily m) us (listed Ipv4 v4 (listed Ipv6 v6 []))) whole both_read };
          some = told.some;
          once = told.once;
          says = told.says;
        };
      };
    }
