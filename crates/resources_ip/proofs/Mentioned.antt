-- What reading families rests on: their fields, and that each is mentioned once.
use Rattle.std.proofs.Common.{◌≡◌, ◌≢◌, List, [], ◌∷◌, Option, Some, None, Result, Ok, Err, refl, sym, ◌∙◌, subst}
use Rattle.std.specs.Result.{IsErr, IsErrAnd}
use Rattle.resources_ip.specs.bcder_tree.declared.mode.Mode.{Mode}
use Rattle.resources_ip.specs.bcder_tree.Tags.{sequence_tag}
use Rattle.resources_ip.specs.bcder_tree.Tree.{Tree, Trees, none, more}
use Rattle.resources_ip.specs.bcder_source.Errors.{OnContent}
use Rattle.resources_ip.specs.bcder_source.declared.error.DecodeError.{DecodeError}
use Rattle.resources_ip.specs.bcder_content.Contents.{ValuesLeft, Whole}
use Rattle.resources_ip.specs.bcder_content.Exact.{Gives, Lacks, LacksAll, GivesAll, ReadsAllAs}
use Rattle.resources_ip.specs.bcder_content.Grammar.{End, ManyCases, Then, Without, Tagged}
use Rattle.resources_ip.proofs.of_bcder_content.Forests.{begin, next, done, first_lacks}
use Rattle.resources_ip.proofs.of_bcder_content.Taking.{on_content, weaker}
use Rattle.resources_ip.proofs.of_bcder_content.Took.{one_took, whole_first}
use Rattle.resources_ip.proofs.of_bcder_content.Modes.{gives_in, lacks_in}
use Rattle.resources_ip.proofs.of_bcder_content.Within.{AllWithin, all_gives, all_stop, all_unfit}
use Rattle.resources_ip.proofs.of_bcder_content.Unique.{inside_tagged, same_trees, same_values}
use Rattle.resources_ip.specs.resources_chain.Claims.{Choice}
use Rattle.resources_ip.specs.resources_ip_prefix.declared.addr.AddressFamily.{AddressFamily}
use Rattle.resources_ip.specs.resources_ip_prefix.declared.addr.AddressFamily.TheVariants.{Ipv4, Ipv6}
use Rattle.resources_ip.specs.resources_ip_prefix.Encodings.{IsFamily}
use Rattle.resources_ip.specs.resources_ip_prefix.Meanings.{family_one}
use Rattle.resources_ip.specs.Encodings.{AreFamilyFields, AreIpFamilies, EachOnce, FamilyChoice, FamilyChoices, IsIpChoice, IsIpFamily, choices_of}
use Rattle.resources_ip.specs.Meanings.{one_family_in}
use Rattle.resources_ip.specs.Reading.{ArePair, PairFields, Repeats, all_of}

-- The fields of a family, where the first is this one.

abbrev Fields : Mode → AddressFamily → Trees → AddressFamily × (Choice × Unit {0}) → Type 0
Fields m family = Then (IsFamily m) (Then (IsIpChoice m family) End)

fields_lack : {m : Mode} {family : AddressFamily} {v mid : ValuesLeft} → Gives (IsFamily m) v family mid → LacksAll (Fields m family) v → LacksAll (AreFamilyFields m) v
fields_lack {m} {family} {v} given l = record {
  none = λ ts z p whole.
      let first = whole_first (subst (Whole v) p.are.whole whole) in
      let tree : given.tree ≡ p.are.first = (one_took given.took first.1).0 in
      let same : z.family ≡ family = family_one.one p.are.first z.family family p.are.is (subst (λ (t : Tree). IsFamily m t family) tree given.is) in
      l.none ts (family, (z.choice, tt)) (subst (λ (f : AddressFamily). Fields m f ts (f, (z.choice, tt))) same p.are) whole;
}

pub fields_first_stop : {C E : Type 0} (f : C → FamilyChoice) (m : Mode) (v w : ValuesLeft) (r : Result C (DecodeError E)) (e : DecodeError E) → IsErr r × IsErrAnd r (λ x. x ≡ e) → OnContent e (Lacks (IsFamily m) v) → ReadsAllAs f (AreFamilyFields m) v r w
fields_first_stop f m v w (Ok y) e a l = absurd a.1
fields_first_stop {E = E} f m v w (Err x) e a l = subst (λ (z : DecodeError E). OnContent z (LacksAll (AreFamilyFields m) v)) (sym a.1) (weaker e (λ lacks. record {
  none = λ ts z p whole. lacks.none p.are.first z.family p.are.is (whole_first (subst (Whole v) p.are.whole whole));
}) l)

pub fields_stop : {C E : Type 0} (f : C → FamilyChoice) (m : Mode) (family : AddressFamily) {v mid : ValuesLeft} (w : ValuesLeft) (r : Result C (DecodeError E)) (e : DecodeError E) → Gives (IsFamily m) v family mid → m ≡ v.mode → IsErr r × IsErrAnd r (λ x. x ≡ e) → OnContent e (Lacks (IsIpChoice mid.mode family) mid) → ReadsAllAs f (AreFamilyFields m) v r w
fields_stop f m family w (Ok y) e given mode a l = absurd a.1
fields_stop {E = E} f m family {v} {mid} w (Err x) e given mode a l =
    subst (λ (z : DecodeError E). OnContent z (LacksAll (AreFamilyFields m) v)) (sym a.1) (weaker e (λ lacks.
    let s = next (begin (Fields m family) v) given in
    fields_lack given (s.lacks (first_lacks End (lacks_in (λ (n : Mode). IsIpChoice n family) (given.took.goes.mode ∙ sym mode) lacks)))) l)

pub fields_given : (m : Mode) (family : AddressFamily) {v mid w : ValuesLeft} {choice : Choice} → Gives (IsFamily m) v family mid → m ≡ v.mode → Gives (IsIpChoice mid.mode family) mid choice w → GivesAll (AreFamilyFields m) v (record { family = family; choice = choice }) w
fields_given m family {v} given mode second =
    let s = next (begin (Fields m family) v) given in
    let all = done (next s (gives_in (λ (n : Mode). IsIpChoice n family) (given.took.goes.mode ∙ sym mode) second)) in
    record { trees = all.trees; took = all.took; is = record { are = all.is }; only = λ on. fields_lack given (all.only on) }

pub family_tagged : {m : Mode} → Tagged sequence_tag (IsIpFamily m)
family_tagged = inside_tagged _ _

-- A value is of one family.
one_family : {m : Mode} (t : Tree) (x y : FamilyChoice) → IsIpFamily m t x → IsIpFamily m t y → x.family ≡ y.family
one_family {m} t x y p q = one_family_in q.values x y (subst (λ (ts : Trees). AreFamilyFields m ts x) (same_values (sym p.whole ∙ q.whole)) p.is) q.is

-- There are no three families.
no_third : (f g h : AddressFamily) → g ≢ f → h ≢ f → h ≢ g → ⊥
no_third Ipv4 Ipv4 h a b c = a refl
no_third Ipv6 Ipv6 h a b c = a refl
no_third Ipv4 Ipv6 Ipv4 a b c = b refl
no_third Ipv4 Ipv6 Ipv6 a b c = c refl
no_third Ipv6 Ipv4 Ipv4 a b c = c refl
no_third Ipv6 Ipv4 Ipv6 a b c = b refl

-- One family or two, each once.

none_without : {us : Trees} → us ≡ none → Without sequence_tag us
none_without e = record { unlike = λ t vs f g. let k : none ≡ more t vs = sym e ∙ f in cc }

pair_at : (m : Mode) (ts : Trees) (families : List FamilyChoice) → ManyCases (IsIpFamily m) ts families → families ≢ [] → EachOnce families → (x : PairFields) × ArePair m ts x
pair_at m ts [] p some once = absurd (some refl)
pair_at m ts (x ∷ []) p some once =
    ((x, (None, tt)), record { first = p.0; others = p.1; whole = p.2; is = p.3; rest = record { cases = (none_without p.4, record { ended = p.4 }) } })
pair_at m ts (x ∷ y ∷ []) p some once =
    let q = p.4 in
    ((x, (Some y, tt)), record { first = p.0; others = p.1; whole = p.2; is = p.3; rest = record { cases = record { first = q.0; others = q.1; whole = q.2; is = q.3; rest = record { ended = q.4 } } } })
pair_at m ts (x ∷ y ∷ z ∷ zs) p some once = absurd (no_third x.family y.family z.family once.0.0 once.0.1.0 once.1.0.0)

families_within : (m : Mode) → AllWithin (AreIpFamilies m) (ArePair m)
families_within m ts z p = pair_at m ts p.families p.are.cases p.some p.once

pub families_stop : {C E : Type 0} (f : C → FamilyChoices) (m : Mode) (v w : ValuesLeft) (r : Result C (DecodeError E)) (e : DecodeError E) → IsErr r × IsErrAnd r (λ x. x ≡ e) → OnContent e (LacksAll (ArePair m) v) → ReadsAllAs f (AreIpFamilies m) v r w
families_stop f m v w r e a l = all_stop f (AreIpFamilies m) (ArePair m) v w r e a (families_within m) l

families_at : (m : Mode) (ts : Trees) (x : FamilyChoice) (o : Option FamilyChoice) → ArePair m ts (x, (o, tt)) → ManyCases (IsIpFamily m) ts (all_of x o)
families_at m ts x None p = (p.first, p.others, p.whole, p.is, p.rest.cases.1.ended)
families_at m ts x (Some y) p = let q = p.rest.cases in (p.first, p.others, p.whole, p.is, (q.first, q.others, q.whole, q.is, q.rest.ended))

some_of : (x : FamilyChoice) (o : Option FamilyChoice) → all_of x o ≢ []
some_of x None e = cc
some_of x (Some y) e = cc

once_of : (x : FamilyChoice) (o : Option FamilyChoice) → ¬ (Repeats x o) → EachOnce (all_of x o)
once_of x None apart = (tt, tt)
once_of x (Some y) apart = ((apart, tt), (tt, tt))

pub families_given : (m : Mode) (x : FamilyChoice) (o : Option FamilyChoice) {v w : ValuesLeft} {says : FamilyChoices} → GivesAll (ArePair m) v (x, (o, tt)) w → ¬ (Repeats x o) × (says ≡ choices_of (all_of x o)) → GivesAll (AreIpFamilies m) v says w
families_given m x o g h = all_gives (AreIpFamilies m) (ArePair m) (λ ts p. record { families = all_of x o; are = record { cases = families_at m ts x o p }; some = some_of x o; once = once_of x o h.0; says = h.1 }) (families_within m) g

-- A family that occurs twice is mentioned twice in any reading.
repeated : (m : Mode) (ts : Trees) (x : FamilyChoice) (o : Option FamilyChoice) → Repeats x o → ArePair m ts (x, (o, tt)) → (families : List FamilyChoice) → ManyCases (IsIpFamily m) ts families → EachOnce families → ⊥
repeated m ts x None again p families q once = again
repeated m ts x (Some y) again p [] q once = let e : none ≡ more p.first p.others = sym q ∙ p.whole in cc
repeated m ts x (Some y) again p (u ∷ []) q once =
    let second = p.rest.cases in
    let others = (same_trees (sym q.2 ∙ p.whole)).1 in
    let e : none ≡ more second.first second.others = sym q.4 ∙ others ∙ second.whole in
    cc
repeated m ts x (Some y) again p (u ∷ w ∷ []) q once =
    let second = p.rest.cases in
    let outer = same_trees (sym q.2 ∙ p.whole) in
    let inner = same_trees (sym q.4.2 ∙ outer.1 ∙ second.whole) in
    let first : u.family ≡ x.family = one_family p.first u x (subst (λ (t : Tree). IsIpFamily m t u) outer.0 q.3) p.is in
    let last : w.family ≡ y.family = one_family second.first w y (subst (λ (t : Tree). IsIpFamily m t w) inner.0 q.4.3) second.is in
    once.0.0 (last ∙ again ∙ sym first)
repeated m ts x (Some y) again p (u ∷ w ∷ z ∷ zs) q once = no_third u.family w.family z.family once.0.0 once.0.1.0 once.1.0.0

pub families_unfit : {E : Type 0} (m : Mode) (x : FamilyChoice) (o : Option FamilyChoice) (e : DecodeError E) {v w : ValuesLeft} → GivesAll (ArePair m) v (x, (o, tt)) w → Repeats x o → OnContent e (LacksAll (AreIpFamilies m) v)
families_unfit m x o e g again = on_content e (all_unfit (AreIpFamilies m) (ArePair m) (λ ts z p q. repeated m ts x o again q p.families p.are.cases p.once) (families_within m) g)
