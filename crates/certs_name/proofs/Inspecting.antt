-- A name of which inspection has seen the attributes is one of the RPKI, and the other way.
use Rattle.std.proofs.Common.{◌≡◌, ℕ, zero, suc, ◌+◌, ◌≤◌, ◌⊎◌, inl, inr, Bool, true, false, List, [], ◌∷◌, ◌++◌, refl, sym, ap, ◌∙◌, subst, arith}
use Rattle.std.specs.Prelude.{IsTrue, encode_utf8}
use Rattle.certs_name.specs.bcder_tree.declared.mode.Mode.{Mode}
use Rattle.certs_name.specs.bcder_tree.declared.mode.Mode.TheVariants.{Der}
use Rattle.certs_name.specs.bcder_tree.Tags.{printable_string_tag, utf8_string_tag}
use Rattle.certs_name.specs.bcder_tree.Tree.{Tree, Trees, Spells}
use Rattle.certs_name.specs.bcder_tree.Front.{Front}
use Rattle.certs_name.specs.bcder_tree.Strings.{IsPrintable}
use Rattle.certs_name.proofs.of_bcder_tree.Fronts.{whole_front}
use Rattle.certs_name.proofs.of_bcder_tree.Trees.{one_tree}
use Rattle.certs_name.specs.bcder.Sets.{alone, IsUnicode}
use Rattle.certs_name.specs.bcder.Restricted.{IsRestricted}
use Rattle.certs_name.specs.bcder.Identifiers.{IsIdentifier}
use Rattle.certs_name.specs.bcder_content.Grammar.{ManyCases}
use Rattle.certs_name.specs.bcder_content.Kept.{CapturedValue}
use Rattle.certs_basics.specs.Identifiers.{common_name, serial_number}
use Rattle.certs_basics.specs.Lists.{joined}
use Rattle.certs_basics.specs.Names.{Attribute, IsAttribute, IsRelativeName, IsName, IsPlain, AreRpki, IsRpkiName}
use Rattle.certs_name.specs.declared.seen.Seen.{Seen}
use Rattle.certs_name.specs.Inspected.{IsKind, IsTextValue, IsSeenAttribute, IsSeenRelativeName, IsSeenName, common_names, serial_numbers, seen_common, seen_serial, times}
use Rattle.certs_name.specs.Named.{IsNamed}
use Rattle.certs_name.proofs.Sightings.{at_most_once, commons, serials, name_one}

-- The value of an attribute.

abbrev IsText : Bool → Tree → List ℕ → Type 0
IsText strict v text = IsRestricted IsPrintable alone Der printable_string_tag v text ⊎ ((strict ≡ false) × IsRestricted IsUnicode encode_utf8 Der utf8_string_tag v text)

text_told : (strict : Bool) (v : Tree) (x : Unit {0}) → IsTextValue strict v x → (text : List ℕ) × IsText strict v text
text_told true v x p = (p.content, inl (record { is = p.whole; meets = p.is.is }))
text_told false v x p = elim p.cases [
  | inl q ↦ (q.content, inr (refl, record { is = q.whole; meets = q.is.is }))
  | inr q ↦ (q.content, inl (record { is = q.whole; meets = q.is.is }))
]

text_seen : (strict : Bool) (v : Tree) (text : List ℕ) → IsText strict v text → IsTextValue strict v tt
text_seen true v text (inl p) = record { content = text; whole = p.is; is = record { is = p.meets } }
text_seen true v text (inr p) = let e : true ≡ false = p.0 in absurd cc
text_seen false v text (inl p) = record { cases = inr (record { content = text; whole = p.is; is = record { is = p.meets } }) }
text_seen false v text (inr p) = record { cases = inl (record { content = text; whole = p.1.is; is = record { is = p.1.meets } }) }

-- One attribute.

abbrev IsPlainAs : Bool → Attribute → Seen → Type 0
IsPlainAs strict a s = (IsPlain strict common_name a × (s ≡ seen_common)) ⊎ (IsPlain strict serial_number a × (s ≡ seen_serial))

identifier : (content : List ℕ) (s : Seen) → IsKind content s → IsIdentifier content
identifier content s (inl p) = record { front = 85 ∷ 4 ∷ []; last = 3; whole = p.0; ends = omega arith }
identifier content s (inr p) = record { front = 85 ∷ 4 ∷ []; last = 5; whole = p.0; ends = omega arith }

plain_as : (strict : Bool) (a : Attribute) (s x : Seen) → IsKind a.kind x → s ≡ x → (text : List ℕ) → IsText strict a.value text → IsPlainAs strict a s
plain_as strict a s x (inl k) e text is = inl (record { kind_is = k.0; text = text; value_is = is }, e ∙ k.1)
plain_as strict a s x (inr k) e text is = inr (record { kind_is = k.0; text = text; value_is = is }, e ∙ k.1)

attribute_told : (strict : Bool) (t : Tree) (s : Seen) → IsSeenAttribute strict t s → (a : Attribute) × IsAttribute t a × IsPlainAs strict a s
attribute_told strict t s p =
    let f = p.is.is in
    let a : Attribute = record { kind = f.is.content; value = f.rest.first } in
    let told = text_told strict f.rest.first p.x.1.0 f.rest.is in (
      a,
      record {
        x = (f.is.content, (f.rest.first, tt));
        is = record {
          values = p.is.values;
          whole = p.is.whole;
          is = record {
            first = f.first;
            others = f.others;
            whole = f.whole;
            is = record { content = f.is.content; whole = f.is.whole; is = record { same = refl; is = identifier f.is.content p.x.0 f.is.is } };
            rest = record { first = f.rest.first; others = f.rest.others; whole = f.rest.whole; is = record { same = refl }; rest = f.rest.rest };
          };
        };
        means = refl;
      },
      plain_as strict a s p.x.0 f.is.is p.means told.0 told.1,
    )

-- Its kind and its text, of an attribute that is plain.
plain_kind : (strict : Bool) (a : Attribute) (s : Seen) → IsPlainAs strict a s → IsKind a.kind s
plain_kind strict a s (inl p) = inl (p.0.kind_is, p.1)
plain_kind strict a s (inr p) = inr (p.0.kind_is, p.1)

plain_text : (strict : Bool) (a : Attribute) (s : Seen) → IsPlainAs strict a s → IsTextValue strict a.value tt
plain_text strict a s (inl p) = text_seen strict a.value p.0.text p.0.value_is
plain_text strict a s (inr p) = text_seen strict a.value p.0.text p.0.value_is

attribute_seen : (strict : Bool) (t : Tree) (a : Attribute) (s : Seen) → IsAttribute t a → IsPlainAs strict a s → IsSeenAttribute strict t s
attribute_seen strict t a s p q =
    let f = p.is.is in
    let kind : a.kind ≡ f.is.content = ap (λ (z : Attribute). z.kind) p.means ∙ sym f.is.is.same in
    let value : a.value ≡ f.rest.first = ap (λ (z : Attribute). z.value) p.means ∙ sym f.rest.is.same in
    record {
      x = (s, (tt, tt));
      is = record {
        values = p.is.values;
        whole = p.is.whole;
        is = record {
          first = f.first;
          others = f.others;
          whole = f.whole;
          is = record { content = f.is.content; whole = f.is.whole; is = subst (λ (o : List ℕ). IsKind o s) kind (plain_kind strict a s q) };
          rest = record { first = f.rest.first; others = f.rest.others; whole = f.rest.whole; is = subst (λ (v : Tree). IsTextValue strict v tt) value (plain_text strict a s q); rest = f.rest.rest };
        };
      };
      means = refl;
    }

-- Many.

abbrev ArePlain : Bool → List Attribute → List Seen → Type 0
ArePlain strict [] [] = Unit {0}
ArePlain strict [] (s ∷ ss) = ⊥
ArePlain strict (a ∷ ls) [] = ⊥
ArePlain strict (a ∷ ls) (s ∷ ss) = IsPlainAs strict a s × ArePlain strict ls ss

plain_append : (strict : Bool) (a b : List Attribute) (s t : List Seen) → ArePlain strict a s → ArePlain strict b t → ArePlain strict (a ++ b) (s ++ t)
plain_append strict [] b [] t p q = q
plain_append strict [] b (x ∷ s) t p q = absurd p
plain_append strict (x ∷ a) b [] t p q = absurd p
plain_append strict (x ∷ a) b (y ∷ s) t p q = (p.0, plain_append strict a b s t p.1 q)

plain_split : (strict : Bool) (a b : List Attribute) (ss : List Seen) → ArePlain strict (a ++ b) ss → (s : List Seen) × (t : List Seen) × (ss ≡ s ++ t) × ArePlain strict a s × ArePlain strict b t
plain_split strict [] b ss p = ([], ss, refl, tt, p)
plain_split strict (x ∷ a) b [] p = absurd p
plain_split strict (x ∷ a) b (y ∷ ss) p =
    let r = plain_split strict a b ss p.1 in
    (y ∷ r.0, r.1, ap (λ (z : List Seen). y ∷ z) r.2, (p.0, r.3), r.4)

told_all : (strict : Bool) (ss : List Seen) (ts : Trees) → ManyCases (IsSeenAttribute strict) ts ss → (ls : List Attribute) × ManyCases IsAttribute ts ls × ArePlain strict ls ss
told_all strict [] ts p = ([], p, tt)
told_all strict (s ∷ ss) ts p =
    let first = attribute_told strict p.0 s p.3 in
    let rest = told_all strict ss p.1 p.4 in
    (first.0 ∷ rest.0, (p.0, p.1, p.2, first.1, rest.1), (first.2, rest.2))

seen_all : (strict : Bool) (ls : List Attribute) (ss : List Seen) (ts : Trees) → ManyCases IsAttribute ts ls → ArePlain strict ls ss → ManyCases (IsSeenAttribute strict) ts ss
seen_all strict [] [] ts p q = p
seen_all strict [] (s ∷ ss) ts p q = absurd q
seen_all strict (a ∷ ls) [] ts p q = absurd q
seen_all strict (a ∷ ls) (s ∷ ss) ts p q = (p.0, p.1, p.2, attribute_seen strict p.0 a s p.3 q.0, seen_all strict ls ss p.1 p.4 q.1)

relatives_told : (strict : Bool) (xs : List Seen) (ts : Trees) → ManyCases (IsSeenRelativeName strict) ts xs
    → (rs : List (List Attribute)) × (ss : List Seen) × ManyCases IsRelativeName ts rs × ArePlain strict (joined rs) ss × (common_names ss ≡ common_names xs) × (serial_numbers ss ≡ serial_numbers xs)
relatives_told strict [] ts p = ([], [], p, tt, refl, refl)
relatives_told strict (x ∷ xs) ts p =
    let g = p.3.is in
    let first = told_all strict g.xs p.3.values g.are.cases in
    let rest = relatives_told strict xs p.1 p.4 in (
      first.0 ∷ rest.0,
      g.xs ++ rest.1,
      (p.0, p.1, p.2, record { values = p.3.values; whole = p.3.whole; is = record { cases = first.1 } }, rest.2),
      plain_append strict first.0 (joined rest.0) g.xs rest.1 first.2 rest.3,
      omega (arith, commons g.xs rest.1, g.says.common, rest.4),
      omega (arith, serials g.xs rest.1, g.says.serial, rest.5),
    )

-- How often, as a truth.
once : (n : ℕ) → n ≤ 1 → (b : Bool) × (n ≡ times b)
once zero h = (false, refl)
once (suc zero) h = (true, refl)
once (suc (suc n)) h = absurd (omega arith)

relatives_seen : (strict : Bool) (rs : List (List Attribute)) (ts : Trees) (ss : List Seen) → ManyCases IsRelativeName ts rs → ArePlain strict (joined rs) ss → common_names ss ≤ 1 → serial_numbers ss ≤ 1
    → (xs : List Seen) × ManyCases (IsSeenRelativeName strict) ts xs × (common_names xs ≡ common_names ss) × (serial_numbers xs ≡ serial_numbers ss)
relatives_seen strict [] ts [] p q c n = ([], p, refl, refl)
relatives_seen strict [] ts (s ∷ ss) p q c n = absurd q
relatives_seen strict (r ∷ rs) ts ss p q c n =
    let d = plain_split strict r (joined rs) ss q in
    let both : common_names ss ≡ common_names d.0 + common_names d.1 = ap common_names d.2 ∙ commons d.0 d.1 in
    let numbers : serial_numbers ss ≡ serial_numbers d.0 + serial_numbers d.1 = ap serial_numbers d.2 ∙ serials d.0 d.1 in
    let first = once (common_names d.0) (omega arith) in
    let second = once (serial_numbers d.0) (omega arith) in
    let x : Seen = record { common_name = first.0; serial_number = second.0 } in
    let rest = relatives_seen strict rs p.1 d.1 p.4 d.4 (omega arith) (omega arith) in (
      x ∷ rest.0,
      (
        p.0,
        p.1,
        p.2,
        record {
          values = p.3.values;
          whole = p.3.whole;
          is = record { xs = d.0; are = record { cases = seen_all strict r d.0 p.3.values p.3.is.cases d.3 }; says = record { common = first.1; serial = second.1 } };
        },
        rest.1,
      ),
      omega (arith, first.1, rest.2, both),
      omega (arith, second.1, rest.3, numbers),
    )

-- A whole name.

one_each : (strict : Bool) (a : Attribute) (s : Seen) → IsPlainAs strict a s → times s.common_name + times s.serial_number ≡ 1
one_each strict a s (inl p) = ap (λ (z : Seen). times z.common_name + times z.serial_number) p.1
one_each strict a s (inr p) = ap (λ (z : Seen). times z.common_name + times z.serial_number) p.1

as_common : (strict : Bool) (a : Attribute) (s : Seen) → IsPlainAs strict a s → times s.common_name ≡ 1 → IsPlain strict common_name a
as_common strict a s (inl p) e = p.0
as_common strict a s (inr p) e = let f : times s.common_name ≡ 0 = ap (λ (z : Seen). times z.common_name) p.1 in absurd (omega arith)

as_serial : (strict : Bool) (a : Attribute) (s : Seen) → IsPlainAs strict a s → times s.common_name ≡ 0 → IsPlain strict serial_number a
as_serial strict a s (inl p) e = let f : times s.common_name ≡ 1 = ap (λ (z : Seen). times z.common_name) p.1 in absurd (omega arith)
as_serial strict a s (inr p) e = p.0

two_plain : (strict : Bool) (a b : Attribute) (s t : Seen) → IsPlainAs strict a s → IsPlainAs strict b t → times s.common_name + times t.common_name ≡ 1 → AreRpki strict (a ∷ b ∷ [])
two_plain strict a b s t (inl p) q e =
    let f : times s.common_name ≡ 1 = ap (λ (z : Seen). times z.common_name) p.1 in
    inl (p.0, as_serial strict b t q (omega arith))
two_plain strict a b s t (inr p) q e =
    let f : times s.common_name ≡ 0 = ap (λ (z : Seen). times z.common_name) p.1 in
    inr (p.0, as_common strict b t q (omega arith))

are_rpki : (strict : Bool) (ls : List Attribute) (ss : List Seen) → ArePlain strict ls ss → common_names ss ≡ 1 → serial_numbers ss ≤ 1 → AreRpki strict ls
are_rpki strict [] [] p c n = absurd (omega arith)
are_rpki strict [] (s ∷ ss) p c n = absurd p
are_rpki strict (a ∷ ls) [] p c n = absurd p
are_rpki strict (a ∷ []) (s ∷ []) p c n = as_common strict a s p.0 (omega arith)
are_rpki strict (a ∷ []) (s ∷ t ∷ ss) p c n = absurd p.1
are_rpki strict (a ∷ b ∷ ls) (s ∷ []) p c n = absurd p.1
are_rpki strict (a ∷ b ∷ []) (s ∷ t ∷ []) p c n = two_plain strict a b s t p.0 p.1.0 (omega arith)
are_rpki strict (a ∷ b ∷ []) (s ∷ t ∷ u ∷ ss) p c n = absurd p.1.1
are_rpki strict (a ∷ b ∷ d ∷ ls) (s ∷ t ∷ []) p c n = absurd p.1.1
are_rpki strict (a ∷ b ∷ d ∷ ls) (s ∷ t ∷ u ∷ ss) p c n = absurd (omega (arith, one_each strict a s p.0, one_each strict b t p.1.0, one_each strict d u p.1.1.0))

are_plain : (strict : Bool) (ls : List Attribute) → AreRpki strict ls → (ss : List Seen) × ArePlain strict ls ss × (common_names ss ≡ 1) × (serial_numbers ss ≤ 1)
are_plain strict [] p = absurd p
are_plain strict (a ∷ []) p = (seen_common ∷ [], (inl (p, refl), tt), refl, omega arith)
are_plain strict (a ∷ b ∷ []) (inl p) = (seen_common ∷ seen_serial ∷ [], (inl (p.0, refl), (inr (p.1, refl), tt)), refl, omega arith)
are_plain strict (a ∷ b ∷ []) (inr p) = (seen_serial ∷ seen_common ∷ [], (inr (p.0, refl), (inl (p.1, refl), tt)), refl, omega arith)
are_plain strict (a ∷ b ∷ c ∷ ls) p = absurd p

name_told : (strict : Bool) (t : Tree) (s : Seen) → IsSeenName strict t s → s.common_name ≡ true → (all : List Attribute) × IsName t all × AreRpki strict all
name_told strict t s p e =
    let r = relatives_told strict p.is.xs p.values p.is.are.cases in (
      joined r.0,
      record { x = r.0; is = record { values = p.values; whole = p.whole; is = record { cases = r.2 } }; means = refl },
      are_rpki strict (joined r.0) r.1 r.3 (r.4 ∙ p.is.says.common ∙ ap times e) (omega (arith, r.5, p.is.says.serial, at_most_once s.serial_number)),
    )

name_seen : (strict : Bool) (t : Tree) (all : List Attribute) → IsName t all → AreRpki strict all → (s : Seen) × IsSeenName strict t s × (s.common_name ≡ true)
name_seen strict t all is are =
    let q = are_plain strict all are in
    let plain = subst (λ (ls : List Attribute). ArePlain strict ls q.0) is.means q.1 in
    let xs = relatives_seen strict is.x is.is.values q.0 is.is.is.cases plain (omega (arith, q.2)) q.3 in
    let number = once (serial_numbers xs.0) (omega (arith, xs.3, q.3)) in
    let s : Seen = record { common_name = true; serial_number = number.0 } in (
      s,
      record { values = is.is.values; whole = is.is.whole; is = record { xs = xs.0; are = record { cases = xs.1 }; says = record { common = xs.2 ∙ q.2; serial = number.1 } } },
      refl,
    )

-- What reading the octets of a name says.

at_name : (n : CapturedValue) (m : Mode) (octets : List ℕ) (t : Tree) (rest : List ℕ) → m ≡ n.mode → octets ≡ n.octets → Front m octets t rest → Front n.mode n.octets t rest
at_name n m octets t rest e o f = subst (λ (k : Mode). Front k n.octets t rest) e (subst (λ (v : List ℕ). Front m v t rest) o f)

pub found : (strict : Bool) (n : CapturedValue) (m : Mode) (octets : List ℕ) (s : Seen) (t : Tree) (rest : List ℕ) → m ≡ n.mode → octets ≡ n.octets → IsNamed n → Front m octets t rest → IsSeenName strict t s
    → (IsTrue s.common_name → IsRpkiName strict n) × (IsRpkiName strict n → IsTrue s.common_name)
found strict n m octets s t rest e o named f p = (
  λ yes.
      let told = name_told strict t s p yes in
      let same = (one_tree t named.says.tree front (whole_front named.says.spelled)).0 in
      record { all = told.0; says = record { tree = t; spelled = subst (λ (u : Tree). Spells n.mode u n.octets) (sym same) named.says.spelled; is = told.1 }; are = told.2 },
  λ r.
      let other = name_seen strict r.says.tree r.all r.says.is r.are in
      let same = (one_tree r.says.tree t (whole_front r.says.spelled) front).0 in
      let one = (name_one strict).one t s other.0 p (subst (λ (u : Tree). IsSeenName strict u other.0) same other.1) in
      ap (λ (z : Seen). z.common_name) one ∙ other.2,
)
  where
    front : Front n.mode n.octets t rest
    front = at_name n m octets t rest e o f

pub refused : (strict : Bool) (n : CapturedValue) (m : Mode) (octets : List ℕ) → m ≡ n.mode → octets ≡ n.octets → ((t : Tree) (s : Seen) (rest : List ℕ) → IsSeenName strict t s → Front m octets t rest → ⊥) → IsRpkiName strict n → ⊥
refused strict n m octets e o none r =
    let other = name_seen strict r.says.tree r.all r.says.is r.are in
    none r.says.tree other.0 [] other.1 (at_name (record { mode = m; octets = octets }) n.mode n.octets r.says.tree [] (sym e) (sym o) (whole_front r.says.spelled))
