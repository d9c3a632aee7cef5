-- Headers and identifiers in what lies at hand of octets.
use Rattle.std.proofs.Common.{◌≡◌, ℕ, ◌+◌, ◌-◌, ◌<◌, ◌≤◌, inl, inr, Bool, List, [], ◌∷◌, ◌++◌, length, take, drop, Option, Some, None, IfSome, IfNone, IsTrue, IsFalse, not, ◌==◌, ◌&&◌, true, false, refl, sym, ap, ◌∙◌, append_assoc, length-append, zero, suc, arith}
use mathlib.Core.Bool.{beq}
use Rattle.std.proofs.lemmas.List.{take-append-drop}
use Rattle.std.proofs.lemmas.Bool.{cases_lt, eqb-true, eq-eqb}
use Rattle.std.proofs.Math.Seq.{drop-append_seam}
use Rattle.bcder_content.specs.bcder_tree.declared.mode.Mode.{Mode}
use Rattle.bcder_content.specs.bcder_tree.declared.length.Length.{Length}
use Rattle.bcder_content.specs.bcder_tree.declared.length.Length.TheVariants.{Definite as LengthIs, Indefinite as NoLength}
use Rattle.bcder_content.specs.bcder_tree.Tags.{TagValue}
use Rattle.bcder_content.specs.bcder_tree.Octets.{IsIdentifier, IsHigh}
use Rattle.bcder_content.specs.bcder_tree.Lengths.{SpellsLength}
use Rattle.bcder_source.specs.Views.{View, left, Moved}
use Rattle.bcder_source.proofs.Moves.{left_moved}
use Rattle.bcder_content.proofs.of_bcder_tree.Unique.{tag_is}
use Rattle.bcder_content.specs.declared.header.Header.{Header}
use Rattle.bcder_content.specs.bcder_tree.Reads.{Begins, Lacks, Identifies, IsEnd}
use Rattle.bcder_content.proofs.of_bcder_tree.Unique.{one_identifier}
use Rattle.bcder_content.proofs.of_bcder_tree.Slices.{rest_is}
use Rattle.bcder_content.proofs.of_bcder_tree.Fronts.{length_bound}
use Rattle.bcder_content.specs.Openings.{IsHead, Heads, NoHead, OfTag, NoTag}

-- What is in front of a part of the octets is in front of them all.
pub shown_whole : (s text y : List ℕ) (n : ℕ) → take n s ≡ text ++ y → s ≡ text ++ (y ++ drop n s)
shown_whole s text y n e = sym (take-append-drop n s) ∙ ap (λ (z : List ℕ). z ++ drop n s) e ∙ append_assoc text y (drop n s)

-- What is in front of them all is in front of the part that was asked for, where it is no longer.
pub whole_shown : (s text rest : List ℕ) (n w : ℕ) → s ≡ text ++ rest → length text ≤ w → n ≤ length s → (n < w → n ≡ length s) → (y : List ℕ) × (take n s ≡ text ++ y)
whole_shown s text rest n w e small there enough =
    (drop (length text) (take n s), sym (take-append-drop (length text) (take n s)) ∙ ap (λ (z : List ℕ). z ++ drop (length text) (take n s)) front)
  where
    long : length text ≤ n
    long = elim (cases_lt n w) [
      | inl h ↦ omega (arith, enough h, ap length e, length-append text rest)
      | inr h ↦ omega arith
    ]

    front : take (length text) (take n s) ≡ text
    front = at text rest n long s e
      where
        at : (a r : List ℕ) (k : ℕ) → length a ≤ k → (z : List ℕ) → z ≡ a ++ r → take (length a) (take k z) ≡ a
        at [] r k h z e = refl
        at (x ∷ a) r k h [] e = absurd cc
        at (x ∷ a) r zero h (y ∷ z) e = let none : ⊥ = omega arith in absurd none
        at (x ∷ a) r (suc k) h (y ∷ z) e =
            let head : y ≡ x = cc in
            let tail : z ≡ a ++ r = cc in
            ap (λ (w : List ℕ). y ∷ w) (at a r k (omega arith) z tail) ∙ ap (λ (w : ℕ). w ∷ a) head

high_small : (i : List ℕ) (n : ℕ) → IsHigh i n → length i ≤ 3
high_small [] n h = omega arith
high_small (a ∷ []) n h = omega arith
high_small (a ∷ b ∷ []) n h = omega arith
high_small (a ∷ b ∷ c ∷ []) n h = omega arith
high_small (a ∷ b ∷ c ∷ d ∷ _) n h = absurd h

pub identifier_small : (i : List ℕ) (k : Bool) (t : TagValue) → IsIdentifier i k t → length i ≤ 4
identifier_small [] k t h = omega arith
identifier_small (a ∷ []) k t h = omega arith
identifier_small (a ∷ b ∷ i) k t h = omega (arith, high_small (b ∷ i) t.number h.1)

size_small : (m : Mode) (l : Length) (i : List ℕ) → SpellsLength m l i → length i ≤ 5
size_small m (LengthIs n) i h = (length_bound m i n h).0
size_small m NoLength i h = omega (arith, ap length h)

pub head_small : {m : Mode} {k : Bool} {t : TagValue} {l : Length} {h : List ℕ} → IsHead m h k t l → length h ≤ 9
head_small {m} {k} {t} {l} {h} x = omega (arith, identifier_small x.identifier k t x.identifier_is, size_small m l x.size x.size_is, ap length x.whole, length-append x.identifier x.size)

-- These octets lie at hand of all that may be read, at least so many where there are so many.
pub record Shown (w : ℕ) (s octets : List ℕ) : Type 0 where
  pub count : ℕ
  pub is : octets ≡ take count s
  pub there : count ≤ length s
  pub enough : count < w → count ≡ length s

pub shown : {old new : View} {w n f : ℕ} {octets : List ℕ} → new ≡ old → octets ≡ take n (left new) → f ≡ n → f ≤ length (left new) → (f < w → f ≡ length (left new)) → Shown w (left old) octets
shown {old} {new} {w} {n} {f} {octets} same is count there enough =
    let e : left new ≡ left old = ap left same in
    record {
      count = n;
      is = is ∙ ap (λ (z : List ℕ). take n z) e;
      there = omega (arith, count, ap length e);
      enough = λ h. let k : f < w = omega (arith, count) in let m : f ≡ length (left new) = enough k in omega (arith, count, m, ap length e);
    }

-- Headers and identifiers that are found at hand are those of all the octets.
pub heads_found_in : (m : Mode) {s octets : List ℕ} (o : Option Header) → Shown 9 s octets → IfSome o (λ h. Heads m h.constructed h.tag h.length h.count octets) → IfSome o (λ h. Heads m h.constructed h.tag h.length h.count s)
heads_found_in m None w h = h
heads_found_in m {s = s} (Some x) w h = record { text = h.text; rest = h.rest ++ drop w.count s; head = h.head; whole = shown_whole s h.text h.rest w.count (sym w.is ∙ h.whole); long = h.long }

pub no_head_in : (m : Mode) {s octets : List ℕ} (o : Option Header) → Shown 9 s octets → IfNone o (NoHead m octets) → IfNone o (NoHead m s)
no_head_in m (Some x) w h = h
no_head_in m {s} {octets} None w h = record {
  none = λ form t l text rest head e.
      let y = whole_shown s text rest w.count 9 e (head_small head) w.there w.enough in
      h.none form t l text y.0 head (w.is ∙ y.1);
}

pub of_tag_in : {t : TagValue} {s octets : List ℕ} → Shown 4 s octets → OfTag t octets → OfTag t s
of_tag_in {s = s} w o = record { form = o.form; identifier = o.identifier; rest = o.rest ++ drop w.count s; tag = o.tag; is = o.is; whole = shown_whole s o.identifier o.rest w.count (sym w.is ∙ o.whole) }

pub of_tag_at_hand : {t : TagValue} {s octets : List ℕ} → Shown 4 s octets → OfTag t s → OfTag t octets
of_tag_at_hand {t} {s} w o =
    let y = whole_shown s o.identifier o.rest w.count 4 o.whole (identifier_small o.identifier o.form t o.is) w.there w.enough in
    record { form = o.form; identifier = o.identifier; rest = y.0; tag = o.tag; is = o.is; whole = w.is ∙ y.1 }

-- The identifier that was found is of its tag, and of no other.
pub begins_of_tag : {k : Bool} {t : TagValue} {c : ℕ} {s : List ℕ} → Begins (Identifies k t) s c → OfTag t s
begins_of_tag {k} b = record { form = k; identifier = b.text; rest = b.rest; tag = b.is.0; is = b.is.1; whole = b.whole }

pub one_tag : {t u : TagValue} {s : List ℕ} → OfTag t s → OfTag u s → t ≡ u
one_tag a b = (one_identifier a.identifier b.identifier a.rest b.rest a.is b.is (sym a.whole ∙ b.whole)).tag

-- A header in front, of an identifier and a length that were found.
pub heads_found : {m : Mode} {k : Bool} {t : TagValue} {l : Length} {before size : ℕ} (s : List ℕ) → Begins (Identifies k t) s before → Begins (SpellsLength m l) (take (length s - before) (drop before s)) size → Heads m k t l (before + size) s
heads_found {m} {k} {t} {l} {before} {size} s a b =
    let behind : drop before s ≡ a.rest = ap (λ (z : List ℕ). drop before z) a.whole ∙ ap (λ (n : ℕ). drop n (a.text ++ a.rest)) (sym a.long) ∙ drop-append_seam a.text a.rest in
    record {
      text = a.text ++ b.text;
      rest = b.rest;
      head = record { identifier = a.text; size = b.text; whole = refl; tag = a.is.0; identifier_is = a.is.1; size_is = b.is };
      whole = a.whole ∙ ap (λ (z : List ℕ). a.text ++ z) (sym behind ∙ sym (rest_is before s) ∙ b.whole) ∙ sym (append_assoc a.text b.text b.rest);
      long = length-append a.text b.text ∙ ap (λ (z : ℕ). z + length b.text) a.long ∙ ap (λ (z : ℕ). before + z) b.long;
    }

pub no_identifier : {m : Mode} {s : List ℕ} → ((k : Bool) (t : TagValue) → Lacks (Identifies k t) s) → NoHead m s
no_identifier none = record {
  none = λ form t l text rest h e.
      (none form t).none h.identifier (h.size ++ rest) (h.tag, h.identifier_is) (e ∙ ap (λ (z : List ℕ). z ++ rest) h.whole ∙ append_assoc h.identifier h.size rest);
}

pub no_size : {m : Mode} {k : Bool} {t : TagValue} {before : ℕ} (s : List ℕ) → Begins (Identifies k t) s before → ((l : Length) → Lacks (SpellsLength m l) (take (length s - before) (drop before s))) → NoHead m s
no_size {m} {k} {t} {before} s a none = record {
  none = λ form u l text rest h e.
      let whole : s ≡ h.identifier ++ (h.size ++ rest) = e ∙ ap (λ (z : List ℕ). z ++ rest) h.whole ∙ append_assoc h.identifier h.size rest in
      let o = one_identifier a.text h.identifier a.rest (h.size ++ rest) a.is.1 h.identifier_is (sym a.whole ∙ whole) in
      let behind : drop before s ≡ a.rest = ap (λ (z : List ℕ). drop before z) a.whole ∙ ap (λ (n : ℕ). drop n (a.text ++ a.rest)) (sym a.long) ∙ drop-append_seam a.text a.rest in
      (none l).none h.size rest h.size_is (rest_is before s ∙ behind ∙ o.rest);
}

pub no_tag_in : {s octets : List ℕ} → Shown 4 s octets → ((k : Bool) (u : TagValue) → Lacks (Identifies k u) octets) → NoTag s
no_tag_in w none = record { none = λ t o. let a = of_tag_at_hand w o in (none a.form t).none a.identifier a.rest (a.tag, a.is) a.whole }

both : (x y : Bool) → (x && y) ≡ true → (x ≡ true) × (y ≡ true)
both true true e = (refl, refl)
both true false e = absurd cc
both false y e = absurd cc

-- Tags that compare equal, or not.
pub tags_equal : {a b : TagValue} {r : Bool} → r ≡ ((a.class == b.class) && (a.number == b.number)) → IsTrue r → a ≡ b
tags_equal {a} {b} {r} e y =
    let p = both (a.class == b.class) (a.number == b.number) (sym e ∙ y) in
    tag_is (eqb-true a.class b.class p.0) (eqb-true a.number b.number p.1)

pub tags_differ : {a b : TagValue} {r : Bool} → r ≡ ((a.class == b.class) && (a.number == b.number)) → IsFalse r → a ≡ b → ⊥
tags_differ {a} {b} {r} e n s =
    let x : (a.class == b.class) ≡ true = eq-eqb a.class b.class (ap (λ (t : TagValue). t.class) s) in
    let y : (a.number == b.number) ≡ true = eq-eqb a.number b.number (ap (λ (t : TagValue). t.number) s) in
    let z : true ≡ ((a.class == b.class) && (a.number == b.number)) = sym (ap (λ (w : Bool). w && (a.number == b.number)) x ∙ y) in
    let f : true ≡ false = z ∙ sym e ∙ n in
    absurd cc

-- Where end-of-contents isn't at hand, no content ends with it.
pub no_end_in : {v : View} {octets : List ℕ} → Shown 2 (left v) octets → Lacks IsEnd octets → (w : View) → Moved v (0 ∷ 0 ∷ []) w → ⊥
no_end_in {v} {octets} s none w m =
    let y = whole_shown (left v) (0 ∷ 0 ∷ []) (left w) s.count 2 (left_moved m) (omega arith) s.there s.enough in
    none.none (0 ∷ 0 ∷ []) y.0 refl (s.is ∙ y.1)

pub tags_unequal : {a b : TagValue} {r : Bool} → r ≡ not ((a.class == b.class) && (a.number == b.number)) → IsTrue r → a ≡ b → ⊥
tags_unequal {a} {b} {r} e y s = tags_differ {a = a} {b = b} refl (flip ((a.class == b.class) && (a.number == b.number)) (sym e ∙ y)) s
  where
    flip : (x : Bool) → not x ≡ true → x ≡ false
    flip false e = refl
    flip true e = absurd cc

pub bools_differ : (a b : Bool) → not (beq a b) ≡ true → a ≡ b → ⊥
bools_differ true true e f = absurd cc
bools_differ false false e f = absurd cc
bools_differ true false e f = absurd cc
bools_differ false true e f = absurd cc

pub tags_same : {a b : TagValue} {r : Bool} → r ≡ not ((a.class == b.class) && (a.number == b.number)) → IsFalse r → a ≡ b
tags_same {a} {b} {r} e n = tags_equal {a = a} {b = b} refl (flip ((a.class == b.class) && (a.number == b.number)) (sym e ∙ n))
  where
    flip : (x : Bool) → not x ≡ false → x ≡ true
    flip true e = refl
    flip false e = absurd cc

pub not_true : {b : Bool} → b ≡ false → b ≡ true → ⊥
not_true e f = let x : false ≡ true = sym e ∙ f in absurd cc

pub not_false : {b : Bool} → b ≡ true → b ≡ false → ⊥
not_false e f = let x : true ≡ false = sym e ∙ f in absurd cc
