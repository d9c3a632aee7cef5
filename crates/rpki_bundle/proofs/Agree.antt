-- In DER what is written of a value is what spells it, and nothing else: by the words of grammars, one after the other.
use Rattle.std.proofs.Common.{◌≡◌, ℕ, ◌^◌, ◌<◌, List, [], ◌∷◌, ◌++◌, length, All, refl, sym, ap, ◌∙◌, subst, append-nil, arith}
use Rattle.std.proofs.lemmas.List.Elements.{All-cons, All-head, All-tail}
use Rattle.rpki_bundle.specs.bcder_tree.declared.mode.Mode.TheVariants.{Der}
use Rattle.rpki_bundle.specs.bcder_tree.Tags.{TagValue}
use Rattle.rpki_bundle.specs.bcder_tree.Tree.{Tree, Trees, primitive, constructed, none, more, Spells, SpellsAll, IsConstructed, definite, indefinite}
use Rattle.rpki_bundle.specs.bcder_tree.Strings.{IsString}
use Rattle.rpki_bundle.proofs.of_bcder_tree.Fronts.{length_bound}
use Rattle.rpki_bundle.specs.bcder_primitive.Values.{AnyOctets}
use Rattle.rpki_bundle.specs.bcder_content.Grammar.{Inside, OctetsOf, Where, As, End, Then, ManyCases, Many}
use Rattle.rpki_bundle.specs.bcder_content.Words.{ThenBy}
use Rattle.rpki_bundle.specs.bcder_content.Texts.{SpellsOf, InOrder}
use Rattle.rpki_bundle.specs.bcder_primitive.Encoded.{WritesPlain, WritesWrapped, WritesBoth}
use Rattle.rpki_bundle.specs.bcder_values.Lists.{WritesAll}

-- Octets spell the value x of Q where they are written by W and the law holds of x.
pub record Agree {A : Type 0} (Q : Tree → A → Type 0) (x : A) (W : List ℕ → Type 0) (law : Type 0) : Type 0 where
  pub to : (text : List ℕ) → SpellsOf Der Q text x → W text × law
  pub back : (text : List ℕ) → W text → law → SpellsOf Der Q text x

-- The same of values, one after the other.
pub record AgreeAll {A : Type 0} (P : Trees → A → Type 0) (x : A) (W : List ℕ → Type 0) (law : Type 0) : Type 0 where
  pub to : (text : List ℕ) → InOrder Der P text x → W text × law
  pub back : (text : List ℕ) → W text → law → InOrder Der P text x

-- Values, one after the other, where the first says what comes after it.
pub joins_by : {A B : Type 0} {Q : Tree → A → Type 0} {R : A → Trees → B → Type 0} {x : A} {y : B} {V W : List ℕ → Type 0} {l k : Type 0} → Agree Q x V l → AgreeAll (R x) y W k → AgreeAll (ThenBy Q R) (x, y) (WritesBoth V W) (l × k)
joins_by a b = record {
  to = λ text s.
      let h = subst (λ (ts : Trees). SpellsAll Der ts text) s.is.whole s.spelled in
      let f = a.to h.0 (record { tree = s.is.first; is = s.is.is; spelled = h.2 }) in
      let r = b.to h.1 (record { trees = s.is.others; is = s.is.rest; spelled = h.3 }) in
      (record { first = h.0; second = h.1; is_first = f.0; is_second = r.0; whole = h.4 }, (f.1, r.1));
  back = λ text w law.
      let f = a.back w.first w.is_first law.0 in
      let r = b.back w.second w.is_second law.1 in
      record {
        trees = more f.tree r.trees;
        is = record { first = f.tree; others = r.trees; whole = refl; is = f.is; rest = r.is };
        spelled = (w.first, w.second, f.spelled, r.spelled, w.whole);
      };
}

-- The same where it doesn't, and the last of them.
pub joins : {A B : Type 0} {Q : Tree → A → Type 0} {R : Trees → B → Type 0} {x : A} {y : B} {V W : List ℕ → Type 0} {l k : Type 0} → Agree Q x V l → AgreeAll R y W k → AgreeAll (Then Q R) (x, y) (WritesBoth V W) (l × k)
joins {A} {B} {Q} {R} {x} {y} a b =
    let both = joins_by {R = λ (z : A). R} a b in record {
      to = λ text s. both.to text (record { trees = s.trees; is = record { first = s.is.first; others = s.is.others; whole = s.is.whole; is = s.is.is; rest = s.is.rest }; spelled = s.spelled });
      back = λ text w law.
          let r = both.back text w law in
          record { trees = r.trees; is = record { first = r.is.first; others = r.is.others; whole = r.is.whole; is = r.is.is; rest = r.is.rest }; spelled = r.spelled };
    }

pub last_spelled : {A : Type 0} {Q : Tree → A → Type 0} {text : List ℕ} {x : A × Unit {0}} → InOrder Der (Then Q End) text x → SpellsOf Der Q text x.0
last_spelled {text = text} s =
    let trees = s.is.whole ∙ ap (more s.is.first) s.is.rest.ended in
    let h : SpellsAll Der (more s.is.first none) text = subst (λ (ts : Trees). SpellsAll Der ts text) trees s.spelled in
    let whole : text ≡ h.0 = h.4 ∙ ap (λ (z : List ℕ). h.0 ++ z) h.3 ∙ append-nil h.0 in
    record { tree = s.is.first; is = s.is.is; spelled = subst (Spells Der s.is.first) (sym whole) h.2 }

pub spelled_last : {A : Type 0} {Q : Tree → A → Type 0} {text : List ℕ} {x : A} → SpellsOf Der Q text x → InOrder Der (Then Q End) text (x, tt)
spelled_last {text = text} s = record {
  trees = more s.tree none;
  is = record { first = s.tree; others = none; whole = refl; is = s.is; rest = record { ended = refl } };
  spelled = (text, [], s.spelled, refl, sym (append-nil text));
}

pub last : {A : Type 0} {Q : Tree → A → Type 0} {x : A} {W : List ℕ → Type 0} {l : Type 0} → Agree Q x W l → AgreeAll (Then Q End) (x, tt) W l
last a = record { to = λ text s. a.to text (last_spelled s); back = λ text w law. spelled_last (a.back text w law) }

-- A list of values.
pub each : {A : Type 0} {Q : Tree → A → Type 0} {W : A → List ℕ → Type 0} {law : A → Type 0} → ((x : A) → Agree Q x (W x) (law x)) → (xs : List A) → AgreeAll (Many Q) xs (WritesAll W xs) (All law xs)
each {A} {Q} {W} {law} a xs = record { to = λ text s. to xs s.trees text s.is.cases s.spelled; back = λ text w h. back xs text w h }
  where
    to : (xs : List A) (ts : Trees) (text : List ℕ) → ManyCases Q ts xs → SpellsAll Der ts text → WritesAll W xs text × All law xs
    to [] ts text p s = (subst (λ (us : Trees). SpellsAll Der us text) p s, λ k d h. absurd (omega arith))
    to (x ∷ xs) ts text p s =
        let h = subst (λ (us : Trees). SpellsAll Der us text) p.2 s in
        let f = (a x).to h.0 (record { tree = p.0; is = p.3; spelled = h.2 }) in
        let r = to xs p.1 h.1 p.4 h.3 in
        (record { first = h.0; second = h.1; is_first = f.0; is_second = r.0; whole = h.4 }, All-cons law x xs f.1 r.1)

    back : (xs : List A) (text : List ℕ) → WritesAll W xs text → All law xs → InOrder Der (Many Q) text xs
    back [] text w h = record { trees = none; is = record { cases = refl }; spelled = w }
    back (x ∷ xs) text w h =
        let f = (a x).back w.first w.is_first (All-head law x xs h) in
        let r = back xs w.second w.is_second (All-tail law x xs h) in
        record {
          trees = more f.tree r.trees;
          is = record { cases = (f.tree, r.trees, refl, f.is, r.is.cases) };
          spelled = (w.first, w.second, f.spelled, r.spelled, w.whole);
        }

-- Around them; a definite length is below 2^32.
few : {text content : List ℕ} {tag : TagValue} → IsConstructed Der text tag content → length content < 2 ^ 32
few {content = content} (definite d header is whole) = (length_bound Der is.size (length content) is.size_is).1
few (indefinite d identifier tag is whole) = absurd d

pub inside : {A : Type 0} {tag : TagValue} {P : Trees → A → Type 0} {x : A} {W : List ℕ → Type 0} {l : Type 0} → AgreeAll P x W l → Agree (Inside tag P) x (WritesWrapped Der tag W) l
inside {A} {tag} {P} {x} a = record {
  to = λ text s.
      let h = subst (λ (t : Tree). Spells Der t text) s.is.whole s.spelled in
      let r = a.to h.0 (record { trees = s.is.values; is = s.is.is; spelled = h.2 }) in
      (record { content = h.0; is = r.0; few = few h.1; spelled = h.1 }, r.1);
  back = λ text w law.
      let r = a.back w.content w.is law in
      record { tree = constructed tag r.trees; is = record { values = r.trees; whole = refl; is = r.is }; spelled = (w.content, w.spelled, r.spelled) };
}

-- A value that is tested, and what it means.
pub such : {A : Type 0} {Q : Tree → A → Type 0} {passes : A → Type 0} {x : A} {W : List ℕ → Type 0} {l : Type 0} → Agree Q x W l → Agree (Where Q passes) x W (l × passes x)
such a = record {
  to = λ text s. let r = a.to text (record { tree = s.tree; is = s.is.is; spelled = s.spelled }) in (r.0, (r.1, s.is.meets));
  back = λ text w law. let r = a.back text w law.0 in record { tree = r.tree; is = record { is = r.is; meets = law.1 }; spelled = r.spelled };
}

-- Here g finds what a value of Q tells.
pub means_of : {A B : Type 0} {Q : Tree → A → Type 0} (f : A → B) (g : B → A) {y : B} {W : List ℕ → Type 0} {l : Type 0} → ((t : Tree) (x : A) → Q t x → g (f x) ≡ x) → f (g y) ≡ y → Agree Q (g y) W l → Agree (As Q f) y W l
means_of {A} {B} {Q} f g {y} there back a = record {
  to = λ text s. a.to text (record { tree = s.tree; is = subst (λ (x : A). Q s.tree x) (sym (there s.tree s.is.x s.is.is) ∙ ap g (sym s.is.means)) s.is.is; spelled = s.spelled });
  back = λ text w law. let r = a.back text w law in record { tree = r.tree; is = record { x = g y; is = r.is; means = sym back }; spelled = r.spelled };
}

-- The same where g finds what any value tells.
pub means : {A B : Type 0} {Q : Tree → A → Type 0} (f : A → B) (g : B → A) {y : B} {W : List ℕ → Type 0} {l : Type 0} → ((x : A) → g (f x) ≡ x) → f (g y) ≡ y → Agree Q (g y) W l → Agree (As Q f) y W l
means f g there back a = means_of f g (λ t x q. there x) back a

-- A law by another name.
pub lawful_as : {A : Type 0} {Q : Tree → A → Type 0} {x : A} {W : List ℕ → Type 0} {l k : Type 0} → Agree Q x W l → (l → k) → (k → l) → Agree Q x W k
lawful_as a f g = record {
  to = λ text s. let r = a.to text s in (r.0, f r.1);
  back = λ text w law. a.back text w (g law);
}

-- Primitive values, by their content, and strings.
pub plain : {A : Type 0} {tag : TagValue} {P : List ℕ → A → Type 0} {x : A} (V : List ℕ → Type 0) (l : Type 0) → ((content : List ℕ) → P content x → V content × l) → ((content : List ℕ) → V content → l → P content x) → Agree (OctetsOf tag P) x (WritesPlain Der tag V) l
plain {tag = tag} V l to back = record {
  to = λ text s.
      let h = subst (λ (t : Tree). Spells Der t text) s.is.whole s.spelled in
      let r = to s.is.content s.is.is in
      (record { content = s.is.content; is = r.0; spelled = h }, r.1);
  back = λ text w law. record { tree = primitive tag w.content; is = record { content = w.content; whole = refl; is = back w.content w.is law }; spelled = w.spelled };
}

pub string : (tag : TagValue) (x : List ℕ) → Agree (IsString Der tag) x (WritesPlain Der tag (λ c. AnyOctets c x)) (Unit {0})
string tag x = record {
  to = λ text s. (record { content = x; is = record { same = refl }; spelled = subst (λ (t : Tree). Spells Der t text) s.is s.spelled }, tt);
  back = λ text w law. record { tree = primitive tag w.content; is = ap (primitive tag) w.is.same; spelled = w.spelled };
}
