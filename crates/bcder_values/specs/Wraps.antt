-- That what is written of a constructed value spells it, and is always the same.
use Rattle.std.proofs.Common.{◌≡◌, ◌≢◌, ℕ, true, List, [], ◌∷◌, ◌++◌, length, refl, sym, ap, ◌∙◌, append-nil, subst}
use Rattle.bcder_values.specs.bcder_tree.declared.mode.Mode.{Mode}
use Rattle.bcder_values.specs.bcder_tree.declared.mode.Mode.TheVariants.{Ber, Cer, Der}
use Rattle.bcder_values.specs.bcder_tree.Tags.{TagValue}
use Rattle.bcder_values.specs.bcder_tree.Tree.{Tree, Trees, constructed, none, more, IsHeader, IsConstructed, definite, indefinite, Spells, SpellsAll}
use Rattle.bcder_content.proofs.of_bcder_tree.Modes.{ber_header}
use Rattle.bcder_content.proofs.of_bcder_tree.Canonical.{spelled_header, spelled_identifier}
use Rattle.bcder_values.specs.bcder_primitive.Encoded.{written_as, IsWrapped, WritesWrapped, SpellsSome}

-- One value is all of them.
pub one_spelled : (m : Mode) (t : Tree) (text : List ℕ) → Spells m t text
    → SpellsAll m (more t none) text
one_spelled m t text s = (text, [], s, refl, sym (append-nil text))

-- The form that is written stands in the mode.
stands : (m : Mode) {text content : List ℕ} {t : TagValue}
    → IsConstructed (written_as m) text t content → IsConstructed m text t content
stands Ber (definite d header is whole) = definite tt header (ber_header is) whole
stands Ber (indefinite d i tag is whole) = absurd d
stands Cer c = c
stands Der c = c

pub wrapped_spelled : (m : Mode) {tag : TagValue} {T : Trees → Type 0} {P : List ℕ → Type 0}
    → ((text : List ℕ) → P text → SpellsSome m T text) → (text : List ℕ)
    → WritesWrapped m tag P text → SpellsSome m (IsWrapped tag T) text
wrapped_spelled m {tag} spelled text w =
    let s = spelled w.content w.is in
    record {
      trees = more (constructed tag s.trees) none;
      is = record { values = s.trees; is = s.is; whole = refl };
      spelled =
          one_spelled m (constructed tag s.trees) text (w.content, stands m w.spelled, s.spelled);
    }

der_not_ber : Der ≢ Ber
der_not_ber e = let p : Der ≡ Ber = e in cc

one_definite : {a b h k : List ℕ} {t : TagValue} (c : List ℕ) → IsHeader Der h true t (length c)
    → IsHeader Der k true t (length c) → a ≡ h ++ c → b ≡ k ++ c → a ≡ b
one_definite c p q x y = x ∙ ap (λ l. l ++ c) (spelled_header der_not_ber p q) ∙ sym y

one_constructed : (m : Mode) {a b c : List ℕ} {t : TagValue} → IsConstructed (written_as m) a t c
    → IsConstructed (written_as m) b t c → a ≡ b
one_constructed Ber {c = c} (definite d h is whole) (definite e k ks also) =
    one_definite c is ks whole also
one_constructed Ber (definite d h is whole) (indefinite e i tag ks also) = absurd e
one_constructed Ber (indefinite d i tag is whole) q = absurd d
one_constructed Der {c = c} (definite d h is whole) (definite e k ks also) =
    one_definite c is ks whole also
one_constructed Der (definite d h is whole) (indefinite e i tag ks also) = absurd e
one_constructed Der (indefinite d i tag is whole) q = absurd d
one_constructed Cer (definite d h is whole) q = absurd d
one_constructed Cer (indefinite d i tag is whole) (definite e k ks also) = absurd e
one_constructed Cer {c = c} {t = t} (indefinite d i tag is whole) (indefinite e j also js behind) =
    whole ∙ ap (λ l. l ++ (128 ∷ c ++ (0 ∷ 0 ∷ [])))
    (spelled_identifier i j true t is js) ∙ sym behind

pub wrapped_one : (m : Mode) {tag : TagValue} {P : List ℕ → Type 0}
    → ((a b : List ℕ) → P a → P b → a ≡ b) → (a b : List ℕ) → WritesWrapped m tag P a
    → WritesWrapped m tag P b → a ≡ b
wrapped_one m {tag} one a b v w = one_constructed m
    (subst (λ c. IsConstructed (written_as m) a tag c)
    (one v.content w.content v.is w.is) v.spelled) w.spelled
