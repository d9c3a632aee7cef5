-- That what is written of a primitive value spells it, and is always the same.
use Rattle.std.proofs.Common.{◌≡◌, ◌≢◌, ℕ, List, ◌++◌, refl, sym, ap, ◌∙◌, subst}
use Rattle.bcder_values.specs.bcder_tree.declared.mode.Mode.{Mode}
use Rattle.bcder_values.specs.bcder_tree.declared.mode.Mode.TheVariants.{Ber, Cer, Der}
use Rattle.bcder_values.specs.bcder_tree.Tags.{TagValue}
use Rattle.bcder_values.specs.bcder_tree.Tree.{primitive, none, more, IsPrimitive}
use Rattle.bcder_content.proofs.of_bcder_tree.Modes.{ber_header}
use Rattle.bcder_content.proofs.of_bcder_tree.Canonical.{spelled_header}
use Rattle.bcder_values.specs.bcder_primitive.Encoded.{written_as, IsPlain, WritesPlain, SpellsSome}
use Rattle.bcder_values.specs.Wraps.{one_spelled}

-- The form that is written stands in the mode.
stands : (m : Mode) {text content : List ℕ} {t : TagValue}
    → IsPrimitive (written_as m) text t content → IsPrimitive m text t content
stands Ber p = record { header = p.header; header_is = ber_header p.header_is; whole = p.whole }
stands Cer p = p
stands Der p = p

pub plain_spelled : (m : Mode) {tag : TagValue} {P : List ℕ → Type 0} (text : List ℕ)
    → WritesPlain m tag P text → SpellsSome m (IsPlain tag P) text
plain_spelled m {tag} text w = record {
  trees = more (primitive tag w.content) none;
  is = record { content = w.content; is = w.is; whole = refl };
  spelled = one_spelled m (primitive tag w.content) text (stands m w.spelled);
}

not_ber : (m : Mode) → written_as m ≢ Ber
not_ber Ber e = cc
not_ber Cer e = cc
not_ber Der e = cc

pub plain_one : (m : Mode) {tag : TagValue} {P : List ℕ → Type 0}
    → ((a b : List ℕ) → P a → P b → a ≡ b) → (a b : List ℕ) → WritesPlain m tag P a
    → WritesPlain m tag P b → a ≡ b
plain_one m {tag} one a b v w =
    let same = one v.content w.content v.is w.is in
    let p : IsPrimitive (written_as m) a tag w.content =
    subst (λ c. IsPrimitive (written_as m) a tag c) same v.spelled in
    p.whole ∙ ap (λ l. l ++ w.content) (spelled_header
    (not_ber m) p.header_is w.spelled.header_is) ∙ sym w.spelled.whole
