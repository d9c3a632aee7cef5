-- A folder gives one bundle.
use Rattle.std.specs.declared.alloc.Global.{Global}
use Rattle.std.specs.Prelude.{Vec}
use Rattle.std.proofs.Common.{◌≡◌, ℕ, ◌+◌, ◌/◌, ◌%◌, ◌≤◌, ◌⊎◌, inl, inr, Bool, true, false, Option, Some, None, List, [], ◌∷◌, ◌++◌, length, get_or, refl, sym, ap, ◌∙◌, subst, arith}
use Rattle.std.proofs.lemmas.List.Sorted.{IsPermutation-sym, IsPermutation-trans}
use Rattle.std.specs.List.Sorted.{IsPermutation}
use Rattle.rpki_commands.proofs.of_bcder_tree.Unique.{by_length}
use Rattle.rpki_commands.specs.rpki_bundle.declared.parts.Locator.{Locator}
use Rattle.rpki_commands.specs.rpki_bundle.declared.parts.Object.{Object}
use Rattle.rpki_commands.specs.rpki_bundle.declared.parts.Verdict.{Verdict}
use Rattle.rpki_commands.specs.rpki_bundle.declared.version.Version.{Version}
use Rattle.rpki_commands.specs.rpki_bundle.declared.version.Version.TheVariants.{One}
use Rattle.rpki_commands.specs.rpki_bundle.Bundle.{BundleText, BundleValue, verdict_row}
use Rattle.rpki_commands.specs.rpki_bundle.Orders.{Ascends}
use Rattle.rpki_commands.specs.certs_basics.Times.{IsMoment}
use Rattle.rpki_commands.proofs.of_certs_basics.Moments.{one_moment}
use Rattle.rpki_commands.proofs.of_rpki_bundle.OneBundle.{bundle_fields}
use Rattle.rpki_commands.proofs.of_rpki_bundle.Texts.{text_lawful}
use Rattle.rpki_commands.specs.declared.folder.parts.Contents.{Contents}
use Rattle.rpki_commands.specs.declared.folder.parts.Parts.{Parts}
use Rattle.rpki_commands.specs.Lines.{IsEnd, TellsMoment, TellsDepth, TellsFlag, flag_word}
use Rattle.rpki_commands.specs.Verdicts.{TellsVerdicts}
use Rattle.rpki_commands.specs.Folders.{IsSortedOn, TellsParts, TellsVersion, value_of}
use Rattle.rpki_commands.specs.Texts.{TellsText}
use Rattle.rpki_commands.proofs.Moments.{moment_length}
use Rattle.rpki_commands.proofs.Ranks.{one_order}
use Rattle.rpki_commands.proofs.VerdictLines.{one_verdict_front, verdict_shorter}

one_moment_told : {t : List ℕ} {m n : ℕ} → TellsMoment t m → TellsMoment t n → m ≡ n
one_moment_told {t} {m} {n} a b =
    let size : length a.line ≡ length b.line = moment_length a.line m a.line_is ∙ sym (moment_length b.line n b.line_is) in
    let same = by_length a.line b.line a.end b.end size (sym a.whole ∙ b.whole) in
    one_moment a.line m n a.line_is (subst (λ (s : List ℕ). IsMoment s n) (sym same.front) b.line_is)

-- a flag by the first octet of its text
one_flag_told : {t : List ℕ} (a b : Bool) → TellsFlag t a → TellsFlag t b → a ≡ b
one_flag_told true true p q = refl
one_flag_told false false p q = refl
one_flag_told {t} true false p q = let e : get_or (flag_word true ++ p.end) 0 0 ≡ get_or (flag_word false ++ q.end) 0 0 = ap (λ (s : List ℕ). get_or s 0 0) (sym p.whole ∙ q.whole) in absurd (omega arith)
one_flag_told {t} false true p q = let e : get_or (flag_word true ++ q.end) 0 0 ≡ get_or (flag_word false ++ p.end) 0 0 = ap (λ (s : List ℕ). get_or s 0 0) (sym q.whole ∙ p.whole) in absurd (omega arith)

one_version_told : (t : Option (Vec ℕ Global)) (v w : Version) → TellsVersion t v → TellsVersion t w → v ≡ w
one_version_told None v w p q = p ∙ sym q
one_version_told (Some t) v w p q = p.2 ∙ ap (λ (r : Bool). One r) (one_flag_told p.0 q.0 p.1 q.1) ∙ sym q.2

-- a depth by the first two octets of its text
abbrev Shape : List ℕ → ℕ → Type 0
Shape t d =
    ((d ≤ 9) × (get_or t 0 0 ≡ 48 + d) × (get_or t 1 0 ≤ 13))
    ⊎ ((10 ≤ d) × (d ≤ 99) × (get_or t 0 0 ≡ 48 + d / 10) × (get_or t 1 0 ≡ 48 + d % 10))

end_small : (end : List ℕ) → IsEnd end → get_or end 0 0 ≤ 13
end_small end (inl e) = let f : get_or end 0 0 ≡ 0 = ap (λ (s : List ℕ). get_or s 0 0) e in omega (arith, f)
end_small end (inr (inl e)) = let f : get_or end 0 0 ≡ 10 = ap (λ (s : List ℕ). get_or s 0 0) e in omega (arith, f)
end_small end (inr (inr e)) = let f : get_or end 0 0 ≡ 13 = ap (λ (s : List ℕ). get_or s 0 0) e in omega (arith, f)

shape : {t : List ℕ} {d : ℕ} → TellsDepth t d → Shape t d
shape {t} {d} a = elim a.line_is [
  | inl one ↦
      let whole : t ≡ (48 + d) ∷ a.end = a.whole ∙ ap (λ (s : List ℕ). s ++ a.end) one.2 in
      let second : get_or t 1 0 ≡ get_or a.end 0 0 = ap (λ (s : List ℕ). get_or s 1 0) whole in
      inl (one.1, ap (λ (s : List ℕ). get_or s 0 0) whole, omega (arith, second, end_small a.end a.end_is))
  | inr two ↦
      let whole : t ≡ (48 + d / 10) ∷ (48 + d % 10) ∷ a.end = a.whole ∙ ap (λ (s : List ℕ). s ++ a.end) two.2 in
      inr (two.0, two.1, ap (λ (s : List ℕ). get_or s 0 0) whole, ap (λ (s : List ℕ). get_or s 1 0) whole)
]

same_shape : (t : List ℕ) (d e : ℕ) → Shape t d → Shape t e → d ≡ e
same_shape t d e (inl a) (inl b) = omega (arith, a.1, b.1)
same_shape t d e (inl a) (inr b) = absurd (omega (arith, a.2, b.3))
same_shape t d e (inr a) (inl b) = absurd (omega (arith, a.3, b.2))
same_shape t d e (inr a) (inr b) = omega (arith, a.2, a.3, b.2, b.3)

one_depth_told : {t : List ℕ} {d e : ℕ} → TellsDepth t d → TellsDepth t e → d ≡ e
one_depth_told {t} {d} {e} a b = same_shape t d e (shape a) (shape b)

one_list_told : (t : List ℕ) (vs ws : List Verdict) → TellsVerdicts t vs → TellsVerdicts t ws → vs ≡ ws
one_list_told t [] [] a b = refl
one_list_told t [] (w ∷ ws) a b = absurd (omega (arith, verdict_shorter t b.0 w b.1, ap length a))
one_list_told t (v ∷ vs) [] a b = absurd (omega (arith, verdict_shorter t a.0 v a.1, ap length b))
one_list_told t (v ∷ vs) (w ∷ ws) a b =
    let same = one_verdict_front a.1 b.1 in
    let rest = one_list_told a.0 vs ws a.2 (subst (λ (s : List ℕ). TellsVerdicts s ws) (sym same.behind) b.2) in
    let first : v ≡ w = same.value in
    cc

-- one list in two orders, of which one is sorted and one ascends
one_sorted : {X : Type 0} (row : X → List ℕ) (read ys zs : List X) → IsPermutation read ys → IsPermutation read zs → IsSortedOn row ys → Ascends row zs → zs ≡ ys
one_sorted row read ys zs p q s a = sym (one_order row ys zs (IsPermutation-trans ys read zs (IsPermutation-sym read ys p) q) s a)

-- The lists of a bundle that has a text ascend.
abbrev AllAscend : BundleValue → Type 0
AllAscend b = Ascends (λ (l : Locator). l.name) b.locators × Ascends (λ (o : Object). o.uri) b.objects × Ascends verdict_row b.verdicts

all_ascend : {text : List ℕ} {b : BundleValue} → BundleText text b → AllAscend b
all_ascend t = let l = text_lawful t in (l.locators.ascend, l.objects.ascend, l.verdicts.ascend)

-- The bundle of a folder has the parts that the folder gives, sorted.
pub one_told : {c : Contents} {p : Parts} {text : List ℕ} → TellsParts c p → (t : TellsText c text) → t.bundle ≡ value_of p
one_told {c} {p} {text} a t =
    let told = t.told in
    let ascend : AllAscend t.bundle = all_ascend t.text_is in
    let same = one_list_told c.verdicts.items told.verdicts a.told.verdicts told.verdicts_are a.told.verdicts_are in
    let again : IsPermutation a.told.verdicts t.bundle.verdicts = subst (λ (vs : List Verdict). IsPermutation vs t.bundle.verdicts) same told.same_verdicts in
    bundle_fields t.bundle (value_of p)
    (one_version_told c.relaxed t.bundle.version p.version told.version_is a.told.version_is)
    (one_moment_told told.moment_is a.told.moment_is)
    (one_depth_told told.depth_is a.told.depth_is)
    (one_sorted (λ l. l.name) c.locators.items p.locators.items t.bundle.locators a.told.same_locators told.same_locators a.locators_sorted ascend.0)
    (one_sorted (λ o. o.uri) c.objects.items p.objects.items t.bundle.objects a.told.same_objects told.same_objects a.objects_sorted ascend.1)
    (one_sorted verdict_row a.told.verdicts p.verdicts.items t.bundle.verdicts a.told.same_verdicts again a.verdicts_sorted ascend.2)
