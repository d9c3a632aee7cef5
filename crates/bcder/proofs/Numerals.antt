-- Texts of components.
use Rattle.std.proofs.Common.{◌≡◌, ◌≢◌, ℕ, ◌<◌, List, [], ◌∷◌, sym, ◌∙◌, subst, inl, inr, arith}
use Rattle.std.specs.Char.{digit_value}
use Rattle.std.specs.Str.Parse.{AllDigits, without_leading_plus}
use Rattle.std.proofs.Math.Nat.{eq-or-lt_of_le}
use Rattle.std.proofs.lemmas.Bool.{cases_lt}
use Rattle.std.proofs.lemmas.List.Elements.{All-nil, All-cons}
use Rattle.std.proofs.lemmas.Str.Parse.{without_leading_plus_none}
use Rattle.bcder.specs.OidTexts.{IsComponentText, LacksDot}

-- A text states one number.
pub one_number : {text : List ℕ} {n m : ℕ} → IsComponentText text n → IsComponentText text m → n ≡ m
one_number a b = sym a.value ∙ b.value

-- Digits have no dot.
digit_no_dot : (c : ℕ) → digit_value c < 10 → c ≢ 46
digit_no_dot c d e = let h : digit_value 46 < 10 = subst (λ (z : ℕ). digit_value z < 10) e d in omega arith

digits_lack : (ds : List ℕ) → AllDigits 10 ds → LacksDot ds
digits_lack [] h = All-nil (λ a. a ≢ 46)
digits_lack (c ∷ cs) h = All-cons (λ a. a ≢ 46) c cs (digit_no_dot c h.0) (digits_lack cs h.1)

-- Nor have they with a plus in front.
plus_lacks : (c : ℕ) (cs : List ℕ) → c ≡ 43 → AllDigits 10 (without_leading_plus (c ∷ cs)) → LacksDot (c ∷ cs)
plus_lacks c cs e h =
    let d : AllDigits 10 (without_leading_plus (43 ∷ cs)) = subst (λ (z : ℕ). AllDigits 10 (without_leading_plus (z ∷ cs))) e h in
    All-cons (λ a. a ≢ 46) c cs (λ f. let g : 43 ≡ 46 = sym e ∙ f in omega arith) (digits_lack cs d)

others_lack : (c : ℕ) (cs : List ℕ) → (c ≡ 43 → ⊥) → AllDigits 10 (without_leading_plus (c ∷ cs)) → LacksDot (c ∷ cs)
others_lack c cs other h = digits_lack (c ∷ cs) (subst (λ (z : List ℕ). AllDigits 10 z) (without_leading_plus_none (c ∷ cs) other) h)

lacks : (text : List ℕ) → AllDigits 10 (without_leading_plus text) → LacksDot text
lacks [] h = All-nil (λ a. a ≢ 46)
lacks (c ∷ cs) h =
    elim (cases_lt c 43) [
      | inl l ↦ others_lack c cs (λ e. omega arith) h
      | inr g ↦ elim (eq-or-lt_of_le g) [ inl e ↦ plus_lacks c cs (sym e) h | inr m ↦ others_lack c cs (λ e. omega arith) h ]
    ]

pub no_dot : {text : List ℕ} {n : ℕ} → IsComponentText text n → LacksDot text
no_dot {text} t = lacks text t.numeral.1
