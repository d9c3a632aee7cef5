-- The characters of a text, one by one.
use Rattle.std.proofs.Common.{◌≡◌, ℕ, ◌≤◌, Option, Some, None, List, [], ◌∷◌, ◌++◌, length, sym, ap, ◌∙◌, append_assoc}
use Rattle.std.specs.Prelude.{IfSome, IfNone, encode_utf8, encode_utf8_all}
use denote.Bor.{Bor}
use Rattle.std.proofs.lemmas.List.Elements.{All-nil, All-cons}
use Rattle.bcder.specs.Texts.{Tells, IsText, Starts, HasOneStart}
use Rattle.bcder.proofs.Checks.{text_less}

-- The characters that octets state are answered.
abbrev pub Told : (ℕ → Type 0) → (ℕ → List ℕ) → (List ℕ → List ℕ) → Type 0
Told Has spell chars_of = (octets text : List ℕ) → Tells Has spell octets text → chars_of octets ≡ text

-- No octets tell no character.
pub none_left : {Has : ℕ → Type 0} {spell : ℕ → List ℕ} {chars_of : List ℕ → List ℕ} → Told Has spell chars_of → (octets : List ℕ) → octets ≡ [] → chars_of octets ≡ []
none_left {Has} told octets e = told octets [] (record { has = All-nil Has; spelled = sym e })

-- The character in front of a text, and those after it.
pub first_left : {Has : ℕ → Type 0} {spell : ℕ → List ℕ} {chars_of : List ℕ → List ℕ} → Told Has spell chars_of → ((d : ℕ) → Has d → 1 ≤ length (spell d)) → HasOneStart Has spell → (octets behind : List ℕ) (c : ℕ) → Starts Has spell octets c behind → IsText Has spell octets → chars_of octets ≡ c ∷ chars_of behind
first_left {Has} {spell} told some one octets behind c s t =
    let rest = text_less octets behind c some one s t in
    told octets (c ∷ rest.chars) (record { has = All-cons Has c rest.chars s.has rest.tells.has; spelled = ap (λ (l : List ℕ). spell c ++ l) rest.tells.spelled ∙ sym s.spelled })
    ∙ ap (λ (l : List ℕ). c ∷ l) (sym (told behind rest.chars rest.tells))

-- A character that was found in front, and those after it; or none.

pub first_found : {Has : ℕ → Type 0} {spell : ℕ → List ℕ} {chars_of : List ℕ → List ℕ} → Told Has spell chars_of → ((d : ℕ) → Has d → 1 ≤ length (spell d)) → HasOneStart Has spell → (octets : List ℕ) → IsText Has spell octets → (found : Option (ℕ × Bor (List ℕ))) → IfSome found (λ p. Starts Has spell octets p.0 p.1.now) → IfSome found (λ p. chars_of octets ≡ p.0 ∷ chars_of p.1.now)
first_found told some one octets t (Some p) s = first_left told some one octets p.1.now p.0 s t
first_found told some one octets t None s = tt

pub rest_found : {Has : ℕ → Type 0} {spell : ℕ → List ℕ} → ((d : ℕ) → Has d → 1 ≤ length (spell d)) → HasOneStart Has spell → (octets : List ℕ) → IsText Has spell octets → (found : Option (ℕ × Bor (List ℕ))) → IfSome found (λ p. Starts Has spell octets p.0 p.1.now) → IfSome found (λ p. IsText Has spell p.1.now)
rest_found some one octets t (Some p) s = text_less octets p.1.now p.0 some one s t
rest_found some one octets t None s = tt

pub none_found : {Has : ℕ → Type 0} {spell : ℕ → List ℕ} {chars_of : List ℕ → List ℕ} → Told Has spell chars_of → (octets : List ℕ) → (found : Option (ℕ × Bor (List ℕ))) → IfNone found (octets ≡ []) → IfNone found (chars_of octets ≡ [])
none_found told octets (Some p) e = tt
none_found told octets None e = none_left told octets e

-- The characters of a text tell its octets.
pub text_tells : {Has : ℕ → Type 0} {spell : ℕ → List ℕ} {chars_of : List ℕ → List ℕ} → Told Has spell chars_of → (octets : List ℕ) → IsText Has spell octets → Tells Has spell octets (chars_of octets)
text_tells told octets t = rw (told octets t.chars t.tells) t.tells

-- One more character is written.
pub one_more : (text start left rest : List ℕ) (c : ℕ) → text ++ encode_utf8_all left ≡ encode_utf8_all start → left ≡ c ∷ rest → (text ++ encode_utf8 c) ++ encode_utf8_all rest ≡ encode_utf8_all start
one_more text start left rest c e f = append_assoc text (encode_utf8 c) (encode_utf8_all rest) ∙ ap (λ (z : List ℕ). text ++ encode_utf8_all z) (sym f) ∙ e
