-- Texts that are read character by character.
use Rattle.std.proofs.Common.{◌≡◌, ℕ, ◌≤◌, ◌<◌, Option, Some, None, List, [], ◌∷◌, ◌++◌, length, refl, sym, ap, ◌∙◌, arith}
use Rattle.std.specs.Prelude.{flat_map, IfNone, OnErr, Result, Ok, Err}
use Rattle.std.proofs.lemmas.List.{length-append}
use Rattle.std.proofs.lemmas.List.Elements.{All-nil, All-cons, All-head, All-tail}
use Rattle.bcder.specs.Texts.{Tells, IsText, Starts, NoStart, HasOneStart}

-- No octets are the text with no characters.
pub no_text : {Has : ℕ → Type 0} {spell : ℕ → List ℕ} (octets : List ℕ) → octets ≡ [] → IsText Has spell octets
no_text {Has} octets e = record { chars = []; tells = record { has = All-nil Has; spelled = sym e } }

-- A character in front of a text makes a text.
pub text_more : {Has : ℕ → Type 0} {spell : ℕ → List ℕ} (octets behind : List ℕ) (c : ℕ) → Starts Has spell octets c behind → IsText Has spell behind → IsText Has spell octets
text_more {Has} {spell} octets behind c s t = record {
  chars = c ∷ t.chars;
  tells = record { has = All-cons Has c t.chars s.has t.tells.has; spelled = ap (λ (l : List ℕ). spell c ++ l) t.tells.spelled ∙ sym s.spelled };
}

first_of_text : {Has : ℕ → Type 0} {spell : ℕ → List ℕ} (octets : List ℕ) (c : ℕ) (cs : List ℕ) → Tells Has spell octets (c ∷ cs) → Starts Has spell octets c (flat_map spell cs)
first_of_text {Has} octets c cs t = record { has = All-head Has c cs t.has; spelled = sym t.spelled }

-- What comes after the first character of a text is a text.
pub text_less : {Has : ℕ → Type 0} {spell : ℕ → List ℕ} (octets behind : List ℕ) (c : ℕ) → ((d : ℕ) → Has d → 1 ≤ length (spell d)) → HasOneStart Has spell → Starts Has spell octets c behind → IsText Has spell octets → IsText Has spell behind
text_less {Has} {spell} octets behind c some one s t = at t.chars t.tells
  where
    at : (chars : List ℕ) → Tells Has spell octets chars → IsText Has spell behind
    at [] u =
        let e : spell c ++ behind ≡ [] = sym (u.spelled ∙ s.spelled) in
        let long : length (spell c ++ behind) ≡ 0 = ap length e in
        absurd (omega (arith, length-append (spell c) behind, some c s.has))
    at (d ∷ ds) u = record {
      chars = ds;
      tells = record { has = All-tail Has d ds u.has; spelled = one.behind octets d c (flat_map spell ds) behind (first_of_text octets d ds u) s };
    }

-- Octets with no character in front are no text.
pub text_none : {Has : ℕ → Type 0} {spell : ℕ → List ℕ} (octets : List ℕ) → NoStart Has spell octets → IsText Has spell octets → ⊥
text_none {Has} {spell} octets n t = at t.chars t.tells
  where
    at : (chars : List ℕ) → Tells Has spell octets chars → ⊥
    at [] u = n.some (sym u.spelled)
    at (d ∷ ds) u = n.none d (flat_map spell ds) (first_of_text octets d ds u)

-- What comes after a character is shorter.
pub shorter : {Has : ℕ → Type 0} {spell : ℕ → List ℕ} (octets behind : List ℕ) (c : ℕ) → ((d : ℕ) → Has d → 1 ≤ length (spell d)) → Starts Has spell octets c behind → length behind < length octets
shorter {Has} {spell} octets behind c some s = omega (arith, length-append (spell c) behind, ap length s.spelled, some c s.has)

-- What holds, holds where there is no value.
pub if_none : {A P : Type 0} (o : Option A) → P → IfNone o P
if_none None h = h
if_none (Some x) h = tt

-- What holds, holds at a refusal.
pub on_err : {A E P : Type 0} (r : Result A E) → P → OnErr r P
on_err (Ok x) h = tt
on_err (Err e) h = h

no_more : {Has : ℕ → Type 0} {spell : ℕ → List ℕ} → ((d : ℕ) → Has d → 1 ≤ length (spell d)) → (octets : List ℕ) (c : ℕ) (cs : List ℕ) → Tells Has spell octets [] → Tells Has spell octets (c ∷ cs) → ⊥
no_more {Has} {spell} some octets c cs t u =
    let e : spell c ++ flat_map spell cs ≡ [] = u.spelled ∙ sym t.spelled in
    let long : length (spell c ++ flat_map spell cs) ≡ 0 = ap length e in
    omega (arith, length-append (spell c) (flat_map spell cs), some c (All-head Has c cs u.has))

-- Octets tell one list of characters.
pub one_chars : {Has : ℕ → Type 0} {spell : ℕ → List ℕ} → ((d : ℕ) → Has d → 1 ≤ length (spell d)) → HasOneStart Has spell → (octets a b : List ℕ) → Tells Has spell octets a → Tells Has spell octets b → a ≡ b
one_chars some one octets [] [] t u = refl
one_chars some one octets [] (d ∷ ds) t u = absurd (no_more some octets d ds t u)
one_chars some one octets (c ∷ cs) [] t u = absurd (no_more some octets c cs u t)
one_chars {Has} {spell} some one octets (c ∷ cs) (d ∷ ds) t u =
    let s = first_of_text octets c cs t in
    let r = first_of_text octets d ds u in
    let head : c ≡ d = one.char octets c d (flat_map spell cs) (flat_map spell ds) s r in
    let tail : cs ≡ ds = one_chars some one (flat_map spell cs) cs ds
    (record { has = All-tail Has c cs t.has; spelled = refl })
    (record { has = All-tail Has d ds u.has; spelled = one.behind octets d c (flat_map spell ds) (flat_map spell cs) r s }) in
    cc
