-- Arguments as words, of which the second names a command.
use Rattle.std.proofs.Common.{◌≡◌, ℕ, ◌<◌, ◌≤◌, true, false, List, [], ◌∷◌, length, map, get_or, codes, None, sym, ap, ◌∙◌, arith}
use Rattle.std.specs.Str.{bytes_eq}
use Rattle.std.proofs.lemmas.List.{length-map}
use Rattle.std.proofs.lemmas.Slice.Eq.{bytes_eq-Decides}
use Rattle.std.proofs.lemmas.Bool.Decides.{not_from_Decides}
use Rattle.rpki_commands.specs.Arguments.{Asks}

-- Two words, the second of which a test finds to be the command.
pub two_words : {A : Type 0} (f : A → List ℕ) (xs : List A) (x : A) (text command : List ℕ) → 2 ≤ length xs → length xs < 3 → x ≡ get_or xs 1 x → text ≡ f x → true ≡ bytes_eq text command → (program : List ℕ) × (map f xs ≡ program ∷ command ∷ [])
two_words f [] x text command low high e t q = absurd (omega arith)
two_words f (a ∷ []) x text command low high e t q = absurd (omega arith)
two_words f (a ∷ b ∷ []) x text command low high e t q =
    let word : f b ≡ command = ap f (sym e) ∙ sym t ∙ (bytes_eq-Decides text command).0 (sym q) in
    (f a, ap (λ (w : List ℕ). f a ∷ w ∷ []) word)
two_words f (a ∷ b ∷ d ∷ xs) x text command low high e t q = absurd (omega arith)

-- Three words, the second of which a test finds to be the command.
pub three_words : {A : Type 0} (f : A → List ℕ) (xs : List A) (x y : A) (text last command : List ℕ) → 3 ≤ length xs → length xs < 4 → x ≡ get_or xs 1 x → y ≡ get_or xs 2 y → text ≡ f x → last ≡ f y → true ≡ bytes_eq text command → (program : List ℕ) × (map f xs ≡ program ∷ command ∷ last ∷ [])
three_words f [] x y text last command low high e g t k q = absurd (omega arith)
three_words f (a ∷ []) x y text last command low high e g t k q = absurd (omega arith)
three_words f (a ∷ b ∷ []) x y text last command low high e g t k q = absurd (omega arith)
three_words f (a ∷ b ∷ d ∷ []) x y text last command low high e g t k q =
    let word : f b ≡ command = ap f (sym e) ∙ sym t ∙ (bytes_eq-Decides text command).0 (sym q) in
    let end : f d ≡ last = ap f (sym g) ∙ sym k in
    (f a, ap (λ (w : List ℕ). f a ∷ w ∷ f d ∷ []) word ∙ ap (λ (w : List ℕ). f a ∷ command ∷ w ∷ []) end)
three_words f (a ∷ b ∷ d ∷ h ∷ xs) x y text last command low high e g t k q = absurd (omega arith)

-- The second word.
second : {A : Type 0} (f : A → List ℕ) (xs : List A) (x : A) (program word : List ℕ) (rest : List (List ℕ)) → map f xs ≡ program ∷ word ∷ rest → x ≡ get_or xs 1 x → f x ≡ word
second f [] x program word rest e i = absurd cc
second f (a ∷ []) x program word rest e i = absurd cc
second f (a ∷ b ∷ xs) x program word rest e i = let h : f b ≡ word = cc in ap f i ∙ h

-- What a test doesn't find to be the command isn't the command.
no_word : {A : Type 0} (f : A → List ℕ) (xs : List A) (x : A) (text command : List ℕ) → x ≡ get_or xs 1 x → text ≡ f x → false ≡ bytes_eq text command → (program : List ℕ) (rest : List (List ℕ)) → map f xs ≡ program ∷ command ∷ rest → ⊥
no_word f xs x text command i t q program rest e = not_from_Decides (bytes_eq text command) (bytes_eq-Decides text command) (sym q) (t ∙ second f xs x program command rest e i)

lengths : {A : Type 0} (f : A → List ℕ) (xs : List A) (words : List (List ℕ)) → map f xs ≡ words → length xs ≡ length words
lengths f xs words e = sym (length-map xs f) ∙ ap length e

-- Neither two words nor three ask for nothing,
pub none_by_length : {A : Type 0} (f : A → List ℕ) (xs : List A) → (length xs ≡ 2 → ⊥) → (length xs ≡ 3 → ⊥) → Asks (map f xs) None
none_by_length f xs two three = (λ w. two (lengths f xs (w.0 ∷ codes "check" ∷ []) w.1), λ folder w. three (lengths f xs (w.0 ∷ codes "bundle" ∷ folder ∷ []) w.1))

-- nor do two of which the second isn't `check`,
pub none_at_two : {A : Type 0} (f : A → List ℕ) (xs : List A) (x : A) (text : List ℕ) → length xs < 3 → x ≡ get_or xs 1 x → text ≡ f x → false ≡ bytes_eq text (codes "check") → Asks (map f xs) None
none_at_two f xs x text high i t q = (
  λ w. no_word f xs x text (codes "check") i t q w.0 [] w.1,
  λ folder w. let size : length xs ≡ 3 = lengths f xs (w.0 ∷ codes "bundle" ∷ folder ∷ []) w.1 in omega arith,
)

-- nor three of which it isn't `bundle`.
pub none_at_three : {A : Type 0} (f : A → List ℕ) (xs : List A) (x : A) (text : List ℕ) → 3 ≤ length xs → x ≡ get_or xs 1 x → text ≡ f x → false ≡ bytes_eq text (codes "bundle") → Asks (map f xs) None
none_at_three f xs x text low i t q = (
  λ w. let size : length xs ≡ 2 = lengths f xs (w.0 ∷ codes "check" ∷ []) w.1 in omega arith,
  λ folder w. no_word f xs x text (codes "bundle") i t q w.0 (folder ∷ []) w.1,
)
