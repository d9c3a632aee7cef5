-- Digests in words of eight octets.
use Rattle.std.proofs.Common.{◌≡◌, ℕ, ◌+◌, ◌-◌, ◌<◌, ◌≤◌, suc, zero, List, [], ◌∷◌, ◌++◌, length, take, drop, get_or, sym, ap, ◌∙◌, subst, lit<, arith}
use Rattle.std.specs.Int.{from_le_bytes, to_le_bytes, w64}
use Rattle.std.proofs.lemmas.List.{drop-drop, drop_all, length-drop, length-take-le, take-append-drop, take_all}
use Rattle.std.proofs.lemmas.Nat.{le_bytes_8}

-- What holds of the octets, holds of those after some and of those up to some.
drop_small : (n : ℕ) (xs : List ℕ) → ((i : ℕ) → get_or xs i 0 < 256) → (i : ℕ) → get_or (drop n xs) i 0 < 256
drop_small zero xs h = h
drop_small (suc n) [] h = h
drop_small (suc n) (x ∷ xs) h = drop_small n xs (λ i. h (suc i))

take_small : (n : ℕ) (xs : List ℕ) → ((i : ℕ) → get_or xs i 0 < 256) → (i : ℕ) → get_or (take n xs) i 0 < 256
take_small zero xs h i = lit< tt
take_small (suc n) [] h i = h i
take_small (suc n) (x ∷ xs) h zero = h 0
take_small (suc n) (x ∷ xs) h (suc i) = take_small n xs (λ j. h (suc j)) i

-- A word has the octets that it was made of: eight in front of those from its start on.
pub word_octets : (digest octets : List ℕ) (start n : ℕ) → ((i : ℕ) → get_or digest i 0 < 256) → start + 8 ≤ length digest → octets ≡ take 8 (take (length digest - start) (drop start digest)) → n ≡ from_le_bytes w64 octets → to_le_bytes w64 n ≡ take 8 (drop start digest)
word_octets digest octets start n small enough same made =
    let room : length (drop start digest) ≡ length digest - start = length-drop start digest in
    let front : octets ≡ take 8 (drop start digest) = same ∙ ap (take 8) (take_all (length digest - start) (drop start digest) (omega (arith, room))) in
    let long : length octets ≡ 8 = ap length front ∙ length-take-le 8 (drop start digest) (omega (arith, room, enough)) in
    let bytes : (i : ℕ) → get_or octets i 0 < 256 = λ i. subst (λ (xs : List ℕ). get_or xs i 0 < 256) (sym front) (take_small 8 (drop start digest) (drop_small start digest small) i) in
    le_bytes_8 octets n long bytes made ∙ front

step : (i : ℕ) (d : List ℕ) → take 8 (drop i d) ++ drop (i + 8) d ≡ drop i d
step i d = ap (λ (z : List ℕ). take 8 (drop i d) ++ z) (sym (drop-drop 8 i d)) ∙ take-append-drop 8 (drop i d)

-- Four words of eight octets are a digest.
pub four_words : (d a b c e : List ℕ) → length d ≡ 32 → a ≡ take 8 (drop 0 d) → b ≡ take 8 (drop 8 d) → c ≡ take 8 (drop 16 d) → e ≡ take 8 (drop 24 d) → a ++ (b ++ (c ++ (e ++ []))) ≡ d
four_words d a b c e long first second third fourth =
    let behind : e ++ [] ≡ drop 24 d = ap (λ (z : List ℕ). z ++ []) fourth ∙ ap (λ (z : List ℕ). take 8 (drop 24 d) ++ z) (sym (drop_all 32 d (omega arith))) ∙ step 24 d in
    let last : c ++ (e ++ []) ≡ drop 16 d = ap (λ (z : List ℕ). z ++ (e ++ [])) third ∙ ap (λ (z : List ℕ). take 8 (drop 16 d) ++ z) behind ∙ step 16 d in
    let later : b ++ (c ++ (e ++ [])) ≡ drop 8 d = ap (λ (z : List ℕ). z ++ (c ++ (e ++ []))) second ∙ ap (λ (z : List ℕ). take 8 (drop 8 d) ++ z) last ∙ step 8 d in
    ap (λ (z : List ℕ). z ++ (b ++ (c ++ (e ++ [])))) first ∙ ap (λ (z : List ℕ). take 8 (drop 0 d) ++ z) later ∙ step 0 d
