-- Arguments as the words of a question.
use Rattle.std.proofs.Common.{◌≡◌, ℕ, Bool, true, false, List, [], ◌∷◌, ◌++◌, codes, sym, ap, ◌∙◌, refl, subst, arith}
use Rattle.std.specs.Str.{bytes_eq}
use Rattle.std.proofs.lemmas.Slice.Eq.{bytes_eq-Decides}
use Rattle.rpki_questions.specs.Requests.{AreWords, Asked, AsksFor, Cost, IsAskedBy, IsOf, Judge, Reach, Refusals, Why, flag_of}

head : List ℕ → ℕ
head [] = 0
head (n ∷ ns) = n

third : List ℕ → ℕ
third [] = 0
third (k ∷ []) = 0
third (k ∷ m ∷ []) = 0
third (k ∷ m ∷ n ∷ ns) = n

-- A word that a test finds to be this one is it, and else it is another.
pub is_word : (text word : List ℕ) → true ≡ bytes_eq text word → text ≡ word
is_word text word q = (bytes_eq-Decides text word).0 (sym q)

pub no_word : (text word : List ℕ) → false ≡ bytes_eq text word → text ≡ word → ⊥
no_word text word q e = let both : false ≡ true = q ∙ (bytes_eq-Decides text word).1 e in absurd cc

-- Where words behind a verb ask no question of the verb's kind, they ask none.
pub none_judged : (words : List (List ℕ)) → ((locator object : List ℕ) (chain : List (List ℕ)) → AreWords (Judge locator object chain) words → ⊥)
    → (asked : Asked) → IsOf (codes "judge") words asked → ⊥
unfolding head
none_judged words none (Judge locator object chain) a = none locator object chain a.words_are
none_judged words none (Reach uris) a = let e : 114 ≡ 106 = ap head a.verb_is in absurd (omega (arith, e))
none_judged words none (Why uri) a = let e : 119 ≡ 106 = ap head a.verb_is in absurd (omega (arith, e))
none_judged words none Refusals a = let e : 114 ≡ 106 = ap head a.verb_is in absurd (omega (arith, e))
none_judged words none (Cost limit) a = let e : 99 ≡ 106 = ap head a.verb_is in absurd (omega (arith, e))

pub none_reached : (words : List (List ℕ)) → ((uris : List (List ℕ)) → AreWords (Reach uris) words → ⊥)
    → (asked : Asked) → IsOf (codes "reach") words asked → ⊥
unfolding head third
none_reached words none (Judge locator object chain) a = let e : 106 ≡ 114 = ap head a.verb_is in absurd (omega (arith, e))
none_reached words none (Reach uris) a = none uris a.words_are
none_reached words none (Why uri) a = let e : 119 ≡ 114 = ap head a.verb_is in absurd (omega (arith, e))
none_reached words none Refusals a = let e : 102 ≡ 97 = ap third a.verb_is in absurd (omega (arith, e))
none_reached words none (Cost limit) a = let e : 99 ≡ 114 = ap head a.verb_is in absurd (omega (arith, e))

pub none_told : (words : List (List ℕ)) → ((uri : List ℕ) → AreWords (Why uri) words → ⊥)
    → (asked : Asked) → IsOf (codes "why") words asked → ⊥
unfolding head
none_told words none (Judge locator object chain) a = let e : 106 ≡ 119 = ap head a.verb_is in absurd (omega (arith, e))
none_told words none (Reach uris) a = let e : 114 ≡ 119 = ap head a.verb_is in absurd (omega (arith, e))
none_told words none (Why uri) a = none uri a.words_are
none_told words none Refusals a = let e : 114 ≡ 119 = ap head a.verb_is in absurd (omega (arith, e))
none_told words none (Cost limit) a = let e : 99 ≡ 119 = ap head a.verb_is in absurd (omega (arith, e))

pub none_counted : (words : List (List ℕ)) → ((limit : ℕ) → AreWords (Cost limit) words → ⊥)
    → (asked : Asked) → IsOf (codes "cost") words asked → ⊥
unfolding head
none_counted words none (Judge locator object chain) a = let e : 106 ≡ 99 = ap head a.verb_is in absurd (omega (arith, e))
none_counted words none (Reach uris) a = let e : 114 ≡ 99 = ap head a.verb_is in absurd (omega (arith, e))
none_counted words none (Why uri) a = let e : 119 ≡ 99 = ap head a.verb_is in absurd (omega (arith, e))
none_counted words none Refusals a = let e : 114 ≡ 99 = ap head a.verb_is in absurd (omega (arith, e))
none_counted words none (Cost limit) a = none limit a.words_are

pub none_refused : (words : List (List ℕ)) → (AreWords Refusals words → ⊥) → (asked : Asked) → IsOf (codes "refusals") words asked → ⊥
unfolding head third
none_refused words none (Judge locator object chain) a = let e : 106 ≡ 114 = ap head a.verb_is in absurd (omega (arith, e))
none_refused words none (Reach uris) a = let e : 97 ≡ 102 = ap third a.verb_is in absurd (omega (arith, e))
none_refused words none (Why uri) a = let e : 119 ≡ 114 = ap head a.verb_is in absurd (omega (arith, e))
none_refused words none Refusals a = none a.words_are
none_refused words none (Cost limit) a = let e : 99 ≡ 114 = ap head a.verb_is in absurd (omega (arith, e))

-- Another verb asks nothing,
pub none_of : (verb : List ℕ) (words : List (List ℕ)) → (verb ≡ codes "judge" → ⊥) → (verb ≡ codes "reach" → ⊥) → (verb ≡ codes "why" → ⊥) → (verb ≡ codes "refusals" → ⊥) → (verb ≡ codes "cost" → ⊥)
    → (asked : Asked) → IsOf verb words asked → ⊥
none_of verb words judge reach why refusals cost (Judge locator object chain) a = judge (sym a.verb_is)
none_of verb words judge reach why refusals cost (Reach uris) a = reach (sym a.verb_is)
none_of verb words judge reach why refusals cost (Why uri) a = why (sym a.verb_is)
none_of verb words judge reach why refusals cost Refusals a = refusals (sym a.verb_is)
none_of verb words judge reach why refusals cost (Cost limit) a = cost (sym a.verb_is)

-- `--json` among them.
no_flag : (words : List (List ℕ)) (asked : Asked) → IsOf (codes "--json") words asked → ⊥
unfolding head
no_flag words (Judge locator object chain) a = let e : 106 ≡ 45 = ap head a.verb_is in absurd (omega (arith, e))
no_flag words (Reach uris) a = let e : 114 ≡ 45 = ap head a.verb_is in absurd (omega (arith, e))
no_flag words (Why uri) a = let e : 119 ≡ 45 = ap head a.verb_is in absurd (omega (arith, e))
no_flag words Refusals a = let e : 114 ≡ 45 = ap head a.verb_is in absurd (omega (arith, e))
no_flag words (Cost limit) a = let e : 99 ≡ 45 = ap head a.verb_is in absurd (omega (arith, e))

-- Words that ask something begin with a verb, behind which they ask that.
pub asked_behind : (words : List (List ℕ)) (verb : List ℕ) (others : List (List ℕ)) → words ≡ verb ∷ others
    → ((asked : Asked) → IsOf verb others asked → ⊥) → (asked : Asked) → IsAskedBy words asked → ⊥
asked_behind words verb others e none asked a =
    let both : a.verb ∷ a.others ≡ verb ∷ others = sym a.words_are ∙ e in
    let first : a.verb ≡ verb = cc in
    let rest : a.others ≡ others = cc in
    none asked (subst (λ (v : List ℕ). IsOf v others asked) first (subst (λ (ws : List (List ℕ)). IsOf a.verb ws asked) rest a.is_of))

-- The words behind the program's name, of which those behind the flag ask nothing.
none_flagged : (words question : List (List ℕ)) (json : Bool) → words ≡ flag_of json ++ question
    → (json ≡ false → (others : List (List ℕ)) → words ≡ codes "--json" ∷ others → ⊥)
    → ((asked : Asked) → IsAskedBy question asked → ⊥)
    → (wanted : Bool) (others : List (List ℕ)) (asked : Asked) → words ≡ flag_of wanted ++ others → IsAskedBy others asked → ⊥
none_flagged words question true e other none true others asked f a =
    let both : codes "--json" ∷ others ≡ codes "--json" ∷ question = sym f ∙ e in
    let rest : others ≡ question = cc in
    none asked (subst (λ (ws : List (List ℕ)). IsAskedBy ws asked) rest a)
none_flagged words question true e other none false others asked f a =
    asked_behind others (codes "--json") question (sym f ∙ e) (no_flag question) asked a
none_flagged words question false e other none true others asked f a = other refl others f
none_flagged words question false e other none false others asked f a =
    let rest : others ≡ question = sym f ∙ e in
    none asked (subst (λ (ws : List (List ℕ)). IsAskedBy ws asked) rest a)

pub none_for : (arguments words question : List (List ℕ)) (program : List ℕ) (json : Bool) → arguments ≡ program ∷ words → words ≡ flag_of json ++ question
    → (json ≡ false → (others : List (List ℕ)) → words ≡ codes "--json" ∷ others → ⊥)
    → ((asked : Asked) → IsAskedBy question asked → ⊥)
    → (wanted : Bool) (asked : Asked) → AsksFor arguments wanted asked → ⊥
none_for arguments words question program json ea ew other none wanted asked a =
    let both : a.program ∷ (flag_of wanted ++ a.question) ≡ program ∷ words = sym a.words_are ∙ ea in
    let rest : flag_of wanted ++ a.question ≡ words = cc in
    none_flagged words question json ew other none wanted a.question asked (sym rest) a.asks
