-- Paths of URIs: slashes at the end, folders, and what comes after slashes.
use Rattle.std.proofs.Common.{◌≡◌, ◌≢◌, ℕ, suc, ◌+◌, ◌<◌, ◌≤◌, ◌==◌, ◌||◌, Bool, true, false, cond, not, List, [], ◌∷◌, ◌++◌, take, drop, length, get_or, All, refl, sym, ap, ◌∙◌, subst, arith, eqb-true, append_assoc, take-append-drop, if◌then◌else◌, length-drop}
use Rattle.std.proofs.lemmas.Bool.{cond-true, cond-false, cond_both, ne_eqb}
use Rattle.std.proofs.lemmas.List.{drop_more, take_more, get_or-drop}
use Rattle.std.proofs.lemmas.List.Elements.{All-head, All-tail, All-from_get_or}
use Rattle.certs_basics.specs.Paths.{ends_with_slash, join, behind_slashes, without_slash, has_slash, to_last_slash}
use Rattle.certs_basics.proofs.UriTexts.{segment_len}

-- A slash at the end is dropped.
pub without_slash-push : (text : List ℕ) → without_slash (text ++ 47 ∷ []) ≡ text
without_slash-push [] = refl
without_slash-push (c ∷ []) = refl
without_slash-push (c ∷ d ∷ text) = ap (λ t. c ∷ t) (without_slash-push (d ∷ text))

-- Where no slash is at the end, none is dropped.
pub without_slash-none : (text : List ℕ) → ((front : List ℕ) → text ≢ front ++ 47 ∷ []) → without_slash text ≡ text
without_slash-none [] h = refl
without_slash-none (c ∷ []) h =
    cond_both (c == 47) [] (c ∷ []) (λ t. t ≡ c ∷ []) (λ e. absurd (h [] (ap (λ n. n ∷ []) (eqb-true c 47 e)))) (λ _. refl)
without_slash-none (c ∷ d ∷ text) h =
    ap (λ t. c ∷ t) (without_slash-none (d ∷ text) (λ front e. h (c ∷ front) (ap (λ t. c ∷ t) e)))

-- A text with one slash at its end, where it has none yet.
folder-slash : (uri : List ℕ) → (if ends_with_slash uri then uri else uri ++ 47 ∷ []) ≡ without_slash uri ++ 47 ∷ []
folder-slash [] = refl
folder-slash (c ∷ []) =
    let P : Bool → Type 0 = λ b. (b ≡ true → c ≡ 47) → (if b then c ∷ [] else c ∷ 47 ∷ []) ≡ (if b then [] else c ∷ []) ++ 47 ∷ [] in
    (elim (c == 47) as P [
      | true ↦ λ h. ap (λ n. n ∷ []) (h refl)
      | false ↦ λ h. refl
    ]) (eqb-true c 47)
folder-slash (c ∷ d ∷ text) =
    let whole = c ∷ d ∷ text in
    let back = without_slash (d ∷ text) ++ 47 ∷ [] in
    let P : Bool → Type 0 = λ b. (if b then d ∷ text else d ∷ text ++ 47 ∷ []) ≡ back → (if b then whole else whole ++ 47 ∷ []) ≡ c ∷ back in
    (elim (ends_with_slash (d ∷ text)) as P [
      | true ↦ λ h. ap (λ t. c ∷ t) h
      | false ↦ λ h. ap (λ t. c ∷ t) h
    ]) (folder-slash (d ∷ text))

-- A name is joined to the text without its last slash, after a slash.
pub join-is : (uri name : List ℕ) → join uri name ≡ without_slash uri ++ 47 ∷ name
join-is uri name = ap (λ t. t ++ name) (folder-slash uri) ∙ append_assoc (without_slash uri) (47 ∷ []) name

-- After no slash comes all of the text.
pub behind-zero : (text : List ℕ) → behind_slashes 0 text ≡ text
behind-zero [] = refl
behind-zero (c ∷ text) = refl

-- After the first slash comes what is left from its place on.
pub behind-one : (text : List ℕ) → behind_slashes 1 text ≡ drop (segment_len text + 1) text
behind-one [] = refl
behind-one (c ∷ text) =
    let more : suc (segment_len text + 1) ≡ 1 + segment_len text + 1 = omega arith in
    elim (c == 47) as (λ b. (if b then behind_slashes 0 text else behind_slashes 1 text) ≡ drop (cond (not b) (1 + segment_len text) 0 + 1) (c ∷ text)) [
      | true ↦ behind-zero text
      | false ↦ behind-one text ∙ ap (λ m. drop m (c ∷ text)) more
    ]

-- Slashes are passed one by one.
pub behind-suc : (n : ℕ) (text : List ℕ) → behind_slashes (suc n) text ≡ behind_slashes n (behind_slashes 1 text)
behind-suc n [] = refl
behind-suc n (c ∷ text) =
    elim (c == 47) as (λ b. (if b then behind_slashes n text else behind_slashes (suc n) text) ≡ behind_slashes n (if b then behind_slashes 0 text else behind_slashes 1 text)) [
      | true ↦ ap (behind_slashes n) (sym (behind-zero text))
      | false ↦ behind-suc n text
    ]

-- A text with a slash in it.
has_slash-append : (front behind : List ℕ) → has_slash (front ++ 47 ∷ behind) ≡ true
has_slash-append [] behind = refl
has_slash-append (c ∷ front) behind = rw (has_slash-append front behind) (elim (c == 47) as (λ b. (b || true) ≡ true) [ true ↦ refl | false ↦ refl ])

-- A text without one.
has_slash-none : (text : List ℕ) → All (λ c. c ≢ 47) text → has_slash text ≡ false
has_slash-none [] a = refl
has_slash-none (c ∷ text) a =
    rw (has_slash-none text (All-tail (λ x. x ≢ 47) c text a), ne_eqb c 47 (All-head (λ x. x ≢ 47) c text a)) refl

-- A folder ends after its last slash, whatever stands before that.
pub to_last_slash-append : (front behind : List ℕ) → to_last_slash (front ++ 47 ∷ behind) ≡ front ++ 47 ∷ to_last_slash behind
to_last_slash-append [] behind = refl
to_last_slash-append (c ∷ front) behind =
    cond-true _ _ _ (has_slash-append (c ∷ front) behind) ∙ ap (λ t. c ∷ t) (to_last_slash-append front behind)

-- A text without a slash has no folder.
pub to_last_slash-none : (text : List ℕ) → All (λ c. c ≢ 47) text → to_last_slash text ≡ []
to_last_slash-none [] a = refl
to_last_slash-none (c ∷ text) a = cond-false _ _ _ (has_slash-none (c ∷ text) a)

-- What comes after a place has no slash, where there is none from that place on.
no_slash-drop : (text : List ℕ) (n : ℕ) → ((k : ℕ) → n ≤ k → k < length text → get_or text k 0 ≢ 47) → All (λ c. c ≢ 47) (drop n text)
no_slash-drop text n h =
    let P : ℕ → Type 0 = λ c. c ≢ 47 in
    All-from_get_or P (drop n text) 0 (λ k inside. subst P (sym (get_or-drop n text k 0)) (h (n + k) (omega arith) (omega (arith, length-drop n text))))

-- The folder by the place of the last slash.
pub to_last_slash-at : (text : List ℕ) (n : ℕ) → n < length text → get_or text n 0 ≡ 47 → ((k : ℕ) → n + 1 ≤ k → k < length text → get_or text k 0 ≢ 47) → take (n + 1) text ≡ to_last_slash text
to_last_slash-at text n inside here behind =
    let back = drop (n + 1) text in
    let split : text ≡ take n text ++ 47 ∷ back = sym (take-append-drop n text) ∙ ap (λ l. take n text ++ l) (drop_more text n 0 inside ∙ ap (λ b. b ∷ back) here) in
    let folder : to_last_slash text ≡ take n text ++ 47 ∷ [] =
    ap to_last_slash split ∙ to_last_slash-append (take n text) back
    ∙ ap (λ t. take n text ++ 47 ∷ t) (to_last_slash-none back (no_slash-drop text (n + 1) behind)) in
    take_more text n 0 inside ∙ ap (λ b. take n text ++ b ∷ []) here ∙ sym folder

-- A text is a front of another.
pub without_slash-front : (text : List ℕ) → without_slash text ≡ take (length (without_slash text)) text
without_slash-front [] = refl
without_slash-front (c ∷ []) =
    cond_both (c == 47) [] (c ∷ []) (λ t. t ≡ take (length t) (c ∷ [])) (λ _. refl) (λ _. refl)
without_slash-front (c ∷ d ∷ text) = ap (λ t. c ∷ t) (without_slash-front (d ∷ text))

pub to_last_slash-front : (text : List ℕ) → to_last_slash text ≡ take (length (to_last_slash text)) text
to_last_slash-front [] = refl
to_last_slash-front (c ∷ text) =
    cond_both (has_slash (c ∷ text)) (c ∷ to_last_slash text) [] (λ t. t ≡ take (length t) (c ∷ text)) (λ _. ap (λ t. c ∷ t) (to_last_slash-front text)) (λ _. refl)

-- A slash at the end is the end's.
pub without_slash-append : (front behind : List ℕ) → behind ≢ [] → without_slash (front ++ behind) ≡ front ++ without_slash behind
without_slash-append [] behind h = refl
without_slash-append (c ∷ []) [] h = absurd (h refl)
without_slash-append (c ∷ []) (d ∷ behind) h = refl
without_slash-append (c ∷ d ∷ front) behind h = ap (λ t. c ∷ t) (without_slash-append (d ∷ front) behind h)

-- A text has no slash where no place has one.
pub no_slash-from_get : (text : List ℕ) → ((k : ℕ) → k < length text → get_or text k 0 ≢ 47) → All (λ c. c ≢ 47) text
no_slash-from_get text h = All-from_get_or (λ c. c ≢ 47) text 0 h
