-- Lines of verdicts, read one after the other.
use Rattle.std.proofs.Common.{◌≡◌, ℕ, ◌<◌, ◌⊎◌, inl, inr, List, [], ◌∷◌, ◌++◌, length, sym, ap, ◌∙◌, subst, append_assoc, append-nil, length-append, arith}
use Rattle.rpki_commands.proofs.of_bcder_tree.Unique.{by_length}
use Rattle.rpki_commands.proofs.of_rpki_bundle.OneBundle.{verdict_fields}
use Rattle.rpki_commands.specs.rpki_bundle.declared.parts.Verdict.{Verdict}
use Rattle.rpki_commands.specs.Lines.{IsLineEnd}
use Rattle.rpki_commands.specs.Verdicts.{IsHex, StartsWithVerdict, TakesDigest, TakesNextDigest, TakesEnd, TakesVerdict, TellsVerdicts}
use Rattle.rpki_commands.proofs.Hexes.{hex_length, one_digest}

-- Two of the same are one, and so is what comes after them.
pub record Same {A : Type 0} (x y : A) (rest other : List ℕ) : Type 0 where
  pub value : x ≡ y
  pub behind : rest ≡ other

pub one_front : {t d e r q : List ℕ} → TakesDigest t d r → TakesDigest t e q → Same d e r q
one_front {t} {d} {e} {r} {q} a b =
    let size : length a.digits ≡ length b.digits = hex_length a.digits d a.digest_is ∙ sym (hex_length b.digits e b.digest_is) in
    let same = by_length a.digits b.digits r q size (sym a.whole ∙ b.whole) in
    let other : IsHex a.digits e = subst (λ (s : List ℕ). IsHex s e) (sym same.front) b.digest_is in
    record { value = one_digest a.digits d e a.digest_is other; behind = same.rest }

pub one_next : {t d e r q : List ℕ} → TakesNextDigest t d r → TakesNextDigest t e q → Same d e r q
one_next {t} {d} {e} {r} {q} a b =
    let heads : 32 ∷ a.behind_space ≡ 32 ∷ b.behind_space = sym a.space ∙ b.space in
    let same : a.behind_space ≡ b.behind_space = cc in
    one_front a.digest_is (subst (λ (s : List ℕ). TakesDigest s e q) (sym same) b.digest_is)

abbrev head : List ℕ → ℕ
head [] = 0
head (n ∷ ns) = n

-- a line end that is there, or the end of all
one_end : {t r q : List ℕ} → TakesEnd t r → TakesEnd t q → r ≡ q
one_end {t} {r} {q} a b = at a.end b.end a.end_is b.end_is (sym a.whole ∙ b.whole)
  where
    at : (x y : List ℕ) → IsLineEnd x ⊎ ((x ≡ []) × (r ≡ [])) → IsLineEnd y ⊎ ((y ≡ []) × (q ≡ [])) → x ++ r ≡ y ++ q → r ≡ q
    at x y (inl (inl a)) (inl (inl b)) e = let f : 10 ∷ r ≡ 10 ∷ q = subst (λ (z : List ℕ). z ++ r ≡ 10 ∷ q) a (subst (λ (z : List ℕ). x ++ r ≡ z ++ q) b e) in cc
    at x y (inl (inl a)) (inl (inr b)) e = let f : 10 ∷ r ≡ 13 ∷ 10 ∷ q = subst (λ (z : List ℕ). z ++ r ≡ 13 ∷ 10 ∷ q) a (subst (λ (z : List ℕ). x ++ r ≡ z ++ q) b e) in absurd (omega (arith, ap head f))
    at x y (inl (inr a)) (inl (inl b)) e = let f : 13 ∷ 10 ∷ r ≡ 10 ∷ q = subst (λ (z : List ℕ). z ++ r ≡ 10 ∷ q) a (subst (λ (z : List ℕ). x ++ r ≡ z ++ q) b e) in absurd (omega (arith, ap head f))
    at x y (inl (inr a)) (inl (inr b)) e = let f : 13 ∷ 10 ∷ r ≡ 13 ∷ 10 ∷ q = subst (λ (z : List ℕ). z ++ r ≡ 13 ∷ 10 ∷ q) a (subst (λ (z : List ℕ). x ++ r ≡ z ++ q) b e) in cc
    at x y (inr (a, s)) (inr (b, u)) e = s ∙ sym u
    at x y (inl (inl a)) (inr (b, u)) e = let f : 10 ∷ r ≡ [] = subst (λ (z : List ℕ). z ++ r ≡ []) a (subst (λ (z : List ℕ). x ++ r ≡ z ++ []) b (subst (λ (z : List ℕ). x ++ r ≡ y ++ z) u e)) in cc
    at x y (inl (inr a)) (inr (b, u)) e = let f : 13 ∷ 10 ∷ r ≡ [] = subst (λ (z : List ℕ). z ++ r ≡ []) a (subst (λ (z : List ℕ). x ++ r ≡ z ++ []) b (subst (λ (z : List ℕ). x ++ r ≡ y ++ z) u e)) in cc
    at x y (inr (a, s)) (inl (inl b)) e = let f : [] ≡ 10 ∷ q = subst (λ (z : List ℕ). [] ≡ z ++ q) b (subst (λ (z : List ℕ). z ++ [] ≡ y ++ q) a (subst (λ (z : List ℕ). x ++ z ≡ y ++ q) s e)) in cc
    at x y (inr (a, s)) (inl (inr b)) e = let f : [] ≡ 13 ∷ 10 ∷ q = subst (λ (z : List ℕ). [] ≡ z ++ q) b (subst (λ (z : List ℕ). z ++ [] ≡ y ++ q) a (subst (λ (z : List ℕ). x ++ z ≡ y ++ q) s e)) in cc

pub one_verdict_front : {t r q : List ℕ} {v w : Verdict} → TakesVerdict t v r → TakesVerdict t w q → Same v w r q
one_verdict_front {t} {r} {q} {v} {w} a b =
    let key = one_front a.key_is b.key_is in
    let message = one_next a.message_is (subst (λ (s : List ℕ). TakesNextDigest s w.message b.behind_message) (sym key.behind) b.message_is) in
    let signature = one_next a.signature_is (subst (λ (s : List ℕ). TakesNextDigest s w.signature b.behind_signature) (sym message.behind) b.signature_is) in
    record {
      value = verdict_fields v w key.value message.value signature.value;
      behind = one_end a.end_is (subst (λ (s : List ℕ). TakesEnd s q) (sym signature.behind) b.end_is);
    }

-- a line has octets
pub verdict_shorter : (t rest : List ℕ) (v : Verdict) → TakesVerdict t v rest → length rest < length t
verdict_shorter t rest v a =
    let k = a.key_is in let m = a.message_is in let s = a.signature_is in let e = a.end_is in
    omega (
      arith,
      hex_length k.digits v.key k.digest_is,
      ap length k.whole,
      length-append k.digits a.behind_key,
      ap length m.space,
      ap length m.digest_is.whole,
      length-append m.digest_is.digits a.behind_message,
      ap length s.space,
      ap length s.digest_is.whole,
      length-append s.digest_is.digits a.behind_signature,
      ap length e.whole,
      length-append e.end rest,
    )

-- The first line that is read states a verdict, and so does that of the text.
pub started : {text s rest : List ℕ} {v : Verdict} → (s ≡ text) ⊎ StartsWithVerdict text → TakesVerdict s v rest → StartsWithVerdict text
started {text} {s} {rest} {v} (inl same) one = record { verdict = v; rest = rest; front = subst (λ (t : List ℕ). TakesVerdict t v rest) same one }
started (inr begun) one = begun

-- These verdicts were read of the text, and rest is left.
pub record Reading (text rest : List ℕ) (vs : List Verdict) : Type 0 where
  pub gives : (ws : List Verdict) → TellsVerdicts rest ws → TellsVerdicts text (vs ++ ws)
  pub needs : (zs : List Verdict) → TellsVerdicts text zs → (ws : List Verdict) × TellsVerdicts rest ws

pub reading_begin : (text : List ℕ) → Reading text text []
reading_begin text = record { gives = λ ws t. t; needs = λ zs t. (zs, t) }

behind_first : {s rest : List ℕ} {v : Verdict} (zs : List Verdict) → TakesVerdict s v rest → TellsVerdicts s zs → (ws : List Verdict) × TellsVerdicts rest ws
behind_first {s} {rest} {v} [] one t = absurd (omega (arith, verdict_shorter s rest v one, ap length t))
behind_first {s} {rest} {v} (z ∷ zs) one t = (zs, subst (λ (q : List ℕ). TellsVerdicts q zs) (sym (one_verdict_front one t.1).behind) t.2)

pub reading_next : {text s rest : List ℕ} {vs : List Verdict} {v : Verdict} → Reading text s vs → TakesVerdict s v rest → Reading text rest (vs ++ v ∷ [])
reading_next {text} {s} {rest} {vs} {v} r one = record {
  gives = λ ws t. subst (TellsVerdicts text) (sym (append_assoc vs (v ∷ []) ws)) (r.gives (v ∷ ws) (rest, one, t));
  needs = λ zs t. let left = r.needs zs t in behind_first left.0 one left.1;
}

pub reading_end : {text s : List ℕ} {vs : List Verdict} → Reading text s vs → s ≡ [] → TellsVerdicts text vs
reading_end {text} {s} {vs} r end = subst (TellsVerdicts text) (append-nil vs) (r.gives [] end)

pub reading_stop : {text s : List ℕ} {vs : List Verdict} → Reading text s vs → (s ≡ [] → ⊥) → ((v : Verdict) (rest : List ℕ) → TakesVerdict s v rest → ⊥) → (zs : List Verdict) → TellsVerdicts text zs → ⊥
reading_stop {text} {s} r some lacks zs t = let left = r.needs zs t in at left.0 left.1
  where
    at : (ws : List Verdict) → TellsVerdicts s ws → ⊥
    at [] e = some e
    at (w ∷ ws) t = lacks w t.0 t.1
