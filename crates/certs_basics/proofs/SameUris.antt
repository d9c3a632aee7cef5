-- URIs that are the same but for case in scheme and host, and for a slash at the end.
use Rattle.std.proofs.Common.{◌≡◌, ◌≢◌, ℕ, ◌+◌, ◌≤◌, ◌==◌, ◌↔◌, min, Bool, true, false, inl, inr, List, [], ◌∷◌, ◌++◌, map, take, drop, length, refl, sym, ap, ◌∙◌, arith, append-nil, take_all, take_at, drop_at, take-append-drop, length-append, if◌then◌else◌}
use Rattle.std.proofs.lemmas.Bool.{cases_lt, cond-true, cond-false}
use Rattle.std.proofs.lemmas.List.{length-map, length-take, length-take-le, drop_all}
use Rattle.certs_basics.specs.Paths.{without_slash, IsIdenticalTo}
use Rattle.certs_basics.specs.Uris.{lower, lower_host, lookup_key}
use Rattle.certs_basics.proofs.PathTexts.{without_slash-append, without_slash-front}
use Rattle.certs_basics.proofs.UriLaws.{lookup_key-parts, segment_len-lower_host}
use Rattle.certs_basics.proofs.UriTexts.{lookup_key-split, segment_len}
use Rattle.certs_basics.proofs.PathUris.{lower-slash}

-- A slash at the end is the same in lower case.
without_slash-map : (text : List ℕ) → without_slash (map lower text) ≡ map lower (without_slash text)
without_slash-map [] = refl
without_slash-map (c ∷ []) =
    rw (lower-slash c) (elim (c == 47) as (λ b. (if b then [] else lower c ∷ []) ≡ map lower (if b then [] else c ∷ [])) [ true ↦ refl | false ↦ refl ])
without_slash-map (c ∷ d ∷ text) = ap (λ t. lower c ∷ t) (without_slash-map (d ∷ text))

-- The end of a text with an octet in front.
without_slash-cons : (c : ℕ) (text : List ℕ) → text ≢ [] → without_slash (c ∷ text) ≡ c ∷ without_slash text
without_slash-cons c [] h = absurd (h refl)
without_slash-cons c (d ∷ text) h = refl

-- A text is not empty with its host in lower case.
lower_host-some : (text : List ℕ) → text ≢ [] → lower_host text ≢ []
lower_host-some [] h = h
lower_host-some (c ∷ text) h =
    elim (c == 47) as (λ b. (if b then c ∷ text else lower c ∷ lower_host text) ≢ []) [ true ↦ λ e. cc | false ↦ λ e. cc ]

-- A slash at the end is the same with the host in lower case.
without_slash-lower_host : (text : List ℕ) → without_slash (lower_host text) ≡ lower_host (without_slash text)
without_slash-lower_host [] = refl
without_slash-lower_host (c ∷ []) =
    let P : Bool → Type 0 = λ b. (c == 47) ≡ b → without_slash (if b then c ∷ [] else lower c ∷ []) ≡ lower_host (if b then [] else c ∷ []) in
    (elim (c == 47) as P [
      | true ↦ λ e. cond-true _ _ _ e
      | false ↦ λ e. cond-false _ _ _ (lower-slash c ∙ e) ∙ sym (cond-false _ _ _ e)
    ]) refl
without_slash-lower_host (c ∷ d ∷ text) =
    let behind = d ∷ text in
    let host = lower_host behind in
    let same = without_slash-cons (lower c) host (lower_host-some behind (λ e. cc)) ∙ ap (λ t. lower c ∷ t) (without_slash-lower_host (d ∷ text)) in
    elim (c == 47) as (λ b. without_slash (if b then c ∷ behind else lower c ∷ host) ≡ (if b then c ∷ without_slash behind else lower c ∷ lower_host (without_slash behind))) [
      | true ↦ refl
      | false ↦ same
    ]

-- The lookup key of eight octets and what comes after them.
lookup_key-eight : (front behind : List ℕ) → length front ≡ 8 → lookup_key (front ++ behind) ≡ map lower front ++ lower_host behind
lookup_key-eight front behind e = rw (take_at front behind 8 e, drop_at front behind 8 e) refl

-- The lookup key of at most eight octets.
lookup_key-short : (text : List ℕ) → length text ≤ 8 → lookup_key text ≡ map lower text
lookup_key-short text h =
    let none : lower_host (drop 8 text) ≡ [] = ap lower_host (drop_all 8 text (omega arith)) in
    rw (none, append-nil, take_all 8 text h) refl

-- A slash at the end of a lookup key is the URI's.
pub without_slash-lookup_key : (uri : List ℕ) → without_slash (lookup_key uri) ≡ lookup_key (without_slash uri)
without_slash-lookup_key uri =
    elim (cases_lt 8 (length uri)) [
      | inl long ↦
          let front = take 8 uri in
          let behind = drop 8 uri in
          let eight : length front ≡ 8 = omega (arith, length-take 8 uri) in
          let split : front ++ behind ≡ uri = take-append-drop 8 uri in
          let some : behind ≢ [] = λ e. absurd (omega (arith, ap length split, length-append front behind, ap length e)) in
          let some_key = lower_host-some behind some in
          without_slash-append (map lower front) (lower_host behind) some_key
          ∙ ap (λ t. map lower front ++ t) (without_slash-lower_host behind)
          ∙ sym (lookup_key-eight front (without_slash behind) eight)
          ∙ ap lookup_key (sym (without_slash-append front behind some) ∙ ap without_slash split)
      | inr short ↦
          let less : length (without_slash uri) ≤ 8 = omega (arith, ap length (without_slash-front uri), length-take (length (without_slash uri)) uri) in
          ap without_slash (lookup_key-short uri short) ∙ without_slash-map uri ∙ sym (lookup_key-short (without_slash uri) less)
    ]

-- A lookup key is as long as its URI.
length-lookup_key : (uri : List ℕ) → length (lookup_key uri) ≡ length uri
length-lookup_key uri =
    let n = 8 + segment_len (drop 8 uri) in
    ap length (lookup_key-split uri n refl) ∙ length-append (map lower (take n uri)) (drop n uri)
    ∙ ap (λ k. k + length (drop n uri)) (length-map (take n uri) lower)
    ∙ sym (length-append (take n uri) (drop n uri)) ∙ ap length (take-append-drop n uri)

-- Where a URI's scheme and host end.
abbrev pub host_end : List ℕ → ℕ
host_end uri = min (length uri) (8 + segment_len (drop 8 uri))

-- URIs of one lookup key have hosts that end at one place.
host_end-key : (a b : List ℕ) → lookup_key a ≡ lookup_key b → host_end a ≡ host_end b
host_end-key a b e =
    let host : (uri : List ℕ) → segment_len (drop 8 uri) ≡ segment_len (drop 8 (lookup_key uri)) =
    λ uri. sym (segment_len-lower_host (drop 8 uri)) ∙ ap segment_len (sym (lookup_key-parts uri).back) in
    let place : segment_len (drop 8 a) ≡ segment_len (drop 8 b) = host a ∙ ap (λ t. segment_len (drop 8 t)) e ∙ sym (host b) in
    let len : length a ≡ length b = sym (length-lookup_key a) ∙ ap length e ∙ length-lookup_key b in
    rw (place, len) refl

-- Scheme and host, and what comes after them, of equal lookup keys.
pub record SameParts (a b : List ℕ) (n m : ℕ) : Type 0 where
  pub host : map lower (take n a) ≡ map lower (take m b)
  pub path : drop n a ≡ drop m b

pub parts-same : (a b : List ℕ) (n m : ℕ) → n ≡ host_end a → m ≡ host_end b → n ≤ length a → m ≤ length b → lookup_key a ≡ map lower (take n a) ++ drop n a → lookup_key b ≡ map lower (take m b) ++ drop m b → lookup_key a ≡ lookup_key b → SameParts a b n m
parts-same a b n m at bt inside other_inside a_key b_key e =
    let same : n ≡ m = at ∙ host_end-key a b e ∙ sym bt in
    let a_len : length (map lower (take n a)) ≡ n = length-map (take n a) lower ∙ length-take-le n a inside in
    let b_len : length (map lower (take m b)) ≡ n = length-map (take m b) lower ∙ length-take-le m b other_inside ∙ sym same in
    let whole : map lower (take n a) ++ drop n a ≡ map lower (take m b) ++ drop m b = sym a_key ∙ e ∙ b_key in
    record {
      host = sym (take_at (map lower (take n a)) (drop n a) n a_len) ∙ ap (take n) whole ∙ take_at (map lower (take m b)) (drop m b) n b_len;
      path = sym (drop_at (map lower (take n a)) (drop n a) n a_len) ∙ ap (drop n) whole ∙ drop_at (map lower (take m b)) (drop m b) n b_len;
    }

-- URIs are the same where the lookup keys of both are, less a slash at the end.
pub identical-keys : (a b c d : List ℕ) → c ≡ without_slash a → d ≡ without_slash b → IsIdenticalTo a b ↔ (lookup_key c ≡ lookup_key d)
identical-keys a b c d at bt =
    let first = without_slash-lookup_key a ∙ ap lookup_key (sym at) in
    let second = without_slash-lookup_key b ∙ ap lookup_key (sym bt) in
    (λ e. sym first ∙ e ∙ second, λ e. first ∙ e ∙ sym second)
