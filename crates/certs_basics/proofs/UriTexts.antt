-- The parts of a URI by their lengths: the scheme, the host up to the first slash, and what comes after.
use Rattle.std.proofs.Common.{◌≡◌, ℕ, ◌+◌, ◌<◌, ◌≢◌, ◌==◌, true, false, cond, not, List, [], ◌∷◌, ◌++◌, map, take, drop, length, get_or, All, codes, refl, sym, ap, ◌∙◌, arith, eqb-true, one-add, append_assoc, take-append-drop, take-add, if◌then◌else◌, take_at, drop_at}
use Rattle.std.specs.Char.{to_ascii_lowercase}
use Rattle.std.specs.List.{position_or_len}
use Rattle.std.proofs.lemmas.Bool.Decides.{nat_tests}
use Rattle.std.proofs.lemmas.Bool.{cond_both}
use Rattle.std.proofs.lemmas.List.{length-map, map-append, drop-drop, length-append}
use Rattle.std.proofs.lemmas.List.Folds.{length-prefix_len}
use Rattle.std.proofs.lemmas.List.Sums.{split_at_first, passes_at_first}
use Rattle.std.proofs.lemmas.List.Elements.{All-nil, All-cons, All-head, All-tail}
use Rattle.certs_basics.specs.Uris.{lower, lower_host, lookup_key, IsSegment, IsRest, HasScheme, IsModulePath, IsRsync, IsHttps}

-- How many octets stand before the first slash, or at all where there is none.
abbrev pub segment_len : List ℕ → ℕ
segment_len text = position_or_len (λ c. c == 47) text

-- std's lower case of an octet is `lower`.
to_ascii_lowercase-lower : (c : ℕ) → to_ascii_lowercase c ≡ lower c
to_ascii_lowercase-lower c = grind (arith, nat_tests)

-- std's lower case of a text is `lower` of each octet.
pub map-to_ascii_lowercase : (text : List ℕ) → map to_ascii_lowercase text ≡ map lower text
map-to_ascii_lowercase text = ap (λ f. map f text) (λ i c. to_ascii_lowercase-lower c i)

-- A segment ends where what comes after it begins.
pub segment_len-append : (host rest : List ℕ) → All (λ c. c ≢ 47) host → IsRest rest → segment_len (host ++ rest) ≡ length host
segment_len-append [] [] a r = refl
segment_len-append [] (c ∷ rest) a r = grind (arith, nat_tests)
segment_len-append (c ∷ host) rest a r =
    let head : c ≢ 47 = All-head (λ c. c ≢ 47) c host a in
    let tail = segment_len-append host rest (All-tail (λ c. c ≢ 47) c host a) r in
    grind (arith, nat_tests)

-- What stands before the first slash has none.
pub no_slash-take : (text : List ℕ) → All (λ c. c ≢ 47) (take (segment_len text) text)
no_slash-take [] = All-nil (λ c. c ≢ 47)
no_slash-take (c ∷ text) =
    cond_both (not (c == 47)) (1 + segment_len text) 0 (λ n. All (λ x. x ≢ 47) (take n (c ∷ text)))
    (λ e. let ne : c ≢ 47 = grind (arith, nat_tests) in rw one-add (All-cons (λ x. x ≢ 47) c (take (segment_len text) text) ne (no_slash-take text)))
    (λ _. All-nil (λ x. x ≢ 47))

-- What comes after a segment is nothing, or begins with a slash.
pub IsRest-drop : (text : List ℕ) → IsRest (drop (segment_len text) text)
IsRest-drop [] = tt
IsRest-drop (c ∷ text) =
    cond_both (not (c == 47)) (1 + segment_len text) 0 (λ n. IsRest (drop n (c ∷ text)))
    (λ e. rw one-add (IsRest-drop text))
    (λ e. grind (arith, nat_tests))

-- What is not empty has a length.
length-some : (text : List ℕ) → text ≢ [] → 0 < length text
length-some [] h = absurd (h refl)
length-some (c ∷ text) h = omega arith

-- The octets before the first slash are a segment, where there are some.
IsSegment-take : (text : List ℕ) → 0 < segment_len text → IsSegment (take (segment_len text) text)
IsSegment-take text h = record {
  some = λ e. absurd (omega (arith, length-prefix_len (λ c. not (c == 47)) text, ap length e));
  no_slash = no_slash-take text;
}

-- A host, a slash and a module, by their lengths.
pub record HasModule (text : List ℕ) : Type 0 where
  pub host_some : 0 < segment_len text
  pub slash : segment_len text < length text
  pub module_some : 0 < segment_len (drop (segment_len text + 1) text)

-- The lengths say that there is a module path.
pub IsModulePath-from_lens : (text : List ℕ) → HasModule text → IsModulePath text
IsModulePath-from_lens text h =
    let n = segment_len text in
    let behind = drop (n + 1) text in
    let m = segment_len behind in
    let split : text ≡ take n text ++ (get_or text n 0 ∷ behind) = split_at_first (λ c. c == 47) text 0 h.slash in
    let at_slash : get_or text n 0 ≡ 47 = eqb-true _ _ (passes_at_first (λ c. c == 47) text 0 h.slash) in
    let joined : take m behind ++ drop m behind ≡ behind = take-append-drop m behind in
    record {
      host = take n text;
      module_name = take m behind;
      rest = drop m behind;
      whole = cc;
      host_is = IsSegment-take text h.host_some;
      module_is = IsSegment-take behind h.module_some;
      rest_is = IsRest-drop behind;
    }

-- The octets after a segment's slash.
drop-segment : (host behind : List ℕ) → drop (length host + 1) (host ++ (47 ∷ behind)) ≡ behind
drop-segment host behind =
    sym (drop-drop 1 (length host) (host ++ (47 ∷ behind))) ∙ ap (drop 1) (drop_at host (47 ∷ behind) (length host) refl)

-- A module path has these lengths.
pub HasModule-from_path : (text : List ℕ) → IsModulePath text → HasModule text
HasModule-from_path text p =
    let behind = p.module_name ++ p.rest in
    let host_len : segment_len (p.host ++ (47 ∷ behind)) ≡ length p.host = segment_len-append p.host (47 ∷ behind) p.host_is.no_slash refl in
    let module_len : segment_len behind ≡ length p.module_name = segment_len-append p.module_name p.rest p.module_is.no_slash p.rest_is in
    let host_some = length-some p.host p.host_is.some in
    let module_some = length-some p.module_name p.module_is.some in
    rw p.whole (record {
      host_some = omega arith;
      slash = omega (arith, length-append p.host (47 ∷ behind));
      module_some = rw (host_len, drop-segment) (omega arith);
    })

-- A URI's first 8 octets, and what comes after them.
pub record IsSplit (uri scheme behind : List ℕ) : Type 0 where
  pub front : take 8 uri ≡ scheme
  pub back : drop 8 uri ≡ behind

-- The parts of a scheme of 8 octets and what comes after it.
pub IsSplit-append : (uri scheme behind : List ℕ) → length (map lower scheme) ≡ 8 → uri ≡ scheme ++ behind → IsSplit uri scheme behind
IsSplit-append uri scheme behind len e =
    let eight : length scheme ≡ 8 = sym (length-map scheme lower) ∙ len in
    rw e (record {
      front = take_at scheme behind 8 eight;
      back = drop_at scheme behind 8 eight;
    })

-- An rsync URI has its scheme, and a module path after it.
pub HasScheme-from_rsync : (uri : List ℕ) → IsRsync uri → HasScheme (codes "rsync://") uri × IsModulePath (drop 8 uri)
HasScheme-from_rsync uri r =
    let split = IsSplit-append uri r.scheme _ (ap length r.scheme_is) r.whole in (
      record { plain = r.plain; scheme_is = rw split.front r.scheme_is },
      record {
        host = r.host;
        module_name = r.module_name;
        rest = r.rest;
        whole = split.back;
        host_is = r.host_is;
        module_is = r.module_is;
        rest_is = r.rest_is;
      },
    )

-- The scheme with a module path after it makes an rsync URI.
pub IsRsync-from_parts : (uri : List ℕ) → HasScheme (codes "rsync://") uri → IsModulePath (drop 8 uri) → IsRsync uri
IsRsync-from_parts uri s p = record {
  scheme = take 8 uri;
  host = p.host;
  module_name = p.module_name;
  rest = p.rest;
  whole = sym (take-append-drop 8 uri) ∙ ap (λ t. take 8 uri ++ t) p.whole;
  plain = s.plain;
  scheme_is = s.scheme_is;
  host_is = p.host_is;
  module_is = p.module_is;
  rest_is = p.rest_is;
}

-- An https URI has its scheme, and a host after it.
pub HasScheme-from_https : (uri : List ℕ) → IsHttps uri → HasScheme (codes "https://") uri × (0 < segment_len (drop 8 uri))
HasScheme-from_https uri r =
    let split = IsSplit-append uri r.scheme _ (ap length r.scheme_is) r.whole in
    let len = segment_len-append r.host r.rest r.host_is.no_slash r.rest_is in
    let some = length-some r.host r.host_is.some in
    (record { plain = r.plain; scheme_is = rw split.front r.scheme_is }, rw (split.back, len) some)

-- The scheme with a host after it makes an https URI.
pub IsHttps-from_parts : (uri : List ℕ) → HasScheme (codes "https://") uri → 0 < segment_len (drop 8 uri) → IsHttps uri
IsHttps-from_parts uri s h =
    let behind = drop 8 uri in
    let n = segment_len behind in
    record {
      scheme = take 8 uri;
      host = take n behind;
      rest = drop n behind;
      whole = sym (take-append-drop 8 uri) ∙ ap (λ t. take 8 uri ++ t) (sym (take-append-drop n behind));
      plain = s.plain;
      scheme_is = s.scheme_is;
      host_is = IsSegment-take behind h;
      rest_is = IsRest-drop behind;
    }

-- Lower case ends where the host does.
pub lower_host-split : (text : List ℕ) → lower_host text ≡ map lower (take (segment_len text) text) ++ drop (segment_len text) text
lower_host-split [] = refl
lower_host-split (c ∷ text) =
    let n = 1 + segment_len text in
    elim (c == 47) as (λ b. (if b then c ∷ text else (lower c ∷ lower_host text)) ≡ map lower (take (cond (not b) n 0) (c ∷ text)) ++ drop (cond (not b) n 0) (c ∷ text)) [
      | true ↦ refl
      | false ↦ rw one-add (ap (λ t. lower c ∷ t) (lower_host-split text))
    ]

-- A lookup key, by the length of the scheme and the host.
pub lookup_key-split : (uri : List ℕ) (n : ℕ) → n ≡ 8 + segment_len (drop 8 uri) → lookup_key uri ≡ map lower (take n uri) ++ drop n uri
lookup_key-split uri n e =
    let m = segment_len (drop 8 uri) in
    let front : take (8 + m) uri ≡ take 8 uri ++ take m (drop 8 uri) = take-add 8 m uri in
    let back : drop (8 + m) uri ≡ drop m (drop 8 uri) = sym (drop-drop m 8 uri) in
    rw (e, front, back, map-append, append_assoc, ← lower_host-split (drop 8 uri))
