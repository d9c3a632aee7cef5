-- What is looked up: only a URI has a URI's lookup key, and the two ways to find an object agree.
use Rattle.std.proofs.Common.{◌≡◌, ℕ, ◌+◌, ◌==◌, cond, not, inl, inr, ◌⊎◌, Bool, true, false, List, [], ◌∷◌, ◌++◌, map, take, drop, length, All, codes, Some, bytes_eq, if◌then◌else◌, refl, sym, ap, subst, ◌∙◌, arith, take-append-drop}
use Rattle.std.specs.List.{AllByRecursion}
use Rattle.std.specs.List.Sorted.{IsStrictlySortedBy}
use Rattle.std.specs.Ordering.{nat_cmp, ordering_reverse}
use Rattle.std.specs.Cmp.Lexicographic.{slice_cmp, nat_list_cmp_total}
use Rattle.std.specs.declared.cmp.Ordering.TheVariants.{Less, Greater}
use Rattle.std.proofs.lemmas.Bool.Decides.{nat_tests}
use Rattle.std.proofs.lemmas.List.{length-map, map-append, drop-map, take-map}
use Rattle.std.proofs.lemmas.List.Elements.{All-head, All-tail, All-cons, All-nil, All-map, All-weaker}
use Rattle.std.proofs.lemmas.Slice.Eq.{bytes_eq-Decides}
use Rattle.rpki_rules.specs.rpki_bundle.declared.parts.Object.{Object}
use Rattle.rpki_rules.specs.rpki_bundle.Objects.{IsAt}
use Rattle.rpki_rules.specs.certs_basics.Uris.{lower, lower_host, lookup_key, IsUriOctet, HasScheme, IsModulePath, IsUri}
use Rattle.rpki_rules.proofs.of_certs_basics.UriTexts.{segment_len, HasModule-from_path, IsModulePath-from_lens, HasScheme-from_rsync, HasScheme-from_https, IsRsync-from_parts, IsHttps-from_parts}
use Rattle.rpki_rules.specs.World.{find_object}
use Rattle.rpki_rules.specs.Laws.{OnlyUris, OneObjectAt}

-- Lower case of an octet is kept.
lower-lower : (c : ℕ) → lower (lower c) ≡ lower c
lower-lower c = grind (arith, nat_tests)

map-lower-lower : (text : List ℕ) → map lower (map lower text) ≡ map lower text
map-lower-lower [] = refl
map-lower-lower (c ∷ text) = λ i. lower-lower c i ∷ map-lower-lower text i

host_cases : (b : Bool) (c : ℕ) (text host : List ℕ) → map lower host ≡ map lower text → map lower (if b then c ∷ text else (lower c ∷ host)) ≡ lower c ∷ map lower text
host_cases true c text host e = refl
host_cases false c text host e = λ i. lower-lower c i ∷ e i

map-lower-lower_host : (text : List ℕ) → map lower (lower_host text) ≡ map lower text
map-lower-lower_host [] = refl
map-lower-lower_host (c ∷ text) = host_cases (c == 47) c text (lower_host text) (map-lower-lower_host text)

-- A lookup key is its text but for case.
map-lower-lookup_key : (text : List ℕ) → map lower (lookup_key text) ≡ map lower text
map-lower-lookup_key text =
    map-append lower (map lower (take 8 text)) (lower_host (drop 8 text))
    ∙ ((λ i. map-lower-lower (take 8 text) i ++ map-lower-lower_host (drop 8 text) i)
    ∙ (sym (map-append lower (take 8 text) (drop 8 text)) ∙ ap (map lower) (take-append-drop 8 text)))

-- A slash is one in any case.
slash-lower : (c : ℕ) → (lower c == 47) ≡ (c == 47)
slash-lower c = grind (arith, nat_tests)

segment_len-lower : (text : List ℕ) → segment_len (map lower text) ≡ segment_len text
segment_len-lower [] = refl
segment_len-lower (c ∷ text) = λ i. cond (not (slash-lower c i)) (1 + segment_len-lower text i) 0

-- An octet is one of a URI's in any case.
octet-lower : (c : ℕ) → IsUriOctet c → IsUriOctet (lower c)
octet-lower c h = (grind (arith, nat_tests), grind (arith, nat_tests))

octet-back : (c : ℕ) → IsUriOctet (lower c) → IsUriOctet c
octet-back c h = (grind (arith, nat_tests), grind (arith, nat_tests))

plain-back : (text : List ℕ) → All IsUriOctet (map lower text) → All IsUriOctet text
plain-back [] a = All-nil IsUriOctet
plain-back (c ∷ text) a = All-cons IsUriOctet c text (octet-back c (All-head IsUriOctet (lower c) (map lower text) a)) (plain-back text (All-tail IsUriOctet (lower c) (map lower text) a))

-- Texts that are the same but for case.
module _ (text uri : List ℕ) (same : map lower text ≡ map lower uri) where
  scheme_same : (scheme : List ℕ) → HasScheme scheme uri → HasScheme scheme text
  scheme_same scheme s = record {
    plain = plain-back text (subst (λ (t : List ℕ). All IsUriOctet t) (sym same) (All-map IsUriOctet lower uri (All-weaker IsUriOctet (λ c. IsUriOctet (lower c)) octet-lower uri s.plain)));
    scheme_is = sym (take-map lower 8 text) ∙ (ap (take 8) same ∙ (take-map lower 8 uri ∙ s.scheme_is));
  }

  behind_same : (n : ℕ) → map lower (drop n text) ≡ map lower (drop n uri)
  behind_same n = sym (drop-map lower n text) ∙ (ap (drop n) same ∙ drop-map lower n uri)

  segment_same : segment_len text ≡ segment_len uri
  segment_same = sym (segment_len-lower text) ∙ (ap segment_len same ∙ segment_len-lower uri)

  length_same : length text ≡ length uri
  length_same = sym (length-map text lower) ∙ (ap length same ∙ length-map uri lower)

-- A host, a slash and a module stay so in another case.
module_same : (text uri : List ℕ) → map lower text ≡ map lower uri → IsModulePath uri → IsModulePath text
module_same text uri same p =
    let h = HasModule-from_path uri p in
    let n = segment_same text uri same in let l = length_same text uri same in
    let m : segment_len (drop (segment_len text + 1) text) ≡ segment_len (drop (segment_len uri + 1) uri) =
    segment_same (drop (segment_len text + 1) text) (drop (segment_len text + 1) uri) (behind_same text uri same (segment_len text + 1)) ∙ ap (λ (k : ℕ). segment_len (drop (k + 1) uri)) n in
    IsModulePath-from_lens text (record {
      host_some = omega (arith, n, h.host_some);
      slash = omega (arith, n, l, h.slash);
      module_some = omega (arith, m, h.module_some);
    })

same_uri : (text uri : List ℕ) → map lower text ≡ map lower uri → IsUri uri → IsUri text
same_uri text uri same (inl r) =
    let parts = HasScheme-from_rsync uri r in
    inl (IsRsync-from_parts text (scheme_same text uri same (codes "rsync://") parts.0) (module_same (drop 8 text) (drop 8 uri) (behind_same text uri same 8) parts.1))
same_uri text uri same (inr r) =
    let parts = HasScheme-from_https uri r in
    let n = segment_same (drop 8 text) (drop 8 uri) (behind_same text uri same 8) in
    inr (IsHttps-from_parts text (scheme_same text uri same (codes "https://") parts.0) (omega (arith, n, parts.1)))

pub only_uris : OnlyUris
only_uris text uri u e = same_uri text uri (sym (map-lower-lookup_key text) ∙ (ap (map lower) e ∙ map-lower-lookup_key uri)) u

-- The value of a choice is one of both.
pub chosen : {X : Type 0} (b : Bool) (x y r : X) → (if b then x else y) ≡ r → ((b ≡ true) × (x ≡ r)) ⊎ ((b ≡ false) × (y ≡ r))
chosen true x y r e = inl (refl, e)
chosen false x y r e = inr (refl, e)

if_true : {X : Type 0} (b : Bool) (x y : X) → b ≡ true → (if b then x else y) ≡ x
if_true true x y e = refl
if_true false x y e = absurd cc

if_false : {X : Type 0} (b : Bool) (x y : X) → (b ≡ true → ⊥) → (if b then x else y) ≡ y
if_false true x y n = absurd (n refl)
if_false false x y n = refl

found_at : (objects : List Object) (uri octets : List ℕ) → find_object objects uri ≡ Some octets → IsAt objects uri octets
found_at [] uri octets e = absurd cc
found_at (o ∷ os) uri octets e = elim (chosen (bytes_eq o.uri uri) (Some o.octets) (find_object os uri) (Some octets) e) [
  | inl h ↦ let x : Some o.octets ≡ Some octets = h.1 in inl ((bytes_eq-Decides o.uri uri).0 h.0, cc)
  | inr h ↦ inr (found_at os uri octets h.1)
]

-- After an object none has its URI.
none_behind : (uri : List ℕ) (os : List Object) → AllByRecursion (λ (k : List ℕ). slice_cmp nat_cmp uri k ≡ Less) (map (λ (o : Object). o.uri) os) → (octets : List ℕ) → IsAt os uri octets → ⊥
none_behind uri [] a octets h = h
none_behind uri (o ∷ os) a octets (inl h) =
    let l : slice_cmp nat_cmp uri uri ≡ Less = subst (λ (k : List ℕ). slice_cmp nat_cmp uri k ≡ Less) h.0 a.0 in
    let z : Less ≡ Greater = sym l ∙ (nat_list_cmp_total.antisymm uri uri ∙ ap ordering_reverse l) in
    absurd cc
none_behind uri (o ∷ os) a octets (inr h) = none_behind uri os a.1 octets h

at_found : (objects : List Object) → IsStrictlySortedBy (slice_cmp nat_cmp) (map (λ (o : Object). o.uri) objects) → (uri octets : List ℕ) → IsAt objects uri octets → find_object objects uri ≡ Some octets
unfolding IsStrictlySortedBy
at_found [] a uri octets h = absurd h
at_found (o ∷ os) a uri octets (inl h) = if_true (bytes_eq o.uri uri) (Some o.octets) (find_object os uri) ((bytes_eq-Decides o.uri uri).1 h.0) ∙ ap Some h.1
at_found (o ∷ os) a uri octets (inr h) =
    if_false (bytes_eq o.uri uri) (Some o.octets) (find_object os uri) (λ t. none_behind uri os (subst (λ (k : List ℕ). AllByRecursion (λ (j : List ℕ). slice_cmp nat_cmp k j ≡ Less) (map (λ (p : Object). p.uri) os)) ((bytes_eq-Decides o.uri uri).0 t) a.0) octets h)
    ∙ at_found os a.1 uri octets h

pub one_object_at : OneObjectAt
one_object_at objects a uri octets = (found_at objects uri octets, at_found objects a uri octets)
