-- Lookup keys: the key of a URI is a URI, and the key of a key is that key.
use Rattle.std.proofs.Common.{◌≡◌, ℕ, ◌+◌, ◌≢◌, ◌==◌, inl, inr, min, not, List, [], ◌∷◌, ◌++◌, map, take, drop, length, All, refl, sym, ap, ◌∙◌, arith, append-nil, take_all, take_at, drop_at}
use Rattle.std.proofs.lemmas.Bool.{cases_lt}
use Rattle.std.proofs.lemmas.Bool.Decides.{nat_tests}
use Rattle.std.proofs.lemmas.List.{length-map, length-take, drop_all, nil_from_length}
use Rattle.std.proofs.lemmas.List.Elements.{All-append, All-drop, All-map, All-same, All-take, All-weaker}
use Rattle.std.proofs.lemmas.List.Folds.{length-prefix_len}
use Rattle.std.proofs.lemmas.Map.Text.{is_eq-slice_cmp}
use Rattle.std.proofs.lemmas.Slice.Eq.{bytes_eq-Decides}
use Rattle.std.specs.Cmp.{Equal-is}
use Rattle.std.specs.Cmp.Lexicographic.{slice_cmp}
use Rattle.std.specs.Ordering.{nat_cmp}
use Rattle.std.specs.Prelude.{◌↔◌}
use Rattle.std.specs.declared.cmp.Ordering.TheVariants.{Equal}
use Rattle.certs_basics.specs.Uris.{lower, lower_host, lookup_key, IsUriOctet, IsSegment, IsRest, HasScheme, IsModulePath, IsRsync, IsHttps, IsUri, IsLookupKey}
use Rattle.certs_basics.proofs.UriTexts.{segment_len, segment_len-append, no_slash-take, IsRest-drop, lower_host-split, lookup_key-split, IsSplit, HasScheme-from_rsync, HasScheme-from_https, IsRsync-from_parts, IsHttps-from_parts}

-- Lower case of an octet is kept.
lower-lower : (c : ℕ) → lower (lower c) ≡ lower c
lower-lower c = grind (arith, nat_tests)

-- Lower case of a text is kept.
map-lower-lower : (text : List ℕ) → map lower (map lower text) ≡ map lower text
map-lower-lower [] = refl
map-lower-lower (c ∷ text) = λ i. lower-lower c i ∷ map-lower-lower text i

-- Lower case makes no slash.
pub lower-no_slash : (c : ℕ) → c ≢ 47 → lower c ≢ 47
lower-no_slash c h = λ e. absurd (grind (arith, nat_tests))

-- Nor does it in a text.
no_slash-map : (text : List ℕ) → All (λ c. c ≢ 47) text → All (λ c. c ≢ 47) (map lower text)
no_slash-map text a = All-map (λ c. c ≢ 47) lower text (All-weaker (λ c. c ≢ 47) (λ c. lower c ≢ 47) lower-no_slash text a)

-- A URI octet in lower case is a URI octet.
IsUriOctet-lower : (c : ℕ) → IsUriOctet c → IsUriOctet (lower c)
IsUriOctet-lower c h = (grind (arith, nat_tests), grind (arith, nat_tests))

-- A host in lower case, and what comes after it as it is.
pub lower_host-append : (host rest : List ℕ) → All (λ c. c ≢ 47) host → IsRest rest → lower_host (host ++ rest) ≡ map lower host ++ rest
lower_host-append host rest a r =
    let len = segment_len-append host rest a r in
    lower_host-split (host ++ rest) ∙ rw (len, take_at host rest (length host) refl, drop_at host rest (length host) refl)

-- Lower case moves no slash.
pub segment_len-lower_host : (text : List ℕ) → segment_len (lower_host text) ≡ segment_len text
segment_len-lower_host text =
    let n = segment_len text in
    let front = map lower (take n text) in
    ap segment_len (lower_host-split text)
    ∙ segment_len-append front (drop n text) (no_slash-map (take n text) (no_slash-take text)) (IsRest-drop text)
    ∙ length-map (take n text) lower ∙ length-prefix_len (λ c. not (c == 47)) text

-- A host stays in lower case.
lower_host-lower_host : (text : List ℕ) → lower_host (lower_host text) ≡ lower_host text
lower_host-lower_host text =
    let n = segment_len text in
    let front = map lower (take n text) in
    let split : lower_host text ≡ front ++ drop n text = lower_host-split text in
    ap lower_host split
    ∙ lower_host-append front (drop n text) (no_slash-map (take n text) (no_slash-take text)) (IsRest-drop text)
    ∙ ap (λ t. t ++ drop n text) (map-lower-lower (take n text)) ∙ sym split

-- The scheme and what comes after it, in a lookup key.
pub lookup_key-parts : (uri : List ℕ) → IsSplit (lookup_key uri) (map lower (take 8 uri)) (lower_host (drop 8 uri))
lookup_key-parts uri =
    let front = map lower (take 8 uri) in
    let front_len : length front ≡ min 8 (length uri) = length-map (take 8 uri) lower ∙ length-take 8 uri in
    elim (cases_lt (length uri) 8) [
      | inl short ↦
          let none : lower_host (drop 8 uri) ≡ [] = ap lower_host (drop_all 8 uri (omega arith)) in
          rw (none, append-nil) (record {
            front = take_all 8 front (omega arith);
            back = drop_all 8 front (omega arith);
          })
      | inr long ↦ record {
        front = take_at front (lower_host (drop 8 uri)) 8 (omega arith);
        back = drop_at front (lower_host (drop 8 uri)) 8 (omega arith);
      }
    ]

-- The lookup key of a lookup key is that key.
pub lookup_key-lookup_key : (uri : List ℕ) → lookup_key (lookup_key uri) ≡ lookup_key uri
lookup_key-lookup_key uri =
    let key = lookup_key-parts uri in
    (λ i. map lower (key.front i) ++ lower_host (key.back i))
    ∙ (λ i. map-lower-lower (take 8 uri) i ++ lower_host-lower_host (drop 8 uri) i)

-- A segment in lower case is a segment.
IsSegment-lower : (text : List ℕ) → IsSegment text → IsSegment (map lower text)
IsSegment-lower text s = record {
  some = λ e. s.some (nil_from_length text (sym (length-map text lower) ∙ ap length e));
  no_slash = no_slash-map text s.no_slash;
}

-- A module path with its host in lower case is a module path.
IsModulePath-lower : (text : List ℕ) → IsModulePath text → IsModulePath (lower_host text)
IsModulePath-lower text p = record {
  host = map lower p.host;
  module_name = p.module_name;
  rest = p.rest;
  whole = rw p.whole (lower_host-append p.host (47 ∷ (p.module_name ++ p.rest)) p.host_is.no_slash refl);
  host_is = IsSegment-lower p.host p.host_is;
  module_is = p.module_is;
  rest_is = p.rest_is;
}

-- A lookup key has the scheme of its URI.
HasScheme-lookup_key : (scheme uri : List ℕ) → HasScheme scheme uri → HasScheme scheme (lookup_key uri)
HasScheme-lookup_key scheme uri s =
    let n = 8 + segment_len (drop 8 uri) in
    let front = All-map IsUriOctet lower (take n uri) (All-weaker IsUriOctet (λ c. IsUriOctet (lower c)) IsUriOctet-lower (take n uri) (All-take IsUriOctet n uri s.plain)) in
    record {
      plain = All-same IsUriOctet (lookup_key uri) _ (lookup_key-split uri n refl) (All-append IsUriOctet (map lower (take n uri)) (drop n uri) front (All-drop IsUriOctet n uri s.plain));
      scheme_is = ap (map lower) (lookup_key-parts uri).front ∙ map-lower-lower (take 8 uri) ∙ s.scheme_is;
    }

-- The lookup key of an rsync URI is one.
pub IsRsync-lookup_key : (uri : List ℕ) → IsRsync uri → IsRsync (lookup_key uri)
IsRsync-lookup_key uri r =
    let parts = HasScheme-from_rsync uri r in
    IsRsync-from_parts (lookup_key uri) (HasScheme-lookup_key _ uri parts.0) (rw (lookup_key-parts uri).back (IsModulePath-lower (drop 8 uri) parts.1))

-- The lookup key of an https URI is one.
pub IsHttps-lookup_key : (uri : List ℕ) → IsHttps uri → IsHttps (lookup_key uri)
IsHttps-lookup_key uri r =
    let parts = HasScheme-from_https uri r in
    IsHttps-from_parts (lookup_key uri) (HasScheme-lookup_key _ uri parts.0) (rw ((lookup_key-parts uri).back, segment_len-lower_host) parts.1)

-- The lookup key of a URI is a URI.
pub IsUri-lookup_key : (uri : List ℕ) → IsUri uri → IsUri (lookup_key uri)
IsUri-lookup_key uri (inl r) = inl (IsRsync-lookup_key uri r)
IsUri-lookup_key uri (inr r) = inr (IsHttps-lookup_key uri r)

-- The lookup key of a URI is a lookup key.
pub IsLookupKey-lookup_key : (uri : List ℕ) → IsUri uri → IsLookupKey (lookup_key uri)
IsLookupKey-lookup_key uri u = record { uri = IsUri-lookup_key uri u; own_key = lookup_key-lookup_key uri }

-- The order of texts tells them apart.
pub order_tells : (a b : List ℕ) → (slice_cmp nat_cmp a b ≡ Equal) ↔ (a ≡ b)
order_tells a b =
    let same = is_eq-slice_cmp a b in
    let texts = bytes_eq-Decides a b in
    let test = Equal-is (slice_cmp nat_cmp a b) in
    (λ e. texts.0 (sym same ∙ test.1 e), λ e. test.0 (same ∙ texts.1 e))
