-- rsync and https URIs (RFC 5781 section 2, RFC 3986 section 3; the characters, equality and lookup keys are this project's own).
use Rattle.std.specs.Prelude.{◌≡◌, ℕ, ◌+◌, ◌≤◌, ◌≢◌, ◌⊎◌, ◌&&◌, ◌==◌, nat_le, if◌then◌else◌, List, [], ◌∷◌, ◌++◌, map, take, drop, codes, All}

-- A lower-case letter for a capital one, all else as it is.
abbrev pub lower : ℕ → ℕ
lower c = if nat_le 65 c && nat_le c 90 then c + 32 else c

-- What URIs are written in: 21 to 7E.
abbrev pub IsUriOctet : ℕ → Type 0
IsUriOctet c = (33 ≤ c) × (c ≤ 126)

-- A host or a module: not empty, and without a slash (47).
pub record IsSegment (text : List ℕ) : Type 0 where
  pub some : text ≢ []
  pub no_slash : All (λ c. c ≢ 47) text

-- Nothing, or a slash and a path, which may be empty.
abbrev pub IsRest : List ℕ → Type 0
IsRest [] = Unit {0}
IsRest (c ∷ path) = c ≡ 47

-- rsync://HOST/MODULE, and then nothing or a slash and a path; the scheme in any case.
pub record IsRsync (uri : List ℕ) : Type 0 where
  pub scheme : List ℕ
  pub host : List ℕ
  pub module_name : List ℕ
  pub rest : List ℕ
  pub whole : uri ≡ scheme ++ (host ++ (47 ∷ (module_name ++ rest)))
  pub plain : All IsUriOctet uri
  pub scheme_is : map lower scheme ≡ codes "rsync://"
  pub host_is : IsSegment host
  pub module_is : IsSegment module_name
  pub rest_is : IsRest rest

-- https://HOST, and then nothing or a slash and a path; the scheme in any case.
pub record IsHttps (uri : List ℕ) : Type 0 where
  pub scheme : List ℕ
  pub host : List ℕ
  pub rest : List ℕ
  pub whole : uri ≡ scheme ++ (host ++ rest)
  pub plain : All IsUriOctet uri
  pub scheme_is : map lower scheme ≡ codes "https://"
  pub host_is : IsSegment host
  pub rest_is : IsRest rest

abbrev pub IsUri : List ℕ → Type 0
IsUri uri = IsRsync uri ⊎ IsHttps uri

-- Lower case up to the first slash.
abbrev pub lower_host : List ℕ → List ℕ
lower_host [] = []
lower_host (c ∷ text) = if c == 47 then c ∷ text else lower c ∷ lower_host text

-- The URI with scheme and host in lower case; both schemes have 8 octets with their `://`.
abbrev pub lookup_key : List ℕ → List ℕ
lookup_key uri = map lower (take 8 uri) ++ lower_host (drop 8 uri)

-- A URI that is its own lookup key.
pub record IsLookupKey (text : List ℕ) : Type 0 where
  pub uri : IsUri text
  pub own_key : lookup_key text ≡ text

-- Written in URI octets alone, and its first 8 octets are the scheme in any case.
pub record HasScheme (scheme uri : List ℕ) : Type 0 where
  pub plain : All IsUriOctet uri
  pub scheme_is : map lower (take 8 uri) ≡ scheme

-- What comes after `rsync://`: a host, a slash and a module, and then nothing or a slash and a path.
pub record IsModulePath (text : List ℕ) : Type 0 where
  pub host : List ℕ
  pub module_name : List ℕ
  pub rest : List ℕ
  pub whole : text ≡ host ++ (47 ∷ (module_name ++ rest))
  pub host_is : IsSegment host
  pub module_is : IsSegment module_name
  pub rest_is : IsRest rest
