-- Paths of URIs, all of it this project's own.
use Rattle.std.specs.Prelude.{◌≡◌, ℕ, zero, suc, ◌||◌, ◌==◌, if◌then◌else◌, Bool, false, List, [], ◌∷◌, ◌++◌, Option, Some, None}
use Rattle.certs_basics.specs.Uris.{lookup_key}

abbrev pub ends_with_slash : List ℕ → Bool
ends_with_slash [] = false
ends_with_slash (c ∷ []) = c == 47
ends_with_slash (c ∷ d ∷ text) = ends_with_slash (d ∷ text)

-- The URI with a slash at its end, and the name after it.
abbrev pub join : List ℕ → List ℕ → List ℕ
join uri name = (if ends_with_slash uri then uri else uri ++ 47 ∷ []) ++ name

-- What comes after so many slashes, nothing where there are fewer.
abbrev pub behind_slashes : ℕ → List ℕ → List ℕ
behind_slashes n [] = []
behind_slashes zero (c ∷ text) = c ∷ text
behind_slashes (suc n) (c ∷ text) =
    if c == 47 then behind_slashes n text else behind_slashes (suc n) text

-- Less one slash at the end.
abbrev pub without_slash : List ℕ → List ℕ
without_slash [] = []
without_slash (c ∷ []) = if c == 47 then [] else c ∷ []
without_slash (c ∷ d ∷ text) = c ∷ without_slash (d ∷ text)

abbrev pub has_slash : List ℕ → Bool
has_slash [] = false
has_slash (c ∷ text) = (c == 47) || has_slash text

-- The text to its last slash, that slash included.
abbrev pub to_last_slash : List ℕ → List ℕ
to_last_slash [] = []
to_last_slash (c ∷ text) = if has_slash (c ∷ text) then c ∷ to_last_slash text else []

-- The folder of an rsync URI: less one slash at its end and its last segment; none where no path is after the module.
abbrev pub parent_behind : List ℕ → List ℕ → Option (List ℕ)
parent_behind [] uri = None
parent_behind (c ∷ path) uri = Some (to_last_slash (without_slash uri))

abbrev pub parent : List ℕ → Option (List ℕ)
parent uri = parent_behind (behind_slashes 4 uri) uri

-- Two URIs are the same but for case in scheme and host, and for one slash at the end.
abbrev pub IsIdenticalTo : List ℕ → List ℕ → Type 0
IsIdenticalTo a b = without_slash (lookup_key a) ≡ without_slash (lookup_key b)

-- The manifest lies in the repository (RFC 6487 4.8.8.1).
pub record LiesIn (manifest repository : List ℕ) : Type 0 where
  pub folder : List ℕ
  pub parent_is : parent manifest ≡ Some folder
  pub same : IsIdenticalTo folder repository
