-- Chains as they are printed.
use Rattle.std.specs.Prelude.{ℕ, List, [], ◌∷◌, ◌++◌, codes, flat_map}
use Rattle.rpki_reasons.specs.Json.{json_array, json_string}

-- A locator's name, and the lookup keys of a chain, at the end of a line (10); and as the last members of an object.
abbrev pub path_text : List ℕ → List (List ℕ) → List ℕ
path_text locator chain = locator ++ (flat_map (λ uri. 32 ∷ uri) chain ++ 10 ∷ [])

abbrev pub path_members : List ℕ → List (List ℕ) → List ℕ
path_members locator chain =
    codes "\"locator\":" ++ (json_string locator
    ++ (codes ",\"chain\":" ++ (json_array json_string chain ++ codes "}")))
