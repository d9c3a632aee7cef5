-- What is printed of how many accepted chains go on below each authority: a line each, or one JSON object.
use Rattle.std.specs.Prelude.{◌≡◌, ℕ, Bool, true, false, List, [], ◌∷◌, ◌++◌, codes, decimal, flat_map, map}
use Rattle.rpki_validator.specs.rpki_rules.World.{World}
use Rattle.rpki_validator.specs.rpki_walk.Cost.{CountValue, IsCost, count_of}
use Rattle.rpki_validator.specs.rpki_walk.declared.cost.count.Cost.{Cost}
use Rattle.rpki_validator.specs.rpki_walk.declared.cost.count.Cost.TheVariants as Is
use Rattle.rpki_reasons.specs.Json.{json_array, json_bool, json_string}

-- The number of chains, and the authority's lookup key; and a line feed (10).
abbrev pub count_line : CountValue → List ℕ
count_line x = decimal x.chains ++ (codes " " ++ (x.authority ++ 10 ∷ []))

abbrev pub count_object : CountValue → List ℕ
count_object x =
    codes "{\"chains\":" ++ (decimal x.chains
    ++ (codes ",\"authority\":" ++ (json_string x.authority ++ codes "}")))

-- All accepted chains were counted, and not only as many as the limit says.
abbrev pub is_exact : Cost → Bool
is_exact (Is.Exactly counts) = true
is_exact (Is.AtLeast counts) = false

abbrev pub counts_of : Cost → List CountValue
counts_of (Is.Exactly counts) = map count_of counts.items
counts_of (Is.AtLeast counts) = map count_of counts.items

abbrev pub exact_line : Bool → List ℕ
exact_line true = codes "exactly\n"
exact_line false = codes "at least\n"

abbrev pub cost_text : Bool → Bool → List CountValue → List ℕ
cost_text false exact counts = exact_line exact ++ flat_map count_line counts
cost_text true exact counts =
    codes "{\"exact\":" ++ (json_bool exact
    ++ (codes ",\"below\":" ++ (json_array count_object counts ++ codes "}\n")))

-- The cost within that limit is told; a yes is that all accepted chains were counted.
pub record Costs (w : World) (json : Bool) (limit : ℕ) (yes : Bool) (text : List ℕ) : Type 0 where
  pub cost : Cost
  pub counted : IsCost w limit cost
  pub exact : yes ≡ is_exact cost
  pub text_is : text ≡ cost_text json yes (counts_of cost)
