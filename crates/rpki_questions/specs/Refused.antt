-- What is printed of all that is refused: on each chain with its reason, a line each, or one JSON object.
use Rattle.std.specs.Prelude.{◌≡◌, ◌↔◌, ℕ, Bool, true, false, List, ◌++◌, codes, flat_map, map}
use Rattle.std.specs.declared.cmp.Ordering.{Ordering}
use Rattle.std.specs.Ordering.{nat_cmp, ordering_then}
use Rattle.std.specs.Cmp.Lexicographic.{slice_cmp}
use Rattle.std.specs.List.Sorted.{IsStrictlySortedBy}
use Rattle.rpki_rules.specs.Words.{Mem}
use Rattle.rpki_rules.specs.World.{World}
use Rattle.rpki_rules.specs.Lines.{cause_text, refusal_cmp}
use Rattle.rpki_rules.specs.Diagnoses.{DiagnosisValue, IsDiagnosis, IsTold, cause_of, refusal_in}
use Rattle.rpki_validator.specs.rpki_walk.Diagnosed.{ToldValue}
use Rattle.rpki_questions.specs.Chained.{path_members, path_text}
use Rattle.rpki_reasons.specs.Json.{json_array, json_string}
use Rattle.rpki_questions.specs.Lists.{is_some_list}
use Rattle.rpki_reasons.specs.Reasons.{reason_names, reason_text}

-- By name and cause, as refusals are printed, and then by locator and chain.
abbrev pub diagnosed_cmp : DiagnosisValue → DiagnosisValue → Ordering
diagnosed_cmp d e =
    ordering_then (refusal_cmp (refusal_in d) (refusal_in e))
    (ordering_then (slice_cmp nat_cmp d.locator e.locator)
    (slice_cmp (slice_cmp nat_cmp) d.chain e.chain))

abbrev pub told_cmp : ToldValue → ToldValue → Ordering
told_cmp t u = diagnosed_cmp t.diagnosis u.diagnosis

-- Exactly the diagnoses of the world, each once, in that order, and of a claim that isn't held each
-- tells just the numbers that aren't.
pub record AreRefused (w : World) (ts : List ToldValue) : Type 0 where
  pub ascend : IsStrictlySortedBy told_cmp ts
  pub exact : (d : DiagnosisValue) → Mem (map (λ t. t.diagnosis) ts) d ↔ IsDiagnosis w d
  pub told : (t : ToldValue) → Mem ts t → IsTold w t.diagnosis t.numbers

-- refused NAME CAUSE: REASON; by LOCATOR URI ..
abbrev pub refused_head : DiagnosisValue → List ℕ
refused_head d =
    codes "refused " ++ (d.name ++ (codes " " ++ (cause_text (cause_of d.reason) ++ codes ": ")))

abbrev pub refused_line : ToldValue → List ℕ
refused_line t =
    refused_head t.diagnosis
    ++ (reason_text false t.diagnosis.reason
    ++ (reason_names false t.diagnosis.reason t.numbers
    ++ (codes "; by " ++ path_text t.diagnosis.locator t.diagnosis.chain)))

-- {"name":..,"cause":..,"reason":..,"locator":..,"chain":[..]}, and what the reason names behind it
abbrev pub refused_members : DiagnosisValue → List ℕ
refused_members d =
    codes "{\"name\":" ++ (json_string d.name
    ++ (codes ",\"cause\":" ++ (json_string (cause_text (cause_of d.reason))
    ++ codes ",\"reason\":\"")))

abbrev pub refused_object : ToldValue → List ℕ
refused_object t =
    refused_members t.diagnosis
    ++ (reason_text true t.diagnosis.reason
    ++ (codes "\"" ++ (reason_names true t.diagnosis.reason t.numbers
    ++ (codes "," ++ path_members t.diagnosis.locator t.diagnosis.chain))))

abbrev pub refusals_text : Bool → List ToldValue → List ℕ
refusals_text false ts = flat_map refused_line ts
refusals_text true ts = codes "{\"refused\":" ++ (json_array refused_object ts ++ codes "}\n")

-- All that is refused is told; a yes is that something is.
pub record TellsRefusals (w : World) (json : Bool) (yes : Bool) (text : List ℕ) : Type 0 where
  pub refused : List ToldValue
  pub all : AreRefused w refused
  pub some : yes ≡ is_some_list refused
  pub text_is : text ≡ refusals_text json refused
