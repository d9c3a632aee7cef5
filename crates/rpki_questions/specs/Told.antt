-- What is printed of the facts about a name or a URI: a line each, or one JSON object.
use Rattle.std.specs.Prelude.{◌≡◌, ℕ, Bool, true, false, ◌||◌, List, [], ◌∷◌, ◌++◌, bytes_eq, codes, filter, flat_map, map}
use Rattle.std.specs.List.{list_any}
use Rattle.rpki_questions.specs.certs_basics.Uris.{lookup_key}
use Rattle.rpki_validator.specs.rpki_rules.Attests.{WitnessValue}
use Rattle.rpki_validator.specs.rpki_rules.Report.{ReportValue, IsReport}
use Rattle.rpki_validator.specs.rpki_rules.Views.{PathValue, path_of}
use Rattle.rpki_validator.specs.rpki_rules.World.{World}
use Rattle.rpki_validator.specs.rpki_walk.Chained.{AreNamingChains}
use Rattle.rpki_validator.specs.rpki_walk.Diagnosed.{ToldValue}
use Rattle.rpki_questions.specs.Chained.{path_members, path_text}
use Rattle.rpki_reasons.specs.Json.{json_array, json_string}
use Rattle.rpki_questions.specs.Lists.{is_some_list}
use Rattle.rpki_questions.specs.Orders.{refused_of}
use Rattle.rpki_questions.specs.Refused.{AreRefused, refused_line, refused_object}
use Rattle.rpki_questions.specs.declared.telling.Found.{Found}

-- What is good by which chain, and which chain names a URI.
abbrev pub good_line : WitnessValue → List ℕ
good_line t = codes "good " ++ (t.object ++ (codes " " ++ path_text t.locator t.chain))

abbrev pub good_object : WitnessValue → List ℕ
good_object t =
    codes "{\"object\":" ++ (json_string t.object ++ (codes "," ++ path_members t.locator t.chain))

abbrev pub chain_line : PathValue → List ℕ
chain_line v = codes "chain " ++ path_text v.locator v.chain

abbrev pub chain_object : PathValue → List ℕ
chain_object v = codes "{" ++ path_members v.locator v.chain

-- What is refused has that name, or is the URI with that lookup key.
abbrev pub refuses : List ℕ → List ℕ → ToldValue → Bool
refuses name key t = bytes_eq t.diagnosis.name key || bytes_eq t.diagnosis.name name

-- The witness has that lookup key: as its object, or on its chain.
abbrev pub has_key : List ℕ → WitnessValue → Bool
has_key key t = bytes_eq t.object key || list_any (λ uri. bytes_eq uri key) t.chain

-- All facts about a name or a URI.
pub record Facts : Type 0 where
  pub refused : List ToldValue
  pub witnesses : List WitnessValue
  pub paths : List PathValue

-- Those of all that is refused, those of a report, and the chains that name the URI.
abbrev pub facts_about : List ℕ → List ToldValue → ReportValue → List PathValue → Facts
facts_about name refused r paths = record {
  refused = filter (refuses name (lookup_key name)) refused;
  witnesses = filter (has_key (lookup_key name)) r.witnesses;
  paths = paths;
}

-- Those in what was found for a name or a URI.
abbrev pub facts_in : Found → Facts
facts_in f =
    facts_about f.name.now (map refused_of f.refused.now) f.report.now
    (map (λ path. path_of path.value) f.chains.now)

abbrev pub facts_text : Bool → Facts → List ℕ
facts_text false f =
    flat_map refused_line f.refused
    ++ (flat_map good_line f.witnesses ++ flat_map chain_line f.paths)
facts_text true f =
    codes "{\"refused\":" ++ (json_array refused_object f.refused
    ++ (codes ",\"good\":" ++ (json_array good_object f.witnesses
    ++ (codes ",\"chains\":" ++ (json_array chain_object f.paths ++ codes "}\n")))))

-- There is a fact.
abbrev pub is_some : Facts → Bool
is_some f = is_some_list f.refused || (is_some_list f.witnesses || is_some_list f.paths)

-- All facts about the name or URI are told; a yes is that there is one.
pub record Tells (w : World) (json : Bool) (name : List ℕ)
    (yes : Bool) (text : List ℕ) : Type 0 where
  pub refused : List ToldValue
  pub all : AreRefused w refused
  pub report : ReportValue
  pub reported : IsReport w report
  pub paths : List PathValue
  pub naming : AreNamingChains (name ∷ []) w paths
  pub some : yes ≡ is_some (facts_about name refused report paths)
  pub text_is : text ≡ facts_text json (facts_about name refused report paths)
