-- What is asked of locators and authorities, and what is answered.
use Rattle.std.specs.Prelude.{◌≡◌, ℕ, ◌↔◌, Bool, List, Option, Some, None, Vec, map, bytes_eq}
use Rattle.std.specs.Global.{Global}
use Rattle.std.specs.Cmp.Lexicographic.{slice_cmp}
use Rattle.std.specs.List.{list_any}
use Rattle.std.specs.List.Sorted.{IsSorted}
use Rattle.std.specs.Ordering.{nat_cmp}
use Rattle.rpki_walk.specs.rpki_bundle.declared.parts.Locator.{Locator}
use Rattle.rpki_walk.specs.rpki_bundle.Uris.{lookup_key}
use Rattle.rpki_rules.specs.Certs.{Key, Cert}
use Rattle.rpki_rules.specs.Locators.{LocatorText}
use Rattle.rpki_rules.specs.Words.{Mem}
use Rattle.rpki_rules.specs.World.{World}
use Rattle.rpki_rules.specs.Reach.{IsOneOf, Names, Answer, Locates, Held as HeldAnswer}
use Rattle.rpki_walk.specs.declared.reach.answer.Reach.{Reach}
use Rattle.rpki_walk.specs.declared.reach.answer.Reach.TheVariants as Is

-- The lookup keys of a locator's URIs, in its order, or nothing where the text is no locator's (RFC 8630 2.2).
abbrev pub AreLocatorKeys : Locator → Option (Vec (List ℕ) Global) → Type 0
AreLocatorKeys l None = (uris : List (List ℕ)) (key : Key) → ¬ (LocatorText l.text uris key)
AreLocatorKeys l (Some keys) =
    (uris : List (List ℕ)) × (key : Key) × LocatorText l.text uris key
    × (keys.items ≡ map lookup_key uris)

-- Just the lookup keys that the authority names.
abbrev pub AreNamed : World → Cert → List (List ℕ) → Type 0
AreNamed w ca keys = (key : List ℕ) → Mem keys key ↔ Names w ca key

-- As a test: the key is that of one of the URIs; one of the keys is.
abbrev pub names_key : List (List ℕ) → List ℕ → Bool
names_key uris key = list_any (λ uri. bytes_eq key (lookup_key uri)) uris

abbrev pub names_any : List (List ℕ) → List (List ℕ) → Bool
names_any uris keys = list_any (λ key. list_any (λ uri. bytes_eq key (lookup_key uri)) uris) keys

-- The keys ascend, and are those of the URIs.
pub record AreSortedKeys (uris keys : List (List ℕ)) : Type 0 where
  pub same : (key : List ℕ) → list_any (λ k. bytes_eq key k) keys ≡ names_key uris key
  pub ascend : IsSorted (slice_cmp nat_cmp) keys

-- One of the keys is that of one of the URIs.
pub record NamesOneOf (uris keys : List (List ℕ)) : Type 0 where
  pub key : List ℕ
  pub listed : Mem keys key
  pub one : IsOneOf uris key

-- The locator reads and names one of the URIs.
pub record LocatorNames (uris : List (List ℕ)) (l : Locator) : Type 0 where
  pub named : List (List ℕ)
  pub key : Key
  pub reads : LocatorText l.text named key
  pub uri : List ℕ
  pub one : Mem named uri
  pub forged : IsOneOf uris (lookup_key uri)

-- The answer that the value stands for.
abbrev pub answer_of : Reach → Answer
answer_of Is.Locator = Locates
answer_of (Is.Held set) = HeldAnswer set
