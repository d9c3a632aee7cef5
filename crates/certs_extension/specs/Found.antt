-- Access descriptions one by one, and what they say so far.
use Rattle.std.specs.Prelude.{◌≡◌, ◌⊎◌, ◌≢◌, ℕ, Bool, true, false, List, [], Option, Some, None}
use Rattle.certs_extension.specs.bcder_tree.declared.mode.Mode.{Mode}
use Rattle.certs_extension.specs.bcder_tree.Tree.{Trees}
use Rattle.certs_extension.specs.bcder_content.Words.{Gathers}
use Rattle.certs_basics.specs.Identifiers as id
use Rattle.certs_basics.specs.Uris.{IsRsync, IsHttps}
use Rattle.certs_extension.specs.declared.access.subject.Description.{Description}
use Rattle.certs_extension.specs.Access.{AccessValue, Entry, as_entry, IsEntry, HasUri, IsFirst}

abbrev pub description_fields : Description → List ℕ × Option (List ℕ)
description_fields d = (d.method.0, d.name)

abbrev pub entry_of : Description → Entry
entry_of d = as_entry (description_fields d)

-- The URI of a method that is known, with one more text of that method: the first stays.
abbrev pub Keeps : (List ℕ → Type 0) → List ℕ → Option (List ℕ) → Option (List ℕ) → Type 0
Keeps P text (Some uri) new = new ≡ Some uri
Keeps P text None new = (P text × (new ≡ Some text)) ⊎ ((P text → ⊥) × (new ≡ None))

-- The URI of a method that is known, with one more entry: the first stays.
abbrev pub Adds : (List ℕ → Type 0) → List ℕ → Entry → Option (List ℕ) → Option (List ℕ) → Type 0
Adds P method e (Some uri) new = new ≡ Some uri
Adds P method e None new =
    ((uri : List ℕ) × HasUri P method e uri × (new ≡ Some uri))
    ⊎ (((uri : List ℕ) → HasUri P method e uri → ⊥) × (new ≡ None))

-- What is known with one more entry.
pub record AddsEntry (e : Entry) (old new : AccessValue) : Type 0 where
  pub repository : Adds IsRsync id.ca_repository e old.repository new.repository
  pub manifest : Adds IsRsync id.rpki_manifest e old.manifest new.manifest
  pub object : Adds IsRsync id.signed_object e old.object new.object
  pub notify : Adds IsHttps id.rpki_notify e old.notify new.notify

-- What entries say, and whether there are any.
pub record SaysSoFar (entries : List Entry) (s : AccessValue × Bool) : Type 0 where
  pub none : s.1 ≡ false → entries ≡ []
  pub some : s.1 ≡ true → entries ≢ []
  pub repository : IsFirst IsRsync id.ca_repository entries s.0.repository
  pub manifest : IsFirst IsRsync id.rpki_manifest entries s.0.manifest
  pub object : IsFirst IsRsync id.signed_object entries s.0.object
  pub notify : IsFirst IsHttps id.rpki_notify entries s.0.notify

abbrev pub AreFound : Mode → Trees → AccessValue × Bool → Type 0
AreFound m = Gathers (IsEntry m) SaysSoFar

abbrev pub found_of : AccessValue × Bool → AccessValue × Bool
found_of s = s
