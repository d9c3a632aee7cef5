-- Within which limits a folder is read.
use Rattle.std.specs.Prelude.{◌≡◌, ◌≢◌, ℕ, ◌+◌, ◌^◌, ◌<◌, ◌≤◌, ◌⊎◌, Result, Ok, Err, Option, Some, None, List, [], ◌∷◌, ◌++◌, All, IfSome, codes, length, string_bytes}
use Rattle.std.specs.List.{sum_by}
use Rattle.rpki_commands.specs.rpki_bundle.declared.parts.Locator.{Locator}
use Rattle.rpki_commands.specs.rpki_bundle.declared.parts.Object.{Object}
use Rattle.rpki_commands.specs.declared.folder.ReadFault.{ReadFault}
use Rattle.rpki_commands.specs.declared.folder.parts.Contents.{Contents}
use Rattle.rpki_commands.specs.declared.folder.walk.Pending.{Pending}
use Rattle.rpki_commands.specs.declared.folder.walk.Walk.{Walk}

-- The octets of all locators and objects together.
abbrev pub octets_kept : List Locator → List Object → ℕ
octets_kept locators objects =
    sum_by (λ l. length l.text) locators + sum_by (λ o. length o.octets) objects

-- What a file or a folder is called where it stands: no slash (47) is in it.
abbrev pub IsEntryName : List ℕ → Type 0
IsEntryName name = All (λ octet. octet ≢ 47) name

-- Names of folders that stand in each other, and of what stands in the last, a slash in front of each.
abbrev pub path_of : List (List ℕ) → List ℕ
path_of [] = []
path_of (name ∷ names) = 47 ∷ (name ++ path_of names)

-- The folder `rsync` is `rsync:/`, and the folder `https` is `https:/`.
abbrev pub IsScheme : List ℕ → Type 0
IsScheme text = (text ≡ codes "rsync:/") ⊎ (text ≡ codes "https:/")

-- The URI of what stands so many levels below `rsync` or `https`: that of its scheme, with the names on the way.
pub record IsAtLevel (level : ℕ) (uri : List ℕ) : Type 0 where
  pub scheme : List ℕ
  pub names : List (List ℕ)
  pub scheme_is : IsScheme scheme
  pub whole : uri ≡ scheme ++ path_of names
  pub names_are : All IsEntryName names
  pub level_is : length names ≡ level

-- The URI of a file: at least one folder is above it, which is `rsync` or `https`, and at most 64.
pub record IsFileUri (uri : List ℕ) : Type 0 where
  pub level : ℕ
  pub some : 1 ≤ level
  pub few : level ≤ 64
  pub at_level : IsAtLevel level uri

-- What was read of a folder is within its limits.
pub record IsWithin (c : Contents) : Type 0 where
  pub moment : length c.moment.items ≤ 64
  pub depth : length c.depth.items ≤ 64
  pub relaxed : IfSome c.relaxed (λ text. length text.items ≤ 64)
  pub verdicts : length c.verdicts.items ≤ 2 ^ 32
  pub entries : length c.locators.items + length c.objects.items ≤ 1000000
  pub octets : octets_kept c.locators.items c.objects.items < 2 ^ 32
  pub names : All (λ l. IsEntryName l.name) c.locators.items
  pub uris : All (λ o. IsFileUri o.uri) c.objects.items

-- What reading a folder answers: contents within the limits, or none, where its files have more octets than a bundle can
-- hold, or a fault. No clause can say which of them a folder on a disk has.
abbrev pub IsReading : Result (Option Contents) ReadFault → Type 0
IsReading (Ok (Some c)) = IsWithin c
IsReading (Ok None) = Unit {0}
IsReading (Err fault) = Unit {0}

-- A folder that is still to be listed has at most 63 above it.
pub record IsPending (p : Pending) : Type 0 where
  pub above : ℕ
  pub level_is : above + 1 ≡ p.level
  pub few : p.level ≤ 64
  pub at_level : IsAtLevel above (string_bytes p.uri)

-- What was read so far is within the limits together with all that may still be read, and with so many entries that are
-- counted already and not read yet.
pub record IsWalked (counted : ℕ) (w : Walk) : Type 0 where
  pub entries :
      length w.locators.items + length w.objects.items + counted + w.entries_left ≤ 1000000
  pub octets : octets_kept w.locators.items w.objects.items + w.octets_left ≤ 2 ^ 32
  pub names : All (λ l. IsEntryName l.name) w.locators.items
  pub uris : All (λ o. IsFileUri o.uri) w.objects.items
  pub pending : All IsPending w.pending.items
