-- What is written of bundles and of their entries: the codec's encoders, by the words of its specification.
use Rattle.std.specs.Prelude.{ℕ, ◌^◌, List}
use Rattle.rpki_bundle.specs.bcder_tree.declared.mode.Mode.{Mode}
use Rattle.rpki_bundle.specs.bcder_tree.declared.mode.Mode.TheVariants.{Der}
use Rattle.rpki_bundle.specs.bcder_tree.Tags.{TagValue, boolean_tag, generalized_time_tag, ia5_string_tag, integer_tag, octet_string_tag, printable_string_tag, sequence_tag}
use Rattle.rpki_bundle.specs.bcder_tree.Tree.{Trees}
use Rattle.rpki_bundle.specs.bcder_primitive.Values.{AnyOctets, IsBoolean}
use Rattle.rpki_bundle.specs.bcder_primitive.Encoded.{NoTree, NoText, IsPlain, WritesPlain, IsWrapped, WritesWrapped, AreBoth, WritesBoth, SpellsSome}
use Rattle.rpki_bundle.specs.bcder_primitive.Integers.{WritesUnsigned}
use Rattle.rpki_bundle.specs.bcder_octets.Segments.{StringTrees, WritesString, string_spelled, string_one}
use Rattle.rpki_bundle.specs.bcder_values.Choices.{nothing_spelled, nothing_one}
use Rattle.rpki_bundle.specs.bcder_values.Laws.{both_spelled, both_one}
use Rattle.rpki_bundle.specs.bcder_values.Lists.{AreAll, WritesAll, all_spelled, all_one}
use Rattle.rpki_bundle.specs.bcder_values.Plains.{plain_spelled, plain_one}
use Rattle.rpki_bundle.specs.bcder_primitive.Simple.{one_boolean, one_string}
use Rattle.rpki_bundle.specs.bcder_values.Wraps.{wrapped_spelled, wrapped_one}
use Rattle.std.proofs.Common.{◌≡◌}
use Rattle.rpki_bundle.specs.declared.parts.Locator.{Locator}
use Rattle.rpki_bundle.specs.declared.parts.Object.{Object}
use Rattle.rpki_bundle.specs.declared.parts.Verdict.{Verdict}
use Rattle.rpki_bundle.specs.declared.version.Version.{Version}
use Rattle.rpki_bundle.specs.declared.version.Version.TheVariants.{Zero, One}
use Rattle.rpki_bundle.specs.Bundle.{BundleValue, number_of}

-- One primitive value of that tag.
abbrev pub IsText : TagValue → List ℕ → Trees → Type 0
IsText tag octets = IsPlain tag (λ c. AnyOctets c octets)

abbrev pub WritesText : Mode → TagValue → List ℕ → List ℕ → Type 0
WritesText m tag octets = WritesPlain m tag (λ c. AnyOctets c octets)

-- One INTEGER.
abbrev pub IsInteger : ℕ → Trees → Type 0
IsInteger n = IsPlain integer_tag (WritesUnsigned (2 ^ 8) n)

abbrev pub WritesInteger : Mode → ℕ → List ℕ → Type 0
WritesInteger m n = WritesPlain m integer_tag (WritesUnsigned (2 ^ 8) n)

-- Two strings, or three primitive ones, in a SEQUENCE.
abbrev pub IsPair : Mode → TagValue → List ℕ → List ℕ → Trees → Type 0
IsPair m tag a b =
    IsWrapped sequence_tag (AreBoth (StringTrees m tag a) (StringTrees m octet_string_tag b))

abbrev pub WritesPair : Mode → TagValue → List ℕ → List ℕ → List ℕ → Type 0
WritesPair m tag a b = WritesWrapped m sequence_tag
    (WritesBoth (WritesString m tag a) (WritesString m octet_string_tag b))

abbrev pub IsTriple : List ℕ → List ℕ → List ℕ → Trees → Type 0
IsTriple a b c = IsWrapped sequence_tag (AreBoth (IsText octet_string_tag a)
    (AreBoth (IsText octet_string_tag b) (IsText octet_string_tag c)))

abbrev pub WritesTriple : Mode → List ℕ → List ℕ → List ℕ → List ℕ → Type 0
WritesTriple m a b c = WritesWrapped m sequence_tag
    (WritesBoth (WritesText m octet_string_tag a)
    (WritesBoth (WritesText m octet_string_tag b) (WritesText m octet_string_tag c)))

-- The entries of lists.
abbrev pub AreLocator : Locator → Mode → Trees → Type 0
AreLocator l m = IsPair m printable_string_tag l.name l.text

abbrev pub WritesLocator : Locator → Mode → List ℕ → Type 0
WritesLocator l m = WritesPair m printable_string_tag l.name l.text

abbrev pub AreObject : Object → Mode → Trees → Type 0
AreObject o m = IsPair m ia5_string_tag o.uri o.octets

abbrev pub WritesObject : Object → Mode → List ℕ → Type 0
WritesObject o m = WritesPair m ia5_string_tag o.uri o.octets

abbrev pub AreVerdict : Verdict → Mode → Trees → Type 0
AreVerdict v m = IsTriple v.key v.message v.signature

abbrev pub WritesVerdict : Verdict → Mode → List ℕ → Type 0
WritesVerdict v m = WritesTriple m v.key v.message v.signature

-- What is written behind the depth: in version 1 a BOOLEAN, in version 0 nothing.
abbrev pub IsFlag : Version → Trees → Type 0
IsFlag Zero = NoTree
IsFlag (One relaxed) = IsPlain boolean_tag (λ c. IsBoolean Der c relaxed)

abbrev pub WritesFlag : Mode → Version → List ℕ → Type 0
WritesFlag m Zero = NoText
WritesFlag m (One relaxed) = WritesPlain m boolean_tag (λ c. IsBoolean Der c relaxed)

-- The lists of a bundle, one after the other.
abbrev pub ListTrees : List Locator → List Object → List Verdict → Mode → Trees → Type 0
ListTrees ls os vs m =
    AreBoth (IsWrapped sequence_tag (AreAll (λ l. AreLocator l m) ls))
    (AreBoth (IsWrapped sequence_tag (AreAll (λ o. AreObject o m) os))
    (IsWrapped sequence_tag (AreAll (λ v. AreVerdict v m) vs)))

abbrev pub WritesLists : List Locator → List Object → List Verdict → Mode → List ℕ → Type 0
WritesLists ls os vs m =
    WritesBoth (WritesWrapped m sequence_tag (WritesAll (λ l. WritesLocator l m) ls))
    (WritesBoth (WritesWrapped m sequence_tag (WritesAll (λ o. WritesObject o m) os))
    (WritesWrapped m sequence_tag (WritesAll (λ v. WritesVerdict v m) vs)))

-- The members of a bundle, by the number of its version and by what is written of its lists.
abbrev pub AreMembers : ℕ → Version → List ℕ → ℕ → (Trees → Type 0) → Trees → Type 0
AreMembers number version text depth P =
    IsWrapped sequence_tag (AreBoth (IsInteger number)
    (AreBoth (IsText generalized_time_tag text)
    (AreBoth (IsInteger depth) (AreBoth (IsFlag version) P))))

abbrev pub WritesMembers : Mode → ℕ → Version → List ℕ → ℕ → (List ℕ → Type 0) → List ℕ → Type 0
WritesMembers m number version text depth P =
    WritesWrapped m sequence_tag (WritesBoth (WritesInteger m number)
    (WritesBoth (WritesText m generalized_time_tag text)
    (WritesBoth (WritesInteger m depth) (WritesBoth (WritesFlag m version) P))))

-- A bundle, the moment being given by that text.
abbrev pub AreBundle : List ℕ → BundleValue → Mode → Trees → Type 0
AreBundle text b m =
    AreMembers (number_of b.version) b.version text b.depth
    (ListTrees b.locators b.objects b.verdicts m)

abbrev pub WritesBundle : List ℕ → BundleValue → Mode → List ℕ → Type 0
WritesBundle text b m =
    WritesMembers m (number_of b.version) b.version text b.depth
    (WritesLists b.locators b.objects b.verdicts m)

-- What is written of entries spells their values, and is always the same.
pub pair_spelled : (m : Mode) (tag : TagValue) (a b : List ℕ) (text : List ℕ)
    → WritesPair m tag a b text → SpellsSome m (IsPair m tag a b) text
pair_spelled m tag a b = wrapped_spelled m (both_spelled m (string_spelled m tag a)
    (string_spelled m octet_string_tag b))

pub triple_spelled : (m : Mode) {a b c : List ℕ} (text : List ℕ) → WritesTriple m a b c text
    → SpellsSome m (IsTriple a b c) text
triple_spelled m = wrapped_spelled m (both_spelled m (plain_spelled m)
    (both_spelled m (plain_spelled m) (plain_spelled m)))

pub pair_one : (m : Mode) (tag : TagValue) (a b : List ℕ) (s t : List ℕ) → WritesPair m tag a b s
    → WritesPair m tag a b t → s ≡ t
pair_one m tag a b = wrapped_one m (both_one (string_one m tag a) (string_one m octet_string_tag b))

pub triple_one : (m : Mode) {a b c : List ℕ} (s t : List ℕ) → WritesTriple m a b c s
    → WritesTriple m a b c t → s ≡ t
triple_one m {a} {b} {c} = wrapped_one m (both_one (plain_one m (one_string a))
    (both_one (plain_one m (one_string b)) (plain_one m (one_string c))))

pub lists_spelled : (ls : List Locator) (os : List Object) (vs : List Verdict) (m : Mode)
    (text : List ℕ) → WritesLists ls os vs m text → SpellsSome m (ListTrees ls os vs m) text
lists_spelled ls os vs m =
    both_spelled m (wrapped_spelled m (all_spelled m
    (λ l o w. pair_spelled m printable_string_tag l.name l.text o w) ls))
    (both_spelled m (wrapped_spelled m (all_spelled m
    (λ x o w. pair_spelled m ia5_string_tag x.uri x.octets o w) os))
    (wrapped_spelled m (all_spelled m (λ v o w. triple_spelled m o w) vs)))

pub lists_one : (ls : List Locator) (os : List Object) (vs : List Verdict) (m : Mode)
    (s t : List ℕ) → WritesLists ls os vs m s → WritesLists ls os vs m t → s ≡ t
lists_one ls os vs m =
    both_one (wrapped_one m (all_one
    (λ (l : Locator). pair_one m printable_string_tag l.name l.text) ls))
    (both_one (wrapped_one m (all_one
    (λ (o : Object). pair_one m ia5_string_tag o.uri o.octets) os))
    (wrapped_one m (all_one (λ (v : Verdict). triple_one m) vs)))

pub flag_spelled : (m : Mode) (v : Version) (text : List ℕ) → WritesFlag m v text
    → SpellsSome m (IsFlag v) text
flag_spelled m Zero = nothing_spelled m
flag_spelled m (One relaxed) = plain_spelled m

pub flag_one : (m : Mode) (v : Version) (s t : List ℕ) → WritesFlag m v s → WritesFlag m v t → s ≡ t
flag_one m Zero = nothing_one
flag_one m (One relaxed) = plain_one m (one_boolean relaxed)
