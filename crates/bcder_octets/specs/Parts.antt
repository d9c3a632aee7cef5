-- What the content of a string holds, by mode and form (X.690 8.7, 9.2, 10.2).
use Rattle.std.specs.Prelude.{◌≡◌, ℕ, ◌<◌, ◌≤◌, Bool, true, false, List, length}
use Rattle.bcder_octets.specs.bcder_tree.declared.mode.Mode.{Mode}
use Rattle.bcder_octets.specs.bcder_tree.declared.mode.Mode.TheVariants.{Ber, Cer, Der}
use Rattle.bcder_octets.specs.bcder_tree.Tags.{TagValue}
use Rattle.bcder_octets.specs.bcder_tree.Tree.{Tree, Trees, primitive}
use Rattle.bcder_octets.specs.bcder_tree.Strings.{octet_string_tag, IsBerString, AreSegments, AreCerSegments}
use Rattle.bcder_octets.specs.Pieces.{ArePlain}

-- In CER a string in one piece has at most 1000 octets (9.2).
abbrev pub FitsWhole : Mode → List ℕ → Type 0
FitsWhole Ber octets = Unit {0}
FitsWhole Cer octets = length octets ≤ 1000
FitsWhole Der octets = Unit {0}

-- The octets of a primitive value are the string.
pub record IsWhole (m : Mode) (content octets : List ℕ) : Type 0 where
  pub same : content ≡ octets
  pub fits : FitsWhole m content

-- The segments of a string of more than 1000 octets in CER (9.2).
pub record AreCut (ts : Trees) (octets : List ℕ) : Type 0 where
  pub segments : AreCerSegments ts octets
  pub long : 1000 < length octets

-- The values of a constructed one are its segments; in DER there is none (10.2).
abbrev pub AreParts : Mode → Trees → List ℕ → Type 0
AreParts Ber ts octets = AreSegments ts octets
AreParts Cer ts octets = AreCut ts octets
AreParts Der ts octets = ⊥

-- Values with that tag and form may stand in a string: OCTET STRINGs, and where they may be nested constructed ones.
pub record FitsPart (nested : Bool) (tag : TagValue) (form : Bool) : Type 0 where
  pub tag_is : tag ≡ octet_string_tag
  pub may_nest : form ≡ true → nested ≡ true

abbrev pub PartCases : Bool → Tree → Type 0
PartCases true t = (octets : List ℕ) × IsBerString octet_string_tag t octets
PartCases false t = (content : List ℕ) × (t ≡ primitive octet_string_tag content)

-- One of them, with all that is in it.
pub record IsPart (nested : Bool) (t : Tree) (x : Unit {0}) : Type 0 where
  pub cases : PartCases nested t

abbrev pub PartsCases : Bool → Trees → Type 0
PartsCases true ts = (octets : List ℕ) × AreSegments ts octets
PartsCases false ts = (pieces : List (List ℕ)) × ArePlain ts pieces

-- All are such.
pub record AllParts (nested : Bool) (ts : Trees) (x : Unit {0}) : Type 0 where
  pub cases : PartsCases nested ts
