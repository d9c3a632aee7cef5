-- Segments that are captured, and the string that they are.
use Rattle.std.proofs.Common.{◌≡◌, ◌<◌, ℕ, Bool, true, false, List, [], ◌∷◌, ◌++◌, length, refl, sym, subst}
use Rattle.bcder_octets.specs.bcder_tree.declared.mode.Mode.TheVariants.{Ber}
use Rattle.bcder_octets.specs.bcder_tree.Tree.{Trees, none, more, SpellsAll}
use Rattle.bcder_octets.specs.bcder_tree.Strings.{AreSegments, AreCerSegments}
use Rattle.bcder_octets.proofs.of_bcder_tree.Modes.{all_to_ber}
use Rattle.bcder_octets.specs.bcder_content.Contents.{ValuesLeft, Ended}
use Rattle.bcder_octets.specs.bcder_content.Exact.{Gives, Lacks, LacksAll, GivesAll}
use Rattle.bcder_octets.specs.bcder_content.Grammar.{ManyCases, Many, ExactlyAll}
use Rattle.bcder_octets.proofs.of_bcder_content.Forests.{Listing, list_next, list_over, many_lacks}
use Rattle.bcder_octets.proofs.of_bcder_content.Took.{one_whole}
use Rattle.bcder_octets.specs.Pieces.{ArePlain}
use Rattle.bcder_octets.specs.Parts.{IsPart, PartsCases, AllParts, AreCut}
use Rattle.bcder_octets.proofs.Cuts.{cut_pieces}

many_parts : (nested : Bool) (ts : Trees) (xs : List (Unit {0})) → ManyCases (IsPart nested) ts xs → PartsCases nested ts
many_parts true ts [] m = ([], subst (λ (us : Trees). AreSegments us []) (sym m) refl)
many_parts true ts (x ∷ xs) m =
    let r = many_parts true m.1 xs m.4 in
    let p = m.3.cases in
    (p.0 ++ r.0, subst (λ (us : Trees). AreSegments us (p.0 ++ r.0)) (sym m.2) (p.0, r.0, p.1, r.1, refl))
many_parts false ts [] m = ([], subst (λ (us : Trees). ArePlain us []) (sym m) refl)
many_parts false ts (x ∷ xs) m =
    let r = many_parts false m.1 xs m.4 in
    let p = m.3.cases in
    (p.0 ∷ r.0, subst (λ (us : Trees). ArePlain us (p.0 ∷ r.0)) (sym m.2) (p.0, r.0, p.1, refl, r.1))

parts_many : (nested : Bool) (ts : Trees) → PartsCases nested ts → (xs : List (Unit {0})) × ManyCases (IsPart nested) ts xs
parts_many true none p = ([], refl)
parts_many true (more t ts) p =
    let s = p.1 in
    let r = parts_many true ts (s.1, s.3) in
    (tt ∷ r.0, (t, ts, refl, record { cases = (s.0, s.2) }, r.1))
parts_many false none p = ([], refl)
parts_many false (more t ts) p =
    let s = p.1 in
    let r = parts_many false ts (s.1, s.4) in
    (tt ∷ r.0, (t, ts, refl, record { cases = (s.0, s.2) }, r.1))

parts_lack : {nested : Bool} {v : ValuesLeft} → LacksAll (Many (IsPart nested)) v → LacksAll (AllParts nested) v
parts_lack {nested} l = record { none = λ ts x p w. let m = parts_many nested ts p.cases in l.none ts m.0 (record { cases = m.1 }) w }

-- What the loop over the segments keeps.
pub record PartsUnder (nested : Bool) (start now : ValuesLeft) : Type 0 where
  pub items : List (Unit {0})
  pub listing : Listing (AllParts nested) (IsPart nested) (λ xs. tt) items start now

pub parts_first : (nested : Bool) (v : ValuesLeft) → PartsUnder nested v v
parts_first nested v = record {
  items = [];
  listing = record {
    gives = λ ys end g. record { trees = g.trees; took = g.took; is = record { cases = many_parts nested g.trees ys g.is.cases }; only = λ on. parts_lack (g.only on) };
    lacks = parts_lack;
  };
}

pub parts_next : {nested : Bool} {start now new : ValuesLeft} → PartsUnder nested start now → Gives (IsPart nested) now tt new → PartsUnder nested start new
parts_next u g = record { items = u.items ++ (tt ∷ []); listing = list_next u.listing g refl }

pub parts_over : {nested : Bool} {start now new : ValuesLeft} → PartsUnder nested start now → (new ≡ now) × Ended now → GivesAll (AllParts nested) start tt new
parts_over u h = list_over u.listing h

pub parts_refused : {nested : Bool} {start now : ValuesLeft} → PartsUnder nested start now → Lacks (IsPart nested) now × (Ended now → ⊥) → LacksAll (AllParts nested) start
parts_refused u l = u.listing.lacks (many_lacks l.0 l.1)

-- The string of captured segments.

all_lack : {nested : Bool} {P : Trees → List ℕ → Type 0} {old : ValuesLeft} → ((ts : Trees) (y : List ℕ) → P ts y → PartsCases nested ts) → LacksAll (ExactlyAll old.mode (AllParts nested)) old → LacksAll P old
all_lack parts l = record { none = λ ts y s w. l.none ts w.took.text (record { x = tt; is = record { cases = parts ts y s }; spelled = w.took.spelled }) w }

nested_parts : (ts : Trees) (y : List ℕ) → AreSegments ts y → PartsCases true ts
nested_parts ts y s = (y, s)

cut_parts : (ts : Trees) (y : List ℕ) → AreCut ts y → PartsCases false ts
cut_parts ts y s = let p = cut_pieces ts y s.segments in (p.0, p.1)

pub segments_lack : {old : ValuesLeft} → LacksAll (ExactlyAll old.mode (AllParts true)) old → LacksAll AreSegments old
segments_lack l = all_lack nested_parts l

pub cut_lack : {old : ValuesLeft} → LacksAll (ExactlyAll old.mode (AllParts false)) old → LacksAll AreCut old
cut_lack l = all_lack cut_parts l

pub segments_given : {old new : ValuesLeft} {octets v : List ℕ} → GivesAll (ExactlyAll old.mode (AllParts true)) old octets new → ((ts : Trees) (w : List ℕ) → SpellsAll Ber ts octets → AreSegments ts w → v ≡ w) → GivesAll AreSegments old v new
segments_given {old} {octets = octets} {v} g joins =
    let p = g.is.is.cases in
    let same : v ≡ p.0 = joins g.trees p.0 (all_to_ber old.mode g.trees octets g.is.spelled) p.1 in
    record { trees = g.trees; took = g.took; is = subst (AreSegments g.trees) (sym same) p.1; only = λ on. segments_lack (g.only on) }

pub cut_given : {old new : ValuesLeft} {octets v : List ℕ} → GivesAll (ExactlyAll old.mode (AllParts false)) old octets new → ((ts : Trees) (pieces : List (List ℕ)) → SpellsAll Ber ts octets → ArePlain ts pieces → AreCerSegments ts v × (1000 < length v)) → GivesAll AreCut old v new
cut_given {old} {octets = octets} {v} g joins =
    let p = g.is.is.cases in
    let cut = joins g.trees p.0 (all_to_ber old.mode g.trees octets g.is.spelled) p.1 in
    record { trees = g.trees; took = g.took; is = record { segments = cut.0; long = cut.1 }; only = λ on. cut_lack (g.only on) }

-- The captured values are no segments of such lengths, and no others are all of the content.
pub cut_refused : {old new : ValuesLeft} {octets : List ℕ} → GivesAll (ExactlyAll old.mode (AllParts false)) old octets new → ((ts : Trees) (pieces : List (List ℕ)) → SpellsAll Ber ts octets → ArePlain ts pieces → (v : List ℕ) → AreCerSegments ts v → 1000 < length v → ⊥) → LacksAll AreCut old
cut_refused {old} {new} {octets} g refuses = record {
  none = λ ts y s w.
      let never : Ended new → ⊥ = λ e.
      let same : ts ≡ g.trees = one_whole ts g.trees w (record { behind = new; took = g.took; ended = e }) in
      let p = cut_pieces ts y s.segments in
      refuses ts p.0 (subst (λ (us : Trees). SpellsAll Ber us octets) (sym same) (all_to_ber old.mode g.trees octets g.is.spelled)) p.1 y s.segments s.long in
      (cut_lack (g.only never)).none ts y s w;
}
