-- Lists of entries that octets spell, read one by one.
use Rattle.std.proofs.Common.{◌≡◌, List, [], ◌∷◌, Ok, refl, sym, ap, subst}
use Rattle.std.proofs.Math.Logic.{∥∥₁_elim}
use Rattle.std.specs.Coded.{Coded-set, coded_list}
use Rattle.certs_x509.specs.bcder_tree.declared.mode.Mode.{Mode}
use Rattle.certs_x509.specs.bcder_tree.Tags.{sequence_tag}
use Rattle.certs_x509.specs.bcder_tree.Tree.{SpellsAll, Tree, Trees, none}
use Rattle.certs_x509.specs.bcder_source.Views.{Reading}
use Rattle.certs_x509.specs.bcder_content.declared.constructed.Constructed.{Constructed}
use Rattle.certs_x509.specs.bcder_content.Captures.{rest_of, Captures, CapturesCases}
use Rattle.certs_x509.specs.bcder_content.Contents.{ValuesLeft, Unlike, Whole}
use Rattle.certs_x509.specs.bcder_content.Exact.{Gives, GivesAll, LacksAll, LacksTagged}
use Rattle.certs_x509.specs.bcder_content.InMode.{ReadsFields}
use Rattle.certs_x509.specs.bcder_content.Grammar.{ExactlyAll, Many, ManyCases, Tagged}
use Rattle.certs_x509.specs.bcder_content.Words.{Gathers}
use Rattle.certs_x509.specs.bcder_content.Kept.{CapturedValue}
use Rattle.certs_x509.specs.bcder_content.ClosureReads.{Reader}
use Rattle.certs_x509.proofs.of_bcder_content.Inside.{ReadsEach}
use Rattle.certs_x509.proofs.of_bcder_content.Kept.{exact_capture}
use Rattle.certs_x509.proofs.of_bcder_content.Took.{ended_none, whole_first, whole_none, whole_others}
use Rattle.certs_x509.proofs.of_bcder_content.Unique.{as_tagged, inside_tagged}
use Rattle.certs_extension.specs.CrlText.{IsRevoked, RevokedValue}
use Rattle.certs_x509.specs.Entries.{AreEntries, whatever}
use Rattle.certs_x509.specs.Listed.{EntriesLeft, SpellsEntries}
use Rattle.certs_x509.specs.Listing.{Listing, entry_one, one_list, revoked_code}

pub entry_tagged : Tagged sequence_tag IsRevoked
entry_tagged = as_tagged (inside_tagged _ _)

-- The list of octets is the one that they spell.
pub listing_is : (c : CapturedValue) (x : Listing c) (xs : List RevokedValue) → SpellsEntries c xs → x.0 ≡ xs
listing_is c x xs s = ∥∥₁_elim x.1 (Coded-set (coded_list revoked_code) _ _) (λ p. one_list c x.0 xs p s)

pub spelled_is : (c : CapturedValue) (l xs : List RevokedValue) → ∥ SpellsEntries c l ∥₁ → SpellsEntries c xs → l ≡ xs
spelled_is c l xs h s = listing_is c (l, h) xs s

-- No octets spell no entries, and others spell some.
pub no_entries : (c : CapturedValue) → c.octets ≡ [] → SpellsEntries c []
no_entries c e = record { trees = none; is = record { cases = refl }; spelled = e }

-- Octets that are no entries to their end, whatever entries, are none of any list.
pub all_lack : {v : ValuesLeft} → LacksAll (ExactlyAll v.mode (Gathers IsRevoked whatever)) v → LacksAll (Many IsRevoked) v
all_lack l = record { none = λ ts xs p w. l.none ts w.took.text (record { x = tt; is = record { xs = xs; are = p; says = tt }; spelled = w.took.spelled }) w }

-- Octets that were captured are of a list of entries, which was read.
pub record Captured (v : ValuesLeft) (c : CapturedValue) (new : ValuesLeft) : Type 0 where
  pub entries : List RevokedValue
  pub spelled : SpellsEntries c entries
  pub gives : GivesAll (Many IsRevoked) v entries new

captured_cases : {F D : Type 0} (E : Type 0) {g : Reader F (Constructed Reading) (Unit {0}) D} {op : F} (v : ValuesLeft) (c : CapturedValue) (new : ValuesLeft)
    → CapturesCases {E = E} g op v (Ok c) new → GivesAll (ExactlyAll v.mode (Gathers IsRevoked whatever)) v c.octets new → Captured v c new
captured_cases E v c new k h = record {
  entries = h.is.is.xs;
  spelled = record { trees = h.trees; is = h.is.is.are; spelled = subst (λ (m : Mode). SpellsAll m h.trees c.octets) (sym k.mode) h.is.spelled };
  gives = record { trees = h.trees; took = h.took; is = h.is.is.are; only = λ goes_on. all_lack (h.only goes_on) };
}

pub captured_list : {F D E : Type 0} {g : Reader F (Constructed Reading) (Unit {0}) D} {op : F} {v : ValuesLeft} {c : CapturedValue} {new : ValuesLeft}
    → ReadsEach v.mode rest_of g op (λ x. x) (Gathers IsRevoked whatever) → Captures {E = E} g op v (Ok c) new → Captured v c new
captured_list {E = E} {v = v} {c} {new} each h = captured_cases E v c new h.cases (exact_capture each h)

-- An entry was read of those that are left: it is the first.
pub record Goes (x : RevokedValue) (xs : List RevokedValue) (new : ValuesLeft) : Type 0 where
  pub others : List RevokedValue
  pub whole : xs ≡ x ∷ others
  pub left : EntriesLeft new others

first_cases : {now new : ValuesLeft} {x : RevokedValue} (ts : Trees) (xs : List RevokedValue) → Whole now ts → ManyCases IsRevoked ts xs → Gives IsRevoked now x new → Goes x xs new
first_cases {now = now} ts [] w e g = absurd (ended_none (whole_none (subst (Whole now) e w)) g.took)
first_cases {now = now} {new} {x} ts (y ∷ ys) w p g =
    let o = whole_others g.took (subst (Whole now) p.2 w) in
    let same : y ≡ x = entry_one.one p.0 y x p.3 (subst (λ (u : Tree). IsRevoked u x) o.0 g.is) in
    record { others = ys; whole = ap (λ (z : RevokedValue). z ∷ ys) same; left = record { trees = p.1; whole = o.1; are = record { cases = p.4 } } }

pub left_first : {now new : ValuesLeft} {x : RevokedValue} {xs : List RevokedValue} → EntriesLeft now xs → Gives IsRevoked now x new → Goes x xs new
left_first {xs = xs} l g = first_cases l.trees xs l.whole l.are.cases g

-- No value with the tag of an entry is next: no entry is left.
none_cases : {now : ValuesLeft} (ts : Trees) (xs : List RevokedValue) → Whole now ts → ManyCases IsRevoked ts xs → Unlike now sequence_tag → xs ≡ []
none_cases ts [] w e u = refl
none_cases {now = now} ts (y ∷ ys) w p u = absurd (u.none p.0 (whole_first (subst (Whole now) p.2 w)) (entry_tagged.tagged p.0 y p.3))

pub left_none : {now : ValuesLeft} {xs : List RevokedValue} → EntriesLeft now xs → Unlike now sequence_tag → xs ≡ []
left_none {xs = xs} l u = none_cases l.trees xs l.whole l.are.cases u

-- Where entries are left none is refused.
lacks_cases : {now : ValuesLeft} (ts : Trees) (xs : List RevokedValue) → Whole now ts → ManyCases IsRevoked ts xs → LacksTagged sequence_tag IsRevoked now → ⊥
lacks_cases {now = now} ts [] w e l = l.goes_on (whole_none (subst (Whole now) e w))
lacks_cases {now = now} ts (y ∷ ys) w p l = l.lacks.none p.0 y p.3 (whole_first (subst (Whole now) p.2 w))

pub left_lacks : {now : ValuesLeft} {xs : List RevokedValue} → EntriesLeft now xs → LacksTagged sequence_tag IsRevoked now → ⊥
left_lacks {xs = xs} l h = lacks_cases l.trees xs l.whole l.are.cases h

-- Entries were captured, and the list is the one that the octets spell.
pub captured_reads : {v new : ValuesLeft} {c : CapturedValue} (E : Type 0) (l : List RevokedValue) → ∥ SpellsEntries c l ∥₁ → Captured v c new → ReadsFields {E = E} (λ l. l) AreEntries v (Ok l) new
captured_reads {v} {new} {c} E l x h = record {
  reads = subst (λ (k : List RevokedValue). GivesAll (Many IsRevoked) v k new) (sym (spelled_is c l h.entries x h.spelled)) h.gives;
}
