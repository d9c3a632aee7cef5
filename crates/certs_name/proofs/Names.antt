-- A name by its form alone, and by its attributes; names that are kept.
use Rattle.std.proofs.Common.{◌≡◌, List, [], ◌∷◌, Ok, Err, refl, sym, ap, subst}
use Rattle.certs_name.specs.bcder_tree.declared.mode.Mode.{Mode}
use Rattle.certs_name.specs.bcder_tree.Tree.{Tree, Trees, Spells}
use Rattle.certs_name.specs.bcder_source.Views.{Reading}
use Rattle.certs_name.specs.bcder_source.Errors.{OnContent}
use Rattle.certs_name.specs.bcder_source.declared.error.DecodeError.{DecodeError}
use Rattle.certs_name.specs.bcder_content.declared.constructed.Constructed.{Constructed}
use Rattle.certs_name.specs.bcder_content.Captures.{rest_of, Captures}
use Rattle.certs_name.specs.bcder_content.Contents.{ValuesLeft, Goes}
use Rattle.certs_name.specs.bcder_content.Exact.{Gives, Lacks}
use Rattle.certs_name.specs.bcder_content.Grammar.{ExactlyOf, ManyCases}
use Rattle.certs_name.specs.bcder_content.Kept.{CapturedValue}
use Rattle.certs_name.specs.bcder_content.ClosureReads.{Reader}
use Rattle.certs_name.proofs.of_bcder_content.Decoding.{ValueEach}
use Rattle.certs_name.proofs.of_bcder_content.KeptOne.{exact_capture_one}
use Rattle.certs_name.proofs.of_bcder_content.Taking.{weaker}
use Rattle.certs_basics.specs.Lists.{joined}
use Rattle.certs_basics.specs.Names.{Attribute, IsAttribute, IsRelativeName, IsName, IsKeptName, SpellsName}
use Rattle.certs_name.specs.AnyNames.{AnyFields, any_fields, IsAnyAttribute, IsAnyRelativeName, IsAnyName}
use Rattle.certs_name.specs.Named.{IsNamed}

-- By its form alone.

any_attribute : (t : Tree) (a : Attribute) → IsAttribute t a → IsAnyAttribute t (any_fields tt)
any_attribute t a p = let f = p.is.is in record {
  values = p.is.values;
  whole = p.is.whole;
  is = record {
    first = f.first;
    others = f.others;
    whole = f.whole;
    is = record { content = f.is.content; whole = f.is.whole; is = record { is = f.is.is.is } };
    rest = record { first = f.rest.first; others = f.rest.others; whole = f.rest.whole; is = record { any = tt }; rest = f.rest.rest };
  };
}

any_attributes : (ls : List Attribute) (ts : Trees) → ManyCases IsAttribute ts ls → (xs : List AnyFields) × ManyCases IsAnyAttribute ts xs
any_attributes [] ts p = ([], p)
any_attributes (a ∷ ls) ts p =
    let rest = any_attributes ls p.1 p.4 in
    (any_fields tt ∷ rest.0, (p.0, p.1, p.2, any_attribute p.0 a p.3, rest.1))

any_relative_name : (t : Tree) (ls : List Attribute) → IsRelativeName t ls → IsAnyRelativeName t tt
any_relative_name t ls p =
    let xs = any_attributes ls p.values p.is.cases in
    record { values = p.values; whole = p.whole; is = record { xs = xs.0; are = record { cases = xs.1 }; says = tt } }

any_relative_names : (rs : List (List Attribute)) (ts : Trees) → ManyCases IsRelativeName ts rs → (xs : List (Unit {0})) × ManyCases IsAnyRelativeName ts xs
any_relative_names [] ts p = ([], p)
any_relative_names (r ∷ rs) ts p =
    let rest = any_relative_names rs p.1 p.4 in
    (tt ∷ rest.0, (p.0, p.1, p.2, any_relative_name p.0 r p.3, rest.1))

pub any_name : (t : Tree) (all : List Attribute) → IsName t all → IsAnyName t tt
any_name t all p =
    let xs = any_relative_names p.x p.is.values p.is.is.cases in
    record { values = p.is.values; whole = p.is.whole; is = record { xs = xs.0; are = record { cases = xs.1 }; says = tt } }

-- What has the form has attributes.

attribute : (t : Tree) (x : AnyFields) → IsAnyAttribute t x → (a : Attribute) × IsAttribute t a
attribute t x p = let f = p.is in let kind = f.is.content in (
  record { kind = kind; value = f.rest.first },
  record {
    x = (kind, (f.rest.first, tt));
    is = record {
      values = p.values;
      whole = p.whole;
      is = record {
        first = f.first;
        others = f.others;
        whole = f.whole;
        is = record { content = kind; whole = f.is.whole; is = record { same = refl; is = f.is.is.is } };
        rest = record { first = f.rest.first; others = f.rest.others; whole = f.rest.whole; is = record { same = refl }; rest = f.rest.rest };
      };
    };
    means = refl;
  },
)

attributes : (xs : List AnyFields) (ts : Trees) → ManyCases IsAnyAttribute ts xs → (ls : List Attribute) × ManyCases IsAttribute ts ls
attributes [] ts p = ([], p)
attributes (x ∷ xs) ts p =
    let first = attribute p.0 x p.3 in
    let rest = attributes xs p.1 p.4 in
    (first.0 ∷ rest.0, (p.0, p.1, p.2, first.1, rest.1))

relative_name : (t : Tree) (x : Unit {0}) → IsAnyRelativeName t x → (ls : List Attribute) × IsRelativeName t ls
relative_name t x p =
    let ls = attributes p.is.xs p.values p.is.are.cases in
    (ls.0, record { values = p.values; whole = p.whole; is = record { cases = ls.1 } })

relative_names : (xs : List (Unit {0})) (ts : Trees) → ManyCases IsAnyRelativeName ts xs → (rs : List (List Attribute)) × ManyCases IsRelativeName ts rs
relative_names [] ts p = ([], p)
relative_names (x ∷ xs) ts p =
    let first = relative_name p.0 x p.3 in
    let rest = relative_names xs p.1 p.4 in
    (first.0 ∷ rest.0, (p.0, p.1, p.2, first.1, rest.1))

pub name : (t : Tree) (x : Unit {0}) → IsAnyName t x → (all : List Attribute) × IsName t all
name t x p =
    let rs = relative_names p.is.xs p.values p.is.are.cases in
    (joined rs.0, record { x = rs.0; is = record { values = p.values; whole = p.whole; is = record { cases = rs.1 } }; means = refl })

-- Names that are kept.

-- Octets of a name were captured.
pub record Keeps (old : ValuesLeft) (c : CapturedValue) (new : ValuesLeft) : Type 0 where
  pub gives : Gives (IsKeptName old.mode) old c new
  pub goes : Goes old c.octets new
  pub spells : SpellsName old.mode c.octets c
  pub named : IsNamed c

pub kept_name : {F D E : Type 0} {g : Reader F (Constructed Reading) (Unit {0}) D} {op : F} {v new : ValuesLeft} {c : CapturedValue} → ValueEach v.mode rest_of g op (λ x. x) IsAnyName → Captures {E = E} g op v (Ok c) new → Keeps v c new
kept_name {E = E} {v = v} {new} {c} exact h =
    let given = exact_capture_one {E = E} {r = Ok c} exact h in
    let all = name given.tree given.is.x given.is.is in
    let mode : c.mode ≡ v.mode = h.cases.mode in
    record {
      gives = record { tree = given.tree; is = record { mode = mode; spelled = given.is.spelled; all = all.0; is = all.1 }; took = given.took };
      goes = h.cases.goes;
      spells = record {
        same = ap (λ (m : Mode). record { mode = m; octets = c.octets }) mode;
        all = all.0;
        is = record { tree = given.tree; is = all.1; spelled = given.is.spelled };
      };
      named = record { all = all.0; says = record { tree = given.tree; spelled = subst (λ (m : Mode). Spells m given.tree c.octets) (sym mode) given.is.spelled; is = all.1 } };
    }

pub no_name : {F D E : Type 0} {g : Reader F (Constructed Reading) (Unit {0}) D} {op : F} {v new : ValuesLeft} (e : DecodeError E) → ValueEach v.mode rest_of g op (λ x. x) IsAnyName → Captures g op v (Err e) new → OnContent e (Lacks (IsKeptName v.mode) v)
no_name {v = v} e exact h =
    weaker e (λ (l : Lacks (ExactlyOf v.mode IsAnyName) v). record { none = λ t n p a. l.none t n.octets (record { x = tt; is = any_name t p.all p.is; spelled = p.spelled }) a }) (exact_capture_one {r = Err e} exact h)
