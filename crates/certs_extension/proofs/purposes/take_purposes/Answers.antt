-- One purpose at least: what was read of all of them, with a test.
use Rattle.std.proofs.Common.{◌≡◌, ◌≢◌, ℕ, List, [], map, refl, sym, ap, ◌∙◌}
use Rattle.certs_extension.proofs.Several.{purposes_of}
use Rattle.certs_extension.specs.bcder_tree.Tags.{oid_tag}
use Rattle.certs_extension.specs.bcder_tree.Tree.{Trees}
use Rattle.certs_extension.specs.bcder_content.Grammar.{Many, OctetsOf}
use Rattle.certs_extension.specs.bcder_content.Words.{Gathers}
use Rattle.certs_extension.specs.bcder.Identifiers.{IsOid}
use Rattle.certs_extension.specs.Extensions.{AreSome}
use Rattle.certs_extension.proofs.of_bcder_content.Taking.{on_content}
use Rattle.certs_extension.proofs.of_bcder_content.Unique.{many_one, octets_one}
use Rattle.certs_extension.proofs.of_bcder.Read.{oid_one}
use Rattle.certs_extension.proofs.of_bcder_content.Within.{all_gives, all_stop, all_unfit}
use Rattle.certs_extension.specs.Purposes.{purpose_octets}
use Rattle.certs_extension.proofs.purposes.take_purposes.Goals as goal

oids : (ts : Trees) (all : List (List ℕ)) → Gathers (OctetsOf oid_tag IsOid) AreSome ts all → (xs : List (List ℕ)) × Many (OctetsOf oid_tag IsOid) ts xs
oids ts all p = (p.xs, p.are)

pub returns-in_err-purposes : goal.returns-in_err-purposes
returns-in_err-purposes g c = record { reads = all_stop (λ u. u) (Gathers (OctetsOf oid_tag IsOid) AreSome) (Many (OctetsOf oid_tag IsOid)) _ _ _ _ c.from_residual.ensures oids c.in_err-purposes.ensures.reads }

none_lacks : (xs : List (List ℕ)) (ts : Trees) (all : List (List ℕ)) → xs ≡ [] → Gathers (OctetsOf oid_tag IsOid) AreSome ts all → Many (OctetsOf oid_tag IsOid) ts xs → ⊥
none_lacks xs ts all e p q =
    let same = (many_one (octets_one oid_one)).one ts p.xs xs p.are q in
    p.says.1 (sym p.says.0 ∙ same ∙ e)

pub returns-then-is_none : goal.returns-then-is_none
returns-then-is_none g c =
    let none : map purpose_octets c.in_ok-purposes.purposes.items ≡ [] = ap (map purpose_octets) (sym c.as_slice.ensures.value) ∙ c.if-is_none.ensures.0 refl in
    record { reads = on_content _ (all_unfit (Gathers (OctetsOf oid_tag IsOid) AreSome) (Many (OctetsOf oid_tag IsOid)) (λ ts all p q. none_lacks _ ts all none p q) oids c.in_ok-purposes.ensures.reads) }

some_says : (xs : List (List ℕ)) (ts : Trees) → xs ≢ [] → Many (OctetsOf oid_tag IsOid) ts xs → Gathers (OctetsOf oid_tag IsOid) AreSome ts xs
some_says xs ts h q = record { xs = xs; are = q; says = (refl, h) }

pub invariant_of-result : goal.invariant_of-result
invariant_of-result g c =
    let some : map purpose_octets c.in_ok-purposes.purposes.items ≢ [] = λ none. let t = c.if-is_none.ensures.1 (ap (map purpose_octets) c.as_slice.ensures.value ∙ none) in absurd cc in
    purposes_of _ _ some c.in_ok-purposes.ensures.reads.is

pub returns : goal.returns
returns g c =
    let some : map purpose_octets c.in_ok-purposes.purposes.items ≢ [] = λ none. let t = c.if-is_none.ensures.1 (ap (map purpose_octets) c.as_slice.ensures.value ∙ none) in absurd cc in
    record { reads = all_gives (Gathers (OctetsOf oid_tag IsOid) AreSome) (Many (OctetsOf oid_tag IsOid)) (λ ts. some_says _ ts some) oids c.in_ok-purposes.ensures.reads }
