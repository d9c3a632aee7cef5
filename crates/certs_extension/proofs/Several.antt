-- Purposes of keys: what is read of them, and that of a router's key.
use Rattle.std.proofs.Common.{◌≡◌, ◌≢◌, ℕ, List, [], ◌∷◌, refl, sym, subst, arith}
use Rattle.certs_extension.specs.bcder_tree.Tags.{oid_tag}
use Rattle.certs_extension.specs.bcder_tree.Tree.{Trees}
use Rattle.certs_extension.specs.bcder_content.Grammar.{Many, ManyCases, OctetsOf}
use Rattle.certs_extension.specs.bcder.Identifiers.{IsIdentifier, IsOid}
use Rattle.certs_extension.specs.bcder_values.ListForms.{LawfulAll}
use Rattle.certs_extension.specs.certs_basics.Identifiers.{bgpsec_router}
use Rattle.certs_extension.specs.Purposes.{AreKeyPurposes}

-- Each is an identifier.
identified : (ts : Trees) (xs : List (List ℕ)) → ManyCases (OctetsOf oid_tag IsOid) ts xs → LawfulAll IsIdentifier xs
identified ts [] p = tt
identified ts (x ∷ xs) p = (subst (λ (o : List ℕ). IsIdentifier o) p.3.is.same p.3.is.is, identified p.1 xs p.4)

pub purposes_of : (ts : Trees) (xs : List (List ℕ)) → xs ≢ [] → Many (OctetsOf oid_tag IsOid) ts xs → AreKeyPurposes xs
purposes_of ts xs some p = record { some = some; identify = identified ts xs p.cases }

router_identifies : IsIdentifier bgpsec_router
router_identifies = record { front = 43 ∷ 6 ∷ 1 ∷ 5 ∷ 5 ∷ 7 ∷ 3 ∷ []; last = 30; whole = refl; ends = omega arith }

some_router : (bgpsec_router ∷ []) ≢ []
some_router e = cc

pub of_router : (xs : List (List ℕ)) → xs ≡ bgpsec_router ∷ [] → AreKeyPurposes xs
of_router xs e = subst AreKeyPurposes (sym e) (record { some = some_router; identify = (router_identifies, tt) })
