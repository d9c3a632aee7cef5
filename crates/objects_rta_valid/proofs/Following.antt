-- What follows from the tests of paths.
use Rattle.std.proofs.Common.{◌≡◌, ℕ, List, length, map, refl, sym, ap, ◌∙◌, subst}
use Rattle.std.proofs.lemmas.List.{length-map}
use Rattle.certs_verify.specs.certs_extension.Cert.{CertValue}
use Rattle.objects_rta_valid.specs.Paths.{AreAllOn, PathsValue}
use Rattle.objects_rta.specs.AttestationParts.{RtaValue}
use Rattle.objects_rta_valid.specs.Apart.{AreApart}
use Rattle.objects_rta_valid.specs.Places.{AreFunctional, BeginBelow, pairs}
use Rattle.objects_rta_valid.specs.Certs.{node_of}
use Rattle.objects_rta_valid.specs.Validity.{nodes, sids}
use Rattle.objects_rta_valid.specs.Answered.{HasWalked}
use Rattle.objects_rta_valid.proofs.Extend.{apart_on}
use Rattle.objects_rta_valid.proofs.Signing.{begin_certs}
use Rattle.objects_rta_valid.proofs.Walks.{pairs_functional}

pub apart_told : (r : RtaValue) (p : PathsValue) → HasWalked r p → AreApart (nodes r)
apart_told r p h = apart_on (nodes r) (sids r) p.paths h.walk.only
    (subst (AreAllOn p.paths) (h.walk.all ∙ sym (length-map r.signed.certs node_of)) h.all_on)

pub apart_carried : (r : RtaValue) (p : PathsValue) (certs : List CertValue) → HasWalked r p → certs ≡ r.signed.certs → AreApart (map node_of certs)
apart_carried r p certs h e = subst (λ (cs : List CertValue). AreApart (map node_of cs)) (sym e) (apart_told r p h)

pub functional_told : (r : RtaValue) (p : PathsValue) (ps : List (ℕ × ℕ)) → HasWalked r p → ps ≡ pairs p.paths → AreFunctional ps
functional_told r p ps h e = subst AreFunctional (sym e) (pairs_functional (nodes r) (sids r) p.paths (apart_told r p h) h.walk.only)

pub begins_told : (r : RtaValue) (p : PathsValue) (certs : List CertValue) (count : ℕ) (ps : List (ℕ × ℕ)) → HasWalked r p → ps ≡ pairs p.paths → certs ≡ r.signed.certs → count ≡ length certs → BeginBelow count ps
begins_told r p certs count ps h e carried long =
    subst (BeginBelow count) (sym e) (begin_certs r.signed.certs (sids r) p.paths count (long ∙ ap (λ (cs : List CertValue). length cs) carried) h.walk.only)

pub begins_walked : (r : RtaValue) (p : PathsValue) → HasWalked r p → BeginBelow p.count (pairs p.paths)
begins_walked r p h = begins_told r p r.signed.certs p.count (pairs p.paths) h refl refl h.walk.all

pub functional_walked : (r : RtaValue) (p : PathsValue) → HasWalked r p → AreFunctional (pairs p.paths)
functional_walked r p h = functional_told r p (pairs p.paths) h refl
