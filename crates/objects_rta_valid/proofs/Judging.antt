-- Tests over the paths that were found are tests over the only paths.
use Rattle.std.proofs.Common.{◌≡◌, ℕ, Bool, List, [], ◌∷◌, Option, Result, Ok, Err, map, length, refl, sym, ap, subst}
use Rattle.std.specs.Prelude.{◌↔◌, IfOk, IsTrue}
use Rattle.std.specs.List.{AllZip}
use Rattle.std.specs.declared.alloc.AllocError.{AllocError}
use Rattle.certs_verify.specs.certs_basics.HandedIn.{Digests}
use Rattle.certs_verify.specs.certs_basics.Lists.{Each}
use Rattle.certs_verify.specs.certs_basics.Verdicts.{Verdicts}
use Rattle.certs_verify.specs.certs_extension.Cert.{CertValue}
use Rattle.certs_verify.specs.certs_extension.CrlText.{CrlValue}
use Rattle.objects_rta.specs.objects_cms.Signer.{SignerValue, signer_fields}
use Rattle.objects_rta.specs.objects_payload.ObjectText.{Signer, signer_of}
use Rattle.objects_rta.specs.AttestationParts.{RtaValue}
use Rattle.objects_rta.specs.MultiText.{Multi}
use Rattle.objects_rta_valid.specs.declared.errors.RtaTest.TheVariants as test
use Rattle.objects_rta_valid.specs.Apart.{AreApart}
use Rattle.objects_rta_valid.specs.Places.{AreLinks, HaveSame, Stands, firsts, pairs}
use Rattle.objects_rta_valid.specs.Certs.{ArePairSigned, IsPairUnrevoked, IsUsed}
use Rattle.objects_rta_valid.specs.Vouched.{AreGoodOf, Has, IsVouched, Serves}
use Rattle.objects_rta_valid.specs.Validity.{AreItsPaths, HaveForms, IsSoundAt, OfPaths, Passes, nodes, sids}
use Rattle.objects_rta_valid.proofs.Signing.{unrevoked_told, vouched_told}
use Rattle.objects_rta_valid.proofs.Steps.{each_by, each_of}
use Rattle.objects_rta_valid.proofs.Walks.{only_these}

pub of_paths_told : (r : RtaValue) (paths : List (List ℕ)) (P : List (List ℕ) → Type 0) (b : Bool) → AreItsPaths r paths → (IsTrue b ↔ P paths) → (IsTrue b ↔ OfPaths r P)
of_paths_told r paths P b only h = (
  (λ t others o. subst P (sym (only_these (nodes r) (sids r) paths others only o)) (h.0 t)),
  (λ f. h.1 (f paths only)),
)

pub both_told : {A : Type 0} (r : RtaValue) (paths : List (List ℕ)) (P : List (List ℕ) → Type 0) (b : Bool) → AreItsPaths r paths → (IsTrue b ↔ (A × P paths)) → (IsTrue b ↔ (A × OfPaths r P))
both_told r paths P b only h = (
  (λ t. ((h.0 t).0, (λ others o. subst P (sym (only_these (nodes r) (sids r) paths others only o)) (h.0 t).1))),
  (λ f. h.1 (f.0, f.1 paths only)),
)

pub sids_same : (infos : List SignerValue) → map (λ (s : SignerValue). s.sid) infos ≡ map (λ (s : Signer). s.sid) (map signer_of (map signer_fields infos))
sids_same [] = refl
sids_same (s ∷ ss) = ap (λ (xs : List (List ℕ)). s.sid ∷ xs) (sids_same ss)

-- The tests, one by one, from what the calls answer.
pub content_told : (d : Digests) (good : Verdicts) (r : RtaValue) (paths : List (List ℕ)) (o : Multi) (places : List ℕ) (answer : Result Bool AllocError)
    → AreItsPaths r paths → o ≡ r.signed → places ≡ firsts paths → IfOk answer (λ yes. IsTrue yes ↔ AllZip (IsSoundAt d good o) o.signers places)
    → IfOk answer (λ yes. (strict : Bool) (now : ℕ) → IsTrue yes ↔ Passes d good strict now r test.Content)
content_told d good r paths o places (Ok b) only same first h = λ strict now.
    let lent = subst (λ (ps : List ℕ). IsTrue b ↔ AllZip (IsSoundAt d good o) o.signers ps) first h in
    of_paths_told r paths (λ ps. AllZip (IsSoundAt d good r.signed) r.signed.signers (firsts ps)) b only
    (subst (λ (x : Multi). IsTrue b ↔ AllZip (IsSoundAt d good x) x.signers (firsts paths)) same lent)
content_told d good r paths o places (Err e) only same first h = tt

pub forms_told : (d : Digests) (strict : Bool) (r : RtaValue) (paths : List (List ℕ)) (certs : List CertValue) (answer : Result Bool AllocError)
    → AreItsPaths r paths → certs ≡ r.signed.certs → IfOk answer (λ yes. IsTrue yes ↔ HaveForms d strict certs paths)
    → IfOk answer (λ yes. (good : Verdicts) (now : ℕ) → IsTrue yes ↔ Passes d good strict now r test.Forms)
forms_told d strict r paths certs (Ok b) only carried h = λ good now.
    of_paths_told r paths (HaveForms d strict r.signed.certs) b only (subst (λ (cs : List CertValue). IsTrue b ↔ HaveForms d strict cs paths) carried h)
forms_told d strict r paths certs (Err e) only carried h = tt

pub signatures_told : (good : Verdicts) (now : ℕ) (r : RtaValue) (paths : List (List ℕ)) (certs : List CertValue) (links : List (Option ℕ)) (count : ℕ) (b : Bool)
    → AreItsPaths r paths → certs ≡ r.signed.certs → AreLinks (pairs paths) count links → count ≡ length r.signed.certs
    → (IsTrue b ↔ AllZip (IsVouched good now certs) certs links) → (d : Digests) (strict : Bool) → IsTrue b ↔ Passes d good strict now r test.Signatures
signatures_told good now r paths certs links count b only carried behind long h d strict =
    let e = subst (λ (cs : List CertValue). IsTrue b ↔ AllZip (IsVouched good now cs) cs links) carried h in
    both_told r paths (λ paths. Each (ArePairSigned good now r.signed.certs) (pairs paths)) b only
    (vouched_told good now r.signed.certs (sids r) paths links count only long behind b e)

-- What holds of each member of one list holds of each of the other.
each_from : {X : Type 0} (P : X → Type 0) (xs ys : List X) → HaveSame xs ys → Each P xs → Each P ys
each_from P xs ys same all = each_by P ys (λ y m. each_of P xs y all ((same y).1 m))

each_same : {X : Type 0} (P : X → Type 0) (xs ys : List X) (b : Bool) → HaveSame xs ys → (IsTrue b ↔ Each P xs) → (IsTrue b ↔ Each P ys)
each_same P xs ys b same h = ((λ t. each_from P xs ys same (h.0 t)), (λ all. h.1 (each_from P ys xs (λ y. ((same y).1, (same y).0)) all)))

pub same_as : {X : Type 0} (xs ys zs : List X) → xs ≡ ys → HaveSame ys zs → HaveSame xs zs
same_as {X} xs ys zs e same = subst (λ (l : List X). HaveSame l zs) (sym e) same

used_from : (certs : List CertValue) (ps qs : List (ℕ × ℕ)) (crl : CrlValue) → HaveSame ps qs → IsUsed certs ps crl → IsUsed certs qs crl
used_from certs ps qs crl same u = record { lower = u.lower; upper = u.upper; neighbours = (same (u.lower, u.upper)).0 u.neighbours; of_issuer = u.of_issuer }

each_used : (certs : List CertValue) (ps qs : List (ℕ × ℕ)) (crls : List CrlValue) → HaveSame ps qs → Each (IsUsed certs ps) crls → Each (IsUsed certs qs) crls
each_used certs ps qs crls same all = each_by (IsUsed certs qs) crls (λ crl m. used_from certs ps qs crl same (each_of (IsUsed certs ps) crls crl all m))

pub have_forms_told : (A : ℕ → Type 0) (B : ℕ × ℕ → Type 0) (slice found : List ℕ) (ps pairs_found qs : List (ℕ × ℕ)) (b : Bool) → slice ≡ found → Each A slice → ps ≡ pairs_found → HaveSame pairs_found qs
    → (IsTrue b ↔ Each B ps) → (IsTrue b ↔ (Each A found × Each B qs))
have_forms_told A B slice found ps pairs_found qs b e firsts f same h =
    let k = each_same B ps qs b (same_as ps pairs_found qs f same) h in
    ((λ t. (subst (Each A) e firsts, k.0 t)), (λ all. k.1 all.1))

pub lists_told : (r : RtaValue) (paths : List (List ℕ)) (certs : List CertValue) (ps : List (ℕ × ℕ)) (crls : List CrlValue) (b : Bool)
    → AreItsPaths r paths → certs ≡ r.signed.certs → HaveSame ps (pairs paths) → crls ≡ r.signed.crls → (IsTrue b ↔ Each (IsUsed certs ps) crls)
    → (d : Digests) (good : Verdicts) (strict : Bool) (now : ℕ) → IsTrue b ↔ Passes d good strict now r test.Lists
lists_told r paths certs ps crls b only carried same lists h d good strict now =
    let e = subst (λ (cs : List CertValue). IsTrue b ↔ Each (IsUsed cs ps) crls) carried h in
    let f : IsTrue b ↔ Each (IsUsed r.signed.certs (pairs paths)) crls =
    ((λ t. each_used r.signed.certs ps (pairs paths) crls same (e.0 t)), (λ all. e.1 (each_used r.signed.certs (pairs paths) ps crls (λ q. ((same q).1, (same q).0)) all))) in
    of_paths_told r paths (λ paths. Each (IsUsed r.signed.certs (pairs paths)) r.signed.crls) b only (subst (λ (xs : List CrlValue). IsTrue b ↔ Each (IsUsed r.signed.certs (pairs paths)) xs) lists f)

pub revocation_told : (good : Verdicts) (now : ℕ) (r : RtaValue) (paths : List (List ℕ)) (certs : List CertValue) (ps : List (ℕ × ℕ)) (crls lists : List CrlValue) (b : Bool)
    → AreItsPaths r paths → AreApart (nodes r) → certs ≡ r.signed.certs → HaveSame ps (pairs paths) → crls ≡ r.signed.crls → AreGoodOf good now certs crls lists
    → (IsTrue b ↔ Each (λ (q : ℕ × ℕ). Stands certs q.0 (λ c. Stands certs q.1 (λ p. Has (Serves p c) lists))) ps)
    → (d : Digests) (strict : Bool) → IsTrue b ↔ Passes d good strict now r test.Revocation
revocation_told good now r paths certs ps crls lists b only apart carried same carried_lists of h d strict =
    let e = subst (λ (cs : List CertValue). IsTrue b ↔ Each (λ (q : ℕ × ℕ). Stands cs q.0 (λ c. Stands cs q.1 (λ p. Has (Serves p c) lists))) ps) carried h in
    let f = each_same (λ (q : ℕ × ℕ). Stands r.signed.certs q.0 (λ c. Stands r.signed.certs q.1 (λ p. Has (Serves p c) lists))) ps (pairs paths) b same e in
    let g : AreGoodOf good now r.signed.certs r.signed.crls lists =
    subst (λ (xs : List CrlValue). AreGoodOf good now r.signed.certs xs lists) carried_lists (subst (λ (cs : List CertValue). AreGoodOf good now cs crls lists) carried of) in
    of_paths_told r paths (λ paths. Each (IsPairUnrevoked good now r.signed.certs r.signed.crls) (pairs paths)) b only
    (unrevoked_told good now r.signed.certs r.signed.crls lists apart g b (pairs paths) f)

-- Whether the lists pass, where lack of memory may be answered in place of it.
pub lists_answered : (r : RtaValue) (paths : List (List ℕ)) (certs : List CertValue) (ps : List (ℕ × ℕ)) (crls : List CrlValue) (answer : Result Bool AllocError)
    → AreItsPaths r paths → certs ≡ r.signed.certs → HaveSame ps (pairs paths) → crls ≡ r.signed.crls → IfOk answer (λ yes. IsTrue yes ↔ Each (IsUsed certs ps) crls)
    → IfOk answer (λ yes. (d : Digests) (good : Verdicts) (strict : Bool) (now : ℕ) → IsTrue yes ↔ Passes d good strict now r test.Lists)
lists_answered r paths certs ps crls (Ok b) only carried same lists h = lists_told r paths certs ps crls b only carried same lists h
lists_answered r paths certs ps crls (Err e) only carried same lists h = tt

pub revocation_answered : (good : Verdicts) (now : ℕ) (r : RtaValue) (paths : List (List ℕ)) (certs : List CertValue) (ps : List (ℕ × ℕ)) (crls lists : List CrlValue) (answer : Result Bool AllocError)
    → AreItsPaths r paths → AreApart (nodes r) → certs ≡ r.signed.certs → HaveSame ps (pairs paths) → crls ≡ r.signed.crls → AreGoodOf good now certs crls lists
    → IfOk answer (λ yes. IsTrue yes ↔ Each (λ (q : ℕ × ℕ). Stands certs q.0 (λ c. Stands certs q.1 (λ p. Has (Serves p c) lists))) ps)
    → IfOk answer (λ yes. (d : Digests) (strict : Bool) → IsTrue yes ↔ Passes d good strict now r test.Revocation)
revocation_answered good now r paths certs ps crls lists (Ok b) only apart carried same carried_lists of h = revocation_told good now r paths certs ps crls lists b only apart carried same carried_lists of h
revocation_answered good now r paths certs ps crls lists (Err e) only apart carried same carried_lists of h = tt
