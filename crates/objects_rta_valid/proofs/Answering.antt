-- The first test that fails, of a part of the tests and of all.
use Rattle.std.proofs.Common.{◌≡◌, ℕ, ◌<◌, zero, suc, Bool, List, [], ◌∷◌, ◌++◌, Option, Some, None, true, false, Result, Ok, Err, map, length, get_or, refl, sym, ap, ◌∙◌, subst, arith}
use Rattle.std.specs.Prelude.{◌↔◌, Any, IfOk, IsTrue, MatchOption, is_some, not}
use Rattle.std.specs.Borrow.{Bor}
use Rattle.std.specs.declared.alloc.AllocError.{AllocError}
use Rattle.std.proofs.lemmas.List.{length-map}
use Rattle.objects_rta.specs.objects_cms.Signer.{SignerValue, signer_fields}
use Rattle.objects_rta.specs.objects_payload.ObjectText.{Signer, signer_of}
use Rattle.certs_verify.specs.certs_basics.HandedIn.{Digests}
use Rattle.certs_verify.specs.certs_basics.Lists.{Each, FirstFailing}
use Rattle.certs_verify.specs.certs_basics.Verdicts.{Verdicts}
use Rattle.objects_rta_valid.specs.Nodes.{Node, each_octets}
use Rattle.objects_rta_valid.specs.Paths.{AreAllOn, ArePaths, HasNoOnlyPath, IsFirstOff, IsOnlyPath, PathsValue}
use Rattle.objects_rta_valid.specs.Keys.{AreSame}
use Rattle.objects_rta.specs.AttestationParts.{RtaValue}
use Rattle.objects_rta_valid.specs.declared.errors.RtaError.{RtaError}
use Rattle.objects_rta_valid.specs.declared.errors.RtaError.TheVariants.{Test, Memory}
use Rattle.objects_rta_valid.specs.declared.errors.RtaTest.TheVariants as test
use Rattle.objects_rta_valid.specs.Apart.{AreOnly}
use Rattle.objects_rta_valid.specs.Certs.{node_of}
use Rattle.objects_rta_valid.specs.Validity.{AreItsPaths, FailsFirst, IsValid, Passes, nodes, path_tests, sids}
use Rattle.objects_rta_valid.specs.Answered.{HasWalked, IsWalk, Validates, WalksTo}
use Rattle.objects_rta_valid.proofs.Judging.{sids_same}
use Rattle.objects_rta_valid.proofs.Walks.{only_these}

assoc : {X : Type 0} (a : List X) (t : X) (b c : List X) → (a ++ t ∷ b) ++ c ≡ a ++ t ∷ (b ++ c)
assoc [] t b c = refl
assoc {X} (x ∷ a) t b c = ap (λ (ys : List X). x ∷ ys) (assoc a t b c)

-- Later tests change nothing.
pub fails_before : {X : Type 0} (P : X → Type 0) (ts behind : List X) (t : X) → FirstFailing P ts t → FirstFailing P (ts ++ behind) t
fails_before {X} P ts behind t f = record {
  front = f.front;
  behind = f.behind ++ behind;
  whole = ap (λ (ys : List X). ys ++ behind) f.whole ∙ assoc f.front t f.behind behind;
  passed = f.passed;
  fails = f.fails;
}

pub walk_fails : (A : Type 0) (d : Digests) (good : Verdicts) (strict : Bool) (now : ℕ) (r : RtaValue) (e : RtaError) → WalksTo r (Err e) → Validates {A = A} d good strict now r (Err e)
walk_fails A d good strict now r (Test t) f =
    fails_before (Passes d good strict now r) path_tests (test.Content ∷ test.Forms ∷ test.Validity ∷ test.Signatures ∷ test.Lists ∷ test.Revocation ∷ []) t (f d good strict now)
walk_fails A d good strict now r Memory f = tt

pub other_answer : (A B : Type 0) (d : Digests) (good : Verdicts) (strict : Bool) (now : ℕ) (r : RtaValue) (e : RtaError) → Validates {A = A} d good strict now r (Err e) → Validates {A = B} d good strict now r (Err e)
other_answer A B d good strict now r (Test t) f = f
other_answer A B d good strict now r Memory f = tt

-- Where some signer has no only path there are none of all.
none_at : (nodes : List Node) (k : ℕ) (sid : List ℕ) (sids paths : List (List ℕ)) → k < length sids → get_or sids k sid ≡ sid → HasNoOnlyPath nodes sid → AreOnly nodes sids paths → ⊥
none_at nodes k sid [] paths lt e n only = absurd (omega arith)
none_at nodes k sid (s ∷ ss) [] lt e n only = absurd only
none_at nodes zero sid (s ∷ ss) (p ∷ ps) lt e n only = n p (subst (λ (x : List ℕ). IsOnlyPath nodes x p) e only.0)
none_at nodes (suc k) sid (s ∷ ss) (p ∷ ps) lt e n only = none_at nodes k sid ss ps (omega arith) e n only.1

pub none_only : (nodes : List Node) (sids paths : List (List ℕ)) → Any (HasNoOnlyPath nodes) sids → AreOnly nodes sids paths → ⊥
none_only nodes sids paths a only = none_at nodes a.0 a.1 sids paths a.2 a.3 a.4 only

-- The first failing of the other tests, where those before it are passed.
module _ (d : Digests) (good : Verdicts) (strict : Bool) (now : ℕ) (r : RtaValue) (paths : Each (Passes d good strict now r) path_tests) where
  pub first_content : (Passes d good strict now r test.Content → ⊥) → FailsFirst d good strict now r test.Content
  first_content n = record {
    front = test.Keys ∷ test.Paths ∷ test.Certificates ∷ [];
    behind = test.Forms ∷ test.Validity ∷ test.Signatures ∷ test.Lists ∷ test.Revocation ∷ [];
    whole = refl;
    passed = paths;
    fails = n;
  }

  pub first_forms : Passes d good strict now r test.Content → (Passes d good strict now r test.Forms → ⊥) → FailsFirst d good strict now r test.Forms
  first_forms a n = record {
    front = test.Keys ∷ test.Paths ∷ test.Certificates ∷ test.Content ∷ [];
    behind = test.Validity ∷ test.Signatures ∷ test.Lists ∷ test.Revocation ∷ [];
    whole = refl;
    passed = (paths.0, (paths.1.0, (paths.1.1.0, (a, tt))));
    fails = n;
  }

  pub first_validity : Passes d good strict now r test.Content → Passes d good strict now r test.Forms → (Passes d good strict now r test.Validity → ⊥) → FailsFirst d good strict now r test.Validity
  first_validity a b n = record {
    front = test.Keys ∷ test.Paths ∷ test.Certificates ∷ test.Content ∷ test.Forms ∷ [];
    behind = test.Signatures ∷ test.Lists ∷ test.Revocation ∷ [];
    whole = refl;
    passed = (paths.0, (paths.1.0, (paths.1.1.0, (a, (b, tt)))));
    fails = n;
  }

  pub first_signatures : Passes d good strict now r test.Content → Passes d good strict now r test.Forms → Passes d good strict now r test.Validity
      → (Passes d good strict now r test.Signatures → ⊥) → FailsFirst d good strict now r test.Signatures
  first_signatures a b e n = record {
    front = test.Keys ∷ test.Paths ∷ test.Certificates ∷ test.Content ∷ test.Forms ∷ test.Validity ∷ [];
    behind = test.Lists ∷ test.Revocation ∷ [];
    whole = refl;
    passed = (paths.0, (paths.1.0, (paths.1.1.0, (a, (b, (e, tt))))));
    fails = n;
  }

  pub first_lists : Passes d good strict now r test.Content → Passes d good strict now r test.Forms → Passes d good strict now r test.Validity → Passes d good strict now r test.Signatures
      → (Passes d good strict now r test.Lists → ⊥) → FailsFirst d good strict now r test.Lists
  first_lists a b e f n = record {
    front = test.Keys ∷ test.Paths ∷ test.Certificates ∷ test.Content ∷ test.Forms ∷ test.Validity ∷ test.Signatures ∷ [];
    behind = test.Revocation ∷ [];
    whole = refl;
    passed = (paths.0, (paths.1.0, (paths.1.1.0, (a, (b, (e, (f, tt)))))));
    fails = n;
  }

  pub first_revocation : Passes d good strict now r test.Content → Passes d good strict now r test.Forms → Passes d good strict now r test.Validity → Passes d good strict now r test.Signatures
      → Passes d good strict now r test.Lists → (Passes d good strict now r test.Revocation → ⊥) → FailsFirst d good strict now r test.Revocation
  first_revocation a b e f k n = record {
    front = test.Keys ∷ test.Paths ∷ test.Certificates ∷ test.Content ∷ test.Forms ∷ test.Validity ∷ test.Signatures ∷ test.Lists ∷ [];
    behind = [];
    whole = refl;
    passed = (paths.0, (paths.1.0, (paths.1.1.0, (a, (b, (e, (f, (k, tt))))))));
    fails = n;
  }

  pub valid_of : Passes d good strict now r test.Content → Passes d good strict now r test.Forms → Passes d good strict now r test.Validity → Passes d good strict now r test.Signatures
      → Passes d good strict now r test.Lists → Passes d good strict now r test.Revocation → IsValid d good strict now r
  valid_of a b e f k l = (paths.0, (paths.1.0, (paths.1.1.0, (a, (b, (e, (f, (k, (l, tt)))))))))

-- The tests of paths, which need no digests and no verdicts.
pub first_keys : (r : RtaValue) → (AreSame (sids r) r.content.keys → ⊥) → WalksTo r (Err (Test test.Keys))
first_keys r n = λ d good strict now. record { front = []; behind = test.Paths ∷ test.Certificates ∷ []; whole = refl; passed = tt; fails = n }

pub first_paths : (r : RtaValue) → AreSame (sids r) r.content.keys → ((paths : List (List ℕ)) → AreItsPaths r paths → ⊥) → WalksTo r (Err (Test test.Paths))
first_paths r a n = λ d good strict now. record { front = test.Keys ∷ []; behind = test.Certificates ∷ []; whole = refl; passed = (a, tt); fails = λ p. n p.0 p.1 }

pub first_certificates : (r : RtaValue) (p : PathsValue) → AreSame (sids r) r.content.keys → IsWalk r p → (AreAllOn p.paths p.count → ⊥) → WalksTo r (Err (Test test.Certificates))
first_certificates r p a w off = λ d good strict now. record {
  front = test.Keys ∷ test.Paths ∷ [];
  behind = [];
  whole = refl;
  passed = (a, ((p.paths, w.only), tt));
  fails = λ h. off (subst (AreAllOn p.paths) (sym w.all) (h p.paths w.only));
}

pub walked : (r : RtaValue) (p : PathsValue) → AreSame (sids r) r.content.keys → IsWalk r p → AreAllOn p.paths p.count → HasWalked r p
walked r p a w on = record {
  walk = w;
  all_on = on;
  passed = λ d good strict now. (
    a,
    (
      (p.paths, w.only),
      (
        (λ others o. subst (λ (ps : List (List ℕ)). AreAllOn ps (length r.signed.certs)) (sym (only_these (nodes r) (sids r) p.paths others w.only o))
            (subst (AreAllOn p.paths) w.all on)),
        tt,
      ),
    ),
  );
}

yes_of : (b : Bool) → false ≡ not b → b ≡ true
yes_of true e = refl
yes_of false e = absurd cc

no_of : (b : Bool) → true ≡ not b → b ≡ true → ⊥
no_of true e t = cc
no_of false e t = cc

pub off_told : (p : PathsValue) (o : Option ℕ) (b : Bool) → is_some o ≡ not b → MatchOption o (AreAllOn p.paths p.count) (IsFirstOff p.paths p.count) → (IsTrue b ↔ AreAllOn p.paths p.count)
off_told p None b e m = ((λ t. m), (λ a. yes_of b e))
off_told p (Some place) b e m = ((λ t. absurd (no_of b e t)), (λ a. absurd (m.off (a place m.inside))))

pub keys_told : (r : RtaValue) (xs ys : List (Bor (List ℕ))) (infos : List SignerValue) (answer : Result Bool AllocError)
    → each_octets xs ≡ map (λ (s : SignerValue). s.sid) infos → map signer_of (map signer_fields infos) ≡ r.signed.signers → each_octets ys ≡ r.content.keys
    → IfOk answer (λ same. IsTrue same ↔ AreSame (each_octets xs) (each_octets ys)) → IfOk answer (λ same. IsTrue same ↔ AreSame (sids r) r.content.keys)
keys_told r xs ys infos answer e f k h =
    let s : each_octets xs ≡ sids r = e ∙ sids_same infos ∙ ap (λ (ss : List Signer). map (λ (s : Signer). s.sid) ss) f in
    subst (λ (ks : List (List ℕ)). IfOk answer (λ same. IsTrue same ↔ AreSame (sids r) ks)) k (subst (λ (ss : List (List ℕ)). IfOk answer (λ same. IsTrue same ↔ AreSame ss (each_octets ys))) s h)

pub sids_told : (r : RtaValue) (xs : List (Bor (List ℕ))) (infos : List SignerValue) → each_octets xs ≡ map (λ (s : SignerValue). s.sid) infos → map signer_of (map signer_fields infos) ≡ r.signed.signers → each_octets xs ≡ sids r
sids_told r xs infos e f = e ∙ sids_same infos ∙ ap (λ (ss : List Signer). map (λ (s : Signer). s.sid) ss) f

pub found_told : (r : RtaValue) (ns : List Node) (keys : List (List ℕ)) (answer : Result (Option PathsValue) AllocError) → ns ≡ nodes r → keys ≡ sids r
    → IfOk answer (λ found. MatchOption found (Any (HasNoOnlyPath ns) keys) (ArePaths ns keys))
    → IfOk answer (λ found. MatchOption found ((paths : List (List ℕ)) → AreItsPaths r paths → ⊥) (λ p. IsWalk r p))
found_told r ns keys (Err e) f g h = tt
found_told r ns keys (Ok None) f g h = λ paths only.
    none_only (nodes r) (sids r) paths (subst (λ (ks : List (List ℕ)). Any (HasNoOnlyPath (nodes r)) ks) g (subst (λ (n : List Node). Any (HasNoOnlyPath n) keys) f h)) only
found_told r ns keys (Ok (Some p)) f g h =
    let k : ArePaths (nodes r) (sids r) p = subst (λ (ks : List (List ℕ)). ArePaths (nodes r) ks p) g (subst (λ (n : List Node). ArePaths n keys p) f h) in
    record { all = k.all ∙ length-map r.signed.certs node_of; only = k.each }
