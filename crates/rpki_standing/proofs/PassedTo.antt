-- The first of tests that ask the same, and tests of things of a list that are gone through one after another.
use Rattle.std.proofs.Common.{◌≡◌, ◌↔◌, List, [], ◌∷◌, ◌++◌, flat_map, Result, Ok, Err, refl, sym, ap, ◌∙◌, subst, append_assoc, append-nil}
use Rattle.rpki_standing.specs.certs_basics.Lists.{Each, FirstFailing}
use Rattle.rpki_rules.proofs.FirstParts.{first_behind, first_flat}
use Rattle.rpki_rules.proofs.Firsts.{each_also, each_join, each_split}
use Rattle.rpki_standing.specs.Tests.{Tells}

-- Of tests that ask the same.
each_turn : {X : Type 0} (P Q : X → Type 0) (xs : List X) → Each (λ (z : X). P z ↔ Q z) xs → Each P xs → Each Q xs
each_turn P Q [] same all = tt
each_turn P Q (x ∷ xs) same all = (same.0.0 all.0, each_turn P Q xs same.1 all.1)

pub first_alike : {X : Type 0} (P Q : X → Type 0) (xs : List X) (x : X) → Each (λ (z : X). P z ↔ Q z) xs → FirstFailing P xs x → FirstFailing Q xs x
first_alike {X} P Q xs x same f =
    let R : X → Type 0 = λ z. P z ↔ Q z in
    let parts = each_split R f.front (x ∷ f.behind) (subst (Each R) f.whole same) in
    record {
      front = f.front;
      behind = f.behind;
      whole = f.whole;
      passed = each_turn P Q f.front parts.0 f.passed;
      fails = λ q. f.fails (parts.1.0.1 q);
    }

-- Things of a list that were gone through, one after another, and passed.
pub record PassedTo {X : Type 0} (P : X → Type 0) (all left : List X) : Type 0 where
  pub front : List X
  pub whole : all ≡ front ++ left
  pub passed : Each P front

pub passed_none : {X : Type 0} (P : X → Type 0) (all : List X) → PassedTo P all all
passed_none P all = record { front = []; whole = refl; passed = tt }

pub passed_more : {X : Type 0} (P : X → Type 0) (all left others : List X) (x : X) → left ≡ x ∷ others → P x → PassedTo P all left → PassedTo P all others
passed_more {X} P all left others x e p h = record {
  front = h.front ++ x ∷ [];
  whole = h.whole ∙ ap (λ (zs : List X). h.front ++ zs) e ∙ sym (append_assoc h.front (x ∷ []) others);
  passed = each_join P h.front (x ∷ []) h.passed (p, tt);
}

pub passed_all : {X : Type 0} (P : X → Type 0) (all left : List X) → left ≡ [] → PassedTo P all left → Each P all
passed_all {X} P all left e h = subst (Each P) (sym (h.whole ∙ ap (λ (zs : List X). h.front ++ zs) e ∙ append-nil h.front)) h.passed

-- So where one fails it is the first.
pub failed_next : {X Y : Type 0} (g : X → List Y) (P : X → Type 0) (Q : Y → Type 0) (all left others : List X) (x : X) (y : Y)
    → ((z : X) → P z → Each Q (g z)) → left ≡ x ∷ others → PassedTo P all left → FirstFailing Q (g x) y → FirstFailing Q (flat_map g all) y
failed_next {X} g P Q all left others x y also e h f =
    subst (λ (zs : List X). FirstFailing Q (flat_map g zs) y) (sym (h.whole ∙ ap (λ (zs : List X). h.front ++ zs) e))
    (first_flat g Q h.front x others y (each_also P (λ z. Each Q (g z)) h.front also h.passed) f)

-- A test before the others is passed.
pub told_behind : {A E X : Type 0} (test_of : E → X) (P : X → Type 0) (x : X) (ts : List X) (r : Result A E) → P x → Tells test_of P ts r → Tells test_of P (x ∷ ts) r
told_behind test_of P x ts (Ok a) p told = (p, told)
told_behind test_of P x ts (Err e) p told = first_behind P (x ∷ []) ts (test_of e) (p, tt) told
