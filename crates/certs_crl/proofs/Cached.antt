-- Membership in a list, with the numbers that are kept aside and without.
use Rattle.std.proofs.Common.{◌≡◌, ◌<◌, ◌↔◌, ℕ, Bool, IsTrue, List, Option, None, Some, sym, subst, length}
use Rattle.std.specs.List.Sorted.{IsStrictlyIncreasing}
use Rattle.std.specs.Prelude.{Contains, MatchOption, slice_index}
use Rattle.certs_x509.specs.resources_chain.Rows.{ProbesAtMost}
use Rattle.certs_x509.specs.Listed.{IsListed}
use Rattle.certs_x509.specs.certs_extension.CrlText.{CrlValue, IsOn, RevokedValue}
use Rattle.certs_crl.specs.Caches.{IsCache, IsCached, IsLookedUp}

pub listed_tells : {b : Bool} (c : CrlValue) {entries : List RevokedValue} {n : ℕ} → entries ≡ c.tbs.revoked → (IsTrue b ↔ IsListed entries n) → IsTrue b ↔ IsOn c n
listed_tells c {n = n} e h = (
  λ t. let l = subst (λ (xs : List RevokedValue). IsListed xs n) e (h.0 t) in record { entry = l.entry; listed = l.listed; same = l.same },
  λ o. h.1 (subst (λ (xs : List RevokedValue). IsListed xs n) (sym e) (record { entry = o.entry; listed = o.listed; same = o.same })),
)

pub cached_tells : {b : Bool} (c : CrlValue) {entries : List RevokedValue} {kept : Option (List ℕ)} {cache : List ℕ} {n : ℕ} → entries ≡ c.tbs.revoked
    → IsCached entries kept → kept ≡ Some cache → (IsTrue b ↔ Contains cache n) → IsTrue b ↔ IsOn c n
cached_tells {b} c {entries} {kept} {cache} {n} e is some h =
    let kept_is : IsCache entries cache = subst (IsCached entries) some is in
    listed_tells c e (λ t. (kept_is.same n).0 (h.0 t), λ l. h.1 ((kept_is.same n).1 l))

pub cached_by : {entries lent : List RevokedValue} (cache : List ℕ) → lent ≡ entries → ((n : ℕ) → Contains cache n ↔ IsListed lent n) → IsStrictlyIncreasing cache
    → IsCached entries (Some cache)
cached_by cache e h r = record { rises = r; same = subst (λ (xs : List RevokedValue). (n : ℕ) → Contains cache n ↔ IsListed xs n) e h }

pub looked_up : (c : CrlValue) {entries : List RevokedValue} {kept : Option (List ℕ)} {cache : List ℕ} {n old new : ℕ} {place : Option ℕ} → entries ≡ c.tbs.revoked
    → IsCached entries kept → kept ≡ Some cache → ProbesAtMost (length cache) old new
    → MatchOption place (Contains cache n → ⊥) (λ k. (k < length cache) × (slice_index cache k ≡ n)) → IsLookedUp c.tbs.revoked n old new place
looked_up c {entries} {kept} {cache} {n} {place = place} e is some looks at =
    let kept_is : IsCache entries cache = subst (IsCached entries) some is in
    let own : IsCache c.tbs.revoked cache = subst (λ (xs : List RevokedValue). IsCache xs cache) e kept_is in
    record { cache = cache; kept = own; looks = looks; place_is = unlisted _ place (λ l. (own.same n).1 l) at }
  where
    unlisted : {P Q : Type 0} (R : ℕ → Type 0) (o : Option ℕ) → (Q → P) → MatchOption o (P → ⊥) R → MatchOption o (Q → ⊥) R
    unlisted R None f h = λ q. h (f q)
    unlisted R (Some k) f h = h

-- Numbers that were copied are those of the copied list.
pub cached_same : {entries others : List RevokedValue} {kept copied : Option (List ℕ)} → entries ≡ others → kept ≡ copied → IsCached entries kept → IsCached others copied
cached_same {entries} {copied = copied} e f p = subst (λ (l : List RevokedValue). IsCached l copied) e (subst (IsCached entries) f p)
