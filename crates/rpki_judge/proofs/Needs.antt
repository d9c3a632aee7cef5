-- What is needed by what is claimed, and by the certificates that claim it.
use Rattle.std.proofs.Common.{◌≡◌, ℕ, sym, subst}
use Rattle.rpki_judge.specs.resources_chain.Sets.{IsRunsOf}
use Rattle.rpki_judge.specs.resources_chain.Claims.{Choice, Lists, Keeps}
use Rattle.rpki_judge.specs.resources_chain.declared.claims.Overclaim.{Overclaim}
use Rattle.rpki_judge.specs.resources.Resources.{Resources}
use Rattle.rpki_rules.specs.Certs.{Cert}
use Rattle.rpki_rules.specs.Kinds.{Kind, Ipv4, Ipv6, As, claim, of_kind, InSet}
use Rattle.rpki_rules.specs.Judge.{NeedAbove, NeedWith, KeepsNeed}
use Rattle.rpki_judge.specs.declared.claims.Claims.{Claims}
use Rattle.rpki_judge.specs.Needed.{claimed, AreClaims, ListsAll, KeepsAll, IsNeed, IsNeedAt}

module _ (c : Cert) (claims : Claims) (are : AreClaims c claims) where
  pub claimed_is : (k : Kind) → claimed claims k ≡ claim c k
  claimed_is Ipv4 = are.v4
  claimed_is Ipv6 = are.v6
  claimed_is As = are.asn

  pub kept_to : (need : Resources) → KeepsAll claims need → KeepsNeed c (InSet need)
  kept_to need h Ipv4 n i = subst (λ (x : Choice). Keeps x n) are.v4 (h.1 n i)
  kept_to need h Ipv6 n i = subst (λ (x : Choice). Keeps x n) are.v6 (h.2 n i)
  kept_to need h As n i = subst (λ (x : Choice). Keeps x n) are.asn (h.0 n i)

  pub kept_from : (need : Resources) → KeepsNeed c (InSet need) → KeepsAll claims need
  kept_from need h = (
    λ n i. subst (λ (x : Choice). Keeps x n) (sym are.asn) (h As n i),
    λ n i. subst (λ (x : Choice). Keeps x n) (sym are.v4) (h Ipv4 n i),
    λ n i. subst (λ (x : Choice). Keeps x n) (sym are.v6) (h Ipv6 n i),
  )

  pub listed_to : (need : Resources) → ListsAll claims need → (k : Kind) (n : ℕ) → InSet need k n → Lists (claim c k) n
  listed_to need h Ipv4 n i = subst (λ (x : Choice). Lists x n) are.v4 (h.1 n i)
  listed_to need h Ipv6 n i = subst (λ (x : Choice). Lists x n) are.v6 (h.2 n i)
  listed_to need h As n i = subst (λ (x : Choice). Lists x n) are.asn (h.0 n i)

  pub listed_from : (need : Resources) → ((k : Kind) (n : ℕ) → InSet need k n → Lists (claim c k) n) → ListsAll claims need
  listed_from need h = (
    λ n i. subst (λ (x : Choice). Lists x n) (sym are.asn) (h As n i),
    λ n i. subst (λ (x : Choice). Lists x n) (sym are.v4) (h Ipv4 n i),
    λ n i. subst (λ (x : Choice). Lists x n) (sym are.v6) (h Ipv6 n i),
  )

  -- What is handed up by what is claimed is what the certificates hand up.
  pub need_is : (m : Cert) (manifest : Claims) → AreClaims m manifest → (need higher : Resources) → IsNeedAt claims manifest need higher → IsNeed (λ k. NeedWith m.tbs.overclaim (claim m k) (NeedAbove c.tbs.overclaim (claim c k) (InSet need k))) higher
  need_is m manifest other need higher h k =
      subst (λ (q : Overclaim). IsRunsOf (NeedWith q (claim m k) (NeedAbove c.tbs.overclaim (claim c k) (InSet need k))) (of_kind higher k)) other.policy
      (subst (λ (x : Choice). IsRunsOf (NeedWith manifest.policy x (NeedAbove c.tbs.overclaim (claim c k) (InSet need k))) (of_kind higher k)) (other_is k)
      (subst (λ (q : Overclaim). IsRunsOf (NeedWith manifest.policy (claimed manifest k) (NeedAbove q (claim c k) (InSet need k))) (of_kind higher k)) are.policy
      (subst (λ (x : Choice). IsRunsOf (NeedWith manifest.policy (claimed manifest k) (NeedAbove claims.policy x (InSet need k))) (of_kind higher k)) (claimed_is k) (h k))))
    where
      other_is : (j : Kind) → claimed manifest j ≡ claim m j
      other_is Ipv4 = other.v4
      other_is Ipv6 = other.v6
      other_is As = other.asn
