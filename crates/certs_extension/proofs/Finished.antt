-- Where a test after the list fails nothing is claimed.
use Rattle.std.proofs.Common.{◌≡◌, inl, inr, Option, Some, None, Result, Ok, Err, OnErr, sym, ◌∙◌}
use Rattle.certs_extension.specs.resources_chain.declared.claims.Overclaim.{Overclaim}
use Rattle.certs_extension.proofs.Values.{same_some}
use Rattle.certs_extension.specs.declared.claims.finish.Claims.{Claims}
use Rattle.certs_extension.specs.declared.claims.slots.Slots.{Slots}
use Rattle.certs_extension.specs.declared.error.ExtensionError.{ExtensionError}
use Rattle.certs_extension.specs.declared.error.ExtensionError.TheVariants.{Duplicate, Criticality, UnknownCritical, BadValue, MissingResources, MissingPolicy, WrongIpResources, WrongAsResources, MissingSubjectKeyIdentifier, MissingKeyUsage, Memory}
use Rattle.certs_extension.specs.Finishing.{Finishes, HasPolicy, HasSome, IsListFault, IsUnder, Stands}

pub on_err : {T E P : Type 0} (r : Result T E) → P → OnErr r P
on_err (Ok x) p = tt
on_err (Err e) p = p

none_or_some : {A : Type 0} {o : Option A} {x : A} → o ≡ None → o ≡ Some x → ⊥
none_or_some {A} {o} {x} p q = let e : None ≡ Some x = sym p ∙ q in absurd cc

none_of : (s : Slots) → s.ip ≡ None → s.asn ≡ None → HasSome s → ⊥
none_of s p q (inl h) = h p
none_of s p q (inr h) = h q

stands : {A : Type 0} (v w : Overclaim) (missing x : A) (slot : Option (Overclaim × A)) → w ≡ v → IsUnder w missing slot x → Stands v slot
stands v w missing x None e u = tt
stands v w missing x (Some y) e u = u.0 ∙ e

policy_same : (s : Slots) (c : Claims) (v : Overclaim) → HasPolicy s v → Finishes s c → c.overclaim ≡ v
policy_same s c v p f = same_some (sym f.overclaim ∙ p.policy_is)

pub no_claims : (s : Slots) (fault : ExtensionError) (c : Claims) → IsListFault s fault → Finishes s c → ⊥
no_claims s Duplicate c h f = h
no_claims s Criticality c h f = h
no_claims s UnknownCritical c h f = h
no_claims s BadValue c h f = h
no_claims s MissingResources c h f = none_of s h.0 h.1 f.some
no_claims s MissingPolicy c h f = none_or_some h.1 f.overclaim
no_claims s WrongIpResources c h f = h.2 (stands h.0 c.overclaim _ _ s.ip (policy_same s c h.0 h.1 f) f.ip)
no_claims s WrongAsResources c h f = h.3 (stands h.0 c.overclaim _ _ s.asn (policy_same s c h.0 h.1 f) f.asn)
no_claims s MissingSubjectKeyIdentifier c h f = none_or_some h.2 f.subject_key_identifier
no_claims s MissingKeyUsage c h f = none_or_some h.3 f.key_usage
no_claims s Memory c h f = h
