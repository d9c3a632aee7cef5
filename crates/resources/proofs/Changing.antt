-- What changes lead to.
use Rattle.std.proofs.Common.{◌≡◌, List, inl, inr}
use Rattle.resources.specs.resources_chain.Sets.{Run, InFirstOnly, IsRunsOf}
use Rattle.resources.proofs.of_resources_chain.SetLemmas.{decides, one_list_of}
use Rattle.resources.specs.Resources.{Resources, Changes, AreChanges, Combines}
use Rattle.resources.specs.Equal.{set_is}
use Rattle.resources.specs.Laws.{Turns, LeadsTo}

turns : (before removed added now : List Run) → IsRunsOf (InFirstOnly now before) added → IsRunsOf (InFirstOnly before now) removed → Turns before removed added now
turns before removed added now more less n = (
  λ h. elim h [
    | inl x ↦ elim (decides now n) [ inl i ↦ i | inr o ↦ absurd (x.1 ((less.same n).1 (x.0, o))) ]
    | inr x ↦ ((more.same n).0 x).0
  ],
  λ i. elim (decides before n) [ inl b ↦ inl (b, λ r. ((less.same n).0 r).1 i) | inr o ↦ inr ((more.same n).1 (i, o)) ],
)

pub leads : (now before : Resources) (d : Changes) → AreChanges now before d → LeadsTo before d now
leads now before d c = record {
  asn = turns before.asn d.removed.asn d.added.asn now.asn c.more.asns c.less.asns;
  ipv4 = turns before.ipv4 d.removed.ipv4 d.added.ipv4 now.ipv4 c.more.v4s c.less.v4s;
  ipv6 = turns before.ipv6 d.removed.ipv6 d.added.ipv6 now.ipv6 c.more.v6s c.less.v6s;
}

one_set : (one other : Resources) {a b : Resources} → Combines InFirstOnly one other a → Combines InFirstOnly one other b → a ≡ b
one_set one other p q = set_is (one_list_of p.asns q.asns) (one_list_of p.v4s q.v4s) (one_list_of p.v6s q.v6s)

pub turn_round : (now before : Resources) (d e : Changes) → AreChanges now before d → AreChanges before now e → (e.added ≡ d.removed) × (e.removed ≡ d.added)
turn_round now before d e p q = (one_set before now q.more p.less, one_set now before q.less p.more)
