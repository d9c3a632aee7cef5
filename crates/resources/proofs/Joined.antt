-- What sets of a family promise, joined and cut.
use Rattle.std.proofs.Common.{List, inl, inr, sym}
use Rattle.resources.specs.resources_chain.Sets.{Run, InEither, InBoth, InFirstOnly, IsRunsOf}
use Rattle.resources.specs.resources_ip_prefix.declared.addr.AddressFamily.{AddressFamily}
use Rattle.resources.specs.resources_ip_prefix.declared.addr.AddressFamily.TheVariants.{Ipv4, Ipv6}
use Rattle.resources.specs.Families.{FitsBlocks}

pub fit_either : (f : AddressFamily) (a b set : List Run) → FitsBlocks f a → FitsBlocks f b → IsRunsOf (InEither a b) set → FitsBlocks f set
fit_either Ipv4 a b set p q is = λ n m e h. (is.same m).1 (elim ((is.same n).0 h) [ inl x ↦ inl (p n m e x) | inr x ↦ inr (q n m e x) ])
fit_either Ipv6 a b set p q is = tt

pub fit_both : (f : AddressFamily) (a b set : List Run) → FitsBlocks f a → FitsBlocks f b → IsRunsOf (InBoth a b) set → FitsBlocks f set
fit_both Ipv4 a b set p q is = λ n m e h. let x = (is.same n).0 h in (is.same m).1 (p n m e x.0, q n m e x.1)
fit_both Ipv6 a b set p q is = tt

pub fit_only : (f : AddressFamily) (a b set : List Run) → FitsBlocks f a → FitsBlocks f b → IsRunsOf (InFirstOnly a b) set → FitsBlocks f set
fit_only Ipv4 a b set p q is = λ n m e h. let x = (is.same n).0 h in (is.same m).1 (p n m e x.0, λ y. x.1 (q m n (sym e) y))
fit_only Ipv6 a b set p q is = tt
