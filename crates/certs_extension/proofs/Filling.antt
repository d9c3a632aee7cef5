-- What a reader of a value of one kind makes of its slot.
use Rattle.std.proofs.Common.{Option, Result, Ok, Err, OnOk, IfErr, subst}
use denote.Ref.{MutBor}
use Rattle.certs_extension.specs.bcder_tree.declared.mode.Mode.{Mode}
use Rattle.certs_extension.specs.bcder_tree.declared.mode.Mode.TheVariants.{Der}
use Rattle.certs_extension.specs.bcder_tree.Tree.{Tree}
use Rattle.certs_extension.specs.bcder_source.Views.{Reading}
use Rattle.certs_extension.specs.bcder_source.declared.error.DecodeError.{DecodeError}
use Rattle.certs_extension.specs.bcder_content.declared.constructed.Constructed.{Constructed}
use Rattle.certs_extension.specs.bcder_content.Captures.{rest_of}
use Rattle.certs_extension.specs.bcder_content.Contents.{ValuesLeft}
use Rattle.certs_extension.specs.bcder_content.Exact.{Lacks, ReadsAs}
use Rattle.certs_extension.specs.bcder_content.Here.{here}
use Rattle.certs_extension.specs.bcder_content.ClosureReads.{Reader}
use Rattle.certs_extension.specs.resources_chain.declared.claims.Overclaim.{Overclaim}
use Rattle.certs_extension.proofs.of_bcder_content.Decoding.{ValueEach, exact_decode}
use Rattle.certs_extension.proofs.of_bcder_content.Fronts.{front_lacks, front_reads}
use Rattle.certs_extension.specs.Putting.{CannotPut, PutsOnce}
use Rattle.certs_extension.specs.declared.error.ExtensionError.{ExtensionError}
use Rattle.certs_extension.specs.declared.error.ExtensionError.TheVariants.{Duplicate, Criticality, UnknownCritical, BadValue, MissingResources, MissingPolicy, WrongIpResources, WrongAsResources, MissingSubjectKeyIdentifier, MissingKeyUsage, Memory}
use Rattle.certs_extension.specs.Extensions.{Extension, Need}
use Rattle.certs_extension.specs.Filling.{CannotFill, Fills, Under}

pub weaker_ok : {T E P Q : Type 0} (r : Result T E) → (P → Q) → OnOk r P → OnOk r Q
weaker_ok (Ok x) f h = f h
weaker_ok (Err e) f h = tt

pub weaker_err : {T E : Type 0} {P Q : E → Type 0} (r : Result T E) → ((e : E) → P e → Q e) → IfErr r P → IfErr r Q
weaker_err (Ok x) f h = tt
weaker_err (Err e) f h = f e h

module _ {F A D : Type 0} {g : Reader F (Constructed Reading) A D} {op : F} where
  -- A closure that reads a grammar in each mode.
  pub in_der : (Q : Mode → Tree → A → Type 0) → ((p q : MutBor (Constructed Reading)) (r : Result A (DecodeError D)) → g.post op (p, tt) (r, (q, tt)) → ReadsAs (λ x. x) (Q (here rest_of p.now).mode) (here rest_of p.now) r (here rest_of q.now)) → ValueEach Der rest_of g op (λ x. x) (Q Der)
  in_der Q h = record { each = λ p q r m k. subst (λ (z : Mode). ReadsAs (λ x. x) (Q z) (here rest_of p.now) r (here rest_of q.now)) m (h p q r k) }

  module _ (need : Need) {Q : Tree → A → Type 0} (e : Extension) (old : Option A) where
    pub fills : {new : Option A} → ValueEach Der rest_of g op (λ x. x) Q → PutsOnce g op need e old new → Fills need Q e old new
    fills exact h = record { empty = h.empty; met = h.met; value = h.value; put = h.put; reads = front_reads (exact_decode exact h.decoded) }

    pub cannot_fill : ValueEach Der rest_of g op (λ x. x) Q → (fault : ExtensionError) → CannotPut g op need e old fault → CannotFill need Q e old fault
    cannot_fill exact Duplicate h = h
    cannot_fill exact Criticality h = h
    cannot_fill exact UnknownCritical h = h
    cannot_fill exact BadValue h = (h.0, front_lacks (exact_decode exact h.3))
    cannot_fill exact MissingResources h = h
    cannot_fill exact MissingPolicy h = h
    cannot_fill exact WrongIpResources h = h
    cannot_fill exact WrongAsResources h = h
    cannot_fill exact MissingSubjectKeyIdentifier h = h
    cannot_fill exact MissingKeyUsage h = h
    cannot_fill exact Memory h = h.0

-- No value under a policy where none is.
pub under_lacks : {A B : Type 0} {policy : Overclaim} {Q : Tree → B → Type 0} {v : ValuesLeft} (f : A → B) → Lacks Q v → Lacks (Under policy (λ t x. Q t (f x))) v
under_lacks f l = record { none = λ t x p a. l.none t (f x.1) p.is a }
