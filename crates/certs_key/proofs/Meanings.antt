-- What readers of algorithms have read, and that a value names one algorithm.
use Rattle.std.proofs.Common.{◌≡◌, ℕ, Bool, true, false, List, Option, Some, None, Result, Ok, Err, inl, inr, refl, sym, ap, ◌∙◌, subst}
use Rattle.std.specs.Option.{is_some}
use Rattle.std.specs.Result.{IsErr, IsErrAnd}
use Rattle.certs_key.specs.bcder_tree.Tags.{TagValue, sequence_tag}
use Rattle.certs_key.specs.bcder_tree.Tree.{Tree}
use Rattle.certs_key.specs.bcder_source.Errors.{OnContent}
use Rattle.certs_key.specs.bcder_source.declared.error.DecodeError.{DecodeError}
use Rattle.certs_key.specs.bcder_content.Contents.{ValuesLeft}
use Rattle.certs_key.specs.bcder_content.Exact.{Lacks, LacksTagged, ReadsAs, ReadsOptAs}
use Rattle.certs_key.specs.bcder_content.Grammar.{As, Inside, One}
use Rattle.certs_key.proofs.of_bcder_content.Choices.{as_gives, as_lacks, gives_same}
use Rattle.certs_key.proofs.of_bcder_content.Simple.{unit_one}
use Rattle.certs_key.proofs.of_bcder_content.Taking.{weaker}
use Rattle.certs_key.proofs.of_bcder_content.Unique.{as_one, end_one, inside_one, octets_one, then_one}
use Rattle.certs_key.specs.certs_basics.Basics.{has_null}
use Rattle.certs_key.specs.certs_basics.Identifiers.{rsa_encryption, sha256_with_rsa}
use Rattle.certs_key.proofs.of_certs_basics.Values.{opt_null_one}
use Rattle.certs_key.specs.Algorithms.{AreCmsFields, AreDigestAlgorithms, AreFields, Fields, IsAlgorithmOf, IsCmsAlgorithm, IsDigestAlgorithm, NamesSignature, fields_of}

-- Whether NULL is there decides the fields.
pub null_told : (o : Option (Unit {0})) (b : Bool) → b ≡ is_some o → fields_of b ≡ (tt, (o, tt))
null_told o b e = ap (λ (z : Bool). fields_of z) e ∙ at o
  where
    at : (o : Option (Unit {0})) → fields_of (is_some o) ≡ (tt, (o, tt))
    at None = refl
    at (Some x) = refl

null_kept : (b : Bool) → b ≡ has_null (fields_of b)
null_kept true = refl
null_kept false = refl

-- A reader of the fields is one of the algorithm.
pub algorithm_reads : {E : Type 0} (kind : List ℕ) (old new : ValuesLeft) (r : Result Bool (DecodeError E))
    → ReadsAs fields_of (Inside sequence_tag (AreFields kind)) old r new → ReadsAs (λ a. a) (IsAlgorithmOf kind) old r new
algorithm_reads kind old new (Ok b) h = gives_same (null_kept b) (as_gives has_null h)
algorithm_reads kind old new (Err e) h = weaker e (as_lacks has_null) h

-- Either identifier is named.
either_named : (t : Tree) (b : Bool) (x : Fields) → b ≡ has_null x → Inside sequence_tag AreCmsFields t x → IsCmsAlgorithm t b
either_named t b x e p = elim p.is.is.is.names [
  | inl h ↦ record { cases = inl (named rsa_encryption h) }
  | inr h ↦ record { cases = inr (named sha256_with_rsa h) }
]
  where
    named : (kind : List ℕ) → p.is.is.content ≡ kind → IsAlgorithmOf kind t b
    named kind h = record {
      x = x;
      is = record {
        values = p.values;
        whole = p.whole;
        is = record {
          first = p.is.first;
          others = p.is.others;
          whole = p.is.whole;
          is = record { content = p.is.is.content; whole = p.is.is.whole; is = record { same = h } };
          rest = p.is.rest;
        };
      };
      means = e;
    }

either_fields : (kind : List ℕ) → ((content : List ℕ) → content ≡ kind → NamesSignature content tt) → (t : Tree) (b : Bool)
    → IsAlgorithmOf kind t b → As (Inside sequence_tag AreCmsFields) has_null t b
either_fields kind names t b p = record {
  x = p.x;
  is = record {
    values = p.is.values;
    whole = p.is.whole;
    is = record {
      first = p.is.is.first;
      others = p.is.is.others;
      whole = p.is.is.whole;
      is = record {
        content = p.is.is.is.content;
        whole = p.is.is.is.whole;
        is = names p.is.is.is.content p.is.is.is.is.same;
      };
      rest = p.is.is.rest;
    };
  };
  means = p.means;
}

cms_fields : (t : Tree) (b : Bool) → IsCmsAlgorithm t b → As (Inside sequence_tag AreCmsFields) has_null t b
cms_fields t b p = elim p.cases [
  | inl q ↦ either_fields rsa_encryption (λ content h. record { names = inl h }) t b q
  | inr q ↦ either_fields sha256_with_rsa (λ content h. record { names = inr h }) t b q
]

cms_lacks : {now : ValuesLeft} → Lacks (Inside sequence_tag AreCmsFields) now → Lacks IsCmsAlgorithm now
cms_lacks l = record { none = λ t b p a. let q = cms_fields t b p in l.none t q.x q.is a }

pub cms_reads : {E : Type 0} (old new : ValuesLeft) (r : Result Bool (DecodeError E))
    → ReadsAs fields_of (Inside sequence_tag AreCmsFields) old r new → ReadsAs (λ a. a) IsCmsAlgorithm old r new
cms_reads old new (Ok b) h = record { tree = h.tree; is = either_named h.tree b (fields_of b) (null_kept b) h.is; took = h.took }
cms_reads old new (Err e) h = weaker e cms_lacks h

-- Why an optional value was refused, `?` passes on.
pub stop_opt_value : {A B D E : Type 0} {tag : TagValue} (f : D → A) {P : Tree → A → Type 0} {now : ValuesLeft} (new : ValuesLeft)
    (r : Result (Option D) (DecodeError E)) (e : DecodeError E) → IsErr r × IsErrAnd r (λ x. x ≡ e) → (B → LacksTagged tag P now) → OnContent e B → ReadsOptAs f tag P now r new
stop_opt_value f new (Ok (Some x)) e a h fact = absurd a.1
stop_opt_value f new (Ok None) e a h fact = absurd a.1
stop_opt_value {E = E} {tag = tag} f {P} {now} new (Err x) e a h fact =
    subst (λ (y : DecodeError E). OnContent y (LacksTagged tag P now)) (sym a.1) (weaker e h fact)

-- A value names one algorithm at most.
pub algorithm_of_one : (kind : List ℕ) → One (IsAlgorithmOf kind)
algorithm_of_one kind = as_one (inside_one (then_one (octets_one unit_one) opt_null_one))

either_one : One (As (Inside sequence_tag AreCmsFields) has_null)
either_one = as_one (inside_one (then_one (octets_one unit_one) opt_null_one))

pub cms_one : One IsCmsAlgorithm
cms_one = record { one = λ t x y p q. either_one.one t x y (cms_fields t x p) (cms_fields t y q) }

pub digest_one : One IsDigestAlgorithm
digest_one = as_one (algorithm_of_one _)

pub digests_one : One AreDigestAlgorithms
digests_one = inside_one (then_one digest_one end_one)
