-- Where lack of memory is told while a signed object is read.
use Rattle.std.proofs.Common.{◌≡◌, ◌≢◌, ℕ, List, Result, Ok, Err, refl, sym, subst}
use denote.Ref.{MutBor}
use Rattle.std.specs.Prelude.{IfErr}
use Rattle.std.specs.Result.{IsErr, IsErrAnd}
use Rattle.objects_cms.specs.bcder_tree.Tags.{TagValue, context}
use Rattle.objects_cms.specs.bcder_source.declared.error.DecodeError.{DecodeError}
use Rattle.objects_cms.specs.bcder_source.declared.error.DecodeError.TheVariants.{Content, Source, Memory}
use Rattle.objects_cms.specs.bcder_content.declared.constructed.Constructed.{Constructed}
use Rattle.objects_cms.specs.bcder_content.Contents.{ValuesLeft}
use Rattle.objects_cms.specs.bcder_content.Exact.{Gives}
use Rattle.objects_cms.specs.bcder_content.Here.{here}
use Rattle.objects_cms.specs.bcder_content.Memory.{InErr, OnMemory, ClosureReadsErr}
use Rattle.objects_cms.specs.bcder_content.ClosureReads.{Reader}
use Rattle.objects_cms.specs.objects_payload.Identifiers as id
use Rattle.objects_cms.specs.objects_payload.ObjectText.{AreDigestAlgorithms, IsThree}
use Rattle.objects_cms.specs.Begun.{BeginsData, BeginsInfo, BeginsSigned, Opens}

-- An error that isn't lack of memory, handed on.
pub none_wanted : {A E : Type 0} (P : Type 0) (r : Result A (DecodeError E)) (e : DecodeError E) → IsErr r × IsErrAnd r (λ x. x ≡ e) → e ≢ Memory → IfErr r (λ (x : DecodeError E). OnMemory x P)
none_wanted P (Ok x) e a n = tt
none_wanted P (Err (Content x pos)) e a n = tt
none_wanted P (Err (Source x)) e a n = tt
none_wanted P (Err Memory) e a n = absurd (n (sym a.1))

-- A call that takes no memory.
pub never_wanted : {A E : Type 0} (P : Type 0) (r : Result A (DecodeError E)) → IfErr r (λ (e : DecodeError E). e ≢ Memory) → IfErr r (λ (e : DecodeError E). OnMemory e P)
never_wanted P (Ok x) n = tt
never_wanted P (Err (Content x pos)) n = tt
never_wanted P (Err (Source x)) n = tt
never_wanted P (Err Memory) n = absurd (n refl)

-- What was in front stays so, whatever error is handed on.
pub wanted : {A E P : Type 0} (r : Result A (DecodeError E)) → P → IfErr r (λ (e : DecodeError E). OnMemory e P)
wanted (Ok x) p = tt
wanted (Err (Content x pos)) p = tt
wanted (Err (Source x)) p = tt
wanted (Err Memory) p = p

-- What an error shows, handed on; and where more is known before it.
pub wants_on : {A E P Q : Type 0} (r : Result A (DecodeError E)) (e : DecodeError E) → IsErr r × IsErrAnd r (λ x. x ≡ e) → (P → Q) → OnMemory e P → IfErr r (λ (x : DecodeError E). OnMemory x Q)
wants_on {E = E} {P} {Q} (Ok x) e a f h = tt
wants_on {E = E} {P} {Q} (Err x) e a f h = weak x (subst (λ (y : DecodeError E). OnMemory y P) (sym a.1) h)
  where
    weak : (y : DecodeError E) → OnMemory y P → OnMemory y Q
    weak (Content z pos) k = tt
    weak (Source z) k = tt
    weak Memory k = f k

-- Each call of the closure tells lack of memory only where its content begins so.
pub record EachBegins {F S T E : Type 0} (rest : S → List ℕ) (g : Reader F (Constructed S) T E) (op : F) (P : ValuesLeft → Type 0) : Type 0 where
  pub each : (p q : MutBor (Constructed S)) (r : Result T (DecodeError E)) → g.post op (p, tt) (r, (q, tt)) → IfErr r (λ (e : DecodeError E). OnMemory e (P (here rest p.now)))

-- So the value in front was opened, and its content begins so.
pub opened : {F S T E : Type 0} {rest : S → List ℕ} {g : Reader F (Constructed S) T E} {op : F} {P : ValuesLeft → Type 0} (old : ValuesLeft) (tag : TagValue) (r : Result T (DecodeError E))
    → EachBegins rest g op P → IfErr r (λ (e : DecodeError E). OnMemory e (ClosureReadsErr rest g op old tag e)) → IfErr r (λ (e : DecodeError E). OnMemory e (Opens tag P old))
opened old tag (Ok x) each h = tt
opened old tag (Err (Content x pos)) each h = tt
opened old tag (Err (Source x)) each h = tt
opened {S = S} {rest = rest} {P = P} old tag (Err Memory) each h =
    let met = h.ran.met in
    record {
      span = h.span;
      inner = here rest h.ran.given;
      enters = h.ran.enters;
      begins = subst (λ (v : Constructed S). P (here rest v)) met.shows (each.each met.shown met.left (Err Memory) met.met);
    }

-- The same of a source that is read from its beginning.
pub begun : {F S T E : Type 0} {rest : S → List ℕ} {g : Reader F (Constructed S) T E} {op : F} {P : ValuesLeft → Type 0} (v : ValuesLeft) (r : Result T (DecodeError E))
    → EachBegins rest g op P → IfErr r (λ (e : DecodeError E). OnMemory e (InErr rest g op v e)) → IfErr r (λ (e : DecodeError E). OnMemory e (P v))
begun v (Ok x) each h = tt
begun v (Err (Content x pos)) each h = tt
begun v (Err (Source x)) each h = tt
begun {S = S} {rest = rest} {P = P} v (Err Memory) each h =
    let met = h.ran.met in
    subst P h.ran.starts (subst (λ (w : Constructed S). P (here rest w)) met.shows (each.each met.shown met.left (Err Memory) met.met))

-- What is in front, field by field.
pub begins_signed : {v w u : ValuesLeft} → Gives IsThree v tt w → Gives AreDigestAlgorithms w (tt, tt) u → BeginsSigned v
begins_signed {v} {w} {u} a b = record { versioned = w; behind = u; version = a; algorithms = b }

pub begins_info : {v w : ValuesLeft} → Gives (id.TheOid id.signed_data) v tt w → Opens (context 0) BeginsData w → BeginsInfo v
begins_info {v} {w} a b = record { behind = w; identifier = a; signed = b }
