-- Where lack of memory is told while a bundle is read.
use Rattle.std.proofs.Common.{◌≡◌, ◌≢◌, ℕ, List, Result, Ok, Err, sym, subst}
use denote.Ref.{MutBor}
use Rattle.std.specs.Prelude.{IfErr}
use Rattle.std.specs.Result.{IsErr, IsErrAnd}
use Rattle.rpki_bundle.specs.bcder_tree.Sequences.{sequence_tag}
use Rattle.rpki_bundle.specs.bcder_source.declared.error.DecodeError.{DecodeError}
use Rattle.rpki_bundle.specs.bcder_source.declared.error.DecodeError.TheVariants.{Content, Source, Memory}
use Rattle.rpki_bundle.specs.bcder_content.declared.constructed.Constructed.{Constructed}
use Rattle.rpki_bundle.specs.bcder_content.Contents.{ValuesLeft}
use Rattle.rpki_bundle.specs.bcder_content.Exact.{Gives}
use Rattle.rpki_bundle.specs.bcder_content.Here.{here}
use Rattle.rpki_bundle.specs.bcder_content.Memory.{InErr, OnMemory, ClosureReadsErr}
use Rattle.rpki_bundle.specs.bcder_content.ClosureReads.{Reader, ClosureReads}
use Rattle.rpki_bundle.specs.declared.error.BundleError.{BundleError}
use Rattle.rpki_bundle.specs.declared.version.Version.{Version}
use Rattle.rpki_bundle.specs.Bundle.{IsNumber, IsMomentString, IsDepthNumber}
use Rattle.rpki_bundle.specs.Begun.{BeginsBundle, BeginsFields, Found, GivesFlag}
use Rattle.rpki_bundle.specs.Ends.{Refuses}
use Rattle.rpki_bundle.specs.Errors.{OnMemory as OnNoMemory}

-- A fact for any error, and for any answer.
wanted : {E P : Type 0} (e : DecodeError E) → P → OnMemory e P
wanted (Content x pos) p = tt
wanted (Source x) p = tt
wanted Memory p = p

pub found : {A E P : Type 0} (r : Result A (DecodeError E)) → P → Found r P
found (Ok x) p = p
found (Err e) p = wanted e p

pub found_err : {A E P : Type 0} (r : Result A (DecodeError E)) → P → IfErr r (λ (e : DecodeError E). OnMemory e P)
found_err (Ok x) p = tt
found_err (Err e) p = wanted e p

-- An error that isn't lack of memory, handed on.
pub none_wanted : {A E : Type 0} (P : Type 0) (r : Result A (DecodeError E)) (e : DecodeError E) → IsErr r × IsErrAnd r (λ x. x ≡ e) → e ≢ Memory → Found r P
none_wanted P (Ok x) e a n = absurd a.1
none_wanted P (Err (Content x pos)) e a n = tt
none_wanted P (Err (Source x)) e a n = tt
none_wanted P (Err Memory) e a n = absurd (n (sym a.1))

-- What an error shows, handed on.
pub wants_on : {A E : Type 0} (P : Type 0) (r : Result A (DecodeError E)) (e : DecodeError E) → IsErr r × IsErrAnd r (λ x. x ≡ e) → OnMemory e P → IfErr r (λ (x : DecodeError E). OnMemory x P)
wants_on P (Ok x) e a h = tt
wants_on {E = E} P (Err x) e a h = subst (λ (y : DecodeError E). OnMemory y P) (sym a.1) h

-- Fields that were read, one after the other.
pub begins : {v one two three : ValuesLeft} {number moment depth : ℕ} (version : Version) (four : ValuesLeft) → Gives IsNumber v number one → Gives IsMomentString one moment two → Gives IsDepthNumber two depth three → GivesFlag number version three four → BeginsFields v
begins {v} {one} {two} {three} {number} {moment} {depth} version four n m d f = record {
  number = number;
  moment = moment;
  depth = depth;
  version = version;
  behind_number = one;
  behind_moment = two;
  behind_depth = three;
  lists = four;
  number_is = n;
  moment_is = m;
  depth_is = d;
  flag_is = f;
}

-- Each call of the closure finds a content that begins so.
pub record EachFinds {F S T E : Type 0} (rest : S → List ℕ) (g : Reader F (Constructed S) T E) (op : F) : Type 0 where
  pub each : (p q : MutBor (Constructed S)) (r : Result T (DecodeError E)) → g.post op (p, tt) (r, (q, tt)) → Found r (BeginsFields (here rest p.now))

-- So the SEQUENCE in front was opened, and its content begins so.
pub opened : {F S T E : Type 0} {rest : S → List ℕ} {g : Reader F (Constructed S) T E} {op : F} (old new : ValuesLeft) (r : Result T (DecodeError E))
    → EachFinds rest g op → ClosureReads rest g op old sequence_tag r new → IfErr r (λ (e : DecodeError E). OnMemory e (ClosureReadsErr rest g op old sequence_tag e)) → Found r (BeginsBundle old)
opened {S = S} {rest = rest} old new (Ok x) each ran h =
    let on = ran.cases.2 in
    let met = on.met in
    record {
      span = ran.cases.0;
      inner = here rest on.given;
      enters = on.enters;
      fields = subst (λ (v : Constructed S). BeginsFields (here rest v)) met.shows (each.each met.shown met.left (Ok x) met.met);
    }
opened old new (Err (Content x pos)) each ran h = tt
opened old new (Err (Source x)) each ran h = tt
opened {S = S} {rest = rest} old new (Err Memory) each ran h =
    let met = h.ran.met in
    record {
      span = h.span;
      inner = here rest h.ran.given;
      enters = h.ran.enters;
      fields = subst (λ (v : Constructed S). BeginsFields (here rest v)) met.shows (each.each met.shown met.left (Err Memory) met.met);
    }

-- Each call of the closure tells lack of memory only of a bundle that begins.
pub record EachBegins {F S T E : Type 0} (rest : S → List ℕ) (g : Reader F (Constructed S) T E) (op : F) : Type 0 where
  pub each : (p q : MutBor (Constructed S)) (r : Result T (DecodeError E)) → g.post op (p, tt) (r, (q, tt)) → IfErr r (λ (e : DecodeError E). OnMemory e (BeginsBundle (here rest p.now)))

-- So does a source that is read from its beginning.
pub begun : {F S T E : Type 0} {rest : S → List ℕ} {g : Reader F (Constructed S) T E} {op : F} (v : ValuesLeft) (r : Result T (DecodeError E))
    → EachBegins rest g op → IfErr r (λ (e : DecodeError E). OnMemory e (InErr rest g op v e)) → IfErr r (λ (e : DecodeError E). OnMemory e (BeginsBundle v))
begun v (Ok x) each h = tt
begun v (Err (Content x pos)) each h = tt
begun v (Err (Source x)) each h = tt
begun {S = S} {rest = rest} v (Err Memory) each h =
    let met = h.ran.met in
    subst BeginsBundle h.ran.starts (subst (λ (w : Constructed S). BeginsBundle (here rest w)) met.shows (each.each met.shown met.left (Err Memory) met.met))

-- What lack of memory shows, by the error of the call.
pub told_no_memory : {E : Type 0} (P : Type 0) (e : DecodeError E) (r : BundleError) → Refuses e r → OnMemory e P → OnNoMemory r P
told_no_memory P (Content x pos) r i h = subst (λ (z : BundleError). OnNoMemory z P) (sym i) tt
told_no_memory P (Source x) r i h = absurd i
told_no_memory P Memory r i h = subst (λ (z : BundleError). OnNoMemory z P) (sym i) h
