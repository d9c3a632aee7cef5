-- All octets of a source, taken as values in DER.
use Rattle.std.proofs.Common.{◌≡◌, ℕ, true, false, List, [], ◌++◌, length, Option, None, Some, Result, Ok, Err, IfErr, IfOk, refl, sym, ap, ◌∙◌, subst, append-nil}
use denote.Ref.{MutBor}
use Rattle.objects_written.specs.bcder_tree.declared.mode.Mode.TheVariants.{Der}
use Rattle.objects_written.specs.bcder_tree.Tree.{SpellsAll}
use Rattle.objects_written.specs.bcder_content.Captures.{CapturesAll}
use Rattle.objects_written.specs.bcder_content.Contents.{EndsHere, Ended, ValuesLeft, octets}
use Rattle.objects_written.specs.bcder_content.Here.{here}
use Rattle.objects_written.specs.bcder_content.Kept.{CapturedValue}
use Rattle.objects_written.specs.bcder_content.Skips.{NotWhole}
use Rattle.objects_written.specs.bcder_content.ClosureReads.{Decoded, DecodedCases, ClosureReadsIn, Reader, failed_in, fresh, refused_in}
use Rattle.objects_written.specs.bcder_content.declared.constructed.Constructed.{Constructed}
use Rattle.objects_written.specs.bcder_source.Errors.{OnContent}
use Rattle.objects_written.specs.bcder_source.Views.{limited, more_limit}
use Rattle.objects_written.specs.bcder_source.declared.error.DecodeError.{DecodeError}
use Rattle.objects_written.specs.bcder_source.declared.error.DecodeError.TheVariants.{Content, Source, Memory}
use Rattle.objects_cms.proofs.Wholes.{spelled_whole}
use Rattle.objects_written.specs.Taking.{DecodesDer, IsInDer, TakesAll, in_der}

-- Values that are all of a source are spelled by all its octets.
no_limit : (n : ℕ) (l : Option ℕ) → None ≡ more_limit n l → l ≡ None
no_limit n None e = refl
no_limit n (Some k) e = absurd cc

ends_with : {v : ValuesLeft} → Ended v → v.end ≡ (fresh v.mode []).end → v.limit ≡ None → v.rest ≡ []
ends_with {v} e end limit =
    let here = subst (λ z. EndsHere z (octets v)) end e.ends in
    sym (ap (λ (l : Option ℕ). limited l v.rest) limit) ∙ here

whole_text : {o : List ℕ} {c : CapturedValue} {new : ValuesLeft} → CapturesAll (fresh Der o) c new → c.octets ≡ o
whole_text {o} {c} {new} h =
    let limit = no_limit (length h.took.text) new.limit h.took.goes.moved.limit in
    let none : new.rest ≡ [] = ends_with h.ended h.took.goes.end limit in
    let same : o ≡ h.took.text = h.took.goes.moved.rest ∙ ap (λ (z : List ℕ). h.took.text ++ z) none ∙ append-nil h.took.text in
    sym (same ∙ h.kept)

taken : {o : List ℕ} {c : CapturedValue} {new : ValuesLeft} → CapturesAll (fresh Der o) c new → IsInDer o c
taken {o} {c} h =
    let same = whole_text h in
    record {
      same = ap (λ m. (let k : CapturedValue = record { mode = m; octets = c.octets } in k)) h.mode ∙ ap in_der same;
      spelled = record { trees = h.trees; spelled = subst (λ (z : List ℕ). SpellsAll Der h.trees z) (h.kept ∙ same) h.took.spelled };
    }

-- Each call of the closure takes all values of its content.
pub record EachAll {F S E : Type 0} (rest : S → List ℕ) (g : Reader F (Constructed S) CapturedValue E) (op : F) : Type 0 where
  pub each : (p q : MutBor (Constructed S)) (r : Result CapturedValue (DecodeError E)) → g.post op (p, tt) (r, (q, tt)) → TakesAll (here rest p.now) r (here rest q.now)

in_fresh : {F S E : Type 0} {rest : S → List ℕ} {g : Reader F (Constructed S) CapturedValue E} {op : F} {v end : ValuesLeft} {r : Result CapturedValue (DecodeError E)}
    → EachAll rest g op → ClosureReadsIn rest g op v r end → TakesAll v r end
in_fresh {S = S} {rest = rest} {v = v} {r = r} each on =
    let at = each.each on.met.shown on.met.left r on.met.met in
    let given = subst (λ (w : Constructed S). TakesAll (here rest w) r (here rest on.met.left.now)) on.met.shows at in
    let stop = subst (λ (w : Constructed S). TakesAll (here rest on.given) r (here rest w)) on.met.leaves given in
    subst (λ (w : ValuesLeft). TakesAll v r w) on.ends (subst (λ (w : ValuesLeft). TakesAll w r (here rest on.left)) on.starts stop)

decoded_cases : {F S E : Type 0} {rest : S → List ℕ} {g : Reader F (Constructed S) CapturedValue E} {op : F} (o : List ℕ) (r : Result CapturedValue (DecodeError E))
    → EachAll rest g op → DecodedCases rest g op (fresh Der o) r → DecodesDer o r
decoded_cases o (Ok c) each h = taken (in_fresh each h.1)
decoded_cases o (Err (Content x pos)) each h = λ p.
    elim h [
      | refused_in end on ↦ (in_fresh each on).none p.trees (spelled_whole p.spelled)
      | failed_in end c on failed ↦ let w = in_fresh each on in let e : true ≡ false = sym failed ∙ w.took.goes.behind in absurd cc
    ]
decoded_cases o (Err (Source x)) each h = tt
decoded_cases o (Err Memory) each h = tt

-- Decoding with such a closure.
pub decodes_der : {F S E : Type 0} {rest : S → List ℕ} {g : Reader F (Constructed S) CapturedValue E} {op : F} {o : List ℕ} {r : Result CapturedValue (DecodeError E)}
    → EachAll rest g op → Decoded rest g op (fresh Der o) r → DecodesDer o r
decodes_der {o = o} {r} each h = decoded_cases o r each h.cases

-- What `capture_all` answers.
pub takes : {E : Type 0} (old new : ValuesLeft) (r : Result CapturedValue (DecodeError E)) → IfOk r (λ c. CapturesAll old c new) → IfErr r (λ e. OnContent e (NotWhole old)) → TakesAll old r new
takes old new (Ok c) a b = a
takes old new (Err e) a b = b
