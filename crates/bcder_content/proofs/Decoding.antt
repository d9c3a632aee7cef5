-- Sources that are read from their beginning.
use Rattle.std.proofs.Common.{◌≡◌, ℕ, true, false, List, Result, Ok, Err, None, refl, sym, ap, ◌∙◌, subst}
use denote.Ref.{MutBor}
use Rattle.std.specs.Fn.{FnOnceReturnsAtMut}
use Rattle.bcder_content.specs.bcder_tree.declared.mode.Mode.{Mode}
use Rattle.bcder_content.specs.bcder_source.declared.limited.LimitedSource.{LimitedSource}
use Rattle.bcder_content.specs.bcder_source.declared.error.DecodeError.{DecodeError}
use Rattle.bcder_content.specs.bcder_source.declared.error.DecodeError.TheVariants.{Content, Source, Memory}
use Rattle.bcder_content.specs.bcder_tree.Tree.{Tree}
use Rattle.bcder_content.specs.bcder_source.Views.{left}
use Rattle.bcder_content.specs.declared.ending.Ending.TheVariants.{Unbounded}
use Rattle.bcder_content.specs.declared.constructed.Constructed.{Constructed}
use Rattle.bcder_content.specs.Contents.{ValuesLeft, octets}
use Rattle.bcder_content.specs.Exact.{ReadsAs, DecodesAs}
use Rattle.bcder_content.specs.Here.{here}
use Rattle.bcder_content.specs.ClosureReads.{Reader, fresh, ClosureReadsIn, refused_in, failed_in, DecodedCases, Decoded}
use Rattle.bcder_content.proofs.Took.{took_front}
use Rattle.bcder_content.proofs.Nexts.{front_next}

pub begins : {S : Type 0} (rest : S → List ℕ) {source : LimitedSource S} {inner : S} {o : List ℕ} (m : Mode) → source ≡ record { source = inner; limit = None } → rest inner ≡ o → ◌≡◌ {A = ValuesLeft} (record { mode = m; end = Unbounded; failed = false; rest = rest source.source; limit = source.limit }) (fresh m o)
begins {S} rest m e f = ap (λ (z : LimitedSource S). let v : ValuesLeft = record { mode = m; end = Unbounded; failed = false; rest = rest z.source; limit = z.limit } in v) e ∙ ap (fresh m) f

-- Each call of the closure, in that mode, reads a value exactly.
pub record ValueEach {F S T B E : Type 0} (m : Mode) (rest : S → List ℕ) (g : Reader F (Constructed S) T E) (op : F) (f : T → B) (P : Tree → B → Type 0) : Type 0 where
  pub each : (p q : MutBor (Constructed S)) (r : Result T (DecodeError E)) → (here rest p.now).mode ≡ m → g.post op (p, tt) (r, (q, tt)) → ReadsAs f P (here rest p.now) r (here rest q.now)

pub value_met : {F S T B E : Type 0} {m : Mode} {rest : S → List ℕ} {g : Reader F (Constructed S) T E} {op : F} {f : T → B} {P : Tree → B → Type 0} → ValueEach m rest g op f P → (given stop : Constructed S) (r : Result T (DecodeError E)) → (here rest given).mode ≡ m → FnOnceReturnsAtMut g op given r stop → ReadsAs f P (here rest given) r (here rest stop)
value_met {F} {S} {T} {B} {E} {m} {rest} {g} {op} {f} {P} exact given stop r mode met =
    subst (λ (v : Constructed S). ReadsAs f P (here rest v) r (here rest stop)) met.shows
    (subst (λ (w : Constructed S). ReadsAs f P (here rest met.shown.now) r (here rest w)) met.leaves
    (exact.each met.shown met.left r (ap (λ (v : Constructed S). (here rest v).mode) met.shows ∙ mode) met.met))

in_fresh : {F S T B E : Type 0} {m : Mode} {rest : S → List ℕ} {g : Reader F (Constructed S) T E} {op : F} {f : T → B} {P : Tree → B → Type 0} {o : List ℕ} {r : Result T (DecodeError E)} {end : ValuesLeft} → ValueEach m rest g op f P → ClosureReadsIn rest g op (fresh m o) r end → ReadsAs f P (fresh m o) r end
in_fresh {F} {S} {T} {B} {E} {m} {rest} {g} {op} {f} {P} {o} {r} {end} exact on =
    subst (λ (v : ValuesLeft). ReadsAs f P (fresh m o) r v) on.ends
    (subst (λ (v : ValuesLeft). ReadsAs f P v r (here rest on.left)) on.starts
    (value_met exact on.given on.left r (ap (λ (v : ValuesLeft). v.mode) on.starts) on.met))

decoded_cases : {F S T B E : Type 0} {m : Mode} {rest : S → List ℕ} {g : Reader F (Constructed S) T E} {op : F} {f : T → B} {P : Tree → B → Type 0} (o : List ℕ) (r : Result T (DecodeError E)) → ValueEach m rest g op f P → DecodedCases rest g op (fresh m o) r → DecodesAs f m P o r
decoded_cases o (Ok x) exact h =
    let given = in_fresh exact h.1 in
    (given.tree, left (octets h.0), took_front given.took, given.is)
decoded_cases {m = m} o (Err (Content x pos)) exact h = λ t y rest p front.
    elim h [
      | refused_in end on ↦ (in_fresh exact on).none t y p (front_next {v = fresh m o} refl front)
      | failed_in end v on failed ↦ let given = in_fresh exact on in let e : true ≡ false = sym failed ∙ given.took.goes.behind in absurd cc
    ]
decoded_cases o (Err (Source x)) exact h = tt
decoded_cases o (Err Memory) exact h = tt

-- Decoding with a closure that reads a value exactly.
pub exact_decode : {F S T B E : Type 0} {m : Mode} {rest : S → List ℕ} {g : Reader F (Constructed S) T E} {op : F} {f : T → B} {P : Tree → B → Type 0} {o : List ℕ} {r : Result T (DecodeError E)} → ValueEach m rest g op f P → Decoded rest g op (fresh m o) r → DecodesAs f m P o r
exact_decode {o = o} {r} exact h = decoded_cases o r exact h.cases
