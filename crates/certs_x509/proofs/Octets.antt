-- Readers by closures say of the very octets that they read what they are.
use Rattle.std.proofs.Common.{ℕ, List, Result, Ok, Err, IfOk, subst}
use denote.Ref.{MutBor}
use Rattle.std.specs.Fn.{FnOnceReturnsAtMut}
use Rattle.certs_x509.specs.bcder_tree.declared.mode.Mode.{Mode}
use Rattle.certs_x509.specs.bcder_tree.Tags.{TagValue}
use Rattle.certs_x509.specs.bcder_source.Views.{Moved}
use Rattle.certs_x509.specs.bcder_source.declared.error.DecodeError.{DecodeError}
use Rattle.certs_x509.specs.bcder_content.declared.constructed.Constructed.{Constructed}
use Rattle.certs_x509.specs.bcder_content.Contents.{ValuesLeft, octets}
use Rattle.certs_x509.specs.bcder_content.Here.{here}
use Rattle.certs_x509.specs.bcder_content.ClosureReads.{Decoded, DecodedCases, ClosureReads, ClosureReadsCases, Reader, fresh}
use Rattle.certs_x509.specs.bcder_content.Texts.{InFront, Wraps}
use Rattle.certs_x509.specs.Took.{TookOctets}
use Rattle.certs_x509.proofs.Around.{read_around}

-- Each call of the closure that answers has read octets of P.
pub record EachTook {F S T B E : Type 0} (rest : S → List ℕ) (g : Reader F (Constructed S) T E) (op : F) (f : T → B)
    (P : Mode → List ℕ → B → Type 0) : Type 0 where
  pub each : (p q : MutBor (Constructed S)) (x : T) → g.post op (p, tt) (Ok x, (q, tt)) → TookOctets f P (here rest p.now) x (here rest q.now)

met_took : {F S T B E : Type 0} {rest : S → List ℕ} {g : Reader F (Constructed S) T E} {op : F} {f : T → B} {P : Mode → List ℕ → B → Type 0}
    → EachTook rest g op f P → (given stop : Constructed S) (x : T) → FnOnceReturnsAtMut g op given (Ok x) stop
    → TookOctets f P (here rest given) x (here rest stop)
met_took {S = S} {rest = rest} {f = f} {P} each given stop x met =
    subst (λ (v : Constructed S). TookOctets f P (here rest v) x (here rest stop)) met.shows
    (subst (λ (w : Constructed S). TookOctets f P (here rest met.shown.now) x (here rest w)) met.leaves
    (each.each met.shown met.left x met.met))

inside_cases : {F S T B E : Type 0} {rest : S → List ℕ} {g : Reader F (Constructed S) T E} {op : F} {f : T → B} {P : Mode → List ℕ → B → Type 0}
    (old new : ValuesLeft) (tag : TagValue) (r : Result T (DecodeError E)) → EachTook rest g op f P → ClosureReadsCases rest g op old tag r new
    → IfOk r (λ x. TookOctets f (λ m. Wraps m tag (P m)) old x new)
inside_cases {rest = rest} {f = f} {P} old new tag (Ok x) each h =
    let on = h.2 in
    let k = met_took each on.given on.left x on.met in
    let moved = subst (λ (v : ValuesLeft). Moved (octets (here rest on.given)) k.text (octets v)) on.ends k.goes.moved in
    let a = read_around on.enters.opens moved h.3.closes in
    record {
      text = a.text;
      goes = record { moved = a.moved; mode = h.3.mode; end = h.3.ending; before = on.enters.before; behind = h.3.behind };
      is = record { content = k.text; around = a.around; is = subst (λ (m : Mode). P m k.text (f x)) on.enters.mode k.is };
    }
inside_cases old new tag (Err e) each h = tt

-- A value by a closure: its content is what the closure read.
pub inside_took : {F S T B E : Type 0} {rest : S → List ℕ} {g : Reader F (Constructed S) T E} {op : F} {f : T → B} {P : Mode → List ℕ → B → Type 0}
    {old new : ValuesLeft} {tag : TagValue} {r : Result T (DecodeError E)} → EachTook rest g op f P → ClosureReads rest g op old tag r new
    → IfOk r (λ x. TookOctets f (λ m. Wraps m tag (P m)) old x new)
inside_took {old = old} {new} {tag} {r} each h = inside_cases old new tag r each h.cases

front_cases : {F S T B E : Type 0} {rest : S → List ℕ} {g : Reader F (Constructed S) T E} {op : F} {f : T → B} {P : Mode → List ℕ → B → Type 0}
    (m : Mode) (o : List ℕ) (r : Result T (DecodeError E)) → EachTook rest g op f P → DecodedCases rest g op (fresh m o) r
    → IfOk r (λ x. InFront (P m) o (f x))
front_cases {rest = rest} {f = f} {P} m o (Ok x) each h =
    let on = h.1 in
    let k = met_took each on.given on.left x on.met in
    let j = subst (λ (v : ValuesLeft). TookOctets f P v x (here rest on.left)) on.starts k in
    record { text = j.text; rest = (here rest on.left).rest; whole = j.goes.moved.rest; is = j.is }
front_cases m o (Err e) each h = tt

-- A source from its beginning: what the closure read stands in front.
pub front_took : {F S T B E : Type 0} {rest : S → List ℕ} {g : Reader F (Constructed S) T E} {op : F} {f : T → B} {P : Mode → List ℕ → B → Type 0}
    {m : Mode} {o : List ℕ} {r : Result T (DecodeError E)} → EachTook rest g op f P → Decoded rest g op (fresh m o) r
    → IfOk r (λ x. InFront (P m) o (f x))
front_took {m = m} {o} {r} each h = front_cases m o r each h.cases
