-- Lack of memory within a value shows that the value is of the grammar.
use Rattle.std.proofs.Common.{◌≡◌, ℕ, Bool, false, true, List, Result, Ok, Err, refl, sym, ap, ◌∙◌, subst}
use Rattle.std.specs.Prelude.{IfErr}
use Rattle.std.specs.Result.{IsErr, IsErrAnd}
use Rattle.bcder_content.specs.bcder_source.Errors.{OnContent, OnlyContent}
use denote.Ref.{MutBor}
use Rattle.bcder_content.specs.bcder_tree.declared.mode.Mode.{Mode}
use Rattle.bcder_content.specs.bcder_tree.Tags.{TagValue}
use Rattle.bcder_content.specs.bcder_tree.Tree.{primitive}
use Rattle.bcder_content.specs.bcder_source.declared.error.DecodeError.{DecodeError}
use Rattle.bcder_content.specs.bcder_source.declared.error.DecodeError.TheVariants.{Content as content_error, Source, Memory}
use Rattle.bcder_content.specs.declared.ending.Span.{Span}
use Rattle.bcder_content.specs.declared.ending.Span.TheVariants.{Until, ToEnd}
use Rattle.bcder_primitive.specs.declared.primitive.Primitive.{Primitive}
use Rattle.bcder_primitive.specs.Plain.{OctetsLeft, plain, WholeOctets}
use Rattle.bcder_primitive.specs.Sliced.{Reader}
use Rattle.bcder_content.specs.Contents.{ValuesLeft, Ahead}
use Rattle.bcder_content.specs.Grammar.{OctetsOf}
use Rattle.bcder_content.specs.Memory.{OnMemory, PlainErr}
use Rattle.bcder_content.specs.ClosureReads.{EntersOctets}
use Rattle.bcder_content.proofs.Inside.{took_octets}
use Rattle.bcder_content.proofs.Memories.{no_want, wanted}
use Rattle.bcder_content.specs.declared.constructed.Constructed.{Constructed}
use Rattle.bcder_content.specs.declared.content.Content.{Content}
use Rattle.bcder_content.specs.Either.{OctetsRun, RunsOctets, form_in, in_octets}
use Rattle.bcder_content.specs.Here.{here}
use Rattle.bcder_content.specs.Ahead.{HasOctets, HasNext, HasPrimitive}
use Rattle.bcder_content.proofs.of_bcder_primitive.Primitives.{only_content}

-- All octets of a content that was entered are those of the value that was next.
pub next_octets : {old : ValuesLeft} {inner : OctetsLeft} {tag : TagValue} {span : Span} (v : List ℕ) → EntersOctets old tag span inner → WholeOctets inner v → Ahead old (primitive tag v)
next_octets {old} {inner} {tag} {span = Until outer} v n w =
    let behind : ValuesLeft = record { mode = old.mode; end = old.end; failed = false; rest = w.behind.rest; limit = outer } in
    (behind, took_octets {new = behind} {end = w.behind} n w.goes.moved (record { closes = (w.drained.ends, refl); mode = refl; ending = refl; sound = w.drained.sound; behind = refl }))
next_octets {span = ToEnd} v n w = let e : false ≡ true = n.opens.how.0 in absurd cc

-- So a value of the grammar was next.
pub next_of : {A : Type 0} {P : List ℕ → A → Type 0} {old : ValuesLeft} {inner : OctetsLeft} {tag : TagValue} {span : Span} → EntersOctets old tag span inner → HasOctets P inner → HasNext (OctetsOf tag P) old
next_of {tag = tag} n h = record {
  tree = primitive tag h.text;
  value = h.value;
  is = record { content = h.text; whole = refl; is = h.is };
  next = next_octets h.text n h.whole;
}

-- Each call of the closure, in that mode, wants memory only where octets of the grammar are left.
pub record WantsEach {F S T A E : Type 0} (m : Mode) (rest : S → List ℕ) (g : Reader F (Primitive S) T E) (op : F) (P : List ℕ → A → Type 0) : Type 0 where
  pub each : (p q : MutBor (Primitive S)) (r : Result T (DecodeError E)) → (plain rest p.now).mode ≡ m → g.post op (p, tt) (r, (q, tt)) → IfErr r (λ (e : DecodeError E). OnMemory e (HasOctets P (plain rest p.now)))

memory_only : {E : Type 0} {P Q : Type 0} (e : DecodeError E) → (P → Q) → OnMemory e P → OnMemory e Q
memory_only (content_error x pos) f h = tt
memory_only (Source x) f h = tt
memory_only Memory f h = f h

error_wants : {F S T A E : Type 0} {rest : S → List ℕ} {g : Reader F (Primitive S) T E} {op : F} {P : List ℕ → A → Type 0} (old : ValuesLeft) (tag : TagValue) (e : DecodeError E) → WantsEach old.mode rest g op P → OnMemory e (PlainErr rest g op old tag e) → OnMemory e (HasNext (OctetsOf tag P) old)
error_wants old tag (content_error x pos) exact h = tt
error_wants old tag (Source x) exact h = tt
error_wants {S = S} {T = T} {E = E} {rest = rest} {P = P} old tag Memory exact h =
    let met = h.ran.met in
    next_of h.ran.enters (subst (λ (v : Primitive S). HasOctets P (plain rest v)) met.shows
    (exact.each met.shown met.left (Err Memory) (ap (λ (v : Primitive S). (plain rest v).mode) met.shows ∙ h.ran.enters.mode) met.met))

pub octets_want : {F S T A B E : Type 0} {rest : S → List ℕ} {g : Reader F (Primitive S) T E} {op : F} {P : List ℕ → A → Type 0} (old : ValuesLeft) (tag : TagValue) (r : Result B (DecodeError E)) → WantsEach old.mode rest g op P → IfErr r (λ (e : DecodeError E). OnMemory e (PlainErr rest g op old tag e)) → IfErr r (λ (e : DecodeError E). OnMemory e (HasNext (OctetsOf tag P) old))
octets_want old tag (Ok x) exact h = tt
octets_want old tag (Err e) exact h = error_wants old tag e exact h

-- A refusal that `?` passes on, of the octets or by the source.
pub no_want_through : {A E : Type 0} (F Q : Type 0) (r : Result A (DecodeError E)) (e : DecodeError E) → IsErr r → IsErrAnd r (λ x. x ≡ e) → OnlyContent e F → IfErr r (λ (x : DecodeError E). OnMemory x Q)
no_want_through F Q (Ok x) e i a h = tt
no_want_through {E = E} F Q (Err x) e i a h = no_want F Q x (subst (λ (y : DecodeError E). OnlyContent y F) (sym a) h)

-- A fact for lack of memory, where the answer is that.
pub wants : {A E : Type 0} {Q : Type 0} (r : Result A (DecodeError E)) → Q → IfErr r (λ (x : DecodeError E). OnMemory x Q)
wants (Ok x) q = tt
wants (Err x) q = wanted x q

-- Lack of memory alone refuses no octets.
pub memory_alone : {E : Type 0} (F : Type 0) (e : DecodeError E) → e ≡ Memory → OnContent e F
memory_alone {E} F e h = subst (λ (y : DecodeError E). OnContent y F) (sym h) tt

-- A content of either form, which a closure reads where it is primitive.
run_wants : {F S T A E : Type 0} {rest : S → List ℕ} {g : Reader F (Primitive S) T E} {op : F} {P : List ℕ → A → Type 0} (form : Bool) (v w : Constructed S) (r : Result T (DecodeError E)) → WantsEach v.octets.mode rest g op P → OctetsRun rest g op form v r w
    → IfErr r (λ (e : DecodeError E). OnMemory e ((form ≡ false) × HasOctets P (in_octets (here rest v))))
run_wants form v w (Ok x) exact run = tt
run_wants {S = S} {E = E} {rest = rest} {P = P} false v w (Err e) exact run =
    let met = run.1 in
    let h = exact.each met.shown met.left (Err e) (ap (λ (u : Primitive S). (plain rest u).mode) met.shows) met.met in
    memory_only e (λ k. (refl, k)) (subst (λ (u : Primitive S). OnMemory e (HasOctets P (plain rest u))) met.shows h)
run_wants true v w (Err e) exact run = no_want _ _ e (only_content _ e run.0)

pub content_wants : {F S T A E : Type 0} {rest : S → List ℕ} {g : Reader F (Primitive S) T E} {op : F} {P : List ℕ → A → Type 0} (c d : Content S) (r : Result T (DecodeError E)) → WantsEach c.values.now.octets.mode rest g op P → RunsOctets rest g op c r d → IfErr r (λ (e : DecodeError E). OnMemory e (HasPrimitive rest P c))
content_wants c d (Ok x) exact h = tt
content_wants {rest = rest} {P = P} c d (Err e) exact h =
    memory_only e (λ k. record { primitive = k.0; octets = k.1 }) (run_wants {rest = rest} {P = P} (form_in c) c.values.now d.values.now (Err e) exact h.runs)
