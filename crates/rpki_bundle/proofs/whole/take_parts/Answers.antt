-- The number of the version says whether a flag stands behind the depth.
use Rattle.std.proofs.Common.{◌≡◌, ℕ, Bool, true, refl, sym, ap, ◌∙◌}
use Rattle.rpki_bundle.specs.bcder_tree.declared.mode.Mode.{Mode}
use Rattle.rpki_bundle.specs.bcder_tree.Tree.{Trees}
use Rattle.rpki_bundle.specs.bcder_content.Contents.{ValuesLeft}
use Rattle.rpki_bundle.specs.bcder_content.Exact.{Gives}
use Rattle.rpki_bundle.specs.bcder_content.Grammar.{Then}
use Rattle.rpki_bundle.proofs.of_bcder_content.Choosing.{next_by, stop_by, told_by, none_told}
use Rattle.rpki_bundle.proofs.of_bcder_content.InMode.{Fields, begin, next, stop, stop_all, finish}
use Rattle.rpki_bundle.proofs.of_bcder_content.Unique.{octets_one, unsigned_one}
use Rattle.rpki_bundle.specs.declared.version.Version.{Version}
use Rattle.rpki_bundle.specs.declared.version.Version.TheVariants as version
use Rattle.rpki_bundle.proofs.Beginning.{begins, found, none_wanted}
use Rattle.rpki_bundle.specs.Bundle.{IsNumber, IsFlag, Flag, FlagCases, IsMomentString, IsDepthNumber, Lists, BundleFields, AreLists, AreBundleFields}
use Rattle.rpki_bundle.proofs.whole.take_parts.Goals as goal

-- What stands behind the depth: by version 0 the lists,
abbrev of_zero : Lists → Version × Lists
of_zero x = (version.Zero, x)

zero_from : {n : ℕ} → n ≡ 0 → (m : Mode) (ts : Trees) (b : Version × Lists) → Flag m n (AreLists m) ts b → (c : Lists) × AreLists m ts c
zero_from {n} e m ts b p = at b.0 b.1 p.cases
  where
    at : (v : Version) (x : Lists) → FlagCases m n (AreLists m) ts v x → (c : Lists) × AreLists m ts c
    at version.Zero x c = (x, c.1)
    at (version.One relaxed) x c = let k : 0 ≡ 1 = sym e ∙ c.0 in cc

-- by version 1 a flag and the lists,
abbrev of_one : Bool × Lists → Version × Lists
of_one x = (version.One x.0, x.1)

abbrev AreFlagged : Mode → Trees → Bool × Lists → Type 0
AreFlagged m = Then (IsFlag m) (AreLists m)

one_from : {n : ℕ} → n ≡ 1 → (m : Mode) (ts : Trees) (b : Version × Lists) → Flag m n (AreLists m) ts b → (c : Bool × Lists) × AreFlagged m ts c
one_from {n} e m ts b p = at b.0 b.1 p.cases
  where
    at : (v : Version) (x : Lists) → FlagCases m n (AreLists m) ts v x → (c : Bool × Lists) × AreFlagged m ts c
    at version.Zero x c = let k : 1 ≡ 0 = sym e ∙ c.0 in cc
    at (version.One relaxed) x c = ((relaxed, x), c.1)

-- and by another number nothing can.
none_from : {n : ℕ} → (n ≡ 0 → ⊥) → (n ≡ 1 → ⊥) → (m : Mode) (ts : Trees) (b : Version × Lists) → Flag m n (AreLists m) ts b → ⊥
none_from {n} apart other m ts b p = at b.0 b.1 p.cases
  where
    at : (v : Version) (x : Lists) → FlagCases m n (AreLists m) ts v x → ⊥
    at version.Zero x c = apart c.0
    at (version.One relaxed) x c = other c.0

same_number : {n k : ℕ} (b : ℕ × (ℕ × (Version × Lists))) → n ≡ k → ◌≡◌ {A = BundleFields} (k, b) (n, b)
same_number b e = ap (λ (z : ℕ). (z, b)) (sym e)

-- Up to the depth.
up_to_depth : {start one two three : ValuesLeft} {n moment depth : ℕ} → Gives IsNumber start n one → Gives IsMomentString one moment two → Gives IsDepthNumber two depth three
    → Fields AreBundleFields (λ m. Flag m n (AreLists m)) (λ b. (n, (moment, (depth, b)))) start three true
up_to_depth g h k = next (next (next_by (λ m. octets_one unsigned_one) begin g) h) k

pub returns-in_err-number-clause-reads : goal.returns-in_err-number-clause-reads
returns-in_err-number-clause-reads g c = stop_by _ begin c.from_residual.ensures c.in_err-number.ensures.reads

pub returns-in_err-moment-clause-reads : goal.returns-in_err-moment-clause-reads
returns-in_err-moment-clause-reads g c = stop _ (next_by (λ m. octets_one unsigned_one) begin c.in_ok-number.ensures.reads) c.from_residual-in_err-moment.ensures c.in_err-moment.ensures.reads

pub returns-in_err-depth-clause-reads : goal.returns-in_err-depth-clause-reads
returns-in_err-depth-clause-reads g c = stop _ (next (next_by (λ m. octets_one unsigned_one) begin c.in_ok-number.ensures.reads) c.in_ok-moment.ensures.reads) c.from_residual-in_err-depth.ensures c.in_err-depth.ensures.reads

pub returns-in_err-entries-clause-reads : goal.returns-in_err-entries-clause-reads
returns-in_err-entries-clause-reads g c =
    let s = up_to_depth c.in_ok-number.ensures.reads c.in_ok-moment.ensures.reads c.in_ok-depth.ensures.reads in
    let t = told_by {T = AreLists} of_zero s (λ m ts x p. record { cases = (c.if-number-eq0.true, p) }) (zero_from c.if-number-eq0.true) in
    stop_all _ t c.from_residual-in_err-entries.ensures c.in_err-entries.ensures.reads

pub returns-then-number-eq0-clause-reads : goal.returns-then-number-eq0-clause-reads
returns-then-number-eq0-clause-reads g c =
    let s = up_to_depth c.in_ok-number.ensures.reads c.in_ok-moment.ensures.reads c.in_ok-depth.ensures.reads in
    let t = told_by {T = AreLists} of_zero s (λ m ts x p. record { cases = (c.if-number-eq0.true, p) }) (zero_from c.if-number-eq0.true) in
    finish t c.in_ok-entries.ensures.reads (same_number _ c.if-number-eq0.true)

pub returns-then-number-ne1-clause-reads : goal.returns-then-number-ne1-clause-reads
returns-then-number-ne1-clause-reads g c =
    let s = up_to_depth c.in_ok-number.ensures.reads c.in_ok-moment.ensures.reads c.in_ok-depth.ensures.reads in
    none_told s (none_from c.if-number-eq0.false c.if-number-ne1.true)

pub returns-in_err-relaxed-clause-reads : goal.returns-in_err-relaxed-clause-reads
returns-in_err-relaxed-clause-reads g c =
    let s = up_to_depth c.in_ok-number.ensures.reads c.in_ok-moment.ensures.reads c.in_ok-depth.ensures.reads in
    let t = told_by {T = AreFlagged} of_one s (λ m ts x p. record { cases = (c.if-number-ne1.false, p) }) (one_from c.if-number-ne1.false) in
    stop _ t c.from_residual-in_err-relaxed.ensures c.in_err-relaxed.ensures.reads

pub returns-in_err-entries-2-clause-reads : goal.returns-in_err-entries-2-clause-reads
returns-in_err-entries-2-clause-reads g c =
    let s = up_to_depth c.in_ok-number.ensures.reads c.in_ok-moment.ensures.reads c.in_ok-depth.ensures.reads in
    let t = told_by {T = AreFlagged} of_one s (λ m ts x p. record { cases = (c.if-number-ne1.false, p) }) (one_from c.if-number-ne1.false) in
    stop_all _ (next t c.in_ok-relaxed.ensures.reads) c.from_residual-in_err-entries-2.ensures c.in_err-entries-2.ensures.reads

pub returns-clause-reads : goal.returns-clause-reads
returns-clause-reads g c =
    let s = up_to_depth c.in_ok-number.ensures.reads c.in_ok-moment.ensures.reads c.in_ok-depth.ensures.reads in
    let t = told_by {T = AreFlagged} of_one s (λ m ts x p. record { cases = (c.if-number-ne1.false, p) }) (one_from c.if-number-ne1.false) in
    finish (next t c.in_ok-relaxed.ensures.reads) c.in_ok-entries-2.ensures.reads (same_number _ c.if-number-ne1.false)

-- What is in front, where a read is refused for memory or all was read.

pub returns-in_err-number-clause-begins : goal.returns-in_err-number-clause-begins
returns-in_err-number-clause-begins g c = none_wanted _ _ _ c.from_residual.ensures c.in_err-number.ensures.no_memory

pub returns-in_err-moment-clause-begins : goal.returns-in_err-moment-clause-begins
returns-in_err-moment-clause-begins g c = none_wanted _ _ _ c.from_residual-in_err-moment.ensures c.in_err-moment.ensures.no_memory

pub returns-in_err-depth-clause-begins : goal.returns-in_err-depth-clause-begins
returns-in_err-depth-clause-begins g c = none_wanted _ _ _ c.from_residual-in_err-depth.ensures c.in_err-depth.ensures.no_memory

pub returns-in_err-entries-clause-begins : goal.returns-in_err-entries-clause-begins
returns-in_err-entries-clause-begins g c = found _ (begins version.Zero _ c.in_ok-number.ensures.reads c.in_ok-moment.ensures.reads c.in_ok-depth.ensures.reads (c.if-number-eq0.true, refl))

pub returns-then-number-eq0-clause-begins : goal.returns-then-number-eq0-clause-begins
returns-then-number-eq0-clause-begins g c = begins version.Zero _ c.in_ok-number.ensures.reads c.in_ok-moment.ensures.reads c.in_ok-depth.ensures.reads (c.if-number-eq0.true, refl)

pub returns-in_err-relaxed-clause-begins : goal.returns-in_err-relaxed-clause-begins
returns-in_err-relaxed-clause-begins g c = none_wanted _ _ _ c.from_residual-in_err-relaxed.ensures c.in_err-relaxed.ensures.no_memory

pub returns-in_err-entries-2-clause-begins : goal.returns-in_err-entries-2-clause-begins
returns-in_err-entries-2-clause-begins g c = found _ (begins (version.One c.in_ok-relaxed.relaxed) _ c.in_ok-number.ensures.reads c.in_ok-moment.ensures.reads c.in_ok-depth.ensures.reads (c.if-number-ne1.false, c.in_ok-relaxed.ensures.reads))

pub returns-clause-begins : goal.returns-clause-begins
returns-clause-begins g c = begins (version.One c.in_ok-relaxed.relaxed) _ c.in_ok-number.ensures.reads c.in_ok-moment.ensures.reads c.in_ok-depth.ensures.reads (c.if-number-ne1.false, c.in_ok-relaxed.ensures.reads)
