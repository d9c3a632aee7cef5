-- Octets spell one bundle at most, and are no more than a SEQUENCE has.
use Rattle.std.proofs.Common.{◌≡◌, ℕ, ◌+◌, ◌^◌, ◌≤◌, Bool, List, [], length, refl, sym, ap, ◌∙◌, subst}
use Rattle.rpki_bundle.specs.bcder_tree.declared.mode.Mode.{Mode}
use Rattle.rpki_bundle.specs.bcder_tree.declared.mode.Mode.TheVariants.{Der}
use Rattle.rpki_bundle.specs.bcder_tree.Tree.{Tree, Trees, Spells}
use Rattle.rpki_bundle.proofs.of_bcder_tree.Fronts.{sequence_bound}
use Rattle.rpki_bundle.specs.bcder_content.Grammar.{One, OneAll}
use Rattle.rpki_bundle.proofs.of_bcder_content.Fronts.{spells_one}
use Rattle.rpki_bundle.proofs.of_bcder_content.Unique.{octets_one, unsigned_one, such_one, inside_one, many_one, then_one, end_one, as_one}
use Rattle.rpki_bundle.proofs.of_bcder_content.Simple.{boolean_one}
use Rattle.certs_basics.proofs.Moments.{one_moment}
use Rattle.certs_basics.proofs.Values.{then_by_one}
use Rattle.rpki_bundle.specs.declared.parts.Verdict.{Verdict}
use Rattle.rpki_bundle.specs.declared.version.Version.{Version}
use Rattle.rpki_bundle.specs.declared.version.Version.TheVariants as version
use Rattle.rpki_bundle.specs.Bundle.{BundleValue, IsNumber, IsFlag, FlagCases, Flag, IsMomentString, verdict_row, IsAscendingList, IsBundle, BundleText}
use Rattle.rpki_bundle.specs.RowLaws.{one_locator, one_object, one_verdict}

-- A flag, and what comes after it.
flag_one : (m : Mode) → One (IsFlag m)
flag_one m = octets_one (boolean_one m)

behind_one : {A : Type 0} {R : Trees → A → Type 0} (m : Mode) (n : ℕ) → OneAll R → OneAll (Flag m n R)
behind_one {A} {R} m n o = record { one = λ ts x y p q. at ts x.0 y.0 x.1 y.1 p.cases q.cases }
  where
    at : (ts : Trees) (v w : Version) (x y : A) → FlagCases m n R ts v x → FlagCases m n R ts w y → ◌≡◌ {A = Version × A} (v, x) (w, y)
    at ts version.Zero version.Zero x y p q = ap (λ (z : A). (version.Zero, z)) (o.one ts x y p.1 q.1)
    at ts version.Zero (version.One s) x y p q = let e : 0 ≡ 1 = sym p.0 ∙ q.0 in cc
    at ts (version.One r) version.Zero x y p q = let e : 0 ≡ 1 = sym q.0 ∙ p.0 in cc
    at ts (version.One r) (version.One s) x y p q = ap (λ (z : Bool × A). (version.One z.0, z.1)) ((then_one (flag_one m) o).one ts (r, x) (s, y) p.1 q.1)

-- A value is one bundle at most.
list : {A : Type 0} {Q : Tree → A → Type 0} (row : A → List ℕ) → One Q → One (IsAscendingList Q row)
list row o = such_one (inside_one (many_one o))

one_value : One (IsBundle Der)
one_value =
    let number : One IsNumber = octets_one unsigned_one in
    let moment : One IsMomentString = octets_one (record { one = one_moment }) in
    let lists = then_one (list (λ l. l.name) (one_locator Der)) (then_one (list (λ o. o.uri) (one_object Der)) (then_one (list verdict_row one_verdict) end_one)) in
    as_one (inside_one (then_by_one number (λ n. then_one moment (then_one (such_one number) (behind_one Der n lists)))))

pub one_bundle : {s : List ℕ} {b c : BundleValue} → BundleText s b → BundleText s c → b ≡ c
one_bundle {s} {b} {c} p q = ((spells_one one_value).one s s [] [] b c p.spelled q.spelled refl).1

-- A bundle's text is no longer than a SEQUENCE.
pub bundle_bound : {s : List ℕ} {b : BundleValue} → BundleText s b → length s ≤ 2 ^ 32 + 5
bundle_bound {s} t = let i = t.spelled.is.is in sequence_bound i.values s (subst (λ (z : Tree). Spells Der z s) i.whole t.spelled.spelled)

-- Bundles, and verdicts, of the same parts are one.
pub bundle_fields : (x y : BundleValue) → x.version ≡ y.version → x.moment ≡ y.moment → x.depth ≡ y.depth → x.locators ≡ y.locators → x.objects ≡ y.objects → x.verdicts ≡ y.verdicts → x ≡ y
bundle_fields x y t m d l o v = λ i. record { version = t i; moment = m i; depth = d i; locators = l i; objects = o i; verdicts = v i }

pub verdict_fields : (x y : Verdict) → x.key ≡ y.key → x.message ≡ y.message → x.signature ≡ y.signature → x ≡ y
verdict_fields x y k m s = λ i. record { key = k i; message = m i; signature = s i }
