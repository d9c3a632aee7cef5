-- A method, and what it says.
use Rattle.std.proofs.Common.{ℕ, List, Option, Some, None, refl}
use Rattle.certs_basics.specs.Lists.{Mem}
use Rattle.certs_extension.specs.bcder_tree.declared.mode.Mode.{Mode}
use Rattle.certs_extension.specs.bcder_tree.Tree.{Trees}
use Rattle.certs_extension.specs.bcder_content.Grammar.{End, Rest, Then}
use Rattle.certs_extension.proofs.of_bcder_content.Choosing.{next_by, stop_by, told_by}
use Rattle.certs_extension.proofs.of_bcder_content.Forests.{rest_gives, rest_lacks}
use Rattle.certs_extension.proofs.of_bcder_content.InMode.{begin, finish, stop_all}
use Rattle.certs_extension.proofs.of_bcder_content.Taking.{weaker}
use Rattle.certs_extension.proofs.of_bcder_content.Unique.{octets_one}
use Rattle.certs_extension.proofs.of_bcder.Read.{oid_one}
use Rattle.certs_extension.specs.Access.{AreLocation, methods, of_known, of_other}
use Rattle.certs_extension.specs.Grammars.{IsName}
use Rattle.certs_extension.proofs.access.subject.take_description.Goals as goal

abbrev of_text : List ℕ × Unit {0} → Option (List ℕ)
of_text x = Some x.0

abbrev of_any : Unit {0} → Option (List ℕ)
of_any x = None

abbrev IsText : Mode → Trees → List ℕ × Unit {0} → Type 0
IsText m = Then (IsName m) End

abbrev IsAny : Mode → Trees → Unit {0} → Type 0
IsAny m = Rest

name_of : (method : List ℕ) → Mem methods method → (m : Mode) (ts : Trees) (b : Option (List ℕ)) → AreLocation m method ts b → (c : List ℕ × Unit {0}) × IsText m ts c
name_of method k m ts (Some text) (of_known l p) = ((text, tt), p)
name_of method k m ts None (of_other l) = absurd (l k)

any_of : (method : List ℕ) → (Mem methods method → ⊥) → (m : Mode) (ts : Trees) (b : Option (List ℕ)) → AreLocation m method ts b → (c : Unit {0}) × IsAny m ts c
any_of method k m ts (Some text) (of_known l p) = absurd (k l)
any_of method k m ts None (of_other l) = (tt, record { any = tt })

pub returns-in_err-method : goal.returns-in_err-method
returns-in_err-method g c = stop_by _ begin c.from_residual.ensures c.in_err-method.ensures.reads

pub returns-in_err-location : goal.returns-in_err-location
returns-in_err-location g c =
    let known = c.if-is_known.ensures.0 refl in
    let s = told_by {T = IsText} of_text (next_by (λ m. octets_one oid_one) begin c.in_ok-method.ensures.reads) (λ m ts x p. of_known known p) (name_of _ known) in
    stop_all _ s c.from_residual-in_err-location.ensures c.in_err-location.ensures.reads

pub returns-then-is_known : goal.returns-then-is_known
returns-then-is_known g c =
    let known = c.if-is_known.ensures.0 refl in
    let s = told_by {T = IsText} of_text (next_by (λ m. octets_one oid_one) begin c.in_ok-method.ensures.reads) (λ m ts x p. of_known known p) (name_of _ known) in
    finish s c.in_ok-location.ensures.reads refl

pub returns-in_err-skip_all : goal.returns-in_err-skip_all
returns-in_err-skip_all g c =
    let other : Mem methods c.in_ok-method.method.0 → ⊥ = λ k. let t = c.if-is_known.ensures.1 k in absurd cc in
    let s = told_by {T = IsAny} of_any (next_by (λ m. octets_one oid_one) begin c.in_ok-method.ensures.reads) (λ m ts x p. of_other other) (any_of _ other) in
    stop_all _ s c.from_residual-in_err-skip_all.ensures (weaker _ rest_lacks c.in_err-skip_all.ensures.refused)

pub returns : goal.returns
returns g c =
    let other : Mem methods c.in_ok-method.method.0 → ⊥ = λ k. let t = c.if-is_known.ensures.1 k in absurd cc in
    let s = told_by {T = IsAny} of_any (next_by (λ m. octets_one oid_one) begin c.in_ok-method.ensures.reads) (λ m ts x p. of_other other) (any_of _ other) in
    finish s (rest_gives c.in_ok-skip_all.ensures.skipped) refl
