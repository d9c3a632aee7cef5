use Rattle.std.proofs.Common.{◌≡◌, ◌<◌, ◌≤◌, ℕ, true, false, IsTrue, List, [], length, take, get_or, refl, sym, ap, ◌∙◌, arith}
use Rattle.std.proofs.lemmas.Bool.{both_ways}
use Rattle.std.proofs.lemmas.List.{take_all}
use Rattle.std.proofs.lemmas.List.Elements.{All-more, All-same}
use Rattle.objects_rta_valid.specs.Nodes.{each_octets}
use Rattle.objects_rta_valid.specs.Tables.{holds}
use Rattle.objects_rta_valid.proofs.Sets.{each_at, each_length, lent_none}
use Rattle.objects_rta_valid.proofs.paths.keys.are_in.Goals as goal

pub returns-then-not-contains : goal.returns-then-not-contains
returns-then-not-contains c =
    let all : List (List ℕ) = each_octets c.args.keys.now in
    let i = c.loop-key.key-index in
    let key : List ℕ = (get_or c.args.keys.now i lent_none).now in
    let not_in : holds c.args.set.now key ≡ false = sym c.contains.ensures ∙ c.if-not-contains.true in
    let size = each_length c.args.keys.now in
    let l : i < length c.args.keys.now = c.loop-key-test.true in
    let here : i < length all = omega arith in
    (λ t. absurd cc, λ h. absurd (both_ways (holds c.args.set.now key) not_in (ap (λ (k : List ℕ). holds c.args.set.now k) (sym (each_at c.args.keys.now i)) ∙ h i [] here)))

pub loop-key-preserved : goal.loop-key-preserved
loop-key-preserved c =
    let all : List (List ℕ) = each_octets c.args.keys.now in
    let i = c.loop-key.key-index in
    let key : List ℕ = (get_or c.args.keys.now i lent_none).now in
    let is_in : holds c.args.set.now key ≡ true = sym c.contains.ensures ∙ c.if-not-contains.false in
    let size = each_length c.args.keys.now in
    let l : i < length c.args.keys.now = c.loop-key-test.true in
    All-more (λ (k : List ℕ). IsTrue (holds c.args.set.now k)) all i [] (omega arith) c.loop-key.invariant (ap (λ (k : List ℕ). holds c.args.set.now k) (each_at c.args.keys.now i) ∙ is_in)

pub returns : goal.returns
returns c =
    let all : List (List ℕ) = each_octets c.args.keys.now in
    let size = each_length c.args.keys.now in
    let l : length c.args.keys.now ≤ c.loop-key.key-index = c.loop-key-test.false in
    (λ t. All-same (λ (k : List ℕ). IsTrue (holds c.args.set.now k)) all (take c.loop-key.key-index all) (sym (take_all c.loop-key.key-index all (omega arith))) c.loop-key.invariant, λ h. refl)
