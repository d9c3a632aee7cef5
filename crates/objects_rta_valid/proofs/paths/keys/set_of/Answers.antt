use Rattle.std.proofs.Common.{◌≡◌, ◌<◌, ℕ, true, false, List, [], length, take, get_or, sym, ap, subst, ◌∙◌, arith}
use Rattle.std.proofs.lemmas.Bool.{not-false, not-true}
use Rattle.objects_rta_valid.specs.Nodes.{each_octets}
use Rattle.objects_rta_valid.specs.Tables.{IsSetOf, holds}
use Rattle.objects_rta_valid.proofs.Sets.{each_at, each_length, each_more, lent_none, set_full, set_next}
use Rattle.objects_rta_valid.proofs.paths.keys.set_of.Goals as goal

pub returns-then-not-branch : goal.returns-then-not-branch
returns-then-not-branch c =
    let all : List (List ℕ) = each_octets c.args.keys.now in
    let i = c.loop-key.key-index in
    let key : List ℕ = (get_or c.args.keys.now i lent_none).now in
    let full : holds c.loop-key.set key ≡ true = not-false (holds c.loop-key.set key) (sym c.in_ok-insert.ensures.added ∙ c.if-not-branch.true) in
    let size = each_length c.args.keys.now in
    let l : i < length c.args.keys.now = c.loop-key-test.true in
    set_full all i [] c.loop-key.set (omega arith) c.loop-key.invariant (ap (λ (k : List ℕ). holds c.loop-key.set k) (each_at c.args.keys.now i) ∙ full)

pub loop-key-preserved : goal.loop-key-preserved
loop-key-preserved c =
    let all : List (List ℕ) = each_octets c.args.keys.now in
    let i = c.loop-key.key-index in
    let key : List ℕ = (get_or c.args.keys.now i lent_none).now in
    let none : holds c.loop-key.set key ≡ false = not-true (holds c.loop-key.set key) (sym c.in_ok-insert.ensures.added ∙ c.if-not-branch.false) in
    let next = set_next (take i all) key c.loop-key.set c.insert.new.self none c.in_ok-insert.ensures.updates c.loop-key.invariant in
    subst (λ (keys : List (List ℕ)). IsSetOf keys c.insert.new.self) (sym (each_more c.args.keys.now i c.loop-key-test.true)) next
