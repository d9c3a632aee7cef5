use Rattle.std.proofs.Common.{ℕ, ◌<◌, ◌^◌, List}
use Rattle.certs_name.specs.bcder_tree.declared.mode.Mode.{Mode}
use Rattle.certs_name.specs.bcder_tree.Tags.{integer_tag}
use Rattle.certs_name.specs.bcder_content.Grammar.{End, Then}
use Rattle.certs_name.specs.bcder_number.Integers.{IsNatural}
use Rattle.certs_name.specs.bcder_primitive.Encoded.{SpellsSome, WritesPlain}
use Rattle.certs_name.specs.bcder_values.Forms.{written_again}
use Rattle.certs_name.proofs.of_bcder_values.Returning.{read_again}
use Rattle.certs_name.specs.bcder.Kinds.{natural}
use Rattle.certs_basics.specs.Basics.{IsSerial}
use Rattle.certs_name.proofs.laws.serials_are_read_again.Goals as goal

again : (n : ℕ) (m : Mode) (text : List ℕ) → n < 2 ^ 160 → WritesPlain m integer_tag (λ content. IsNatural content n) text → SpellsSome m (λ ts. Then IsSerial End ts (n, tt)) text
again n m text small w =
    let s = written_again natural tt n m text tt w in
    let f = s.is in
    record { trees = s.trees; is = record { first = f.first; others = f.others; whole = f.whole; is = record { is = f.is; meets = small }; rest = f.rest }; spelled = s.spelled }

pub returns : goal.returns
returns c = λ n m text small w. read_again m text (again n m text small w)
