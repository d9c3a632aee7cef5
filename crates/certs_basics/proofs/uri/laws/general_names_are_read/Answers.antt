-- A URI is written in octets of IA5String.
use Rattle.std.proofs.Common.{arith}
use Rattle.certs_basics.specs.bcder_tree.Strings.{IsIa5}
use Rattle.certs_basics.specs.bcder_tree.Tags.{context}
use Rattle.certs_basics.proofs.of_bcder.Ascii.{ascii_text}
use Rattle.certs_basics.proofs.of_bcder_octets.Written.{written_string}
use Rattle.std.proofs.lemmas.List.Elements.{All-weaker}
use Rattle.certs_basics.specs.Uris.{IsUriOctet}
use Rattle.certs_basics.proofs.PathUris.{IsUri-plain}
use Rattle.certs_basics.proofs.uri.laws.general_names_are_read.Goals as goal

pub returns : goal.returns
returns c = λ m uri ts is trees.
    let w = written_string m (context 6) uri ts trees in
    let all = All-weaker IsUriOctet IsIa5 (λ n h. omega (arith, h.1)) uri (IsUri-plain uri is) in
    record { tree = w.tree; alone = w.alone; is = record { is = w.is; meets = (ascii_text IsIa5 uri).1 all } }
