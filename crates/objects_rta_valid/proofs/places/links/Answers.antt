use Rattle.std.proofs.Common.{◌∙◌, ap, List, Option, ℕ, length, arith}
use Rattle.objects_rta_valid.specs.Places.{pairs, pairs_of}
use Rattle.objects_rta_valid.proofs.Tables.{length_linked, linked_done, linked_step, links_from, path_begins}
use Rattle.objects_rta_valid.proofs.places.links.Goals as goal

pub link_path-requires : goal.link_path-requires
link_path-requires c = path_begins c.args.paths.now.paths c.loop-signer.signer c.path.result c.args.paths.now.count c.loop-signer.links.items c.path.ensures.path c.loop-signer.invariant.long c.requires.inside

pub loop-signer-preserved : goal.loop-signer-preserved
loop-signer-preserved c = record {
  table = rw c.link_path.ensures (linked_step c.args.paths.now.paths c.loop-signer.signer c.path.result c.loop-signer.links.items _ c.path.ensures.path c.loop-signer.invariant.table);
  long = ap (λ (xs : List (Option ℕ)). length xs) c.link_path.ensures ∙ length_linked c.loop-signer.links.items (pairs_of c.path.result) ∙ c.loop-signer.invariant.long;
}

pub returns : goal.returns
returns c =
    links_from (pairs c.args.paths.now.paths) c.args.paths.now.count c.loop-signer.links.items c.requires.inside c.requires.functional
    (linked_done c.args.paths.now.paths c.loop-signer.signer c.loop-signer.links.items _ (let n = c.len-signer-end.ensures in let l = c.loop-signer-test.false in omega (arith, n, l)) c.loop-signer.invariant.table)
    c.loop-signer.invariant.long
