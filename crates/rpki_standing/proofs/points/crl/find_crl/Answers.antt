use Rattle.std.proofs.Common.{◌∙◌, subst, sym}
use Rattle.rpki_standing.specs.Crls.{IsListAt}
use Rattle.rpki_rules.specs.Points.{IsCrlOf}
use Rattle.rpki_rules.specs.World.{world_of}
use Rattle.rpki_standing.proofs.Found.{crl_of, list_fails, none_reads, read_uncached, unlisted}
use Rattle.rpki_standing.proofs.points.crl.find_crl.Goals as goal

pub returns-then-not-branch-clause-refused : goal.returns-then-not-branch-clause-refused
returns-then-not-branch-clause-refused g c d o m e f k =
    let w = world_of d (g.V.Verifier.says c.args.reader.now.verifier.now) c.args.reader.now.index in
    unlisted w c.args.uri.now c.args.files.now c.args.ca.now c.args.ee.now o m e f k (λ listed. let yes = c.in_ok-is_file.ensures.1 listed in let no = c.if-not-branch.true in absurd cc)

pub returns-in_default-clause-refused : goal.returns-in_default-clause-refused
returns-in_default-clause-refused g c d o m e f k =
    let w = world_of d (g.V.Verifier.says c.args.reader.now.verifier.now) c.args.reader.now.index in
    let listed = c.in_ok-is_file.ensures.0 c.if-not-branch.false in
    none_reads w c.args.uri.now c.args.files.now c.args.ca.now c.args.ee.now o m e f k listed (rw c.in_default.is at (c.in_ok-crl.ensures d w.good))

pub returns-in-Err-clause-refused : goal.returns-in-Err-clause-refused
returns-in-Err-clause-refused g c d o m e f k =
    let w = world_of d (g.V.Verifier.says c.args.reader.now.verifier.now) c.args.reader.now.index in
    let listed = c.in_ok-is_file.ensures.0 c.if-not-branch.false in
    list_fails w c.args.uri.now c.args.files.now c.args.ca.now c.args.ee.now o m e f k listed c.in-Some.crl c.in-Err.test (rw c.in-Some.is at (c.in_ok-crl.ensures d w.good)) (c.in-Err.ensures.told d o m e)

pub returns-clause-found : goal.returns-clause-found
returns-clause-found g c d o m e f k =
    let w = world_of d (g.V.Verifier.says c.args.reader.now.verifier.now) c.args.reader.now.index in
    let listed = c.in_ok-is_file.ensures.0 c.if-not-branch.false in
    let at : IsListAt w c.args.uri.now c.in-Some.crl = rw c.in-Some.is at (c.in_ok-crl.ensures d w.good) in
    subst (IsCrlOf w c.args.ca.now o m) (sym (c.in_ok-kept.ensures ∙ read_uncached at.reads))
    (crl_of w c.args.uri.now c.args.files.now c.args.ca.now c.args.ee.now o m e f k listed c.in-Some.crl at (c.in_default-check_list.ensures.told d o m e))
