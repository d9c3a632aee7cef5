use Rattle.std.proofs.Common.{◌≡◌, ◌∙◌, true, false, not, ap, sym}
use Rattle.std.specs.Prelude.{is_ok}
use Rattle.rpki_standing.specs.certs_basics.Paths.{join}
use Rattle.rpki_standing.specs.certs_basics.Uris.{lookup_key}
use Rattle.rpki_standing.specs.certs_key.Digesting.{digests_of}
use Rattle.rpki_rules.specs.ReasonViews.{file_of}
use Rattle.rpki_rules.specs.World.{world_of}
use Rattle.rpki_standing.proofs.Stocked.{hash_fails, none_there}
use Rattle.rpki_standing.proofs.points.held.check_held.Given.{Over}
use Rattle.rpki_standing.proofs.points.held.check_held.Goals.{After-object}
use Rattle.rpki_standing.proofs.points.held.check_held.Goals as goal

-- The lookup key that is looked up is that of the file in the folder.
key : (g : Over) (c : After-object g) → c.as_slice-3.result.now ≡ lookup_key (join c.args.folder.now c.args.file.now.name)
key g c = c.as_slice-3.ensures.value ∙ c.in_ok-key.ensures ∙ ap lookup_key (c.as_slice-2.ensures.value ∙ c.in_ok-uri.ensures ∙ (λ i. join (c.as_slice.ensures.text i) (c.file.ensures i)))

pub returns-in_default : goal.returns-in_default
returns-in_default g c v ca o m is =
    let w = world_of (digests_of g.D.Digester.sha256_digest g.D.Digester.sha1_digest c.args.digester.now) v c.args.index.now in
    let found = key g (goal.at.returns-in_default g c).After-object in
    none_there w ca o m c.args.folder.now is c.args.file.now (file_of c.in_ok-listed.field-0) c.in_ok-listed.ensures (rw found at c.in_default.ensures.none)

pub returns-then-is_err : goal.returns-then-is_err
returns-then-is_err g c v ca o m is =
    let w = world_of (digests_of g.D.Digester.sha256_digest g.D.Digester.sha1_digest c.args.digester.now) v c.args.index.now in
    let found = key g (goal.at.returns-then-is_err g c).After-object in
    hash_fails w ca o m c.args.folder.now is c.args.file.now c.in-Some.object.now.octets (rw found at c.in-Some.ensures.found) (file_of c.in_ok-listed-2.field-0) c.in_ok-listed-2.ensures
    (λ same.
    let yes : is_ok c.verify.result ≡ true = c.verify.ensures.1 (ap (g.D.Digester.sha256_digest c.args.digester.now) c.as_slice-4.ensures ∙ same ∙ sym (c.new-hash.ensures ∙ c.hash.ensures)) in
    let no : is_ok c.verify.result ≡ false = c.is_err.ensures.negation ∙ ap not c.if-is_err.true in
    let wrong : true ≡ false = sym yes ∙ no in
    absurd cc)
