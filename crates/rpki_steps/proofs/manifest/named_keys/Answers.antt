use Rattle.std.proofs.Common.{◌≡◌, ◌∙◌, None, Some, ap, sym}
use Rattle.rpki_standing.specs.certs_basics.Uris.{lookup_key}
use Rattle.rpki_rules.specs.World.{world_of}
use Rattle.rpki_steps.proofs.NameLemmas.{named_more, named_none}
use Rattle.rpki_steps.proofs.manifest.named_keys.Goals as goal

pub returns-in_default : goal.returns-in_default
returns-in_default c =
    let none : c.args.ca.now.tbs.access.manifest ≡ None = sym (rw c.tbs.ensures at c.in_default.ensures) in
    λ d v. named_none (world_of d v c.args.index.now) c.args.ca.now c.in_ok-keys.keys.items none (λ key. c.in_ok-keys.ensures d v key)

pub returns : goal.returns
returns c =
    let uri = c.in-Some.uri.now in
    let some : c.args.ca.now.tbs.access.manifest ≡ Some uri = sym (rw c.tbs.ensures at c.in-Some.ensures) in
    let key : c.in_ok-key_at.field-0 ≡ lookup_key uri = c.in_ok-key_at.ensures ∙ ap lookup_key c.as_slice.ensures.text in
    λ d v. named_more (world_of d v c.args.index.now) c.args.ca.now c.in_ok-keys.keys.items c.push.new.self.items uri c.in_ok-key_at.field-0 some key c.in_ok-push.ensures.items (λ key. c.in_ok-keys.ensures d v key)
