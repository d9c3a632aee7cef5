-- The lookup key of an https URI is one.
use Rattle.std.proofs.Common.{sym, ap, ◌∙◌, subst}
use Rattle.certs_basics.specs.Uris.{IsHttps, lookup_key as key_of}
use Rattle.certs_basics.proofs.UriLaws.{IsHttps-lookup_key}
use Rattle.certs_basics.proofs.uri.https.Https.lookup_key.Goals as goal

pub of_uri-requires : goal.of_uri-requires
of_uri-requires c =
    subst IsHttps (sym (c.in-Ok.ensures.ok ∙ c.in_ok-key.ensures ∙ ap key_of c.as_slice-2.ensures.text)) (IsHttps-lookup_key c.args.self.now c.as_slice.ensures.uri)
