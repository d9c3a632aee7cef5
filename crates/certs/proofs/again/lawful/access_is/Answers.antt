use Rattle.certs.proofs.again.lawful.access_is.Goals as goal

pub returns : goal.returns
returns c = record {
  repository = c.repository_is.ensures;
  manifest = c.manifest_is.ensures;
  object = c.object_is.ensures;
  notify = c.notify_is.ensures;
}
