use Rattle.objects_cms.proofs.Single.{no_kind}
use Rattle.objects_cms.proofs.attributes.kinds.kind_of.Goals as goal

pub returns : goal.returns
returns c = no_kind _ (λ e. let t = c.if-equals.ensures.1 e in absurd cc) (λ e. let t = c.if-equals-2.ensures.1 e in absurd cc) (λ e. let t = c.if-equals-3.ensures.1 e in absurd cc) (λ e. let t = c.if-equals-4.ensures.1 e in absurd cc)
