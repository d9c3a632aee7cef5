use Rattle.objects_rta_valid.proofs.paths.laws.one_only_path.Goals as goal

pub returns : goal.returns
returns c = λ nodes sid a b p q. q.only a p.is
