use Rattle.std.proofs.Common.{rules}
use Rattle.certs_extension.proofs.Adding.{named_adds, nameless_adds_none, other_adds_none}
use Rattle.certs_extension.proofs.access.subject.SubjectAccess.with.Goals as goal

pub returns-in_default : goal.returns-in_default
returns-in_default c = record {
  repository = nameless_adds_none _ _ _ _ (search rules);
  manifest = nameless_adds_none _ _ _ _ (search rules);
  object = nameless_adds_none _ _ _ _ (search rules);
  notify = nameless_adds_none _ _ _ _ (search rules);
}

pub returns-then-equals : goal.returns-then-equals
returns-then-equals c = record {
  repository = search (rules, named_adds);
  manifest = other_adds_none _ _ _ _ _ (search rules) (search rules);
  object = other_adds_none _ _ _ _ _ (search rules) (search rules);
  notify = other_adds_none _ _ _ _ _ (search rules) (search rules);
}

pub returns-then-equals-2 : goal.returns-then-equals-2
returns-then-equals-2 c = record {
  repository = other_adds_none _ _ _ _ _ (search rules) (search rules);
  manifest = search (rules, named_adds);
  object = other_adds_none _ _ _ _ _ (search rules) (search rules);
  notify = other_adds_none _ _ _ _ _ (search rules) (search rules);
}

pub returns-then-equals-3 : goal.returns-then-equals-3
returns-then-equals-3 c = record {
  repository = other_adds_none _ _ _ _ _ (search rules) (search rules);
  manifest = other_adds_none _ _ _ _ _ (search rules) (search rules);
  object = search (rules, named_adds);
  notify = other_adds_none _ _ _ _ _ (search rules) (search rules);
}

pub returns-then-equals-4 : goal.returns-then-equals-4
returns-then-equals-4 c = record {
  repository = other_adds_none _ _ _ _ _ (search rules) (search rules);
  manifest = other_adds_none _ _ _ _ _ (search rules) (search rules);
  object = other_adds_none _ _ _ _ _ (search rules) (search rules);
  notify = search (rules, named_adds);
}

pub returns : goal.returns
returns c = record {
  repository = other_adds_none _ _ _ _ _ (search rules) (search rules);
  manifest = other_adds_none _ _ _ _ _ (search rules) (search rules);
  object = other_adds_none _ _ _ _ _ (search rules) (search rules);
  notify = other_adds_none _ _ _ _ _ (search rules) (search rules);
}
