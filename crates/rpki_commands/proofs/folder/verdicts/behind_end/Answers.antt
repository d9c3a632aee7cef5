use Rattle.std.proofs.Common.{[], ◌∷◌, inl, inr, refl, ap, ◌∙◌}
use Rattle.std.proofs.lemmas.Option.{IfSome_then}
use Rattle.rpki_commands.proofs.folder.verdicts.behind_end.Goals as goal

pub returns-in-Some-eq10-default-clause-found : goal.returns-in-Some-eq10-default-clause-found
returns-in-Some-eq10-default-clause-found c = record {
  end = 10 ∷ [];
  whole = c.in-Some-eq10-default.ensures.cases.0 ∙ ap (λ n. n ∷ c.in-Some-eq10-default.rest.now) c.in-Some-eq10-default.field-0-0-test;
  end_is = inl (inl refl);
}

pub returns-in-Some-eq13-default-clause-found : goal.returns-in-Some-eq13-default-clause-found
returns-in-Some-eq13-default-clause-found c = IfSome_then c.behind_line_feed.result c.behind_line_feed.ensures.found (λ rest is.
    record {
      end = 13 ∷ 10 ∷ [];
      whole = c.in-Some-eq13-default.ensures.cases.0 ∙ ap (λ n. n ∷ c.in-Some-eq13-default.rest.now) c.in-Some-eq13-default.field-0-0-test ∙ ap (λ s. 13 ∷ s) is;
      end_is = inl (inr refl);
    })
