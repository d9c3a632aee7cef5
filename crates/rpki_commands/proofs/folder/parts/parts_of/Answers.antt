use Rattle.std.proofs.Common.{sym, subst, arith}
use Rattle.rpki_commands.specs.Lines.{TellsMoment, TellsDepth}
use Rattle.rpki_commands.specs.Verdicts.{StartsWithVerdict, TellsVerdicts}
use Rattle.rpki_commands.proofs.Lacking.{memory_weaker}
use Rattle.rpki_commands.proofs.folder.parts.parts_of.Goals as goal

pub returns-in_default-clause-refused : goal.returns-in_default-clause-refused
returns-in_default-clause-refused c = λ b t. c.in_default.ensures.none b.version t.version_is

pub returns-in_default-moment_of-clause-refused : goal.returns-in_default-moment_of-clause-refused
returns-in_default-moment_of-clause-refused c = λ b t.
    c.in_default-moment_of.ensures.none b.moment (subst (λ s. TellsMoment s b.moment) (sym c.as_slice.ensures.value) t.moment_is)

pub returns-in_default-depth_of-clause-refused : goal.returns-in_default-depth_of-clause-refused
returns-in_default-depth_of-clause-refused c = λ b t.
    c.in_default-depth_of.ensures.none b.depth (subst (λ s. TellsDepth s b.depth) (sym c.as_slice-2.ensures.value) t.depth_is)

pub returns-in-Err-clause-memory : goal.returns-in-Err-clause-memory
returns-in-Err-clause-memory c = memory_weaker c.in-Err.error c.in-Err.ensures.memory (λ first. record {
  lines = record {
    version = c.in-Some.version;
    version_is = c.in-Some.ensures.found;
    moment = c.in-Some-moment_of.moment;
    moment_is = subst (λ s. TellsMoment s c.in-Some-moment_of.moment) c.as_slice.ensures.value c.in-Some-moment_of.ensures.found;
    depth = c.in-Some-depth_of.depth;
    depth_is = subst (λ s. TellsDepth s c.in-Some-depth_of.depth) c.as_slice-2.ensures.value c.in-Some-depth_of.ensures.found;
    short = omega arith;
  };
  first = subst StartsWithVerdict c.as_slice-3.ensures.value first;
})

pub returns-clause-ok : goal.returns-clause-ok
returns-clause-ok c = record {
  told = record {
    verdicts = c.in-Ok.verdicts.items;
    version_is = c.in-Some.ensures.found;
    moment_is = subst (λ s. TellsMoment s c.in-Some-moment_of.moment) c.as_slice.ensures.value c.in-Some-moment_of.ensures.found;
    depth_is = subst (λ s. TellsDepth s c.in-Some-depth_of.depth) c.as_slice-2.ensures.value c.in-Some-depth_of.ensures.found;
    short = omega arith;
    verdicts_are = subst (λ s. TellsVerdicts s c.in-Ok.verdicts.items) c.as_slice-3.ensures.value c.in-Ok.ensures.ok;
    same_locators = c.sorted_locators.ensures.permutation;
    same_objects = c.sorted_objects.ensures.permutation;
    same_verdicts = c.sorted_verdicts.ensures.permutation;
  };
  locators_sorted = c.sorted_locators.ensures.sorted;
  objects_sorted = c.sorted_objects.ensures.sorted;
  verdicts_sorted = c.sorted_verdicts.ensures.sorted;
}
