use Rattle.std.proofs.Common.{◌≡◌, List, Option, None, Result, Ok, Vec, String, map, refl, string_bytes, subst, sym}
use Rattle.std.specs.Global.{Global}
use Rattle.std.specs.declared.io.Error.{Error}
use Rattle.rpki_commands.specs.Arguments.{Asks}
use Rattle.rpki_commands.specs.Programs.{AskedFor}
use Rattle.rpki_commands.specs.declared.arguments.Command.{Command}
use Rattle.rpki_commands.proofs.programs.check_program.Goals as goal

asked_so : (arguments : Result (Vec (String Global) Global) Error) (words : Vec (String Global) Global) (listed : List (String Global)) (command : Option Command) → arguments ≡ Ok words → listed ≡ words.items → Asks (map string_bytes listed) command → AskedFor arguments command
asked_so arguments words listed command is same asks =
    subst (λ (r : Result (Vec (String Global) Global) Error). AskedFor r command) (sym is) (subst (λ (l : List (String Global)). Asks (map string_bytes l) command) same asks)

pub returns-in-None-clause-failed : goal.returns-in-None-clause-failed
returns-in-None-clause-failed g c = λ _. record {
  command = None;
  asked = asked_so _ c.in-Ok.words _ None c.in-Ok.is c.as_slice.ensures.value c.in-None.ensures;
  failed = (record { octets = refl; failures = refl }, record { octets = refl; failures = refl });
}
