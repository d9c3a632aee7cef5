use Rattle.std.proofs.Common.{◌≡◌, lit<, refl}
use Rattle.std.proofs.lemmas.Str.Pattern.{contains_char}
use Rattle.resources_ip_prefix.specs.declared.addr.AddressFamily.TheVariants.{Ipv4, Ipv6}
use Rattle.resources_ip_prefix.proofs.addr.AddressFamily.of_text.Goals as goal

pub returns-then-contains : goal.returns-then-contains
returns-then-contains c = (λ _. (contains_char 58 c.args.text.now c.contains.result c.contains.ensures.cases (lit< tt)).0 c.if-contains.true, λ _. refl)

pub returns-else-contains : goal.returns-else-contains
returns-else-contains c = (
  λ e. absurd (let wrong : Ipv4 ≡ Ipv6 = e in cc),
  λ colon. absurd (let there = (contains_char 58 c.args.text.now c.contains.result c.contains.ensures.cases (lit< tt)).1 colon.0 colon.1 colon.2 in cc),
)
