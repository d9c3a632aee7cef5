-- What contracts see of the parts of a report.
use Rattle.std.specs.Prelude.{ℕ, List, map}
use Rattle.std.specs.declared.cmp.Ordering.{Ordering}
use Rattle.std.specs.Ordering.{nat_cmp, ordering_then}
use Rattle.std.specs.Cmp.Lexicographic.{slice_cmp}
use Rattle.rpki_rules.specs.resources_ip_prefix.declared.addr.AddressFamily.{AddressFamily}
use Rattle.rpki_rules.specs.resources_ip_prefix.declared.addr.AddressFamily.TheVariants as family
use Rattle.rpki_rules.specs.resources_ip_prefix.Address.{bits_of}
use Rattle.rpki_rules.specs.Kinds.{Kind, Ipv4, Ipv6}
use Rattle.rpki_rules.specs.Attests.{Origin as OriginValue, Provision as ProvisionValue, WitnessValue}
use Rattle.rpki_rules.specs.Lines.{Customer as CustomerValue, Refusal as RefusalValue}
use Rattle.rpki_rules.specs.declared.origin.Origin.{Origin}
use Rattle.rpki_rules.specs.declared.customer.Provision.{Provision}
use Rattle.rpki_rules.specs.declared.customer.Customer.{Customer}
use Rattle.rpki_rules.specs.declared.refusal.Refusal.{Refusal}
use Rattle.rpki_rules.specs.declared.witness.Path.{Path}
use Rattle.rpki_rules.specs.declared.witness.Witness.{Witness}

abbrev pub kind_of : AddressFamily → Kind
kind_of family.Ipv4 = Ipv4
kind_of family.Ipv6 = Ipv6

abbrev pub origin_of : Origin → OriginValue
origin_of x = record {
  kind = kind_of x.family;
  addr = bits_of x.addr;
  len = x.len;
  max_len = x.max_len;
  asn = x.asn.value;
}

abbrev pub provision_of : Provision → ProvisionValue
provision_of x = record { customer = x.customer.value; provider = x.provider.value }

abbrev pub customer_of : Customer → CustomerValue
customer_of c = record { number = c.number.value; providers = map (λ a. a.value) c.providers.items }

abbrev pub refusal_of : Refusal → RefusalValue
refusal_of r = record { name = r.name; cause = r.cause }

-- A locator's name, and the lookup keys of a chain.
pub record PathValue : Type 0 where
  pub locator : List ℕ
  pub chain : List (List ℕ)

abbrev pub path_of : Path → PathValue
path_of p = record { locator = p.locator; chain = p.chain.items }

abbrev pub witness_of : Witness → WitnessValue
witness_of x = record {
  locator = x.path.value.locator;
  chain = x.path.value.chain.items;
  object = x.object;
}

-- By customer, then by provider.
abbrev pub provision_cmp : ProvisionValue → ProvisionValue → Ordering
provision_cmp x y = ordering_then (nat_cmp x.customer y.customer) (nat_cmp x.provider y.provider)

-- By object, then by locator and chain, as octets.
abbrev pub witness_cmp : WitnessValue → WitnessValue → Ordering
witness_cmp s t =
    ordering_then (slice_cmp nat_cmp s.object t.object)
    (ordering_then (slice_cmp nat_cmp s.locator t.locator)
    (slice_cmp (slice_cmp nat_cmp) s.chain t.chain))
