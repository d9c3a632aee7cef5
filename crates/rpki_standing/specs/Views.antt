-- What contracts see of what objects attest, and of lists that it is added to.
use Rattle.std.specs.Prelude.{◌≡◌, ℕ, List, ◌++◌}
use Rattle.rpki_rules.specs.Objects.{RoaAddress}
use Rattle.rpki_rules.specs.Attests.{Origin, Payload as PayloadValue, OfAspa, OfRoa, max_len_or}
use Rattle.rpki_rules.specs.Kinds.{Kind}
use Rattle.rpki_standing.specs.declared.payloads.payload.Payload.{Payload}
use Rattle.rpki_standing.specs.declared.payloads.payload.Payload.TheVariants as payload

-- What an object attests.
abbrev pub payload_of : Payload → PayloadValue
payload_of (payload.Roa content) = OfRoa content
payload_of (payload.Aspa content) = OfAspa content

-- The origin of one prefix: its greatest length is its own length where none is given (RFC 9582 4.3.2.2).
abbrev pub origin_by : Kind → ℕ → RoaAddress → Origin
origin_by kind asn a = record {
  kind = kind;
  addr = a.addr;
  len = a.len;
  max_len = max_len_or a.len a.max_len;
  asn = asn;
}

-- What was there stands in front, with more after it or nothing.
abbrev pub Extends : {X : Type 0} → List X → List X → Type 0
Extends {X = X} old new = (more : List X) × (new ≡ old ++ more)
