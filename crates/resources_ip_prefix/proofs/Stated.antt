-- Content octets of BIT STRINGs, and the addresses that they state.
use Rattle.std.proofs.Common.{◌≡◌, ℕ, List, take, Result, Ok, Err, Option, Some, None, sym, ap, subst, ◌∙◌}
use Rattle.resources_ip_prefix.specs.bcder_tree.declared.mode.Mode.{Mode}
use Rattle.resources_ip_prefix.specs.bcder_tree.Tags.{TagValue}
use Rattle.resources_ip_prefix.specs.bcder_tree.Tree.{Tree}
use Rattle.resources_ip_prefix.specs.bcder_source.declared.error.DecodeError.{DecodeError}
use Rattle.resources_ip_prefix.specs.bcder_primitive.Plain.{LacksOctets, OctetsLeft, WholeOctets}
use Rattle.resources_ip_prefix.proofs.of_bcder_primitive.Primitives.{lacks_whole}
use Rattle.resources_ip_prefix.specs.bcder_octets.BitContents.{bit_string_tag}
use Rattle.resources_ip_prefix.specs.bcder_content.Contents.{ValuesLeft}
use Rattle.resources_ip_prefix.specs.bcder_content.Exact.{Lacks, ReadsAs, ReadsOptAs}
use Rattle.resources_ip_prefix.specs.bcder_content.Grammar.{OctetsOf}
use Rattle.resources_ip_prefix.proofs.of_bcder_content.Taking.{weaker}
use Rattle.resources_ip_prefix.specs.declared.addr.AddressFamily.{AddressFamily}
use Rattle.resources_ip_prefix.specs.Encodings.{AreAddressOctets, FirstBits, IsAddress, IsAddressIn}

-- All octets of a content state no address.
pub lacks_octets : {family : AddressFamily} {p q : OctetsLeft} {n : ℕ} {s : List ℕ} → q ≡ p → p.limit ≡ Some n → s ≡ take n q.rest → ((b : FirstBits) → AreAddressOctets family q.mode s b → ⊥) → LacksOctets (AreAddressOctets family p.mode) p
lacks_octets {family} {p} {q} {n} {s} same limit front none =
    let all : s ≡ take n p.rest = front ∙ ap (λ (v : OctetsLeft). take n v.rest) same in
    let unsaid : (b : FirstBits) → AreAddressOctets family p.mode s b → ⊥ = subst (λ (v : OctetsLeft). (b : FirstBits) → AreAddressOctets family v.mode s b → ⊥) same none in
    lacks_whole (AreAddressOctets family p.mode) limit (λ b is. unsaid b (subst (λ (z : List ℕ). AreAddressOctets family p.mode z b) (sym all) is))

pub lacks_any : {family : AddressFamily} {p : OctetsLeft} → ((text : List ℕ) → WholeOctets p text → ⊥) → LacksOctets (AreAddressOctets family p.mode) p
lacks_any none = record { none = λ text b is w. none text w }

-- A BIT STRING of such octets is an address, and each address is one.

address_of : {family : AddressFamily} {m : Mode} {tag : TagValue} {t : Tree} {b : FirstBits} → OctetsOf tag (AreAddressOctets family m) t b → IsAddressIn family m tag t b
address_of p = record { x = p.is.value; is = record { is = record { content = p.content; whole = p.whole; is = p.is.is }; meets = p.is.fits }; means = p.is.means }

octets_of : {family : AddressFamily} {m : Mode} {tag : TagValue} {t : Tree} {b : FirstBits} → IsAddressIn family m tag t b → OctetsOf tag (AreAddressOctets family m) t b
octets_of p = record { content = p.is.is.content; whole = p.is.is.whole; is = record { value = p.x; is = p.is.is.is; fits = p.is.meets; means = p.means } }

no_address : {family : AddressFamily} {m : Mode} {v : ValuesLeft} → Lacks (OctetsOf bit_string_tag (AreAddressOctets family m)) v → Lacks (IsAddress m family) v
no_address l = record { none = λ t b p a. l.none t b (octets_of p) a }

pub address_read : {A E : Type 0} (f : A → FirstBits) (family : AddressFamily) (m : Mode) (v w : ValuesLeft) (r : Result A (DecodeError E)) → ReadsAs f (OctetsOf bit_string_tag (AreAddressOctets family m)) v r w → ReadsAs f (IsAddress m family) v r w
address_read f family m v w (Ok x) g = record { tree = g.tree; is = address_of g.is; took = g.took }
address_read f family m v w (Err e) l = weaker e no_address l

pub address_read_opt : {A E : Type 0} (f : A → FirstBits) (family : AddressFamily) (m : Mode) (v w : ValuesLeft) (r : Result (Option A) (DecodeError E)) → ReadsOptAs f bit_string_tag (OctetsOf bit_string_tag (AreAddressOctets family m)) v r w → ReadsOptAs f bit_string_tag (IsAddress m family) v r w
address_read_opt f family m v w (Ok (Some x)) g = record { tree = g.tree; is = address_of g.is; took = g.took }
address_read_opt f family m v w (Ok None) h = h
address_read_opt f family m v w (Err e) l = weaker e (λ l. record { tagged = l.tagged; lacks = no_address l.lacks; goes_on = l.goes_on; other = l.other }) l
