-- What reading addresses rests on.
use Rattle.std.proofs.Common.{◌≡◌, ◌*◌, ◌^◌, ℕ, ◌↔◌, Bool, true, false, IsTrue, List, [], ◌∷◌, Option, Some, None, Result, Ok, Err, refl, sym, ap, ◌∙◌, subst, arith}
use Rattle.std.specs.Net.Addr.{MatchIp, ipv4_bits, ipv6_bits}
use Rattle.std.specs.declared.net.ip_addr.IpAddr.{IpAddr}
use Rattle.std.specs.declared.net.ip_addr.IpAddr.TheVariants.{V4, V6}
use Rattle.std.specs.Result.{IsErr, IsErrAnd}
use Rattle.objects_payload.specs.bcder_tree.declared.mode.Mode.{Mode}
use Rattle.objects_payload.specs.bcder_tree.Tags.{sequence_tag}
use Rattle.objects_payload.specs.bcder_tree.Tree.{Tree, Trees}
use Rattle.objects_payload.specs.bcder_source.Errors.{OnContent}
use Rattle.objects_payload.specs.bcder_source.declared.error.DecodeError.{DecodeError}
use Rattle.objects_payload.specs.bcder_content.Contents.{ValuesLeft}
use Rattle.objects_payload.specs.bcder_content.Exact.{GivesAll, LacksAll, ReadsOptAs}
use Rattle.objects_payload.specs.bcder_content.Grammar.{Inside, Many, ManyCases, OneAll, Tagged}
use Rattle.objects_payload.specs.bcder_content.InMode.{ReadsFields}
use Rattle.objects_payload.proofs.of_bcder_content.Taking.{on_content, weaker}
use Rattle.objects_payload.proofs.of_bcder_content.Unique.{as_tagged, end_one, inside_tagged, octets_one, octets_tagged, opt_one, such_tagged, then_one, unsigned_one}
use Rattle.objects_payload.proofs.of_bcder_content.Within.{AllWithin, all_gives, all_stop, all_unfit}
use Rattle.objects_payload.specs.resources_ip_prefix.AddrPrefixes.{bits_of, family_of}
use Rattle.objects_payload.specs.resources_ip_prefix.Prefixes.{first_of}
use Rattle.objects_payload.specs.resources_ip_prefix.Wide.{widened}
use Rattle.objects_payload.specs.resources_ip_prefix.declared.addr.AddressFamily.{AddressFamily}
use Rattle.objects_payload.specs.resources_ip_prefix.Encodings.{FirstBits, told_by}
use Rattle.objects_payload.specs.resources_ip_prefix.Meanings.{address_one}
use Rattle.objects_payload.specs.Roas.{HasMaxLen, RoaAddress, address_of}
use Rattle.objects_payload.specs.declared.roa.address.RoaIpAddress.{RoaIpAddress}
use Rattle.objects_payload.specs.Addresses.{AllOf, AreAddress, AreAddressFields, IsAddressOf, IsOf, address_fields, roa_address}

pub address_tagged : (family : AddressFamily) (m : Mode) → Tagged sequence_tag (IsAddressOf family m)
address_tagged family m = such_tagged (as_tagged (inside_tagged _ _))

-- Fields whose greatest length is tested.

pub out_of_bounds : {A : Type 0} {b : Bool} → IsTrue b ↔ A → b ≡ false → A → ⊥
out_of_bounds d e h = let wrong : true ≡ false = sym (d.1 h) ∙ e in absurd cc

fields_one : {m : Mode} (family : AddressFamily) → OneAll (AreAddressFields family m)
fields_one family = then_one (address_one family) (opt_one (octets_tagged _ _) (octets_one unsigned_one) end_one)

address_within : (family : AddressFamily) (m : Mode) → AllWithin (AreAddress family m) (AreAddressFields family m)
address_within family m ts a p = (p.fields, p.are)

pub address_stop : {E : Type 0} (family : AddressFamily) (v w : ValuesLeft) (r : Result RoaIpAddress (DecodeError E)) (e : DecodeError E)
    → IsErr r × IsErrAnd r (λ x. x ≡ e) → OnContent e (LacksAll (AreAddressFields family v.mode) v) → ReadsFields roa_address (AreAddress family) v r w
address_stop family v w r e a l = record {
  reads = all_stop roa_address (AreAddress family v.mode) (AreAddressFields family v.mode) v w r e a (address_within family v.mode) l;
}

pub address_given : {E : Type 0} (family : AddressFamily) (a : RoaIpAddress) {v w : ValuesLeft} → GivesAll (AreAddressFields family v.mode) v (address_fields a) w
    → HasMaxLen family (roa_address a) → ReadsFields {E = E} roa_address (AreAddress family) v (Ok a) w
address_given family a {v} g h = record {
  reads = all_gives (AreAddress family v.mode) (AreAddressFields family v.mode) (λ ts are. record { fields = address_fields a; are = are; means = refl; has_max = h }) (address_within family v.mode) g;
}

pub address_unfit : {E : Type 0} (family : AddressFamily) (a : RoaIpAddress) (e : DecodeError E) {v w u : ValuesLeft} → GivesAll (AreAddressFields family v.mode) v (address_fields a) w
    → (HasMaxLen family (roa_address a) → ⊥) → ReadsFields roa_address (AreAddress family) v (Err e) u
address_unfit family a e {v} g unfit = record {
  reads = on_content e (all_unfit (AreAddress family v.mode) (AreAddressFields family v.mode) (λ ts x p are.
      let same = (fields_one family).one ts p.fields (address_fields a) p.are are in
      unfit (subst (λ (z : RoaAddress). HasMaxLen family z) (p.means ∙ ap address_of same) p.has_max)) (address_within family v.mode) g);
}

-- The value of such fields is an address.
address_is : {m : Mode} {family : AddressFamily} {t : Tree} {a : RoaAddress} → Inside sequence_tag (AreAddress family m) t a → IsAddressOf family m t a
address_is p = record {
  is = record { x = p.is.fields; is = record { values = p.values; whole = p.whole; is = p.is.are }; means = p.is.means };
  meets = p.is.has_max;
}

address_fields_are : {m : Mode} {family : AddressFamily} {t : Tree} {a : RoaAddress} → IsAddressOf family m t a → Inside sequence_tag (AreAddress family m) t a
address_fields_are p = record {
  values = p.is.is.values;
  whole = p.is.is.whole;
  is = record { fields = p.is.x; are = p.is.is.is; means = p.is.means; has_max = p.meets };
}

pub opt_address : {E : Type 0} (family : AddressFamily) (m : Mode) (old new : ValuesLeft) (r : Result (Option RoaIpAddress) (DecodeError E))
    → ReadsOptAs roa_address sequence_tag (Inside sequence_tag (AreAddress family m)) old r new → ReadsOptAs roa_address sequence_tag (IsAddressOf family m) old r new
opt_address family m old new (Ok (Some x)) h = record { tree = h.tree; is = address_is h.is; took = h.took }
opt_address family m old new (Ok None) h = h
opt_address family m old new (Err e) h =
    weaker e (λ l. record {
      tagged = l.tagged;
      lacks = record { none = λ t x p a. l.lacks.none t x (address_fields_are p) a };
      goes_on = l.goes_on;
      other = l.other;
    }) h

-- Addresses that are read of a family are addresses of it.
address_of_family : (m : Mode) (family : AddressFamily) (t : Tree) (a : RoaAddress) → IsAddressOf family m t a → IsOf family a
address_of_family m family t a p =
    let bits = p.is.is.is.is in
    let len : a.len ≡ p.is.x.0.len = ap (λ (z : RoaAddress). z.len) p.is.means in
    let told : p.is.x.0.len ≡ (told_by bits.x).len = ap (λ (z : FirstBits). z.len) bits.means in
    record { len = omega (arith, len, told, bits.is.meets); max_len = p.meets }

many_of_family : (m : Mode) (family : AddressFamily) (ts : Trees) (xs : List RoaAddress) → ManyCases (IsAddressOf family m) ts xs → AllOf family xs
many_of_family m family ts [] p = tt
many_of_family m family ts (a ∷ xs) p = (address_of_family m family p.0 a p.3, many_of_family m family p.1 xs p.4)

pub addresses_of_family : (m : Mode) (family : AddressFamily) (ts : Trees) (xs : List RoaAddress) → Many (IsAddressOf family m) ts xs → AllOf family xs
addresses_of_family m family ts xs p = many_of_family m family ts xs p.cases

-- What is made of an address of either family.
pub ip_wide : (ip : IpAddr) (n : ℕ) → MatchIp ip (λ v4. n ≡ ipv4_bits v4 * 2 ^ 96) (λ v6. n ≡ ipv6_bits v6) → n ≡ widened (family_of ip) (bits_of ip)
ip_wide (V4 a) n h = h
ip_wide (V6 a) n h = h

pub made_address : (ip : IpAddr) (n len : ℕ) (most : Option ℕ) (f : FirstBits) (a : RoaAddress) → a ≡ address_of (f, (most, tt)) → f.addr ≡ first_of len n → f.len ≡ len
    → n ≡ widened (family_of ip) (bits_of ip) → a ≡ record { addr = first_of len (widened (family_of ip) (bits_of ip)); len = len; max_len = most }
made_address ip n len most f a e at long wide =
    let addr : f.addr ≡ first_of len (widened (family_of ip) (bits_of ip)) = at ∙ ap (λ (k : ℕ). first_of len k) wide in
    e ∙ (λ i. record { addr = addr i; len = long i; max_len = most })
