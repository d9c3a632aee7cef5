-- That clearing unused bits twice is clearing them once, so a key has one encoding with the padding of any mode.
use Rattle.std.proofs.Common.{◌≡◌, ℕ, ◌-◌, ◌*◌, ◌/◌, ◌%◌, ◌^◌, List, [], ◌∷◌, refl, sym, ap, ◌∙◌, subst, arith}
use Rattle.std.proofs.Math.Nat.{div-add-mod, mul-mod_right, sub-zero}
use Rattle.certs_key.specs.bcder_tree.declared.mode.Mode.{Mode}
use Rattle.certs_key.specs.bcder_tree.declared.mode.Mode.TheVariants.{Ber, Cer, Der}
use Rattle.certs_key.specs.bcder_tree.Tree.{Tree, primitive, Spells}
use Rattle.certs_key.specs.bcder_tree.Sequences.{sequence}
use Rattle.certs_key.specs.bcder_octets.BitContents.{bit_string_tag, cleared, padded_in}
use Rattle.certs_key.specs.certs_basics.Keys.{KeyValue, format_tree, key_tree, HasEncoding}

cleared_octet : (p a : ℕ) → (a - a % p) - (a - a % p) % p ≡ a - a % p
cleared_octet p a =
    let whole : a - a % p ≡ p * (a / p) = omega (arith, div-add-mod a p) in
    let none : (a - a % p) % p ≡ 0 = ap (λ n. n % p) whole ∙ mul-mod_right p (a / p) in
    ap (λ n. (a - a % p) - n) none ∙ sub-zero (a - a % p)

cleared_twice : (unused : ℕ) (v : List ℕ) → cleared unused (cleared unused v) ≡ cleared unused v
cleared_twice unused [] = refl
cleared_twice unused (a ∷ []) = ap (λ n. n ∷ []) (cleared_octet (2 ^ unused) a)
cleared_twice unused (a ∷ b ∷ []) = ap (λ v. a ∷ v) (cleared_twice unused (b ∷ []))
cleared_twice unused (a ∷ b ∷ c ∷ v) = ap (λ w. a ∷ w) (cleared_twice unused (b ∷ c ∷ v))

-- A key with the padding of a mode.
abbrev pub key_again : Mode → KeyValue → KeyValue
key_again m k = record { format = k.format; bits = padded_in m k.bits }

-- Its tree by the octets of its bits.
abbrev tree_with : KeyValue → List ℕ → Tree
tree_with k v = sequence (format_tree k.format ∷ primitive bit_string_tag (k.bits.unused ∷ v) ∷ [])

same_tree : (m : Mode) (k : KeyValue) → key_tree (key_again m k) ≡ key_tree k
same_tree Ber k = refl
same_tree Cer k = ap (λ v. tree_with k v) (cleared_twice k.bits.unused k.bits.octets)
same_tree Der k = ap (λ v. tree_with k v) (cleared_twice k.bits.unused k.bits.octets)

pub again_has : (m : Mode) (k : KeyValue) → HasEncoding k → HasEncoding (key_again m k)
again_has m k h = record {
  octets = h.octets;
  encodes = subst (λ (t : Tree). Spells Der t h.octets) (sym (same_tree m k)) h.encodes;
}
