-- Equality of keys, and of their encoded octets.
use Rattle.std.proofs.Common.{◌≡◌, ℕ, List, get_or, drop, refl, ap, ◌∙◌, subst}
use Rattle.std.specs.Prelude.{◌↔◌, IsTrue}
use Rattle.std.proofs.lemmas.Slice.Eq.{bytes_eq-Decides}
use Rattle.certs_key.specs.bcder_tree.declared.mode.Mode.TheVariants.{Der}
use Rattle.certs_key.specs.bcder_tree.Tree.{Spells}
use Rattle.certs_key.proofs.of_bcder_tree.Fronts.{whole_front}
use Rattle.certs_key.proofs.of_bcder_tree.Trees.{one_tree}
use Rattle.certs_key.specs.bcder_octets.BitContents.{cleared}
use Rattle.certs_key.specs.certs_basics.declared.PublicKeyFormat.{PublicKeyFormat}
use Rattle.certs_key.specs.certs_basics.declared.PublicKeyFormat.TheVariants.{Rsa, Ecdsa}
use Rattle.certs_key.specs.certs_basics.Keys.{HasEncoding, KeyValue, encoded, format_tree, key_tree}
use Rattle.certs_key.specs.Alike.{format_number, keys_eq, parts_of}
use Rattle.certs_key.specs.Cleared.{key_again}
use Rattle.certs_key.proofs.Encodings.{encoded_is}

-- A key of its parts.
abbrev made : PublicKeyFormat → ℕ → List ℕ → KeyValue
made x unused octets = record { format = x; bits = record { unused = unused; octets = octets } }

same_parts : (x y : PublicKeyFormat) (m n : ℕ) (v w : List ℕ) → x ≡ y → m ≡ n → v ≡ w → made x m v ≡ made y n w
same_parts x y m n v w e f g = ap (λ (z : PublicKeyFormat). made z m v) e ∙ ap (λ (k : ℕ). made y k v) f ∙ ap (λ (u : List ℕ). made y n u) g

same_format : (x y : PublicKeyFormat) → format_number x ≡ format_number y → x ≡ y
same_format Rsa Rsa e = refl
same_format Ecdsa Ecdsa e = refl
same_format Rsa Ecdsa e = absurd cc
same_format Ecdsa Rsa e = absurd cc

pub equal_keys : (a b : KeyValue) → IsTrue (keys_eq a b) ↔ (a ≡ b)
equal_keys a b =
    let parts = bytes_eq-Decides (parts_of a) (parts_of b) in (
      (λ t.
          let e = parts.0 t in
          same_parts a.format b.format a.bits.unused b.bits.unused a.bits.octets b.bits.octets
          (same_format a.format b.format (ap (λ (v : List ℕ). get_or v 0 0) e)) (ap (λ (v : List ℕ). get_or v 1 0) e) (ap (λ (v : List ℕ). drop 2 v) e)),
      (λ e. parts.1 (ap parts_of e)),
    )

-- An algorithm's value is no other's.
told_format : (x y : PublicKeyFormat) → format_tree x ≡ format_tree y → x ≡ y
told_format Rsa Rsa e = refl
told_format Ecdsa Ecdsa e = refl
told_format Rsa Ecdsa e = absurd cc
told_format Ecdsa Rsa e = absurd cc

-- A key's value says all but unused bits.
told_by_tree : (a b : KeyValue) → key_tree a ≡ key_tree b → key_again Der a ≡ key_again Der b
told_by_tree a b e =
    let format : format_tree a.format ≡ format_tree b.format = cc in
    let unused : a.bits.unused ≡ b.bits.unused = cc in
    let octets : cleared a.bits.unused a.bits.octets ≡ cleared b.bits.unused b.bits.octets = cc in
    same_parts a.format b.format a.bits.unused b.bits.unused (cleared a.bits.unused a.bits.octets) (cleared b.bits.unused b.bits.octets) (told_format a.format b.format format) unused octets

pub same_encoded : (a b : KeyValue) → HasEncoding a → HasEncoding b → encoded a ≡ encoded b → key_again Der a ≡ key_again Der b
same_encoded a b p q e =
    let first = subst (λ (o : List ℕ). Spells Der (key_tree a) o) e (encoded_is a p) in
    told_by_tree a b (one_tree (key_tree a) (key_tree b) (whole_front first) (whole_front (encoded_is b q))).0
