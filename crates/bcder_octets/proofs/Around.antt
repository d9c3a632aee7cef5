-- Strings around values: what is written of them, and why they are refused.
use Rattle.std.proofs.Common.{◌≡◌, ◌≢◌, ℕ, false, List, length, refl}
use Rattle.bcder_octets.specs.bcder_tree.declared.mode.Mode.{Mode}
use Rattle.bcder_octets.specs.bcder_tree.declared.mode.Mode.TheVariants.{Ber, Cer, Der}
use Rattle.bcder_octets.specs.bcder_tree.Tags.{TagValue}
use Rattle.bcder_octets.specs.bcder_tree.Tree.{Trees, primitive}
use Rattle.bcder_octets.specs.bcder_primitive.Encoded.{WritesBoth, SpellsSome}
use Rattle.bcder_octets.specs.bcder_primitive.Headers.{IsHeaderIn}
use Rattle.bcder_values.proofs.Returning.{read_again}
use Rattle.bcder_values.proofs.Wrapping.{plain}
use Rattle.bcder_octets.specs.Wrapping.{IsAround, WritesAround, WrapsAgain}

-- A header, and the octets of a text of P.
pub around : (m : Mode) {t : TagValue} {P : List ℕ → Type 0} {n : ℕ} → m ≢ Cer → ((c : List ℕ) → P c → length c ≡ n) → (text : List ℕ) → WritesBoth (IsHeaderIn false t n) P text → WritesAround m t P text
around m r long text w = record { not_cer = r; plain = plain m long text w }

-- The octets of the string are the values' own text.
pub wraps_again : (m inner : Mode) (tag : TagValue) {T : Trees → Type 0} {P : List ℕ → Type 0} (ts : Trees) → ((text : List ℕ) → P text → SpellsSome inner T text) → IsAround m tag P ts → WrapsAgain m tag inner T ts
wraps_again Ber inner tag ts spelled x = record {
  octets = x.plain.content;
  string = record { tree = primitive tag x.plain.content; alone = x.plain.whole; is = (refl, refl) };
  again = read_again inner x.plain.content (spelled x.plain.content x.plain.is);
}
wraps_again Cer inner tag ts spelled x = absurd (x.not_cer refl)
wraps_again Der inner tag ts spelled x = record {
  octets = x.plain.content;
  string = record { tree = primitive tag x.plain.content; alone = x.plain.whole; is = refl };
  again = read_again inner x.plain.content (spelled x.plain.content x.plain.is);
}
