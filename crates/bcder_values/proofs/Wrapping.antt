-- Constructed values: what is written of them is what opens them, their content, and what closes them.
use Rattle.std.proofs.Common.{◌≡◌, ℕ, ◌^◌, ◌<◌, Bool, true, false, List, [], ◌∷◌, ◌++◌, length, refl, sym, ap, ◌∙◌, append_assoc, append-nil, subst}
use Rattle.bcder_values.specs.bcder_tree.declared.mode.Mode.{Mode}
use Rattle.bcder_values.specs.bcder_tree.declared.mode.Mode.TheVariants.{Ber, Cer, Der}
use Rattle.bcder_values.specs.bcder_tree.Tags.{TagValue, IsTag}
use Rattle.bcder_values.specs.bcder_tree.Octets.{IsIdentifier}
use Rattle.bcder_values.specs.bcder_tree.Tree.{IsHeader, IsConstructed, definite, indefinite}
use Rattle.bcder_values.specs.bcder_primitive.Headers.{IsHeaderIn}
use Rattle.bcder_values.specs.Frames.{IsOpen, IsOpening, IsClosing}
use Rattle.bcder_values.specs.bcder_primitive.Writing.{HasLength}
use Rattle.bcder_values.specs.bcder_primitive.Encoded.{written_as, WritesBoth, WritesPlain, WritesWrapped}

pub open_of : {t : TagValue} (i : List ℕ) → IsTag t → IsIdentifier i true t → (text : List ℕ) → WritesBoth (λ x. x ≡ i) (λ x. x ≡ 128 ∷ []) text → IsOpen t text
open_of i tag is text w = record {
  identifier = i;
  tag = tag;
  identifier_is = is;
  whole = w.whole ∙ ap (λ x. x ++ w.second) w.is_first ∙ ap (λ x. i ++ x) w.is_second;
}

-- A header, as the definitions of trees have it.
pub header_is : {m : Mode} {form : Bool} {t : TagValue} {n : ℕ} {text : List ℕ} → IsHeaderIn form t n text → IsHeader m text form t n
header_is {m} h = record { identifier = h.identifier; size = h.size; whole = h.whole; tag = h.tag; identifier_is = h.identifier_is; size_is = h.size_is m }

-- The three parts, around a content.
framed : (m : Mode) {t : TagValue} (content opening closing : List ℕ) → IsOpening m t (length content) opening → IsClosing m closing → IsConstructed (written_as m) (opening ++ (content ++ closing)) t content
framed Ber content opening closing o e = definite tt opening (header_is o) (ap (λ l. opening ++ (content ++ l)) e ∙ ap (λ l. opening ++ l) (append-nil content))
framed Der content opening closing o e = definite tt opening (header_is o) (ap (λ l. opening ++ (content ++ l)) e ∙ ap (λ l. opening ++ l) (append-nil content))
framed Cer content opening closing o e =
    let whole : opening ++ (content ++ closing) ≡ o.identifier ++ (128 ∷ content ++ (0 ∷ 0 ∷ [])) =
    ap (λ l. l ++ (content ++ closing)) o.whole ∙ append_assoc o.identifier (128 ∷ []) (content ++ closing) ∙ ap (λ l. o.identifier ++ (128 ∷ content ++ l)) e in
    indefinite tt o.identifier o.tag o.identifier_is whole

pub wrapped : (m : Mode) {t : TagValue} {P : List ℕ → Type 0} {n : ℕ} → n < 2 ^ 32 → ((c : List ℕ) → P c → length c ≡ n) → (text : List ℕ)
    → WritesBoth (IsOpening m t n) (WritesBoth P (IsClosing m)) text → WritesWrapped m t P text
wrapped m {t} {P} {n} few long text w =
    let inner = w.is_second in
    let content = inner.first in
    let size = long content inner.is_first in
    let opening = subst (λ k. IsOpening m t k w.first) (sym size) w.is_first in
    let same : text ≡ w.first ++ (content ++ inner.second) = w.whole ∙ ap (λ l. w.first ++ l) inner.whole in
    record {
      content = content;
      is = inner.is_first;
      few = rw size few;
      spelled = subst (λ l. IsConstructed (written_as m) l t content) (sym same) (framed m content w.first inner.second opening inner.is_second);
    }

-- All contents have so many octets.
pub all_long : {P : List ℕ → Type 0} {n : ℕ} → ((a b : List ℕ) → P a → P b → a ≡ b) → HasLength P n → (c : List ℕ) → P c → length c ≡ n
all_long one w c is = ap length (one c w.text is w.is) ∙ w.long

-- There is what closes.
pub closing_of : (m : Mode) → (k : ℕ) × HasLength (IsClosing m) k
closing_of Ber = (0, record { text = []; is = refl; long = refl })
closing_of Cer = (2, record { text = 0 ∷ 0 ∷ []; is = refl; long = refl })
closing_of Der = (0, record { text = []; is = refl; long = refl })

pub has_as : {P Q : List ℕ → Type 0} {n : ℕ} → ((text : List ℕ) → P text → Q text) → HasLength P n → HasLength Q n
has_as f w = record { text = w.text; is = f w.text w.is; long = w.long }

-- A header, and the content octets of a primitive value.
pub plain : (m : Mode) {t : TagValue} {P : List ℕ → Type 0} {n : ℕ} → ((c : List ℕ) → P c → length c ≡ n) → (text : List ℕ) → WritesBoth (IsHeaderIn false t n) P text → WritesPlain m t P text
plain m {t} {P} {n} long text w =
    let header = subst (λ k. IsHeaderIn false t k w.first) (sym (long w.second w.is_second)) w.is_first in
    record { content = w.second; is = w.is_second; spelled = record { header = w.first; header_is = header_is header; whole = w.whole } }
