-- Contents of bit strings that are written.
use Rattle.std.proofs.Common.{◌≡◌, ℕ, ◌+◌, ◌-◌, ◌*◌, ◌/◌, ◌%◌, ◌^◌, ◌<◌, ◌≤◌, suc, List, [], ◌∷◌, ◌++◌, length, Option, refl, sym, ap, ◌∙◌, subst, arith}
use Rattle.std.proofs.Math.Nat.{div-add-mod, mul-mod_right, zero-mod}
use Rattle.bcder_octets.specs.bcder_tree.declared.mode.Mode.{Mode}
use Rattle.bcder_octets.specs.bcder_tree.declared.mode.Mode.TheVariants.{Ber, Cer, Der}
use Rattle.bcder_octets.specs.bcder_primitive.Contents.{ContentRefused}
use Rattle.bcder_octets.specs.bcder_primitive.Writing.{TookFront}
use Rattle.bcder_octets.specs.bcder_primitive.declared.written.error.EncodeError.{EncodeError}
use Rattle.bcder_octets.specs.bcder_primitive.declared.written.error.EncodeError.TheVariants as errors
use Rattle.bcder_octets.specs.bcder_primitive.Encoded.{WritesBoth}
use Rattle.bcder_octets.specs.Bits.{BitsValue, IsBits}
use Rattle.bcder_octets.specs.BitContents.{WritesBits, cleared, last_octet, padded_in}

pub cleared-push : (unused : ℕ) (v : List ℕ) (a : ℕ) → cleared unused (v ++ a ∷ []) ≡ v ++ (a - a % 2 ^ unused) ∷ []
cleared-push unused [] a = refl
cleared-push unused (b ∷ []) a = refl
cleared-push unused (b ∷ c ∷ v) a = ap (λ (l : List ℕ). b ∷ l) (cleared-push unused (c ∷ v) a)

pub length-cleared : (unused : ℕ) (v : List ℕ) → length (cleared unused v) ≡ length v
length-cleared unused [] = refl
length-cleared unused (a ∷ []) = refl
length-cleared unused (a ∷ b ∷ v) = ap suc (length-cleared unused (b ∷ v))

-- A number less its rest is a multiple.
clear_rest : (a p : ℕ) → (a - a % p) % p ≡ 0
clear_rest a p =
    let parts = div-add-mod a p in
    let whole : a - a % p ≡ p * (a / p) = omega (arith, parts) in
    ap (λ (n : ℕ). n % p) whole ∙ mul-mod_right p (a / p)

clear_last : (unused : ℕ) (v : List ℕ) → last_octet (cleared unused v) % 2 ^ unused ≡ 0
clear_last unused [] = zero-mod (2 ^ unused)
clear_last unused (a ∷ []) = clear_rest a (2 ^ unused)
clear_last unused (a ∷ b ∷ []) = clear_last unused (b ∷ [])
clear_last unused (a ∷ b ∷ c ∷ v) = clear_last unused (b ∷ c ∷ v)

none_cleared : (unused : ℕ) (v : List ℕ) → cleared unused v ≡ [] → v ≡ []
none_cleared unused [] e = refl
none_cleared unused (a ∷ []) e = absurd cc
none_cleared unused (a ∷ b ∷ v) e = absurd cc

pub length-padded : (m : Mode) (v : BitsValue) → length (padded_in m v).octets ≡ length v.octets
length-padded Ber v = refl
length-padded Cer v = length-cleared v.unused v.octets
length-padded Der v = length-cleared v.unused v.octets

-- How many content octets are written.
pub length-written : (m : Mode) (v : BitsValue) (content : List ℕ) → WritesBits m v content → length content ≡ length v.octets + 1
length-written m v content w = omega (arith, ap length w.whole, length-padded m v)

-- The content of a bit string, where a mode has one.
pub written : (m : Mode) (v : BitsValue) → IsBits v → (m ≡ Cer → length v.octets < 1000) → WritesBits m v (v.unused ∷ (padded_in m v).octets)
written Ber v is few = record { whole = refl; lawful = is; padded = tt; short = tt }
written Cer v is few =
    let below = few refl in
    record {
      whole = refl;
      lawful = record { few = is.few; none = λ e. is.none (none_cleared v.unused v.octets e) };
      padded = clear_last v.unused v.octets;
      short = omega (arith, length-cleared v.unused v.octets);
    }
written Der v is few = record {
  whole = refl;
  lawful = record { few = is.few; none = λ e. is.none (none_cleared v.unused v.octets e) };
  padded = clear_last v.unused v.octets;
  short = tt;
}

-- In CER a long one has none.
pub unwritten : (v : BitsValue) → 1000 ≤ length v.octets → (content : List ℕ) → WritesBits Cer v content → ⊥
unwritten v many content w = let short = w.short in omega (arith, length-written Cer v content w)

same_unused : (m : Mode) (v : BitsValue) → (padded_in m v).unused ≡ v.unused
same_unused Ber v = refl
same_unused Cer v = refl
same_unused Der v = refl

-- The count of unused bits, and the octets after it.
pub both_written : (m : Mode) (v : BitsValue) (content : List ℕ) → WritesBits m v content → (text : List ℕ)
    → WritesBoth (λ t. t ≡ v.unused ∷ []) (λ t. t ≡ (padded_in m v).octets) text → WritesBits m v text
both_written m v content is text w =
    let whole : text ≡ v.unused ∷ (padded_in m v).octets = w.whole ∙ ap (λ (l : List ℕ). l ++ w.second) w.is_first ∙ ap (λ (l : List ℕ). v.unused ∷ l) w.is_second in
    let same : content ≡ v.unused ∷ (padded_in m v).octets = is.whole ∙ ap (λ (n : ℕ). n ∷ (padded_in m v).octets) (same_unused m v) in
    subst (WritesBits m v) (same ∙ sym whole) is

-- A refusal of the writer.
pub content_stopped : (m : Mode) (P : List ℕ → Type 0) (same : Type 0) (old new : Option (List ℕ)) (e : EncodeError) → e ≡ errors.Write → TookFront P old new → ContentRefused m P same old new e
content_stopped m P same old new e is h = subst (ContentRefused m P same old new) (sym is) h

-- All but the last octet, and the last one cleared.
pub both_cleared : (unused : ℕ) (v : List ℕ) (a : ℕ) {octets : List ℕ} → octets ≡ v ++ a ∷ [] → (text : List ℕ)
    → WritesBoth (λ t. t ≡ v) (λ t. t ≡ (a - a % 2 ^ unused) ∷ []) text → text ≡ cleared unused octets
both_cleared unused v a e text w =
    w.whole ∙ ap (λ (l : List ℕ). l ++ w.second) w.is_first ∙ ap (λ (l : List ℕ). v ++ l) w.is_second ∙ sym (cleared-push unused v a) ∙ sym (ap (cleared unused) e)
