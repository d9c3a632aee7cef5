-- Contents that are read as bit strings.
use Rattle.std.proofs.Common.{◌≡◌, ℕ, ◌≤◌, false, List, [], ◌∷◌, length, take, Some, Result, Ok, Err, refl, sym, ap, ◌∙◌, subst}
use Rattle.std.specs.Prelude.{IfErr}
use Rattle.std.specs.Result.{IsErr, IsErrAnd}
use Rattle.bcder_octets.specs.bcder_tree.declared.mode.Mode.{Mode}
use Rattle.bcder_octets.specs.bcder_source.Errors.{OnlyContent}
use Rattle.bcder_octets.specs.bcder_source.declared.error.DecodeError.{DecodeError}
use Rattle.bcder_octets.specs.bcder_source.declared.error.DecodeError.TheVariants.{Content, Source, Memory}
use Rattle.bcder_octets.specs.bcder_primitive.Plain.{OctetsLeft, WholeOctets, LacksOctets}
use Rattle.bcder_octets.proofs.of_bcder_primitive.Primitives.{lacks_whole}
use Rattle.bcder_octets.specs.bcder_content.Grammar.{OneOctets}
use Rattle.bcder_values.specs.bcder_content.Ahead.{HasOctets}
use Rattle.bcder_values.proofs.of_bcder_content.Wholes.{has_whole}
use Rattle.bcder_octets.specs.Bits.{BitsValue}
use Rattle.bcder_octets.specs.BitContents.{IsBitString, IsAnyBits}

-- Where there is no value, none can be gone past.
pub lacks_any : {m : Mode} {old : OctetsLeft} → LacksOctets (IsBitString m) old → LacksOctets (IsAnyBits m) old
lacks_any l = record { none = λ text x is w. l.none text is.value is.is w }

-- A content is one bit string.
abbrev value_of : List ℕ → BitsValue
value_of [] = record { unused = 0; octets = [] }
value_of (unused ∷ octets) = record { unused = unused; octets = octets }

pub bit_string_one : {m : Mode} → OneOctets (IsBitString m)
bit_string_one = record { one = λ content v w p q. ap value_of (sym p.whole ∙ q.whole) }

-- A content that is no bit string's.
pub no_bits : (m : Mode) {p q : OctetsLeft} {n : ℕ} {s : List ℕ} → q ≡ p → p.limit ≡ Some n → s ≡ take n q.rest → (IsAnyBits m s tt → ⊥) → LacksOctets (IsBitString m) p
no_bits m {p} {q} {n} {s} same limit front none =
    let all : s ≡ take n p.rest = front ∙ ap (λ (v : OctetsLeft). take n v.rest) same in
    lacks_whole (IsBitString m) limit (λ v is. none (record { value = v; is = subst (λ (z : List ℕ). IsBitString m z v) (sym all) is }))

-- Where all octets at hand are of some bit string, one is there.
pub has_bits : {p : OctetsLeft} {n : ℕ} → p.failed ≡ false → p.limit ≡ Some n → n ≤ length p.rest → IsAnyBits p.mode (take n p.rest) tt → HasOctets (IsBitString p.mode) p
has_bits {p} sound limit there is = has_whole (IsBitString p.mode) refl sound limit there refl is.is

-- Where no octets are the whole, none are a bit string, and nothing else refuses.
no_whole : {E : Type 0} (m : Mode) (p : OctetsLeft) (e : DecodeError E) → OnlyContent e ((text : List ℕ) → WholeOctets p text → ⊥) → OnlyContent e (LacksOctets (IsBitString m) p)
no_whole m p (Content x pos) none = record { none = λ text v is w. none text w }
no_whole m p (Source x) none = tt
no_whole m p Memory none = none

pub no_whole_through : {A E : Type 0} (m : Mode) (p : OctetsLeft) (r : Result A (DecodeError E)) (e : DecodeError E) → IsErr r → IsErrAnd r (λ x. x ≡ e) → OnlyContent e ((text : List ℕ) → WholeOctets p text → ⊥) → IfErr r (λ (x : DecodeError E). OnlyContent x (LacksOctets (IsBitString m) p))
no_whole_through m p (Ok x) e i a h = tt
no_whole_through {E = E} m p (Err x) e i a h = subst (λ (y : DecodeError E). OnlyContent y (LacksOctets (IsBitString m) p)) (sym a) (no_whole m p e h)
