-- The contents of BOOLEANs, NULL and octet strings, of which each has one (X.690 8.2, 8.7, 8.8).
use Rattle.std.proofs.Common.{◌≡◌, ◌≤◌, length, Bool, true, false, List, ℕ, [], ◌∷◌, sym, ap, ◌∙◌}
use Rattle.bcder_primitive.specs.bcder_tree.declared.mode.Mode.{Mode}
use Rattle.bcder_primitive.specs.bcder_tree.declared.mode.Mode.TheVariants.{Cer, Der}
use Rattle.bcder_primitive.specs.Values.{IsBoolean, IsNull, AnyOctets}

pub one_boolean : (x : Bool) (a b : List ℕ) → IsBoolean Der a x → IsBoolean Der b x → a ≡ b
one_boolean true a b v w = v.whole ∙ ap (λ o. o ∷ []) (v.truth ∙ sym w.truth) ∙ sym w.whole
one_boolean false a b v w = v.whole ∙ ap (λ o. o ∷ []) (v.truth ∙ sym w.truth) ∙ sym w.whole

pub one_null : (x : Unit {0}) (a b : List ℕ) → IsNull a x → IsNull b x → a ≡ b
one_null x a b v w = v.empty ∙ sym w.empty

pub one_string : (x a b : List ℕ) → AnyOctets a x → AnyOctets b x → a ≡ b
one_string x a b v w = v.same ∙ sym w.same

-- The content of an OCTET STRING in one piece, which CER has of at most 1000 octets (8.7, 9.2).
pub record IsOnePiece (m : Mode) (content octets : List ℕ) : Type 0 where
  pub same : content ≡ octets
  pub short : m ≡ Cer → length octets ≤ 1000

pub one_piece : (m : Mode) (x a b : List ℕ) → IsOnePiece m a x → IsOnePiece m b x → a ≡ b
one_piece m x a b v w = v.same ∙ sym w.same
