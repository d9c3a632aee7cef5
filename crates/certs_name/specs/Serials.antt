-- Serial numbers, by their halves and their content octets (RFC 5280 4.1.2.2).
use Rattle.std.proofs.Common.{◌≡◌, ℕ, ◌+◌, ◌*◌, ◌/◌, ◌%◌, ◌^◌, ◌<◌, List, ap, ◌∙◌, arith}
use Rattle.certs_name.specs.bcder_number.Integers.{IsNatural}
use Rattle.certs_basics.specs.Basics.{IsSmallEnough}
use Rattle.certs_name.specs.declared.serial.Serial.TheInside.{Inside}

-- Content octets of a serial number.
pub record IsSerialContent (content : List ℕ) (n : ℕ) : Type 0 where
  pub is : IsNatural content n
  pub small : IsSmallEnough n

upper : (high low : ℕ) → low < 2 ^ 128 → (high * 2 ^ 128 + low) / 2 ^ 128 ≡ high
upper high low h = omega arith

lower : (high low : ℕ) → low < 2 ^ 128 → (high * 2 ^ 128 + low) % 2 ^ 128 ≡ low
lower high low h = omega arith

abbrev halves : ℕ → ℕ → Inside
halves high low = record { high = high; low = low }

-- The halves of a number are those that it was made of.
pub halves_again : (s : Inside) → (s.high < 2 ^ 32) × (s.low < 2 ^ 128)
    → halves ((s.high * 2 ^ 128 + s.low) / 2 ^ 128) ((s.high * 2 ^ 128 + s.low) % 2 ^ 128) ≡ s
halves_again s bounds =
    ap (λ (n : ℕ). halves n ((s.high * 2 ^ 128 + s.low) % 2 ^ 128))
    (upper s.high s.low bounds.1) ∙ ap (λ (n : ℕ). halves s.high n)
    (lower s.high s.low bounds.1)
