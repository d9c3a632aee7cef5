-- Identifier octets and length octets (X.690 8.1.2, 8.1.3, 9.1, 10.1).
use Rattle.std.specs.Prelude.{◌≡◌, ℕ, ◌+◌, ◌*◌, ◌<◌, ◌≤◌, Bool, true, false, List, [], ◌∷◌}
use Rattle.bcder_tree.specs.declared.mode.Mode.{Mode}
use Rattle.bcder_tree.specs.declared.mode.Mode.TheVariants.{Ber, Cer, Der}
use Rattle.bcder_tree.specs.Tags.{TagValue}

-- Bit 6 of the first identifier octet marks a constructed value (8.1.2.5).
abbrev pub form_bit : Bool → ℕ
form_bit true = 32
form_bit false = 0

-- A number from 31 up in one to three octets of seven bits, the most significant first and not zero; all but
-- the last have bit 8 set (8.1.2.4). So numbers go up to 2,097,151.
abbrev pub IsHigh : List ℕ → ℕ → Type 0
IsHigh [] n = ⊥
IsHigh (b ∷ []) n = (31 ≤ b) × (b < 128) × (n ≡ b)
IsHigh (b ∷ c ∷ []) n = (128 < b) × (b < 256) × (c < 128) × (n + 16384 ≡ b * 128 + c)
IsHigh (b ∷ c ∷ d ∷ []) n =
    (128 < b) × (b < 256) × (128 ≤ c) × (c < 256) × (d < 128)
    × (n + 2113536 ≡ b * 16384 + c * 128 + d)
IsHigh (b ∷ c ∷ d ∷ e ∷ _) n = ⊥

-- The identifier octets of a tag, `constructed` telling the form: the class in bits 8 and 7 of the first octet; a
-- number to 30 in its bits 5 to 1, and after five set bits a higher one (8.1.2.2 to 8.1.2.5).
abbrev pub IsIdentifier : List ℕ → Bool → TagValue → Type 0
IsIdentifier [] constructed t = ⊥
IsIdentifier (a ∷ []) constructed t =
    (a ≡ t.class * 64 + form_bit constructed + t.number) × (t.number < 31)
IsIdentifier (a ∷ b ∷ i) constructed t =
    (a ≡ t.class * 64 + form_bit constructed + 31) × IsHigh (b ∷ i) t.number

-- In CER and DER a length is spelled in the fewest octets (9.1, 10.1): with so many, only from `low` on.
abbrev pub Shortest : Mode → ℕ → ℕ → Type 0
Shortest Ber low n = Unit {0}
Shortest Cer low n = low ≤ n
Shortest Der low n = low ≤ n

-- The octets of a definite length: one to 127, else `81` to `84` and one to four octets (8.1.3.3 to 8.1.3.5).
abbrev pub IsLength : Mode → List ℕ → ℕ → Type 0
IsLength m [] n = ⊥
IsLength m (a ∷ []) n = (a < 128) × (n ≡ a)
IsLength m (a ∷ b ∷ []) n = (a ≡ 129) × (b < 256) × (n ≡ b) × Shortest m 128 n
IsLength m (a ∷ b ∷ c ∷ []) n =
    (a ≡ 130) × (b < 256) × (c < 256) × (n ≡ b * 256 + c) × Shortest m 256 n
IsLength m (a ∷ b ∷ c ∷ d ∷ []) n =
    (a ≡ 131) × (b < 256) × (c < 256) × (d < 256) × (n ≡ b * 65536 + c * 256 + d)
    × Shortest m 65536 n
IsLength m (a ∷ b ∷ c ∷ d ∷ e ∷ []) n =
    (a ≡ 132) × (b < 256) × (c < 256) × (d < 256) × (e < 256)
    × (n ≡ b * 16777216 + c * 65536 + d * 256 + e) × Shortest m 16777216 n
IsLength m (a ∷ b ∷ c ∷ d ∷ e ∷ f ∷ _) n = ⊥
