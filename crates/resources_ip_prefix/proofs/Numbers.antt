-- Numbers of addresses and the octets and segments that write them.
use Rattle.std.proofs.Common.{◌≡◌, ℕ, ◌+◌, ◌*◌, ◌/◌, ◌%◌, ◌^◌, ◌<◌, List, [], ◌∷◌, arith, ap, ◌∙◌, refl}
use Rattle.std.specs.Int.{w32, w128, from_be_bytes, to_be_bytes}
use Rattle.std.specs.Net.Addr.{ipv4_bits, ipv6_bits, IsIpv4OfBits, IsIpv6OfBits, segments_of, octets_of}
use Rattle.std.specs.declared.net.ipv4_addr.Ipv4Addr.{Ipv4Addr}
use Rattle.std.specs.declared.net.ipv6_addr.Ipv6Addr.{Ipv6Addr}
use Rattle.std.proofs.lemmas.Nat.{from_be_bytes-to_be_bytes_4}
use Rattle.std.proofs.Math.Nat.{div-div-eq-div-mul}

pub ipv4_is : (a : Ipv4Addr) (n : ℕ) → n < 2 ^ 32 → IsIpv4OfBits a n → ipv4_bits a ≡ n
unfolding ipv4_bits IsIpv4OfBits
ipv4_is a n fits e = ap (from_be_bytes w32) e ∙ from_be_bytes-to_be_bytes_4 n fits

step : (n p : ℕ) → n / p ≡ n / p % 256 + n / (p * 256) * 256
step n p = omega (arith, div-div-eq-div-mul n p 256)

joined : (a b c d e f g h i j k l m o p q n : ℕ) (n1 n2 n3 n4 n5 n6 n7 n8 n9 n10 n11 n12 n13 n14 n15 : ℕ) → n ≡ a + n1 * 256 → n1 ≡ b + n2 * 256 → n2 ≡ c + n3 * 256 → n3 ≡ d + n4 * 256 → n4 ≡ e + n5 * 256 → n5 ≡ f + n6 * 256 → n6 ≡ g + n7 * 256 → n7 ≡ h + n8 * 256 → n8 ≡ i + n9 * 256 → n9 ≡ j + n10 * 256 → n10 ≡ k + n11 * 256 → n11 ≡ l + n12 * 256 → n12 ≡ m + n13 * 256 → n13 ≡ o + n14 * 256 → n14 ≡ p + n15 * 256 → n15 ≡ q
    → q * 256 ^ 15 + p * 256 ^ 14 + o * 256 ^ 13 + m * 256 ^ 12 + l * 256 ^ 11 + k * 256 ^ 10 + j * 256 ^ 9 + i * 256 ^ 8 + h * 256 ^ 7 + g * 256 ^ 6 + f * 256 ^ 5 + e * 256 ^ 4 + d * 256 ^ 3 + c * 256 ^ 2 + b * 256 + a ≡ n
joined a b c d e f g h i j k l m o p q n n1 n2 n3 n4 n5 n6 n7 n8 n9 n10 n11 n12 n13 n14 n15 e0 e1 e2 e3 e4 e5 e6 e7 e8 e9 e10 e11 e12 e13 e14 e15 = omega arith

pub bits_128 : (n : ℕ) → n < 2 ^ 128 → from_be_bytes w128 (to_be_bytes w128 n) ≡ n
bits_128 n fits =
    let low : n ≡ n % 256 + n / 256 * 256 = omega arith in
    let high : n / 256 ^ 15 ≡ n / 256 ^ 15 % 256 = omega arith in
    joined _ _ _ _ _ _ _ _ _ _ _ _ _ _ _ _ n _ _ _ _ _ _ _ _ _ _ _ _ _ _ _ low (step n 256) (step n (256 ^ 2)) (step n (256 ^ 3)) (step n (256 ^ 4)) (step n (256 ^ 5)) (step n (256 ^ 6)) (step n (256 ^ 7)) (step n (256 ^ 8)) (step n (256 ^ 9)) (step n (256 ^ 10)) (step n (256 ^ 11)) (step n (256 ^ 12)) (step n (256 ^ 13)) (step n (256 ^ 14)) high

IsPairs : List ℕ → Type 0
IsPairs [] = Unit {0}
IsPairs (a ∷ []) = ⊥
IsPairs (a ∷ b ∷ xs) = (b < 256) × IsPairs xs

high_of : (a b : ℕ) → b < 256 → (a * 256 + b) / 256 ≡ a
high_of a b h = omega arith

low_of : (a b : ℕ) → b < 256 → (a * 256 + b) % 256 ≡ b
low_of a b h = omega arith

octets_back : (xs : List ℕ) → IsPairs xs → octets_of (segments_of xs) ≡ xs
unfolding IsPairs
octets_back [] h = refl
octets_back (a ∷ []) h = absurd h
octets_back (a ∷ b ∷ xs) h =
    let one = high_of a b h.0 in
    let two = low_of a b h.0 in
    let rest = octets_back xs h.1 in
    λ i. one i ∷ two i ∷ rest i

pub below : (n : ℕ) → n % 256 < 256
below n = omega arith

pairs : (n : ℕ) → IsPairs (to_be_bytes w128 n)
unfolding IsPairs
pairs n = (below (n / 256 ^ 14), (below (n / 256 ^ 12), (below (n / 256 ^ 10), (below (n / 256 ^ 8), (below (n / 256 ^ 6), (below (n / 256 ^ 4), (below (n / 256 ^ 2), (below n, tt))))))))

pub ipv6_is : (a : Ipv6Addr) (n : ℕ) → n < 2 ^ 128 → IsIpv6OfBits a n → ipv6_bits a ≡ n
unfolding ipv6_bits IsIpv6OfBits
ipv6_is a n fits e = ap (λ o. from_be_bytes w128 (octets_of o)) e ∙ ap (from_be_bytes w128) (octets_back (to_be_bytes w128 n) (pairs n)) ∙ bits_128 n fits
