-- What is written of a prefix states its bits.
use Rattle.std.proofs.Common.{◌≡◌, ℕ, zero, suc, ◌+◌, ◌-◌, ◌*◌, ◌/◌, ◌%◌, ◌^◌, ◌<◌, ◌≤◌, List, [], ◌∷◌, length, take, refl, sym, ap, ◌∙◌, subst, arith}
use Rattle.std.specs.Int.{byte_at, bytes_high_first}
use Rattle.std.proofs.Math.Arith.{mod-mul}
use Rattle.std.proofs.Math.Nat.{pow-succ', add-mul-div_right, mod-lt, mul_assoc, mul-mod_left, mod-mod_of_dvd, dvd-mul_left}
use Rattle.std.proofs.lemmas.Nat.{pow-add, div-mul-add, shl-shr}
use Rattle.resources_ip_prefix.specs.bcder_tree.declared.mode.Mode.{Mode}
use Rattle.resources_ip_prefix.specs.bcder_tree.declared.mode.Mode.TheVariants.{Ber, Cer, Der}
use Rattle.resources_ip_prefix.specs.bcder_tree.Tree.{primitive}
use Rattle.resources_ip_prefix.specs.bcder_octets.Bits.{bits}
use Rattle.resources_ip_prefix.specs.bcder_octets.BitContents.{IsBitString, WritesBits, bit_string_tag, cleared, last_octet, padded_in}
use Rattle.resources_ip_prefix.proofs.of_bcder_octets.BitLists.{length-bits}
use Rattle.resources_ip_prefix.specs.declared.addr.AddressFamily.{AddressFamily}
use Rattle.resources_ip_prefix.specs.declared.prefix.Prefix.{Prefix}
use Rattle.resources_ip_prefix.specs.Address.{bits_of, bits_within}
use Rattle.resources_ip_prefix.specs.Encodings.{FirstBits, IsAddress, filled, prefix_bits, told_by}
use Rattle.resources_ip_prefix.specs.Family.{max_len_of}
use Rattle.resources_ip_prefix.specs.Prefix.{prefix_addr, prefix_len, len_within, host_clear}
use Rattle.resources_ip_prefix.specs.Prefixes.{first_of, span_of}
use Rattle.resources_ip_prefix.specs.Written.{octet_count, spelled_bits}
use Rattle.resources_ip_prefix.proofs.Spans.{clear_longer}
use Rattle.resources_ip_prefix.proofs.Filled.{filled_none}
use Rattle.resources_ip_prefix.proofs.Spelled.{few_octets, length_taken, made}

some_256 : (k : ℕ) → 0 < 256 ^ k
some_256 zero = omega arith
some_256 (suc k) = omega (arith, pow-succ' 256 k, some_256 k)

bits_256 : (j : ℕ) → 256 ^ j ≡ 2 ^ (8 * j)
bits_256 zero = refl
bits_256 (suc j) =
    let eight : 8 * suc j ≡ 8 + 8 * j = omega arith in
    let more : 2 ^ (8 * suc j) ≡ 2 ^ 8 * 2 ^ (8 * j) = ap (λ (n : ℕ). 2 ^ n) eight ∙ pow-add 2 8 (8 * j) in
    omega (arith, pow-succ' 256 j, bits_256 j, more)

-- The lowest digits to the base 256, and one more.
low_digits : (c n : ℕ) → byte_at c n * 256 ^ c + n % 256 ^ c ≡ n % 256 ^ suc c
low_digits zero n = omega arith
low_digits (suc c) n = sym (ap (λ (k : ℕ). n % k) (pow-succ' 256 (suc c)) ∙ mod-mul n (omega arith) (some_256 (suc c)))

times : (a b c : ℕ) → (a + b) * c ≡ a * c + b * c
times a b c = grind arith

-- The first octets of a number, and zeros after them.
front : (c k n : ℕ) → k ≤ c → filled c (take k (bytes_high_first c n)) ≡ n % 256 ^ c / 256 ^ (c - k) * 256 ^ (c - k)
front c zero n h =
    let alone : n % 256 ^ c ≡ 0 * 256 ^ c + n % 256 ^ c = omega arith in
    let none : n % 256 ^ c / 256 ^ c ≡ 0 = ap (λ (m : ℕ). m / 256 ^ c) alone ∙ div-mul-add 0 (256 ^ c) (n % 256 ^ c) (mod-lt n (some_256 c)) in
    let all : c - zero ≡ c = omega arith in
    let nothing : 0 * 256 ^ c ≡ 0 = omega arith in
    filled_none c ∙ sym (ap (λ (k : ℕ). n % 256 ^ c / 256 ^ k * 256 ^ k) all ∙ ap (λ (q : ℕ). q * 256 ^ c) none ∙ nothing)
front zero (suc k) n h = absurd (omega arith)
front (suc c) (suc k) n h =
    let x : ℕ = 256 ^ (c - k) in
    let b : ℕ = byte_at c n in
    let r : ℕ = n % 256 ^ c in
    let split : c ≡ k + (c - k) = omega arith in
    let whole : 256 ^ c ≡ 256 ^ k * x = ap (λ (j : ℕ). 256 ^ j) split ∙ pow-add 256 k (c - k) in
    let high : b * 256 ^ c ≡ b * 256 ^ k * x = ap (λ (j : ℕ). b * j) whole ∙ sym (mul_assoc b (256 ^ k) x) in
    let sum : n % 256 ^ suc c ≡ r + b * 256 ^ k * x = omega (arith, low_digits c n, high) in
    let parts : n % 256 ^ suc c / x * x ≡ r / x * x + b * 256 ^ k * x = ap (λ (j : ℕ). j / x * x) sum ∙ ap (λ (j : ℕ). j * x) (add-mul-div_right r (b * 256 ^ k) (some_256 (c - k))) ∙ times (r / x) (b * 256 ^ k) x in
    let place : c - k ≡ suc c - suc k = omega arith in
    let here : b * 256 ^ c + filled c (take k (bytes_high_first c n)) ≡ n % 256 ^ suc c / x * x = omega (arith, front c k n (omega arith), parts, high) in
    here ∙ ap (λ (j : ℕ). n % 256 ^ suc c / 256 ^ j * 256 ^ j) place

-- The octets of a prefix tell its address.
pub whole_front : (p : Prefix) → filled 16 (spelled_bits p).octets ≡ bits_of (prefix_addr p)
whole_front p =
    let n : ℕ = bits_of (prefix_addr p) in
    let len : ℕ = prefix_len p in
    let k : ℕ = octet_count len in
    let few = few_octets len (len_within p) in
    let low : n % 256 ^ 16 ≡ n = omega (arith, bits_within (prefix_addr p)) in
    let left : 8 * (16 - k) ≡ 128 - 8 * k = omega (arith, few.0) in
    let span : 256 ^ (16 - k) ≡ span_of (8 * k) = bits_256 (16 - k) ∙ ap (λ (j : ℕ). 2 ^ j) left in
    let clear : first_of (8 * k) n ≡ n = clear_longer len (8 * k) n few.1 (omega (arith, few.0)) (host_clear p) in
    front 16 k n few.0 ∙ ap (λ (m : ℕ). m / 256 ^ (16 - k) * 256 ^ (16 - k)) low ∙ ap (λ (s : ℕ). n / s * s) span ∙ clear

counted : (p : Prefix) → length (bits (spelled_bits p)) ≡ prefix_len p
counted p =
    let few = few_octets (prefix_len p) (len_within p) in
    let long : length (spelled_bits p).octets ≡ octet_count (prefix_len p) = length_taken (octet_count (prefix_len p)) (bits_of (prefix_addr p)) few.0 in
    omega (arith, length-bits (spelled_bits p), long, few.1, few.2)

same_bits : {a b c d : ℕ} → a ≡ c → b ≡ d → ◌≡◌ {A = FirstBits} (record { addr = a; len = b }) (record { addr = c; len = d })
same_bits e f = cc

pub told : (p : Prefix) → told_by (spelled_bits p) ≡ prefix_bits p
told p =
    let n : ℕ = bits_of (prefix_addr p) in
    same_bits (ap (λ (j : ℕ). first_of j (filled 16 (spelled_bits p).octets)) (counted p) ∙ ap (first_of (prefix_len p)) (whole_front p) ∙ host_clear p) (counted p)

-- Padding is zero as it is.

clear_last : (u : ℕ) (v : List ℕ) → last_octet v % 2 ^ u ≡ 0 → cleared u v ≡ v
clear_last u [] h = refl
clear_last u (a ∷ []) h = let same : a - a % 2 ^ u ≡ a = omega (arith, h) in ap (λ (b : ℕ). b ∷ []) same
clear_last u (a ∷ b ∷ v) h = ap (λ (w : List ℕ). a ∷ w) (clear_last u (b ∷ v) h)

last_taken : (c k n : ℕ) → suc k ≤ c → last_octet (take (suc k) (bytes_high_first c n)) ≡ byte_at (c - suc k) n
last_taken zero k n h = absurd (omega arith)
last_taken (suc c) zero n h =
    let place : c ≡ suc c - suc zero = omega arith in
    ap (λ (j : ℕ). byte_at j n) place
last_taken (suc zero) (suc k) n h = absurd (omega arith)
last_taken (suc (suc c)) (suc k) n h =
    let place : suc c - suc k ≡ suc (suc c) - suc (suc k) = omega arith in
    last_taken (suc c) k n (omega arith) ∙ ap (λ (j : ℕ). byte_at j n) place

byte_is : (j n : ℕ) → byte_at j n ≡ n / 256 ^ j % 256
byte_is zero n = omega arith
byte_is (suc j) n = refl

last_clear : (j u q n : ℕ) → u ≤ 8 → n ≡ q * 2 ^ (8 * j + u) → byte_at j n % 2 ^ u ≡ 0
last_clear j u q n h e =
    let turned : 8 * j + u ≡ u + 8 * j = omega arith in
    let power : 2 ^ (8 * j + u) ≡ 2 ^ u * 2 ^ (8 * j) = ap (λ (i : ℕ). 2 ^ i) turned ∙ pow-add 2 u (8 * j) in
    let parts : n ≡ q * 2 ^ u * 2 ^ (8 * j) = e ∙ ap (λ (i : ℕ). q * i) power ∙ sym (mul_assoc q (2 ^ u) (2 ^ (8 * j))) in
    let high : n / 256 ^ j ≡ q * 2 ^ u = ap (λ (i : ℕ). n / i) (bits_256 j) ∙ ap (λ (i : ℕ). i / 2 ^ (8 * j)) parts ∙ shl-shr (q * 2 ^ u) (8 * j) in
    let eight : 8 - u + u ≡ 8 = omega (arith, h) in
    let octet : 2 ^ (8 - u) * 2 ^ u ≡ 256 = sym (pow-add 2 (8 - u) u) ∙ ap (λ (i : ℕ). 2 ^ i) eight in
    let low : n / 256 ^ j % (2 ^ (8 - u) * 2 ^ u) % 2 ^ u ≡ n / 256 ^ j % 2 ^ u = mod-mod_of_dvd (2 ^ u) (n / 256 ^ j) (dvd-mul_left (2 ^ u) (2 ^ (8 - u))) in
    ap (λ (i : ℕ). i % 2 ^ u) (byte_is j n) ∙ ap (λ (i : ℕ). n / 256 ^ j % i % 2 ^ u) (sym octet) ∙ low ∙ ap (λ (i : ℕ). i % 2 ^ u) high ∙ mul-mod_left q (2 ^ u)

unused_clear : (p : Prefix) → last_octet (spelled_bits p).octets % 2 ^ (spelled_bits p).unused ≡ 0
unused_clear p = at (octet_count (prefix_len p)) refl
  where
    few : (octet_count (prefix_len p) ≤ 16) × (prefix_len p ≤ 8 * octet_count (prefix_len p)) × (8 * octet_count (prefix_len p) - prefix_len p < 8)
    few = few_octets (prefix_len p) (len_within p)

    n : ℕ
    n = bits_of (prefix_addr p)

    at : (k : ℕ) → k ≡ octet_count (prefix_len p) → last_octet (take k (bytes_high_first 16 n)) % 2 ^ (8 * k - prefix_len p) ≡ 0
    at zero e = omega arith
    at (suc k) e =
        let u : ℕ = 8 * suc k - prefix_len p in
        let place : 128 - prefix_len p ≡ 8 * (16 - suc k) + u = omega (arith, e, few.0, few.1) in
        let is : n ≡ n / span_of (prefix_len p) * 2 ^ (8 * (16 - suc k) + u) = sym (host_clear p) ∙ ap (λ (j : ℕ). n / span_of (prefix_len p) * 2 ^ j) place in
        ap (λ (a : ℕ). a % 2 ^ u) (last_taken 16 k n (omega (arith, e, few.0))) ∙ last_clear (16 - suc k) u (n / span_of (prefix_len p)) n (omega (arith, e, few.2)) is

padded_same : (m : Mode) (p : Prefix) → padded_in m (spelled_bits p) ≡ spelled_bits p
padded_same Ber p = refl
padded_same Cer p = ap (made (spelled_bits p).unused) (clear_last (spelled_bits p).unused (spelled_bits p).octets (unused_clear p))
padded_same Der p = ap (made (spelled_bits p).unused) (clear_last (spelled_bits p).unused (spelled_bits p).octets (unused_clear p))

-- It is read as the prefix.
pub prefix_read : (m : Mode) (family : AddressFamily) (p : Prefix) (content : List ℕ) → prefix_len p ≤ max_len_of family → WritesBits m (spelled_bits p) content → IsAddress m family (primitive bit_string_tag content) (prefix_bits p)
prefix_read m family p content fits w =
    let is : IsBitString m content (spelled_bits p) = subst (IsBitString m content) (padded_same m p) w in
    record {
      x = spelled_bits p;
      is = record { is = record { content = content; whole = refl; is = is }; meets = omega (arith, counted p, fits) };
      means = sym (told p);
    }
