-- How numbers are hashed.
use Rattle.std.proofs.Common.{◌≡◌, ap}
use Rattle.std.specs.Prelude.{ℕ, ℤ, pos, IsTrue, nat_eq}
use Rattle.std.specs.Cmp.{signed_Decides, unsigned_Decides}
use Rattle.std.specs.Ordering.{int_eq}
use Rattle.std.specs.Hash as fed
use Rattle.bcder_number.specs.Contents.{content}

-- By the content octets, as a slice is.
abbrev pub hash_of : ℤ → fed.HashWrites
hash_of x = fed.slice fed.u8 (content x)

pub same_hash : (x y : ℤ) → IsTrue (int_eq x y) → hash_of x ≡ hash_of y
same_hash x y e = ap hash_of ((signed_Decides x y).0 e)

pub same_unsigned : (x y : ℕ) → IsTrue (nat_eq x y) → hash_of (pos x) ≡ hash_of (pos y)
same_unsigned x y e = ap (λ (n : ℕ). hash_of (pos n)) ((unsigned_Decides x y).0 e)
