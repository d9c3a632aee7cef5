-- A value is one string at most.
use Rattle.std.proofs.Common.{◌≡◌, ℕ, List, ◌++◌, sym, ap, ◌∙◌}
use Rattle.bcder_octets.specs.bcder_tree.declared.mode.Mode.{Mode}
use Rattle.bcder_octets.specs.bcder_tree.declared.mode.Mode.TheVariants.{Ber, Cer, Der}
use Rattle.bcder_octets.specs.bcder_tree.Tags.{TagValue}
use Rattle.bcder_octets.specs.bcder_tree.Tree.{Tree, Trees, primitive, constructed, none, more}
use Rattle.bcder_octets.specs.bcder_tree.Strings.{octet_string_tag, IsBerString, AreSegments, AreCerSegments, IsString}

both_same : {a b c d : List ℕ} → a ≡ c → b ≡ d → a ++ b ≡ c ++ d
both_same {b = b} {c = c} p q = ap (λ (z : List ℕ). z ++ b) p ∙ ap (λ (z : List ℕ). c ++ z) q

mutual
  one_ber : (tag : TagValue) (t : Tree) (x y : List ℕ) → IsBerString tag t x → IsBerString tag t y → x ≡ y
  one_ber tag (primitive u v) x y p q = sym p.1 ∙ q.1
  one_ber tag (constructed u ts) x y p q = one_joined ts x y p.1 q.1

  one_joined : (ts : Trees) (x y : List ℕ) → AreSegments ts x → AreSegments ts y → x ≡ y
  one_joined none x y p q = p ∙ sym q
  one_joined (more t ts) x y p q = p.4 ∙ both_same (one_ber octet_string_tag t p.0 q.0 p.2 q.2) (one_joined ts p.1 q.1 p.3 q.3) ∙ sym q.4

one_content : (tag : TagValue) (x y : List ℕ) → primitive tag x ≡ primitive tag y → x ≡ y
one_content tag x y e = cc

one_cut : (ts : Trees) (x y : List ℕ) → AreCerSegments ts x → AreCerSegments ts y → x ≡ y
one_cut none x y p q = absurd p
one_cut (more t none) x y p q = one_content octet_string_tag x y (sym p.0 ∙ q.0)
one_cut (more t (more u ts)) x y p q = p.5 ∙ both_same (one_content octet_string_tag p.0 q.0 (sym p.2 ∙ q.2)) (one_cut (more u ts) p.1 q.1 p.4 q.4) ∙ sym q.5

one_cer : (tag : TagValue) (t : Tree) (x y : List ℕ) → IsString Cer tag t x → IsString Cer tag t y → x ≡ y
one_cer tag (primitive u v) x y p q = sym p.1 ∙ q.1
one_cer tag (constructed u ts) x y p q = one_cut ts x y p.1 q.1

pub one_string : (m : Mode) (tag : TagValue) (t : Tree) (x y : List ℕ) → IsString m tag t x → IsString m tag t y → x ≡ y
one_string Ber tag t x y p q = one_ber tag t x y p q
one_string Cer tag t x y p q = one_cer tag t x y p q
one_string Der tag t x y p q = one_content tag x y (sym p ∙ q)
