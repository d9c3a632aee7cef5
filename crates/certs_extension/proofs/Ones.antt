-- The extensions that name URIs are read in one way.
use Rattle.std.proofs.Common.{◌≡◌, inl, inr, ℕ, List, [], ◌∷◌, ◌++◌, Option, sym, ◌∙◌, subst}
use Rattle.certs_extension.specs.bcder_tree.declared.mode.Mode.{Mode}
use Rattle.certs_extension.specs.bcder_content.Grammar.{One, OneAll}
use Rattle.certs_extension.proofs.of_bcder_content.Simple.{unit_one}
use Rattle.certs_extension.proofs.of_bcder_content.Unique.{as_one, end_one, inside_one, octets_one, then_one}
use Rattle.certs_basics.proofs.Values.{gathers_one}
use Rattle.certs_basics.specs.Lists.{Each}
use Rattle.certs_basics.specs.Uris.{IsRsync}
use Rattle.certs_extension.specs.Access.{AccessValue, AreAccess, Entry, IsFirst, IsSubjectAccess}
use Rattle.certs_extension.specs.Grammars.{HaveOneRsync, IsAuthority, IsDistribution}
use Rattle.certs_extension.proofs.Descriptions.{entry_one}
use Rattle.certs_extension.proofs.OneRsync.{name_one}

rsync_one : (m : Mode) → OneAll (HaveOneRsync m)
rsync_one m = gathers_one (name_one m) (λ names x y p q. at p.before q.before p.behind q.behind x y p.readable q.readable p.none_before q.none_before (sym p.whole ∙ q.whole))
  where
    at : (a b c d : List (List ℕ)) (x y : List ℕ) → IsRsync x → IsRsync y → Each (λ name. IsRsync name → ⊥) a → Each (λ name. IsRsync name → ⊥) b → a ++ x ∷ c ≡ b ++ y ∷ d → x ≡ y
    at [] [] c d x y f g n m e = cc
    at [] (z ∷ b) c d x y f g n m e = let k : x ≡ z = cc in absurd (m.0 (subst IsRsync k f))
    at (z ∷ a) [] c d x y f g n m e = let k : y ≡ z = cc in absurd (n.0 (subst IsRsync k g))
    at (z ∷ a) (w ∷ b) c d x y f g n m e = let k : a ++ x ∷ c ≡ b ++ y ∷ d = cc in at a b c d x y f g n.1 m.1 k

pub distribution_one : (m : Mode) → One (IsDistribution m)
distribution_one m = as_one (inside_one (then_one (as_one (inside_one (then_one (as_one (inside_one (then_one (inside_one (rsync_one m)) end_one))) end_one))) end_one))

pub authority_one : (m : Mode) → One (IsAuthority m)
authority_one m = as_one (inside_one (then_one (as_one (inside_one (then_one (octets_one unit_one) (rsync_one m)))) end_one))

first_one : (P : List ℕ → Type 0) (method : List ℕ) (es : List Entry) (x y : Option (List ℕ)) → IsFirst P method es x → IsFirst P method es y → x ≡ y
first_one P method [] x y p q = p ∙ sym q
first_one P method (e ∷ es) x y (inl p) (inl q) = p.2 ∙ sym p.1.name_is ∙ q.1.name_is ∙ sym q.2
first_one P method (e ∷ es) x y (inl p) (inr q) = absurd (q.0 p.0 p.1)
first_one P method (e ∷ es) x y (inr p) (inl q) = absurd (p.0 q.0 q.1)
first_one P method (e ∷ es) x y (inr p) (inr q) = first_one P method es x y p.1 q.1

pub subject_access_one : (m : Mode) → One (IsSubjectAccess m)
subject_access_one m = inside_one (gathers_one (entry_one m) same)
  where
    same : (es : List Entry) (x y : AccessValue) → AreAccess es x → AreAccess es y → x ≡ y
    same es x y p q =
        let repository = first_one _ _ es x.repository y.repository p.repository q.repository in
        let manifest = first_one _ _ es x.manifest y.manifest p.manifest q.manifest in
        let object = first_one _ _ es x.object y.object p.object q.object in
        let notify = first_one _ _ es x.notify y.notify p.notify q.notify in
        λ i. record { repository = repository i; manifest = manifest i; object = object i; notify = notify i }
