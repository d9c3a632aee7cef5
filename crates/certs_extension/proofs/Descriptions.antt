-- Access descriptions one by one, and what all of them say.
use Rattle.std.proofs.lemmas.Bool.{false≢true}
use Rattle.std.proofs.Common.{◌≡◌, ◌≢◌, inl, inr, ℕ, Bool, true, false, List, [], ◌∷◌, ◌++◌, Option, Some, None, refl, sym, ap, ◌∙◌, subst}
use Rattle.certs_extension.specs.bcder_tree.declared.mode.Mode.{Mode}
use Rattle.certs_extension.specs.bcder_tree.Tags.{sequence_tag}
use Rattle.certs_extension.specs.bcder_tree.Tree.{Trees}
use Rattle.certs_extension.specs.bcder_content.Grammar.{One, Tagged}
use Rattle.certs_extension.specs.bcder_content.Words.{Gathers}
use Rattle.certs_extension.proofs.of_bcder_content.Unique.{as_one, as_tagged, end_one, inside_one, inside_tagged, many_one, octets_one, then_one}
use Rattle.certs_basics.proofs.Values.{then_by_one}
use Rattle.certs_extension.proofs.of_bcder.Read.{oid_one}
use Rattle.certs_extension.specs.Access.{AccessValue, AreAccess, AreLocation, Entry, IsEntry, IsFirst, of_known, of_other}
use Rattle.certs_extension.specs.Found.{Adds, AddsEntry, SaysSoFar}
use Rattle.certs_extension.proofs.OneRsync.{name_one}

-- An entry is read in one way, and has its tag.
pub entry_one : (m : Mode) → One (IsEntry m)
entry_one m = as_one (inside_one (then_by_one (octets_one oid_one) (λ method. record { one = λ ts x y p q. at method ts x y p q })))
  where
    at : (method : List ℕ) (ts : Trees) (x y : Option (List ℕ)) → AreLocation m method ts x → AreLocation m method ts y → x ≡ y
    at method ts (Some x) (Some y) (of_known k p) (of_known l q) = ap (λ (z : List ℕ × Unit {0}). Some z.0) ((then_one (name_one m) end_one).one ts (x, tt) (y, tt) p q)
    at method ts (Some x) None (of_known k p) (of_other l) = absurd (l k)
    at method ts None (Some y) (of_other l) (of_known k p) = absurd (l k)
    at method ts None None (of_other k) (of_other l) = refl

pub entry_tagged : (m : Mode) → Tagged sequence_tag (IsEntry m)
entry_tagged m = as_tagged (inside_tagged _ _)

first_stays : (P : List ℕ → Type 0) (method uri : List ℕ) (e : Entry) (xs : List Entry) → IsFirst P method xs (Some uri) → IsFirst P method (xs ++ e ∷ []) (Some uri)
first_stays P method uri e [] p = absurd cc
first_stays P method uri e (x ∷ xs) (inl p) = inl p
first_stays P method uri e (x ∷ xs) (inr p) = inr (p.0, first_stays P method uri e xs p.1)

first_adds : (P : List ℕ → Type 0) (method : List ℕ) (e : Entry) (new : Option (List ℕ)) (xs : List Entry) → IsFirst P method xs None → IsFirst P method (e ∷ []) new → IsFirst P method (xs ++ e ∷ []) new
first_adds P method e new [] p h = h
first_adds P method e new (x ∷ xs) (inl p) h = let t : None ≡ Some p.0 = p.2 in absurd cc
first_adds P method e new (x ∷ xs) (inr p) h = inr (p.0, first_adds P method e new xs p.1 h)

-- The first URI with one more entry.
pub first_more : (P : List ℕ → Type 0) (method : List ℕ) (e : Entry) (xs : List Entry) (old new : Option (List ℕ)) → IsFirst P method xs old → Adds P method e old new → IsFirst P method (xs ++ e ∷ []) new
first_more P method e xs (Some uri) new p a = subst (IsFirst P method (xs ++ e ∷ [])) (sym a) (first_stays P method uri e xs p)
first_more P method e xs None new p (inl a) = first_adds P method e new xs p (inl a)
first_more P method e xs None new p (inr a) = first_adds P method e new xs p (inr a)

not_none : (xs : List Entry) (e : Entry) → xs ++ e ∷ [] ≢ []
not_none [] e h = cc
not_none (x ∷ xs) e h = cc

-- What entries say with one more.
pub says_more : (xs : List Entry) (e : Entry) (old new : AccessValue) (some : Bool) → SaysSoFar xs (old, some) → AddsEntry e old new → SaysSoFar (xs ++ e ∷ []) (new, true)
says_more xs e old new some h a = record {
  none = λ k. absurd (false≢true (sym k));
  some = λ k. not_none xs e;
  repository = first_more _ _ e xs old.repository new.repository h.repository a.repository;
  manifest = first_more _ _ e xs old.manifest new.manifest h.manifest a.manifest;
  object = first_more _ _ e xs old.object new.object h.object a.object;
  notify = first_more _ _ e xs old.notify new.notify h.notify a.notify;
}

-- What all entries of a content say is what they say so far.
pub told : (m : Mode) (ts : Trees) (a : AccessValue) → Gathers (IsEntry m) AreAccess ts a → (s : AccessValue × Bool) × Gathers (IsEntry m) SaysSoFar ts s
told m ts a p = (
  (a, true),
  record { xs = p.xs; are = p.are; says = record { none = λ k. absurd (false≢true (sym k)); some = λ k. p.says.some; repository = p.says.repository; manifest = p.says.manifest; object = p.says.object; notify = p.says.notify } },
)

-- There are some, and so they say it.
pub tells : (m : Mode) (ts : Trees) (a : AccessValue) (some : Bool) → some ≡ true → Gathers (IsEntry m) SaysSoFar ts (a, some) → Gathers (IsEntry m) AreAccess ts a
tells m ts a some e p = record { xs = p.xs; are = p.are; says = record { some = p.says.some e; repository = p.says.repository; manifest = p.says.manifest; object = p.says.object; notify = p.says.notify } }

-- There are none, and so they say nothing.
pub tells_nothing : (m : Mode) (ts : Trees) (a b : AccessValue) (some : Bool) → some ≡ false → Gathers (IsEntry m) AreAccess ts a → Gathers (IsEntry m) SaysSoFar ts (b, some) → ⊥
tells_nothing m ts a b some e p q = p.says.some ((many_one (entry_one m)).one ts p.xs q.xs p.are q.are ∙ q.says.none e)
