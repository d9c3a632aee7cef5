-- What one more access description adds to the URI of a method.
use Rattle.std.proofs.Common.{◌≡◌, ◌≢◌, inl, inr, ℕ, List, Option, Some, None, refl, sym, ◌∙◌, subst}
use Rattle.certs_extension.specs.Access.{Entry, HasUri}
use Rattle.certs_extension.specs.Found.{Adds, Keeps}

stays : (P : List ℕ → Type 0) (method : List ℕ) (e : Entry) (x : Option (List ℕ)) → ((uri : List ℕ) → HasUri P method e uri → ⊥) → Adds P method e x x
stays P method e (Some uri) none = refl
stays P method e None none = inr (none, refl)

-- One of another method adds none.
pub other_adds_none : (P : List ℕ → Type 0) (method : List ℕ) (e : Entry) (x y : Option (List ℕ)) → e.method ≢ method → x ≡ y → Adds P method e x y
other_adds_none P method e x y differ same = subst (Adds P method e x) same (stays P method e x (λ uri h. differ h.method_is))

-- One whose method isn't known has no name, and adds none.
pub nameless_adds_none : (P : List ℕ → Type 0) (method : List ℕ) (e : Entry) (x : Option (List ℕ)) → e.name ≡ None → Adds P method e x x
nameless_adds_none P method e x none = stays P method e x (λ uri h. let k : None ≡ Some uri = sym none ∙ h.name_is in absurd cc)

-- One of the method with a name adds what is kept of that.
pub named_adds : (P : List ℕ → Type 0) (method text : List ℕ) (e : Entry) (old new : Option (List ℕ)) → e.method ≡ method → e.name ≡ Some text → Keeps P text old new → Adds P method e old new
named_adds P method text e (Some uri) new is name k = k
named_adds P method text e None new is name (inl a) = inl (text, record { method_is = is; name_is = name; readable = a.0 }, a.1)
named_adds P method text e None new is name (inr a) = inr ((λ uri h. let s : text ≡ uri = let k : Some text ≡ Some uri = sym name ∙ h.name_is in cc in a.0 (subst P (sym s) h.readable)), a.1)
