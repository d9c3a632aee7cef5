-- Equality tests of prefixes, and that they and the orders fit, for `==`, `cmp` and `hash`.
use Rattle.std.specs.Prelude.{◌≡◌, ◌↔◌, ℕ, ◌==◌, ◌&&◌, Bool, true, false, Option, Some, None, List, ◌++◌, refl}
use Rattle.std.proofs.Common.{arith, sym, ap, ◌∙◌, eq-eqb, subst}
use Rattle.std.proofs.lemmas.Bool.{eqb-true}
use Rattle.std.specs.Bool.{Decides, one_answer}
use Rattle.std.specs.Cmp.{IsTotalOrder, IsEquivalence, then_total, on_total, back_total, nat_cmp_total, decided, tied_itself, Equal-is, unsigned_tied}
use Rattle.std.specs.Hash as fed
use Rattle.std.specs.Ordering.{nat_cmp, ordering_then, ordering_reverse, is_eq, eq_by_cmp}
use Rattle.std.specs.declared.cmp.Ordering.{Ordering}
use Rattle.std.specs.declared.cmp.Ordering.TheVariants.{Less, Equal, Greater}
use Rattle.resources_ip_prefix.specs.AddrPrefixes.{Family, Ipv4, Ipv6, PrefixValue, span, family_cmp, prefix_cmp, last_of}
use Rattle.resources_ip_prefix.specs.MaxLens.{MaxLenValue, max_len_cmp}
use Rattle.std.specs.Option.{option_eq, option_cmp}
use Rattle.std.specs.Cmp.Lexicographic.{options_total}

family_turned : (f g : Family) → family_cmp f g ≡ ordering_reverse (family_cmp g f)
family_turned Ipv4 Ipv4 = refl
family_turned Ipv4 Ipv6 = refl
family_turned Ipv6 Ipv4 = refl
family_turned Ipv6 Ipv6 = refl

family_chain : (f g h : Family) → family_cmp f g ≡ Less → family_cmp g h ≡ Less
    → family_cmp f h ≡ Less
family_chain Ipv4 Ipv4 h e d = absurd cc
family_chain Ipv4 Ipv6 Ipv4 e d = absurd cc
family_chain Ipv4 Ipv6 Ipv6 e d = refl
family_chain Ipv6 Ipv4 h e d = absurd cc
family_chain Ipv6 Ipv6 h e d = absurd cc

family_alike : (f g h : Family) → family_cmp f g ≡ Equal → family_cmp f h ≡ family_cmp g h
family_alike Ipv4 Ipv4 h e = refl
family_alike Ipv4 Ipv6 h e = absurd cc
family_alike Ipv6 Ipv4 h e = absurd cc
family_alike Ipv6 Ipv6 h e = refl

pub family_total : IsTotalOrder family_cmp
family_total = record { antisymm = family_turned; trans = family_chain; congr = family_alike }

pub family_same : (f g : Family) → family_cmp f g ≡ Equal → f ≡ g
family_same Ipv4 Ipv4 e = refl
family_same Ipv4 Ipv6 e = absurd cc
family_same Ipv6 Ipv4 e = absurd cc
family_same Ipv6 Ipv6 e = refl

pub prefix_total : IsTotalOrder prefix_cmp
prefix_total =
    then_total (on_total (λ p. p.family) family_total)
    (then_total (on_total last_of nat_cmp_total) (back_total (on_total (λ p. p.len) nat_cmp_total)))

-- All three parts are equal.
abbrev pub prefix_eq : PrefixValue → PrefixValue → Bool
prefix_eq p q = is_eq (family_cmp p.family q.family) && (p.first == q.first) && (p.len == q.len)

pub prefix_is : {p q : PrefixValue} → p.family ≡ q.family → p.first ≡ q.first → p.len ≡ q.len
    → p ≡ q
prefix_is f n l = λ i. record { family = f i; first = n i; len = l i }

all_three : (a b c : Bool) → a && b && c ≡ true → (a ≡ true) × (b ≡ true) × (c ≡ true)
all_three true true true t = (refl, refl, refl)
all_three true true false t = absurd cc
all_three true false c t = absurd cc
all_three false b c t = absurd cc

no_more : (a b c : Bool) → a ≡ true → b ≡ true → c ≡ true → a && b && c ≡ true
no_more true true c e d t = t
no_more true false c e d t = absurd cc
no_more false b c e d t = absurd cc

-- The test decides equality.
pub prefix_eq_tells : (p q : PrefixValue) → Decides (prefix_eq p q) (p ≡ q)
prefix_eq_tells p q = (
  λ t.
      let parts = all_three _ _ _ t in
      prefix_is (family_same p.family q.family
      ((Equal-is (family_cmp p.family q.family)).0 parts.0)) (eqb-true p.first q.first parts.1)
      (eqb-true p.len q.len parts.2),
  λ e.
      no_more _ _ _ (ap is_eq (ap (family_cmp p.family)
      (sym (ap (λ (r : PrefixValue). r.family) e)) ∙ tied_itself family_total p.family))
      (eq-eqb p.first q.first (ap (λ (r : PrefixValue). r.first) e))
      (eq-eqb p.len q.len (ap (λ (r : PrefixValue). r.len) e)),
)

pub prefix_equiv : IsEquivalence prefix_eq
prefix_equiv = decided prefix_eq prefix_eq_tells

pub both_equal : (r s : Ordering) → ordering_then r s ≡ Equal → (r ≡ Equal) × (s ≡ Equal)
both_equal Less s e = absurd cc
both_equal Equal s e = (refl, e)
both_equal Greater s e = absurd cc

pub nat_same : (x y : ℕ) → nat_cmp x y ≡ Equal → x ≡ y
nat_same x y e = eqb-true x y (sym (unsigned_tied x y) ∙ ap is_eq e)

first_same : (p q : PrefixValue) → p.family ≡ q.family → p.len ≡ q.len → last_of p ≡ last_of q
    → p.first ≡ q.first
first_same p q f l e =
    let s : span p.family p.len ≡ span q.family q.len = λ i. span (f i) (l i) in
    omega arith

prefix_same : (p q : PrefixValue) → prefix_cmp p q ≡ Equal → p ≡ q
prefix_same p q e =
    let one = both_equal (family_cmp p.family q.family) (ordering_then (nat_cmp (last_of p) (last_of q)) (nat_cmp q.len p.len)) e in
    let two = both_equal (nat_cmp (last_of p) (last_of q)) (nat_cmp q.len p.len) one.1 in
    let f = family_same p.family q.family one.0 in
    let l = sym (nat_same q.len p.len two.1) in
    prefix_is f (first_same p q f l (nat_same (last_of p) (last_of q) two.0)) l

-- Equal values are those that the order doesn't tell apart.
pub prefix_ties : (p q : PrefixValue) → prefix_eq p q ≡ eq_by_cmp prefix_cmp p q
prefix_ties p q =
    one_answer (prefix_eq p q) (eq_by_cmp prefix_cmp p q) (prefix_eq_tells p q) (
      λ t. prefix_same p q ((Equal-is (prefix_cmp p q)).0 t),
      λ e. ap is_eq (subst (λ (r : PrefixValue). prefix_cmp p r ≡ Equal) e
          (tied_itself prefix_total p)),
    )

-- The order ties just equal prefixes.
pub prefix_tied : (p q : PrefixValue) → (prefix_cmp p q ≡ Equal) ↔ (p ≡ q)
prefix_tied p q = (
  prefix_same p q,
  λ e. subst (λ (r : PrefixValue). prefix_cmp p r ≡ Equal) e (tied_itself prefix_total p),
)

-- What a hasher is fed.
abbrev pub family_fed : Family → List (List ℕ)
family_fed Ipv4 = fed.u8 4
family_fed Ipv6 = fed.u8 6

abbrev pub prefix_fed : PrefixValue → List (List ℕ)
prefix_fed p = family_fed p.family ++ fed.u128 p.first ++ fed.u8 p.len

pub prefix_alike : (p q : PrefixValue) → prefix_eq p q ≡ true → prefix_fed p ≡ prefix_fed q
prefix_alike p q t = ap prefix_fed ((prefix_eq_tells p q).0 t)

pub max_len_total : IsTotalOrder max_len_cmp
max_len_total =
    then_total (on_total (λ m. m.prefix) prefix_total)
    (on_total (λ m. m.max_len) (options_total nat_cmp_total))

-- Both parts are equal.
abbrev pub max_len_eq : MaxLenValue → MaxLenValue → Bool
max_len_eq m n = prefix_eq m.prefix n.prefix && option_eq ◌==◌ m.max_len n.max_len

both_true : (a b : Bool) → a && b ≡ true → (a ≡ true) × (b ≡ true)
both_true true b t = (refl, t)
both_true false b t = absurd cc

both_are : (a b : Bool) → a ≡ true → b ≡ true → a && b ≡ true
both_are true b e t = t
both_are false b e t = absurd cc

option_tells : (a b : Option ℕ) → Decides (option_eq ◌==◌ a b) (a ≡ b)
option_tells None None = (λ t. refl, λ e. refl)
option_tells None (Some y) = (λ t. absurd cc, λ e. absurd cc)
option_tells (Some x) None = (λ t. absurd cc, λ e. absurd cc)
option_tells (Some x) (Some y) = (λ t. ap Some (eqb-true x y t), λ e. eq-eqb x y cc)

option_same : (a b : Option ℕ) → option_cmp nat_cmp a b ≡ Equal → a ≡ b
option_same None None e = refl
option_same None (Some y) e = absurd cc
option_same (Some x) None e = absurd cc
option_same (Some x) (Some y) e = ap Some (nat_same x y e)

max_len_is : {m n : MaxLenValue} → m.prefix ≡ n.prefix → m.max_len ≡ n.max_len → m ≡ n
max_len_is p l = λ i. record { prefix = p i; max_len = l i }

-- The test decides equality.
pub max_len_eq_tells : (m n : MaxLenValue) → Decides (max_len_eq m n) (m ≡ n)
max_len_eq_tells m n = (
  λ t.
      let parts = both_true (prefix_eq m.prefix n.prefix) (option_eq ◌==◌ m.max_len n.max_len) t in
      max_len_is ((prefix_eq_tells m.prefix n.prefix).0 parts.0)
      ((option_tells m.max_len n.max_len).0 parts.1),
  λ e.
      both_are (prefix_eq m.prefix n.prefix) (option_eq ◌==◌ m.max_len n.max_len)
      ((prefix_eq_tells m.prefix n.prefix).1 (ap (λ (r : MaxLenValue). r.prefix) e))
      ((option_tells m.max_len n.max_len).1 (ap (λ (r : MaxLenValue). r.max_len) e)),
)

pub max_len_equiv : IsEquivalence max_len_eq
max_len_equiv = decided max_len_eq max_len_eq_tells

max_len_same : (m n : MaxLenValue) → max_len_cmp m n ≡ Equal → m ≡ n
max_len_same m n e =
    let parts =
    both_equal (prefix_cmp m.prefix n.prefix) (option_cmp nat_cmp m.max_len n.max_len) e in
    max_len_is (prefix_same m.prefix n.prefix parts.0) (option_same m.max_len n.max_len parts.1)

-- The order ties just equal values.
pub max_len_tied : (m n : MaxLenValue) → (max_len_cmp m n ≡ Equal) ↔ (m ≡ n)
max_len_tied m n = (
  max_len_same m n,
  λ e. subst (λ (o : MaxLenValue). max_len_cmp m o ≡ Equal) e (tied_itself max_len_total m),
)

-- Equal values are those that the order doesn't tell apart.
pub max_len_ties : (m n : MaxLenValue) → max_len_eq m n ≡ eq_by_cmp max_len_cmp m n
max_len_ties m n =
    one_answer (max_len_eq m n) (eq_by_cmp max_len_cmp m n) (max_len_eq_tells m n) (
      λ t. max_len_same m n ((Equal-is (max_len_cmp m n)).0 t),
      λ e. ap is_eq (subst (λ (r : MaxLenValue). max_len_cmp m r ≡ Equal) e
          (tied_itself max_len_total m)),
    )

-- What a hasher is fed.
abbrev pub max_len_fed : MaxLenValue → List (List ℕ)
max_len_fed m = prefix_fed m.prefix ++ fed.option fed.u8 m.max_len

pub max_len_alike : (m n : MaxLenValue) → max_len_eq m n ≡ true → max_len_fed m ≡ max_len_fed n
max_len_alike m n t = ap max_len_fed ((max_len_eq_tells m n).0 t)
