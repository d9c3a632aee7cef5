-- Texts with dots, read piece by piece.
use Rattle.std.proofs.Common.{◌≡◌, ◌≢◌, ℕ, ◌<◌, Option, Some, None, Result, Ok, Err, List, [], ◌∷◌, ◌++◌, length, refl, sym, ap, ◌∙◌, subst, arith, append_assoc}
use denote.Ref.{Bor}
use Rattle.std.proofs.lemmas.List.{length-append}
use Rattle.std.proofs.lemmas.List.Elements.{All-head, All-tail}
use Rattle.std.specs.Prelude.{MatchOption, IfErr, OnOk}
use Rattle.std.specs.Result.{IsErr, IsErrAnd}
use Rattle.bcder.specs.declared.oid.text.ParseOidError.{ParseOidError}
use Rattle.bcder.specs.declared.oid.text.ParseOidError.TheVariants as errors
use Rattle.bcder.specs.OidTexts.{OnRefused, FrontRefused, NumbersRefused, WhyRefused, MayBegin, ReadsText, IsComponentText, IsDotted, LacksDot, IsLastPiece, IsFirstPiece}
use Rattle.bcder.proofs.Numerals.{one_number, no_dot}

-- A text is cut at its first dot in one way.
cut_once : (a b x y : List ℕ) → LacksDot a → LacksDot x → a ++ 46 ∷ b ≡ x ++ 46 ∷ y → (a ≡ x) × (b ≡ y)
cut_once [] b [] y h k e = (refl, cc)
cut_once [] b (c ∷ x) y h k e = absurd (All-head (λ a. a ≢ 46) c x k (let f : c ≡ 46 = cc in f))
cut_once (c ∷ a) b [] y h k e = absurd (All-head (λ a. a ≢ 46) c a h (let f : c ≡ 46 = cc in f))
cut_once (c ∷ a) b (d ∷ x) y h k e =
    let f : c ≡ d = cc in
    let r : a ++ 46 ∷ b ≡ x ++ 46 ∷ y = cc in
    let s = cut_once a b x y (All-tail (λ a. a ≢ 46) c a h) (All-tail (λ a. a ≢ 46) d x k) r in
    (ap (λ (z : ℕ). z ∷ a) f ∙ ap (λ (z : List ℕ). d ∷ z) s.0, s.1)

has_dot : (a b : List ℕ) → LacksDot (a ++ 46 ∷ b) → ⊥
has_dot [] b h = All-head (λ a. a ≢ 46) 46 b h refl
has_dot (c ∷ a) b h = has_dot a b (All-tail (λ a. a ≢ 46) c (a ++ 46 ∷ b) h)

-- Some numbers of a text were read, and the rest is its rest.
pub record Going (text done rest : List ℕ) : Type 0 where
  pub onto : (ns : List ℕ) → IsDotted rest ns → IsDotted text (done ++ ns)
  pub back : (ns : List ℕ) → IsDotted text ns → (ms : List ℕ) × (ns ≡ done ++ ms) × IsDotted rest ms

pub begin : (text : List ℕ) → Going text [] text
begin text = record { onto = λ ns h. h; back = λ ns h. (ns, refl, h) }

-- A text's first piece is its first number.
first_number : {rest front behind : List ℕ} → IsFirstPiece rest front behind → (ms : List ℕ) → IsDotted rest ms → (n : ℕ) × IsComponentText front n
first_number p [] h = absurd h
first_number {rest} {front} {behind} p (n ∷ []) h = absurd (has_dot front behind (subst LacksDot p.whole (no_dot h)))
first_number {rest} {front} {behind} p (n ∷ m ∷ ms) h =
    let e = cut_once front behind h.0 h.1 p.first (no_dot h.3) (sym p.whole ∙ h.2) in
    (n, subst (λ (z : List ℕ). IsComponentText z n) (sym e.0) h.3)

last_number : {rest front : List ℕ} → IsLastPiece rest front → (ms : List ℕ) → IsDotted rest ms → (n : ℕ) × IsComponentText front n
last_number p [] h = absurd h
last_number p (n ∷ []) h = (n, subst (λ (z : List ℕ). IsComponentText z n) (sym p.same) h)
last_number {rest} {front} p (n ∷ m ∷ ms) h = absurd (has_dot h.0 h.1 (subst LacksDot h.2 p.last))

-- A piece that is no number: the text is none.
refused_first : {text done rest front behind : List ℕ} → Going text done rest → IsFirstPiece rest front behind → ((n : ℕ) → IsComponentText front n → ⊥) → (ns : List ℕ) → IsDotted text ns → ⊥
refused_first g p none ns h = let b = g.back ns h in let f = first_number p b.0 b.2 in none f.0 f.1

refused_last : {text done rest front : List ℕ} → Going text done rest → IsLastPiece rest front → ((n : ℕ) → IsComponentText front n → ⊥) → (ns : List ℕ) → IsDotted text ns → ⊥
refused_last g p none ns h = let b = g.back ns h in let f = last_number p b.0 b.2 in none f.0 f.1

pub refused_piece : {text done rest front : List ℕ} (o : Option (Bor (List ℕ))) → Going text done rest → MatchOption o (IsLastPiece rest front) (λ b. IsFirstPiece rest front b.now) → ((n : ℕ) → IsComponentText front n → ⊥) → (ns : List ℕ) → IsDotted text ns → ⊥
refused_piece None g p none ns h = refused_last g p none ns h
refused_piece (Some b) g p none ns h = refused_first g p none ns h

-- The last number.
pub last_read : {text done rest front : List ℕ} {n : ℕ} → Going text done rest → IsLastPiece rest front → IsComponentText front n → IsDotted text (done ++ n ∷ [])
last_read {n = n} g p c = g.onto (n ∷ []) (subst (λ (z : List ℕ). IsComponentText z n) p.same c)

-- A number that isn't the last.
onto_behind : {rest front behind : List ℕ} {n : ℕ} → IsFirstPiece rest front behind → IsComponentText front n → (ns : List ℕ) → IsDotted behind ns → IsDotted rest (n ∷ ns)
onto_behind p c [] h = absurd h
onto_behind {rest} {front} {behind} p c (m ∷ ns) h = (front, behind, p.whole, c, h)

back_behind : {rest front behind : List ℕ} {n : ℕ} → IsFirstPiece rest front behind → IsComponentText front n → (ms : List ℕ) → IsDotted rest ms → (ns : List ℕ) × (ms ≡ n ∷ ns) × IsDotted behind ns
back_behind p c [] h = absurd h
back_behind {rest} {front} {behind} p c (m ∷ []) h = absurd (has_dot front behind (subst LacksDot p.whole (no_dot h)))
back_behind {rest} {front} {behind} {n} p c (m ∷ k ∷ ms) h =
    let e = cut_once front behind h.0 h.1 p.first (no_dot h.3) (sym p.whole ∙ h.2) in
    let same : m ≡ n = one_number h.3 (subst (λ (z : List ℕ). IsComponentText z n) e.0 c) in
    (k ∷ ms, ap (λ (z : ℕ). z ∷ k ∷ ms) same, subst (λ (z : List ℕ). IsDotted z (k ∷ ms)) (sym e.1) h.4)

pub go_on : {text done rest front behind : List ℕ} {n : ℕ} → Going text done rest → IsFirstPiece rest front behind → IsComponentText front n → Going text (done ++ n ∷ []) behind
go_on {text} {done} {rest} {front} {behind} {n} g p c = record {
  onto = λ ns h. subst (λ (z : List ℕ). IsDotted text z) (sym (append_assoc done (n ∷ []) ns)) (g.onto (n ∷ ns) (onto_behind p c ns h));
  back = λ ns h.
      let b = g.back ns h in
      let r = back_behind p c b.0 b.2 in
      (r.0, b.1 ∙ ap (λ (z : List ℕ). done ++ z) r.1 ∙ sym (append_assoc done (n ∷ []) r.0), r.2);
}

-- What comes after a piece is shorter.
pub shorter : {rest front behind : List ℕ} → IsFirstPiece rest front behind → length behind < length rest
shorter {rest} {front} {behind} p = omega (arith, ap length p.whole, length-append front (46 ∷ behind))

-- A text has one list of numbers.
one_dotted : (text ns ms : List ℕ) → IsDotted text ns → IsDotted text ms → ns ≡ ms
one_dotted text [] ms h k = absurd h
one_dotted text (n ∷ []) [] h k = absurd k
one_dotted text (n ∷ []) (m ∷ []) h k = ap (λ (z : ℕ). z ∷ []) (one_number h k)
one_dotted text (n ∷ []) (m ∷ b ∷ ms) h k = absurd (has_dot k.0 k.1 (subst LacksDot k.2 (no_dot h)))
one_dotted text (n ∷ a ∷ ns) [] h k = absurd k
one_dotted text (n ∷ a ∷ ns) (m ∷ []) h k = absurd (has_dot h.0 h.1 (subst LacksDot h.2 (no_dot k)))
one_dotted text (n ∷ a ∷ ns) (m ∷ b ∷ ms) h k =
    let e = cut_once h.0 h.1 k.0 k.1 (no_dot h.3) (no_dot k.3) (sym h.2 ∙ k.2) in
    let f : n ≡ m = one_number h.3 (subst (λ (z : List ℕ). IsComponentText z m) (sym e.0) k.3) in
    let r : a ∷ ns ≡ b ∷ ms = one_dotted h.1 (a ∷ ns) (b ∷ ms) h.4 (subst (λ (z : List ℕ). IsDotted z (b ∷ ms)) (sym e.1) k.4) in
    ap (λ (z : ℕ). z ∷ a ∷ ns) f ∙ ap (λ (z : List ℕ). m ∷ z) r

-- Numbers that may not begin an identifier are of no text of one.
pub refused_numbers : {text ns ms : List ℕ} → IsDotted text ns → ms ≡ ns → (MayBegin ms → ⊥) → (octets : List ℕ) → ReadsText text octets → ⊥
refused_numbers {text} {ns} {ms} h e none octets r =
    none (subst MayBegin (one_dotted text r.components ns r.text_is.dotted h ∙ sym e) r.text_is.begins)

-- A text that has no numbers is none.
pub refused_text : {text : List ℕ} → ((ns : List ℕ) → IsDotted text ns → ⊥) → (octets : List ℕ) → ReadsText text octets → ⊥
refused_text none octets r = none r.components r.text_is.dotted

-- The first two numbers of a text are those of its first two pieces.
pub first_two : {text rest front : List ℕ} {x y : ℕ} (o : Option (Bor (List ℕ))) → Going text (x ∷ []) rest → MatchOption o (IsLastPiece rest front) (λ b. IsFirstPiece rest front b.now) → IsComponentText front y → (ns : List ℕ) → IsDotted text ns
    → (ms : List ℕ) × (ns ≡ x ∷ y ∷ ms)
first_two {text} {x = x} {y} None g p c ns h = ([], one_dotted text ns (x ∷ y ∷ []) h (last_read g p c))
first_two (Some b) g p c ns h = let r = (go_on g p c).back ns h in (r.0, r.1)

-- So they tell whether it is one of an identifier.
pub may_begin : {text : List ℕ} {x y : ℕ} → ((ns : List ℕ) → IsDotted text ns → (ms : List ℕ) × (ns ≡ x ∷ y ∷ ms)) → MayBegin (x ∷ y ∷ []) → (ns : List ℕ) → IsDotted text ns → MayBegin ns
may_begin two m ns h = let t = two ns h in subst MayBegin (sym t.1) m

pub no_begin : {text : List ℕ} {x y : ℕ} → ((ns : List ℕ) → IsDotted text ns → (ms : List ℕ) × (ns ≡ x ∷ y ∷ ms)) → (MayBegin (x ∷ y ∷ []) → ⊥) → (octets : List ℕ) → ReadsText text octets → ⊥
no_begin two none octets r = let t = two r.components r.text_is.dotted in none (subst MayBegin t.1 r.text_is.begins)

-- Refusals that are passed on.
weaker : (F G : Type 0) (e : ParseOidError) → (F → G) → OnRefused e F → OnRefused e G
weaker F G errors.TooFew f h = f h
weaker F G errors.Component f h = f h
weaker F G errors.First f h = f h
weaker F G errors.Second f h = f h
weaker F G errors.Memory f h = tt

pub through : {A F G : Type 0} (r : Result A ParseOidError) (e : ParseOidError) → IsErr r × IsErrAnd r (λ x. x ≡ e) → (F → G) → OnRefused e F → IfErr r (λ x. OnRefused x G)
through (Ok x) e a f h = tt
through {F = F} {G} (Err x) e a f h = subst (λ (y : ParseOidError). OnRefused y G) (sym a.1) (weaker F G e f h)

pub on_err : {A F G : Type 0} (r : Result A ParseOidError) → (F → G) → IfErr r (λ e. OnRefused e F) → IfErr r (λ e. OnRefused e G)
on_err (Ok x) f h = tt
on_err {F = F} {G} (Err e) f h = weaker F G e f h

pub on_ok : {A F G : Type 0} (r : Result A ParseOidError) → (F → G) → OnOk r F → OnOk r G
on_ok (Ok x) f h = f h
on_ok (Err e) f h = tt

-- The first test that fails.
pub front_why : (text ms : List ℕ) (x y : ℕ) (e : ParseOidError) → IsDotted text (x ∷ y ∷ ms) → FrontRefused e x y → WhyRefused e text
front_why text ms x y errors.TooFew h f = absurd f
front_why text ms x y errors.Component h f = absurd f
front_why text ms x y errors.First h f = (x, y, ms, h, f)
front_why text ms x y errors.Second h f = (x, y, ms, h, f.0, f.1)
front_why text ms x y errors.Memory h f = absurd f

pub front_numbers : {ns ms : List ℕ} {x y : ℕ} (e : ParseOidError) → ns ≡ x ∷ y ∷ ms → FrontRefused e x y → NumbersRefused e ns
front_numbers errors.TooFew h f = absurd f
front_numbers errors.Component h f = absurd f
front_numbers {ms = ms} {x} {y} errors.First h f = (x, y, ms, h, f)
front_numbers {ms = ms} {x} {y} errors.Second h f = (x, y, ms, h, f.0, f.1)
front_numbers errors.Memory h f = absurd f

numbers_why : (text : List ℕ) (ns : List ℕ) (e : ParseOidError) → IsDotted text ns → NumbersRefused e ns → WhyRefused e text
numbers_why text [] e h f = absurd h
numbers_why text (n ∷ []) errors.TooFew h f = (n, h)
numbers_why text (n ∷ m ∷ ns) errors.TooFew h f = absurd (let g : length (n ∷ m ∷ ns) < 2 = f in omega arith)
numbers_why text ns errors.Component h f = absurd f
numbers_why text ns errors.First h f = (f.0, f.1, f.2, subst (IsDotted text) f.3 h, f.4)
numbers_why text ns errors.Second h f = (f.0, f.1, f.2, subst (IsDotted text) f.3 h, f.4, f.5)
numbers_why text ns errors.Memory h f = tt

-- Causes that are passed on.
pub component_why : {A F : Type 0} {text : List ℕ} (r : Result A ParseOidError) (e : ParseOidError) → IsErr r × IsErrAnd r (λ x. x ≡ e) → e ≡ errors.Component → (F → (ns : List ℕ) → IsDotted text ns → ⊥) → OnRefused e F → IfErr r (λ x. WhyRefused x text)
component_why (Ok x) e a c f h = tt
component_why {F = F} {text} (Err x) e a c f h = subst (λ (y : ParseOidError). WhyRefused y text) (sym (a.1 ∙ c)) (f (subst (λ (y : ParseOidError). OnRefused y F) c h))

why_through : {A : Type 0} (text : List ℕ) (r : Result A ParseOidError) (e : ParseOidError) → IsErr r × IsErrAnd r (λ x. x ≡ e) → WhyRefused e text → IfErr r (λ x. WhyRefused x text)
why_through text (Ok x) e a h = tt
why_through text (Err x) e a h = subst (λ (y : ParseOidError). WhyRefused y text) (sym a.1) h

pub numbers_through : {A : Type 0} (text : List ℕ) {ns ms : List ℕ} (r : Result A ParseOidError) (e : ParseOidError) → IsErr r × IsErrAnd r (λ x. x ≡ e) → IsDotted text ns → ms ≡ ns → NumbersRefused e ms → IfErr r (λ x. WhyRefused x text)
numbers_through text {ns} r e a d same h = why_through text r e a (numbers_why text ns e d (subst (NumbersRefused e) same h))

pub front_through : {A : Type 0} {ns ms : List ℕ} {x y : ℕ} (r : Result A ParseOidError) (e : ParseOidError) → IsErr r × IsErrAnd r (λ z. z ≡ e) → ns ≡ x ∷ y ∷ ms → FrontRefused e x y → IfErr r (λ z. NumbersRefused z ns)
front_through (Ok x) e a same f = tt
front_through {ns = ns} (Err x) e a same f = subst (λ (z : ParseOidError). NumbersRefused z ns) (sym a.1) (front_numbers e same f)

-- A cause, whatever the text's numbers are; and one by the first two of them.
pub for_any : {A : Type 0} (text : List ℕ) (r : Result A ParseOidError) → IfErr r (λ e. WhyRefused e text) → IfErr r (λ e. (ns : List ℕ) → IsDotted text ns → WhyRefused e text)
for_any text (Ok x) h = tt
for_any text (Err e) h = λ ns d. h

pub front_any : {A : Type 0} {text : List ℕ} {x y : ℕ} (r : Result A ParseOidError) → ((ns : List ℕ) → IsDotted text ns → (ms : List ℕ) × (ns ≡ x ∷ y ∷ ms)) → IfErr r (λ e. FrontRefused e x y) → IfErr r (λ e. (ns : List ℕ) → IsDotted text ns → WhyRefused e text)
front_any (Ok x) two f = tt
front_any {text = text} {x} {y} (Err e) two f = λ ns d. let t = two ns d in front_why text t.0 x y e (subst (IsDotted text) t.1 d) f
