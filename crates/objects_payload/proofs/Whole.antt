-- What is read of a locator is what it says, and a fault leaves no locator.
use Rattle.std.proofs.Common.{◌≡◌, ◌≢◌, ℕ, List, [], ◌∷◌, ◌++◌, refl, sym, ap, ◌∙◌, subst, append_assoc, All, Err}
use Rattle.std.proofs.lemmas.List.Elements.{All-head, All-tail}
use Rattle.objects_payload.specs.certs_basics.Keys.{KeyValue}
use Rattle.objects_payload.specs.certs_basics.Uris.{IsUri}
use Rattle.objects_payload.specs.Locators.{EndsLine, AreLines, IsComment, LocatorText}
use Rattle.objects_payload.specs.declared.locator.error.ReadError.{ReadError}
use Rattle.objects_payload.specs.declared.locator.error.ReadError.TheVariants.{Io, UnexpectedEof, BadUri, BadKeyInfoEncoding, BadKeyInfo, Memory}
use Rattle.objects_payload.specs.Lines.{HasLine, NoLine, NoComment, Commented}
use Rattle.objects_payload.specs.Faults.{HasUris, HasAllUris, IsCut, HasNoUri, HasKey, NoBase64, HasNoKey, BehindComments, BehindUris, StartsWithUri, TakesUris, ReadsKey, IsFault}
use Rattle.objects_payload.proofs.LineTexts.{one_line, line_not, comment_not}
use Rattle.objects_payload.proofs.Locators.{no_comment, not_empty}

-- The comments are as many as there are.

first_of : (line front lines behind : List ℕ) (text : List ℕ) → EndsLine line front → text ≡ (front ++ lines) ++ behind → HasLine line (lines ++ behind) text
first_of line front lines behind text e w = record { front = front; ends = e; whole = w ∙ append_assoc front lines behind }

comments_one : (cs ds : List (List ℕ)) (a b u v : List ℕ) → AreLines cs a → AreLines ds b → All IsComment cs → All IsComment ds → NoComment u → NoComment v → a ++ u ≡ b ++ v → u ≡ v
comments_one [] [] a b u v p q f g m n e = ap (λ (z : List ℕ). z ++ u) (sym p) ∙ e ∙ ap (λ (z : List ℕ). z ++ v) q
comments_one [] (d ∷ ds) a b u v p q f g m n e =
    absurd (m d (q.1 ++ v) (first_of d q.0 q.1 v u q.2 (ap (λ (z : List ℕ). z ++ u) (sym p) ∙ e ∙ ap (λ (z : List ℕ). z ++ v) q.4)) (All-head IsComment d ds g))
comments_one (c ∷ cs) [] a b u v p q f g m n e =
    absurd (n c (p.1 ++ u) (first_of c p.0 p.1 u v p.2 (ap (λ (z : List ℕ). z ++ v) (sym q) ∙ sym e ∙ ap (λ (z : List ℕ). z ++ u) p.4)) (All-head IsComment c cs f))
comments_one (c ∷ cs) (d ∷ ds) a b u v p q f g m n e =
    let t = one_line c d (p.1 ++ u) (q.1 ++ v) (a ++ u) (first_of c p.0 p.1 u (a ++ u) p.2 (ap (λ (z : List ℕ). z ++ u) p.4)) (first_of d q.0 q.1 v (a ++ u) q.2 (e ∙ ap (λ (z : List ℕ). z ++ v) q.4)) in
    comments_one cs ds p.1 q.1 u v p.3 q.3 (All-tail IsComment c cs f) (All-tail IsComment d ds g) m n t.1

one_commented : (u v text : List ℕ) → Commented u text → Commented v text → u ≡ v
one_commented u v text p q =
    comments_one p.has.comments q.has.comments p.has.head q.has.head u v p.has.head_is q.has.head_is p.has.comments_are q.has.comments_are p.no_more q.no_more (sym p.has.whole ∙ q.has.whole)

-- So are the URIs.

abbrev NoUri : List ℕ → Type 0
NoUri text = (line rest : List ℕ) → HasLine line rest text → IsUri line → ⊥

uris_one : (xs ys : List (List ℕ)) (a b u v : List ℕ) → AreLines xs a → AreLines ys b → All IsUri xs → All IsUri ys → NoUri u → NoUri v → a ++ u ≡ b ++ v → (xs ≡ ys) × (u ≡ v)
uris_one [] [] a b u v p q f g m n e = (refl, ap (λ (z : List ℕ). z ++ u) (sym p) ∙ e ∙ ap (λ (z : List ℕ). z ++ v) q)
uris_one [] (d ∷ ds) a b u v p q f g m n e =
    absurd (m d (q.1 ++ v) (first_of d q.0 q.1 v u q.2 (ap (λ (z : List ℕ). z ++ u) (sym p) ∙ e ∙ ap (λ (z : List ℕ). z ++ v) q.4)) (All-head IsUri d ds g))
uris_one (c ∷ cs) [] a b u v p q f g m n e =
    absurd (n c (p.1 ++ u) (first_of c p.0 p.1 u v p.2 (ap (λ (z : List ℕ). z ++ v) (sym q) ∙ sym e ∙ ap (λ (z : List ℕ). z ++ u) p.4)) (All-head IsUri c cs f))
uris_one (c ∷ cs) (d ∷ ds) a b u v p q f g m n e =
    let t = one_line c d (p.1 ++ u) (q.1 ++ v) (a ++ u) (first_of c p.0 p.1 u (a ++ u) p.2 (ap (λ (z : List ℕ). z ++ u) p.4)) (first_of d q.0 q.1 v (a ++ u) q.2 (e ∙ ap (λ (z : List ℕ). z ++ v) q.4)) in
    let r = uris_one cs ds p.1 q.1 u v p.3 q.3 (All-tail IsUri c cs f) (All-tail IsUri d ds g) m n t.1 in
    (ap (λ (z : List ℕ). z ∷ cs) t.0 ∙ ap (λ (zs : List (List ℕ)). d ∷ zs) r.0, r.1)

one_uris : (xs ys : List (List ℕ)) (u v text : List ℕ) → HasUris xs u text → HasUris ys v text → NoUri u → NoUri v → (xs ≡ ys) × (u ≡ v)
one_uris xs ys u v text p q m n = uris_one xs ys p.front q.front u v p.front_is q.front_is p.uris_are q.uris_are m n (sym p.whole ∙ q.whole)

-- No URI is the line in front.
none_at : (line rest text : List ℕ) → HasLine line rest text → (IsUri line → ⊥) → NoUri text
none_at line rest text h n k u g i = n (subst IsUri (one_line k line u rest text g h).0 i)

none_there : (text : List ℕ) → NoLine text → NoUri text
none_there text n k u g i = line_not k u text n g

all_stop : (xs : List (List ℕ)) (t text : List ℕ) (h : HasAllUris xs t text) → NoUri h.behind
all_stop xs t text h = none_at [] t h.behind h.empty not_empty

one_all : (xs ys : List (List ℕ)) (t s text : List ℕ) → HasAllUris xs t text → HasAllUris ys s text → (xs ≡ ys) × (t ≡ s)
one_all xs ys t s text p q =
    let r = one_uris xs ys p.behind q.behind text p.has q.has (all_stop xs t text p) (all_stop ys s text q) in
    (r.0, (one_line [] [] t s q.behind (subst (λ (z : List ℕ). HasLine [] t z) r.1 p.empty) q.empty).1)

-- Locators, by their parts.

uris_stop : (uris : List (List ℕ)) (m rest : List ℕ) → AreLines uris m → All IsUri uris → uris ≢ [] → NoComment (m ++ rest)
uris_stop [] m rest p f n = absurd (n refl)
uris_stop (x ∷ xs) m rest p f n =
    comment_not x (p.1 ++ rest) (m ++ rest) (first_of x p.0 p.1 rest (m ++ rest) p.2 (ap (λ (z : List ℕ). z ++ rest) p.4)) (no_comment x (All-head IsUri x xs f))

-- The parts of a locator.
record Parts (text : List ℕ) (uris : List (List ℕ)) (key : KeyValue) : Type 0 where
  pub behind : List ℕ
  pub commented : Commented behind text
  pub tail : List ℕ
  pub all : HasAllUris uris tail behind
  pub has : HasKey key tail

parts : (text : List ℕ) (uris : List (List ℕ)) (key : KeyValue) → LocatorText text uris key → Parts text uris key
parts text uris key l = record {
  behind = l.middle ++ (l.empty ++ l.tail);
  commented = record {
    has = record {
      comments = l.comments;
      head = l.head;
      whole = l.whole ∙ append_assoc (l.head ++ l.middle) l.empty l.tail ∙ append_assoc l.head l.middle (l.empty ++ l.tail);
      head_is = l.head_is;
      comments_are = l.comments_are;
    };
    no_more = uris_stop uris l.middle (l.empty ++ l.tail) l.middle_is l.uris_are l.some;
  };
  tail = l.tail;
  all = record {
    behind = l.empty ++ l.tail;
    has = record { front = l.middle; whole = refl; front_is = l.middle_is; uris_are = l.uris_are };
    some = l.some;
    empty = record { front = l.empty; ends = l.empty_is; whole = refl };
  };
  has = record { octets = l.decoded; is = record { letters = l.tail_is; are_octets = l.decoded_octets }; reads = l.key_is };
}

-- The parts are a locator.
pub locator_is : (text behind tail : List ℕ) (uris : List (List ℕ)) (key : KeyValue) → Commented behind text → HasAllUris uris tail behind → HasKey key tail → LocatorText text uris key
locator_is text behind tail uris key c a k = record {
  comments = c.has.comments;
  head = c.has.head;
  middle = a.has.front;
  empty = a.empty.front;
  tail = tail;
  decoded = k.octets;
  whole = c.has.whole ∙ ap (λ (z : List ℕ). c.has.head ++ z) (a.has.whole ∙ ap (λ (z : List ℕ). a.has.front ++ z) a.empty.whole)
      ∙ sym (append_assoc (c.has.head ++ a.has.front) a.empty.front tail ∙ append_assoc c.has.head a.has.front (a.empty.front ++ tail));
  head_is = c.has.head_is;
  comments_are = c.has.comments_are;
  middle_is = a.has.front_is;
  uris_are = a.has.uris_are;
  some = a.some;
  empty_is = a.empty.ends;
  tail_is = k.is.letters;
  decoded_octets = k.is.are_octets;
  key_is = k.reads;
}

-- A fault after the comments, where there are URIs and a key.
cut_not : (text tail : List ℕ) (uris : List (List ℕ)) → HasAllUris uris tail text → IsCut text → ⊥
cut_not text tail uris a f =
    let r = one_uris uris f.uris a.behind f.rest text a.has f.has (all_stop uris tail text a) (none_there f.rest f.no_line) in
    line_not [] tail f.rest f.no_line (subst (λ (z : List ℕ). HasLine [] tail z) r.1 a.empty)

no_uri_not : (text tail : List ℕ) (uris : List (List ℕ)) → HasAllUris uris tail text → HasNoUri text → ⊥
no_uri_not text tail uris a f =
    let r = one_uris uris f.uris a.behind f.behind text a.has f.has (all_stop uris tail text a) (none_at f.line f.rest f.behind f.next f.no_uri) in
    let t = one_line f.line [] f.rest tail f.behind f.next (subst (λ (z : List ℕ). HasLine [] tail z) r.1 a.empty) in
    a.some (r.0 ∙ f.none t.0)

-- What stands after the empty line is one text.
behind_uris : (P : List ℕ → Type 0) (text tail : List ℕ) (uris : List (List ℕ)) → HasAllUris uris tail text → BehindUris P text → P tail
behind_uris P text tail uris a f = subst P (one_all f.uris uris f.tail tail text f.has a).1 f.is

-- What stands after the comments is one text.
behind_comments : (P : List ℕ → Type 0) (text behind : List ℕ) → Commented behind text → BehindComments P text → P behind
behind_comments P text behind c f = subst P (one_commented f.behind behind text f.commented c) f.is

-- A text with a fault is no locator.
pub no_locator : (e : ReadError) (text : List ℕ) (uris : List (List ℕ)) (key : KeyValue) → e ≢ Memory → IsFault e text → LocatorText text uris key → ⊥
no_locator Io text uris key n f l = absurd f
no_locator UnexpectedEof text uris key n f l =
    let p = parts text uris key l in
    cut_not p.behind p.tail uris p.all (behind_comments IsCut text p.behind p.commented f)
no_locator BadUri text uris key n f l =
    let p = parts text uris key l in
    no_uri_not p.behind p.tail uris p.all (behind_comments HasNoUri text p.behind p.commented f)
no_locator BadKeyInfoEncoding text uris key n f l =
    let p = parts text uris key l in
    behind_uris NoBase64 p.behind p.tail uris p.all (behind_comments (BehindUris NoBase64) text p.behind p.commented f) p.has.octets p.has.is
no_locator BadKeyInfo text uris key n f l =
    let p = parts text uris key l in
    (behind_uris HasNoKey p.behind p.tail uris p.all (behind_comments (BehindUris HasNoKey) text p.behind p.commented f)).none key p.has
no_locator Memory text uris key n f l = n refl

-- A URI stands in front of URIs, one or more.
all_start : (uris : List (List ℕ)) (tail text : List ℕ) → HasAllUris uris tail text → StartsWithUri text
all_start [] tail text a = absurd (a.some refl)
all_start (x ∷ xs) tail text a =
    let f = a.has.front_is in
    record { uri = x; rest = f.1 ++ a.behind; has = first_of x f.0 f.1 a.behind text f.2 (a.has.whole ∙ ap (λ (z : List ℕ). z ++ a.behind) f.4); is = All-head IsUri x xs a.has.uris_are }

-- Why the URIs were refused, or the key.
pub uris_fault : (e : ReadError) (behind text : List ℕ) → Commented behind text → TakesUris behind (Err e) → IsFault e text
uris_fault Io behind text c f = absurd f
uris_fault UnexpectedEof behind text c f = record { behind = behind; commented = c; is = f }
uris_fault BadUri behind text c f = record { behind = behind; commented = c; is = f }
uris_fault BadKeyInfoEncoding behind text c f = absurd f
uris_fault BadKeyInfo behind text c f = absurd f
uris_fault Memory behind text c f = record { behind = behind; commented = c; is = f }

pub key_fault : (e : ReadError) (behind tail text : List ℕ) (uris : List (List ℕ)) → Commented behind text → HasAllUris uris tail behind → ReadsKey tail (Err e) → IsFault e text
key_fault Io behind tail text uris c a f = absurd f
key_fault UnexpectedEof behind tail text uris c a f = absurd f
key_fault BadUri behind tail text uris c a f = absurd f
key_fault BadKeyInfoEncoding behind tail text uris c a f = record { behind = behind; commented = c; is = record { uris = uris; tail = tail; has = a; is = f } }
key_fault BadKeyInfo behind tail text uris c a f = record { behind = behind; commented = c; is = record { uris = uris; tail = tail; has = a; is = f } }
key_fault Memory behind tail text uris c a f = record { behind = behind; commented = c; is = all_start uris tail behind a }

pub refused : (e : ReadError) (text : List ℕ) → IsFault e text → e ≢ Memory → (uris : List (List ℕ)) (key : KeyValue) → LocatorText text uris key → ⊥
refused e text f n uris key l = no_locator e text uris key n f l

-- A text has one fault.

cut_no_uri : (text : List ℕ) → IsCut text → HasNoUri text → ⊥
cut_no_uri text p q =
    let r = one_uris p.uris q.uris p.rest q.behind text p.has q.has (none_there p.rest p.no_line) (none_at q.line q.rest q.behind q.next q.no_uri) in
    line_not q.line q.rest p.rest p.no_line (subst (λ (z : List ℕ). HasLine q.line q.rest z) (sym r.1) q.next)

-- The URIs and the empty line are there, and the text is cut, or a line is no URI.
cut_tail : (P : List ℕ → Type 0) (text : List ℕ) → BehindUris P text → IsCut text → ⊥
cut_tail P text p q = cut_not text p.tail p.uris p.has q

no_uri_tail : (P : List ℕ → Type 0) (text : List ℕ) → BehindUris P text → HasNoUri text → ⊥
no_uri_tail P text p q = no_uri_not text p.tail p.uris p.has q

-- What is after the empty line isn't base 64, or it is without a key.
no_base64_no_key : (text : List ℕ) → BehindUris NoBase64 text → BehindUris HasNoKey text → ⊥
no_base64_no_key text p q =
    let k = behind_uris HasNoKey text p.tail p.uris p.has q in
    p.is k.octets k.is

pub one_fault : (e f : ReadError) (text : List ℕ) → e ≢ Memory → f ≢ Memory → IsFault e text → IsFault f text → e ≡ f
one_fault Io f text m n p q = absurd p
one_fault UnexpectedEof Io text m n p q = absurd q
one_fault UnexpectedEof UnexpectedEof text m n p q = refl
one_fault UnexpectedEof BadUri text m n p q = absurd (cut_no_uri p.behind p.is (behind_comments HasNoUri text p.behind p.commented q))
one_fault UnexpectedEof BadKeyInfoEncoding text m n p q = absurd (cut_tail NoBase64 p.behind (behind_comments (BehindUris NoBase64) text p.behind p.commented q) p.is)
one_fault UnexpectedEof BadKeyInfo text m n p q = absurd (cut_tail HasNoKey p.behind (behind_comments (BehindUris HasNoKey) text p.behind p.commented q) p.is)
one_fault UnexpectedEof Memory text m n p q = absurd (n refl)
one_fault BadUri Io text m n p q = absurd q
one_fault BadUri UnexpectedEof text m n p q = absurd (cut_no_uri p.behind (behind_comments IsCut text p.behind p.commented q) p.is)
one_fault BadUri BadUri text m n p q = refl
one_fault BadUri BadKeyInfoEncoding text m n p q = absurd (no_uri_tail NoBase64 p.behind (behind_comments (BehindUris NoBase64) text p.behind p.commented q) p.is)
one_fault BadUri BadKeyInfo text m n p q = absurd (no_uri_tail HasNoKey p.behind (behind_comments (BehindUris HasNoKey) text p.behind p.commented q) p.is)
one_fault BadUri Memory text m n p q = absurd (n refl)
one_fault BadKeyInfoEncoding Io text m n p q = absurd q
one_fault BadKeyInfoEncoding UnexpectedEof text m n p q = absurd (cut_tail NoBase64 p.behind p.is (behind_comments IsCut text p.behind p.commented q))
one_fault BadKeyInfoEncoding BadUri text m n p q = absurd (no_uri_tail NoBase64 p.behind p.is (behind_comments HasNoUri text p.behind p.commented q))
one_fault BadKeyInfoEncoding BadKeyInfoEncoding text m n p q = refl
one_fault BadKeyInfoEncoding BadKeyInfo text m n p q = absurd (no_base64_no_key p.behind p.is (behind_comments (BehindUris HasNoKey) text p.behind p.commented q))
one_fault BadKeyInfoEncoding Memory text m n p q = absurd (n refl)
one_fault BadKeyInfo Io text m n p q = absurd q
one_fault BadKeyInfo UnexpectedEof text m n p q = absurd (cut_tail HasNoKey p.behind p.is (behind_comments IsCut text p.behind p.commented q))
one_fault BadKeyInfo BadUri text m n p q = absurd (no_uri_tail HasNoKey p.behind p.is (behind_comments HasNoUri text p.behind p.commented q))
one_fault BadKeyInfo BadKeyInfoEncoding text m n p q = absurd (no_base64_no_key p.behind (behind_comments (BehindUris NoBase64) text p.behind p.commented q) p.is)
one_fault BadKeyInfo BadKeyInfo text m n p q = refl
one_fault BadKeyInfo Memory text m n p q = absurd (n refl)
one_fault Memory f text m n p q = absurd (m refl)
