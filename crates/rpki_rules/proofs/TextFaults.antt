-- A text that is no locator has a fault.
use Rattle.std.proofs.Common.{◌≡◌, ◌≢◌, ℕ, zero, suc, ◌<◌, List, [], ◌∷◌, ◌++◌, length, inl, inr, refl, ap, subst, arith, All}
use Rattle.std.proofs.lemmas.List.Elements.{All-nil, All-cons}
use Rattle.objects_payload.specs.certs_basics.Keys.{KeyValue}
use Rattle.objects_payload.specs.declared.locator.error.ReadError.{ReadError}
use Rattle.objects_payload.specs.declared.locator.error.ReadError.TheVariants.{UnexpectedEof, BadUri, BadKeyInfoEncoding, BadKeyInfo, Memory}
use Rattle.objects_payload.specs.Locators.{LocatorText}
use Rattle.objects_payload.specs.Lines.{HasLine, NoLine, HasComments, Commented}
use Rattle.objects_payload.specs.Faults.{HasUris, HasAllUris, IsCut, HasNoUri, IsFault}
use Rattle.objects_payload.proofs.LineTexts.{no_return, line_is, shorter, no_comments, comment_more}
use Rattle.objects_payload.proofs.UriLines.{no_uris, uri_more}
use Rattle.objects_payload.proofs.Whole.{locator_is}

-- A text in which some line ends has a first LF.
feed_of : (text : List ℕ) → ¬ (NoLine text) → ¬ ((ended rest : List ℕ) → All (λ c. c ≢ 10) ended → ¬ (text ≡ ended ++ 10 ∷ rest))
feed_of [] never none = never (All-nil (λ c. c ≢ 10))
feed_of (c ∷ text) never none =
    let differs : c ≢ 10 = λ e. none [] text (All-nil (λ c. c ≢ 10)) (ap (λ (z : ℕ). z ∷ text) e) in
    feed_of text (λ n. never (All-cons (λ c. c ≢ 10) c text differs n))
    (λ ended rest p w. none (c ∷ ended) rest (All-cons (λ c. c ≢ 10) c ended differs p) (ap (λ (z : List ℕ). c ∷ z) w))

line_of : (text : List ℕ) → ¬ (NoLine text) → ¬ ((line rest : List ℕ) → ¬ (HasLine line rest text))
line_of text never none = feed_of text never (λ ended rest p w.
    none ended rest (line_is ended rest ended text p (inl (refl, no_return ended (λ front e. none front rest (line_is front rest ended text p (inr e) w)))) w))

-- After comments, `n` bounds what is left.
behind_of : (n : ℕ) (text rest : List ℕ) → length rest < n → HasComments rest text → ¬ ((behind : List ℕ) → ¬ (Commented behind text))
behind_of zero text rest l h none = absurd (omega (arith, l))
behind_of (suc n) text rest l h none = none rest (record {
  has = h;
  no_more = λ line r k c.
      let s = shorter line r rest k in
      behind_of n text r (omega (arith, s, l)) (comment_more text rest r h (record { line = line; has = k; is = c })) none;
})

module _ (text : List ℕ) (cut : ¬ (IsCut text)) (bad : ¬ (HasNoUri text)) (none : (xs : List (List ℕ)) (t : List ℕ) → ¬ (HasAllUris xs t text)) where
  -- The line is empty, and no URI stands before it.
  no_uri_yet : (uris : List (List ℕ)) (line r rest : List ℕ) → HasUris uris rest text → HasLine line r rest → line ≡ [] → uris ≡ []
  no_uri_yet [] line r rest h k e = refl
  no_uri_yet (x ∷ xs) line r rest h k e =
      absurd (none (x ∷ xs) r (record { behind = rest; has = h; some = λ z. absurd cc; empty = subst (λ (v : List ℕ). HasLine v r rest) e k }))

  uris_of : (n : ℕ) (uris : List (List ℕ)) (rest : List ℕ) → length rest < n → HasUris uris rest text → ⊥
  uris_of zero uris rest l h = absurd (omega (arith, l))
  uris_of (suc n) uris rest l h =
      line_of rest (λ never. cut (record { uris = uris; rest = rest; has = h; no_line = never })) (λ line r k. bad (record {
        uris = uris;
        behind = rest;
        has = h;
        line = line;
        rest = r;
        next = k;
        no_uri = λ i.
            let s = shorter line r rest k in
            uris_of n (uris ++ line ∷ []) r (omega (arith, s, l)) (uri_more uris line rest r text h k i);
        none = no_uri_yet uris line r rest h k;
      }))

all_uris : (text : List ℕ) → ¬ (IsCut text) → ¬ (HasNoUri text) → ¬ ((xs : List (List ℕ)) (t : List ℕ) → ¬ (HasAllUris xs t text))
all_uris text cut bad none = uris_of text cut bad none (suc (length text)) [] text (omega arith) (no_uris text)

pub has_fault : (text : List ℕ) → ((e : ReadError) → e ≢ Memory → ¬ (IsFault e text)) → ¬ ((uris : List (List ℕ)) (key : KeyValue) → ¬ (LocatorText text uris key))
has_fault text faultless none = behind_of (suc (length text)) text text (omega arith) (no_comments text) (λ behind c.
    all_uris behind (λ f. faultless UnexpectedEof (λ e. absurd cc) (record { behind = behind; commented = c; is = f }))
    (λ f. faultless BadUri (λ e. absurd cc) (record { behind = behind; commented = c; is = f }))
    (λ uris tail a. faultless BadKeyInfoEncoding (λ e. absurd cc) (record {
      behind = behind;
      commented = c;
      is = record {
        uris = uris;
        tail = tail;
        has = a;
        is = λ octets b.
            faultless BadKeyInfo (λ e. absurd cc) (record { behind = behind; commented = c; is = record { uris = uris; tail = tail; has = a; is = record { octets = octets; is = b; none = λ key k. none uris key (locator_is text behind tail uris key c a k) } } });
      };
    })))
