-- URIs on lines.
use Rattle.std.proofs.Common.{◌≡◌, ◌≢◌, ◌↔◌, inl, inr, ℕ, Bool, true, false, IsTrue, bytes_eq, List, [], ◌∷◌, ◌++◌, map, take, get_or, length, ◌==◌, Result, Ok, Err, IsErr, IsErrAnd, refl, sym, ap, ◌∙◌, subst, append_assoc, arith, codes}
use Rattle.std.proofs.lemmas.List.Elements.{All-nil, All-cons, All-append, All-head}
use Rattle.certs_basics.proofs.UriTexts.{HasScheme-from_rsync, HasScheme-from_https}
use Rattle.objects_payload.specs.certs_basics.Uris.{lower, IsHttps, IsUri}
use Rattle.objects_payload.specs.Locators.{is_https}
use Rattle.objects_payload.specs.Lines.{HasLine}
use Rattle.std.proofs.lemmas.List.{map-append}
use Rattle.objects_payload.specs.declared.locator.error.ReadError.{ReadError}
use Rattle.objects_payload.specs.declared.locator.error.ReadError.TheVariants.{Io, UnexpectedEof, BadUri, BadKeyInfoEncoding, BadKeyInfo, Memory}
use Rattle.objects_payload.specs.declared.locator.uri.TalUri.{TalUri}
use Rattle.objects_payload.specs.Uris.{text_of}
use Rattle.objects_payload.specs.Faults.{HasUris, StartsWithUri, ReadsUri, TakesUris}
use Rattle.objects_payload.proofs.LineTexts.{lines_more}

pub no_uris : (text : List ℕ) → HasUris [] text text
no_uris text = record { front = []; whole = refl; front_is = refl; uris_are = All-nil IsUri }

pub uri_more : (uris : List (List ℕ)) (uri rest behind text : List ℕ) → HasUris uris rest text → HasLine uri behind rest → IsUri uri → HasUris (uris ++ uri ∷ []) behind text
uri_more uris uri rest behind text h l u = record {
  front = h.front ++ l.front;
  whole = h.whole ∙ ap (λ (z : List ℕ). h.front ++ z) l.whole ∙ sym (append_assoc h.front l.front behind);
  front_is = lines_more uris uri h.front l.front h.front_is l.ends;
  uris_are = All-append IsUri uris (uri ∷ []) h.uris_are (All-cons IsUri uri [] u (All-nil IsUri));
}

-- The first of the URIs, and the next one stands in front where there is none.
pub starts : (uris : List (List ℕ)) (uri rest behind text : List ℕ) → HasUris uris rest text → HasLine uri behind rest → IsUri uri → StartsWithUri text
starts [] uri rest behind text h l u = record { uri = uri; rest = behind; has = record { front = l.front; ends = l.ends; whole = h.whole ∙ ap (λ (z : List ℕ). z ++ rest) h.front_is ∙ l.whole }; is = u }
starts (x ∷ uris) uri rest behind text h l u =
    let f = h.front_is in
    record {
      uri = x;
      rest = f.1 ++ rest;
      has = record { front = f.0; ends = f.2; whole = h.whole ∙ ap (λ (z : List ℕ). z ++ rest) f.4 ∙ append_assoc f.0 f.1 rest };
      is = All-head IsUri x uris h.uris_are;
    }

-- A URI's first 8 octets tell whether it is an https URI.
not_https : (uri : List ℕ) (r : Bool) → (IsTrue r ↔ IsHttps uri) → map lower (take 8 uri) ≡ codes "rsync://" → r ≡ false
not_https uri true e s =
    let h = (HasScheme-from_https uri (e.0 refl)).0 in
    let k : 114 ≡ 104 = ap (λ (z : List ℕ). get_or z 0 0) (sym s ∙ h.scheme_is) in absurd (omega (arith, k))
not_https uri false e s = refl

https : (uri : List ℕ) (r : Bool) → (IsTrue r ↔ IsHttps uri) → IsHttps uri → r ≡ true
https uri true e h = refl
https uri false e h = e.1 h

pub https_test : (uri : List ℕ) (r : Bool) → IsUri uri → (IsTrue r ↔ IsHttps uri) → r ≡ is_https uri
https_test uri r (inl s) e =
    let scheme = (HasScheme-from_rsync uri s).0.scheme_is in
    let k : is_https uri ≡ false = ap (λ (z : List ℕ). bytes_eq z (codes "https://")) scheme in
    not_https uri r e scheme ∙ sym k
https_test uri r (inr s) e =
    let scheme = (HasScheme-from_https uri s).0.scheme_is in
    let k : is_https uri ≡ true = ap (λ (z : List ℕ). bytes_eq z (codes "https://")) scheme in
    https uri r e s ∙ sym k

-- An error is passed on.
pub passed : {A : Type 0} (r : Result A ReadError) (e : ReadError) → IsErr r × IsErrAnd r (λ x. x ≡ e) → (P : Result A ReadError → Type 0) → P (Err e) → P r
passed (Ok x) e a P p = absurd a.1
passed (Err x) e a P p = subst (λ (z : ReadError). P (Err z)) (sym a.1) p

-- The line isn't empty.
pub not_empty_line : (line : List ℕ) (r : Bool) → r ≡ (length line == 0) → r ≡ false → line ≢ []
not_empty_line line r e f g = let t : true ≡ false = sym (ap (λ (z : List ℕ). length z == 0) g) ∙ sym e ∙ f in absurd cc

-- Why a line is refused.
pub line_fault : (e : ReadError) (uris : List (List ℕ)) (line rest behind text : List ℕ) → HasUris uris rest text → HasLine line behind rest → line ≢ [] → ReadsUri line (Err e) → TakesUris text (Err e)
line_fault Io uris line rest behind text h l n f = absurd f
line_fault UnexpectedEof uris line rest behind text h l n f = absurd f
line_fault BadUri uris line rest behind text h l n f = record { uris = uris; behind = rest; has = h; line = line; rest = behind; next = l; no_uri = f; none = λ e. absurd (n e) }
line_fault BadKeyInfoEncoding uris line rest behind text h l n f = absurd f
line_fault BadKeyInfo uris line rest behind text h l n f = absurd f
line_fault Memory uris line rest behind text h l n f = starts uris line rest behind text h l f

-- One URI more.
pub uris_push : (us new : List TalUri) (u : TalUri) (line rest behind text : List ℕ) → HasUris (map text_of us) rest text → HasLine line behind rest → IsUri line → text_of u ≡ line → new ≡ us ++ u ∷ [] → HasUris (map text_of new) behind text
uris_push us new u line rest behind text h l i t e =
    subst (λ (zs : List (List ℕ)). HasUris zs behind text) (sym (ap (λ (z : List TalUri). map text_of z) e ∙ map-append text_of us (u ∷ []) ∙ ap (λ (z : List ℕ). map text_of us ++ z ∷ []) t))
    (uri_more (map text_of us) line rest behind text h l i)
