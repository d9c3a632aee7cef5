-- Names one by one: which says what all of them say.
use Rattle.std.specs.Prelude.{is_some}
use Rattle.std.proofs.lemmas.Bool.{false≢true}
use Rattle.std.proofs.Common.{◌≡◌, ◌≢◌, ℕ, true, false, List, [], ◌∷◌, ◌++◌, Option, Some, None, Err, refl, sym, ap, ◌∙◌, subst, append_assoc}
use Rattle.certs_extension.specs.bcder_tree.declared.mode.Mode.{Mode}
use Rattle.certs_extension.specs.bcder_tree.Tags.{context}
use Rattle.certs_extension.specs.bcder_tree.Tree.{Trees}
use Rattle.certs_extension.specs.bcder_content.Grammar.{One, Tagged}
use Rattle.certs_extension.specs.bcder_content.Words.{Gathers}
use Rattle.certs_extension.proofs.of_bcder_content.Unique.{many_one}
use Rattle.certs_extension.proofs.of_bcder_octets.Meaning.{one_string}
use Rattle.certs_extension.proofs.of_bcder.Texts.{text_tagged}
use Rattle.certs_basics.specs.Lists.{Each}
use Rattle.certs_extension.specs.Names.{HasOneRsync}
use Rattle.certs_basics.specs.Uris.{IsRsync}
use Rattle.certs_basics.specs.Made.{MakesIf}
use Rattle.certs_basics.specs.declared.uri.error.Error.{Error}
use Rattle.certs_basics.specs.declared.uri.error.Error.TheVariants.{BadUri, Memory}
use Rattle.certs_extension.specs.Grammars.{HaveOneRsync, IsName}
use Rattle.certs_extension.specs.Seen.{Seen}
use Rattle.certs_extension.proofs.AddLaws.{each_more}

-- A name is read in one way, and has its tag.
pub name_one : (m : Mode) → One (IsName m)
name_one m = record { one = λ t x y p q. one_string m (context 6) t x y p.is q.is }

pub name_tagged : (m : Mode) → Tagged (context 6) (IsName m)
name_tagged m = record { tagged = λ t x p. text_tagged.has m (context 6) t x p }

-- No URI was made for another cause than the text.
pub not_made : (wanted : Type 0) (text : List ℕ) (e : Error) → e ≢ Memory → MakesIf wanted text (Err e) → wanted → ⊥
not_made wanted text BadUri h made = made
not_made wanted text Memory h made = absurd (h refl)

each_append : {X : Type 0} (P : X → Type 0) (xs ys : List X) → Each P (xs ++ ys) → Each P ys
each_append P [] ys p = p
each_append P (x ∷ xs) ys p = each_append P xs ys p.1

-- Where one of a list has P, and another is the only one to have it, the same comes after both.
behind-same : {X : Type 0} (P : X → Type 0) (before behind front back : List X) (x y : X)
    → Each (λ z. P z → ⊥) before → Each (λ z. P z → ⊥) behind → P y → before ++ x ∷ behind ≡ front ++ y ∷ back → behind ≡ back
behind-same P [] behind [] back x y none none_behind p e = cc
behind-same P [] behind (z ∷ front) back x y none none_behind p e =
    let same : behind ≡ front ++ y ∷ back = cc in
    absurd ((each_append (λ w. P w → ⊥) front (y ∷ back) (subst (Each (λ w. P w → ⊥)) same none_behind)).0 p)
behind-same P (z ∷ before) behind [] back x y none none_behind p e =
    let same : y ≡ z = cc in
    absurd (none.0 (subst P same p))
behind-same P (z ∷ before) behind (w ∷ front) back x y none none_behind p e = behind-same P before behind front back x y none.1 none_behind p (cc)

-- A name that is no rsync URI is passed over.
pub seen_pass : (names : List (List ℕ)) (name : List ℕ) (found : Option (List ℕ)) → (IsRsync name → ⊥) → Seen names found → Seen (names ++ name ∷ []) found
seen_pass names name None h s = each_more (λ n. IsRsync n → ⊥) names name s h
seen_pass names name (Some uri) h s = record {
  before = s.before;
  behind = s.behind ++ name ∷ [];
  whole = ap (λ t. t ++ name ∷ []) s.whole ∙ append_assoc s.before (uri ∷ s.behind) (name ∷ []);
  readable = s.readable;
  none_before = s.none_before;
  none_behind = each_more (λ n. IsRsync n → ⊥) s.behind name s.none_behind h;
}

-- The first that is one is kept.
pub seen_first : (names : List (List ℕ)) (name uri : List ℕ) → IsRsync name → uri ≡ name → Seen names None → Seen (names ++ name ∷ []) (Some uri)
seen_first names name uri h e s = record {
  before = names;
  behind = [];
  whole = ap (λ t. names ++ t ∷ []) (sym e);
  readable = subst IsRsync (sym e) h;
  none_before = s;
  none_behind = tt;
}

-- A second one is too many, whatever else is there.
pub seen_twice : (names more : List (List ℕ)) (name uri : List ℕ) (found : Option (List ℕ)) → Seen names (Some uri) → IsRsync name → Seen (names ++ name ∷ more) found → ⊥
seen_twice names more name uri None s h t = (each_append (λ n. IsRsync n → ⊥) names (name ∷ more) t).0 h
seen_twice names more name uri (Some other) s h t =
    let whole = sym t.whole ∙ ap (λ ns. ns ++ name ∷ more) s.whole ∙ append_assoc s.before (uri ∷ s.behind) (name ∷ more) in
    let same = behind-same IsRsync t.before t.behind s.before (s.behind ++ name ∷ more) other uri t.none_before t.none_behind s.readable whole in
    (each_append (λ n. IsRsync n → ⊥) s.behind (name ∷ more) (subst (Each (λ n. IsRsync n → ⊥)) same t.none_behind)).0 h

-- Names of which one, and one alone, is an rsync URI are names of which at most one is.
pub one_of_names : (m : Mode) (ts : Trees) (uri : List ℕ) → HaveOneRsync m ts uri → (found : Option (List ℕ)) × Gathers (IsName m) Seen ts found
one_of_names m ts uri p = (Some uri, record { xs = p.xs; are = p.are; says = p.says })

pub names_of_one : (m : Mode) (ts : Trees) (uri : List ℕ) → Gathers (IsName m) Seen ts (Some uri) → HaveOneRsync m ts uri
names_of_one m ts uri p = record { xs = p.xs; are = p.are; says = p.says }

-- Where none is, there isn't one.
pub none_of_names : (m : Mode) (ts : Trees) (uri : List ℕ) → HaveOneRsync m ts uri → Gathers (IsName m) Seen ts None → ⊥
none_of_names m ts uri p q =
    let same = (many_one (name_one m)).one ts p.xs q.xs p.are q.are in
    let says = subst (λ names. HasOneRsync names uri) same p.says in
    (each_append (λ n. IsRsync n → ⊥) says.before (uri ∷ says.behind) (subst (Each (λ n. IsRsync n → ⊥)) says.whole q.says)).0 says.readable

-- Where one was found, another is too many.
pub seen_again : (names more : List (List ℕ)) (name : List ℕ) (old found : Option (List ℕ)) → is_some old ≡ true → Seen names old → IsRsync name → Seen (names ++ name ∷ more) found → ⊥
seen_again names more name None found e s h t = absurd (false≢true e)
seen_again names more name (Some uri) found e s h t = seen_twice names more name uri found s h t

-- Where none was found, none is kept.
pub seen_none : (names : List (List ℕ)) (old : Option (List ℕ)) → is_some old ≡ false → Seen names old → Seen names None
seen_none names None e s = s
seen_none names (Some uri) e s = absurd (false≢true (sym e))
