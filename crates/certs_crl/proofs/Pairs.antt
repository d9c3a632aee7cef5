-- Two extensions, of which one says the issuer's key and the other the list's number.
use Rattle.std.proofs.Common.{◌≡◌, ◌≢◌, ◌⊎◌, ℕ, Bool, true, false, List, [], ◌∷◌, Some, Result, Ok, Err, inl, inr, refl, sym, ◌∙◌, subst, bytes_eq, if◌then◌else◌}
use Rattle.std.proofs.lemmas.Slice.Eq.{bytes_eq-Decides}
use Rattle.std.specs.Result.{IsErr, IsErrAnd}
use Rattle.certs_crl.specs.bcder_tree.Tags.{TagValue, sequence_tag}
use Rattle.certs_crl.specs.bcder_tree.Tree.{Tree}
use Rattle.certs_crl.specs.bcder_source.Errors.{OnContent}
use Rattle.certs_crl.specs.bcder_source.declared.error.DecodeError.{DecodeError}
use Rattle.certs_crl.specs.bcder_source.declared.error.DecodeError.TheVariants.{Content, Source, Memory}
use Rattle.certs_crl.specs.bcder_content.Contents.{Unlike, ValuesLeft, Whole}
use Rattle.certs_crl.specs.bcder_content.Exact.{Gives, GivesAll, Lacks, LacksAll, LacksTagged}
use Rattle.certs_crl.specs.bcder_content.Grammar.{End, Tagged}
use Rattle.certs_crl.specs.bcder_content.Texts.{ReadsFront}
use Rattle.certs_crl.specs.certs_basics.Identifiers as id
use Rattle.certs_crl.specs.bcder_tree.declared.mode.Mode.{Mode}
use Rattle.certs_crl.specs.bcder_tree.declared.mode.Mode.TheVariants.{Der}
use Rattle.certs_crl.specs.bcder_tree.Front.{Front}
use Rattle.certs_crl.specs.certs_basics.Basics.{IsSerial}
use Rattle.certs_x509.specs.certs_extension.Extensions.{Extension, IsAuthority, IsAuthorityKeyIdentifier, IsExtension, IsOptional, May}
use Rattle.certs_crl.specs.Invalid.{IsInvalidTold, TellsInvalid, TellsUnknown, UnknownAhead}
use Rattle.certs_crl.specs.Reading.{AreFronts, IsListExtension, IsOfList, ReadsBoth, ReadsFronts, SaysBoth}
use Rattle.certs_x509.proofs.of_certs_extension.Values.{extension_one}
use Rattle.certs_crl.proofs.of_bcder_content.Choices.{such_refused}
use Rattle.certs_crl.proofs.of_bcder_content.Fronts.{front_lacks, front_reads}
use Rattle.certs_crl.proofs.of_bcder_content.InMode.{filled_end}
use Rattle.certs_crl.proofs.of_bcder_content.Taking.{on_content, weaker}
use Rattle.certs_crl.proofs.of_bcder_content.Took.{ended_none, one_took, whole_none}
use Rattle.certs_crl.proofs.of_bcder_content.Unique.{as_tagged, inside_tagged}

pub extension_tagged : {m : Mode} → Tagged sequence_tag (IsExtension m)
extension_tagged {m} = as_tagged (inside_tagged _ _)

-- The extension that is next isn't one of the list's.
pub unknown_lacks : {m : Mode} {now new : ValuesLeft} {e : Extension} → Gives (IsExtension m) now e new → (IsOfList e → ⊥) → Lacks (IsListExtension m) now
unknown_lacks g refuses = such_refused extension_one g refuses

-- Nothing is next, or something is.

pub no_more : {tag : TagValue} {now new : ValuesLeft} → (new ≡ now) × Unlike now tag → GivesAll End now tt new
no_more {now = now} h = subst (λ (v : ValuesLeft). GivesAll End now tt v) (sym h.0) (filled_end.gives h.1.sound)

pub some_more : {A : Type 0} {Q : Tree → A → Type 0} {now new : ValuesLeft} {x : A} → Gives Q now x new → LacksAll End now
some_more {now = now} g = record { none = λ ts x p w. ended_none (whole_none (subst (Whole now) p.ended w)) g.took }

pub goes_on : {A : Type 0} {tag : TagValue} {Q : Tree → A → Type 0} {now : ValuesLeft} → LacksTagged tag Q now → LacksAll End now
goes_on {now = now} l = record { none = λ ts x p w. l.goes_on (whole_none (subst (Whole now) p.ended w)) }

-- An extension is refused by a text.
pub told_refused : {E P : Type 0} (kind : List ℕ) (e : DecodeError E) → TellsInvalid kind e → P → OnContent e P
told_refused kind (Content error pos) h p = p
told_refused kind (Source error) h p = absurd h
told_refused kind Memory h p = absurd h

-- The extension that was read is the one that is next, and is told.
same_kind : {v new : ValuesLeft} {x e : Extension} → Gives (IsExtension v.mode) v x new → UnknownAhead v e → x ≡ e
same_kind {v} {x = x} {e} g u =
    let same : g.tree ≡ u.tree = (one_took g.took u.ahead.1).0 in
    extension_one.one u.tree x e (subst (λ (t : Tree). IsExtension v.mode t x) same g.is) u.is

pub tells_kind : {E : Type 0} {v new : ValuesLeft} {x : Extension} (r : DecodeError E) → TellsInvalid x.kind r → Gives (IsExtension v.mode) v x new → TellsUnknown v r
tells_kind (Content error pos) h g = λ e u. subst (λ (z : Extension). IsInvalidTold z.kind error) (same_kind g u) h
tells_kind (Source error) h g = tt
tells_kind Memory h g = tt

-- No extension is next that a list doesn't have: there is none at all, it was refused, or it is one of a list.
tells_none : {E : Type 0} (v : ValuesLeft) (r : DecodeError E) → OnContent r ((e : Extension) → UnknownAhead v e → ⊥) → TellsUnknown v r
tells_none v (Content error pos) h = λ e u. absurd (h e u)
tells_none v (Source error) h = tt
tells_none v Memory h = tt

pub tells_lacks : {E : Type 0} (v : ValuesLeft) (r : DecodeError E) → OnContent r (LacksTagged sequence_tag (IsExtension v.mode) v) → TellsUnknown v r
tells_lacks v r h = tells_none v r (weaker r (λ l e u. l.lacks.none u.tree e u.is u.ahead) h)

pub tells_absent : {E : Type 0} {v : ValuesLeft} (r : DecodeError E) → Unlike v sequence_tag → TellsUnknown v r
tells_absent {v = v} r h = tells_none v r (on_content r (λ e u. h.none u.tree u.ahead (extension_tagged.tagged u.tree e u.is)))

pub tells_known : {E : Type 0} {v new : ValuesLeft} {x : Extension} (r : DecodeError E) → IsOfList x → Gives (IsExtension v.mode) v x new → TellsUnknown v r
tells_known {v = v} r known g = tells_none v r (on_content r (λ e u. u.unknown (subst IsOfList (same_kind g u) known)))

-- Those of two extensions that are of a kind.
abbrev picked : Bool → Bool → Extension → Extension → List Extension
picked b c e f = if b then e ∷ (if c then f ∷ [] else []) else (if c then f ∷ [] else [])

module _ {A : Type 0} {Q : Tree → A → Type 0} {x : A} where
  first_alone : (b c : Bool) (e f : Extension) → b ≡ true → c ≡ false → ReadsFront Q e.octets x → IsOptional May Q (picked b c e f) (Some x)
  first_alone true false e f p q r = (tt, r)
  first_alone true true e f p q r = absurd cc
  first_alone false c e f p q r = absurd cc

  second_alone : (b c : Bool) (e f : Extension) → b ≡ false → c ≡ true → ReadsFront Q f.octets x → IsOptional May Q (picked b c e f) (Some x)
  second_alone false true e f p q r = (tt, r)
  second_alone false false e f p q r = absurd cc
  second_alone true c e f p q r = absurd cc

  one_alone : (b c : Bool) (e f : Extension) → IsOptional May Q (picked b c e f) (Some x)
      → ((b ≡ true) × (c ≡ false) × ReadsFront Q e.octets x) ⊎ ((b ≡ false) × (c ≡ true) × ReadsFront Q f.octets x)
  one_alone true true e f p = absurd p
  one_alone true false e f p = inl (refl, refl, p.1)
  one_alone false true e f p = inr (refl, refl, p.1)
  one_alone false false e f p = absurd p

is_kind : (e : Extension) (k : List ℕ) → e.kind ≡ k → bytes_eq e.kind k ≡ true
is_kind e k p = (bytes_eq-Decides e.kind k).1 p

of_true : (e : Extension) (k : List ℕ) → bytes_eq e.kind k ≡ true → e.kind ≡ k
of_true e k p = (bytes_eq-Decides e.kind k).0 p

not_kind : (e : Extension) (k : List ℕ) → (e.kind ≡ k → ⊥) → bytes_eq e.kind k ≡ false
not_kind e k differs = at (bytes_eq e.kind k) (λ t. differs (of_true e k t))
  where
    at : (b : Bool) → (b ≡ true → ⊥) → b ≡ false
    at true h = absurd (h refl)
    at false h = refl

kinds_differ : id.authority_key_identifier ≢ id.crl_number
kinds_differ e = cc

never_both : (e : Extension) → e.kind ≡ id.authority_key_identifier → e.kind ≡ id.crl_number → ⊥
never_both e p q = kinds_differ (sym p ∙ q)

-- One extension's identifier is that of a key, the other's that of a number.
abbrev pub AreNamed : Extension → Extension → Type 0
AreNamed key number = (key.kind ≡ id.authority_key_identifier) × (number.kind ≡ id.crl_number)

said_in_order : (e f : Extension) (x : List ℕ × ℕ) → AreNamed e f → AreFronts e.octets f.octets x → SaysBoth (e ∷ f ∷ []) x.0 x.1
said_in_order e f x n h = record {
  key_is = first_alone (bytes_eq e.kind id.authority_key_identifier) (bytes_eq f.kind id.authority_key_identifier) e f (is_kind e id.authority_key_identifier n.0) (not_kind f id.authority_key_identifier (λ k. never_both f k n.1)) h.key_is;
  number_is = second_alone (bytes_eq e.kind id.crl_number) (bytes_eq f.kind id.crl_number) e f (not_kind e id.crl_number (λ k. never_both e n.0 k)) (is_kind f id.crl_number n.1) h.number_is;
}

said_swapped : (e f : Extension) (x : List ℕ × ℕ) → AreNamed f e → AreFronts f.octets e.octets x → SaysBoth (e ∷ f ∷ []) x.0 x.1
said_swapped e f x n h = record {
  key_is = second_alone (bytes_eq e.kind id.authority_key_identifier) (bytes_eq f.kind id.authority_key_identifier) e f (not_kind e id.authority_key_identifier (λ k. never_both e k n.1)) (is_kind f id.authority_key_identifier n.0) h.key_is;
  number_is = first_alone (bytes_eq e.kind id.crl_number) (bytes_eq f.kind id.crl_number) e f (is_kind e id.crl_number n.1) (not_kind f id.crl_number (λ k. never_both f n.0 k)) h.number_is;
}

-- Where both are said they are named in one order or the other.
pub named_by : (e f : Extension) (key : List ℕ) (number : ℕ) → SaysBoth (e ∷ f ∷ []) key number
    → (AreNamed e f × AreFronts e.octets f.octets (key, number)) ⊎ (AreNamed f e × AreFronts f.octets e.octets (key, number))
named_by e f key number s = elim (one_alone (bytes_eq e.kind id.authority_key_identifier) (bytes_eq f.kind id.authority_key_identifier) e f s.key_is) [
  | inl k ↦ elim (one_alone (bytes_eq e.kind id.crl_number) (bytes_eq f.kind id.crl_number) e f s.number_is) [
    | inl n ↦ absurd (never_both e (of_true e id.authority_key_identifier k.0) (of_true e id.crl_number n.0))
    | inr n ↦ inl ((of_true e id.authority_key_identifier k.0, of_true f id.crl_number n.1), record { key_is = k.2; number_is = n.2 })
  ]
  | inr k ↦ elim (one_alone (bytes_eq e.kind id.crl_number) (bytes_eq f.kind id.crl_number) e f s.number_is) [
    | inl n ↦ inr ((of_true f id.authority_key_identifier k.1, of_true e id.crl_number n.0), record { key_is = k.2; number_is = n.2 })
    | inr n ↦ absurd (never_both f (of_true f id.authority_key_identifier k.1) (of_true f id.crl_number n.1))
  ]
]

-- Where both are said each of the two is one of the list's.
pub both_known : (e f : Extension) (key : List ℕ) (number : ℕ) → SaysBoth (e ∷ f ∷ []) key number → IsOfList e × IsOfList f
both_known e f key number s = elim (named_by e f key number s) [
  | inl is ↦ (inl is.0.0, inr is.0.1)
  | inr is ↦ (inr is.0.1, inl is.0.0)
]

pub both_in_order : {E : Type 0} (e f : Extension) (r : Result (List ℕ × ℕ) (DecodeError E)) → AreNamed e f → ReadsFronts e.octets f.octets r → ReadsBoth (e ∷ f ∷ []) r
both_in_order e f (Ok x) n h = said_in_order e f x n h
both_in_order e f (Err x) n h = weaker x (λ none key number s. elim (named_by e f key number s) [
  | inl is ↦ none (key, number) is.1
  | inr is ↦ never_both e n.0 is.0.1
]) h

pub both_swapped : {E : Type 0} (e f : Extension) (r : Result (List ℕ × ℕ) (DecodeError E)) → AreNamed f e → ReadsFronts f.octets e.octets r → ReadsBoth (e ∷ f ∷ []) r
both_swapped e f (Ok x) n h = said_swapped e f x n h
both_swapped e f (Err x) n h = weaker x (λ none key number s. elim (named_by e f key number s) [
  | inl is ↦ never_both e is.0.0 n.1
  | inr is ↦ none (key, number) is.1
]) h

pub none_said : (e f : Extension) → (AreNamed e f → ⊥) → (AreNamed f e → ⊥) → (key : List ℕ) (number : ℕ) → SaysBoth (e ∷ f ∷ []) key number → ⊥
none_said e f p q key number s = elim (named_by e f key number s) [
  | inl is ↦ p is.0
  | inr is ↦ q is.0
]

-- `?` passes on why a value wasn't read.
pub stop_fronts : {E P : Type 0} (key number : List ℕ) (r : Result (List ℕ × ℕ) (DecodeError E)) (e : DecodeError E) → IsErr r × IsErrAnd r (λ x. x ≡ e)
    → (P → (x : List ℕ × ℕ) → AreFronts key number x → ⊥) → OnContent e P → ReadsFronts key number r
stop_fronts key number (Ok x) e a h fact = absurd a.1
stop_fronts {E} key number (Err x) e a h fact = subst (λ (y : DecodeError E). OnContent y ((x : List ℕ × ℕ) → AreFronts key number x → ⊥)) (sym a.1) (weaker e h fact)

-- The octets that were decoded.
pub fronts_read : {a b key number : List ℕ} {x : List ℕ × ℕ} → a ≡ key → b ≡ number
    → (t : Tree) × (rest : List ℕ) × Front Der a t rest × IsAuthority Der t x.0 → (t : Tree) × (rest : List ℕ) × Front Der b t rest × IsSerial t x.1
    → AreFronts key number x
fronts_read {x = x} p q d e = record {
  key_is = subst (λ (o : List ℕ). ReadsFront IsAuthorityKeyIdentifier o x.0) p (front_reads d);
  number_is = subst (λ (o : List ℕ). ReadsFront IsSerial o x.1) q (front_reads e);
}

pub key_lacks : {a key number : List ℕ} → a ≡ key → ((t : Tree) (x : List ℕ) (rest : List ℕ) → IsAuthority Der t x → Front Der a t rest → ⊥)
    → (x : List ℕ × ℕ) → AreFronts key number x → ⊥
key_lacks p none x h = front_lacks none x.0 (subst (λ (o : List ℕ). ReadsFront IsAuthorityKeyIdentifier o x.0) (sym p) h.key_is)

pub number_lacks : {a key number : List ℕ} → a ≡ number → ((t : Tree) (x : ℕ) (rest : List ℕ) → IsSerial t x → Front Der a t rest → ⊥)
    → (x : List ℕ × ℕ) → AreFronts key number x → ⊥
number_lacks p none x h = front_lacks none x.1 (subst (λ (o : List ℕ). ReadsFront IsSerial o x.1) (sym p) h.number_is)
