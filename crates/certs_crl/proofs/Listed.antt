-- What is signed of a list is its fields with two extensions, which say what they have to.
use Rattle.std.proofs.Common.{◌≡◌, ℕ, List, [], ◌∷◌, Option, Some, None, Result, Ok, Err, length, refl, sym, ◌∙◌, subst, arith}
use Rattle.std.specs.Result.{IsErr, IsErrAnd}
use Rattle.certs_crl.specs.bcder_tree.declared.mode.Mode.{Mode}
use Rattle.certs_crl.specs.bcder_source.Errors.{OnContent}
use Rattle.certs_crl.specs.bcder_source.declared.error.DecodeError.{DecodeError}
use Rattle.certs_crl.specs.bcder_tree.Tags.{TagValue, context, sequence_tag}
use Rattle.certs_crl.specs.bcder_tree.Tree.{Tree, Trees}
use Rattle.certs_crl.specs.bcder_content.Contents.{ValuesLeft}
use Rattle.certs_crl.specs.bcder_content.Exact.{Gives, Lacks}
use Rattle.certs_crl.specs.bcder_content.Grammar.{End, Inside, Many, OneAll, Opt, OptCases, Then}
use Rattle.certs_crl.specs.bcder_content.Words.{Gathers}
use Rattle.certs_crl.proofs.of_bcder_content.Took.{one_took}
use Rattle.certs_crl.proofs.of_bcder_content.Unique.{end_one, inside_one, inside_tagged, many_one, opt_one, same_trees, same_values, such_one, then_one}
use Rattle.certs_crl.specs.certs_basics.Basics.{IsAlgorithm}
use Rattle.certs_basics.proofs.Values.{algorithm_one}
use Rattle.certs_x509.proofs.of_certs_extension.Values.{extension_one}
use Rattle.certs_x509.specs.Listing.{entry_one}
use Rattle.certs_x509.specs.certs_extension.CrlText.{AreRevoked, HasListExtensions, IsTbsList, IsTbsListBody, ListFields, RevokedValue, SaysList, TbsListValue}
use Rattle.certs_x509.specs.certs_extension.Extensions.{Extension, IsExtension}
use Rattle.certs_crl.specs.Fields.{ListOf}
use Rattle.certs_crl.specs.Reading.{Finishes, IsOfList, IsPair, IsRead, IsReadBody, IsTail, Pair, ReadFields, SaysBoth, SaysRead, TailFields, list_of, pair_of}
use Rattle.certs_crl.proofs.Pairs.{both_known}

-- The first value stays, and other values come after it.
pub with_rest : {A B C : Type 0} {Q : Tree → A → Type 0} {R : Trees → B → Type 0} {S : Trees → C → Type 0} {ts : Trees} {x : A × B} {y : C}
    → (h : Then Q R ts x) → S h.others y → Then Q S ts (x.0, y)
with_rest h r = record { first = h.first; others = h.others; whole = h.whole; is = h.is; rest = r }

-- A first value that may be missing stays, and other values come after it.
opt_cases : {A B C : Type 0} (tag : TagValue) (Q : Tree → A → Type 0) (R : Trees → B → Type 0) (S : Trees → C → Type 0) (ts : Trees) (o : Option A) (b : B) (c : C)
    → ((us : Trees) → R us b → S us c) → OptCases tag Q R ts o b → OptCases tag Q S ts o c
opt_cases tag Q R S ts None b c f p = (p.0, f ts p.1)
opt_cases tag Q R S ts (Some x) b c f p = with_rest p (f p.others p.rest)

with_opt : {A B C : Type 0} {tag : TagValue} {Q : Tree → A → Type 0} {R : Trees → B → Type 0} {S : Trees → C → Type 0} {ts : Trees} {o : Option A} {b : B} {c : C}
    → ((us : Trees) → R us b → S us c) → Opt tag Q R ts (o, b) → Opt tag Q S ts (o, c)
with_opt {tag = tag} {Q} {R} {S} {ts} {o} {b} {c} f p = record { cases = opt_cases tag Q R S ts o b c f p.cases }

-- Values in [0], which has a SEQUENCE alone.
abbrev IsLast : {A : Type 0} → (Trees → A → Type 0) → Trees → (A × Unit {0}) × Unit {0} → Type 0
IsLast P = Then (Inside (context 0) (Then (Inside sequence_tag P) End)) End

within : {A B : Type 0} {P : Trees → A → Type 0} {R : Trees → B → Type 0} (ts : Trees) {x : (A × Unit {0}) × Unit {0}} {y : (B × Unit {0}) × Unit {0}}
    → ((us : Trees) → P us x.0.0 → R us y.0.0) → IsLast P ts x → IsLast R ts y
within ts f p =
    let k = p.is.is in
    record {
      first = p.first;
      others = p.others;
      whole = p.whole;
      is = record {
        values = p.is.values;
        whole = p.is.whole;
        is = record {
          first = k.first;
          others = k.others;
          whole = k.whole;
          is = record { values = k.is.values; whole = k.is.whole; is = f k.is.values k.is.is };
          rest = record { ended = k.rest.ended };
        };
      };
      rest = record { ended = p.rest.ended };
    }

abbrev the_list : List Extension → List Extension → Type 0
the_list all same = all ≡ same

-- The fields after the updates, with the extensions as a list.
abbrev IsListTail : Mode → Trees → Option (List RevokedValue) × ((List Extension × Unit {0}) × Unit {0}) → Type 0
IsListTail m = Opt sequence_tag AreRevoked (IsLast (Gathers (IsExtension m) the_list))

-- Two extensions as a list, and a list of two.
pair_list : {m : Mode} (p : Pair) (ts : Trees) → IsPair m ts p → Gathers (IsExtension m) the_list ts (list_of p)
pair_list p ts h = record {
  xs = list_of p;
  are = record { cases = (h.first, h.others, h.whole, h.is.is, (h.rest.first, h.rest.others, h.rest.whole, h.rest.is.is, h.rest.rest.ended)) };
  says = refl;
}

two : (all : List Extension) → length all ≡ 2 → (p : Pair) × (all ≡ list_of p)
two [] e = absurd (omega arith)
two (a ∷ []) e = absurd (omega arith)
two (a ∷ b ∷ []) e = ((a, (b, tt)), refl)
two (a ∷ b ∷ c ∷ all) e = absurd (omega arith)

list_pair : {m : Mode} (p : Pair) (ts : Trees) → IsOfList p.0 × IsOfList p.1.0 → Gathers (IsExtension m) the_list ts (list_of p) → IsPair m ts p
list_pair {m} p ts known h =
    let k : Many (IsExtension m) ts (list_of p) = subst (λ (es : List Extension). Many (IsExtension m) ts es) h.says h.are in
    let c = k.cases in
    record {
      first = c.0;
      others = c.1;
      whole = c.2;
      is = record { is = c.3; meets = known.0 };
      rest = record { first = c.4.0; others = c.4.1; whole = c.4.2; is = record { is = c.4.3; meets = known.1 }; rest = record { ended = c.4.4 } };
    }

-- The fields as they were read, with the extensions as a list.
abbrev pub list_fields : ReadFields → ListFields
list_fields f = (f.0, (f.1.0, (f.1.1.0, (f.1.1.1.0, (f.1.1.1.1.0, (f.1.1.1.1.1.0, ((list_of (pair_of f), tt), tt)))))))

pub list_tail : {m : Mode} {ts : Trees} (f : ReadFields) → IsTail m ts f.1.1.1.1.1 → IsListTail m ts (f.1.1.1.1.1.0, ((list_of (pair_of f), tt), tt))
list_tail f p = with_opt (λ us l. within us (pair_list (pair_of f)) l) p

pub says_list : {f : ReadFields} {c : TbsListValue} → SaysRead f c → SaysList (list_fields f) c
says_list s = record {
  has_null = s.has_null;
  issuer = s.issuer;
  this_update = s.this_update;
  next_update = s.next_update;
  revoked = s.revoked;
  extensions = record { count = refl; authority_key_identifier = s.extensions.key_is; number = s.extensions.number_is };
}

-- From the fields as they were read to the list's.
pub read_tbs : {m : Mode} {t : Tree} {f : ReadFields} {c : TbsListValue} → IsRead m t f → SaysRead f c → IsTbsList m t c
read_tbs {m} {f = f} p s =
    let a = p.is in
    let tail = list_tail f a.rest.rest.rest.rest.rest in
    let body : IsTbsListBody m p.values (list_fields f) = with_rest a (with_rest a.rest (with_rest a.rest.rest (with_rest a.rest.rest.rest (with_rest a.rest.rest.rest.rest tail)))) in
    record {
      fields = list_fields f;
      is = record { values = p.values; whole = p.whole; is = body };
      says = says_list s;
    }

-- The fields as they are read, of a list's.
pub record HasRead (m : Mode) (t : Tree) (c : TbsListValue) : Type 0 where
  pub fields : ReadFields
  pub is : IsRead m t fields
  pub both : SaysBoth (list_of (pair_of fields)) c.authority_key_identifier c.number

pub tbs_read : {m : Mode} {t : Tree} {c : TbsListValue} → IsTbsList m t c → HasRead m t c
tbs_read {m} {t} {c} p =
    let f = p.fields in
    let a = p.is.is in
    let all : List Extension = f.1.1.1.1.1.1.0.0 in
    let has : HasListExtensions all c = p.says.extensions in
    let pair = two all has.count in
    let both : SaysBoth all c.authority_key_identifier c.number = record { key_is = has.authority_key_identifier; number_is = has.number } in
    let said : SaysBoth (list_of pair.0) c.authority_key_identifier c.number = subst (λ (es : List Extension). SaysBoth es c.authority_key_identifier c.number) pair.1 both in
    let known = both_known pair.0.0 pair.0.1.0 c.authority_key_identifier c.number said in
    let tail : IsTail m a.rest.rest.rest.rest.others (f.1.1.1.1.1.0, ((pair.0, tt), tt)) =
    with_opt (λ us l. within us (λ vs h. list_pair pair.0 vs known (subst (λ (es : List Extension). Gathers (IsExtension m) the_list vs es) pair.1 h)) l) a.rest.rest.rest.rest.rest in
    let g : ReadFields = (f.0, (f.1.0, (f.1.1.0, (f.1.1.1.0, (f.1.1.1.1.0, (f.1.1.1.1.1.0, ((pair.0, tt), tt))))))) in
    let body : IsReadBody m p.is.values g = with_rest a (with_rest a.rest (with_rest a.rest.rest (with_rest a.rest.rest.rest (with_rest a.rest.rest.rest.rest tail)))) in
    record {
      fields = g;
      is = record { values = p.is.values; whole = p.is.whole; is = body };
      both = said;
    }

-- Values after the first are the same, where all are.
same_rest : {A B C D : Type 0} {Q : Tree → A → Type 0} {R : Trees → B → Type 0} {S : Tree → C → Type 0} {T : Trees → D → Type 0} {ts us : Trees}
    {x : A × B} {y : C × D} → ts ≡ us → (h : Then Q R ts x) → (k : Then S T us y) → h.others ≡ k.others
same_rest e h k = (same_trees (sym h.whole ∙ e ∙ k.whole)).1

tail_one : {m : Mode} → OneAll (IsTail m)
tail_one = opt_one (inside_tagged _ _) (inside_one (many_one entry_one)) (then_one (inside_one (then_one (inside_one (then_one (such_one extension_one) (then_one (such_one extension_one) end_one))) end_one)) end_one)

-- One value has its two extensions in one way: the name in it, whose octets are kept, needn't be the same.
same_pair : {m : Mode} {t : Tree} {f g : ReadFields} → IsRead m t f → IsRead m t g → pair_of f ≡ pair_of g
same_pair {m} {t} {f} {g} p q =
    let a = p.is in
    let b = q.is in
    let e0 = same_values (sym p.whole ∙ q.whole) in
    let e1 = same_rest e0 a b in
    let e2 = same_rest e1 a.rest b.rest in
    let e3 = same_rest e2 a.rest.rest b.rest.rest in
    let e4 = same_rest e3 a.rest.rest.rest b.rest.rest.rest in
    let e5 = same_rest e4 a.rest.rest.rest.rest b.rest.rest.rest.rest in
    let x : TailFields = f.1.1.1.1.1 in
    let y : TailFields = g.1.1.1.1.1 in
    let same : x ≡ y = tail_one.one b.rest.rest.rest.rest.others x y (subst (λ (us : Trees). IsTail m us x) e5 a.rest.rest.rest.rest.rest) b.rest.rest.rest.rest.rest in
    λ i. (same i).1.0.0

-- One value has its algorithm in one way.
pub same_null : {m : Mode} {t : Tree} {c d : TbsListValue} → IsTbsList m t c → IsTbsList m t d → c.has_null ≡ d.has_null
same_null {c = c} {d} p q =
    let a = p.is.is in
    let b = q.is.is in
    let e1 = same_rest (same_values (sym p.is.whole ∙ q.is.whole)) a b in
    let first : a.rest.first ≡ b.rest.first = (same_trees (sym a.rest.whole ∙ e1 ∙ b.rest.whole)).0 in
    let same : p.fields.1.0 ≡ q.fields.1.0 = algorithm_one.one b.rest.first _ _ (subst (λ (u : Tree). IsAlgorithm u p.fields.1.0) first a.rest.is) b.rest.is in
    p.says.has_null ∙ same ∙ sym q.says.has_null

-- The fields were read, and their extensions say both.
pub tbs_gives : {m : Mode} {now new : ValuesLeft} {f : ReadFields} {c : TbsListValue} → Gives (IsRead m) now f new → SaysRead f c → Gives (IsTbsList m) now c new
tbs_gives g s = record { tree = g.tree; is = read_tbs g.is s; took = g.took }

-- No such fields were next.
pub tbs_lacks : {m : Mode} {now : ValuesLeft} → Lacks (IsRead m) now → Lacks (IsTbsList m) now
tbs_lacks l = record { none = λ t c p a. let h = tbs_read p in l.none t h.fields h.is a }

-- The fields were read, and their extensions say something else.
pub tbs_refused : {m : Mode} {now new : ValuesLeft} {f : ReadFields} → Gives (IsRead m) now f new
    → ((key : List ℕ) (number : ℕ) → SaysBoth (list_of (pair_of f)) key number → ⊥) → Lacks (IsTbsList m) now
tbs_refused {m} {f = f} g refuses = record {
  none = λ t c p a.
      let h = tbs_read p in
      let same = (one_took g.took a.1).0 in
      let read = subst (λ (u : Tree). IsRead m u f) same g.is in
      refuses c.authority_key_identifier c.number (subst (λ (x : Pair). SaysBoth (list_of x) c.authority_key_identifier c.number) (same_pair h.is read) h.both);
}

-- `?` passes on why the extensions were refused.
pub stop_finish : {E : Type 0} (f : ReadFields) (r : Result (ListOf (List RevokedValue)) (DecodeError E)) (e : DecodeError E) → IsErr r × IsErrAnd r (λ x. x ≡ e)
    → OnContent e ((key : List ℕ) (number : ℕ) → SaysBoth (list_of (pair_of f)) key number → ⊥) → Finishes f r
stop_finish f (Ok x) e a fact = absurd a.1
stop_finish {E} f (Err x) e a fact = subst (λ (y : DecodeError E). OnContent y ((key : List ℕ) (number : ℕ) → SaysBoth (list_of (pair_of f)) key number → ⊥)) (sym a.1) fact
