-- Grammars of trees and of octets agree: what is put together alike of parts that agree does.
use Rattle.std.proofs.Common.{◌≡◌, ◌≢◌, ◌↔◌, ℕ, Bool, List, refl, sym, ap, subst}
use Rattle.certs_extension.specs.bcder_tree.declared.mode.Mode.TheVariants.{Ber, Der}
use Rattle.certs_extension.specs.bcder_tree.Tags.{TagValue, sequence_tag}
use Rattle.certs_extension.specs.bcder_tree.Tree.{Tree, Trees, constructed, none, more, Spells, SpellsAll}
use Rattle.certs_extension.proofs.of_bcder_tree.Trees.{one_tree}
use Rattle.certs_extension.proofs.of_bcder_tree.Canonical.{one_spelling}
use Rattle.certs_extension.proofs.of_bcder_tree.Fronts.{whole_front}
use Rattle.certs_extension.specs.bcder_content.Grammar.{Inside, OctetsOf, Then, End}
use Rattle.certs_extension.specs.bcder_content.Kept.{CapturedValue}
use Rattle.certs_extension.specs.bcder_content.Words.{Kept}
use Rattle.certs_extension.specs.bcder_content.Texts.{SpellsOf, InOrder, WithOctets, Wraps, Joins, NoOctets}
use Rattle.certs_extension.specs.bcder_octets.Bits.{BitsValue}
use Rattle.certs_extension.specs.bcder_octets.BitContents.{IsBitString, bit_string_tag}
use Rattle.certs_extension.specs.certs_basics.Basics.{IsAlgorithm}
use Rattle.certs_extension.specs.certs_basics.Names.{IsKeptName, SpellsName}
use Rattle.certs_extension.specs.CertText.{IsTbsBody, IsTbs, SpellsFields, SpellsTbs, SpellsSigned}
use Rattle.certs_extension.specs.CrlText.{IsTbsListBody, IsTbsList, SpellsListFields, SpellsTbsList}
use Rattle.certs_extension.specs.Spellings.{CertIsSpelled, CrlIsSpelled}

-- The octets of P are those of trees of Q.
record Agree {A : Type 0} (Q : Tree → A → Type 0) (P : List ℕ → A → Type 0) : Type 0 where
  same : (text : List ℕ) (x : A) → SpellsOf Der Q text x ↔ P text x

-- The octets of P are those of values of R, one after the other.
record AgreeAll {A : Type 0} (R : Trees → A → Type 0) (P : List ℕ → A → Type 0) : Type 0 where
  same : (text : List ℕ) (x : A) → InOrder Der R text x ↔ P text x

der_alone : Der ≢ Ber
der_alone e = absurd cc

one_text : (t : Tree) (a b : List ℕ) → Spells Der t a → Spells Der t b → a ≡ b
one_text t a b p q = one_spelling Der t a b der_alone p q

one_of : (t u : Tree) (text : List ℕ) → Spells Der t text → Spells Der u text → t ≡ u
one_of t u text p q = (one_tree t u (whole_front p) (whole_front q)).0

itself : {A : Type 0} {Q : Tree → A → Type 0} → Agree Q (SpellsOf Der Q)
itself = record { same = λ text x. (λ p. p, λ p. p) }

in_order : {A : Type 0} {R : Trees → A → Type 0} → AgreeAll R (InOrder Der R)
in_order = record { same = λ text x. (λ p. p, λ p. p) }

wraps : {A : Type 0} {tag : TagValue} {R : Trees → A → Type 0} {P : List ℕ → A → Type 0} → AgreeAll R P → Agree (Inside tag R) (Wraps Der tag P)
wraps {A} {tag} {R} {P} e = record { same = λ text x. (to text x, back text x) }
  where
    to : (text : List ℕ) (x : A) → SpellsOf Der (Inside tag R) text x → Wraps Der tag P text x
    to text x p =
        let s = subst (λ (t : Tree). Spells Der t text) p.is.whole p.spelled in
        record { content = s.0; around = s.1; is = (e.same s.0 x).0 (record { trees = p.is.values; is = p.is.is; spelled = s.2 }) }

    back : (text : List ℕ) (x : A) → Wraps Der tag P text x → SpellsOf Der (Inside tag R) text x
    back text x p =
        let q = (e.same p.content x).1 p.is in
        record { tree = constructed tag q.trees; is = record { values = q.trees; whole = refl; is = q.is }; spelled = (p.content, p.around, q.spelled) }

joins : {A B : Type 0} {Q : Tree → A → Type 0} {P : List ℕ → A → Type 0} {R : Trees → B → Type 0} {S : List ℕ → B → Type 0} → Agree Q P → AgreeAll R S → AgreeAll (Then Q R) (Joins P S)
joins {A} {B} {Q} {P} {R} {S} e f = record { same = λ text x. (to text x, back text x) }
  where
    to : (text : List ℕ) (x : A × B) → InOrder Der (Then Q R) text x → Joins P S text x
    to text x p =
        let s = subst (λ (ts : Trees). SpellsAll Der ts text) p.is.whole p.spelled in
        record {
          first = s.0;
          others = s.1;
          whole = s.4;
          is = (e.same s.0 x.0).0 (record { tree = p.is.first; is = p.is.is; spelled = s.2 });
          rest = (f.same s.1 x.1).0 (record { trees = p.is.others; is = p.is.rest; spelled = s.3 });
        }

    back : (text : List ℕ) (x : A × B) → Joins P S text x → InOrder Der (Then Q R) text x
    back text x p =
        let q = (e.same p.first x.0).1 p.is in
        let r = (f.same p.others x.1).1 p.rest in
        record {
          trees = more q.tree r.trees;
          is = record { first = q.tree; others = r.trees; whole = refl; is = q.is; rest = r.is };
          spelled = (p.first, p.others, q.spelled, r.spelled, p.whole);
        }

no_octets : AgreeAll End NoOctets
no_octets = record {
  same = λ text x. (
    λ p. record { none = subst (λ (ts : Trees). SpellsAll Der ts text) p.is.ended p.spelled },
    λ p. record { trees = none; is = record { ended = refl }; spelled = p.none },
  );
}

-- Kept octets are those that stand there.
kept : {A : Type 0} {Q : Tree → A → Type 0} {P : List ℕ → A → Type 0} → Agree Q P → Agree (Kept Der Q) (WithOctets P)
kept {A} {Q} {P} e = record { same = λ text x. (to text x, back text x) }
  where
    to : (text : List ℕ) (x : List ℕ × A) → SpellsOf Der (Kept Der Q) text x → WithOctets P text x
    to text x p = record { same = one_text p.tree x.0 text p.is.spelled p.spelled; is = (e.same text x.1).0 (record { tree = p.tree; is = p.is.is; spelled = p.spelled }) }

    back : (text : List ℕ) (x : List ℕ × A) → WithOctets P text x → SpellsOf Der (Kept Der Q) text x
    back text x p =
        let q = (e.same text x.1).1 p.is in
        record { tree = q.tree; is = record { spelled = subst (λ (o : List ℕ). Spells Der q.tree o) (sym p.same) q.spelled; is = q.is }; spelled = q.spelled }

names : Agree (IsKeptName Der) (SpellsName Der)
names = record { same = λ text x. (to text x, back text x) }
  where
    to : (text : List ℕ) (x : CapturedValue) → SpellsOf Der (IsKeptName Der) text x → SpellsName Der text x
    to text x p =
        let o : x.octets ≡ text = one_text p.tree x.octets text p.is.spelled p.spelled in
        let m : x.mode ≡ Der = p.is.mode in
        record { same = λ i. record { mode = m i; octets = o i }; all = p.is.all; is = record { tree = p.tree; is = p.is.is; spelled = p.spelled } }

    back : (text : List ℕ) (x : CapturedValue) → SpellsName Der text x → SpellsOf Der (IsKeptName Der) text x
    back text x p = record {
      tree = p.is.tree;
      is = record {
        mode = ap (λ (c : CapturedValue). c.mode) p.same;
        spelled = subst (λ (o : List ℕ). Spells Der p.is.tree o) (sym (ap (λ (c : CapturedValue). c.octets) p.same)) p.is.spelled;
        all = p.all;
        is = p.is.is;
      };
      spelled = p.is.spelled;
    }

-- What is signed, the algorithm and the signature, as a tree.
abbrev IsSignedTree : {A : Type 0} → (Tree → A → Type 0) → Tree → (List ℕ × A) × (Bool × (BitsValue × Unit {0})) → Type 0
IsSignedTree Q = Inside sequence_tag (Then (Kept Der Q) (Then IsAlgorithm (Then (OctetsOf bit_string_tag (IsBitString Der)) End)))

signed : {A : Type 0} {Q : Tree → A → Type 0} {P : List ℕ → A → Type 0} → Agree Q P → Agree (IsSignedTree Q) (SpellsSigned Der P)
signed e = wraps (joins (kept e) (joins itself (joins itself no_octets)))

fields : Agree (Inside sequence_tag (IsTbsBody Der)) (SpellsFields Der)
fields = wraps (joins itself (joins itself (joins itself (joins names (joins itself (joins names (joins itself (joins itself no_octets))))))))

tbs : Agree (IsTbs Der) (SpellsTbs Der)
tbs = record {
  same = λ text c. (
    λ p. record { fields = p.is.fields; is = (fields.same text p.is.fields).0 (record { tree = p.tree; is = p.is.is; spelled = p.spelled }); says = p.is.says },
    λ p. let q = (fields.same text p.fields).1 p.is in record { tree = q.tree; is = record { fields = p.fields; is = q.is; says = p.says }; spelled = q.spelled },
  );
}

list_fields : Agree (Inside sequence_tag (IsTbsListBody Der)) (SpellsListFields Der)
list_fields = wraps (joins itself (joins itself (joins names in_order)))

tbs_list : Agree (IsTbsList Der) (SpellsTbsList Der)
tbs_list = record {
  same = λ text c. (
    λ p. record { fields = p.is.fields; is = (list_fields.same text p.is.fields).0 (record { tree = p.tree; is = p.is.is; spelled = p.spelled }); says = p.is.says },
    λ p. let q = (list_fields.same text p.fields).1 p.is in record { tree = q.tree; is = record { fields = p.fields; is = q.is; says = p.says }; spelled = q.spelled },
  );
}

pub cert_is_spelled : CertIsSpelled
cert_is_spelled t text c s = let e = signed tbs in (
  λ p. record { fields = p.x; is = (e.same text p.x).0 (record { tree = t; is = p.is; spelled = s }); says = p.means },
  λ p. let q = (e.same text p.fields).1 p.is in
      record { x = p.fields; is = subst (λ (u : Tree). IsSignedTree (IsTbs Der) u p.fields) (one_of q.tree t text q.spelled s) q.is; means = p.says },
)

pub crl_is_spelled : CrlIsSpelled
crl_is_spelled t text c s = let e = signed tbs_list in (
  λ p. record { fields = p.is.x; is = (e.same text p.is.x).0 (record { tree = t; is = p.is.is; spelled = s }); says = p.is.means; agree = p.agree },
  λ p. let q = (e.same text p.fields).1 p.is in record {
    is = record { x = p.fields; is = subst (λ (u : Tree). IsSignedTree (IsTbsList Der) u p.fields) (one_of q.tree t text q.spelled s) q.is; means = p.says };
    agree = p.agree;
  },
)
