-- Grammars that are put together alike, of parts of which one reads all that the other reads, are so too; and what spells a
-- value in DER spells it in BER.
use Rattle.std.proofs.Common.{inl, inr, ℕ, List, [], ◌∷◌, Option, Some, None}
use Rattle.bcder_tree.proofs.Modes.{all_to_ber, ber_header, to_ber}
use Rattle.objects_payload.specs.bcder_tree.declared.mode.Mode.TheVariants.{Ber, Der}
use Rattle.objects_payload.specs.bcder_tree.Tags.{TagValue}
use Rattle.objects_payload.specs.bcder_tree.Tree.{Tree, Trees, IsConstructed, definite, indefinite}
use Rattle.objects_payload.specs.bcder_content.Grammar.{As, Default, Inside, Many, ManyCases, OctetsOf, Opt, OptCases, Where, Then}
use Rattle.objects_payload.specs.bcder_content.Words.{Gathers}
use Rattle.objects_payload.specs.bcder_content.Texts.{InFront, InOrder, Joins, SpellsOf, WithOctets, Wraps}
use Rattle.objects_payload.specs.Forms.{Carries, Within}

pub same : {S A : Type 0} {P : S → A → Type 0} → Within P P
same = record { carried = λ s x p. p }

-- Values.

pub inside_within : {A : Type 0} {tag : TagValue} {P R : Trees → A → Type 0} → Within P R → Within (Inside tag P) (Inside tag R)
inside_within v = record { carried = λ t x p. record { values = p.values; whole = p.whole; is = v.carried p.values x p.is } }

pub octets_within : {A : Type 0} {tag : TagValue} {P R : List ℕ → A → Type 0} → Within P R → Within (OctetsOf tag P) (OctetsOf tag R)
octets_within v = record { carried = λ t x p. record { content = p.content; whole = p.whole; is = v.carried p.content x p.is } }

pub such_within : {A : Type 0} {Q R : Tree → A → Type 0} {passes : A → Type 0} → Within Q R → Within (Where Q passes) (Where R passes)
such_within v = record { carried = λ t x p. record { is = v.carried t x p.is; meets = p.meets } }

pub as_within : {A B : Type 0} {Q R : Tree → A → Type 0} {f : A → B} → Within Q R → Within (As Q f) (As R f)
as_within v = record { carried = λ t y p. record { x = p.x; is = v.carried t p.x p.is; means = p.means } }

pub then_within : {A B : Type 0} {Q R : Tree → A → Type 0} {P S : Trees → B → Type 0} → Within Q R → Within P S → Within (Then Q P) (Then R S)
then_within v w = record {
  carried = λ ts x p. record { first = p.first; others = p.others; whole = p.whole; is = v.carried p.first x.0 p.is; rest = w.carried p.others x.1 p.rest };
}

pub opt_within : {A B : Type 0} {tag : TagValue} {Q R : Tree → A → Type 0} {P S : Trees → B → Type 0} → Within Q R → Within P S → Within (Opt tag Q P) (Opt tag R S)
opt_within {A} {B} {tag} {Q} {R} {P} {S} v w = record { carried = λ ts x p. record { cases = at ts x.0 x.1 p.cases } }
  where
    at : (ts : Trees) (o : Option A) (b : B) → OptCases tag Q P ts o b → OptCases tag R S ts o b
    at ts None b p = (p.0, w.carried ts b p.1)
    at ts (Some x) b p = (then_within v w).carried ts (x, b) p

pub default_within : {A B : Type 0} {tag : TagValue} {Q R : Tree → A → Type 0} {missing : A} {P S : Trees → B → Type 0} → Within Q R → Within P S → Within (Default tag Q missing P) (Default tag R missing S)
default_within v w = record {
  carried = λ ts x p. record {
    cases = elim p.cases [
      | inl q ↦ inl (q.0, q.1, w.carried ts x.1 q.2)
      | inr q ↦ inr ((then_within v w).carried ts x q)
    ];
  };
}

pub many_within : {A : Type 0} {Q R : Tree → A → Type 0} → Within Q R → Within (Many Q) (Many R)
many_within {A} {Q} {R} v = record { carried = λ ts xs p. record { cases = at ts xs p.cases } }
  where
    at : (ts : Trees) (xs : List A) → ManyCases Q ts xs → ManyCases R ts xs
    at ts [] p = p
    at ts (x ∷ xs) p = (p.0, p.1, p.2, v.carried p.0 x p.3, at p.1 xs p.4)

pub gathers_within : {A B : Type 0} {Q R : Tree → A → Type 0} {P S : List A → B → Type 0} → Within Q R → Within P S → Within (Gathers Q P) (Gathers R S)
gathers_within v w = record {
  carried = λ ts x p. record { xs = p.xs; are = (many_within v).carried ts p.xs p.are; says = w.carried p.xs x p.says };
}

-- Octets.

pub spells_within : {A : Type 0} {Q R : Tree → A → Type 0} → Within Q R → Within (SpellsOf Der Q) (SpellsOf Ber R)
spells_within v = record {
  carried = λ text x p. record { tree = p.tree; is = v.carried p.tree x p.is; spelled = to_ber Der p.tree text p.spelled };
}

pub order_within : {A : Type 0} {P R : Trees → A → Type 0} → Within P R → Within (InOrder Der P) (InOrder Ber R)
order_within v = record {
  carried = λ text x p. record { trees = p.trees; is = v.carried p.trees x p.is; spelled = all_to_ber Der p.trees text p.spelled };
}

constructed_in_ber : {text : List ℕ} {tag : TagValue} {content : List ℕ} → IsConstructed Der text tag content → IsConstructed Ber text tag content
constructed_in_ber (definite d header is whole) = definite tt header (ber_header is) whole
constructed_in_ber (indefinite d identifier tag is whole) = absurd d

pub wraps_carries : {A B : Type 0} {f : A → B} {tag : TagValue} {P : List ℕ → A → Type 0} {R : List ℕ → B → Type 0} → Carries f P R → Carries f (Wraps Der tag P) (Wraps Ber tag R)
wraps_carries v = record { carried = λ text x p. record { content = p.content; around = constructed_in_ber p.around; is = v.carried p.content x p.is } }

pub octets_too : {A B : Type 0} {f : A → B} {P : List ℕ → A → Type 0} {R : List ℕ → B → Type 0} → Carries f P R → Carries (λ (x : List ℕ × A). (x.0, f x.1)) (WithOctets P) (WithOctets R)
octets_too v = record { carried = λ text x p. record { same = p.same; is = v.carried text x.1 p.is } }

pub joins_carries : {A B C D : Type 0} {f : A → C} {g : B → D} {P : List ℕ → A → Type 0} {Q : List ℕ → B → Type 0} {R : List ℕ → C → Type 0} {S : List ℕ → D → Type 0}
    → Carries f P R → Carries g Q S → Carries (λ (x : A × B). (f x.0, g x.1)) (Joins P Q) (Joins R S)
joins_carries v w = record {
  carried = λ text x p. record { first = p.first; others = p.others; whole = p.whole; is = v.carried p.first x.0 p.is; rest = w.carried p.others x.1 p.rest };
}

pub front_carries : {A B : Type 0} {f : A → B} {P : List ℕ → A → Type 0} {R : List ℕ → B → Type 0} → Carries f P R → Carries f (InFront P) (InFront R)
front_carries v = record { carried = λ octets x p. record { text = p.text; rest = p.rest; whole = p.whole; is = v.carried p.text x p.is } }
