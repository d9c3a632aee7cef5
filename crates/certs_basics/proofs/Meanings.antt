-- A value states one moment, and what is written of a moment states it.
use Rattle.std.proofs.Common.{◌≡◌, ℕ, ◌+◌, ◌/◌, ◌%◌, inl, inr, List, [], ◌∷◌, ◌++◌, Result, Ok, Err, refl, sym, ap, ◌∙◌, subst, arith}
use Rattle.std.proofs.lemmas.Bool.{cases_lt}
use Rattle.certs_basics.specs.bcder_tree.declared.mode.Mode.{Mode}
use Rattle.certs_basics.specs.bcder_tree.Tags.{TagValue, sequence_tag}
use Rattle.certs_basics.specs.bcder_tree.Tree.{Tree, Trees, primitive, constructed, none}
use Rattle.certs_basics.specs.bcder_source.declared.error.DecodeError.{DecodeError}
use Rattle.certs_basics.specs.bcder_primitive.Values.{AnyOctets}
use Rattle.certs_basics.specs.bcder_content.Contents.{ValuesLeft, Unlike}
use Rattle.certs_basics.specs.bcder_content.Exact.{ReadsAs}
use Rattle.certs_basics.specs.bcder_content.Grammar.{End, One, OneOctets, OneOf, Tagged, Then}
use Rattle.certs_basics.proofs.of_bcder_content.Choices.{second_gives, second_lacks, universal_apart}
use Rattle.certs_basics.proofs.of_bcder_content.Taking.{weaker}
use Rattle.certs_basics.proofs.of_bcder_content.Unique.{octets_one, octets_tagged, inside_one, then_one, end_one, one_of_one}
use Rattle.certs_basics.specs.bcder_primitive.Encoded.{AreBoth, IsPlain, SpellsSome, WritesBoth, WritesPlain, WritesWrapped, joined}
use Rattle.certs_basics.specs.bcder_values.Laws.{both_spelled}
use Rattle.certs_basics.specs.bcder_values.Plains.{plain_spelled}
use Rattle.certs_basics.specs.bcder_values.Wraps.{wrapped_spelled}
use Rattle.certs_basics.specs.Times.{Civil, IsReal, IsMoment, digits, moment_text, seconds_of}
use Rattle.certs_basics.specs.Forms.{IsShortMoment, IsShortYear, IsTime, IsValidity, WritesTime, short_text, time_tree}
use Rattle.certs_basics.proofs.Moments.{one_civil, one_civil_by_seconds, one_moment}
use Rattle.certs_basics.proofs.Centuries.{short_tree, whole_tree}

-- A UTCTime states one moment.
pub short_one : OneOctets IsShortMoment
short_one = record { one = λ content x y p q. p.seconds_are ∙ ap seconds_of (same p.civil q.civil p.real q.real p.year q.year (sym p.text_is ∙ q.text_is)) ∙ sym q.seconds_are }
  where
    same : (a b : Civil) → IsReal a → IsReal b → IsShortYear a.year → IsShortYear b.year → short_text a ≡ short_text b → a ≡ b
    same a b r s f g e =
        let tens : 48 + a.year % 100 / 10 % 10 ≡ 48 + b.year % 100 / 10 % 10 = cc in
        let ones : 48 + a.year % 100 % 10 ≡ 48 + b.year % 100 % 10 = cc in
        let year : a.year ≡ b.year = omega arith in
        let behind : digits 2 a.month ++ digits 2 a.day ++ digits 2 a.hour ++ digits 2 a.minute ++ digits 2 a.second ++ 90 ∷ [] ≡ digits 2 b.month ++ digits 2 b.day ++ digits 2 b.hour ++ digits 2 b.minute ++ digits 2 b.second ++ 90 ∷ [] = cc in
        let texts : moment_text a ≡ moment_text b = ap (λ (n : ℕ). digits 4 n ++ digits 2 a.month ++ digits 2 a.day ++ digits 2 a.hour ++ digits 2 a.minute ++ digits 2 a.second ++ 90 ∷ []) year ∙ ap (λ (v : List ℕ). digits 4 b.year ++ v) behind in
        one_civil (moment_text a) a b r s refl texts

pub moment_one : OneOctets IsMoment
moment_one = record { one = λ content x y p q. one_moment content x y p q }

pub time_one : One IsTime
time_one = one_of_one (octets_tagged _ _) (octets_tagged _ _) (universal_apart (λ e. omega arith)) (octets_one short_one) (octets_one moment_one)

pub validity_one : One IsValidity
validity_one = inside_one (then_one time_one (then_one time_one end_one))

-- Where no value of the first kind is next, the second is read.
pub second_reads : {A B E : Type 0} {tag : TagValue} (f : A → B) (Q R : Tree → B → Type 0) {now mid : ValuesLeft} (new : ValuesLeft) (r : Result A (DecodeError E)) → Tagged tag Q → (mid ≡ now) × Unlike now tag → ReadsAs f R mid r new → ReadsAs f (OneOf Q R) now r new
second_reads f Q R new (Ok x) tagged unlike h = second_gives _ unlike h
second_reads f Q R new (Err e) tagged unlike h = weaker e (second_lacks tagged unlike) h

-- What is written of a moment.
pub one_written : (s : ℕ) (t u : Tree) → WritesTime s t → WritesTime s u → t ≡ u
one_written s t u p q = p.tree_is ∙ ap time_tree (one_civil_by_seconds p.civil q.civil p.real q.real (sym p.seconds_are ∙ q.seconds_are)) ∙ sym q.tree_is

short_time : (s : ℕ) (t : Tree) (p : WritesTime s t) → IsShortYear p.civil.year → IsTime t s
short_time s t p y = record { cases = inl (record { content = short_text p.civil; whole = p.tree_is ∙ short_tree p.civil y; is = record { civil = p.civil; real = p.real; year = y; text_is = refl; seconds_are = p.seconds_are } }) }

whole_time : (s : ℕ) (t : Tree) (p : WritesTime s t) → (IsShortYear p.civil.year → ⊥) → IsTime t s
whole_time s t p n = record { cases = inr (record { content = moment_text p.civil; whole = p.tree_is ∙ whole_tree p.civil n; is = record { civil = p.civil; real = p.real; text_is = refl; seconds_are = p.seconds_are } }) }

pub written_time : (s : ℕ) (t : Tree) → WritesTime s t → IsTime t s
written_time s t p = elim (cases_lt p.civil.year 1950) [
  | inl lt ↦ whole_time s t p (λ y. let from = y.0 in absurd (omega arith))
  | inr from ↦ elim (cases_lt p.civil.year 2050) [
    | inl to ↦ short_time s t p (from, to)
    | inr ge ↦ whole_time s t p (λ y. let to = y.1 in absurd (omega arith))
  ]
]

-- One value of it, in front of others.
time_then : {B : Type 0} {s : ℕ} {tag : TagValue} {content : List ℕ} {T : Trees → Type 0} {R : Trees → B → Type 0} {y : B} {ts : Trees}
    → WritesTime s (primitive tag content) → ((us : Trees) → T us → R us y) → AreBoth (IsPlain tag (λ octets. AnyOctets octets content)) T ts → Then IsTime R ts (s, y)
time_then {s = s} {tag} {content} p g b =
    let same : primitive tag b.is_first.content ≡ primitive tag content = ap (primitive tag) b.is_first.is.same in
    record {
      first = primitive tag b.is_first.content;
      others = b.second;
      whole = b.whole ∙ ap (λ l. joined l b.second) b.is_first.whole;
      is = subst (λ (t : Tree). IsTime t s) (sym same) (written_time s (primitive tag content) p);
      rest = g b.second b.is_second;
    }

time_alone : {s : ℕ} {tag : TagValue} {content : List ℕ} {ts : Trees} → WritesTime s (primitive tag content) → IsPlain tag (λ octets. AnyOctets octets content) ts → Then IsTime End ts (s, tt)
time_alone {s} {tag} {content} p b =
    let same : primitive tag b.content ≡ primitive tag content = ap (primitive tag) b.is.same in
    record {
      first = primitive tag b.content;
      others = none;
      whole = b.whole;
      is = subst (λ (t : Tree). IsTime t s) (sym same) (written_time s (primitive tag content) p);
      rest = record { ended = refl };
    }

pub time_spelled : (m : Mode) (s : ℕ) (tag : TagValue) (content text : List ℕ) → WritesTime s (primitive tag content) → WritesPlain m tag (λ octets. AnyOctets octets content) text → SpellsSome m (λ ts. Then IsTime End ts (s, tt)) text
time_spelled m s tag content text p w =
    let spells = plain_spelled m text w in
    record { trees = spells.trees; is = time_alone p spells.is; spelled = spells.spelled }

pub validity_spelled : (m : Mode) (a b : ℕ) (tag other : TagValue) (first second text : List ℕ) → WritesTime a (primitive tag first) → WritesTime b (primitive other second)
    → WritesWrapped m sequence_tag (WritesBoth (WritesPlain m tag (λ octets. AnyOctets octets first)) (WritesPlain m other (λ octets. AnyOctets octets second))) text
    → SpellsSome m (λ ts. Then IsValidity End ts ((a, (b, tt)), tt)) text
validity_spelled m a b tag other first second text p q w =
    let spells = wrapped_spelled m (both_spelled m (plain_spelled m) (plain_spelled m)) text w in
    record {
      trees = spells.trees;
      is = record {
        first = constructed sequence_tag spells.is.values;
        others = none;
        whole = spells.is.whole;
        is = record { values = spells.is.values; whole = refl; is = time_then p (λ us h. time_alone q h) spells.is.is };
        rest = record { ended = refl };
      };
      spelled = spells.spelled;
    }
