-- Texts of blocks of AS numbers.
use Rattle.std.proofs.Common.{◌≡◌, ℕ, ◌<◌, ◌≤◌, ◌==◌, List, [], ◌∷◌, ◌++◌, length, get_or, decimal, inl, inr, sym, subst, ◌∙◌, arith, refl, append_assoc}
use Rattle.std.specs.Prelude.{codes}
use Rattle.std.proofs.lemmas.Bool.{cond_both, eqb-true}
use Rattle.resources_asn.specs.resources_ip_prefix.Cuts.{LacksByte, IsCut}
use Rattle.resources_asn.specs.resources_chain.Sets.{Run}
use Rattle.resources_asn.specs.resources_chain.Lists.{HasNoComma}
use Rattle.resources_asn.specs.resources_chain.Same.{run_is}
use Rattle.resources_asn.specs.Numbers.{last_number}
use Rattle.resources_asn.specs.Texts.{IsAsnText}
use Rattle.resources_asn.proofs.TextLemmas.{asn_lacks, asn_some, asn_once, asn_printed}
use Rattle.resources_asn.proofs.of_resources_ip_prefix.Printed.{lacks_both}
use Rattle.resources_asn.proofs.of_resources_ip_prefix.AddrTexts.{cut_once, cut_lacks}
use Rattle.resources_asn.specs.declared.as_block.error.FromStrError.{FromStrError}
use Rattle.resources_asn.specs.declared.as_block.error.FromStrError.TheVariants.{BadAsn, BadRange, BadBlocks, Memory}
use Rattle.resources_asn.specs.Blocks.{run_text}
use Rattle.resources_asn.specs.BlockTexts.{IsAsRangeText, IsAsBlockText, IsNoAsBlock}

no_dash : (text : List ℕ) (n : ℕ) → IsAsnText text n → LacksByte 45 text
no_dash text n h = asn_lacks 45 (omega arith) (λ e. omega arith) text n h

no_comma : (text : List ℕ) (n : ℕ) → IsAsnText text n → LacksByte 44 text
no_comma text n h = asn_lacks 44 (omega arith) (λ e. omega arith) text n h

no_range : (text min max : List ℕ) (n : ℕ) → IsCut 45 text min max → IsAsnText text n → ⊥
no_range text min max n cut h = cut_lacks 45 text min max cut (no_dash text n h)

-- Both texts are cut at the same dash.
first_at : (text min max : List ℕ) (r : Run) → IsCut 45 text min max → IsAsRangeText text r → IsAsnText min r.first
first_at text min max r cut h = subst (λ (t : List ℕ). IsAsnText t r.first) (cut_once 45 text h.min h.max min max h.cut cut).0 h.first

last_at : (text min max : List ℕ) (r : Run) → IsCut 45 text min max → IsAsRangeText text r → IsAsnText max r.last
last_at text min max r cut h = subst (λ (t : List ℕ). IsAsnText t r.last) (cut_once 45 text h.min h.max min max h.cut cut).1 h.last

-- What is wrong with a text is wrong with that of no block.
pub no_block : (text : List ℕ) (e : FromStrError) → IsNoAsBlock text e → (r : Run) → ¬ (IsAsBlockText text r)
no_block text BadAsn (inl w) r (inl h) = w.1 r.first h.0
no_block text BadAsn (inl w) r (inr h) = cut_lacks 45 text h.min h.max h.cut w.0
no_block text BadAsn (inr w) r (inl h) = no_range text w.0 w.1 r.first w.2 h.0
no_block text BadAsn (inr w) r (inr h) =
    elim w.4 [ inl none ↦ none r.first (first_at text w.0 w.1 r w.2 h) | inr none ↦ none r.last (last_at text w.0 w.1 r w.2 h) ]
no_block text BadRange w r (inl h) = no_range text w.0 w.1 r.first w.2 h.0
no_block text BadRange w r (inr h) =
    elim w.3 [
      | inl dash ↦ dash (no_dash w.1 r.last (last_at text w.0 w.1 r w.2 h))
      | inr turned ↦
          let first = asn_once w.0 turned.0 r.first turned.2 (first_at text w.0 w.1 r w.2 h) in
          let last = asn_once w.1 turned.1 r.last turned.3 (last_at text w.0 w.1 r w.2 h) in
          omega (arith, first, last, turned.4, h.ordered)
    ]
no_block text BadBlocks w r h = absurd w
no_block text Memory w r h = absurd w

-- A text is that of one block, and the empty one of none.
pub block_once : (text : List ℕ) (r s : Run) → IsAsBlockText text r → IsAsBlockText text s → r ≡ s
block_once text r s (inl h) (inl k) =
    let first = asn_once text r.first s.first h.0 k.0 in
    run_is first (h.1 ∙ first ∙ sym k.1)
block_once text r s (inl h) (inr k) = absurd (no_range text k.min k.max r.first k.cut h.0)
block_once text r s (inr h) (inl k) = absurd (no_range text h.min h.max s.first h.cut k.0)
block_once text r s (inr h) (inr k) =
    run_is (asn_once k.min r.first s.first (first_at text k.min k.max r k.cut h) k.first) (asn_once k.max r.last s.last (last_at text k.min k.max r k.cut h) k.last)

not_nil : (min max : List ℕ) → [] ≡ min ++ 45 ∷ max → ⊥
not_nil [] max e = absurd cc
not_nil (a ∷ min) max e = absurd cc

pub block_some : (r : Run) → ¬ (IsAsBlockText [] r)
block_some r (inl h) = asn_some r.first h.0
block_some r (inr h) = not_nil h.min h.max h.cut.whole

-- What is printed of numbers in range writes them.

Written : Run → List ℕ → Type 0
Written r text = HasNoComma text × IsAsBlockText text r

alone_written : (r : Run) → r.first ≤ r.last → r.last ≤ last_number → r.first ≡ r.last → Written r (codes "AS" ++ decimal r.first)
unfolding Written
alone_written r ordered within e =
    let is = asn_printed r.first (omega arith) in
    (no_comma (codes "AS" ++ decimal r.first) r.first is, inl (is, sym e))

dash_lacks : (ys : List ℕ) → LacksByte 44 ys → LacksByte 44 (45 ∷ ys)
dash_lacks ys h = lacks_both 44 (45 ∷ []) ys (λ i l e. grind arith) h

pair_written : (r : Run) → r.first ≤ r.last → r.last ≤ last_number → Written r ((codes "AS" ++ decimal r.first) ++ 45 ∷ (codes "AS" ++ decimal r.last))
unfolding Written
pair_written r ordered within =
    let first = asn_printed r.first (omega arith) in
    let last = asn_printed r.last within in
    let a = codes "AS" ++ decimal r.first in
    let b = codes "AS" ++ decimal r.last in (
      lacks_both 44 a (45 ∷ b) (no_comma a r.first first) (dash_lacks b (no_comma b r.last last)),
      inr (record {
        min = a;
        max = b;
        cut = record { whole = refl; first = no_dash a r.first first };
        first = first;
        last = last;
        ordered = ordered;
      }),
    )

range_written : (r : Run) → r.first ≤ r.last → r.last ≤ last_number → Written r (codes "AS" ++ decimal r.first ++ codes "-AS" ++ decimal r.last)
range_written r ordered within =
    subst (Written r) (sym (append_assoc (codes "AS" ++ decimal r.first) (codes "-AS") (decimal r.last))) (pair_written r ordered within)

pub run_written : (r : Run) → r.first ≤ r.last → r.last ≤ last_number → HasNoComma (run_text r) × IsAsBlockText (run_text r) r
unfolding Written
run_written r ordered within =
    cond_both (r.first == r.last) (codes "AS" ++ decimal r.first) (codes "AS" ++ decimal r.first ++ codes "-AS" ++ decimal r.last) (Written r)
    (λ e. alone_written r ordered within (eqb-true r.first r.last e))
    (λ e. range_written r ordered within)

-- From what is found in a text to what reading it answers.

pub refused : (text : List ℕ) (e : FromStrError) → IsNoAsBlock text e → IsNoAsBlock text e × ((r : Run) → ¬ (IsAsBlockText text r))
refused text e w = (w, no_block text e w)

pub second_dash : (text min max : List ℕ) → IsCut 45 text min max → (k : ℕ) → k < length max → get_or max k 0 ≡ 45 → IsNoAsBlock text BadRange × ((r : Run) → ¬ (IsAsBlockText text r))
second_dash text min max cut k h e = refused text BadRange (min, max, cut, inl (λ lacks. lacks k h e))

pub turned_ends : (text min max : List ℕ) (first last : ℕ) → IsCut 45 text min max → IsAsnText min first → IsAsnText max last → last < first → IsNoAsBlock text BadRange × ((r : Run) → ¬ (IsAsBlockText text r))
turned_ends text min max first last cut f l h = refused text BadRange (min, max, cut, inr (first, last, f, l, h))

pub range_read : (text min max : List ℕ) (first last : ℕ) → IsCut 45 text min max → IsAsnText min first → IsAsnText max last → first ≤ last → IsAsBlockText text (record { first = first; last = last })
range_read text min max first last cut f l h = inr (record { min = min; max = max; cut = cut; first = f; last = l; ordered = h })
