-- Going through octets of values, mark by mark.
use Rattle.std.proofs.Common.{◌≡◌, inl, inr, ◌⊎◌, ℕ, ◌<◌, ◌≤◌, Bool, true, false, List, [], ◌∷◌, ◌++◌, length, take, drop, refl, sym, ap, ◌∙◌, subst, append_assoc, append-nil, length-append, arith}
use Rattle.std.specs.List.{concat}
use Rattle.std.proofs.Math.Seq.{take-append_seam, drop-append_seam}
use Rattle.bcder_octets.specs.bcder_tree.declared.mode.Mode.TheVariants.{Ber}
use Rattle.bcder_octets.specs.bcder_tree.declared.length.Length.{Length}
use Rattle.bcder_octets.specs.bcder_tree.declared.length.Length.TheVariants.{Definite as LengthIs, Indefinite as NoLength}
use Rattle.bcder_octets.specs.bcder_tree.Tags.{TagValue}
use Rattle.bcder_octets.specs.bcder_tree.Octets.{IsIdentifier}
use Rattle.bcder_octets.specs.bcder_tree.Tree.{Tree, Trees, primitive, constructed, none, more, definite, indefinite, Spells, SpellsAll}
use Rattle.bcder_octets.specs.bcder_tree.Front.{Splits}
use Rattle.bcder_octets.specs.bcder_tree.Strings.{octet_string_tag, IsBerString, AreSegments}
use Rattle.bcder_octets.proofs.of_bcder_tree.Parts.{Ends, identifier_goes_on}
use Rattle.bcder_octets.specs.bcder_content.Openings.{Heads, NoHead}
use Rattle.bcder_octets.proofs.of_bcder_content.Opening.{HeadIn, head_of, one_head, split_head}
use Rattle.bcder_octets.specs.Pieces.{IsHeaded, IsAround, Mark, holds, around, Marks, held, Holds, NextPiece, ArePlain}

-- Octets that begin with a header are some, and do not begin with 0.
head_goes_on : {k : Bool} {t : TagValue} {l : Length} {s text behind : List ℕ} → HeadIn Ber k t l s text behind → Ends s → ⊥
head_goes_on {k} {t} {behind = behind} f e =
    let h = f.head in
    identifier_goes_on h.identifier (h.size ++ behind) k t h.tag h.identifier_is (subst Ends (f.whole ∙ ap (λ (z : List ℕ). z ++ behind) h.whole ∙ append_assoc h.identifier h.size behind) e)

head_in : {k : Bool} {t : TagValue} {l : Length} {count : ℕ} {s : List ℕ} → (x : Heads Ber k t l count s) → HeadIn Ber k t l s x.text x.rest
head_in x = record { head = x.head; whole = x.whole }

behind_head : {k : Bool} {t : TagValue} {l : Length} {count : ℕ} {s : List ℕ} → (x : Heads Ber k t l count s) → drop count s ≡ x.rest
behind_head {count = count} x = ap (λ (z : List ℕ). drop count z) x.whole ∙ ap (λ (n : ℕ). drop n (x.text ++ x.rest)) (sym x.long) ∙ drop-append_seam x.text x.rest

pub heads_positive : {k : Bool} {t : TagValue} {l : Length} {count : ℕ} {s : List ℕ} → Heads Ber k t l count s → 0 < count
heads_positive {k} {t} {count = count} x = at x.head.identifier x.head.identifier_is (omega (arith, x.long, ap length x.head.whole, length-append x.head.identifier x.head.size))
  where
    at : (i : List ℕ) → IsIdentifier i k t → length i ≤ count → 0 < count
    at [] h e = absurd h
    at (a ∷ i) h e = omega arith

-- The header of a primitive value of definite length.
pub record DefiniteAt (n count : ℕ) (s : List ℕ) : Type 0 where
  pub tag : TagValue
  pub head : Heads Ber false tag (LengthIs n) count s

pub definite_at : {k : Bool} {l : Length} {n count : ℕ} {s : List ℕ} → k ≡ false → l ≡ LengthIs n → IsHeaded k l count s → DefiniteAt n count s
definite_at {k} {l} {n} {count} {s} form same h =
    record { tag = h.0; head = subst (λ (b : Bool). Heads Ber b h.0 (LengthIs n) count s) form (subst (λ (z : Length). Heads Ber k h.0 z count s) same h.1) }

-- What stands around primitive values is no header of one.
around_other : {t : TagValue} {l : Length} {s text behind : List ℕ} (a r : List ℕ) → HeadIn Ber false t l s text behind → s ≡ a ++ r → IsAround a → ⊥
around_other a r x e (inl z) = head_goes_on x (subst Ends (sym (e ∙ ap (λ (y : List ℕ). y ++ r) z)) refl)
around_other a r x e (inr w) = let f : false ≡ true = (one_head x (record { head = w.2; whole = e })).form in cc

piece_split : (content : List ℕ) (marks : List Mark) (s : List ℕ) (m : Marks (holds content ∷ marks) s) → Splits Ber s false m.3.0 content m.1
piece_split content marks s m = record { header = m.0; header_is = m.3.1; whole = m.2 }

-- The primitive value in front.
pub record PieceAt (pieces : List (List ℕ)) (n : ℕ) (octets : List ℕ) : Type 0 where
  pub content : List ℕ
  pub behind : List ℕ
  pub others : List (List ℕ)
  pub whole : octets ≡ content ++ behind
  pub long : n ≡ length content
  pub first : pieces ≡ content ∷ others
  pub then : Holds others behind

pub piece_at : {t : TagValue} {n count : ℕ} {s : List ℕ} (pieces : List (List ℕ)) → Heads Ber false t (LengthIs n) count s → Holds pieces s → PieceAt pieces n (drop count s)
piece_at {t} {n} {count} {s} pieces x h = at h.marks h.is h.whole
  where
    at : (marks : List Mark) → Marks marks s → pieces ≡ held marks → PieceAt pieces n (drop count s)
    at [] m e = absurd (head_goes_on (head_in x) (subst Ends (sym m) tt))
    at (around ∷ marks) m e = absurd (around_other m.0 m.1 (head_in x) m.2 m.3)
    at (holds content ∷ marks) m e =
        let o = one_head (head_in x) (split_head (piece_split content marks s m)) in
        let same : LengthIs n ≡ LengthIs (length content) = o.size in
        let long : n ≡ length content = cc in
        record { content = content; behind = m.1; others = held marks; whole = behind_head x ∙ o.behind; long = long; first = e; then = record { marks = marks; is = m.4; whole = refl } }

pub next_at : {pieces : List (List ℕ)} {n : ℕ} {octets : List ℕ} → PieceAt pieces n octets → NextPiece pieces (take n octets) (drop n octets)
next_at {n = n} {octets} p =
    let taken : take n octets ≡ p.content = ap (λ (z : List ℕ). take n z) p.whole ∙ ap (λ (k : ℕ). take k (p.content ++ p.behind)) p.long ∙ take-append_seam p.content p.behind in
    let left : drop n octets ≡ p.behind = ap (λ (z : List ℕ). drop n z) p.whole ∙ ap (λ (k : ℕ). drop k (p.content ++ p.behind)) p.long ∙ drop-append_seam p.content p.behind in
    record { others = p.others; whole = p.first ∙ ap (λ (z : List ℕ). z ∷ p.others) (sym taken); holds_others = subst (Holds p.others) (sym left) p.then }

-- There is room for it.
pub piece_fits : {pieces : List (List ℕ)} {n : ℕ} {octets : List ℕ} → PieceAt pieces n octets → n ≤ length octets
piece_fits p = omega (arith, p.long, ap length p.whole, length-append p.content p.behind)

-- A header of another kind is gone past.
pub past_header : {k : Bool} {t : TagValue} {l : Length} {count : ℕ} {s : List ℕ} (pieces : List (List ℕ)) → Heads Ber k t l count s → ((n : ℕ) → k ≡ false → l ≡ LengthIs n → ⊥) → Holds pieces s → Holds pieces (drop count s)
past_header {count = count} {s} pieces x other h = at h.marks h.is h.whole
  where
    at : (marks : List Mark) → Marks marks s → pieces ≡ held marks → Holds pieces (drop count s)
    at [] m e = absurd (head_goes_on (head_in x) (subst Ends (sym m) tt))
    at (holds content ∷ marks) m e =
        let o = one_head (head_in x) (split_head (piece_split content marks s m)) in
        absurd (other (length content) o.form o.size)
    at (around ∷ marks) m e = by marks m e m.3
      where
        by : (marks : List Mark) → (m : Marks (around ∷ marks) s) → pieces ≡ held marks → IsAround m.0 → Holds pieces (drop count s)
        by marks m e (inl z) = absurd (head_goes_on (head_in x) (subst Ends (sym (m.2 ∙ ap (λ (y : List ℕ). y ++ m.1) z)) refl))
        by marks m e (inr w) =
            let o = one_head (head_in x) (record { head = w.2; whole = m.2 }) in
            record { marks = marks; is = subst (Marks marks) (sym (behind_head x ∙ o.behind)) m.4; whole = e }

-- Where no header is in front, the octets have ended, or end-of-contents is there.
ended : {s : List ℕ} → NoHead Ber s → (marks : List Mark) → Marks marks s → ((s ≡ []) × (held marks ≡ [])) ⊎ ((rest : List ℕ) × (s ≡ 0 ∷ 0 ∷ rest) × Holds (held marks) rest)
unfolding piece_split
ended n [] m = inl (m, refl)
ended {s} n (holds content ∷ marks) m =
    let f = split_head (piece_split content marks s m) in
    absurd (n.none false m.3.0 (LengthIs (length content)) m.0 (content ++ m.1) f.head f.whole)
ended {s} n (around ∷ marks) m = by m.3
  where
    by : IsAround m.0 → ((s ≡ []) × (held marks ≡ [])) ⊎ ((rest : List ℕ) × (s ≡ 0 ∷ 0 ∷ rest) × Holds (held marks) rest)
    by (inl z) = inr (m.1, m.2 ∙ ap (λ (y : List ℕ). y ++ m.1) z, record { marks = marks; is = m.4; whole = refl })
    by (inr w) = absurd (n.none true w.0 w.1 m.0 m.1 w.2 m.2)

pub none_left : {s : List ℕ} (pieces : List (List ℕ)) → NoHead Ber s → length s < 2 → Holds pieces s → pieces ≡ []
none_left {s} pieces n few h =
    elim (ended n h.marks h.is) [
      | inl e ↦ h.whole ∙ e.1
      | inr w ↦ absurd (omega (arith, ap length w.1))
    ]

pub past_closing : {s : List ℕ} (pieces : List (List ℕ)) → NoHead Ber s → 2 ≤ length s → Holds pieces s → Holds pieces (drop 2 s)
past_closing {s} pieces n two h =
    elim (ended n h.marks h.is) [
      | inl e ↦ absurd (omega (arith, ap length e.0))
      | inr w ↦ subst (Holds pieces) (sym (ap (λ (z : List ℕ). drop 2 z) w.1)) (subst (λ (ps : List (List ℕ)). Holds ps w.0) (sym h.whole) w.2)
    ]

-- The marks of strings.

-- Marks of octets whose pieces are v, joined, and then those of others.
record Tells (v octets : List ℕ) (others : List Mark) : Type 0 where
  marks : List Mark
  is : Marks marks octets
  whole : concat (held marks) ≡ v ++ concat (held others)

mutual
  string_marks : (tag : TagValue) (t : Tree) (text v rest : List ℕ) (others : List Mark) → Spells Ber t text → IsBerString tag t v → Marks others rest → Tells v (text ++ rest) others
  string_marks tag (primitive u c) text v rest others s b m = record {
    marks = holds c ∷ others;
    is = (s.header, rest, ap (λ (z : List ℕ). z ++ rest) s.whole ∙ append_assoc s.header c rest, (u, s.header_is), m);
    whole = ap (λ (z : List ℕ). z ++ concat (held others)) b.1;
  }
  string_marks tag (constructed u ts) text v rest others s b m = elim s.1 [
    | definite d h is whole ↦
        let inner = all_marks ts s.0 v rest others s.2 b.1 m in
        record {
          marks = around ∷ inner.marks;
          is = (h, s.0 ++ rest, ap (λ (z : List ℕ). z ++ rest) whole ∙ append_assoc h s.0 rest, inr (u, LengthIs (length s.0), head_of is), inner.is);
          whole = inner.whole;
        }
    | indefinite d i tag_is is whole ↦
        let inner = all_marks ts s.0 v (0 ∷ 0 ∷ rest) (around ∷ others) s.2 b.1 (0 ∷ 0 ∷ [], rest, refl, inl refl, m) in
        record {
          marks = around ∷ inner.marks;
          is = (
            i ++ (128 ∷ []),
            s.0 ++ (0 ∷ 0 ∷ rest),
            ap (λ (z : List ℕ). z ++ rest) whole ∙ append_assoc i (128 ∷ s.0 ++ (0 ∷ 0 ∷ [])) rest ∙ ap (λ (z : List ℕ). i ++ (128 ∷ z)) (append_assoc s.0 (0 ∷ 0 ∷ []) rest) ∙ sym (append_assoc i (128 ∷ []) (s.0 ++ (0 ∷ 0 ∷ rest))),
            inr (u, NoLength, record { identifier = i; size = 128 ∷ []; whole = refl; tag = tag_is; identifier_is = is; size_is = refl }),
            inner.is,
          );
          whole = inner.whole;
        }
  ]

  all_marks : (ts : Trees) (text v rest : List ℕ) (others : List Mark) → SpellsAll Ber ts text → AreSegments ts v → Marks others rest → Tells v (text ++ rest) others
  all_marks none text v rest others s b m = record {
    marks = others;
    is = subst (Marks others) (sym (ap (λ (z : List ℕ). z ++ rest) s)) m;
    whole = sym (ap (λ (z : List ℕ). z ++ concat (held others)) b);
  }
  all_marks (more t ts) text v rest others s b m =
      let inner = all_marks ts s.1 b.1 rest others s.3 b.3 m in
      let first = string_marks octet_string_tag t s.0 b.0 (s.1 ++ rest) inner.marks s.2 b.2 inner.is in
      record {
        marks = first.marks;
        is = subst (Marks first.marks) (sym (ap (λ (z : List ℕ). z ++ rest) s.4 ∙ append_assoc s.0 s.1 rest)) first.is;
        whole = first.whole ∙ ap (λ (z : List ℕ). b.0 ++ z) inner.whole ∙ sym (append_assoc b.0 b.1 (concat (held others))) ∙ ap (λ (z : List ℕ). z ++ concat (held others)) (sym b.4);
      }

-- Octets that spell segments hold pieces that are the string, joined.
pub record Joined (v octets : List ℕ) : Type 0 where
  pub pieces : List (List ℕ)
  pub is : Holds pieces octets
  pub whole : concat pieces ≡ v

pub segments_joined : (ts : Trees) (octets v : List ℕ) → SpellsAll Ber ts octets → AreSegments ts v → Joined v octets
segments_joined ts octets v s b =
    let w = all_marks ts octets v [] [] s b refl in
    record {
      pieces = held w.marks;
      is = record { marks = w.marks; is = subst (Marks w.marks) (append-nil octets) w.is; whole = refl };
      whole = w.whole ∙ append-nil v;
    }

-- Octets that spell primitive ones hold their contents.
pub plain_held : (ts : Trees) (octets : List ℕ) (pieces : List (List ℕ)) → SpellsAll Ber ts octets → ArePlain ts pieces → Holds pieces octets
plain_held none octets pieces s p = record { marks = []; is = s; whole = p }
plain_held (more t ts) octets pieces s p =
    let inner = plain_held ts s.1 p.1 s.3 p.4 in
    let first : Spells Ber (primitive octet_string_tag p.0) s.0 = subst (λ (u : Tree). Spells Ber u s.0) p.2 s.2 in
    record {
      marks = holds p.0 ∷ inner.marks;
      is = (first.header, s.1, s.4 ∙ ap (λ (z : List ℕ). z ++ s.1) first.whole ∙ append_assoc first.header p.0 s.1, (octet_string_tag, first.header_is), inner.is);
      whole = p.3 ∙ ap (λ (z : List (List ℕ)). p.0 ∷ z) inner.whole;
    }

-- What a loop over the pieces keeps: what it gathered, and what is left.
pub record Gathers (pieces : List (List ℕ)) (out rest : List ℕ) : Type 0 where
  pub others : List (List ℕ)
  pub is : Holds others rest
  pub whole : concat pieces ≡ out ++ concat others

pub record Going (octets out rest : List ℕ) : Type 0 where
  pub each : (pieces : List (List ℕ)) → Holds pieces octets → Gathers pieces out rest

pub going_begin : (octets : List ℕ) → Going octets [] octets
going_begin octets = record { each = λ pieces h. record { others = pieces; is = h; whole = refl } }

pub going_next : {octets out rest behind piece new : List ℕ} → Going octets out rest → ((pieces : List (List ℕ)) → Holds pieces rest → NextPiece pieces piece behind) → new ≡ out ++ piece → Going octets new behind
going_next {out = out} {piece = piece} g next e = record {
  each = λ pieces h.
      let old = g.each pieces h in
      let n = next old.others old.is in
      record {
        others = n.others;
        is = n.holds_others;
        whole = old.whole ∙ ap (λ (z : List (List ℕ)). out ++ concat z) n.whole ∙ sym (append_assoc out piece (concat n.others)) ∙ ap (λ (z : List ℕ). z ++ concat n.others) (sym e);
      };
}

pub going_all : {octets out rest : List ℕ} → Going octets out rest → ((pieces : List (List ℕ)) → Holds pieces rest → pieces ≡ []) → (pieces : List (List ℕ)) → Holds pieces octets → concat pieces ≡ out
going_all {out = out} g over pieces h =
    let old = g.each pieces h in
    old.whole ∙ ap (λ (z : List (List ℕ)). out ++ concat z) (over old.others old.is) ∙ append-nil out

-- The loop has gathered the string.
pub going_end : {octets out rest : List ℕ} → Going octets out rest → ((pieces : List (List ℕ)) → Holds pieces rest → pieces ≡ []) → (ts : Trees) (v : List ℕ) → SpellsAll Ber ts octets → AreSegments ts v → out ≡ v
going_end {octets} g over ts v s b =
    let j = segments_joined ts octets v s b in
    sym (going_all g over j.pieces j.is) ∙ j.whole
