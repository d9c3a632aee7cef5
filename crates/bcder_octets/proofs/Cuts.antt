-- Segments of 1000 octets, and a last one of 1 to 1000, as pieces.
use Rattle.std.proofs.Common.{◌≡◌, ◌↔◌, Bool, true, false, IsTrue, None, ℕ, ◌<◌, ◌≤◌, List, [], ◌∷◌, ◌++◌, length, refl, sym, ap, ◌∙◌, subst, append-nil, arith}
use Rattle.std.specs.List.{concat}
use Rattle.bcder_octets.specs.bcder_tree.Tree.{Tree, Trees, primitive, none, more}
use Rattle.bcder_octets.specs.bcder_tree.Strings.{octet_string_tag, AreCerSegments}
use Rattle.bcder_octets.specs.bcder_tree.declared.mode.Mode.TheVariants.{Ber}
use Rattle.bcder_octets.specs.bcder_tree.Tree.{SpellsAll}
use Rattle.bcder_octets.specs.Pieces.{ArePlain, MayStand, CutIn, Holds, NextPiece, TellsCut}
use Rattle.bcder_octets.proofs.Walk.{Going, going_begin, going_next, going_all, plain_held}

-- A test that says no.
pub not_so : {b : Bool} {P : Type 0} → IsTrue b ↔ P → b ≡ false → P → ⊥
not_so told is p = let t : true ≡ false = sym (told.1 p) ∙ is in cc

-- Segments in CER are such pieces.
pub cut_pieces : (ts : Trees) (v : List ℕ) → AreCerSegments ts v → (pieces : List (List ℕ)) × ArePlain ts pieces × CutIn 1000 pieces × (concat pieces ≡ v)
cut_pieces none v s = absurd s
cut_pieces (more t none) v s = (v ∷ [], (v, [], s.0, refl, refl), ((refl, s.1, s.2), tt), append-nil v)
cut_pieces (more t (more u ts)) v s =
    let r = cut_pieces (more u ts) s.1 s.4 in
    (s.0 ∷ r.0, (s.0, r.0, s.2, refl, r.1), ((refl, omega (arith, s.3), omega (arith, s.3)), subst (λ (n : ℕ). CutIn n r.0) (sym s.3) r.2), ap (λ (z : List ℕ). s.0 ++ z) r.3 ∙ sym s.5)

-- And such pieces, if there are any, are segments in CER.
pub pieces_cut : (ts : Trees) (pieces : List (List ℕ)) (before : ℕ) → ArePlain ts pieces → CutIn before pieces → 1 ≤ length pieces → AreCerSegments ts (concat pieces)
pieces_cut none pieces before p c some = absurd (omega (arith, ap length p))
pieces_cut (more t ts) [] before p c some = absurd (omega arith)
pieces_cut (more t none) (x ∷ xs) before p c some =
    let content : x ≡ p.0 = cc (p.3) in
    let last : xs ≡ [] = cc (p.3, p.4) in
    let whole : concat (x ∷ xs) ≡ p.0 = ap (λ (z : List (List ℕ)). x ++ concat z) last ∙ append-nil x ∙ content in
    (p.2 ∙ ap (λ (z : List ℕ). primitive octet_string_tag z) (sym whole), omega (arith, c.0.1, ap length whole, ap length content), omega (arith, c.0.2, ap length whole, ap length content))
pieces_cut (more t (more u ts)) (x ∷ []) before p c some = absurd (no_more u ts (subst (ArePlain (more u ts)) (sym others) p.4))
  where
    others : [] ≡ p.1
    others = cc (p.3)

    no_more : (w : Tree) (ws : Trees) → ArePlain (more w ws) [] → ⊥
    no_more w ws q = let e : [] ≡ q.0 ∷ q.1 = q.3 in cc
pieces_cut (more t (more u ts)) (x ∷ y ∷ ys) before p c some =
    let content : x ≡ p.0 = cc (p.3) in
    let others : y ∷ ys ≡ p.1 = cc (p.3) in
    (x, concat (y ∷ ys), p.2 ∙ ap (λ (z : List ℕ). primitive octet_string_tag z) (sym content), c.1.0.0, pieces_cut (more u ts) (y ∷ ys) (length x) (subst (ArePlain (more u ts)) (sym others) p.4) c.1 (omega arith), refl)

-- What a loop over such pieces keeps: those that are left may come after the last exactly where all may stand.
pub record Stands (pieces : List (List ℕ)) (rest : List ℕ) (before : ℕ) : Type 0 where
  pub others : List (List ℕ)
  pub is : Holds others rest
  pub to : CutIn 1000 pieces → CutIn before others
  pub from : CutIn before others → CutIn 1000 pieces

pub record Cutting (octets out rest : List ℕ) (before : ℕ) : Type 0 where
  pub going : Going octets out rest
  pub each : (pieces : List (List ℕ)) → Holds pieces octets → Stands pieces rest before

pub cutting_begin : (octets : List ℕ) → Cutting octets [] octets 1000
cutting_begin octets = record { going = going_begin octets; each = λ pieces h. record { others = pieces; is = h; to = λ c. c; from = λ c. c } }

pub cutting_next : {octets out rest behind piece new : List ℕ} {before after : ℕ} → Cutting octets out rest before → ((pieces : List (List ℕ)) → Holds pieces rest → NextPiece pieces piece behind) → MayStand before piece → new ≡ out ++ piece → after ≡ length piece → Cutting octets new behind after
cutting_next {piece = piece} {before = before} {after} g next may e long = record {
  going = going_next g.going next e;
  each = λ pieces h.
      let old = g.each pieces h in
      let n = next old.others old.is in
      record {
        others = n.others;
        is = n.holds_others;
        to = λ c. subst (λ (k : ℕ). CutIn k n.others) (sym long) (subst (CutIn before) n.whole (old.to c)).1;
        from = λ c. old.from (subst (CutIn before) (sym n.whole) (may, subst (λ (k : ℕ). CutIn k n.others) long c));
      };
}

-- A piece that may not stand there.
pub cutting_refused : {V : Type 0} (f : V → List ℕ) {octets out rest behind piece : List ℕ} {before : ℕ} → Cutting octets out rest before → ((pieces : List (List ℕ)) → Holds pieces rest → NextPiece pieces piece behind) → (MayStand before piece → ⊥) → (ts : Trees) → SpellsAll Ber ts octets → TellsCut f ts None
cutting_refused f {octets} {before = before} g next never ts s v cer long =
    let p = cut_pieces ts v cer in
    let old = g.each p.0 (plain_held ts octets p.0 s p.1) in
    let n = next old.others old.is in
    never (subst (CutIn before) n.whole (old.to p.2)).0

-- All pieces have at most 1000 octets together.
pub cutting_short : {V : Type 0} (f : V → List ℕ) {octets out rest : List ℕ} {before : ℕ} → Cutting octets out rest before → ((pieces : List (List ℕ)) → Holds pieces rest → pieces ≡ []) → length out ≤ 1000 → (ts : Trees) → SpellsAll Ber ts octets → TellsCut f ts None
cutting_short f {octets} g over few ts s v cer long =
    let p = cut_pieces ts v cer in
    let whole = going_all g.going over p.0 (plain_held ts octets p.0 s p.1) in
    omega (arith, ap length whole, ap length p.3)

-- The string was gathered.
pub cutting_done : {octets out rest : List ℕ} {before : ℕ} → Cutting octets out rest before → ((pieces : List (List ℕ)) → Holds pieces rest → pieces ≡ []) → 1000 < length out → (ts : Trees) (pieces : List (List ℕ)) → SpellsAll Ber ts octets → ArePlain ts pieces → AreCerSegments ts out
cutting_done {octets} {out} {before = before} g over long ts pieces s plain =
    let h = plain_held ts octets pieces s plain in
    let whole : concat pieces ≡ out = going_all g.going over pieces h in
    let old = g.each pieces h in
    let cut = old.from (subst (CutIn before) (sym (over old.others old.is)) tt) in
    subst (AreCerSegments ts) whole (pieces_cut ts pieces 1000 plain cut (some pieces (omega (arith, ap length whole))))
  where
    some : (ps : List (List ℕ)) → 1000 < length (concat ps) → 1 ≤ length ps
    some [] h = absurd (omega arith)
    some (x ∷ xs) h = omega arith
