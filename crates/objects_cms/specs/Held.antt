-- Octets that hold the names and hashes of files, in their order: what is left of a list.
use Rattle.std.proofs.Common.{◌≡◌, ℕ, true, false, List, [], ◌∷◌, ◌++◌, length, take, drop, inl, inr, refl, sym, ap, ◌∙◌, subst, arith, append_assoc}
use Rattle.std.proofs.Math.Logic.{∥∥₁_elim, ∥∥₁_prop}
use Rattle.std.proofs.Math.Seq.{drop-append_seam, take-append_seam}
use Rattle.std.specs.Coded.{Coded-set, coded_list}
use Rattle.objects_cms.specs.bcder_tree.declared.mode.Mode.TheVariants.{Ber}
use Rattle.objects_cms.specs.bcder_tree.declared.length.Length.TheVariants.{Definite as LengthIs}
use Rattle.objects_cms.specs.bcder_content.Openings.{Heads, NoHead}
use Rattle.bcder_octets.specs.Pieces.{Holds, Mark, Marks, around, held, holds}
use Rattle.bcder_octets.proofs.of_bcder_content.Opening.{head_of}
use Rattle.bcder_octets.proofs.of_bcder_tree.Parts.{Ends, identifier_goes_on}
use Rattle.bcder_octets.proofs.Walk.{next_at, none_left, past_closing, past_header, piece_at}
use Rattle.objects_payload.specs.Manifests.{File}
use Rattle.objects_cms.specs.Listing.{file_code}

-- The contents of the primitive values of files: a name, and a hash after the number of its unused bits.
abbrev pub pieces_of : List File → List (List ℕ)
pieces_of [] = []
pieces_of (f ∷ files) = f.name ∷ (0 ∷ f.hash) ∷ pieces_of files

abbrev pub HoldsFiles : List File → List ℕ → Type 0
HoldsFiles files octets = Holds (pieces_of files) octets

-- The files that are left of a list.
abbrev pub Left : List ℕ → Type 0
Left octets = (files : List File) × ∥ HoldsFiles files octets ∥₁

-- What no value begins with has no header in front.
no_head : (s : List ℕ) → Ends s → NoHead Ber s
no_head s e = record {
  none = λ form t l text rest head whole.
      identifier_goes_on head.identifier (head.size ++ rest) form t head.tag head.identifier_is
      (subst Ends (whole ∙ ap (λ (z : List ℕ). z ++ rest) head.whole ∙ append_assoc head.identifier head.size rest) e);
}

behind_is : {k : ℕ} {s : List ℕ} (text rest : List ℕ) → s ≡ text ++ rest → length text ≡ k
    → drop k s ≡ rest
behind_is {k} {s} text rest e long = ap (λ (z : List ℕ). drop k z) e ∙ ap
    (λ (n : ℕ). drop n (text ++ rest)) (sym long) ∙ drop-append_seam text rest

no_form : true ≡ false → ⊥
no_form e = absurd cc

-- Octets hold one list of contents at most.
holds_one : (marks : List Mark) (s : List ℕ) (pieces : List (List ℕ)) → Marks marks s
    → Holds pieces s → held marks ≡ pieces
holds_one [] s pieces m h =
    sym (none_left pieces (no_head s (subst Ends (sym m) tt)) (omega (arith, ap length m)) h)
holds_one (holds content ∷ marks) s pieces m h =
    let head : Heads Ber false m.3.0 (LengthIs (length content)) (length m.0) s = record { text = m.0; rest = content ++ m.1; head = head_of m.3.1; whole = m.2; long = refl } in
    let p = piece_at pieces head h in
    let here : drop (length m.0) s ≡ content ++ m.1 = behind_is m.0 (content ++ m.1) m.2 refl in
    let n = next_at p in
    let first : take (length content) (drop (length m.0) s) ≡ content =
    ap (take (length content)) here ∙ take-append_seam content m.1 in
    let left : drop (length content) (drop (length m.0) s) ≡ m.1 =
    behind_is content m.1 here refl in
    let same : held marks ≡ n.others =
    holds_one marks m.1 n.others m.4 (subst (Holds n.others) left n.holds_others) in
    ap (λ (z : List (List ℕ)). content ∷ z) same ∙ ap (λ (z : List ℕ). z ∷ n.others)
    (sym first) ∙ sym n.whole
holds_one (around ∷ marks) s pieces m h = elim m.3 [
  | inl z ↦
      let e : s ≡ 0 ∷ 0 ∷ m.1 = m.2 ∙ ap (λ (y : List ℕ). y ++ m.1) z in
      holds_one marks m.1 pieces m.4 (subst (Holds pieces) (ap (λ (y : List ℕ). drop 2 y) e)
      (past_closing pieces (no_head s (subst Ends (sym e) refl))
      (omega (arith, ap length e)) h))
  | inr w ↦
      let head : Heads Ber true w.0 w.1 (length m.0) s =
      record { text = m.0; rest = m.1; head = w.2; whole = m.2; long = refl } in
      holds_one marks m.1 pieces m.4 (subst (Holds pieces) (behind_is m.0 m.1 m.2 refl)
      (past_header pieces head (λ n k e. no_form k) h))
]

pub one_holds : (s : List ℕ) (xs ys : List (List ℕ)) → Holds xs s → Holds ys s → xs ≡ ys
one_holds s xs ys p q = p.whole ∙ holds_one p.marks s ys p.is q

same_files : (xs ys : List File) → pieces_of xs ≡ pieces_of ys → xs ≡ ys
same_files [] [] e = refl
same_files [] (y ∷ ys) e = absurd cc
same_files (x ∷ xs) [] e = absurd cc
same_files (x ∷ xs) (y ∷ ys) e =
    let name : x.name ≡ y.name = cc in
    let hash : x.hash ≡ y.hash = cc in
    let others : pieces_of xs ≡ pieces_of ys = cc in
    let first : x ≡ y = λ i. record { name = name i; hash = hash i } in
    ap (λ (z : File). z ∷ xs) first ∙ ap (λ (z : List File). y ∷ z) (same_files xs ys others)

-- Octets hold one list of files at most.
pub one_files : (s : List ℕ) (xs ys : List File) → HoldsFiles xs s → HoldsFiles ys s → xs ≡ ys
one_files s xs ys p q = same_files xs ys (one_holds s (pieces_of xs) (pieces_of ys) p q)

pub same_left : (s : List ℕ) (x y : Left s) → x.0 ≡ y.0
same_left s x y = ∥∥₁_elim x.1 (Coded-set (coded_list file_code) _ _)
    (λ p. ∥∥₁_elim y.1 (Coded-set (coded_list file_code) _ _) (λ q. one_files s x.0 y.0 p q))

pub one_left : (s : List ℕ) (x y : Left s) → x ≡ y
one_left s x y =
    subst (λ (l : List File). (h : ∥ HoldsFiles l s ∥₁) → x ≡ (l, h)) (same_left s x y)
    (λ h. ap (λ k. (x.0, k)) (∥∥₁_prop x.1 h)) y.1
