-- The octets of a constructed value whose content was read, from its header to what is after it.
use Rattle.std.proofs.Common.{◌≡◌, ℕ, ◌+◌, true, List, [], ◌∷◌, ◌++◌, length, Option, Some, refl, sym, ap, ◌∙◌, subst, append_assoc, length-append, arith}
use Rattle.certs_x509.specs.bcder_tree.declared.mode.Mode.{Mode}
use Rattle.certs_x509.specs.bcder_tree.Tags.{TagValue}
use Rattle.certs_x509.specs.bcder_tree.Tree.{IsConstructed, IsHeader, definite, indefinite}
use Rattle.certs_x509.specs.bcder_source.Views.{View, Moved, more_limit}
use Rattle.certs_x509.proofs.of_bcder_source.Moves.{moved_both}
use Rattle.certs_x509.specs.bcder_content.declared.ending.Span.{Span}
use Rattle.certs_x509.specs.bcder_content.declared.ending.Span.TheVariants.{Until, ToEnd}
use Rattle.certs_x509.specs.bcder_content.Openings.{Closes, Opens}

-- A constructed value was read, around this content.
pub record ReadAround (m : Mode) (old : View) (t : TagValue) (content : List ℕ) (new : View) : Type 0 where
  pub text : List ℕ
  pub around : IsConstructed m text t content
  pub moved : Moved old text new

-- The count of a content that was read to its end.
count_is : {inner end : View} {content : List ℕ} (n : ℕ) → inner.limit ≡ Some n → Moved inner content end → end.limit ≡ Some 0 → n ≡ length content
count_is {inner} {end} {content} n is m e =
    let c : Some n ≡ Some (length content + 0) = sym is ∙ m.limit ∙ ap (more_limit (length content)) e in
    let d : n ≡ length content + 0 = cc in
    omega arith

counted : {old inner end new : View} {content : List ℕ} {outer : Option ℕ} (h : List ℕ) (n : ℕ) → old.rest ≡ h ++ inner.rest
    → old.limit ≡ more_limit (length h + n) outer → Moved inner content end → n ≡ length content → new ≡ record { rest = end.rest; limit = outer }
    → Moved old (h ++ content) new
counted {old} {inner} {end} {new} {content} {outer} h n rest limit m count e =
    let r : new.rest ≡ end.rest = ap (λ (v : View). v.rest) e in
    let l : new.limit ≡ outer = ap (λ (v : View). v.limit) e in
    record {
      rest = rest ∙ ap (λ (s : List ℕ). h ++ s) (m.rest ∙ ap (λ (s : List ℕ). content ++ s) (sym r)) ∙ sym (append_assoc h content new.rest);
      limit = limit ∙ ap (λ (z : ℕ). more_limit (length h + z) outer) count ∙ ap (λ (z : ℕ). more_limit z outer) (sym (length-append h content)) ∙ ap (more_limit (length (h ++ content))) (sym l);
    }

pub read_around : {m : Mode} {old inner end new : View} {t : TagValue} {span : Span} {content : List ℕ} → Opens m old true t span inner
    → Moved inner content end → Closes span end new → ReadAround m old t content new
read_around {m} {old} {inner} {end} {new} {t} {span = Until outer} {content} o mv cl =
    let n = o.how.1.0 in
    let count : n ≡ length content = count_is n o.how.1.2 mv cl.0 in
    record {
      text = o.text ++ content;
      around = definite (o.how.0 refl) o.text (subst (λ (z : ℕ). IsHeader m o.text true t z) count o.how.1.1) refl;
      moved = counted o.text n o.rest o.how.1.3 mv count cl.1;
    }
read_around {m} {old} {inner} {end} {new} {t} {span = ToEnd} {content} o mv cl =
    let identifier = o.how.2.0 in
    let shape : o.text ++ (content ++ (0 ∷ 0 ∷ [])) ≡ identifier ++ (128 ∷ content ++ (0 ∷ 0 ∷ [])) =
    ap (λ (z : List ℕ). z ++ (content ++ (0 ∷ 0 ∷ []))) o.how.2.3 ∙ append_assoc identifier (128 ∷ []) (content ++ (0 ∷ 0 ∷ [])) in
    let header : Moved old o.text inner = record { rest = o.rest; limit = o.how.3 } in
    record {
      text = identifier ++ (128 ∷ content ++ (0 ∷ 0 ∷ []));
      around = indefinite o.how.1 identifier o.how.2.1 o.how.2.2 refl;
      moved = subst (λ (z : List ℕ). Moved old z new) shape (moved_both header (moved_both mv cl));
    }
