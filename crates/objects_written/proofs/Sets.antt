-- What is written of captured values, one after the other and in a SET.
use Rattle.std.proofs.Common.{◌≡◌, ◌+◌, ℕ, List, ◌++◌, length, length-append, Result, Ok, Err, IfOk, IfErr, inl, inr, refl, ap, ◌∙◌, subst, arith}
use Rattle.objects_written.specs.bcder_tree.declared.mode.Mode.TheVariants.{Der}
use Rattle.objects_written.specs.bcder_tree.Tags.{set_tag}
use Rattle.objects_written.specs.bcder_tree.Tree.{IsConstructed, Trees, definite, indefinite}
use Rattle.objects_written.specs.bcder_content.Kept.{CapturedValue, SpellsValues}
use Rattle.objects_written.specs.bcder_primitive.Encoded.{AreBoth, WritesBoth, WritesWrapped, joined}
use Rattle.objects_written.specs.bcder_primitive.declared.written.error.EncodeError.{EncodeError}
use Rattle.objects_written.specs.bcder_primitive.declared.written.error.EncodeError.TheVariants as errors
use Rattle.certs_key.proofs.of_bcder_tree.Fronts.{one_octet_header}
use Rattle.objects_written.specs.bcder_values.Captures.{CapturedText, CapturedTrees}
use Rattle.objects_written.specs.bcder_values.Gathered.{ExtendRefused}
use Rattle.objects_written.specs.Attributes.{IsMessage}
use Rattle.objects_written.specs.Orders.{AreThese, SetRefused}

mode_of : {c d : CapturedValue} → c ≡ d → c.mode ≡ d.mode
mode_of e = ap (λ (z : CapturedValue). z.mode) e

octets_of : {c d : CapturedValue} → c ≡ d → c.octets ≡ d.octets
octets_of e = ap (λ (z : CapturedValue). z.octets) e

message_of : (text content : List ℕ) → IsConstructed Der text set_tag content → IsMessage content text
message_of text content (definite d header is whole) = record {
  size = is.size;
  size_is = is.size_is;
  whole = whole ∙ ap (λ (h : List ℕ). h ++ content) (one_octet_header (omega arith) is);
}
message_of text content (indefinite d i tag is whole) = absurd d

-- A SET of captured values is the message of their octets.
pub message_is : (c : CapturedValue) (text : List ℕ) → WritesWrapped Der set_tag (CapturedText c Der) text → IsMessage c.octets text
message_is c text w = subst (λ (o : List ℕ). IsMessage o text) w.is.whole (message_of text w.content w.spelled)

pub message_told : {E : Type 0} (a : CapturedValue) (r : Result CapturedValue E) → IfOk r (λ c. WritesWrapped Der set_tag (CapturedText a Der) c.octets) → IfOk r (λ c. IsMessage a.octets c.octets)
message_told a (Ok c) h = message_is a c.octets h
message_told a (Err e) h = tt

-- Three that are in DER, in whatever order.
pub all_der : (t : CapturedValue × (CapturedValue × CapturedValue)) (x y z : CapturedValue) → t.0.mode ≡ Der → t.1.0.mode ≡ Der → t.1.1.mode ≡ Der → AreThese t x y z
    → (x.mode ≡ Der) × (y.mode ≡ Der) × (z.mode ≡ Der)
all_der t x y z a b c (inl p) = (mode_of p.0 ∙ a, mode_of p.1 ∙ b, mode_of p.2 ∙ c)
all_der t x y z a b c (inr (inl p)) = (mode_of p.0 ∙ a, mode_of p.1 ∙ c, mode_of p.2 ∙ b)
all_der t x y z a b c (inr (inr (inl p))) = (mode_of p.0 ∙ c, mode_of p.1 ∙ a, mode_of p.2 ∙ b)
all_der t x y z a b c (inr (inr (inr (inl p)))) = (mode_of p.0 ∙ b, mode_of p.1 ∙ a, mode_of p.2 ∙ c)
all_der t x y z a b c (inr (inr (inr (inr (inl p))))) = (mode_of p.0 ∙ b, mode_of p.1 ∙ c, mode_of p.2 ∙ a)
all_der t x y z a b c (inr (inr (inr (inr (inr p))))) = (mode_of p.0 ∙ c, mode_of p.1 ∙ b, mode_of p.2 ∙ a)

-- They can be written in DER.
trees_of : (c : CapturedValue) → c.mode ≡ Der → SpellsValues c.mode c.octets → (ts : Trees) × CapturedTrees c Der ts
trees_of c e s = (s.trees, record { stands = inr e; spelled = s.spelled })

text_of : (c : CapturedValue) → c.mode ≡ Der → SpellsValues c.mode c.octets → CapturedText c Der c.octets
text_of c e s = record { stands = inr e; values = s; whole = refl }

abbrev Three : CapturedValue → CapturedValue → CapturedValue → Trees → Type 0
Three x y z = AreBoth (CapturedTrees x Der) (AreBoth (CapturedTrees y Der) (CapturedTrees z Der))

abbrev ThreeText : CapturedValue → CapturedValue → CapturedValue → List ℕ → Type 0
ThreeText x y z = WritesBoth (CapturedText x Der) (WritesBoth (CapturedText y Der) (CapturedText z Der))

three_trees : (x y z : CapturedValue) → (ts : Trees) × CapturedTrees x Der ts → (ts : Trees) × CapturedTrees y Der ts → (ts : Trees) × CapturedTrees z Der ts → (ts : Trees) × Three x y z ts
three_trees x y z a b c = (
  joined a.0 (joined b.0 c.0),
  record { first = a.0; second = joined b.0 c.0; is_first = a.1; is_second = record { first = b.0; second = c.0; is_first = b.1; is_second = c.1; whole = refl }; whole = refl },
)

-- Whatever order they are in, they have as many octets.
pub same_long : (t : List ℕ × (List ℕ × List ℕ)) (x y z : List ℕ) → AreThese t x y z → length x + length y + length z ≡ length t.0 + length t.1.0 + length t.1.1
same_long t x y z (inl p) = omega (arith, ap length p.0, ap length p.1, ap length p.2)
same_long t x y z (inr (inl p)) = omega (arith, ap length p.0, ap length p.1, ap length p.2)
same_long t x y z (inr (inr (inl p))) = omega (arith, ap length p.0, ap length p.1, ap length p.2)
same_long t x y z (inr (inr (inr (inl p)))) = omega (arith, ap length p.0, ap length p.1, ap length p.2)
same_long t x y z (inr (inr (inr (inr (inl p))))) = omega (arith, ap length p.0, ap length p.1, ap length p.2)
same_long t x y z (inr (inr (inr (inr (inr p))))) = omega (arith, ap length p.0, ap length p.1, ap length p.2)

pub text_long : (text x y z : List ℕ) → text ≡ x ++ (y ++ z) → length text ≡ length x + length y + length z
text_long text x y z e = omega (arith, ap length e, length-append x (y ++ z), length-append y z)

-- Why three values in DER aren't put together.
set_refused : (t : List ℕ × (List ℕ × List ℕ)) (x y z : CapturedValue) → AreThese t x.octets y.octets z.octets → x.mode ≡ Der → y.mode ≡ Der → z.mode ≡ Der
    → SpellsValues x.mode x.octets → SpellsValues y.mode y.octets → SpellsValues z.mode z.octets → (e : EncodeError) → ExtendRefused (Three x y z) (ThreeText x y z) e → SetRefused t e
set_refused t x y z are a b c p q r errors.CerUnsupported h =
    let all = three_trees x y z (trees_of x a p) (trees_of y b q) (trees_of z c r) in
    h all.0 all.1
set_refused t x y z are a b c p q r errors.TooLong h = λ text s few.
    let long = text_long text s.first s.second s.third s.whole in
    h (x.octets ++ (y.octets ++ z.octets)) (record {
      first = x.octets;
      second = y.octets ++ z.octets;
      is_first = text_of x a p;
      is_second = record { first = y.octets; second = z.octets; is_first = text_of y b q; is_second = text_of z c r; whole = refl };
      whole = refl;
    }) (omega (arith, few, long, same_long t s.first s.second s.third s.are, same_long t x.octets y.octets z.octets are, text_long _ x.octets y.octets z.octets refl))
set_refused t x y z are a b c p q r errors.Write h = h
set_refused t x y z are a b c p q r errors.Memory h = tt

octets_these : (t : CapturedValue × (CapturedValue × CapturedValue)) (x y z : CapturedValue) → AreThese t x y z
    → AreThese (t.0.octets, (t.1.0.octets, t.1.1.octets)) x.octets y.octets z.octets
octets_these t x y z (inl p) = inl (octets_of p.0, octets_of p.1, octets_of p.2)
octets_these t x y z (inr (inl p)) = inr (inl (octets_of p.0, octets_of p.1, octets_of p.2))
octets_these t x y z (inr (inr (inl p))) = inr (inr (inl (octets_of p.0, octets_of p.1, octets_of p.2)))
octets_these t x y z (inr (inr (inr (inl p)))) = inr (inr (inr (inl (octets_of p.0, octets_of p.1, octets_of p.2))))
octets_these t x y z (inr (inr (inr (inr (inl p))))) = inr (inr (inr (inr (inl (octets_of p.0, octets_of p.1, octets_of p.2)))))
octets_these t x y z (inr (inr (inr (inr (inr p))))) = inr (inr (inr (inr (inr (octets_of p.0, octets_of p.1, octets_of p.2)))))

pub set_told : {A : Type 0} (t : CapturedValue × (CapturedValue × CapturedValue)) (x y z : CapturedValue) → AreThese t x y z → t.0.mode ≡ Der → t.1.0.mode ≡ Der → t.1.1.mode ≡ Der
    → SpellsValues x.mode x.octets → SpellsValues y.mode y.octets → SpellsValues z.mode z.octets → (r : Result A EncodeError) → IfErr r (ExtendRefused (Three x y z) (ThreeText x y z))
    → IfErr r (SetRefused (t.0.octets, (t.1.0.octets, t.1.1.octets)))
set_told t x y z are a b c p q s (Ok v) h = tt
set_told t x y z are a b c p q s (Err e) h =
    let modes = all_der t x y z a b c are in
    set_refused (t.0.octets, (t.1.0.octets, t.1.1.octets)) x y z (octets_these t x y z are) modes.0 modes.1 modes.2 p q s e h
