-- Lines put together.
use Rattle.std.proofs.Common.{◌≡◌, ℕ, ◌+◌, ◌<◌, List, [], ◌∷◌, ◌++◌, length, get_or, take, map, codes, flat_map, append_assoc, sym, ap, ◌∙◌}
use Rattle.std.proofs.lemmas.List.{take_more, flat_map_more}
use Rattle.std.proofs.lemmas.List.Folds.{flat_map-map}
use Rattle.rpki_rules.specs.World.{World}
use Rattle.rpki_rules.specs.Lines.{Customer, asn_text, origin_line, customer_line, refusal_line}
use Rattle.rpki_rules.specs.Output.{IsOutput}
use Rattle.rpki_rules.specs.Report.{ReportValue, IsReport}
use Rattle.rpki_rules.specs.Texts.{report_text}

-- A list of texts, and the next one.
pub one_more : {X : Type 0} (f : X → List ℕ) (bs t u piece : List ℕ) (xs : List X) (i : ℕ) (x : X) → i < length xs → x ≡ get_or xs i x → t ≡ bs ++ flat_map f (take i xs) → piece ≡ f x → u ≡ t ++ piece → u ≡ bs ++ flat_map f (take (i + 1) xs)
one_more f bs t u piece xs i x h is te pe ue =
    let more = flat_map_more f bs (take i xs) x in
    let taken = take_more xs i x h in
    cc

-- The texts of what a list shows.
pub shown : {X Y : Type 0} (g : Y → List ℕ) (v : X → Y) (xs : List X) (ys : List Y) → map v xs ≡ ys → flat_map (λ x. g (v x)) xs ≡ flat_map g ys
shown g v xs ys e = sym (flat_map-map g v xs) ∙ ap (flat_map g) e

-- A customer's line from its pieces.
pub customer_whole : {X : Type 0} (v : X → ℕ) (k : Customer) (n : ℕ) (xs : List X) (t0 t1 t2 t3 s : List ℕ) → n ≡ k.number → map v xs ≡ k.providers → s ≡ codes "aspa " ++ asn_text n → t1 ≡ t0 ++ s → t2 ≡ t1 ++ flat_map (λ x. codes " " ++ asn_text (v x)) xs → t3 ≡ t2 ++ 10 ∷ [] → t3 ≡ t0 ++ customer_line k
customer_whole v k n xs t0 t1 t2 t3 s en ek es e1 e2 e3 =
    let front : List ℕ = codes "aspa " ++ asn_text k.number in
    let more : List ℕ = flat_map (λ p. codes " " ++ asn_text p) k.providers in
    let start : s ≡ front = es ∙ ap (λ (m : ℕ). codes "aspa " ++ asn_text m) en in
    let providers = shown (λ (p : ℕ). codes " " ++ asn_text p) v xs k.providers ek in
    let here : t2 ≡ (t0 ++ front) ++ more = e2 ∙ ap (λ (t : List ℕ). t1 ++ t) providers ∙ ap (λ (t : List ℕ). t ++ more) (e1 ∙ ap (λ (t : List ℕ). t0 ++ t) start) in
    e3 ∙ ap (λ (t : List ℕ). t ++ 10 ∷ []) here ∙ append_assoc (t0 ++ front) more (10 ∷ []) ∙ append_assoc t0 front (more ++ 10 ∷ [])

-- A report's text from those of its lists.
pub report_whole : (r : ReportValue) (a b c t0 t1 t2 t3 : List ℕ) → t0 ≡ [] → t1 ≡ t0 ++ a → t2 ≡ t1 ++ b → t3 ≡ t2 ++ c → a ≡ flat_map origin_line r.origins → b ≡ flat_map customer_line r.customers → c ≡ flat_map refusal_line r.refusals → t3 ≡ report_text r
report_whole r a b c t0 t1 t2 t3 e0 e1 e2 e3 ea eb ec =
    let whole : t3 ≡ (a ++ b) ++ c = e3 ∙ ap (λ (t : List ℕ). t ++ c) (e2 ∙ ap (λ (t : List ℕ). t ++ b) (e1 ∙ ap (λ (t : List ℕ). t ++ a) e0)) in
    let parts : (a ++ b) ++ c ≡ a ++ (b ++ c) = append_assoc a b c in
    cc

-- Of the report of a world it is the output.
pub output_of : (w : World) (r : ReportValue) (text : List ℕ) → text ≡ report_text r → IsReport w r → IsOutput w text
output_of w r text e is = record {
  origins = r.origins;
  customers = r.customers;
  refusals = r.refusals;
  origins_are = is.origins_are;
  customers_are = is.customers_are;
  refusals_are = is.refusals_are;
  whole = e;
}
