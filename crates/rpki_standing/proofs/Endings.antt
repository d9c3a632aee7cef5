-- The ends of names.
use Rattle.std.proofs.Common.{◌≡◌, ◌≢◌, ◌↔◌, ℕ, suc, ◌+◌, List, [], ◌∷◌, ◌++◌, length, map, take, drop, slice_index_or, Some, refl, sym, ap, subst, ◌∙◌, arith, length-append}
use Rattle.std.specs.Char.{to_ascii_lowercase}
use Rattle.std.proofs.Math.Seq.{drop-append-add}
use Rattle.std.proofs.lemmas.List.{take-append-drop, length-map, drop_more}
use Rattle.std.proofs.lemmas.Bool.Decides.{nat_tests}
use Rattle.rpki_standing.specs.certs_basics.Uris.{lower}
use Rattle.rpki_rules.specs.Chains.{HasExtension}
use Rattle.rpki_standing.specs.Names.{OneExtension, letters}
use Rattle.rpki_standing.specs.declared.payloads.names.Extension.{Extension}
use Rattle.rpki_standing.specs.declared.payloads.names.Extension.TheVariants as extension

to_lower : (c : ℕ) → to_ascii_lowercase c ≡ lower c
to_lower c = grind (arith, nat_tests)

-- std's lower case of a text is `lower` of each octet.
pub map_lower : (text : List ℕ) → map to_ascii_lowercase text ≡ map lower text
map_lower text = ap (λ f. map f text) (λ i c. to_lower c i)

-- A name has the extension where that stands after its fourth octet from the end, a dot.
pub ends_so : (extension uri : List ℕ) (dot : ℕ) → dot + 4 ≡ length uri → slice_index_or uri dot 0 ≡ 46 → map lower (drop (dot + 1) uri) ≡ extension → HasExtension extension uri
ends_so extension uri dot len is e = (
  take dot uri,
  drop (dot + 1) uri,
  sym (take-append-drop dot uri) ∙ ap (λ (t : List ℕ). take dot uri ++ t) (drop_more uri dot 0 (omega arith) ∙ ap (λ (c : ℕ). c ∷ drop (dot + 1) uri) is),
  e,
)

at_dot : (base end : List ℕ) → drop (length base + 1) (base ++ 46 ∷ end) ≡ end
at_dot base end = drop-append-add base (46 ∷ end) 1

-- However the name is split, its last three octets are the extension.
pub end_of : (extension uri : List ℕ) (dot : ℕ) → length extension ≡ 3 → dot + 4 ≡ length uri → HasExtension extension uri → map lower (drop (dot + 1) uri) ≡ extension
end_of extension uri dot three len (base, end, whole, e) =
    let le : length end ≡ 3 = sym (length-map end lower) ∙ ap length e ∙ three in
    let lb : length uri ≡ length base + suc (length end) = ap length whole ∙ length-append base (46 ∷ end) in
    let ld : dot ≡ length base = omega arith in
    ap (map lower) (ap (λ (n : ℕ). drop (n + 1) uri) ld ∙ (ap (drop (length base + 1)) whole ∙ at_dot base end)) ∙ e

three_letters : (e : Extension) → length (letters e) ≡ 3
three_letters extension.Cer = refl
three_letters extension.Roa = refl
three_letters extension.Asa = refl

abbrev first : List ℕ → ℕ
first [] = 0
first (c ∷ cs) = c

-- Unequal numbers are not equal.
unequal : (m n : ℕ) → m ≡ n → m ≢ n → ⊥
unequal m n e d = d e

-- The first letters tell the extensions apart.
of_letters : (a b : Extension) → letters a ≡ letters b → a ≡ b
of_letters extension.Cer extension.Cer e = refl
of_letters extension.Roa extension.Roa e = refl
of_letters extension.Asa extension.Asa e = refl
of_letters extension.Cer extension.Roa e = absurd (unequal 99 114 (ap first e) (omega arith))
of_letters extension.Cer extension.Asa e = absurd (unequal 99 97 (ap first e) (omega arith))
of_letters extension.Roa extension.Cer e = absurd (unequal 114 99 (ap first e) (omega arith))
of_letters extension.Roa extension.Asa e = absurd (unequal 114 97 (ap first e) (omega arith))
of_letters extension.Asa extension.Cer e = absurd (unequal 97 99 (ap first e) (omega arith))
of_letters extension.Asa extension.Roa e = absurd (unequal 97 114 (ap first e) (omega arith))

pub one_extension : OneExtension
one_extension uri a b (base, end, whole, e) h =
    let le : length end ≡ 3 = sym (length-map end lower) ∙ ap length e ∙ three_letters a in
    let lb : length uri ≡ length base + suc (length end) = ap length whole ∙ length-append base (46 ∷ end) in
    let len : length base + 4 ≡ length uri = omega arith in
    of_letters a b (sym (end_of (letters a) uri (length base) (three_letters a) len (base, end, whole, e)) ∙ end_of (letters b) uri (length base) (three_letters b) len h)

some_is : (a b : Extension) → Some a ≡ Some b → a ≡ b
some_is a b e = cc

-- The one that a name has is the only one.
pub found : (uri : List ℕ) (a : Extension) → HasExtension (letters a) uri → (b : Extension) → (Some a ≡ Some b) ↔ HasExtension (letters b) uri
found uri a h b = (λ e. subst (λ (x : Extension). HasExtension (letters x) uri) (some_is a b e) h, λ k. ap Some (one_extension uri a b h k))
