-- URIs that are made of URIs: their folders, and names joined to them; and URIs as texts.
use Rattle.std.proofs.Common.{◌≡◌, ◌≢◌, ℕ, suc, ◌+◌, ◌<◌, ◌≤◌, ◌==◌, Bool, true, false, Some, inl, inr, cond, List, [], ◌∷◌, ◌++◌, map, take, length, All, refl, sym, ap, ◌∙◌, subst, arith, append_assoc, append-nil, zero-add, if◌then◌else◌}
use Rattle.std.specs.Prelude.{IsUtf8}
use Rattle.std.proofs.lemmas.Bool.{cond-false, ne_eqb, false≢true}
use Rattle.std.proofs.lemmas.Bool.Decides.{nat_tests}
use Rattle.std.proofs.lemmas.List.{take-take, length-take}
use Rattle.std.proofs.lemmas.List.Elements.{All-append, All-cons, All-head, All-tail, All-take, All-same, All-weaker}
use Rattle.std.proofs.lemmas.Str.{IsUtf8-from_ascii}
use Rattle.std.proofs.lemmas.Str.Ascii.{IsAscii-from_all}
use Rattle.certs_basics.specs.Paths.{behind_slashes, ends_with_slash, join, parent, parent_behind, to_last_slash, without_slash}
use Rattle.certs_basics.specs.Uris.{lower, IsRest, IsRsync, IsUri, IsUriOctet}
use Rattle.certs_basics.proofs.PathTexts.{to_last_slash-append, to_last_slash-front, without_slash-append, without_slash-front}

-- A text of URI octets is UTF-8.
pub IsUtf8-from_plain : (text : List ℕ) → All IsUriOctet text → IsUtf8 text
IsUtf8-from_plain text a =
    IsUtf8-from_ascii text (IsAscii-from_all text (All-weaker IsUriOctet (λ c. c < 128) (λ c h. omega (arith, h.1)) text a))

-- How many slashes a text has.
slashes : List ℕ → ℕ
slashes [] = 0
slashes (c ∷ text) = if c == 47 then suc (slashes text) else slashes text

-- Lower case keeps slashes.
pub lower-slash : (c : ℕ) → (lower c == 47) ≡ (c == 47)
lower-slash c = grind (arith, nat_tests)

slashes-map : (text : List ℕ) → slashes (map lower text) ≡ slashes text
unfolding slashes
slashes-map [] = refl
slashes-map (c ∷ text) = rw (lower-slash c, slashes-map text) refl

slashes-none : (text : List ℕ) → All (λ c. c ≢ 47) text → slashes text ≡ 0
unfolding slashes
slashes-none [] a = refl
slashes-none (c ∷ text) a =
    cond-false _ _ _ (ne_eqb c 47 (All-head (λ x. x ≢ 47) c text a)) ∙ slashes-none text (All-tail (λ x. x ≢ 47) c text a)

-- A front's slashes are passed, and the front with them.
behind-front : (m n : ℕ) (front behind : List ℕ) → m ≡ slashes front + n → behind_slashes (suc m) (front ++ behind) ≡ behind_slashes (suc n) behind
unfolding slashes
behind-front m n [] behind e = ap (λ k. behind_slashes (suc k) behind) (e ∙ zero-add n)
behind-front m n (c ∷ front) behind e =
    let s = slashes front in
    let rest = front ++ behind in
    let P : Bool → Type 0 = λ b. m ≡ cond b (suc s) s + n → (if b then behind_slashes m rest else behind_slashes (suc m) rest) ≡ behind_slashes (suc n) behind in
    (elim (c == 47) as P [
      | true ↦ λ h. let less : m ≡ suc (s + n) = omega (arith, h) in ap (λ k. behind_slashes k rest) less ∙ behind-front (s + n) n front behind refl
      | false ↦ λ h. behind-front m n front behind h
    ]) e

-- After four slashes of an rsync URI comes its path.
behind-four : (uri : List ℕ) (r : IsRsync uri) → behind_slashes 4 uri ≡ behind_slashes 1 r.rest
unfolding slashes
behind-four uri r =
    let behind = r.module_name ++ r.rest in
    let in_scheme : slashes r.scheme ≡ 2 = sym (slashes-map r.scheme) ∙ ap slashes r.scheme_is in
    let in_host = slashes-none r.host r.host_is.no_slash in
    let in_name = slashes-none r.module_name r.module_is.no_slash in
    ap (behind_slashes 4) r.whole
    ∙ behind-front 3 1 r.scheme (r.host ++ (47 ∷ behind)) (omega (arith, in_scheme))
    ∙ behind-front 1 1 r.host (47 ∷ behind) (omega (arith, in_host))
    ∙ behind-front 0 0 r.module_name r.rest (omega (arith, in_name))

-- A folder is the URI less a slash and the last segment.
folder-is : (behind uri folder : List ℕ) → parent_behind behind uri ≡ Some folder → folder ≡ to_last_slash (without_slash uri)
folder-is [] uri folder e = absurd (cc)
folder-is (c ∷ behind) uri folder e = cc

-- A folder is a front of the URI.
pub folder-front : (uri folder : List ℕ) → parent uri ≡ Some folder → folder ≡ take (length folder) uri
folder-front uri folder e =
    let text = without_slash uri in
    let is = folder-is (behind_slashes 4 uri) uri folder e in
    let front : folder ≡ take (length folder) text = is ∙ to_last_slash-front text ∙ ap (λ t. take (length t) text) (sym is) in
    let short : length folder ≤ length text = omega (arith, ap length front, length-take (length folder) text) in
    front ∙ ap (take (length folder)) (without_slash-front uri) ∙ take-take (length folder) (length text) uri short

-- A folder has a slash after the module.
folder-path : (front path uri folder : List ℕ) → uri ≡ front ++ 47 ∷ path → parent_behind (behind_slashes 1 (47 ∷ path)) uri ≡ Some folder → (more : List ℕ) × (folder ≡ front ++ 47 ∷ more)
folder-path front [] uri folder whole e = absurd (cc)
folder-path front (c ∷ path) uri folder whole e =
    let back = without_slash (c ∷ path) in
    let less : without_slash uri ≡ front ++ 47 ∷ back = ap without_slash whole ∙ without_slash-append front (47 ∷ c ∷ path) (λ n. absurd (cc)) in
    (to_last_slash back, folder-is (c ∷ path) uri folder e ∙ ap to_last_slash less ∙ to_last_slash-append front back)

folder-rest : (front rest uri folder : List ℕ) → IsRest rest → uri ≡ front ++ rest → parent_behind (behind_slashes 1 rest) uri ≡ Some folder → (more : List ℕ) × (folder ≡ front ++ 47 ∷ more)
folder-rest front [] uri folder h whole e = absurd (cc)
folder-rest front (c ∷ path) uri folder h whole e =
    folder-path front path uri folder (whole ∙ ap (λ x. front ++ x ∷ path) h) (ap (λ x. parent_behind (behind_slashes 1 (x ∷ path)) uri) (sym h) ∙ e)

-- What comes after the module, taken apart from what is before it.
module-split : (scheme host name rest : List ℕ) → (scheme ++ (host ++ 47 ∷ name)) ++ rest ≡ scheme ++ (host ++ (47 ∷ (name ++ rest)))
module-split scheme host name rest =
    append_assoc scheme (host ++ 47 ∷ name) rest ∙ ap (λ t. scheme ++ t) (append_assoc host (47 ∷ name) rest)

-- The folder of an rsync URI is one.
pub IsRsync-parent : (uri folder : List ℕ) → IsRsync uri → parent uri ≡ Some folder → IsRsync folder
IsRsync-parent uri folder r e =
    let front = r.scheme ++ (r.host ++ 47 ∷ r.module_name) in
    let whole : uri ≡ front ++ r.rest = r.whole ∙ sym (module-split r.scheme r.host r.module_name r.rest) in
    let behind = ap (λ t. parent_behind t uri) (sym (behind-four uri r)) ∙ e in
    let found = folder-rest front r.rest uri folder r.rest_is whole behind in
    record {
      scheme = r.scheme;
      host = r.host;
      module_name = r.module_name;
      rest = 47 ∷ found.0;
      whole = found.1 ∙ module-split r.scheme r.host r.module_name (47 ∷ found.0);
      plain = All-same IsUriOctet folder _ (folder-front uri folder e) (All-take IsUriOctet (length folder) uri r.plain);
      scheme_is = r.scheme_is;
      host_is = r.host_is;
      module_is = r.module_is;
      rest_is = refl;
    }

-- An rsync URI with more after it.
more-rsync : (uri more : List ℕ) (r : IsRsync uri) → IsRest (r.rest ++ more) → All IsUriOctet more → IsRsync (uri ++ more)
more-rsync uri more r rest plain = record {
  scheme = r.scheme;
  host = r.host;
  module_name = r.module_name;
  rest = r.rest ++ more;
  whole =
      ap (λ t. t ++ more) (r.whole ∙ sym (module-split r.scheme r.host r.module_name r.rest))
      ∙ append_assoc _ r.rest more ∙ module-split r.scheme r.host r.module_name (r.rest ++ more);
  plain = All-append IsUriOctet uri more r.plain plain;
  scheme_is = r.scheme_is;
  host_is = r.host_is;
  module_is = r.module_is;
  rest_is = rest;
}

-- A rest with more after it.
IsRest-append : (rest more : List ℕ) → IsRest rest → (rest ≡ [] → IsRest more) → IsRest (rest ++ more)
IsRest-append [] more r h = h refl
IsRest-append (c ∷ rest) more r h = r

-- Whether a text ends with a slash depends on its end alone.
ends-append : (front behind : List ℕ) → behind ≢ [] → ends_with_slash (front ++ behind) ≡ ends_with_slash behind
ends-append [] behind h = refl
ends-append (c ∷ []) [] h = absurd (h refl)
ends-append (c ∷ []) (d ∷ behind) h = refl
ends-append (c ∷ d ∷ front) behind h = ends-append (d ∷ front) behind h

-- A text without a slash ends with none.
ends-none : (text : List ℕ) → All (λ c. c ≢ 47) text → ends_with_slash text ≡ false
ends-none [] a = refl
ends-none (c ∷ []) a = ne_eqb c 47 (All-head (λ x. x ≢ 47) c [] a)
ends-none (c ∷ d ∷ text) a = ends-none (d ∷ text) (All-tail (λ x. x ≢ 47) c (d ∷ text) a)

-- An rsync URI that ends with its module ends with no slash.
ends-module : (uri : List ℕ) (r : IsRsync uri) → r.rest ≡ [] → ends_with_slash uri ≡ false
ends-module uri r e =
    let name = r.module_name in
    let whole : uri ≡ (r.scheme ++ (r.host ++ 47 ∷ [])) ++ name =
    r.whole ∙ ap (λ t. r.scheme ++ (r.host ++ (47 ∷ (name ++ t)))) e ∙ ap (λ t. r.scheme ++ (r.host ++ (47 ∷ t))) (append-nil name) ∙ sym (module-split r.scheme r.host [] name) in
    ap ends_with_slash whole ∙ ends-append (r.scheme ++ (r.host ++ 47 ∷ [])) name r.module_is.some ∙ ends-none name r.module_is.no_slash

-- A name joined to an rsync URI makes one.
pub IsRsync-join : (uri name : List ℕ) → IsRsync uri → All IsUriOctet name → IsRsync (join uri name)
IsRsync-join uri name r plain =
    let slash : All IsUriOctet (47 ∷ name) = All-cons IsUriOctet 47 name (omega arith, omega arith) plain in
    let with_slash : IsRsync (uri ++ 47 ∷ name) = more-rsync uri (47 ∷ name) r (IsRest-append r.rest (47 ∷ name) r.rest_is (λ _. refl)) slash in
    let P : Bool → Type 0 = λ b. ends_with_slash uri ≡ b → IsRsync ((if b then uri else uri ++ 47 ∷ []) ++ name) in
    (elim (ends_with_slash uri) as P [
      | true ↦ λ e. more-rsync uri name r (IsRest-append r.rest name r.rest_is (λ n. absurd (false≢true (sym (ends-module uri r n) ∙ e)))) plain
      | false ↦ λ e. subst IsRsync (sym (append_assoc uri (47 ∷ []) name)) with_slash
    ]) refl

-- A URI is written in URI octets.
pub IsUri-plain : (uri : List ℕ) → IsUri uri → All IsUriOctet uri
IsUri-plain uri (inl r) = r.plain
IsUri-plain uri (inr r) = r.plain
