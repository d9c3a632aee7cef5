-- Octets that spell a revocation list in DER are those of a tree, which is that list.
use Rattle.std.proofs.Common.{ℕ, List, Result, Ok, Err}
use Rattle.certs_crl.specs.bcder_tree.declared.mode.Mode.{Mode}
use Rattle.certs_crl.specs.bcder_tree.declared.mode.Mode.TheVariants.{Der}
use Rattle.certs_crl.specs.bcder_tree.Tags.{sequence_tag}
use Rattle.certs_crl.specs.bcder_tree.Tree.{Tree, Trees, Spells, SpellsAll, constructed, none, more}
use Rattle.certs_crl.specs.bcder_source.declared.error.DecodeError.{DecodeError}
use Rattle.certs_crl.specs.bcder_content.Exact.{DecodesAs}
use Rattle.certs_crl.specs.bcder_content.Texts.{InOrder, Joins, NoOctets, Wraps}
use Rattle.certs_crl.proofs.of_bcder_content.Taking.{weaker}
use Rattle.certs_x509.specs.certs_extension.Calls.{DecodesCrl}
use Rattle.certs_x509.specs.certs_extension.CrlText.{CrlValue, IsCrl, ListFields, SpellsCrl, SpellsListFields}
use Rattle.certs_x509.specs.certs_extension.Spellings.{CrlIsSpelled}

-- The octets spell a tree; they spell trees, one after the other.
pub record HasTree (m : Mode) (text : List ℕ) : Type 0 where
  pub tree : Tree
  pub spelled : Spells m tree text

record HasTrees (m : Mode) (text : List ℕ) : Type 0 where
  trees : Trees
  spelled : SpellsAll m trees text

empty : {m : Mode} {text : List ℕ} {x : Unit {0}} → NoOctets text x → HasTrees m text
empty p = record { trees = none; spelled = p.none }

ordered : {m : Mode} {A : Type 0} {P : Trees → A → Type 0} {text : List ℕ} {x : A} → InOrder m P text x → HasTrees m text
ordered p = record { trees = p.trees; spelled = p.spelled }

joined : {m : Mode} {A B : Type 0} {P : List ℕ → A → Type 0} {R : List ℕ → B → Type 0} {text : List ℕ} {x : A × B}
    → (p : Joins P R text x) → (t : Tree) → Spells m t p.first → HasTrees m p.others → HasTrees m text
joined p t s h = record { trees = more t h.trees; spelled = (p.first, p.others, s, h.spelled, p.whole) }

wrapped : {m : Mode} {A : Type 0} {P : List ℕ → A → Type 0} {text : List ℕ} {x : A} → (p : Wraps m sequence_tag P text x) → HasTrees m p.content → HasTree m text
wrapped p h = record { tree = constructed sequence_tag h.trees; spelled = (p.content, p.around, h.spelled) }

pub fields_tree : {m : Mode} {text : List ℕ} {f : ListFields} → SpellsListFields m text f → HasTree m text
fields_tree w =
    let version = w.is in
    let algorithm = version.rest in
    let issuer = algorithm.rest in
    wrapped w
    (joined version version.is.tree version.is.spelled
    (joined algorithm algorithm.is.tree algorithm.is.spelled
    (joined issuer issuer.is.is.tree issuer.is.is.spelled
    (ordered issuer.rest))))

crl_tree : {text : List ℕ} {c : CrlValue} → SpellsCrl Der text c → HasTree Der text
crl_tree p =
    let message = p.is.is in
    let algorithm = message.rest in
    let bits = algorithm.rest in
    let t = fields_tree message.is.is.is in
    wrapped p.is
    (joined message t.tree t.spelled
    (joined algorithm algorithm.is.tree algorithm.is.spelled
    (joined bits bits.is.tree bits.is.spelled
    (empty bits.rest))))

-- What was decoded is the list in front of the octets, and what was refused is none.
pub decodes_crl : {E : Type 0} (octets : List ℕ) (r : Result CrlValue (DecodeError E)) → CrlIsSpelled
    → DecodesAs (λ (c : CrlValue). c) Der (IsCrl Der) octets r → DecodesCrl octets r
decodes_crl octets (Ok c) law d = record {
  text = d.2.text;
  rest = d.1;
  whole = d.2.whole;
  is = (law d.0 d.2.text c d.2.spelled).0 d.3;
}
decodes_crl octets (Err e) law d = weaker e (λ none c p.
    let t = crl_tree p.is in
    none t.tree c p.rest ((law t.tree p.text c t.spelled).1 p.is) (record { text = p.text; spelled = t.spelled; whole = p.whole })) d
