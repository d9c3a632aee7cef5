-- Whether just what is covered is stated, by sets that were gathered.
use Rattle.std.proofs.Common.{◌≡◌, ℕ, Bool, List, Some, sym, subst}
use Rattle.std.specs.Prelude.{◌↔◌, IsTrue}
use Rattle.std.specs.List.{slice_get}
use Rattle.objects_rta_valid.specs.certs_verify.Holders.{ResourceCertValue}
use Rattle.objects_rta_valid.specs.certs_extension.Cert.{CertValue}
use Rattle.objects_rta_valid.specs.certs_extension.Kinds.{As, Ipv4, Ipv6, Kind}
use Rattle.objects_rta_valid.specs.resources_chain.Claims.{Choice, Lists}
use Rattle.objects_rta_valid.specs.resources_chain.Sets.{InRuns, Run}
use Rattle.objects_rta_anchors.specs.declared.anchor.Anchor.{Anchor}
use Rattle.objects_rta_anchors.specs.declared.anchor.Anchor.TheVariants.{Open}
use Rattle.objects_rta_anchors.specs.Anchors.{AnchoredValue}
use Rattle.objects_rta_anchors.specs.Coverage.{AreAnchored, CoversAt, Holds, IsCovered, SomeCovers, stated_of}
use Rattle.objects_rta_anchors.specs.Ends.{IsKept}
use Rattle.objects_rta_anchors.specs.Lent.{SignerCovers}
use Rattle.objects_rta_anchors.specs.declared.covered.Anchored.{Anchored}

-- By lists that are lent.
pub kept_of : (given certs : List CertValue) (paths lists : List (List ℕ)) (lent ends : List ℕ) (told anchors : List Anchor) → given ≡ certs → paths ≡ lists → lent ≡ ends → told ≡ anchors
    → IsKept certs lists ends anchors → IsKept given paths lent told
kept_of given certs paths lists lent ends told anchors e f g h k =
    subst (λ (xs : List CertValue). IsKept xs paths lent told) (sym e) (subst (λ (ps : List (List ℕ)). IsKept certs ps lent told) (sym f)
    (subst (λ (ys : List ℕ). IsKept certs lists ys told) (sym g) (subst (IsKept certs lists ends) (sym h) k)))

covers_of : (given certs : List CertValue) (lent issuers : List ResourceCertValue) (kind : Kind) (n : ℕ) (paths lists : List (List ℕ)) (told anchors : List Anchor) (signer : ℕ)
    → given ≡ certs → lent ≡ issuers → paths ≡ lists → told ≡ anchors → CoversAt given lent kind n paths told signer → CoversAt certs issuers kind n lists anchors signer
covers_of given certs lent issuers kind n paths lists told anchors signer e f g h s =
    subst (λ (xs : List CertValue). CoversAt xs issuers kind n lists anchors signer) e (subst (λ (rs : List ResourceCertValue). CoversAt given rs kind n lists anchors signer) f
    (subst (λ (ps : List (List ℕ)). CoversAt given lent kind n ps anchors signer) g (subst (λ (ws : List Anchor). CoversAt given lent kind n paths ws signer) h s)))

pub covered_by : (v : AnchoredValue) (kind : Kind) (answer : Bool) (choice : Choice) (held : List Run) (a : Anchored)
    → a.certs.now ≡ v.rta.signed.certs → a.issuers.now ≡ v.issuers → a.paths.now.paths ≡ v.paths → a.anchors.now ≡ v.anchors → choice ≡ stated_of v.rta.content.resources kind
    → (IsTrue answer ↔ ((n : ℕ) → Lists choice n ↔ InRuns held n)) → ((n : ℕ) → InRuns held n ↔ ((signer : ℕ) × SignerCovers a kind n signer))
    → (IsTrue answer ↔ IsCovered v kind)
covered_by v kind answer choice held a e f g h s listed gathered = (
  (λ t n. (
    (λ l. to n ((gathered n).0 (((listed.0 t) n).0 (subst (λ (x : Choice). Lists x n) (sym s) l)))),
    (λ c. subst (λ (x : Choice). Lists x n) s (((listed.0 t) n).1 ((gathered n).1 (from n c)))),
  )),
  (λ all. listed.1 (λ n. (
    (λ l. (gathered n).1 (from n ((all n).0 (subst (λ (x : Choice). Lists x n) s l)))),
    (λ i. subst (λ (x : Choice). Lists x n) (sym s) ((all n).1 (to n ((gathered n).0 i)))),
  ))),
)
  where
    to : (n : ℕ) → ((signer : ℕ) × SignerCovers a kind n signer) → SomeCovers v kind n
    to n c = (c.0, covers_of a.certs.now v.rta.signed.certs a.issuers.now v.issuers kind n a.paths.now.paths v.paths a.anchors.now v.anchors c.0 e f g h c.1)

    from : (n : ℕ) → SomeCovers v kind n → ((signer : ℕ) × SignerCovers a kind n signer)
    from n c = (c.0, covers_of v.rta.signed.certs a.certs.now v.issuers a.issuers.now kind n v.paths a.paths.now.paths v.anchors a.anchors.now c.0 (sym e) (sym f) (sym g) (sym h) c.1)

pub all_kinds : (v : AnchoredValue) (v4 v6 asn answer : Bool) → (IsTrue answer ↔ (IsTrue v4 × IsTrue v6 × IsTrue asn)) → (IsTrue v4 ↔ IsCovered v Ipv4) → (IsTrue v6 ↔ IsCovered v Ipv6) → (IsTrue asn ↔ IsCovered v As)
    → (IsTrue answer ↔ ((kind : Kind) → IsCovered v kind))
all_kinds v v4 v6 asn answer h a b c = (
  (λ t kind. each (h.0 t) kind),
  (λ all. h.1 (a.1 (all Ipv4), b.1 (all Ipv6), c.1 (all As))),
)
  where
    each : IsTrue v4 × IsTrue v6 × IsTrue asn → (kind : Kind) → IsCovered v kind
    each s Ipv4 = a.0 s.0
    each s Ipv6 = b.0 s.1
    each s As = c.0 s.2

pub holds_told : (v : AnchoredValue) (answer : Bool) → AreAnchored v → (IsTrue answer ↔ ((kind : Kind) → IsCovered v kind)) → (IsTrue answer ↔ Holds v)
holds_told v answer a h = ((λ t. record { anchored = a; covered = h.0 t }), (λ s. h.1 s.covered))

pub anchored_of : (v : AnchoredValue) (told : List Anchor) → told ≡ v.anchors → ((signer : ℕ) → slice_get told signer ≡ Some Open → ⊥) → AreAnchored v
anchored_of v told e h signer at = h signer (subst (λ (xs : List Anchor). slice_get xs signer ≡ Some Open) (sym e) at)

pub open_of : (v : AnchoredValue) (told : List Anchor) → told ≡ v.anchors → AreAnchored v → (signer : ℕ) → slice_get told signer ≡ Some Open → ⊥
open_of v told e h signer at = h signer (subst (λ (xs : List Anchor). slice_get xs signer ≡ Some Open) e at)
