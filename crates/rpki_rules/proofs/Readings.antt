-- What stands somewhere is one thing at most: a certificate, a point, a sound object.
use Rattle.std.proofs.Common.{◌≡◌, ℕ, ◌+◌, ◌⊎◌, List, [], ◌∷◌, ◌++◌, map, length, Some, inl, inr, refl, sym, ap, subst, ◌∙◌, arith}
use Rattle.std.proofs.lemmas.List.{length-map, length-append}
use Rattle.rpki_rules.proofs.of_bcder_tree.Unique.{by_length}
use Rattle.rpki_rules.specs.certs_basics.Uris.{lower, lookup_key}
use Rattle.rpki_rules.specs.Certs.{Cert, CertText, one_cert, CrlText, one_crl}
use Rattle.rpki_rules.specs.Objects.{Object, ManifestText, one_manifest, one_roa, one_aspa}
use Rattle.rpki_rules.specs.Kinds.{Kind}
use Rattle.rpki_rules.specs.World.{World}
use Rattle.rpki_rules.specs.Points.{IsFirstHeld, Point}
use Rattle.rpki_rules.specs.Chains.{HasExtension, cer, roa, asa}
use Rattle.rpki_rules.specs.Attests.{Payload, OfRoa, OfAspa, PayloadText, IsGood}
use Rattle.rpki_rules.specs.Laws.{OneCertAt, OnePoint, OneSigned}

-- At one key there are one object's octets.
pub one_octets : (w : World) (key o p : List ℕ) → w.object key ≡ Some o → w.object key ≡ Some p → o ≡ p
one_octets w key o p h k = let z : Some o ≡ Some p = sym h ∙ k in cc

-- The first of URIs that is held is held at its lookup key.
pub first_held : (w : World) (us : List (List ℕ)) (uri octets : List ℕ) → IsFirstHeld w us uri octets → w.object uri ≡ Some octets
first_held w [] uri octets h = absurd h
first_held w (u ∷ us) uri octets (inl h) = subst (λ (k : List ℕ). w.object k ≡ Some octets) h.0 h.1
first_held w (u ∷ us) uri octets (inr h) = first_held w us uri octets h.1

pub one_cert_at : OneCertAt
one_cert_at w uri c d h k = one_cert k.octets c d (subst (λ (o : List ℕ). CertText o c) (one_octets w uri h.octets k.octets h.held k.held) h.reads) k.reads

pub one_point : OnePoint
one_point w ca p q a b =
    let m = a.manifest in let n = b.manifest in
    let z : Some m.uri ≡ Some n.uri = sym m.uri_is ∙ n.uri_is in
    let u : m.uri ≡ n.uri = cc in
    let e = one_octets w (lookup_key n.uri) m.octets n.octets (ap (λ (v : List ℕ). w.object (lookup_key v)) (sym u) ∙ m.held) n.held in
    let r = one_manifest w.strict n.octets p.object q.object p.manifest q.manifest (subst (λ (o : List ℕ). ManifestText w.strict o p.object p.manifest) e m.reads) n.reads in
    let c = a.crl in let d = b.crl in
    let y : Some c.uri ≡ Some d.uri = sym c.uri_is ∙ (ap (λ (o : Object). o.cert.tbs.crl_uri) r.0 ∙ d.uri_is) in
    let v : c.uri ≡ d.uri = cc in
    let f = one_octets w (lookup_key d.uri) c.octets d.octets (ap (λ (v : List ℕ). w.object (lookup_key v)) (sym v) ∙ c.held) d.held in
    let s = one_crl d.octets p.crl q.crl (subst (λ (o : List ℕ). CrlText o p.crl) f c.reads) d.reads in
    λ i. record { object = r.0 i; manifest = r.1 i; crl = s i }

-- A URI has one extension of a length at most.
one_extension : (e d uri : List ℕ) → length e ≡ length d → HasExtension e uri → HasExtension d uri → e ≡ d
one_extension e d uri l p q =
    let pl : length p.1 ≡ length e = sym (length-map p.1 lower) ∙ ap length p.3 in
    let ql : length q.1 ≡ length d = sym (length-map q.1 lower) ∙ ap length q.3 in
    let whole : p.0 ++ 46 ∷ p.1 ≡ q.0 ++ 46 ∷ q.1 = sym p.2 ∙ q.2 in
    let long : length p.0 + length (46 ∷ p.1) ≡ length q.0 + length (46 ∷ q.1) = sym (length-append p.0 (46 ∷ p.1)) ∙ ap length whole ∙ length-append q.0 (46 ∷ q.1) in
    let front : length p.0 ≡ length q.0 = omega (arith, pl, ql, l, long) in
    let behind : 46 ∷ p.1 ≡ 46 ∷ q.1 = (by_length p.0 q.0 (46 ∷ p.1) (46 ∷ q.1) front whole).rest in
    let end : p.1 ≡ q.1 = cc in
    sym p.3 ∙ ap (map lower) end ∙ q.3

abbrev first : List ℕ → ℕ
first [] = 0
first (x ∷ xs) = x

-- Two extensions of three letters differ where their first letters do.
apart : (e d uri : List ℕ) → length e ≡ length d → ¬ (first e ≡ first d) → HasExtension e uri → ¬ (HasExtension d uri)
apart e d uri l n p q = n (ap first (one_extension e d uri l p q))

pub no_cer_roa : (uri : List ℕ) → HasExtension cer uri → ¬ (HasExtension roa uri)
no_cer_roa uri = apart cer roa uri refl differ
  where
    differ : first cer ≡ first roa → ⊥
    differ e = let g : 99 ≡ 114 = e in absurd (omega (arith, g))

pub no_cer_asa : (uri : List ℕ) → HasExtension cer uri → ¬ (HasExtension asa uri)
no_cer_asa uri = apart cer asa uri refl differ
  where
    differ : first cer ≡ first asa → ⊥
    differ e = let g : 99 ≡ 97 = e in absurd (omega (arith, g))

no_roa_asa : (uri : List ℕ) → HasExtension roa uri → ¬ (HasExtension asa uri)
no_roa_asa uri = apart roa asa uri refl differ
  where
    differ : first roa ≡ first asa → ⊥
    differ e = let g : 114 ≡ 97 = e in absurd (omega (arith, g))

pub no_cer_payload : (uri : List ℕ) → HasExtension cer uri → ¬ (HasExtension roa uri ⊎ HasExtension asa uri)
no_cer_payload uri p (inl q) = no_cer_roa uri p q
no_cer_payload uri p (inr q) = no_cer_asa uri p q

-- Octets are one object and one payload at most.
pub one_payload : (w : World) (uri octets : List ℕ) (o o' : Object) (x x' : Payload) → PayloadText w uri octets o x → PayloadText w uri octets o' x' → (o ≡ o') × (x ≡ x')
one_payload w uri octets o o' (OfRoa r) (OfRoa s) h k = let e = one_roa w.strict octets o o' r s h.1 k.1 in (e.0, ap OfRoa e.1)
one_payload w uri octets o o' (OfRoa r) (OfAspa b) h k = absurd (no_roa_asa uri h.0 k.0)
one_payload w uri octets o o' (OfAspa a) (OfRoa s) h k = absurd (no_roa_asa uri k.0 h.0)
one_payload w uri octets o o' (OfAspa a) (OfAspa b) h k = let e = one_aspa w.strict octets o o' a b h.1 k.1 in (e.0, ap OfAspa e.1)

pub one_signed : OneSigned
one_signed w ca p uri o o' x x' h k =
    one_payload w uri k.octets o o' x x' (subst (λ (t : List ℕ). PayloadText w uri t o x) (one_octets w uri h.octets k.octets h.held k.held) h.reads) k.reads

-- A file is good with one payload at most.
pub one_good : (w : World) (held : Kind → ℕ → Type 0) (ca : Cert) (p : Point) (uri : List ℕ) (x y : Payload) → IsGood w held ca p uri x → IsGood w held ca p uri y → x ≡ y
one_good w held ca p uri x y g h = (one_signed w ca p uri g.object h.object x y g.is_signed h.is_signed).1
