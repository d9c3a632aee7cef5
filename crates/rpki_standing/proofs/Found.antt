-- Which revocation lists are found at a publication point.
use Rattle.std.proofs.Common.{◌≡◌, ℕ, List, [], ◌∷◌, Option, Some, None, refl, sym, ap, ◌∙◌, subst}
use Rattle.rpki_standing.specs.certs_basics.Lists.{Each, FirstFailing}
use Rattle.rpki_standing.specs.certs_basics.Uris.{lookup_key}
use Rattle.rpki_rules.specs.declared.reason.points.ListTest.{ListTest as Told}
use Rattle.rpki_rules.specs.declared.reason.points.PointReason.TheVariants as why
use Rattle.rpki_rules.specs.Certs.{Cert, Crl, CrlText}
use Rattle.rpki_rules.specs.Objects.{Manifest, Object}
use Rattle.rpki_rules.specs.PointReasons.{ListTest, ListAuthority, ListThisUpdate, ListNextUpdate, NotOnList, ListSignature, HasList, ListNamed, ListListed, PassesManifest}
use Rattle.rpki_rules.specs.Points.{IsCrlOf, files}
use Rattle.rpki_rules.specs.ReasonViews.{list_test_of}
use Rattle.rpki_rules.specs.Words.{Mem}
use Rattle.rpki_rules.specs.World.{World, at}
use Rattle.rpki_rules.proofs.FirstParts.{first_behind, first_here, first_in_front}
use Rattle.rpki_rules.proofs.Firsts.{each_join, not_none}
use Rattle.rpki_standing.proofs.Failing.{one_value}
use Rattle.rpki_standing.specs.Crls.{Finds, IsListAt, as_read}
use Rattle.rpki_standing.specs.PointFaults.{FailsList, PassesUnheld, naming_tests, said_tests, unheld_tests}

-- What is found in the octets is found at the URI that has them.
pub list_told : (w : World) (uri octets : List ℕ) (found : Option Crl) → at w uri ≡ Some octets → Finds (CrlText octets) found → Finds (IsListAt w uri) found
list_told w uri octets None h f = λ crl l. f crl (subst (λ (o : List ℕ). CrlText o crl) (one_value l.octets octets (at w uri) l.held h) l.reads)
list_told w uri octets (Some crl) h f = record { octets = octets; held = h; reads = f }

-- Where no octets are, there is none.
pub none_at : (w : World) (uri : List ℕ) (crl : Crl) → at w uri ≡ None → IsListAt w uri crl → ⊥
none_at w uri crl h l = let wrong : None ≡ Some l.octets = sym h ∙ l.held in absurd cc

-- The tests of a list, one after the other.
module _ (w : World) (ca : Cert) (o : Object) (m : Manifest) (crl : Crl) where
  abbrev Passes : ListTest → Type 0
  Passes t = PassesUnheld w ca o m crl t

  pub authority_fails : ¬ (PassesUnheld w ca o m crl ListAuthority) → FirstFailing (PassesUnheld w ca o m crl) said_tests ListAuthority
  authority_fails n = first_here Passes ListAuthority (ListThisUpdate ∷ ListNextUpdate ∷ NotOnList ∷ []) n

  module _ (authority : PassesUnheld w ca o m crl ListAuthority) where
    pub this_fails : ¬ (PassesUnheld w ca o m crl ListThisUpdate) → FirstFailing (PassesUnheld w ca o m crl) said_tests ListThisUpdate
    this_fails n = record { front = ListAuthority ∷ []; behind = ListNextUpdate ∷ NotOnList ∷ []; whole = refl; passed = (authority, tt); fails = n }

    module _ (this : PassesUnheld w ca o m crl ListThisUpdate) where
      pub next_fails : ¬ (PassesUnheld w ca o m crl ListNextUpdate) → FirstFailing (PassesUnheld w ca o m crl) said_tests ListNextUpdate
      next_fails n = record { front = ListAuthority ∷ ListThisUpdate ∷ []; behind = NotOnList ∷ []; whole = refl; passed = (authority, (this, tt)); fails = n }

      pub on_list : PassesUnheld w ca o m crl ListNextUpdate → ¬ (PassesUnheld w ca o m crl NotOnList) → FirstFailing (PassesUnheld w ca o m crl) said_tests NotOnList
      on_list next n = record { front = ListAuthority ∷ ListThisUpdate ∷ ListNextUpdate ∷ []; behind = []; whole = refl; passed = (authority, (this, (next, tt))); fails = n }

  pub said_fails : (t : Told) → FirstFailing (PassesUnheld w ca o m crl) said_tests (list_test_of t) → FirstFailing (PassesUnheld w ca o m crl) unheld_tests (list_test_of t)
  said_fails t f = first_in_front Passes said_tests (ListSignature ∷ []) (list_test_of t) f

  pub signature_fails : Each (PassesUnheld w ca o m crl) said_tests → ¬ (PassesUnheld w ca o m crl ListSignature) → FirstFailing (PassesUnheld w ca o m crl) unheld_tests ListSignature
  signature_fails said n = first_behind Passes said_tests (ListSignature ∷ []) ListSignature said (first_here Passes ListSignature [] n)

  pub signed : Each (PassesUnheld w ca o m crl) said_tests → PassesUnheld w ca o m crl ListSignature → Each (PassesUnheld w ca o m crl) unheld_tests
  signed said s = each_join Passes said_tests (ListSignature ∷ []) said (s, tt)

-- What stands where the manifest's certificate names it is the point's, and the other way round.
module _ (w : World) (uri : List ℕ) (keys : List (List ℕ)) (ca ee : Cert) (o : Object) (m : Manifest) (e : o.cert ≡ ee) (f : ee.tbs.crl_uri ≡ Some uri) (g : files ca m ≡ keys) where
  named : o.cert.tbs.crl_uri ≡ Some uri
  named = ap (λ (c : Cert). c.tbs.crl_uri) e ∙ f

  has_list : (crl : Crl) → IsListAt w uri crl → HasList w o crl
  has_list crl l = record { uri = uri; uri_is = named; octets = l.octets; held = l.held; reads = l.reads }

  list_here : (crl : Crl) → HasList w o crl → IsListAt w uri crl
  list_here crl h = record {
    octets = h.octets;
    held = subst (λ (u : List ℕ). at w u ≡ Some h.octets) (one_value h.uri uri o.cert.tbs.crl_uri h.uri_is named) h.held;
    reads = h.reads;
  }

  -- It is none of the files.
  pub unlisted : (Mem keys (lookup_key uri) → ⊥) → FirstFailing (PassesManifest w ca o m) naming_tests ListListed
  unlisted n = record {
    front = ListNamed ∷ [];
    behind = [];
    whole = refl;
    passed = (not_none o.cert.tbs.crl_uri uri named, tt);
    fails = λ p. n (subst (λ (fs : List (List ℕ)). Mem fs (lookup_key uri)) g (p uri named));
  }

  module _ (listed : Mem keys (lookup_key uri)) where
    mem : Mem (files ca m) (lookup_key uri)
    mem = subst (λ (fs : List (List ℕ)). Mem fs (lookup_key uri)) (sym g) listed

    naming : Each (PassesManifest w ca o m) naming_tests
    naming = (
      not_none o.cert.tbs.crl_uri uri named,
      (λ u also. subst (λ (x : List ℕ). Mem (files ca m) (lookup_key x)) (one_value uri u o.cert.tbs.crl_uri named also) mem, tt),
    )

    -- None stands there, or one that fails a test, or the point's.
    pub none_reads : ((crl : Crl) → ¬ (IsListAt w uri crl)) → FailsList w ca o m why.BadList
    none_reads n = (naming, λ crl h. n crl (list_here crl h))

    pub list_fails : (crl : Crl) (t : Told) → IsListAt w uri crl → FirstFailing (PassesUnheld w ca o m crl) unheld_tests (list_test_of t) → FailsList w ca o m (why.ListFails t)
    list_fails crl t l h = (crl, naming, has_list crl l, h)

    pub crl_of : (crl : Crl) → IsListAt w uri crl → Each (PassesUnheld w ca o m crl) unheld_tests → IsCrlOf w ca o m crl
    crl_of crl l all = record {
      uri = uri;
      uri_is = named;
      listed = mem;
      octets = l.octets;
      held = l.held;
      reads = l.reads;
      authority = all.0;
      good = all.1.1.1.1.0;
      current = (all.1.0, all.1.1.0);
      not_revoked = all.1.1.1.0;
    }

-- Of a list that is read no serial numbers are kept aside.
pub read_uncached : {octets : List ℕ} {crl : Crl} → CrlText octets crl → as_read crl ≡ crl
read_uncached p = ap as_read p.is.says ∙ sym p.is.says
