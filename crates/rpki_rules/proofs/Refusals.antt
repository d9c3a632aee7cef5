-- What a chain refuses in one world it refuses in another, where neither names a URI at which they differ.
use Rattle.std.proofs.Common.{◌≡◌, ℕ, ◌+◌, List, length, Option, inl, inr, sym, subst}
use Rattle.rpki_rules.specs.Certs.{Cert}
use Rattle.rpki_rules.specs.declared.cause.Cause.{Cause}
use Rattle.rpki_rules.specs.declared.cause.Cause.TheVariants as cause
use Rattle.rpki_rules.specs.Words.{Mem}
use Rattle.rpki_rules.specs.Kinds.{Kind}
use Rattle.rpki_rules.specs.World.{World}
use Rattle.rpki_rules.specs.Points.{Link, Point, files, IsPoint}
use Rattle.rpki_rules.specs.Chains.{last_of, keys, Holds, IsChild, Accepted}
use Rattle.rpki_rules.specs.Refused.{IsFileRefused, IsBadCer, IsBadPayload, IsIssued, ChainRefuses}
use Rattle.rpki_rules.specs.Reach.{IsOneOf, NamesOne, SomeLocatorNames, NoFrontNames}
use Rattle.rpki_rules.specs.Laws.{RefusalsStay}
use Rattle.rpki_rules.proofs.Fronts.{front_itself}
use Rattle.rpki_rules.proofs.Moved.{names_file, point_moved, cert_at_moved, good_moved, signed_moved}
use Rattle.rpki_rules.proofs.Cross.{having, is_having, others, names_both, same_at, crosses}

module _ (uris : List (List ℕ)) (w : World) (f g : List ℕ → Option (List ℕ)) (same : (key : List ℕ) → ¬ (IsOneOf uris key) → g key ≡ f key) (ca : Cert) (clear : ¬ (NamesOne uris (having w f) ca)) where
  -- Neither does the second world name one of the URIs there.
  clear_there : ¬ (NamesOne uris (having w g) ca)
  clear_there n = clear (names_both uris w g f (others same) ca n)

  pub point_there : (p : Point) → IsPoint (having w f) ca p → IsPoint (having w g) ca p
  point_there p h = point_moved (having w f) g w.depth w.good (λ k n m s q. q) ca p (same_at uris w f g same ca clear) h

  child_moved : (held : Kind → ℕ → Type 0) (p : Point) (c : Cert) → IsChild (having w g) held ca p c → IsChild (having w f) held ca p c
  child_moved held p c i = record { sound = record { profile = i.sound.profile; signed = signed_moved (having w g) f w.depth w.good (λ k n m s q. q) c ca i.sound.signed; unrevoked = i.sound.unrevoked }; fits = i.fits }

  child_there : (held : Kind → ℕ → Type 0) (p : Point) (c : Cert) → IsChild (having w f) held ca p c → IsChild (having w g) held ca p c
  child_there held p c i = record { sound = record { profile = i.sound.profile; signed = signed_moved (having w f) g w.depth w.good (λ k n m s q. q) c ca i.sound.signed; unrevoked = i.sound.unrevoked }; fits = i.fits }

  module _ (held : Kind → ℕ → Type 0) (p : Point) (h : IsPoint (having w f) ca p) (uri : List ℕ) (listed : Mem (files ca p.manifest) uri) where
    same_here : g uri ≡ f uri
    same_here = same_at uris w f g same ca clear uri (names_file (having w f) g w.depth w.good (λ k n m s q. q) ca p.object p.manifest uri h.manifest listed)

    issued_there : (c : Cert) → IsIssued (having w f) held ca p uri c → IsIssued (having w g) held ca p uri c
    issued_there c i = record { extension = i.extension; reads = cert_at_moved (having w f) g w.depth w.good (λ k n m s q. q) uri c same_here i.reads; child = child_there held p c i.child }

    cer_there : IsBadCer (having w f) held ca p uri → IsBadCer (having w g) held ca p uri
    cer_there b = record {
      extension = b.extension;
      cases = elim b.cases [
        | inl n ↦ inl (λ c k. n c (cert_at_moved (having w g) f w.depth w.good (λ k n m s q. q) uri c (sym same_here) k))
        | inr q ↦ inr (q.0, cert_at_moved (having w f) g w.depth w.good (λ k n m s q. q) uri q.0 same_here q.1, q.2, λ i. q.3 (child_moved held p q.0 i))
      ];
    }

    payload_there : IsBadPayload (having w f) held ca p uri → IsBadPayload (having w g) held ca p uri
    payload_there b = record { extension = b.extension; none = λ x k. b.none x (good_moved (having w g) f w.depth w.good (λ k n m s q. q) held ca p uri x (same_at uris w g f (others same) ca clear_there) (point_there p h) k) }

    pub file_there : (on : List (List ℕ)) (count : ℕ) (why : Cause) → IsFileRefused (having w f) held on count ca p uri why → IsFileRefused (having w g) held on count ca p uri why
    file_there on count cause.Tal r = r
    file_there on count cause.Anchor r = r
    file_there on count cause.Point r = r
    file_there on count cause.Object r = elim r [ inl b ↦ inl (cer_there b) | inr b ↦ inr (payload_there b) ]
    file_there on count cause.Loop r = (r.0, issued_there r.0 r.1, r.2)
    file_there on count cause.Depth r = (r.0, issued_there r.0 r.1, r.2, r.3)

module _ (uris : List (List ℕ)) (w : World) (f g : List ℕ → Option (List ℕ)) (same : (key : List ℕ) → ¬ (IsOneOf uris key) → g key ≡ f key) (apart : ¬ (SomeLocatorNames uris w)) (name : List ℕ) (a : Link) (cs : List Link) (clear : NoFrontNames uris (having w f) a cs) where
  accepted_there : Accepted (having w f) name a cs → Accepted (having w g) name a cs
  accepted_there h = elim (crosses uris w f g same apart name a cs h) [
    | inl k ↦ k
    | inr m ↦ absurd (clear m.front m.is_front m.names_here)
  ]

  here : ¬ (NamesOne uris (having w f) (last_of a cs).cert)
  here = clear cs (front_itself cs)

  pub refuses_there : (uri : List ℕ) (why : Cause) → ChainRefuses (having w f) name a cs uri why → ChainRefuses (having w g) name a cs uri why
  refuses_there uri why (inl r) =
      let q = r.1 in let ca = (last_of a cs).cert in
      inl (
        r.0,
        record {
          accepted = accepted_there q.accepted;
          place = q.place;
          none = λ p s. q.none p (record { point = point_there uris w g f (others same) ca (λ n. here (names_both uris w g f (others same) ca n)) p s.point; fits = s.fits });
        },
      )
  refuses_there uri why (inr r) =
      let ca = (last_of a cs).cert in
      inr (record {
        accepted = accepted_there r.accepted;
        point = r.point;
        stands = record { point = point_there uris w f g same ca here r.point r.stands.point; fits = r.stands.fits };
        listed = r.listed;
        refused = file_there uris w f g same ca here (Holds a cs) r.point r.stands.point uri r.listed (keys a cs) (length cs + 1) why r.refused;
      })

pub refusals_stay : RefusalsStay
refusals_stay uris w w' agree apart name a cs clear uri why h =
    subst (λ (u : World). ChainRefuses u name a cs uri why) (sym (is_having uris w w' agree)) (refuses_there uris w w.object w'.object agree.objects apart name a cs clear uri why h)
