-- More depth, more good signatures, fewer objects.
use Rattle.std.proofs.Common.{◌≡◌, ℕ, ◌<◌, ◌≤◌, ◌⊎◌, List, [], ◌∷◌, length, Option, None, inl, inr, refl, sym, subst, ◌∙◌, arith}
use Rattle.rpki_rules.specs.rpki_bundle.Bundle.{BundleValue}
use Rattle.rpki_rules.specs.certs_basics.Uris.{lookup_key}
use Rattle.rpki_rules.specs.Certs.{Verdicts, Within}
use Rattle.rpki_rules.specs.Locators.{https_first}
use Rattle.rpki_rules.specs.World.{World, table, run_world}
use Rattle.rpki_rules.specs.Points.{IsFirstHeld}
use Rattle.rpki_rules.specs.Attests.{Payload, WitnessValue, Good}
use Rattle.rpki_rules.specs.Laws.{KeepsAll, DeeperKeeps, VerdictRemoval, CutDownKeeps}
use Rattle.rpki_rules.proofs.Lists.{any_mem, mem_any}
use Rattle.rpki_rules.proofs.Moved.{turned, anchor_moved, witness_moved}

-- With the objects as they are, no less depth and no fewer good signatures all that was attested is.
keeps_all : (w : World) (depth : ℕ) (v : Verdicts) → Within w.good v → w.depth ≤ depth → KeepsAll w (turned w w.object depth v)
keeps_all w depth v more deeper =
    let first : (us : List (List ℕ)) (uri octets : List ℕ) → IsFirstHeld w us uri octets → IsFirstHeld (turned w w.object depth v) us uri octets = first_same in
    let to : (t : WitnessValue) (x : Payload) → Good w t x → Good (turned w w.object depth v) t x = λ t x g.
    witness_moved w w.object depth v more t x g (let s : length g.below < w.depth = g.accepted.short in omega arith)
    (λ h. anchor_moved w w.object depth v more t.locator g.anchor h (first (https_first h.uris) g.anchor.uri h.octets h.held)) (λ c m key n. refl) in
    record {
      origins_kept = λ x h. record { witness = h.witness; payload = h.payload; good = to h.witness h.payload h.good; one = h.one };
      provisions_kept = λ x h. record { witness = h.witness; payload = h.payload; good = to h.witness h.payload h.good; one = h.one };
    }
  where
    first_same : (us : List (List ℕ)) (uri octets : List ℕ) → IsFirstHeld w us uri octets → IsFirstHeld (turned w w.object depth v) us uri octets
    first_same [] uri octets h = h
    first_same (u ∷ us) uri octets (inl h) = inl h
    first_same (u ∷ us) uri octets (inr h) = inr (h.0, first_same us uri octets h.1)

pub deeper_keeps : DeeperKeeps
deeper_keeps w depth deeper = keeps_all w depth w.good (λ k n m s h. h) deeper

pub verdict_removal : VerdictRemoval
verdict_removal d b fewer in_all =
    let more : Within (table d fewer) (table d b.verdicts) = λ k n m s h. let g = any_mem _ fewer h in mem_any _ b.verdicts g.0 (in_all g.0 g.1) g.2 in
    let c : BundleValue = record b { verdicts = fewer } in
    keeps_all (run_world d c) b.depth (table d b.verdicts) more (omega arith)

module _ (w : World) (f : List ℕ → Option (List ℕ)) (fewer : (key : List ℕ) → (f key ≡ w.object key) ⊎ (f key ≡ None)) where
  first_kept : (us : List (List ℕ)) (uri octets : List ℕ) → f uri ≡ w.object uri → IsFirstHeld w us uri octets → IsFirstHeld (turned w f w.depth w.good) us uri octets
  first_kept [] uri octets e h = h
  first_kept (u ∷ us) uri octets e (inl h) = inl (h.0, subst (λ (k : List ℕ). f k ≡ w.object k) (sym h.0) e ∙ h.1)
  first_kept (u ∷ us) uri octets e (inr h) = inr (elim (fewer (lookup_key u)) [ inl s ↦ s ∙ h.0 | inr n ↦ n ], first_kept us uri octets e h.1)

pub cut_down_keeps : CutDownKeeps
cut_down_keeps w w' t x g c =
    let e : w' ≡ turned w w'.object w.depth w.good = λ i. record { moment = c.moment i; depth = c.depth i; strict = c.strict i; locators = c.locators i; object = w'.object; digests = c.digests i; good = c.good i } in
    subst (λ (u : World). Good u t x) (sym e) (witness_moved w w'.object w.depth w.good (λ k n m s h. h) t x g g.accepted.short
    (λ h. anchor_moved w w'.object w.depth w.good (λ k n m s q. q) t.locator g.anchor h (first_kept w w'.object c.no_other (https_first h.uris) g.anchor.uri h.octets c.anchor h.held))
    (λ l m key n. c.named l m key n))
