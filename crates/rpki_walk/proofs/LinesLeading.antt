-- What locators tell to a walk for lines.
use Rattle.std.proofs.Common.{◌≡◌, ℕ, ◌≤◌, ◌↔◌, List, [], ◌∷◌, refl, sym, subst, arith}
use Rattle.rpki_walk.specs.resources.Resources.{Resources}
use Rattle.rpki_walk.specs.rpki_bundle.declared.parts.Locator.{Locator}
use Rattle.rpki_rules.specs.Certs.{Cert}
use Rattle.rpki_rules.specs.declared.cause.Cause.TheVariants as cause
use Rattle.rpki_rules.specs.Words.{Mem}
use Rattle.rpki_rules.specs.Kinds.{Kind, InSet}
use Rattle.rpki_rules.specs.World.{World}
use Rattle.rpki_rules.specs.Points.{Link}
use Rattle.rpki_rules.specs.Chains.{Holds, Accepted}
use Rattle.rpki_rules.specs.Views.{PathValue}
use Rattle.rpki_walk.specs.declared.repository.AnchorLookup.{AnchorLookup}
use Rattle.rpki_walk.specs.declared.repository.AnchorLookup.TheVariants as To
use Rattle.rpki_walk.specs.Repository.{IsAnchorLookup}
use Rattle.rpki_walk.specs.Facts.{Finding, Refuses, Stand, Gains}
use Rattle.rpki_walk.specs.Alike.{IsPrinted}
use Rattle.rpki_walk.specs.Walked.{has_lines, Continues, AreWalked, TellsLocator, WalksLines}
use Rattle.rpki_walk.specs.declared.lines.walk.LinesWalk.{LinesWalk}
use Rattle.rpki_walk.proofs.Leading.{anchor_of, gains_anchor, arm_tal, arm_nowhere}
use Rattle.rpki_walk.proofs.Walked.{continues_itself, walked_more, gained_more}

module _ {A : Type 0} (cert : A → Cert) (sets : A → Resources) (w : World) (l : Locator) (o : AnchorLookup A) (led : IsAnchorLookup cert sets w l o) (old new : LinesWalk) (all : AreWalked w old) where
  refused : (P : Finding → Type 0) → Gains IsPrinted (has_lines old.lines) P (has_lines new.lines) → new.met.items ≡ old.met.items → new.before.walked.items ≡ old.before.walked.items → AreWalked w new
  refused P g em eb = walked_more w old new eb (subst (λ (xs : List (List ℕ)). Continues old.met.items xs) (sym em) (continues_itself old.met.items)) (gained_more (has_lines old.lines) (has_lines new.lines) P g) all

  pub tal_tells : o ≡ To.Unreadable → (name : List ℕ) → name ≡ l.name → Gains IsPrinted (has_lines old.lines) (λ x. Refuses name cause.Tal ≡ x) (has_lines new.lines) → new.met.items ≡ old.met.items → new.before.walked.items ≡ old.before.walked.items → TellsLocator w l old new
  tal_tells e name n g em eb = record {
    gained = arm_tal cert sets IsPrinted [] w l o led e name n (has_lines old.lines) (has_lines new.lines) g;
    walked = refused (λ x. Refuses name cause.Tal ≡ x) g em eb;
  }

  pub nowhere_tells : o ≡ To.Nowhere → (name : List ℕ) → name ≡ l.name → Gains IsPrinted (has_lines old.lines) (λ x. Refuses name cause.Anchor ≡ x) (has_lines new.lines) → new.met.items ≡ old.met.items → new.before.walked.items ≡ old.before.walked.items → TellsLocator w l old new
  nowhere_tells e name n g em eb = record {
    gained = arm_nowhere cert sets IsPrinted [] w l o led e name n (has_lines old.lines) (has_lines new.lines) g;
    walked = refused (λ x. Refuses name cause.Anchor ≡ x) g em eb;
  }

  module _ (uri : List ℕ) (c : A) (e : o ≡ To.Anchor uri c) (m : Mem w.locators l) (deep : 1 ≤ w.depth) (v : World) (ev : v ≡ w) (from : ℕ) (walks : WalksLines v ((cert c).tbs.subject_key_identifier ∷ []) uri (cert c) (sets c) old new from) where
    abbrev on : List (List ℕ)
    on = (cert c).tbs.subject_key_identifier ∷ []

    abbrev path : PathValue
    path = record { locator = l.name; chain = uri ∷ [] }

    abbrev anchor : Link
    anchor = record { uri = uri; cert = cert c }

    leads : IsAnchorLookup cert sets w l (To.Anchor uri c)
    leads = subst (λ (z : AnchorLookup A). IsAnchorLookup cert sets w l z) e led

    walked : WalksLines w on uri (cert c) (sets c) old new from
    walked = subst (λ (z : World). WalksLines z on uri (cert c) (sets c) old new from) ev walks

    held : (k : Kind) (n : ℕ) → InSet (sets c) k n ↔ Holds anchor [] k n
    held k n = (leads.1 k).same n

    stand : Stand l.name anchor [] path on uri (cert c) (sets c)
    stand = record { name_is = refl; path_is = refl; on_is = refl; uri_is = refl; ca_is = refl; holds = held }

    accepted : Accepted w l.name anchor []
    accepted = record { descends = anchor_of w l anchor m leads.0; once = ((λ (z : Mem {X = List ℕ} [] (cert c).tbs.subject_key_identifier). absurd z), tt); short = omega arith }

    pub anchor_tells : TellsLocator w l old new
    anchor_tells = record {
      gained = gains_anchor IsPrinted [] w l uri (cert c) (sets c) m deep leads.0 leads.1 path on refl refl (has_lines old.lines) (has_lines new.lines)
          (λ name a cs st acc. (walked name a cs (record { name_is = refl; path_is = refl; on_is = st.on_is; uri_is = st.uri_is; ca_is = st.ca_is; holds = st.holds }) acc all).gained);
      walked = (walked l.name anchor [] stand accepted all).walked;
    }
