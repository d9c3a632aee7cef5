use Rattle.std.proofs.Common.{Some, None, sym, ◌∙◌, ◌≡◌, ℕ, Option}
use Rattle.objects_rta_valid.specs.Keyed.{last_place}
use Rattle.objects_rta_valid.specs.Vouched.{authority_of}
use Rattle.objects_rta_valid.proofs.Standing.{always_told, not_told}
use Rattle.objects_rta_valid.proofs.lists.has_place.Goals as goal

none_some : (o : Option ℕ) (n : ℕ) → o ≡ None → o ≡ Some n → ⊥
none_some o n e f = cc

placed : (o : Option ℕ) (n : ℕ) → o ≡ Some n → (k : ℕ) × (o ≡ Some k)
placed o n e = (n, e)

pub returns-in-Some : goal.returns-in-Some
returns-in-Some c = always_told (placed (last_place c.args.places.now (authority_of c.args.crl.now)) _ (sym c.place_of_list.ensures ∙ c.in-Some.is))

pub returns-in-None : goal.returns-in-None
returns-in-None c = not_told (λ h. none_some (last_place c.args.places.now (authority_of c.args.crl.now)) h.0 (sym c.place_of_list.ensures ∙ c.in-None.is) h.1)
