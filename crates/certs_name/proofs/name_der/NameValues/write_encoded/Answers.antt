use Rattle.std.proofs.Common.{◌≡◌, List, ℕ, Option, Result, Ok, Err, IfErr, rules, sym, subst}
use Rattle.certs_name.specs.bcder_tree.declared.mode.Mode.{Mode}
use Rattle.certs_name.specs.bcder_content.Kept.{CapturedValue, SpellsValues}
use Rattle.certs_name.specs.bcder_primitive.Writing.{TookFront, WriteRefused}
use Rattle.certs_name.specs.bcder_primitive.declared.written.error.EncodeError.{EncodeError}
use Rattle.certs_name.specs.bcder_primitive.declared.written.error.EncodeError.TheVariants as errors
use Rattle.certs_name.specs.bcder_values.Captures.{CapturedText, CapturedTrees, StandsIn}
use Rattle.certs_name.proofs.name_der.NameValues.write_encoded.Goals as goal

-- A writer that refuses has taken a front of the captured octets.
kept_refused : {A : Type 0} (c : CapturedValue) (m : Mode) (same : Type 0) (old new : Option (List ℕ)) (r : Result A EncodeError) (octets : List ℕ)
    → StandsIn c.mode m → SpellsValues c.mode c.octets → octets ≡ c.octets → IfErr r (λ e. (e ≡ errors.Write) × TookFront (λ text. text ≡ octets) old new)
    → IfErr r (WriteRefused (CapturedTrees c m) (CapturedText c m) same old new)
kept_refused c m same old new (Ok x) octets stands values is h = tt
kept_refused c m same old new (Err e) octets stands values is h =
    let front : TookFront (CapturedText c m) old new = record {
      text = h.1.text;
      is = record { stands = stands; values = values; whole = subst (λ o. h.1.text ≡ o) is h.1.is };
      taken = h.1.taken;
      others = h.1.others;
      whole = h.1.whole;
      some = h.1.some;
      appended = h.1.appended;
    } in
    subst (WriteRefused (CapturedTrees c m) (CapturedText c m) same old new) (sym h.0) front

pub returns-then-stands_in-clause-refused : goal.returns-then-stands_in-clause-refused
returns-then-stands_in-clause-refused g c =
    let stands : StandsIn c.args.self.now.mode c.args.mode = search rules in
    let values : SpellsValues c.args.self.now.mode c.args.self.now.octets = search rules in
    kept_refused c.args.self.now c.args.mode _ _ _ _ _ stands values c.as_slice.ensures.octets c.write_octets.ensures.refused
