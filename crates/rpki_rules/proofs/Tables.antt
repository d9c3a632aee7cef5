-- The table of good signatures as a relation.
use Rattle.std.proofs.Common.{◌≡◌, ◌&&◌, Bool, true, false, bytes_eq, refl}
use Rattle.std.proofs.lemmas.Slice.Eq.{bytes_eq-Decides}
use Rattle.rpki_rules.specs.rpki_bundle.declared.parts.Verdict.{Verdict}
use Rattle.rpki_rules.specs.Certs.{encoded}
use Rattle.rpki_rules.specs.Laws.{TableSays}
use Rattle.rpki_rules.proofs.Lists.{any_mem, mem_any}

both : (a b : Bool) → a && b ≡ true → (a ≡ true) × (b ≡ true)
both true b e = (refl, e)
both false b e = absurd cc

all_true : (a b : Bool) → a ≡ true → b ≡ true → a && b ≡ true
all_true true b e f = f
all_true false b e f = absurd cc

pub table_says : TableSays
table_says d b key has_null message signature =
    let k = d.sha256 (encoded key) in let m = d.sha256 message in let s = d.sha256 signature in (
      λ e.
          let g = any_mem (λ (v : Verdict). bytes_eq v.key k && (bytes_eq v.message m && bytes_eq v.signature s)) b.verdicts e in
          let v = g.0 in
          let h = both (bytes_eq v.key k) (bytes_eq v.message m && bytes_eq v.signature s) g.2 in
          let i = both (bytes_eq v.message m) (bytes_eq v.signature s) h.1 in
          record {
            entry = v;
            in_table = g.1;
            key_is = (bytes_eq-Decides v.key k).0 h.0;
            message_is = (bytes_eq-Decides v.message m).0 i.0;
            signature_is = (bytes_eq-Decides v.signature s).0 i.1;
          },
      λ h.
          let v = h.entry in
          mem_any (λ (v : Verdict). bytes_eq v.key k && (bytes_eq v.message m && bytes_eq v.signature s)) b.verdicts v h.in_table
          (all_true _ _ ((bytes_eq-Decides v.key k).1 h.key_is) (all_true _ _ ((bytes_eq-Decides v.message m).1 h.message_is) ((bytes_eq-Decides v.signature s).1 h.signature_is))),
    )
