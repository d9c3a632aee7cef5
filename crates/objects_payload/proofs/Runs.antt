-- Providers that are read one by one: the loop over them, and where it stops.
use Rattle.std.proofs.Common.{◌≡◌, ℕ, zero, suc, ◌≤◌, List, [], ◌∷◌, ◌++◌, length, Result, refl, sym, ap, ◌∙◌, subst, append-nil, arith}
use Rattle.std.specs.Result.{IsErr, IsErrAnd}
use Rattle.objects_payload.specs.bcder_tree.Tags.{TagValue, integer_tag}
use Rattle.objects_payload.specs.bcder_tree.Tree.{Trees}
use Rattle.objects_payload.specs.bcder_source.Errors.{OnContent}
use Rattle.objects_payload.specs.bcder_source.declared.error.DecodeError.{DecodeError}
use Rattle.objects_payload.specs.bcder_content.Contents.{ValuesLeft, Unlike, Whole}
use Rattle.objects_payload.specs.bcder_content.Exact.{LacksAll, LacksTagged}
use Rattle.objects_payload.specs.bcder_content.Grammar.{Many, ManyCases, Tagged}
use Rattle.objects_payload.specs.bcder_content.InMode.{ReadsFields}
use Rattle.objects_payload.specs.bcder_content.Words.{Gathers}
use Rattle.objects_payload.specs.resources_asn.Encodings.{IsAsId}
use Rattle.objects_payload.proofs.of_bcder_content.Forests.{begin, many_lacks, stop_all}
use Rattle.objects_payload.proofs.of_bcder_content.Gathering.{Gathered}
use Rattle.objects_payload.proofs.of_bcder_content.Taking.{weaker}
use Rattle.objects_payload.proofs.of_bcder_content.Took.{whole_first}
use Rattle.objects_payload.proofs.of_bcder_content.Unique.{octets_tagged}
use Rattle.objects_payload.specs.declared.aspa.run.Run.{Run}
use Rattle.objects_payload.specs.Fields.{AreAny, whichever_lawful}
use Rattle.objects_payload.specs.Orders.{IsRunOf}
use Rattle.objects_payload.proofs.Orders.{follow_lawful, run_of}

pub as_id_tagged : Tagged integer_tag IsAsId
as_id_tagged = octets_tagged _ _

-- No run of providers is left: no lawful list is.
pub lawful_lacks : {v : ValuesLeft} (c : ℕ) → LacksAll (Gathers IsAsId (IsRunOf c)) v → LacksAll (Gathers IsAsId (whichever_lawful c)) v
lawful_lacks c l = record { none = λ ts x p w. let r = run_of c p.xs p.says in l.none ts r.0 (record { xs = p.xs; are = p.are; says = r.1 }) w }

many_lack : {v : ValuesLeft} (c : ℕ) → LacksAll (Many IsAsId) v → LacksAll (Gathers IsAsId (whichever_lawful c)) v
many_lack c l = record { none = λ ts x p w. l.none ts p.xs p.are w }

-- An AS number was refused, and `?` passes that on.
pub run_stop : {D E : Type 0} (tag : TagValue) (c : ℕ) {start now new : ValuesLeft} {run : Run} {f : D → Unit {0}} {r : Result D (DecodeError E)} (e : DecodeError E)
    → Gathered (λ m. IsAsId) (IsRunOf c) start now run → IsErr r × IsErrAnd r (λ x. x ≡ e) → OnContent e (LacksTagged tag IsAsId now) → ReadsFields f (AreAny c) start r new
run_stop tag c {start} {now} {new} {f = f} {r} e h a l = record {
  reads = stop_all f new r e (begin (AreAny c start.mode) start) a (weaker e (λ (o : LacksTagged tag IsAsId now). many_lack c (h.listing.lacks (many_lacks o.lacks o.goes_on))) l);
}

-- None was read, and none is next.
pub run_empty : (c : ℕ) {start now new : ValuesLeft} (run : Run) → run.count ≡ 0 → Gathered (λ m. IsAsId) (IsRunOf c) start now run → (new ≡ now) × Unlike now integer_tag
    → LacksAll (Gathers IsAsId (whichever_lawful c)) start
run_empty c {start} {now} run none h u = record {
  none = λ ts x p w.
      let s = h.splits ts p.xs p.are.cases w in
      at p.xs p.says.some s.0 s.1 s.2 s.3 s.4;
}
  where
    at : (all : List ℕ) → 1 ≤ length all → (us : Trees) (ys : List ℕ) → ManyCases IsAsId us ys → Whole now us → all ≡ h.xs ++ ys → ⊥
    at all some us [] q v e = let l = ap length (e ∙ append-nil h.xs) in let k = h.says.count in absurd (omega arith)
    at all some us (y ∷ ys) q v e = u.1.none q.0 (whole_first (subst (Whole now) q.2 v)) (as_id_tagged.tagged q.0 y q.3)

-- Some were read, which are lawful.
pub run_lawful : (c : ℕ) {start now : ValuesLeft} (run : Run) → (run.count ≡ 0 → ⊥) → Gathered (λ m. IsAsId) (IsRunOf c) start now run
    → Gathered (λ m. IsAsId) (whichever_lawful c) start now tt
run_lawful c run some h = record {
  xs = h.xs;
  says = follow_lawful c h.xs h.says.follow (at_least (length h.xs) (λ e. some (sym h.says.count ∙ e))) (let k = h.says.count in let l = h.says.few in omega arith);
  mode = h.mode;
  listing = h.listing;
  splits = h.splits;
}
  where
    at_least : (n : ℕ) → (n ≡ 0 → ⊥) → 1 ≤ n
    at_least zero other = absurd (other refl)
    at_least (suc n) other = omega arith
