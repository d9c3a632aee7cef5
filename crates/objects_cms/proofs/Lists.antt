-- Lists of files that octets spell, read as a whole.
use Rattle.std.proofs.Common.{◌≡◌, List, Ok, sym, subst}
use Rattle.std.proofs.Math.Logic.{∥∥₁_elim}
use Rattle.std.specs.Coded.{Coded-set, coded_list}
use Rattle.objects_cms.specs.bcder_tree.declared.mode.Mode.{Mode}
use Rattle.objects_cms.specs.bcder_tree.Tree.{SpellsAll}
use Rattle.objects_cms.specs.bcder_source.Views.{Reading}
use Rattle.objects_cms.specs.bcder_content.declared.constructed.Constructed.{Constructed}
use Rattle.objects_cms.specs.bcder_content.Captures.{rest_of, Captures, CapturesCases}
use Rattle.objects_cms.specs.bcder_content.Contents.{ValuesLeft}
use Rattle.objects_cms.specs.bcder_content.Exact.{GivesAll, LacksAll}
use Rattle.objects_cms.specs.bcder_content.InMode.{ReadsFields}
use Rattle.objects_cms.specs.bcder_content.Grammar.{ExactlyAll, Many}
use Rattle.objects_cms.specs.bcder_content.Words.{Gathers}
use Rattle.objects_cms.specs.bcder_content.Kept.{CapturedValue}
use Rattle.objects_cms.specs.bcder_content.ClosureReads.{Reader}
use Rattle.objects_cms.proofs.of_bcder_content.Inside.{ReadsEach}
use Rattle.objects_cms.proofs.of_bcder_content.Kept.{exact_capture}
use Rattle.objects_payload.specs.Manifests.{File, IsFile}
use Rattle.objects_cms.specs.Files.{AreFiles, IsEntry, whatever}
use Rattle.objects_cms.specs.Listing.{SpellsFiles, file_code, one_list}
use Rattle.objects_cms.proofs.Entries.{some_entries, some_files}

-- Octets that are no files to their end, whatever files, are none of any list.
pub all_lack : {v : ValuesLeft} → LacksAll (ExactlyAll v.mode (Gathers IsEntry whatever)) v → LacksAll (Many IsFile) v
all_lack l = record {
  none = λ ts xs p w.
      let s = some_entries ts xs p in
      l.none ts w.took.text (record { x = tt; is = record { xs = s.entries; are = s.are; says = tt }; spelled = w.took.spelled }) w;
}

-- Octets that were captured are of a list of files, which was read.
pub record Captured (v : ValuesLeft) (c : CapturedValue) (new : ValuesLeft) : Type 0 where
  pub files : List File
  pub spelled : SpellsFiles c files
  pub gives : GivesAll (Many IsFile) v files new

captured_cases : {F D : Type 0} (E : Type 0) {g : Reader F (Constructed Reading) (Unit {0}) D} {op : F} (v : ValuesLeft) (c : CapturedValue) (new : ValuesLeft)
    → CapturesCases {E = E} g op v (Ok c) new → GivesAll (ExactlyAll v.mode (Gathers IsEntry whatever)) v c.octets new → Captured v c new
captured_cases E v c new k h =
    let s = some_files h.trees h.is.is.xs h.is.is.are in
    record {
      files = s.files;
      spelled = record { trees = h.trees; is = s.are; spelled = subst (λ (m : Mode). SpellsAll m h.trees c.octets) (sym k.mode) h.is.spelled };
      gives = record { trees = h.trees; took = h.took; is = s.are; only = λ goes_on. all_lack (h.only goes_on) };
    }

pub captured_list : {F D E : Type 0} {g : Reader F (Constructed Reading) (Unit {0}) D} {op : F} {v : ValuesLeft} {c : CapturedValue} {new : ValuesLeft}
    → ReadsEach v.mode rest_of g op (λ x. x) (Gathers IsEntry whatever) → Captures {E = E} g op v (Ok c) new → Captured v c new
captured_list {E = E} {v = v} {c} {new} each h = captured_cases E v c new h.cases (exact_capture each h)

pub spelled_is : (c : CapturedValue) (l xs : List File) → ∥ SpellsFiles c l ∥₁ → SpellsFiles c xs → l ≡ xs
spelled_is c l xs h s = ∥∥₁_elim h (Coded-set (coded_list file_code) _ _) (λ p. one_list c l xs p s)

-- Files were captured, and the list is the one that the octets spell.
pub captured_reads : {v new : ValuesLeft} {c : CapturedValue} (E : Type 0) (l : List File) → ∥ SpellsFiles c l ∥₁ → Captured v c new → ReadsFields {E = E} (λ l. l) AreFiles v (Ok l) new
captured_reads {v} {new} {c} E l x h = record {
  reads = subst (λ (k : List File). GivesAll (Many IsFile) v k new) (sym (spelled_is c l h.files x h.spelled)) h.gives;
}
