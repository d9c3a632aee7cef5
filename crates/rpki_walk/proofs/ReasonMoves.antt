-- What is wrong by one set of numbers is wrong by another with just these.
use Rattle.std.proofs.Common.{ℕ, ◌↔◌, List, length, inl, inr}
use Rattle.rpki_walk.specs.resources_chain.Sets.{Run}
use Rattle.rpki_rules.specs.Certs.{Cert}
use Rattle.rpki_rules.specs.Objects.{Object}
use Rattle.rpki_rules.specs.Kinds.{Kind, As, claim}
use Rattle.rpki_rules.specs.World.{World}
use Rattle.rpki_rules.specs.Points.{Point}
use Rattle.rpki_rules.specs.Views.{PathValue}
use Rattle.rpki_rules.specs.Reasons.{FitsKind, AreUnheld}
use Rattle.rpki_rules.specs.PointReasons.{ListTest, ListAuthority, ListThisUpdate, ListNextUpdate, NotOnList, ListSignature, ManifestClaim, list_tests, PassesList, PointReason, NoManifest, BadManifest, ManifestFails, BadList, ListFails, PointFails}
use Rattle.rpki_rules.specs.FileReasons.{CerTest, CerRevocation, CerCert, CerClaim, tests_of_cers, PassesCer, ObjectTest, ObjectRevocation, ObjectCert, ObjectContent, ObjectClaim, PrefixHeld, CustomerHeld, tests_of_objects, PassesObject, FileReason, BadCer, CerFails, Loop, Depth, BadObject, ObjectFails, FileFails}
use Rattle.rpki_rules.specs.Diagnoses.{DiagnosisValue, ListTells, PointTells, CerTells, ObjectTells, FileTells, DiagnosesPoint, DiagnosesFile, DiagnosesEnd, TellsEnd}
use Rattle.rpki_rules.proofs.Firsts.{fails_also}
use Rattle.rpki_walk.proofs.Moves.{fits_in_to, stands_to, issued_to}

-- Tests that are passed.
module _ (h k : Kind → ℕ → Type 0) (to : (i : Kind) (n : ℕ) → h i n → k i n) where
  kind_to : (c : Cert) (i : Kind) → FitsKind h c i → FitsKind k c i
  kind_to c i f = fits_in_to h k to c.tbs.overclaim (claim c i) i f

  list_to : (w : World) (ca : Cert) (p : Point) (t : ListTest) → PassesList w h ca p t → PassesList w k ca p t
  list_to w ca p ListAuthority f = f
  list_to w ca p ListThisUpdate f = f
  list_to w ca p ListNextUpdate f = f
  list_to w ca p NotOnList f = f
  list_to w ca p ListSignature f = f
  list_to w ca p (ManifestClaim i) f = kind_to p.object.cert i f

  cer_to : (w : World) (ca : Cert) (p : Point) (c : Cert) (t : CerTest) → PassesCer w h ca p c t → PassesCer w k ca p c t
  cer_to w ca p c (CerRevocation t) f = f
  cer_to w ca p c (CerCert t) f = f
  cer_to w ca p c (CerClaim i) f = kind_to c i f

  object_to : (w : World) (ca : Cert) (p : Point) (o : Object) (t : ObjectTest) → PassesObject w h ca p o t → PassesObject w k ca p o t
  object_to w ca p o (ObjectRevocation t) f = f
  object_to w ca p o (ObjectCert t) f = f
  object_to w ca p o (ObjectContent t) f = f
  object_to w ca p o (ObjectClaim i) f = kind_to o.cert i f
  object_to w ca p o (PrefixHeld i a) f = λ n m. let q = f n m in (q.0, to i n q.1)
  object_to w ca p o (CustomerHeld n) f = (f.0, to As n f.1)

module _ (h k : Kind → ℕ → Type 0) (e : (i : Kind) (n : ℕ) → h i n ↔ k i n) where
  abbrev there : (i : Kind) (n : ℕ) → h i n → k i n
  there i n = (e i n).0

  abbrev back : (i : Kind) (n : ℕ) → k i n → h i n
  back i n = (e i n).1

  pub point_to : (w : World) (ca : Cert) (r : PointReason) → PointFails w h ca r → PointFails w k ca r
  point_to w ca NoManifest f = f
  point_to w ca BadManifest f = f
  point_to w ca (ManifestFails t) f = f
  point_to w ca BadList f = f
  point_to w ca (ListFails t) f = (f.0, f.1, f.2, fails_also (PassesList w h ca f.0) (PassesList w k ca f.0) list_tests t (list_to h k there w ca f.0) (list_to k h back w ca f.0 t) f.3)

  pub file_to : (w : World) (on : List (List ℕ)) (count : ℕ) (ca : Cert) (p : Point) (uri : List ℕ) (r : FileReason) → FileFails w h on count ca p uri r → FileFails w k on count ca p uri r
  file_to w on count ca p uri BadCer f = f
  file_to w on count ca p uri (CerFails t) f =
      (f.0, f.1, fails_also (PassesCer w h ca p f.0) (PassesCer w k ca p f.0) tests_of_cers t (cer_to h k there w ca p f.0) (cer_to k h back w ca p f.0 t) f.2)
  file_to w on count ca p uri Loop f = (f.0, issued_to h k there w ca p uri f.0 f.1, f.2)
  file_to w on count ca p uri Depth f = (f.0, issued_to h k there w ca p uri f.0 f.1, f.2, f.3)
  file_to w on count ca p uri BadObject f = f
  file_to w on count ca p uri (ObjectFails t) f =
      (f.0, f.1, f.2, fails_also (PassesObject w h ca p f.0) (PassesObject w k ca p f.0) (tests_of_objects f.1) t (object_to h k there w ca p f.0) (object_to k h back w ca p f.0 t) f.3)

  -- The numbers that aren't held are the same.
  unheld_to : (c : Cert) (i : Kind) (numbers : List Run) → AreUnheld h c i numbers → AreUnheld k c i numbers
  unheld_to c i numbers u = record {
    refused = λ f. u.refused (kind_to k h back c i f);
    outside = record {
      maximal = u.outside.maximal;
      same = λ n. let s = u.outside.same n in (
        λ m. let q = s.0 m in (q.0, λ z. q.1 (back i n z)),
        λ q. s.1 (q.0, λ z. q.1 (there i n z)),
      );
    };
    some = (u.some.0, (u.some.1.0, λ z. u.some.1.1 (back i u.some.0 z)));
  }

  list_tells_to : (w : World) (ca : Cert) (t : ListTest) (numbers : List Run) → ListTells w h ca t numbers → ListTells w k ca t numbers
  list_tells_to w ca ListAuthority numbers f = f
  list_tells_to w ca ListThisUpdate numbers f = f
  list_tells_to w ca ListNextUpdate numbers f = f
  list_tells_to w ca NotOnList numbers f = f
  list_tells_to w ca ListSignature numbers f = f
  list_tells_to w ca (ManifestClaim i) numbers f = λ o m r. unheld_to o.cert i numbers (f o m r)

  pub point_tells_to : (w : World) (ca : Cert) (r : PointReason) (numbers : List Run) → PointTells w h ca r numbers → PointTells w k ca r numbers
  point_tells_to w ca NoManifest numbers f = f
  point_tells_to w ca BadManifest numbers f = f
  point_tells_to w ca (ManifestFails t) numbers f = f
  point_tells_to w ca BadList numbers f = f
  point_tells_to w ca (ListFails t) numbers f = list_tells_to w ca t numbers f

  cer_tells_to : (w : World) (uri : List ℕ) (t : CerTest) (numbers : List Run) → CerTells w h uri t numbers → CerTells w k uri t numbers
  cer_tells_to w uri (CerRevocation t) numbers f = f
  cer_tells_to w uri (CerCert t) numbers f = f
  cer_tells_to w uri (CerClaim i) numbers f = λ c r. unheld_to c i numbers (f c r)

  object_tells_to : (w : World) (uri : List ℕ) (t : ObjectTest) (numbers : List Run) → ObjectTells w h uri t numbers → ObjectTells w k uri t numbers
  object_tells_to w uri (ObjectRevocation t) numbers f = f
  object_tells_to w uri (ObjectCert t) numbers f = f
  object_tells_to w uri (ObjectContent t) numbers f = f
  object_tells_to w uri (ObjectClaim i) numbers f = λ o x r. unheld_to o.cert i numbers (f o x r)
  object_tells_to w uri (PrefixHeld i a) numbers f = f
  object_tells_to w uri (CustomerHeld n) numbers f = f

  pub file_tells_to : (w : World) (uri : List ℕ) (r : FileReason) (numbers : List Run) → FileTells w h uri r numbers → FileTells w k uri r numbers
  file_tells_to w uri BadCer numbers f = f
  file_tells_to w uri (CerFails t) numbers f = cer_tells_to w uri t numbers f
  file_tells_to w uri Loop numbers f = f
  file_tells_to w uri Depth numbers f = f
  file_tells_to w uri BadObject numbers f = f
  file_tells_to w uri (ObjectFails t) numbers f = object_tells_to w uri t numbers f

  -- What is wrong at the end of a chain, and the numbers that this tells.
  abbrev point_end_to : (w : World) (path : PathValue) (uri : List ℕ) (ca : Cert) (d : DiagnosisValue) → DiagnosesPoint w h path uri ca d → DiagnosesPoint w k path uri ca d
  point_end_to w path uri ca d f = record { reason = f.reason; fails = point_to w ca f.reason f.fails; is = f.is }

  abbrev file_end_to : (w : World) (on : List (List ℕ)) (path : PathValue) (ca : Cert) (d : DiagnosisValue) → DiagnosesFile w h on path ca d → DiagnosesFile w k on path ca d
  file_end_to w on path ca d f = record {
    point = f.point;
    stands = stands_to h k there w ca f.point f.stands;
    listed = f.listed;
    reason = f.reason;
    fails = file_to w on (length on) ca f.point d.name f.reason f.fails;
    is = f.is;
  }

  pub ends_to : (w : World) (on : List (List ℕ)) (path : PathValue) (uri : List ℕ) (ca : Cert) (d : DiagnosisValue) → DiagnosesEnd w h on path uri ca d → DiagnosesEnd w k on path uri ca d
  ends_to w on path uri ca d (inl f) = inl (point_end_to w path uri ca d f)
  ends_to w on path uri ca d (inr f) = inr (file_end_to w on path ca d f)

  pub tells_to : (w : World) (on : List (List ℕ)) (path : PathValue) (uri : List ℕ) (ca : Cert) (d : DiagnosisValue) (numbers : List Run) → TellsEnd w h on path uri ca d numbers → TellsEnd w k on path uri ca d numbers
  tells_to w on path uri ca d numbers (inl f) = inl (point_end_to w path uri ca d f.0, point_tells_to w ca f.0.reason numbers f.1)
  tells_to w on path uri ca d numbers (inr f) = inr (file_end_to w on path ca d f.0, file_tells_to w d.name f.0.reason numbers f.1)
