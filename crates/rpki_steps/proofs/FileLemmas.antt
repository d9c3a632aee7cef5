-- Files by their extensions, and on a chain.
use Rattle.std.proofs.Common.{◌≡◌, ◌≢◌, ◌∙◌, ◌⊎◌, ◌<◌, ◌≤◌, inl, inr, ℕ, Bool, false, true, not, List, [], length, Option, Some, None, Result, Ok, Err, refl, sym, subst, arith}
use Rattle.std.proofs.Math.Bool.{beq}
use Rattle.std.specs.Option.{option_eq}
use Rattle.std.specs.Prelude.{◌↔◌, IfOk, IsTrue}
use Rattle.rpki_steps.specs.certs_verify.Holders.{ResourceCertValue}
use Rattle.rpki_rules.specs.declared.reason.files.FileReason.{FileReason as Told}
use Rattle.rpki_rules.specs.declared.reason.files.FileReason.TheVariants as told
use Rattle.rpki_rules.specs.Attests.{IsGood, OfAspa, OfRoa, Payload as PayloadValue, PayloadText}
use Rattle.rpki_rules.specs.Certs.{Cert}
use Rattle.rpki_rules.specs.Chains.{HasExtension, asa, cer, roa}
use Rattle.rpki_rules.specs.FileReasons.{FileReason, BadCer, CerFails, Loop, Depth, BadObject, ObjectFails, FileFails}
use Rattle.rpki_rules.specs.Kinds.{InSet, Kind}
use Rattle.rpki_rules.specs.Objects.{Object}
use Rattle.rpki_rules.specs.Points.{files, Point}
use Rattle.rpki_rules.specs.ReasonViews.{file_reason_of}
use Rattle.rpki_rules.specs.Refused.{IsBadCer, IsBadPayload, IsFileRefused, IsIssued}
use Rattle.rpki_rules.specs.Words.{Mem}
use Rattle.rpki_rules.specs.World.{World}
use Rattle.rpki_rules.proofs.Readings.{no_cer_payload, one_cert_at}
use Rattle.rpki_rules.proofs.TestLaws.{file_reasons_refuse}
use Rattle.rpki_steps.specs.Holders.{cert_of, sets_of}
use Rattle.rpki_walk.specs.Asked.{HasFileReason}
use Rattle.rpki_walk.specs.Repository.{IsIgnored}
use Rattle.rpki_walk.specs.declared.repository.FileKind.{FileKind}
use Rattle.rpki_walk.specs.declared.repository.FileKind.TheVariants as Is
use Rattle.rpki_walk.proofs.Walked.{bad_issued, good_issued, ignored_issued}
use Rattle.rpki_standing.specs.Views.{payload_of}
use Rattle.rpki_standing.specs.declared.payloads.payload.Payload.{Payload}
use Rattle.rpki_standing.specs.Names.{letters}
use Rattle.rpki_standing.specs.declared.payloads.names.Extension.{Extension}
use Rattle.rpki_standing.specs.declared.payloads.names.Extension.TheVariants as extension
use Rattle.rpki_steps.specs.Files.{IsFile, JudgesFile, TellsChain}

-- The extension that a name has.
pub has_this : (uri : List ℕ) (a : Extension) → ((e : Extension) → (Some a ≡ Some e) ↔ HasExtension (letters e) uri) → HasExtension (letters a) uri
has_this uri a h = (h a).0 refl

has_none : (uri : List ℕ) → ((e : Extension) → (None ≡ Some e) ↔ HasExtension (letters e) uri) → (e : Extension) → ¬ (HasExtension (letters e) uri)
has_none uri h e k = let wrong : None ≡ Some e = (h e).1 k in absurd cc

-- It has none of the three.
pub no_extension : (w : World) (uri : List ℕ) → ((e : Extension) → (None ≡ Some e) ↔ HasExtension (letters e) uri) → IsIgnored w uri
no_extension w uri h = record { no_payload = none; no_authority = inl (has_none uri h extension.Cer) }
  where
    none : ¬ (HasExtension roa uri ⊎ HasExtension asa uri)
    none (inl r) = has_none uri h extension.Roa r
    none (inr a) = has_none uri h extension.Asa a

-- A test that fails.
pub is_not : (b : Bool) (P : Type 0) → b ≡ false → IsTrue b ↔ P → ¬ P
is_not b P e h p = let t : b ≡ true = h.1 p in absurd cc

-- Whether an option is `Some true`, as it is compared.
is_some_true : (o : Option Bool) → false ≡ not (option_eq beq o (Some true)) → o ≡ Some true
is_some_true None e = absurd cc
is_some_true (Some false) e = absurd cc
is_some_true (Some true) e = refl

not_some_true : (o : Option Bool) → true ≡ not (option_eq beq o (Some true)) → o ≢ Some true
not_some_true None e = λ s. absurd cc
not_some_true (Some false) e = λ s. let f : false ≡ true = cc in absurd cc
not_some_true (Some true) e = absurd cc

module _ (b : Bool) (o : Option Bool) (is : b ≡ not (option_eq beq o (Some true))) where
  pub is_true : b ≡ false → o ≡ Some true
  is_true e = is_some_true o (sym e ∙ is)

  pub isnt_true : b ≡ true → o ≢ Some true
  isnt_true e = not_some_true o (sym e ∙ is)

-- What is said of a file under its condition.
abbrev Judged : Type 0
Judged = Result (FileKind ResourceCertValue Payload) Told

module _ {E : Type 0} (w : World) (ca : ResourceCertValue) (p : Point) (uri : List ℕ) where
  pub as_cert_file : (r : Result Judged E) → HasExtension cer uri → IfOk r (λ judged. HasExtension cer uri → JudgesFile w ca p uri judged) → IfOk r (λ judged. Mem (files (cert_of ca) p.manifest) uri → JudgesFile w ca p uri judged)
  as_cert_file (Ok judged) x h = λ l. h x
  as_cert_file (Err e) x h = tt

  pub as_payload_file : (r : Result Judged E) → HasExtension roa uri ⊎ HasExtension asa uri
      → IfOk r (λ judged. HasExtension roa uri ⊎ HasExtension asa uri → Mem (files (cert_of ca) p.manifest) uri → JudgesFile w ca p uri judged) → IfOk r (λ judged. Mem (files (cert_of ca) p.manifest) uri → JudgesFile w ca p uri judged)
  as_payload_file (Ok judged) x h = h x
  as_payload_file (Err e) x h = tt

-- What the walk is told.
module _ (w : World) (ca : ResourceCertValue) (p : Point) (uri : List ℕ) where
  pub filed : (f : FileKind ResourceCertValue Payload) → JudgesFile w ca p uri (Ok f) → IsFile w ca p uri f
  filed Is.Nothing h = h
  filed Is.Bad h = absurd h
  filed (Is.Child a) h = h
  filed (Is.Attests x) h = h

  pub bad : (r : Told) → JudgesFile w ca p uri (Err r) → IsFile w ca p uri Is.Bad
  bad r b =
      subst (IsFileRefused w (InSet (sets_of ca)) [] 0 (cert_of ca) p uri) b.cause_is
      (file_reasons_refuse w (InSet (sets_of ca)) [] 0 (cert_of ca) p uri (file_reason_of r) (b.fails [] 0))

payload_extension : (w : World) (uri octets : List ℕ) (o : Object) (x : PayloadValue) → PayloadText w uri octets o x → HasExtension roa uri ⊎ HasExtension asa uri
payload_extension w uri octets o (OfRoa r) t = inl t.0
payload_extension w uri octets o (OfAspa a) t = inr t.0

-- Where a file isn't refused it has no reason.
module _ (w : World) (held : Kind → ℕ → Type 0) (on : List (List ℕ)) (count : ℕ) (ca : Cert) (p : Point) (uri : List ℕ) where
  abbrev Fails : FileReason → Type 0
  Fails r = FileFails w held on count ca p uri r

  abbrev IsBad : Type 0
  IsBad = IsBadCer w held ca p uri ⊎ IsBadPayload w held ca p uri

  -- What is refused for itself is bad, and what is refused on its chain is issued.
  without : ¬ IsBad → ((c : Cert) → IsIssued w held ca p uri c → Mem on c.tbs.subject_key_identifier → ⊥)
      → ((c : Cert) → IsIssued w held ca p uri c → w.depth ≤ count → ⊥) → (r : FileReason) → ¬ (Fails r)
  without b l d BadCer f = b (file_reasons_refuse w held on count ca p uri BadCer f)
  without b l d (CerFails t) f = b (file_reasons_refuse w held on count ca p uri (CerFails t) f)
  without b l d Loop f = l f.0 f.1 f.2
  without b l d Depth f = d f.0 f.1 f.3
  without b l d BadObject f = b (file_reasons_refuse w held on count ca p uri BadObject f)
  without b l d (ObjectFails t) f = b (file_reasons_refuse w held on count ca p uri (ObjectFails t) f)

  unissued : ¬ IsBad → ((c : Cert) → ¬ (IsIssued w held ca p uri c)) → (r : FileReason) → ¬ (Fails r)
  unissued b n = without b (λ c i m. n c i) (λ c i e. n c i)

  ignored_bad : IsIgnored w uri → ¬ IsBad
  ignored_bad i (inl b) = elim i.no_authority [
    | inl n ↦ n b.extension
    | inr q ↦ elim b.cases [
      | inl n ↦ n q.0 q.1
      | inr s ↦ q.2 (subst (λ (c : Cert). c.tbs.basic_ca ≡ Some true) (one_cert_at w uri s.0 q.0 s.1 q.1) s.2)
    ]
  ]
  ignored_bad i (inr b) = i.no_payload b.extension

  pub ignored_none : IsIgnored w uri → (r : FileReason) → ¬ (Fails r)
  ignored_none i = unissued (ignored_bad i) (ignored_issued w held ca p uri i)

  good_bad : (x : PayloadValue) → IsGood w held ca p uri x → ¬ IsBad
  good_bad x g (inl b) = no_cer_payload uri b.extension (payload_extension w uri g.is_signed.octets g.object x g.is_signed.reads)
  good_bad x g (inr b) = b.none x g

  pub good_none : (x : PayloadValue) → IsGood w held ca p uri x → (r : FileReason) → ¬ (Fails r)
  good_none x g = unissued (good_bad x g) (good_issued w held ca p uri x g)

  module _ (c : Cert) (i : IsIssued w held ca p uri c) where
    same : (d : Cert) → IsIssued w held ca p uri d → d ≡ c
    same d j = one_cert_at w uri d c j.reads i.reads

    pub issued_none : ¬ (Mem on c.tbs.subject_key_identifier) → count < w.depth → (r : FileReason) → ¬ (Fails r)
    issued_none n short = without (λ b. bad_issued w held ca p uri b c i)
        (λ d j m. n (subst (λ (x : Cert). Mem on x.tbs.subject_key_identifier) (same d j) m))
        (λ d j deep. omega (arith, short, deep))

-- What a chain tells of a certificate that is issued.
module _ (w : World) (ca : ResourceCertValue) (on : List (List ℕ)) (p : Point) (uri : List ℕ) where
  abbrev Has : Option Told → Type 0
  Has o = HasFileReason w (InSet (sets_of ca)) on (cert_of ca) p uri o

  pub child_told : (a : ResourceCertValue) (depth : ℕ) (o : Option Told) → depth ≡ w.depth → JudgesFile w ca p uri (Ok (Is.Child a)) → TellsChain (cert_of a).tbs.subject_key_identifier on depth o → Has o
  child_told a depth None e h t =
      issued_none w (InSet (sets_of ca)) on (length on) (cert_of ca) p uri (cert_of a) h.0 t.0 (subst (λ (n : ℕ). length on < n) e t.1)
  child_told a depth (Some told.BadCer) e h t = absurd t
  child_told a depth (Some (told.CerFails x)) e h t = absurd t
  child_told a depth (Some told.Loop) e h t = ((cert_of a, h.0, t), tt)
  child_told a depth (Some told.Depth) e h t = ((cert_of a, h.0, t.0, subst (λ (n : ℕ). n ≤ length on) e t.1), tt)
  child_told a depth (Some told.BadObject) e h t = absurd t
  child_told a depth (Some (told.ObjectFails x)) e h t = absurd t

  pub ignored_told : JudgesFile w ca p uri (Ok Is.Nothing) → Has None
  ignored_told h = ignored_none w (InSet (sets_of ca)) on (length on) (cert_of ca) p uri h

  pub good_told : (x : Payload) → JudgesFile w ca p uri (Ok (Is.Attests x)) → Has None
  good_told x h = good_none w (InSet (sets_of ca)) on (length on) (cert_of ca) p uri (payload_of x) h

  pub unread_told : JudgesFile w ca p uri (Ok Is.Bad) → Has None
  unread_told h = absurd h

  pub reason_told : (r : Told) → JudgesFile w ca p uri (Err r) → Has (Some r)
  reason_told r b = (b.fails on (length on), b.unheld)
