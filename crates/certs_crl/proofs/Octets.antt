-- The octets of which a revocation list is read: those of its fields are its own, and they are all of what was kept.
use Rattle.std.proofs.Common.{◌≡◌, ℕ, false, List, [], ◌++◌, ◌∙◌, Result, Ok, Err, Option, Some, None, IfOk, IfSome, ap, append-nil, refl, sym, subst}
use Rattle.certs_crl.specs.bcder_tree.declared.mode.Mode.{Mode}
use Rattle.certs_crl.specs.bcder_tree.Front.{Front}
use Rattle.certs_crl.specs.bcder_tree.Tags.{sequence_tag}
use Rattle.certs_crl.specs.bcder_tree.Tree.{Tree, Trees, more}
use Rattle.certs_crl.specs.bcder_source.declared.error.DecodeError.{DecodeError}
use Rattle.certs_crl.specs.bcder_content.ClosureReads.{ClosureReadsOpt, ClosureReadsOptCases, Reader}
use Rattle.certs_crl.specs.bcder_content.Contents.{ValuesLeft}
use Rattle.certs_crl.specs.bcder_content.Exact.{Gives, GivesAll}
use Rattle.certs_crl.specs.bcder_content.Grammar.{Then}
use Rattle.certs_crl.specs.bcder_content.Texts.{InFront, InOrder, Joins, Wraps}
use Rattle.certs_crl.specs.bcder_content.declared.constructed.Constructed.{Constructed}
use Rattle.certs_crl.proofs.of_bcder_content.Keeping.{front_all}
use Rattle.certs_crl.proofs.of_bcder_content.Took.{goes_both}
use Rattle.certs_cert.proofs.Joined.{Read}
use Rattle.certs_x509.proofs.Octets.{EachTook, inside_took}
use Rattle.certs_x509.proofs.of_bcder_tree.Trees.{one_tree}
use Rattle.certs_x509.specs.Signed.{AreSignedOctets, SignedDataValue, octet_fields, signed_content, signed_fields}
use Rattle.certs_x509.specs.Took.{TookOctets}
use Rattle.certs_x509.specs.certs_extension.CrlText.{CrlValue, RevokedValue, SpellsCrl, SpellsTbsList, TbsListValue}
use Rattle.certs_crl.specs.Fields.{ListOf, as_list}
use Rattle.certs_crl.specs.Reading.{Listed, ReadFields, SaysRead, SpellsRead, read_fields}
use Rattle.certs_crl.specs.Whole.{AreCrlOctets, signed_of}
use Rattle.certs_crl.proofs.Listed.{list_fields, list_tail, says_list, with_rest}
use Rattle.certs_crl.proofs.Spelled.{fields_tree}
use Rattle.certs_crl.proofs.Whole.{in_mode}

-- Values that were read are in order, and so they are with another in front.
pub values_as : {A : Type 0} {P : Mode → Trees → A → Type 0} {v w : ValuesLeft} {x : A} → GivesAll (P v.mode) v x w → Read (λ m. InOrder m (P m)) v x w
values_as g = record { text = g.took.text; goes = g.took.goes; is = record { trees = g.trees; is = g.is; spelled = g.took.spelled } }

pub value_before : {A B : Type 0} (Q : Mode → Tree → A → Type 0) {P : Mode → Trees → B → Type 0} {v w u : ValuesLeft} {x : A} {y : B}
    → Gives (Q v.mode) v x w → Read (λ m. InOrder m (P m)) w y u → Read (λ m. InOrder m (Then (Q m) (P m))) v (x, y) u
value_before Q {P} {y = y} g r =
    let j = subst (λ (m : Mode). InOrder m (P m) r.text y) g.took.goes.mode r.is in
    record {
      text = g.took.text ++ r.text;
      goes = goes_both g.took.goes r.goes;
      is = record {
        trees = more g.tree j.trees;
        is = record { first = g.tree; others = j.trees; whole = refl; is = g.is; rest = j.is };
        spelled = (g.took.text, r.text, g.took.spelled, j.spelled, refl);
      };
    }

-- The first octets stay, and others come after them.
rejoin : {A B C : Type 0} {P : List ℕ → A → Type 0} {R : List ℕ → B → Type 0} {S : List ℕ → C → Type 0} {text : List ℕ} {x : A × B} {y : C}
    → (h : Joins P R text x) → S h.others y → Joins P S text (x.0, y)
rejoin h r = record { first = h.first; others = h.others; whole = h.whole; is = h.is; rest = r }

read_spelled : {m : Mode} {text : List ℕ} {f : ReadFields} {c : TbsListValue} → SpellsRead m text f → SaysRead f c → SpellsTbsList m text c
read_spelled {f = f} w s =
    let version = w.is in
    let algorithm = version.rest in
    let issuer = algorithm.rest in
    let values = issuer.rest in
    let updates = values.is in
    record {
      fields = list_fields f;
      is = record {
        content = w.content;
        around = w.around;
        is = rejoin version (rejoin algorithm (rejoin issuer (record {
          trees = values.trees;
          is = with_rest updates (with_rest updates.rest (list_tail f updates.rest.rest));
          spelled = values.spelled;
        })));
      };
      says = says_list s;
    }

-- The fields were read of these octets, and their extensions say both.
pub tbs_took : {now new : ValuesLeft} {x : Listed} {t : ListOf (List RevokedValue)} → TookOctets read_fields SpellsRead now x new → SaysRead (read_fields x) (as_list t)
    → TookOctets as_list SpellsTbsList now t new
tbs_took k s = record { text = k.text; goes = k.goes; is = read_spelled k.is s }

-- Octets of a list's fields in front of the octets of one value are all of these.
all_of : {m : Mode} {octets : List ℕ} {c : TbsListValue} {t : Tree} → Front m octets t [] → InFront (SpellsTbsList m) octets c → SpellsTbsList m octets c
all_of {m} {octets} {c} f p =
    let t = fields_tree p.is.is in
    let same = (one_tree t.tree _ (record { text = p.text; spelled = t.spelled; whole = p.whole }) f).1 in
    let whole : octets ≡ p.text = p.whole ∙ ap (λ (r : List ℕ). p.text ++ r) same ∙ append-nil p.text in
    subst (λ (o : List ℕ). SpellsTbsList m o c) (sym whole) p.is

-- Signed data was read of these octets, and what is signed of the octets that were kept; both algorithms are the same.
pub crl_took : {now new : ValuesLeft} {m : Mode} {s : SignedDataValue} {tbs : TbsListValue} {c : CrlValue}
    → m ≡ now.mode → c ≡ record { signed = signed_of s; tbs = tbs; caches = false } → tbs.has_null ≡ s.signature.algorithm
    → GivesAll (signed_content.reads now.mode) now (signed_fields s) new → TookOctets octet_fields AreSignedOctets now s new
    → InFront (SpellsTbsList m) s.message.octets tbs → TookOctets (λ (x : CrlValue). x) AreCrlOctets now c new
crl_took {now} {s = s} {tbs} em ec agree g t p =
    let message = t.is in
    let front = subst (λ (z : Mode). InFront (SpellsTbsList z) s.message.octets tbs) em p in
    let whole = all_of (front_all message.is.is.spelled) (subst (λ (z : List ℕ). InFront (SpellsTbsList now.mode) z tbs) message.is.same front) in
    let made : AreCrlOctets now.mode t.text (record { signed = signed_of s; tbs = tbs; caches = false }) = record {
      fields = ((s.message.octets, tbs), (s.signature.algorithm, (s.signature.bits, tt)));
      are = record {
        first = message.first;
        others = message.others;
        whole = message.whole;
        is = record { same = message.is.same; is = whole };
        rest = message.rest;
      };
      says = ap (in_mode s tbs) g.is.is.mode;
      agree = agree;
    } in
    record { text = t.text; goes = t.goes; is = subst (λ (z : CrlValue). AreCrlOctets now.mode t.text z) (sym ec) made }

-- A SEQUENCE of the fields, by its octets, is a list.

abbrev same : CrlValue → CrlValue
same c = c

abbrev SpellsSequence : Mode → List ℕ → CrlValue → Type 0
SpellsSequence m = Wraps m sequence_tag (AreCrlOctets m)

took_crl : {old new : ValuesLeft} {c : CrlValue} → TookOctets same SpellsSequence old c new → TookOctets same SpellsCrl old c new
took_crl t =
    let fields = t.is.is in
    record {
      text = t.text;
      goes = t.goes;
      is = record { fields = fields.fields; is = record { content = t.is.content; around = t.is.around; is = fields.are }; says = fields.says; agree = fields.agree };
    }

pub crl_octets : {E : Type 0} (old new : ValuesLeft) (r : Result CrlValue (DecodeError E)) → IfOk r (λ c. TookOctets same SpellsSequence old c new)
    → IfOk r (λ c. TookOctets same SpellsCrl old c new)
crl_octets old new (Ok c) t = took_crl t
crl_octets old new (Err e) t = tt

opt_cases : {F S E : Type 0} {rest : S → List ℕ} {g : Reader F (Constructed S) CrlValue E} {op : F} (old new : ValuesLeft) (r : Result (Option CrlValue) (DecodeError E))
    → EachTook rest g op same AreCrlOctets → ClosureReadsOptCases rest g op old sequence_tag r new → IfOk r (λ found. IfSome found (λ c. TookOctets same SpellsCrl old c new))
opt_cases old new (Ok (Some c)) each h = took_crl (inside_took {P = AreCrlOctets} each h)
opt_cases old new (Ok None) each h = tt
opt_cases old new (Err e) each h = tt

pub crl_octets_opt : {F S E : Type 0} {rest : S → List ℕ} {g : Reader F (Constructed S) CrlValue E} {op : F} {old new : ValuesLeft} {r : Result (Option CrlValue) (DecodeError E)}
    → EachTook rest g op same AreCrlOctets → ClosureReadsOpt rest g op old sequence_tag r new → IfOk r (λ found. IfSome found (λ c. TookOctets same SpellsCrl old c new))
crl_octets_opt {old = old} {new} {r} each h = opt_cases old new r each h.cases
