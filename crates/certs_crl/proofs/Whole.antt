-- The fields of a revocation list are those of signed data whose message is of the fields' grammar, with the same algorithm twice.
use Rattle.std.proofs.Common.{◌≡◌, ℕ, false, List, [], Result, Ok, Err, Option, Some, None, ap, ◌∙◌, refl, subst, sym}
use Rattle.certs_crl.specs.bcder_tree.declared.mode.Mode.{Mode}
use Rattle.certs_crl.specs.bcder_tree.Front.{Front}
use Rattle.certs_crl.specs.bcder_tree.Tags.{sequence_tag}
use Rattle.certs_crl.specs.bcder_tree.Tree.{Spells, Tree, Trees}
use Rattle.certs_crl.specs.bcder_source.declared.error.DecodeError.{DecodeError}
use Rattle.certs_crl.specs.bcder_content.Contents.{ValuesLeft}
use Rattle.certs_crl.specs.bcder_content.Exact.{GivesAll, Lacks, LacksAll, ReadsAs, ReadsOptAs}
use Rattle.certs_crl.specs.bcder_content.Grammar.{Inside}
use Rattle.certs_crl.specs.bcder_content.Kept.{CapturedValue}
use Rattle.certs_crl.specs.certs_basics.Basics.{IsAlgorithm}
use Rattle.certs_crl.proofs.of_bcder_content.Keeping.{front_all}
use Rattle.certs_crl.proofs.of_bcder_content.Taking.{weaker}
use Rattle.certs_crl.proofs.of_bcder_content.Unique.{same_trees}
use Rattle.certs_x509.proofs.of_bcder_content.Within.{AllWithin, all_gives, all_unfit}
use Rattle.certs_x509.proofs.of_bcder_tree.Trees.{one_tree}
use Rattle.certs_basics.proofs.Values.{algorithm_one}
use Rattle.certs_x509.specs.Signed.{SignedDataValue, signed_content, signed_fields}
use Rattle.certs_x509.specs.certs_extension.CrlText.{CrlValue, IsCrl, IsTbsList, TbsListValue}
use Rattle.certs_crl.specs.Whole.{AreCrl, signed_of}
use Rattle.certs_crl.proofs.Listed.{same_null}

pub kept_octets : {lent kept : CapturedValue} {octets : List ℕ} → octets ≡ lent.octets → lent ≡ kept → octets ≡ kept.octets
kept_octets e d = e ∙ ap (λ (c : CapturedValue). c.octets) d

-- A list's fields are those of signed data.
pub crl_within : {m : Mode} → AllWithin (AreCrl m) (signed_content.reads m)
crl_within {m} ts c p =
    let i = p.are in (
      ((record { mode = m; octets = p.fields.0.0 }, tt), p.fields.1),
      record {
        first = i.first;
        others = i.others;
        whole = i.whole;
        is = record { mode = refl; kept = record { spelled = i.is.spelled; is = record { any = tt } } };
        rest = i.rest;
      },
    )

-- What was decoded of the octets, in the mode of the content.
pub record WasRead (m : Mode) (s : SignedDataValue) (tbs : TbsListValue) : Type 0 where
  pub tree : Tree
  pub rest : List ℕ
  pub front : Front m s.message.octets tree rest
  pub is : IsTbsList m tree tbs

pub was_read : {k m : Mode} {s : SignedDataValue} {tbs : TbsListValue}
    → m ≡ k → (t : Tree) × (rest : List ℕ) × Front m s.message.octets t rest × IsTbsList m t tbs → WasRead k s tbs
was_read {s = s} {tbs} em d =
    let front = subst (λ (z : Mode). Front z s.message.octets d.0 d.1) em d.2 in
    record { tree = d.0; rest = d.1; front = front; is = subst (λ (z : Mode). IsTbsList z d.0 tbs) em d.3 }

-- The message is that value.
message_is : {m : Mode} {s : SignedDataValue} {tbs : TbsListValue} → WasRead m s tbs → {t : Tree} → Spells m t s.message.octets → IsTbsList m t tbs
message_is {m} {s} {tbs} d {t} text =
    let same = (one_tree d.tree t d.front (front_all text)).0 in
    subst (λ (u : Tree). IsTbsList m u tbs) same d.is

-- The list of signed data in that mode.
abbrev pub in_mode : SignedDataValue → TbsListValue → Mode → CrlValue
in_mode s tbs m = record { signed = record (signed_of s) { mode = m }; tbs = tbs; caches = false }

message_crl : {m : Mode} {s : SignedDataValue} {tbs : TbsListValue} {c : CrlValue} → WasRead m s tbs → c ≡ record { signed = signed_of s; tbs = tbs; caches = false } → tbs.has_null ≡ s.signature.algorithm
    → (ts : Trees) → signed_content.reads m ts (signed_fields s) → AreCrl m ts c
message_crl {m} {s} {tbs} d ec agree ts i =
    let is : AreCrl m ts (record { signed = signed_of s; tbs = tbs; caches = false }) = record {
      fields = ((s.message.octets, tbs), (s.signature.algorithm, (s.signature.bits, tt)));
      are = record { first = i.first; others = i.others; whole = i.whole; is = record { spelled = i.is.kept.spelled; is = message_is d i.is.kept.spelled }; rest = i.rest };
      says = ap (in_mode s tbs) i.is.mode;
      agree = agree;
    } in
    subst (λ (z : CrlValue). AreCrl m ts z) (sym ec) is

pub crl_gives : {now new : ValuesLeft} {s : SignedDataValue} {tbs : TbsListValue} {c : CrlValue} → WasRead now.mode s tbs
    → c ≡ record { signed = signed_of s; tbs = tbs; caches = false } → tbs.has_null ≡ s.signature.algorithm → GivesAll (signed_content.reads now.mode) now (signed_fields s) new
    → GivesAll (AreCrl now.mode) now c new
crl_gives {now} d ec agree g = all_gives (AreCrl now.mode) (signed_content.reads now.mode) (message_crl d ec agree) crl_within g

pub crl_refused : {now new : ValuesLeft} {m : Mode} {s : SignedDataValue}
    → m ≡ now.mode → GivesAll (signed_content.reads now.mode) now (signed_fields s) new
    → ((t : Tree) (x : TbsListValue) (rest : List ℕ) → IsTbsList m t x → Front m s.message.octets t rest → ⊥) → LacksAll (AreCrl now.mode) now
crl_refused {now} {s = s} em g refuses =
    all_unfit (AreCrl now.mode) (signed_content.reads now.mode) (λ ts z p q.
    let first = (same_trees (sym q.whole ∙ p.are.whole)).0 in
    let text : Spells now.mode p.are.first s.message.octets = subst (λ (u : Tree). Spells now.mode u s.message.octets) first q.is.kept.spelled in
    refuses p.are.first p.fields.0.1 [] (subst (λ (z : Mode). IsTbsList z p.are.first p.fields.0.1) (sym em) p.are.is.is)
    (subst (λ (z : Mode). Front z s.message.octets p.are.first []) (sym em) (front_all text))) crl_within g

-- The two algorithms differ.
pub crl_disagrees : {now new : ValuesLeft} {s : SignedDataValue} {tbs : TbsListValue} → WasRead now.mode s tbs → GivesAll (signed_content.reads now.mode) now (signed_fields s) new
    → (tbs.has_null ≡ s.signature.algorithm → ⊥) → LacksAll (AreCrl now.mode) now
crl_disagrees {now} {s = s} {tbs} d g differ = all_unfit (AreCrl now.mode) (signed_content.reads now.mode) (λ ts z p q.
    let firsts = same_trees (sym q.whole ∙ p.are.whole) in
    let seconds = same_trees (sym q.rest.whole ∙ firsts.1 ∙ p.are.rest.whole) in
    let message = message_is d q.is.kept.spelled in
    let nulls : tbs.has_null ≡ p.fields.0.1.has_null = same_null (subst (λ (u : Tree). IsTbsList now.mode u tbs) firsts.0 message) p.are.is.is in
    let algorithms : s.signature.algorithm ≡ p.fields.1.0 = algorithm_one.one p.are.rest.first _ _ (subst (λ (u : Tree). IsAlgorithm u s.signature.algorithm) seconds.0 q.rest.is) p.are.rest.is in
    let tbs_is : z.tbs.has_null ≡ p.fields.0.1.has_null = ap (λ (k : CrlValue). k.tbs.has_null) p.says in
    let signed_is : z.signed.has_null ≡ p.fields.1.0 = ap (λ (k : CrlValue). k.signed.has_null) p.says in
    differ (nulls ∙ sym tbs_is ∙ p.agree ∙ signed_is ∙ sym algorithms)) crl_within g

-- A SEQUENCE of the fields is a list, and a list is one.

abbrev same : CrlValue → CrlValue
same c = c

abbrev IsSequence : Mode → Tree → CrlValue → Type 0
IsSequence m = Inside sequence_tag (AreCrl m)

sequence_crl : {m : Mode} (t : Tree) (c : CrlValue) → IsSequence m t c → IsCrl m t c
sequence_crl t c p = record { is = record { x = p.is.fields; is = record { values = p.values; whole = p.whole; is = p.is.are }; means = p.is.says }; agree = p.is.agree }

crl_sequence : {m : Mode} (t : Tree) (c : CrlValue) → IsCrl m t c → IsSequence m t c
crl_sequence t c p = record { values = p.is.is.values; whole = p.is.is.whole; is = record { fields = p.is.x; are = p.is.is.is; says = p.is.means; agree = p.agree } }

crl_lacks : {m : Mode} {v : ValuesLeft} → Lacks (IsSequence m) v → Lacks (IsCrl m) v
crl_lacks l = record { none = λ t c p a. l.none t c (crl_sequence t c p) a }

pub crl_reads : {E : Type 0} (old new : ValuesLeft) (r : Result CrlValue (DecodeError E)) → ReadsAs same (IsSequence old.mode) old r new
    → ReadsAs same (IsCrl old.mode) old r new
crl_reads old new (Ok c) g = record { tree = g.tree; is = sequence_crl g.tree c g.is; took = g.took }
crl_reads old new (Err e) l = weaker e crl_lacks l

pub crl_reads_opt : {E : Type 0} (old new : ValuesLeft) (r : Result (Option CrlValue) (DecodeError E)) → ReadsOptAs same sequence_tag (IsSequence old.mode) old r new
    → ReadsOptAs same sequence_tag (IsCrl old.mode) old r new
crl_reads_opt old new (Ok (Some c)) g = record { tree = g.tree; is = sequence_crl g.tree c g.is; took = g.took }
crl_reads_opt old new (Ok None) a = a
crl_reads_opt old new (Err e) l = weaker e (λ k. record { tagged = k.tagged; lacks = crl_lacks k.lacks; goes_on = k.goes_on; other = k.other }) l
