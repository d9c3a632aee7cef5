-- Readers of a SEQUENCE of a certificate's fields are readers of a certificate.
use Rattle.std.proofs.Common.{ℕ, List, Result, Ok, Err, Option, Some, None, IfOk, IfSome}
use Rattle.certs_cert.specs.bcder_tree.declared.mode.Mode.{Mode}
use Rattle.certs_cert.specs.bcder_tree.Tags.{sequence_tag}
use Rattle.certs_cert.specs.bcder_tree.Tree.{Tree}
use Rattle.certs_cert.specs.bcder_source.declared.error.DecodeError.{DecodeError}
use Rattle.certs_cert.specs.bcder_content.declared.constructed.Constructed.{Constructed}
use Rattle.certs_cert.specs.bcder_content.Contents.{ValuesLeft}
use Rattle.certs_cert.specs.bcder_content.Exact.{Lacks, ReadsAs, ReadsOptAs}
use Rattle.certs_cert.specs.bcder_content.Grammar.{Inside}
use Rattle.certs_cert.specs.bcder_content.ClosureReads.{ClosureReadsOpt, ClosureReadsOptCases, Reader}
use Rattle.certs_cert.specs.bcder_content.Texts.{Wraps}
use Rattle.certs_cert.proofs.of_bcder_content.Taking.{weaker}
use Rattle.certs_x509.proofs.Octets.{EachTook, inside_took}
use Rattle.certs_x509.specs.Took.{TookOctets}
use Rattle.certs_extension.specs.Cert.{CertValue}
use Rattle.certs_extension.specs.CertText.{IsCert, SpellsCert}
use Rattle.certs_cert.specs.Whole.{AreCert, AreCertOctets}
use Rattle.certs_cert.proofs.Whole.{cert_sequence, sequence_cert}

abbrev same : CertValue → CertValue
same c = c

abbrev IsSequence : Mode → Tree → CertValue → Type 0
IsSequence m = Inside sequence_tag (AreCert m)

abbrev SpellsSequence : Mode → List ℕ → CertValue → Type 0
SpellsSequence m = Wraps m sequence_tag (AreCertOctets m)

cert_lacks : {m : Mode} {v : ValuesLeft} → Lacks (IsSequence m) v → Lacks (IsCert m) v
cert_lacks l = record { none = λ t c p a. l.none t c (cert_sequence t c p) a }

pub cert_reads : {E : Type 0} (old new : ValuesLeft) (r : Result CertValue (DecodeError E)) → ReadsAs same (IsSequence old.mode) old r new
    → ReadsAs same (IsCert old.mode) old r new
cert_reads old new (Ok c) g = record { tree = g.tree; is = sequence_cert g.tree c g.is; took = g.took }
cert_reads old new (Err e) l = weaker e cert_lacks l

pub cert_reads_opt : {E : Type 0} (old new : ValuesLeft) (r : Result (Option CertValue) (DecodeError E)) → ReadsOptAs same sequence_tag (IsSequence old.mode) old r new
    → ReadsOptAs same sequence_tag (IsCert old.mode) old r new
cert_reads_opt old new (Ok (Some c)) g = record { tree = g.tree; is = sequence_cert g.tree c g.is; took = g.took }
cert_reads_opt old new (Ok None) a = a
cert_reads_opt old new (Err e) l = weaker e (λ k. record { tagged = k.tagged; lacks = cert_lacks k.lacks; goes_on = k.goes_on; other = k.other }) l

-- By the octets.
took_cert : {old new : ValuesLeft} {c : CertValue} → TookOctets same SpellsSequence old c new → TookOctets same SpellsCert old c new
took_cert t = record {
  text = t.text;
  goes = t.goes;
  is = record { fields = t.is.is.fields; is = record { content = t.is.content; around = t.is.around; is = t.is.is.are }; says = t.is.is.says };
}

pub cert_octets : {E : Type 0} (old new : ValuesLeft) (r : Result CertValue (DecodeError E)) → IfOk r (λ c. TookOctets same SpellsSequence old c new)
    → IfOk r (λ c. TookOctets same SpellsCert old c new)
cert_octets old new (Ok c) t = took_cert t
cert_octets old new (Err e) t = tt

opt_cases : {F S E : Type 0} {rest : S → List ℕ} {g : Reader F (Constructed S) CertValue E} {op : F} (old new : ValuesLeft) (r : Result (Option CertValue) (DecodeError E))
    → EachTook rest g op same AreCertOctets → ClosureReadsOptCases rest g op old sequence_tag r new → IfOk r (λ found. IfSome found (λ c. TookOctets same SpellsCert old c new))
opt_cases old new (Ok (Some c)) each h = took_cert (inside_took {P = AreCertOctets} each h)
opt_cases old new (Ok None) each h = tt
opt_cases old new (Err e) each h = tt

pub cert_octets_opt : {F S E : Type 0} {rest : S → List ℕ} {g : Reader F (Constructed S) CertValue E} {op : F} {old new : ValuesLeft} {r : Result (Option CertValue) (DecodeError E)}
    → EachTook rest g op same AreCertOctets → ClosureReadsOpt rest g op old sequence_tag r new → IfOk r (λ found. IfSome found (λ c. TookOctets same SpellsCert old c new))
cert_octets_opt {old = old} {new} {r} each h = opt_cases old new r each h.cases
