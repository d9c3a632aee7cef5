-- The octets of a value that are kept, and the fields after them.
use Rattle.std.proofs.Common.{◌≡◌, Bool, [], ◌++◌, Result, Ok, Err, IfOk, refl, sym, ◌∙◌, subst}
use Rattle.certs_x509.specs.bcder_tree.declared.mode.Mode.{Mode}
use Rattle.certs_x509.specs.bcder_tree.Tree.{Spells}
use Rattle.certs_x509.specs.bcder_source.declared.error.DecodeError.{DecodeError}
use Rattle.certs_x509.specs.bcder_source.Views.{Reading}
use Rattle.certs_x509.specs.bcder_content.declared.constructed.Constructed.{Constructed}
use Rattle.certs_x509.specs.bcder_content.Captures.{Captures, CapturesCases}
use Rattle.certs_x509.specs.bcder_content.Contents.{ValuesLeft, Goes}
use Rattle.certs_x509.specs.bcder_content.Exact.{Gives, ReadsAs}
use Rattle.certs_x509.specs.bcder_content.Grammar.{Any, Exactly, OctetsOf}
use Rattle.certs_x509.specs.bcder_content.Kept.{CapturedValue}
use Rattle.certs_x509.specs.bcder_content.ClosureReads.{Reader}
use Rattle.certs_x509.proofs.of_bcder_content.Kept.{AnyEach, exact_one}
use Rattle.certs_x509.proofs.of_bcder_content.Taking.{weaker}
use Rattle.certs_x509.proofs.of_bcder_content.Took.{goes_both, goes_none}
use Rattle.certs_x509.specs.bcder_octets.Bits.{BitsValue}
use Rattle.certs_x509.specs.bcder_octets.BitContents.{IsBitString, bit_string_tag}
use Rattle.certs_x509.specs.bcder_values.KeptForms.{KeptIn}
use Rattle.certs_x509.proofs.of_bcder_values.KeptRead.{kept_in_lacks}
use Rattle.certs_x509.specs.certs_basics.Basics.{IsAlgorithm}
use Rattle.certs_x509.specs.Signed.{AreSignedOctets, OctetFields, kept_message}
use Rattle.certs_x509.specs.Took.{TookOctets}

message_cases : {E : Type 0} (v new : ValuesLeft) (r : Result CapturedValue (DecodeError E)) → IfOk r (λ c. c.mode ≡ v.mode)
    → ReadsAs (λ c. c.octets) (Exactly v.mode) v r new → ReadsAs kept_message (KeptIn (λ m. Any) v.mode) v r new
message_cases v new (Ok c) e h = record {
  tree = h.tree;
  is = record { mode = e; kept = record { spelled = h.is.spelled; is = record { any = tt } } };
  took = h.took;
}
message_cases v new (Err e) h l = weaker e (λ none. kept_in_lacks (λ m. Any) none) l

mode_of : {F D E : Type 0} (g : Reader F (Constructed Reading) (Unit {0}) D) (op : F) (v new : ValuesLeft) (r : Result CapturedValue (DecodeError E))
    → CapturesCases g op v r new → IfOk r (λ c. c.mode ≡ v.mode)
mode_of g op v new (Ok c) h = h.mode
mode_of g op v new (Err e) h = tt

-- The next value was captured.
pub message_reads : {F D E : Type 0} {g : Reader F (Constructed Reading) (Unit {0}) D} {op : F} {v new : ValuesLeft}
    {r : Result CapturedValue (DecodeError E)} → AnyEach g op → Captures g op v r new → ReadsAs kept_message (KeptIn (λ m. Any) v.mode) v r new
message_reads {g = g} {op} {v} {new} {r} each h = message_cases v new r (mode_of g op v new r h.cases) (exact_one each h)

goes_of : {F D E : Type 0} (g : Reader F (Constructed Reading) (Unit {0}) D) (op : F) (v new : ValuesLeft) (r : Result CapturedValue (DecodeError E))
    → CapturesCases g op v r new → IfOk r (λ c. Goes v c.octets new)
goes_of g op v new (Ok c) h = h.goes
goes_of g op v new (Err e) h = tt

-- What was captured are the very octets that were read.
pub message_goes : {F D E : Type 0} {g : Reader F (Constructed Reading) (Unit {0}) D} {op : F} {v new : ValuesLeft}
    {r : Result CapturedValue (DecodeError E)} → Captures g op v r new → IfOk r (λ c. Goes v c.octets new)
message_goes {g = g} {op} {v} {new} {r} h = goes_of g op v new r h.cases

-- The fields one after the other, by their octets.
pub fields_took : {A : Type 0} {f : A → OctetFields} {old a b new : ValuesLeft} {s : A} {c : CapturedValue} {x : Bool} {y : BitsValue}
    → f s ≡ ((c.octets, tt), (x, (y, tt))) → Goes old c.octets a → Gives (KeptIn (λ m. Any) old.mode) old (kept_message c) a
    → Gives IsAlgorithm a x b → Gives (OctetsOf bit_string_tag (IsBitString b.mode)) b y new → TookOctets f AreSignedOctets old s new
fields_took {f = f} {old} {a} {b} {new} {s} {c} {x} {y} e goes kept g h =
    let front : a.mode ≡ old.mode = goes.mode in
    let mid : b.mode ≡ old.mode = g.took.goes.mode ∙ front in
    let behind = h.took.text ++ [] in
    let text = c.octets ++ (g.took.text ++ behind) in
    let fields : AreSignedOctets old.mode text ((c.octets, tt), (x, (y, tt))) = record {
      first = c.octets;
      others = g.took.text ++ behind;
      whole = refl;
      is = record { same = refl; is = record { tree = kept.tree; is = record { any = tt }; spelled = kept.is.kept.spelled } };
      rest = record {
        first = g.took.text;
        others = behind;
        whole = refl;
        is = record { tree = g.tree; is = g.is; spelled = subst (λ (m : Mode). Spells m g.tree g.took.text) front g.took.spelled };
        rest = record {
          first = h.took.text;
          others = [];
          whole = refl;
          is = record {
            tree = h.tree;
            is = subst (λ (m : Mode). OctetsOf bit_string_tag (IsBitString m) h.tree y) mid h.is;
            spelled = subst (λ (m : Mode). Spells m h.tree h.took.text) mid h.took.spelled;
          };
          rest = record { none = refl };
        };
      };
    } in
    record {
      text = text;
      goes = goes_both goes (goes_both g.took.goes (goes_both h.took.goes (goes_none h.took.goes.behind)));
      is = subst (λ (z : OctetFields). AreSignedOctets old.mode text z) (sym e) fields;
    }
