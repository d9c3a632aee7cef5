-- In DER a string is a primitive value, whose octets are those of the string (X.690 10.2).
use Rattle.std.proofs.Common.{◌≡◌, ℕ, List, Result, refl, sym, ap, ◌∙◌, subst}
use Rattle.bcder_octets.specs.bcder_tree.declared.mode.Mode.{Mode}
use Rattle.bcder_octets.specs.bcder_tree.declared.mode.Mode.TheVariants.{Der}
use Rattle.bcder_octets.specs.bcder_tree.Strings.{IsOctetString, octet_string_tag}
use Rattle.bcder_octets.specs.bcder_tree.Tree.{primitive}
use Rattle.bcder_octets.specs.bcder_source.declared.error.DecodeError.{DecodeError}
use Rattle.bcder_octets.specs.bcder_primitive.Values.{AnyOctets}
use Rattle.bcder_octets.specs.bcder_content.Contents.{ValuesLeft}
use Rattle.bcder_octets.specs.bcder_content.Exact.{Gives, Lacks, ReadsAs}
use Rattle.bcder_octets.specs.bcder_content.Grammar.{OctetsOf}

pub piece_given : {old new : ValuesLeft} {octets string : List ℕ} → string ≡ octets → Gives (OctetsOf octet_string_tag AnyOctets) old octets new → Gives (IsOctetString Der) old string new
piece_given {string = string} same g = record { tree = g.tree; is = g.is.whole ∙ ap (λ (z : List ℕ). primitive octet_string_tag z) (g.is.is.same ∙ sym same); took = g.took }

pub piece_lacks : {old : ValuesLeft} → Lacks (OctetsOf octet_string_tag AnyOctets) old → Lacks (IsOctetString Der) old
piece_lacks l = record { none = λ t octets p a. l.none t octets (record { content = octets; whole = p; is = record { same = refl } }) a }

-- A reader in DER, where that is the mode.
pub in_der : {E : Type 0} {m k : Mode} (old new : ValuesLeft) (r : Result (List ℕ) (DecodeError E)) → k ≡ m → k ≡ Der → ReadsAs (λ octets. octets) (IsOctetString Der) old r new → ReadsAs (λ octets. octets) (IsOctetString m) old r new
in_der old new r is der h = subst (λ (z : Mode). ReadsAs (λ octets. octets) (IsOctetString z) old r new) (sym der ∙ is) h
