-- A usage that is written is the BIT STRING of it.
use Rattle.std.proofs.Common.{◌≡◌, ◌∷◌, [], refl, sym, subst, arith}
use Rattle.certs_extension.specs.bcder_tree.declared.mode.Mode.{Mode}
use Rattle.certs_extension.specs.bcder_tree.declared.mode.Mode.TheVariants.{Ber, Cer, Der}
use Rattle.certs_extension.specs.bcder_octets.Bits.{BitsValue, IsBits}
use Rattle.certs_extension.specs.bcder_octets.BitContents.{IsBitString, IsPadded, IsShortIn}
use Rattle.certs_extension.specs.bcder_values.Plains.{plain_spelled}
use Rattle.certs_extension.specs.Extensions.{UsageBits}
use Rattle.certs_extension.specs.declared.forms.KeyUsage.{KeyUsage}
use Rattle.certs_extension.specs.declared.forms.KeyUsage.TheVariants.{Ca, Ee}
use Rattle.certs_extension.specs.Usages.{usage_octets}
use Rattle.certs_extension.proofs.of_bcder_values.Returning.{read_again}
use Rattle.certs_extension.proofs.laws.usage_is_read_again.Goals as goal

abbrev bits_of : KeyUsage → BitsValue
bits_of Ca = record { unused = 1; octets = 6 ∷ [] }
bits_of Ee = record { unused = 7; octets = 128 ∷ [] }

says : (u : KeyUsage) → UsageBits (bits_of u) u
says Ca = refl
says Ee = refl

lawful : (u : KeyUsage) → IsBits (bits_of u)
lawful Ca = record { few = omega arith; none = λ e. cc }
lawful Ee = record { few = omega arith; none = λ e. cc }

padded : (m : Mode) (u : KeyUsage) → IsPadded m (bits_of u)
padded Ber u = tt
padded Cer Ca = refl
padded Cer Ee = refl
padded Der Ca = refl
padded Der Ee = refl

short : (m : Mode) (u : KeyUsage) → IsShortIn m (usage_octets u)
short Ber u = tt
short Cer Ca = omega arith
short Cer Ee = omega arith
short Der u = tt

whole : (u : KeyUsage) → usage_octets u ≡ (bits_of u).unused ∷ (bits_of u).octets
whole Ca = refl
whole Ee = refl

is : (m : Mode) (u : KeyUsage) → IsBitString m (usage_octets u) (bits_of u)
is m u = record { whole = whole u; lawful = lawful u; padded = padded m u; short = short m u }

pub returns : goal.returns
returns c = λ u m text w.
    let p = plain_spelled m text w in
    read_again m text (record {
      trees = p.trees;
      is = record {
        first = _;
        others = _;
        whole = p.is.whole;
        is = record { x = bits_of u; is = record { content = p.is.content; whole = refl; is = subst (λ o. IsBitString m o (bits_of u)) (sym p.is.is.same) (is m u) }; means = says u };
        rest = record { ended = refl };
      };
      spelled = p.spelled;
    })
