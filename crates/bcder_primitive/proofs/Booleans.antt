-- The content octets of BOOLEANs (X.690 8.2, 11.1).
use Rattle.std.proofs.Common.{Bool, true, false, [], ◌∷◌, refl}
use Rattle.bcder_primitive.specs.bcder_tree.declared.mode.Mode.TheVariants.{Der}
use Rattle.bcder_primitive.specs.Values.{IsBoolean}
use Rattle.bcder_primitive.specs.Writing.{HasLength}

pub one_octet : (x : Bool) → HasLength (λ content. IsBoolean Der content x) 1
one_octet true = record { text = 255 ∷ []; is = record { octet = 255; whole = refl; truth = refl }; long = refl }
one_octet false = record { text = 0 ∷ []; is = record { octet = 0; whole = refl; truth = refl }; long = refl }
