-- Addresses of a family, one by one.
use Rattle.std.proofs.Common.{List, [], ◌∷◌}
use Rattle.std.specs.Prelude.{All}
use Rattle.std.proofs.lemmas.List.Elements.{All-cons, All-head, All-nil, All-tail}
use Rattle.objects.specs.objects_payload.Roas.{RoaAddress}
use Rattle.objects.specs.resources_ip_prefix.declared.addr.AddressFamily.{AddressFamily}
use Rattle.objects_payload.specs.Addresses.{AllOf, IsOf}

pub each_of : (family : AddressFamily) (xs : List RoaAddress) → All (IsOf family) xs → AllOf family xs
each_of family [] all = tt
each_of family (x ∷ xs) all = (All-head (IsOf family) x xs all, each_of family xs (All-tail (IsOf family) x xs all))

pub of_each : (family : AddressFamily) (xs : List RoaAddress) → AllOf family xs → All (IsOf family) xs
of_each family [] all = All-nil (IsOf family)
of_each family (x ∷ xs) all = All-cons (IsOf family) x xs all.0 (of_each family xs all.1)
