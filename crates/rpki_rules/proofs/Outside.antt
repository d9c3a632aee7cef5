-- Lines outside what is reached.
use Rattle.rpki_rules.specs.Outside.{OutsideStays}
use Rattle.rpki_rules.proofs.Cross.{non_interference}
use Rattle.rpki_rules.proofs.OneOutput.{in_other}

pub outside_stays : OutsideStays
outside_stays uris r w w' f text text' o o' =
    let same = non_interference uris r w w' f in
    record {
      origins = λ x n. (
        λ m. (o'.origins_are.exact x).1 (((same.0 x n).0) ((o.origins_are.exact x).0 m)),
        λ m. (o.origins_are.exact x).1 (((same.0 x n).1) ((o'.origins_are.exact x).0 m)),
      );
      customers = λ c n. (
        in_other w w' o.customers o'.customers o.customers_are o'.customers_are c (λ p. same.1 (record { customer = c.number; provider = p }) n),
        in_other w' w o'.customers o.customers o'.customers_are o.customers_are c (λ p. let s = same.1 (record { customer = c.number; provider = p }) n in (s.1, s.0)),
      );
    }
