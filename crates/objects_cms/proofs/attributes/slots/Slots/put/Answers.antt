use Rattle.std.proofs.Common.{refl}
use Rattle.objects_cms.proofs.SlotLaws.{adds_as, adds_digest, adds_seconds, adds_time, adds_type, both_ok, refuses_as, refuses_digest, refuses_seconds, refuses_time, refuses_type, weaker_err}
use Rattle.objects_cms.proofs.attributes.slots.Slots.put.Goals as goal

pub returns-in-ContentType-clause-ok : goal.returns-in-ContentType-clause-ok
returns-in-ContentType-clause-ok c = both_ok _ (λ e f. adds_as c.in-ContentType.is (adds_type c.args.self.now _ _ (record { empty = e; filled = f }) refl refl refl)) c.fill.ensures.empty c.fill.ensures.filled

pub returns-in-ContentType-clause-refused : goal.returns-in-ContentType-clause-refused
returns-in-ContentType-clause-refused c = weaker_err _ (λ n. refuses_as c.in-ContentType.is (refuses_type c.args.self.now _ n)) c.fill.ensures.refused

pub returns-in-MessageDigest-clause-ok : goal.returns-in-MessageDigest-clause-ok
returns-in-MessageDigest-clause-ok c = both_ok _ (λ e f. adds_as c.in-MessageDigest.is (adds_digest c.args.self.now _ _ (record { empty = e; filled = f }) refl refl refl)) c.fill-in-MessageDigest.ensures.empty c.fill-in-MessageDigest.ensures.filled

pub returns-in-MessageDigest-clause-refused : goal.returns-in-MessageDigest-clause-refused
returns-in-MessageDigest-clause-refused c = weaker_err _ (λ n. refuses_as c.in-MessageDigest.is (refuses_digest c.args.self.now _ n)) c.fill-in-MessageDigest.ensures.refused

pub returns-in-SigningTime-clause-ok : goal.returns-in-SigningTime-clause-ok
returns-in-SigningTime-clause-ok c = both_ok _ (λ e f. adds_as c.in-SigningTime.is (adds_time c.args.self.now _ _ (record { empty = e; filled = f }) refl refl refl)) c.fill-in-SigningTime.ensures.empty c.fill-in-SigningTime.ensures.filled

pub returns-in-SigningTime-clause-refused : goal.returns-in-SigningTime-clause-refused
returns-in-SigningTime-clause-refused c = weaker_err _ (λ n. refuses_as c.in-SigningTime.is (refuses_time c.args.self.now _ n)) c.fill-in-SigningTime.ensures.refused

pub returns-in-BinarySigningTime-clause-ok : goal.returns-in-BinarySigningTime-clause-ok
returns-in-BinarySigningTime-clause-ok c = both_ok _ (λ e f. adds_as c.in-BinarySigningTime.is (adds_seconds c.args.self.now _ _ (record { empty = e; filled = f }) refl refl refl)) c.fill-in-BinarySigningTime.ensures.empty c.fill-in-BinarySigningTime.ensures.filled

pub returns-in-BinarySigningTime-clause-refused : goal.returns-in-BinarySigningTime-clause-refused
returns-in-BinarySigningTime-clause-refused c = weaker_err _ (λ n. refuses_as c.in-BinarySigningTime.is (refuses_seconds c.args.self.now _ n)) c.fill-in-BinarySigningTime.ensures.refused
