use Rattle.objects_cms.proofs.of_bcder_content.Choices.{as_gives, as_lacks, stop_value}
use Rattle.objects_cms.specs.declared.attributes.kinds.Kind.TheVariants as kinds
use Rattle.objects_cms.specs.declared.attributes.said.Said.TheVariants.{MessageDigest, SigningTime, BinarySigningTime}
use Rattle.objects_cms.specs.Said.{as_type}
use Rattle.objects_cms.proofs.Single.{value_gives, value_stops}
use Rattle.objects_cms.proofs.attributes.said.take_value.Goals as goal

pub returns-in_err-oid-in-ContentType : goal.returns-in_err-oid-in-ContentType
returns-in_err-oid-in-ContentType g c = value_stops _ _ _ _ kinds.ContentType c.in-ContentType.is (stop_value _ _ _ _ c.from_residual.ensures (λ l. as_lacks as_type l) c.in_err-oid-in-ContentType.ensures.reads)

pub returns-in_ok-oid-in-ContentType : goal.returns-in_ok-oid-in-ContentType
returns-in_ok-oid-in-ContentType g c = value_gives _ kinds.ContentType c.in-ContentType.is (as_gives as_type c.in_ok-oid-in-ContentType.ensures.reads)

pub returns-in_err-digest-in-MessageDigest : goal.returns-in_err-digest-in-MessageDigest
returns-in_err-digest-in-MessageDigest g c = value_stops _ _ _ _ kinds.MessageDigest c.in-MessageDigest.is (stop_value _ _ _ _ c.from_residual-in_err-digest-in-MessageDigest.ensures (λ l. as_lacks MessageDigest l) c.in_err-digest-in-MessageDigest.ensures.reads)

pub returns-in_ok-digest-in-MessageDigest : goal.returns-in_ok-digest-in-MessageDigest
returns-in_ok-digest-in-MessageDigest g c = value_gives _ kinds.MessageDigest c.in-MessageDigest.is (as_gives MessageDigest c.in_ok-digest-in-MessageDigest.ensures.reads)

pub returns-in_err-time-in-SigningTime : goal.returns-in_err-time-in-SigningTime
returns-in_err-time-in-SigningTime g c = value_stops _ _ _ _ kinds.SigningTime c.in-SigningTime.is (stop_value _ _ _ _ c.from_residual-in_err-time-in-SigningTime.ensures (λ l. as_lacks SigningTime l) c.in_err-time-in-SigningTime.ensures.reads)

pub returns-in_ok-time-in-SigningTime : goal.returns-in_ok-time-in-SigningTime
returns-in_ok-time-in-SigningTime g c = value_gives _ kinds.SigningTime c.in-SigningTime.is (as_gives SigningTime c.in_ok-time-in-SigningTime.ensures.reads)

pub returns-in_err-seconds-in-BinarySigningTime : goal.returns-in_err-seconds-in-BinarySigningTime
returns-in_err-seconds-in-BinarySigningTime g c = value_stops _ _ _ _ kinds.BinarySigningTime c.in-BinarySigningTime.is (stop_value _ _ _ _ c.from_residual-in_err-seconds-in-BinarySigningTime.ensures (λ l. as_lacks BinarySigningTime l) c.in_err-seconds-in-BinarySigningTime.ensures.reads)

pub returns-in_ok-seconds-in-BinarySigningTime : goal.returns-in_ok-seconds-in-BinarySigningTime
returns-in_ok-seconds-in-BinarySigningTime g c = value_gives _ kinds.BinarySigningTime c.in-BinarySigningTime.is (as_gives BinarySigningTime c.in_ok-seconds-in-BinarySigningTime.ensures.reads)
